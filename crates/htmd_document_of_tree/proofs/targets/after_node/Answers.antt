use Rattle.std.proofs.Common.{◌+◌, sym, ap, ◌∙◌}
use Rattle.std.proofs.lemmas.Result.{IfOk-weaker}
use Rattle.htmd_shown.specs.SimpleViews.{simple_of}
use Rattle.htmd_document_of_tree.proofs.SeenLemmas.{seen-inside, seen-leaf}
use Rattle.htmd_document_of_tree.proofs.targets.after_node.Goals as goal

pub returns-in-Some : goal.returns-in-Some
returns-in-Some c =
    let same = seen-leaf c.in-Some.shows (simple_of c.args.tree.now) (sym c.in-Some.ensures) in
    IfOk-weaker c.one_more.result _ _ (λ n e. e ∙ ap (λ k. c.args.seen + k) (sym same)) c.one_more.ensures

pub returns-in-None : goal.returns-in-None
returns-in-None c =
    let same = seen-inside (simple_of c.args.tree.now) (sym c.in-None.ensures) in
    c.requires ∙ ap (λ k. c.args.seen + k) (sym same)

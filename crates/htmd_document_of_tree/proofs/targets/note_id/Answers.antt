use Rattle.std.proofs.Common.{◌∙◌, ◌||◌, ◌&&◌, not, true, cond, ap, sym, string_bytes}
use Rattle.std.specs.Str.{bytes_eq}
use Rattle.htmd_document_of_tree.specs.TargetViews.{holds}
use Rattle.htmd_document_of_tree.proofs.TargetsLemmas.{held-after, held-more}
use Rattle.htmd_document_of_tree.proofs.targets.note_id.Goals as goal

pub returns : goal.returns
returns c = λ s.
    let old = c.args.ids.now in
    let value = string_bytes c.args.target.now.value in
    held-after c.as_str.result.now old c.insert.new.self true c.in_ok-insert.ensures.updates s
    ∙ (ap (λ k. cond (bytes_eq k s) true (holds old s)) c.as_str.ensures.value
    ∙ (held-more (bytes_eq value s) (holds old s)
    ∙ sym (ap (λ n. holds old s || (not n && bytes_eq value s)) c.if-target.false)))

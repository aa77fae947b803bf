use Rattle.std.proofs.Common.{◌≡◌, ◌∙◌, refl, sym, ap, false}
use Rattle.htmd_nodes.specs.NumberedTrees.{tree_of}
use Rattle.htmd_trimming.specs.Titles.{holds_h1}
use Rattle.htmd_trimming.proofs.PageLemmas.{titled-is}
use Rattle.htmd_trimming.proofs.titles.titled_page.Goals as goal

pub returns : goal.returns
returns c =
    let none_yet : holds_h1 (tree_of c.args.page 0) ≡ false =
    sym (ap (λ n. holds_h1 (tree_of c.args.page n)) c.root-root.ensures.value) ∙ sym c.holds_h1.ensures
    ∙ c.if-holds_h1.false in
    titled-is c.args.page c.root-root.result c.root-root.ensures.tree c.root-root.ensures.value c.args.title.now
    c.in_ok-out.out c.push_heading.new.out c.push_below.new.out c.root-under.result c.in_ok-out.ensures
    c.root-under.ensures.value c.in_ok-push_heading.ensures c.in_ok-push_below.ensures
    ∙ rw none_yet refl

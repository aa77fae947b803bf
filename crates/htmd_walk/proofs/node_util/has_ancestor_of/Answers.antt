use Rattle.std.proofs.Common.{List, ℕ, [], ◌∷◌, Bool, Some, sym, ◌∙◌, arith}
use Rattle.htmd_nodes.specs.Items.{data_at}
use Rattle.htmd_nodes.specs.Ancestors.{Ancestor}
use Rattle.htmd_walk.specs.ElementPlans.{is_tag_among}
use Rattle.htmd_walk.proofs.Nodes.{tag-held, any-root, any-hit, any-miss}
use Rattle.htmd_walk.proofs.node_util.has_ancestor_of.Goals as goal

pub returns-then-has_either_tag : goal.returns-then-has_either_tag
returns-then-has_either_tag c =
    let tags : List (List ℕ) = c.args.first.now ∷ c.args.second.now ∷ [] in
    let is : Ancestor → Bool = λ a. is_tag_among tags (Some a.tag) in
    let p = sym c.in-Some.ensures.value in
    let up = c.in-Some.ensures.tree.under c.loop-parent.at c.in-Some.parent c.loop-parent.invariant.within p in
    sym (sym c.loop-parent.invariant.same
    ∙ any-hit c.args.tree.now c.in-Some.ensures.tree is c.loop-parent.at c.in-Some.parent
    c.loop-parent.invariant.within p (sym (tag-held tags (data_at c.args.tree.now c.in-Some.parent) up.holds)
    ∙ sym c.has_either_tag.ensures ∙ c.if-has_either_tag.true))

pub loop-parent-preserved : goal.loop-parent-preserved
loop-parent-preserved c =
    let tags : List (List ℕ) = c.args.first.now ∷ c.args.second.now ∷ [] in
    let is : Ancestor → Bool = λ a. is_tag_among tags (Some a.tag) in
    let p = sym c.in-Some.ensures.value in
    let up = c.in-Some.ensures.tree.under c.loop-parent.at c.in-Some.parent c.loop-parent.invariant.within p in
    record {
      within = omega (arith, up.before);
      same = sym (any-miss c.args.tree.now c.in-Some.ensures.tree is c.loop-parent.at c.in-Some.parent
          c.loop-parent.invariant.within p (sym (tag-held tags (data_at c.args.tree.now c.in-Some.parent) up.holds)
          ∙ sym c.has_either_tag.ensures ∙ c.if-has_either_tag.false))
          ∙ c.loop-parent.invariant.same;
    }

pub returns : goal.returns
returns c =
    let is : Ancestor → Bool = λ a. is_tag_among (c.args.first.now ∷ c.args.second.now ∷ []) (Some a.tag) in
    sym (sym c.loop-parent.invariant.same
    ∙ any-root c.args.tree.now c.in_default.ensures.tree is c.loop-parent.at c.loop-parent.invariant.within
    (sym c.in_default.ensures.value))

pub has_either_tag-requires : goal.has_either_tag-requires
has_either_tag-requires c =
    let up = c.in-Some.ensures.tree.under c.loop-parent.at c.in-Some.parent c.loop-parent.invariant.within
    (sym c.in-Some.ensures.value) in
    omega (arith, up.before)

pub loop-parent-smaller : goal.loop-parent-smaller
loop-parent-smaller c = (c.in-Some.ensures.tree.under c.loop-parent.at c.in-Some.parent c.loop-parent.invariant.within
    (sym c.in-Some.ensures.value)).before

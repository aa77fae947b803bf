-- One more node that joins.
use Rattle.std.proofs.Common.{◌≡◌, ℕ, suc, ◌+◌, ◌<◌, List, ◌∷◌, length, get_or, drop, cond, true, sym, ap, ◌∙◌, arith}
use Rattle.std.proofs.lemmas.List.{drop_more, get_or_default}
use Rattle.htmd_nodes.specs.NumberedTrees.{NumberedTree, tree_of}
use Rattle.htmd_walk.specs.Groups.{group_length, is_joinable, both_join, joint_of}
use Rattle.htmd_walk.specs.Joints.{optional_joint}
use Rattle.htmd_walk.proofs.group.group_length.Goals as goal

joined : (tree : ℕ → NumberedTree) (ids : List ℕ) (last : ℕ) → last + 1 < length ids
    → is_joinable (tree (get_or ids last 0)) (tree (get_or ids (last + 1) 0)) ≡ true
    → last + group_length tree (drop last ids) ≡ last + 1 + group_length tree (drop (last + 1) ids)
joined tree ids last within join =
    let first = get_or ids last 0 in
    let second = get_or ids (last + 1) 0 in
    let rest = drop (last + 1 + 1) ids in
    let behind = drop_more ids (last + 1) 0 within in
    let longer : group_length tree (drop last ids) ≡ suc (group_length tree (drop (last + 1) ids)) =
    ap (group_length tree) (drop_more ids last 0 (omega arith) ∙ ap (λ l. first ∷ l) behind)
    ∙ ap (λ b. cond b (suc (group_length tree (second ∷ rest))) 1) join
    ∙ ap (λ l. suc (group_length tree l)) (sym behind) in
    omega (arith, longer)

pub loop-last-preserved : goal.loop-last-preserved
loop-last-preserved c =
    let tree = tree_of c.args.tree.now in
    let ids = c.args.ids.now in
    let last = c.loop-last.last in
    let here = c.loop-last.invariant in
    let second : c.index-ids-last.result ≡ get_or ids (last + 1) 0 =
    c.index-ids-last.is ∙ get_or_default ids (last + 1) c.index-ids-last.result 0 c.loop-last-test.true in
    let next = c.find_joint-next.ensures ∙ ap (λ id. joint_of (tree id)) second in
    let join = ap (λ j. both_join j (joint_of (tree (get_or ids (last + 1) 0)))) (sym here.joint)
    ∙ ap (both_join (optional_joint c.loop-last.joint)) (sym next)
    ∙ sym c.both_join.ensures ∙ c.if-not-both_join.false in
    record {
      within = c.loop-last-test.true;
      joint = next;
      rest = here.rest ∙ joined tree ids last c.loop-last-test.true join;
    }

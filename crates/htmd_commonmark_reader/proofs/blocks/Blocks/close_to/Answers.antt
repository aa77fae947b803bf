-- The leaf, and the containers behind it, if any end.
use Rattle.std.proofs.Common.{◌≡◌, length, ap, sym, subst, arith, rules}
use Rattle.std.proofs.lemmas.Result.{on_ok_weaker}
use Rattle.htmd_commonmark_reading.specs.Boxes.{closed, was_blank}
use Rattle.htmd_commonmark_reader.specs.OpenBlocks.{Closes, open_kinds, inner_leaf}
use Rattle.htmd_commonmark_reader.specs.OpenLeaves.{IsLeaf}
use Rattle.htmd_commonmark_reader.specs.declared.leaves.Leaf.TheVariants.{Nothing}
use Rattle.htmd_commonmark_reader.proofs.OpenBlocksLemmas.{refilled, shut, shut_here, held_count, no_kinds}
use Rattle.htmd_commonmark_reader.proofs.blocks.Blocks.close_to.Goals as goal

pub returns-then-depth-len : goal.returns-then-depth-len
returns-then-depth-len c =
    let old = c.args.self.now in
    let mid = c.close.new.self in
    let n = c.end_boxes.new.self in
    let taken : c.replace-leaf.result ≡ old.leaf = search rules in
    let left : c.replace-leaf.new.dest ≡ Nothing = search rules in
    let count : c.len.result ≡ length mid.boxes.kinds.items = search rules in
    on_ok_weaker c.end_boxes.result (λ e p done g o size h.
    let closes =
    subst (λ f. Closes (closed old.gap (inner_leaf o)) (was_blank old.gap (inner_leaf o)) (refilled old f) mid) left
    (c.in_ok-close.ensures (inner_leaf o) (subst (λ x. IsLeaf x (inner_leaf o)) (sym taken) h.inner)) in
    let same = ap (λ v. length v.kinds.items) closes.boxes in
    let all = held_count p done g o old h in
    shut p done g o c.args.depth old mid n size (omega (arith, c.if-depth-len.true, count, same, all, size)) h closes e)
    c.end_boxes.ensures

pub returns : goal.returns
returns c = λ p done g o size h.
    let old = c.args.self.now in
    let mid = c.close.new.self in
    let taken : c.replace-leaf.result ≡ old.leaf = search rules in
    let left : c.replace-leaf.new.dest ≡ Nothing = search rules in
    let count : c.len.result ≡ length mid.boxes.kinds.items = search rules in
    let closes =
    subst (λ f. Closes (closed old.gap (inner_leaf o)) (was_blank old.gap (inner_leaf o)) (refilled old f) mid) left
    (c.in_ok-close.ensures (inner_leaf o) (subst (λ x. IsLeaf x (inner_leaf o)) (sym taken) h.inner)) in
    let same = ap (λ v. length v.kinds.items) closes.boxes in
    let all = held_count p done g o old h in
    shut_here p done g o old mid
    (no_kinds (open_kinds o) (omega (arith, c.if-depth-len.false, count, same, all, size))) h closes

-- All containers take the line, or one doesn't.
use Rattle.std.proofs.Common.{◌≡◌, ◌∙◌, ◌&&◌, map, length, refl, ap, ap₂, sym, subst, arith, rules}
use Rattle.std.proofs.lemmas.Result.{on_ok_weaker}
use Rattle.htmd_commonmark_reading.specs.BlockStarts.{started}
use Rattle.htmd_commonmark_reading.specs.Containers.{after_container, fed, is_nothing, left, may_be_lazy}
use Rattle.htmd_commonmark_reader.specs.ClosedParts.{kind_of}
use Rattle.htmd_commonmark_reader.specs.LineViews.{line_of}
use Rattle.htmd_commonmark_reader.specs.OpenBlocks.{HoldsBox, nothing_before, open_kinds, inner_leaf, inner_none}
use Rattle.htmd_commonmark_reader.specs.OpenBlocks.{Passed, passed}
use Rattle.htmd_commonmark_reader.proofs.OpenBlocksLemmas.{walk, held_count, no_kinds}
use Rattle.htmd_commonmark_reader.proofs.blocks.Blocks.push_line.Goals as goal

pub returns-then-found-len : goal.returns-then-found-len
returns-then-found-len c =
    let l = line_of c.args.line in
    let old = c.args.self.now in
    let n = c.push_here.new.self in
    let count : c.len.result ≡ length old.boxes.kinds.items = search rules in
    let kinds : map kind_of c.deref.result.now ≡ map kind_of old.boxes.kinds.items = search rules in
    on_ok_weaker c.push_here.result (λ e b h.
    let o = b.inner in
    let w = walk nothing_before b.done b.gap o l in
    let flag = c.holds_nothing.ensures (inner_leaf o) h.inner ∙ ap (λ x. x && is_nothing (inner_leaf o)) h.none in
    let same : passed (map kind_of c.deref.result.now) c.holds_nothing.result l
    ≡ passed (open_kinds o) (inner_none b.done o && is_nothing (inner_leaf o)) l =
    ap₂ (λ ks f. passed ks f l) (kinds ∙ h.kinds) flag in
    let depth = c.take_line-found.ensures.depth ∙ ap (λ (x : Passed). x.count) same in
    let rest = c.take_line-found.ensures.rest ∙ ap (λ (x : Passed). x.rest) same in
    let all = held_count nothing_before b.done b.gap o old h in
    w.back n (subst (λ r. HoldsBox w.before (fed w.content w.gap w.inner r) n) rest
    (e w.before w.content w.gap w.inner
    (no_kinds (open_kinds w.inner) (omega (arith, w.size, depth, all, count, c.if-found-len.true)))
    (w.to old h)))) c.push_here.ensures

pub returns-else-found-len : goal.returns-else-found-len
returns-else-found-len c =
    let l = line_of c.args.line in
    let old = c.args.self.now in
    let n = c.push_left.new.self in
    let count : c.len.result ≡ length old.boxes.kinds.items = search rules in
    let kinds : map kind_of c.deref.result.now ≡ map kind_of old.boxes.kinds.items = search rules in
    on_ok_weaker c.push_left.result (λ e b h.
    let o = b.inner in
    let w = walk nothing_before b.done b.gap o l in
    let flag = c.holds_nothing.ensures (inner_leaf o) h.inner ∙ ap (λ x. x && is_nothing (inner_leaf o)) h.none in
    let same : passed (map kind_of c.deref.result.now) c.holds_nothing.result l
    ≡ passed (open_kinds o) (inner_none b.done o && is_nothing (inner_leaf o)) l =
    ap₂ (λ ks f. passed ks f l) (kinds ∙ h.kinds) flag in
    let depth = c.take_line-found.ensures.depth ∙ ap (λ (x : Passed). x.count) same in
    let rest = c.take_line-found.ensures.rest ∙ ap (λ (x : Passed). x.rest) same in
    let all = held_count nothing_before b.done b.gap o old h in
    let bound = c.take_line-found.ensures.bound in
    let size : length c.deref.result.now ≡ length old.boxes.kinds.items = search rules in
    let none : length nothing_before.kinds ≡ 0 = refl in
    w.back n (subst (λ x. HoldsBox w.before x n)
    (sym (w.stops (omega (arith, w.size, depth, all, count, bound, size, c.if-found-len.false))))
    (subst (λ r. HoldsBox w.before (left (may_be_lazy w.inner r) w.content w.gap w.inner r
    (started (after_container (may_be_lazy w.inner r)) r)) n) rest
    (e w.before w.content w.gap w.inner (omega (arith, w.depth, depth, none)) (w.to old h))))) c.push_left.ensures

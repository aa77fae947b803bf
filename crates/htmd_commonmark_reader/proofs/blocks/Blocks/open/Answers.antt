-- Container after container, and the leaf in the last one.
use Rattle.std.proofs.Common.{◌≡◌, ◌∙◌, ◌-◌, true, sym, subst, arith}
use Rattle.std.proofs.lemmas.Result.{on_ok_weaker}
use Rattle.htmd_commonmark_reading.specs.BlockStarts.{started, alone}
use Rattle.htmd_commonmark_reading.specs.Lines.{marks}
use Rattle.htmd_commonmark_reader.specs.BulletRuns.{is_mixed}
use Rattle.htmd_commonmark_reader.specs.ClosedParts.{kind_of}
use Rattle.htmd_commonmark_reader.specs.LineStarts.{start_of}
use Rattle.htmd_commonmark_reader.specs.LineViews.{line_of}
use Rattle.htmd_commonmark_reader.proofs.BulletRunsLemmas.{fewer_bullets}
use Rattle.htmd_commonmark_reader.proofs.OpenBlocksLemmas.{Reach, reach_more, reach_blank}
use Rattle.htmd_commonmark_reader.proofs.blocks.Blocks.open.Goals as goal

pub returns-then-is_blank : goal.returns-then-is_blank
returns-then-is_blank c = λ p done g h.
    let l = line_of c.args.line in
    let q = line_of c.loop-inner.rest in
    let r = line_of c.in-Some.inner.line in
    reach_blank p done g l (start_of l c.args.start) q (kind_of c.in-Some.inner.kind) r (start_of q c.loop-inner.next)
    (started alone r) c.loop-inner.self c.begin_box.new.self (c.loop-inner.invariant.reach p done g h)
    (c.in-Some.ensures.start q) (sym c.is_blank.ensures ∙ c.if-is_blank.true) c.in_ok-begin_box.ensures

pub loop-inner-preserved : goal.loop-inner-preserved
loop-inner-preserved c =
    let l = line_of c.args.line in
    let q = line_of c.loop-inner.rest in
    let r = line_of c.in-Some.inner.line in
    record {
      line = c.in-Some.ensures.held;
      held = c.nested_start-next.ensures.held;
      reach = λ p done g h.
          subst (λ u. Reach p done g l (start_of l c.args.start) r u c.begin_box.new.self)
          (sym c.nested_start-next.ensures.start)
          (reach_more p done g l (start_of l c.args.start) q (kind_of c.in-Some.inner.kind) r
          (start_of q c.loop-inner.next) (started alone r) c.loop-inner.self c.begin_box.new.self
          (c.loop-inner.invariant.reach p done g h) (c.in-Some.ensures.start q)
          (sym c.is_blank.ensures ∙ c.if-is_blank.false) c.in_ok-begin_box.ensures);
      known = λ k. (c.bullets_left-bullets.ensures k, c.nested_start-next.ensures.behind k);
    }

pub bullets_left-bullets-requires-clause-known : goal.bullets_left-bullets-requires-clause-known
bullets_left-bullets-requires-clause-known c = λ k.
    let n = c.loop-inner.bullets in
    let m = marks ((line_of c.loop-inner.rest).text) in
    let known = c.loop-inner.invariant.known (omega (arith, k)) in
    subst (λ x. is_mixed (n - 1) x ≡ true) (sym (c.in-Some.ensures.behind m known.1))
    (fewer_bullets n m k known.0)

pub returns : goal.returns
returns c =
    on_ok_weaker c.begin_leaf.result (λ e p done g h.
    let r = c.loop-inner.invariant.reach p done g h in
    r.back c.begin_leaf.new.self (e r.before r.content r.gap r.holds)) c.begin_leaf.ensures

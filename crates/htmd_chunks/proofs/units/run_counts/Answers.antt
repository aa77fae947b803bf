-- One more unit: the first one, one that fits, or one that begins a run.
use Rattle.std.proofs.Common.{◌≡◌, ◌+◌, ◌-◌, ◌<◌, ◌≤◌, ◌∷◌, [], ◌++◌, true, false}
use Rattle.std.proofs.Common.{drop, get_or}
use Rattle.std.proofs.Common.{map, sym, ap, ◌∙◌, arith}
use Rattle.std.specs.Prelude.{◌==◌}
use Rattle.std.proofs.lemmas.Bool.Decides.{nat_tests}
use Rattle.std.proofs.lemmas.List.{append_assoc, get_or_default}
use Rattle.std.proofs.lemmas.List.Sums.{sum_by_push}
use Rattle.htmd_chunks.specs.Runs.{is_none, runs_from}
use Rattle.htmd_chunks.specs.declared.units.Unit.{Unit}
use Rattle.htmd_chunks.proofs.UnitsLemmas.{taken_by, count_in, begun-none, taken-one, taken-more, none-pushed}
use Rattle.htmd_chunks.proofs.UnitsLemmas.{rest-first}
use Rattle.htmd_chunks.proofs.UnitsLemmas.{rest-fits, rest-begins}
use Rattle.htmd_chunks.proofs.units.run_counts.Goals.{then-i-eq0+in_ok-bytes}
use Rattle.htmd_chunks.proofs.units.run_counts.Goals.{else-i-eq0+in_ok-sum+then-branch-free+in_ok-count+in_ok-bytes-2}
use Rattle.htmd_chunks.proofs.units.run_counts.Goals.{else-i-eq0+in_ok-sum+else-branch-free+in_ok-push+in_ok-bytes-3}
use Rattle.htmd_chunks.proofs.units.run_counts.Goals as goal

pub loop-i-preserved : goal.loop-i-preserved
loop-i-preserved c =
    let room = c.args.room in
    let taken = taken_by room.always room.between in
    let units = c.args.units.now in
    let i = c.loop-i.i in
    let none : Unit = record { count = 0; bytes = 0 } in
    let u = get_or units i none in
    let begun = c.loop-i.invariant.begun in
    let was = c.loop-i.invariant in
    let rest = drop (i + 1) units in
    let counts = c.loop-i.counts.items in
    let here : u ≡ get_or units i u = get_or_default units i none u c.loop-i-test.true in
    let later : false ≡ ((i + 1) == 0) = sym (grind (arith, nat_tests)) in
    elim c.if-i-eq0.branch [
      | then-i-eq0+in_ok-bytes w ↦
          let first : (i == 0) ≡ true = grind (arith, nat_tests) in
          let empty : begun ≡ [] = begun-none begun (was.some ∙ first) in
          record {
            begun = u ∷ [];
            some = later;
            count = w.count-is ∙ omega arith;
            bytes = w.bytes-is ∙ w.in_ok-bytes.ensures ∙ sym (taken-one room.always room.between u);
            rest =
                ap (λ v. v.items ++ map count_in (runs_from taken room.most c.if-i-eq0.free (u ∷ []) rest))
                w.counts-is
                ∙ ap (λ k. counts ++ map count_in (runs_from taken room.most k (u ∷ []) rest)) w.free-is
                ∙ ap (λ l. counts ++ map count_in l)
                (sym (rest-first taken room.most c.loop-i.free begun units i u c.loop-i-test.true here empty))
                ∙ was.rest;
          }
      | else-i-eq0+in_ok-sum+then-branch-free+in_ok-count+in_ok-bytes-2 w ↦
          let later_one : (i == 0) ≡ false = grind (arith, nat_tests) in
          let some : is_none begun ≡ false = was.some ∙ later_one in
          let more = taken-more room.always room.between begun u some in
          let fits : taken (begun ++ u ∷ []) ≤ c.loop-i.free =
          omega (arith, more, was.bytes, w.in_ok-sum.ensures, w.if-branch-free.true, c.in_ok-with_gap.ensures) in
          record {
            begun = begun ++ u ∷ [];
            some = none-pushed begun u ∙ later;
            count =
                w.count-is ∙ w.in_ok-count.ensures ∙ ap (λ n. n + u.count) was.count
                ∙ sym (sum_by_push (λ (v : Unit). v.count) begun u);
            bytes =
                w.bytes-is ∙ w.in_ok-bytes-2.ensures
                ∙ omega (arith, more, was.bytes, c.in_ok-with_gap.ensures);
            rest =
                ap (λ v. v.items ++ map count_in (runs_from taken room.most c.if-i-eq0.free (begun ++ u ∷ []) rest))
                w.counts-is
                ∙ ap (λ k. counts ++ map count_in (runs_from taken room.most k (begun ++ u ∷ []) rest)) w.free-is
                ∙ ap (λ l. counts ++ map count_in l)
                (sym (rest-fits taken room.most c.loop-i.free begun units i u c.loop-i-test.true here some fits))
                ∙ was.rest;
          }
      | else-i-eq0+in_ok-sum+else-branch-free+in_ok-push+in_ok-bytes-3 w ↦
          let later_one : (i == 0) ≡ false = grind (arith, nat_tests) in
          let some : is_none begun ≡ false = was.some ∙ later_one in
          let more = taken-more room.always room.between begun u some in
          let full : c.loop-i.free < taken (begun ++ u ∷ []) =
          omega (arith, more, was.bytes, w.in_ok-sum.ensures, w.if-branch-free.false, c.in_ok-with_gap.ensures) in
          let apart = map count_in (runs_from taken room.most room.most (u ∷ []) rest) in
          record {
            begun = u ∷ [];
            some = later;
            count = w.count-is ∙ omega arith;
            bytes = w.bytes-is ∙ w.in_ok-bytes-3.ensures ∙ sym (taken-one room.always room.between u);
            rest =
                ap (λ v. v.items ++ map count_in (runs_from taken room.most c.if-i-eq0.free (u ∷ []) rest))
                w.counts-is
                ∙ ap (λ l. l ++ map count_in (runs_from taken room.most c.if-i-eq0.free (u ∷ []) rest))
                w.in_ok-push.ensures.items
                ∙ ap (λ k. (counts ++ c.loop-i.count ∷ [])
                ++ map count_in (runs_from taken room.most k (u ∷ []) rest))
                w.free-is
                ∙ append_assoc counts (c.loop-i.count ∷ []) apart
                ∙ ap (λ n. counts ++ n ∷ apart) was.count
                ∙ ap (λ l. counts ++ map count_in l)
                (sym (rest-begins taken room.most c.loop-i.free begun units i u c.loop-i-test.true here some full))
                ∙ was.rest;
          }
    ]

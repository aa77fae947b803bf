-- One more byte, which is the character or not.
use Rattle.std.proofs.Common.{◌≡◌, ◌+◌, ◌<◌, ◌≤◌, drop, length, max, sym, ap, ◌∙◌, refl, arith, get_or, true, false}
use Rattle.std.specs.Prelude.{◌==◌}
use Rattle.std.proofs.lemmas.Bool.Decides.{nat_tests}
use Rattle.htmd_markdown.proofs.RunsLemmas.{longest_with, longest_with-le, longest_with-none, longest_with-step}
use Rattle.htmd_markdown.proofs.RunsLemmas.{longest_with-end, longest_run-le-length}
use Rattle.htmd_markdown.proofs.runs.longest_of.Goals as goal
use Rattle.htmd_markdown.proofs.runs.longest_of.Goals.{then-b-character, else-b-character}

pub loop-b-init : goal.loop-b-init
loop-b-init c = record {
  least = omega arith;
  most = omega arith;
  value = omega (arith, longest_with-none c.args.character c.args.text.now);
}

pub loop-b-preserved : goal.loop-b-preserved
loop-b-preserved c =
    let s = c.args.text.now in
    let k = c.args.character in
    let i = c.loop-b.b-index in
    let run = c.loop-b.run in
    let same = c.as_bytes-b-items.ensures.value in
    let lt : i < length s = omega (arith, ap length same) in
    let was = c.loop-b.invariant in
    elim c.if-b-character.branch [
      | then-b-character w ↦
          let yes : (get_or s i 0 == k) ≡ true =
          ap (λ l. get_or l i 0 == k) (sym same) ∙ grind (arith, nat_tests) in
          let step : longest_with k run (drop i s) ≡ longest_with k (run + 1) (drop (i + 1) s) =
          longest_with-step k run s i lt ∙ rw yes refl in
          let more = longest_with-le k (run + 1) (drop (i + 1) s) in
          let new_run : c.if-b-character.run ≡ run + 1 = w.run-is in
          let new_longest : c.if-b-character.longest ≡ max c.loop-b.longest (run + 1) =
          omega (arith, w.longest-is, w.max-longest.ensures) in
          rw (new_longest, new_run) (record {
            least = omega arith;
            most = omega (arith, was.most);
            value = omega (arith, step, more, was.least, was.value);
          })
      | else-b-character w ↦
          let other : (get_or s i 0 == k) ≡ false =
          ap (λ l. get_or l i 0 == k) (sym same) ∙ grind (arith, nat_tests) in
          let step : longest_with k run (drop i s) ≡ max run (longest_with k 0 (drop (i + 1) s)) =
          longest_with-step k run s i lt ∙ rw other refl in
          let new_run : c.if-b-character.run ≡ 0 = w.run-is in
          let new_longest : c.if-b-character.longest ≡ c.loop-b.longest = w.longest-is in
          rw (new_longest, new_run) (record {
            least = omega arith;
            most = omega arith;
            value = omega (arith, step, was.least, was.value);
          })
    ]

pub returns-clause-value : goal.returns-clause-value
returns-clause-value c =
    let s = c.args.text.now in
    let end : length s ≤ c.loop-b.b-index =
    omega (arith, ap length c.as_bytes-b-items.ensures.value, c.loop-b-test.false) in
    omega (
      arith,
      longest_with-end c.args.character c.loop-b.run s c.loop-b.b-index end,
      c.loop-b.invariant.least,
      c.loop-b.invariant.value,
    )

pub returns-clause-bound : goal.returns-clause-bound
returns-clause-bound c = omega (arith, returns-clause-value c, longest_run-le-length c.args.character c.args.text.now)

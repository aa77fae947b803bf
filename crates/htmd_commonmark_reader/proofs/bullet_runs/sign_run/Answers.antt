-- Another sign, or one more.
use Rattle.std.proofs.Common.{◌≡◌, ◌∙◌, ◌+◌, ◌==◌, suc, true, false, get_or, ap, sym, add-zero, arith}
use Rattle.std.proofs.lemmas.Bool.Decides.{nat_tests}
use Rattle.std.proofs.lemmas.Grind.{common_steps}
use Rattle.htmd_commonmark_reading.specs.Lines.{marks}
use Rattle.htmd_commonmark_reader.specs.BulletRuns.{other_behind}
use Rattle.htmd_commonmark_reader.proofs.BulletRunsLemmas.{other_here, other_more}
use Rattle.htmd_commonmark_reader.proofs.bullet_runs.sign_run.Goals as goal

pub returns-then-byte-sign : goal.returns-then-byte-sign
returns-then-byte-sign c = λ k.
    let s = c.args.bytes.now in
    let sign = c.args.sign in
    let i = c.loop-byte.byte-index in
    let other : (get_or s i 0 == sign) ≡ false = grind (arith, common_steps, nat_tests, c.if-byte-sign.true) in
    ap (λ n. other_behind sign n (marks s)) (sym (add-zero c.loop-byte.count))
    ∙ c.loop-byte.invariant.same 0
    (other_here sign s i c.loop-byte-test.true (sym c.is_space_or_tab.ensures ∙ c.if-is_space_or_tab.false) other)

pub loop-byte-preserved : goal.loop-byte-preserved
loop-byte-preserved c =
    let s = c.args.bytes.now in
    let sign = c.args.sign in
    let i = c.loop-byte.byte-index in
    let same : (get_or s i 0 == sign) ≡ true = grind (arith, common_steps, nat_tests, c.if-byte-sign.false) in
    record {
      few = omega (arith, c.loop-byte.invariant.few);
      same = λ n h.
          let count : c.loop-byte.count + 1 + n ≡ c.loop-byte.count + suc n = omega arith in
          ap (λ k. other_behind sign k (marks s)) count
          ∙ c.loop-byte.invariant.same (suc n)
          (other_more sign n s i c.loop-byte-test.true (sym c.is_space_or_tab.ensures ∙ c.if-is_space_or_tab.false)
          same h);
    }

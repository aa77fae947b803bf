-- The first length that no run has, or the one after the longest.
use Rattle.std.proofs.Common.{◌≡◌, ◌+◌, ◌-◌, false, sym, ap, ◌∙◌, arith}
use Rattle.htmd_lexical.specs.Characters.{grave_accent}
use Rattle.htmd_markdown.specs.Runs.{longest_run, has_run}
use Rattle.htmd_markdown.specs.CodeSpans.{smallest_unused_len}
use Rattle.htmd_markdown.proofs.CodeSpansLemmas.{first_unused}
use Rattle.htmd_markdown.proofs.code_span.smallest_unused_len.Goals as goal

pub returns-then-not-has_run : goal.returns-then-not-has_run
returns-then-not-has_run c =
    let s = c.args.text.now in
    let place : 1 + (c.loop-len.len - 1) ≡ c.loop-len.len = omega arith in
    let here : has_run grave_accent c.loop-len.len s ≡ false = cc in
    sym place ∙ first_unused s (c.loop-len.len - 1) (omega (arith, c.longest_run-longest.ensures.value))
    (λ i low high. c.loop-len.invariant i low (omega arith))
    (λ _. ap (λ n. has_run grave_accent n s) place ∙ here)

pub returns : goal.returns
returns c =
    let s = c.args.text.now in
    let longest : c.longest_run-longest.result ≡ longest_run grave_accent s = c.longest_run-longest.ensures.value in
    let all : 1 + longest_run grave_accent s ≡ smallest_unused_len s =
    first_unused s (longest_run grave_accent s) (omega arith)
    (λ i low high. c.loop-len.invariant i low (omega arith))
    (λ lt. absurd (omega arith)) in
    omega arith

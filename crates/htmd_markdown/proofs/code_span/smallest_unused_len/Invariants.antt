-- Each length so far is a run's.
use Rattle.std.proofs.Common.{◌≡◌, ℕ, ◌≤◌, ◌<◌, true}
use Rattle.htmd_lexical.specs.Characters.{grave_accent}
use Rattle.htmd_markdown.specs.Runs.{has_run}
use Rattle.htmd_markdown.proofs.code_span.smallest_unused_len.Given as goal

abbrev pub invariant-loop-len : goal.invariant-loop-len
invariant-loop-len l = (k : ℕ) → 1 ≤ k → k < l.len → has_run grave_accent k l.text ≡ true

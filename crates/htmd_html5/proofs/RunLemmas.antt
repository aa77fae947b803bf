-- Where a text may be cut after a run.
use Rattle.std.proofs.Common.{◌≡◌, ℕ, ◌<◌, true, false, List, length, refl, arith}
use Rattle.std.proofs.lemmas.Bool.Decides.{nat_tests}
use Rattle.std.specs.Str.{IsUtf8, IsCharBoundary}
use Rattle.htmd_lexical.specs.CharacterClasses.{leading_run}
use Rattle.htmd_lexical.proofs.CharacterClassesLemmas.{white_is_ascii}
use Rattle.htmd_lexical.proofs.RunsLemmas.{behind_last}
use Rattle.htmd_html5_tokens.proofs.RunCuts.{cut_before_ascii}
use Rattle.htmd_html5.specs.Runs.{is_of_kind}
use Rattle.htmd_html5.specs.declared.tokens.RunKind.{RunKind}
use Rattle.htmd_html5.specs.declared.tokens.RunKind.TheVariants.{White, Nulls, Characters}

inside_nulls : (b : ℕ) → is_of_kind Nulls b ≡ true → b < 128
inside_nulls b e = grind (arith, nat_tests)

outside_characters : (b : ℕ) → is_of_kind Characters b ≡ false → b < 128
outside_characters b e = grind (arith, nat_tests)

pub run_cut : (kind : RunKind) (s : List ℕ) → IsUtf8 s
    → IsCharBoundary s (length (leading_run (is_of_kind kind) s))
run_cut White s u =
    behind_last (is_of_kind White) s (length (leading_run (is_of_kind White) s)) u white_is_ascii refl
run_cut Nulls s u = behind_last (is_of_kind Nulls) s (length (leading_run (is_of_kind Nulls) s)) u inside_nulls refl
run_cut Characters s u = cut_before_ascii (is_of_kind Characters) s outside_characters

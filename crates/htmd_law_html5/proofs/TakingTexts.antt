-- A text is its first run, and what stands after it.
use Rattle.std.proofs.Common.{◌≡◌, ◌∙◌, ℕ, ◌+◌, List, ap, subst}
use Rattle.std.specs.Prelude.{IsUtf8}
use Rattle.std.proofs.lemmas.Str.{IsUtf8-take, IsUtf8-drop}
use Rattle.htmd_lexical.proofs.LeadingRunsLemmas.{back_split}
use Rattle.htmd_lexical.proofs.RunsLemmas.{take_run, drop_run}
use Rattle.htmd_html5.specs.Runs.{is_of_kind, first_kind, first_run, after_first_run}
use Rattle.htmd_html5.proofs.RunLemmas.{run_cut}
use Rattle.htmd_law_html5.specs.PageLetters.{occurrences}
use Rattle.htmd_law_html5.proofs.TextsPut.{occurs_append}

pub record RunParts (c : ℕ) (s : List ℕ) : Type 0 where
  pub front : IsUtf8 (first_run s)
  pub rest : IsUtf8 (after_first_run s)
  pub count : occurrences c s ≡ occurrences c (first_run s) + occurrences c (after_first_run s)

pub run_parts : (c : ℕ) (s : List ℕ) → IsUtf8 s → RunParts c s
run_parts c s u = record {
  front = front;
  rest = subst IsUtf8 (drop_run (is_of_kind (first_kind s)) s) (IsUtf8-drop s _ u (run_cut (first_kind s) s u));
  count =
      ap (occurrences c) (back_split (is_of_kind (first_kind s)) s)
      ∙ occurs_append c (first_run s) (after_first_run s) front;
}
  where
    front : IsUtf8 (first_run s)
    front = subst IsUtf8 (take_run (is_of_kind (first_kind s)) s) (IsUtf8-take s _ u (run_cut (first_kind s) s u))

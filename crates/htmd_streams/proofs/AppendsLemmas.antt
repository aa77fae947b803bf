-- A text that is appended part by part.
use Rattle.std.proofs.Common.{◌≡◌, ℕ, ◌-◌, List, ◌++◌, Option, length, take, drop, sym, ap, ◌∙◌, append_assoc}
use Rattle.std.proofs.Common.{take-append-drop}
use Rattle.std.proofs.lemmas.List.{take_rest}
use Rattle.std.specs.Io.KnownBytes.{Appends}
use Rattle.std.proofs.KnownBytes.{Appends-trans}

-- all of the whole text but the rest was appended
pub record AppendsBut (before now : Option (List ℕ)) (whole rest : List ℕ) : Type 0 where
  pub part : List ℕ
  pub split : whole ≡ part ++ rest
  pub appended : Appends before now part

-- the next n bytes were appended too
pub AppendsBut-more : (a b c : Option (List ℕ)) (whole rest : List ℕ) (n : ℕ) → AppendsBut a b whole rest
    → Appends b c (take n rest) → AppendsBut a c whole (take (length rest - n) (drop n rest))
AppendsBut-more a b c whole rest n was more = record {
  part = was.part ++ take n rest;
  split =
      was.split ∙ ap (λ l. was.part ++ l) (sym (take-append-drop n rest))
      ∙ sym (append_assoc was.part (take n rest) (drop n rest))
      ∙ ap (λ l. (was.part ++ take n rest) ++ l) (sym (take_rest rest n));
  appended = Appends-trans a b c was.part (take n rest) was.appended more;
}

-- Names of elements in a table, and signs that stand somewhere in a text.
use Rattle.std.proofs.Common.{◌≡◌, ℕ, ◌+◌, ◌-◌, ◌<◌, Bool, true, false, List, ◌∷◌, length, take, drop, get_or, refl}
use Rattle.std.proofs.Common.{ap, sym, ◌∙◌, arith}
use Rattle.std.proofs.lemmas.List.{drop_more}
use Rattle.std.proofs.lemmas.Slice.{between_to_end}
use Rattle.std.specs.Borrow.{Bor}
use Rattle.std.specs.Str.{str_to_ascii_lowercase, str_eq_ignore_ascii_case}
use Rattle.htmd_html5_tokens.proofs.NamesLemmas.{no_text}
use Rattle.htmd_lexical.specs.CharacterClasses.{is_among, begins_in_any_case, holds_in_any_case}
use Rattle.htmd_commonmark_reader.specs.HtmlBlocks.{low_names}

module _ (names : List (Bor (List ℕ))) (name : List ℕ) (i : ℕ) (l : i < length names) (r : Bool)
    (e : r ≡ str_eq_ignore_ascii_case name (get_or names i no_text).now) where
  here : is_among (low_names (drop i names)) (str_to_ascii_lowercase name)
      ≡ is_among (low_names (get_or names i no_text ∷ drop (i + 1) names)) (str_to_ascii_lowercase name)
  here = ap (λ x. is_among (low_names x) (str_to_ascii_lowercase name)) (drop_more names i no_text l)

  pub name_next : r ≡ false
      → is_among (low_names (drop i names)) (str_to_ascii_lowercase name)
      ≡ is_among (low_names (drop (i + 1) names)) (str_to_ascii_lowercase name)
  name_next f = here ∙ (rw (sym e ∙ f) refl)

  pub name_found : r ≡ true → is_among (low_names (drop i names)) (str_to_ascii_lowercase name) ≡ true
  name_found f = here ∙ (rw (sym e ∙ f) refl)

pub holds_next : (signs s : List ℕ) (i : ℕ) (r : Bool) → i < length s
    → r ≡ begins_in_any_case signs (take (length s - i) (drop i s)) → r ≡ false
    → holds_in_any_case signs (drop i s) ≡ holds_in_any_case signs (drop (i + 1) s)
holds_next signs s i r l e f =
    let begins : begins_in_any_case signs (get_or s i 0 ∷ drop (i + 1) s) ≡ false =
    ap (begins_in_any_case signs) (sym (drop_more s i 0 l) ∙ sym (between_to_end s i (length s) (omega arith)))
    ∙ sym e ∙ f in
    ap (holds_in_any_case signs) (drop_more s i 0 l) ∙ (rw begins refl)

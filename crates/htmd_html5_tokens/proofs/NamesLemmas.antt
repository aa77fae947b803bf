-- Names in a table.
use Rattle.std.proofs.Common.{◌≡◌, ℕ, ◌+◌, ◌<◌, ◌==◌, ◌∙◌, arith, true, false, List, [], ◌∷◌, length, drop, get_or}
use Rattle.std.proofs.Common.{Option, None, Some, refl, sym, suc, take, zero}
use Rattle.std.proofs.lemmas.Bool.Decides.{nat_tests}
use Rattle.std.proofs.lemmas.List.{drop_more, drop_all, take_all}
use Rattle.std.proofs.lemmas.Str.Pattern.{IsSplitOnceResult, split_once_first}
use Rattle.std.specs.Borrow.{Bor}
use Rattle.std.specs.List.{position_or_len}
use Rattle.std.specs.Option.{unwrap_or}
use Rattle.std.specs.Str.{bytes_eq}
use Rattle.htmd_lexical.proofs.Cases.{test}
use Rattle.htmd_lexical.specs.Characters.{semicolon}
use Rattle.htmd_lexical.specs.CharacterClasses.{begins_with}
use Rattle.htmd_html5_tokens.specs.NamedReferences.{row_of, loan_rows, old_loan_row, old_loan_rows, named_in, first_in}

abbrev pub no_text : Bor (List ℕ)
no_text = record { ref_ptr = (0, 0); now = [] }

abbrev pub Row : Type 0
Row = Bor (List ℕ) × Bor (List ℕ)

abbrev pub no_row : Row
no_row = (no_text, no_text)

swapped : (b c : ℕ) → (c == b) ≡ true → (b == c) ≡ true
swapped b c e = grind (arith, nat_tests)

not_swapped : (b c : ℕ) → (c == b) ≡ false → (b == c) ≡ false
not_swapped b c e = grind (arith, nat_tests)

-- a name with which a text doesn't begin is no front of it
not_front : (n s : List ℕ) (k : ℕ) → begins_with n s ≡ false → bytes_eq n (take k s) ≡ false
not_front [] s k e = absurd (cc)
not_front (b ∷ n) s zero e = refl
not_front (b ∷ n) [] (suc k) e = refl
not_front (b ∷ n) (c ∷ s) (suc k) e =
    test (c == b) (λ t. rw (swapped b c t) (not_front n s k (rw t at e))) (λ t. rw (not_swapped b c t) refl)

pub not_its_name : (n s : List ℕ) → begins_with n s ≡ false → None ≡ named_in (row_of s ∷ []) n
not_its_name n s e = rw (not_front n s (position_or_len (λ b. b == semicolon) s) e) refl

-- where a row is split at its first `;`, if it has one, are its name and what it stands for
pub split_row : (s : List ℕ) (r : Option Row) (whole : Row)
    → IsSplitOnceResult semicolon s r → whole.0.now ≡ s → whole.1.now ≡ []
    → ((unwrap_or r whole).0.now ≡ (row_of s).name) × ((unwrap_or r whole).1.now ≡ (row_of s).characters)
split_row s None whole h e f =
    let at_end = split_once_first semicolon s None h (omega arith) in (
      e ∙ sym (take_all (position_or_len (λ b. b == semicolon) s) s (omega arith)),
      f ∙ sym (drop_all (position_or_len (λ b. b == semicolon) s + 1) s (omega arith)),
    )
split_row s (Some x) whole h e f =
    let q = split_once_first semicolon s (Some x) h (omega arith) in (q.1, q.2)

-- a name that is the row's, or isn't
pub its_name : (s n name characters : List ℕ)
    → (name ≡ (row_of s).name) × (characters ≡ (row_of s).characters)
    → bytes_eq n name ≡ true → Some characters ≡ named_in (row_of s ∷ []) n
its_name s n name characters p e = rw (sym p.0, e, p.1) refl

pub other_name : (s n name characters : List ℕ)
    → (name ≡ (row_of s).name) × (characters ≡ (row_of s).characters)
    → bytes_eq n name ≡ false → None ≡ named_in (row_of s ∷ []) n
other_name s n name characters p e = rw (sym p.0, e) refl

module _ (rows : List (Bor (List ℕ))) (n : List ℕ) (i : ℕ) (l : i < length rows) where
  abbrev row : List ℕ
  row = (get_or rows i no_text).now

  -- one more row that says nothing of the name
  pub name_more : None ≡ named_in (row_of row ∷ []) n
      → named_in (loan_rows (drop i rows)) n ≡ named_in (loan_rows (drop (i + 1) rows)) n
  name_more e = rw (drop_more rows i no_text l) (test (bytes_eq n (row_of row).name)
      (λ t. let f = rw t at e in absurd (cc)) (λ t. rw t refl))

  pub name_found : (characters : List ℕ) → Some characters ≡ named_in (row_of row ∷ []) n
      → named_in (loan_rows (drop i rows)) n ≡ Some characters
  name_found characters e = rw (drop_more rows i no_text l) (test (bytes_eq n (row_of row).name)
      (λ t. rw t (sym (rw t at e))) (λ t. let f = rw t at e in absurd (cc)))

module _ (rows : List Row) (n : List ℕ) (i : ℕ) (l : i < length rows) where
  -- one more name with which the text doesn't begin
  pub beginning_more : begins_with (get_or rows i no_row).0.now n ≡ false
      → first_in (old_loan_rows (drop i rows)) n ≡ first_in (old_loan_rows (drop (i + 1) rows)) n
  beginning_more e = rw (drop_more rows i no_row l) (rw e refl)

  pub beginning_found : begins_with (get_or rows i no_row).0.now n ≡ true
      → first_in (old_loan_rows (drop i rows)) n ≡ Some (old_loan_row (get_or rows i no_row))
  beginning_found e = rw (drop_more rows i no_row l) (rw e refl)

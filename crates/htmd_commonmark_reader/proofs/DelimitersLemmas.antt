-- Delimiter rows, cell by cell.
use Rattle.std.proofs.Common.{◌≡◌, ℕ, suc, ◌+◌, ◌≤◌, Bool, true, false, ◌&&◌, ◌||◌, List, [], ◌∷◌, ◌++◌, length, refl}
use Rattle.std.proofs.Common.{ap, sym}
use Rattle.std.proofs.Common.{◌∙◌, arith, append_assoc, Option, Some, None}
use Rattle.std.proofs.lemmas.Bool.{and_parts}
use Rattle.std.proofs.lemmas.Bool.Decides.{nat_tests}
use Rattle.std.proofs.lemmas.List.{reverse-append, reverse-reverse, length-reverse}
use Rattle.std.specs.List.{list_all}
use Rattle.std.specs.Prelude.{◌==◌, reverse}
use Rattle.htmd_document.specs.declared.document.Alignment.{Alignment}
use Rattle.htmd_lexical.proofs.Cases.{test}
use Rattle.htmd_lexical.proofs.RunsLemmas.{behind_within}
use Rattle.htmd_lexical.specs.CharacterClasses.{is_empty, first_is, behind_run}
use Rattle.htmd_commonmark_reading.specs.Characters.{is_space_or_tab, past_blanks, stripped}
use Rattle.htmd_commonmark_reading.specs.Tables.{with_bars, without_colon, is_hyphen, is_delimiter}
use Rattle.htmd_commonmark_reading.specs.Tables.{alignment_of, alignments_of, one_more_alignment, cell_texts}
use Rattle.htmd_commonmark_reading.specs.Tables.{cells, without_first_bar}
use Rattle.htmd_commonmark_reader.specs.Rows.{all_aligned, raw_cells}

-- ---- cells of hyphens

pub hyphens_alone : (s : List ℕ) → is_empty (behind_run is_hyphen s) ≡ list_all is_hyphen s
hyphens_alone [] = refl
hyphens_alone (c ∷ s) = test (c == 45) (λ e. rw e (hyphens_alone s)) (λ e. rw e refl)

abbrev is_plain : ℕ → Bool
is_plain c = (c == 45) || (c == 58)

plain_append : (s t : List ℕ) → list_all is_plain s ≡ true → list_all is_plain t ≡ true
    → list_all is_plain (s ++ t) ≡ true
plain_append [] t e f = f
plain_append (c ∷ s) t e f =
    let h = and_parts (is_plain c) (list_all is_plain s) e in
    rw (h.0, plain_append s t h.1 f) refl

plain_reverse : (s : List ℕ) → list_all is_plain s ≡ true → list_all is_plain (reverse s) ≡ true
plain_reverse [] e = refl
plain_reverse (c ∷ s) e =
    let h = and_parts (is_plain c) (list_all is_plain s) e in
    let one : list_all is_plain (c ∷ []) ≡ true = rw h.0 refl in
    ap (list_all is_plain) (reverse-append (c ∷ []) s)
    ∙ plain_append (reverse s) (c ∷ []) (plain_reverse s h.1) one

plain_colon : (s : List ℕ) → list_all is_plain (without_colon s) ≡ true → list_all is_plain s ≡ true
plain_colon [] e = refl
plain_colon (c ∷ s) e =
    test (c == 58)
    (λ q. let f : list_all is_plain s ≡ true = rw q at e in
    let plain : is_plain c ≡ true = colon_plain q in
    rw (plain, f) refl)
    (λ q. rw q at e)
  where
    colon_plain : (c == 58) ≡ true → is_plain c ≡ true
    colon_plain q = test (c == 45) (λ r. rw r refl) (λ r. rw (r, q) refl)

plain_hyphens : (s : List ℕ) → list_all is_hyphen s ≡ true → list_all is_plain s ≡ true
plain_hyphens [] e = refl
plain_hyphens (c ∷ s) e =
    let h = and_parts (c == 45) (list_all is_hyphen s) e in
    let plain : is_plain c ≡ true = rw h.0 refl in
    rw (plain, plain_hyphens s h.1) refl

delimiter_is_plain : (s : List ℕ) → is_delimiter s ≡ true → list_all is_plain s ≡ true
delimiter_is_plain s e =
    let inner = reverse (without_colon (reverse (without_colon s))) in
    let h = and_parts (first_is 45 inner) (is_empty (behind_run is_hyphen inner)) e in
    let plain = plain_hyphens inner (sym (hyphens_alone inner) ∙ h.1) in
    let back : list_all is_plain (without_colon (reverse (without_colon s))) ≡ true =
    ap (list_all is_plain) (sym (reverse-reverse (without_colon (reverse (without_colon s)))))
    ∙ plain_reverse inner plain in
    let front = plain_reverse (reverse (without_colon s)) (plain_colon (reverse (without_colon s)) back) in
    plain_colon s (ap (list_all is_plain) (sym (reverse-reverse (without_colon s))) ∙ front)

-- ---- no such cell has a bar

plain_bars : (s : List ℕ) → list_all is_plain (with_bars s) ≡ true → with_bars s ≡ s
plain_bars [] e = refl
plain_bars (c ∷ s) e =
    test ((c == 92) && first_is 124 s)
    (λ q. let f = rw q at e in
    absurd (bar s ((and_parts (c == 92) (first_is 124 s) q).1) f))
    (λ q. let f = rw q at e in
    let h = and_parts (is_plain c) (list_all is_plain (with_bars s)) f in
    rw q (ap (λ (t : List ℕ). c ∷ t) (plain_bars s h.1)))
  where
    bar : (t : List ℕ) → first_is 124 t ≡ true → list_all is_plain (with_bars t) ≡ true → ⊥
    bar [] e f = absurd (cc)
    bar (d ∷ t) e f =
        let other : (d == 92) ≡ false = grind (arith, nat_tests) in
        let g = rw other at f in
        let h = and_parts (is_plain d) (list_all is_plain (with_bars t)) g in
        let never : is_plain d ≡ false = grind (arith, nat_tests) in
        let no : true ≡ false = sym h.0 ∙ never in
        absurd (cc)

plain_same : (s : List ℕ) → list_all is_plain s ≡ true → with_bars s ≡ s
plain_same [] e = refl
plain_same (c ∷ s) e =
    let h = and_parts (is_plain c) (list_all is_plain s) e in
    let other : (c == 92) ≡ false = grind (arith, nat_tests) in
    rw other (ap (λ (t : List ℕ). c ∷ t) (plain_same s h.1))

pub delimiter_same : (s : List ℕ) → is_delimiter s ≡ true → with_bars s ≡ s
delimiter_same s e = plain_same s (delimiter_is_plain s e)

pub delimiter_never : (s : List ℕ) → is_delimiter s ≡ false → is_delimiter (with_bars s) ≡ false
delimiter_never s e =
    test (is_delimiter (with_bars s))
    (λ q. let same = plain_bars s (delimiter_is_plain (with_bars s) q) in
    ap is_delimiter same ∙ e)
    (λ q. q)

-- ---- rows

pub row_refused : (s : List ℕ) (cs : List (List ℕ)) → is_delimiter s ≡ false
    → alignments_of (with_bars s ∷ cs) ≡ None
row_refused s cs e = go (alignments_of cs)
  where
    go : (o : Option (List Alignment)) → one_more_alignment (with_bars s) o ≡ None
    go None = refl
    go (Some more) = rw (delimiter_never s e) refl

pub refused : (before : List Alignment) (o : Option (List Alignment)) → o ≡ None → all_aligned before o ≡ None
refused before o e = rw e refl

pub row_goes_on : (before : List Alignment) (s : List ℕ) (cs : List (List ℕ)) → is_delimiter s ≡ true
    → all_aligned before (alignments_of (with_bars s ∷ cs))
    ≡ all_aligned (before ++ alignment_of s ∷ []) (alignments_of cs)
row_goes_on before s cs e =
    ap (λ t. all_aligned before (one_more_alignment t (alignments_of cs))) (delimiter_same s e)
    ∙ go (alignments_of cs)
  where
    go : (o : Option (List Alignment)) → all_aligned before (one_more_alignment s o)
        ≡ all_aligned (before ++ alignment_of s ∷ []) o
    go None = refl
    go (Some more) =
        rw e (ap (λ (t : List Alignment). Some t) (sym (append_assoc before (alignment_of s ∷ []) more)))

pub cells_counted : (cs : List (List ℕ)) → length (cell_texts cs) ≡ length cs
cells_counted [] = refl
cells_counted (c ∷ cs) = omega (arith, cells_counted cs)

-- what a row is split from
stripped_within : (s : List ℕ) → length (stripped s) ≤ length s
stripped_within s =
    let inner = past_blanks s in
    let back = behind_within is_space_or_tab (reverse inner) in
    let front = behind_within is_space_or_tab s in
    omega (arith, length-reverse (behind_run is_space_or_tab (reverse inner)), back, length-reverse inner, front)

bar_within : (s : List ℕ) → length (without_first_bar s) ≤ length s
bar_within [] = omega arith
bar_within (c ∷ s) = test (c == 124) (λ e. rw e (omega arith)) (λ e. rw e (omega arith))

pub row_start : (s r : List ℕ) → r ≡ without_first_bar (stripped s)
    → (suc (length r) ≤ length s + 1) × (length (raw_cells true r) ≡ length (cells s))
row_start s r e = (
  omega (arith, ap length e, bar_within (stripped s), stripped_within s),
  ap (λ t. length (raw_cells true t)) e ∙ sym (cells_counted (raw_cells true (without_first_bar (stripped s)))),
)

module _ (before : List Alignment) (cell : List ℕ) (raws cs : List (List ℕ)) (e : raws ≡ cell ∷ cs) where
  pub delimiter_none : is_delimiter (stripped cell) ≡ false → all_aligned before (alignments_of (cell_texts raws))
      ≡ None
  delimiter_none f =
      refused before (alignments_of (cell_texts raws))
      (ap (λ c. alignments_of (cell_texts c)) e ∙ row_refused (stripped cell) (cell_texts cs) f)

  pub delimiter_more : (after : List Alignment) (a : Alignment) → is_delimiter (stripped cell) ≡ true
      → after ≡ before ++ a ∷ [] → a ≡ alignment_of (stripped cell)
      → all_aligned after (alignments_of (cell_texts cs)) ≡ all_aligned before (alignments_of (cell_texts raws))
  delimiter_more after a f g h =
      let same : after ≡ before ++ alignment_of (stripped cell) ∷ [] =
      g ∙ ap (λ (x : Alignment). before ++ x ∷ []) h in
      ap (λ x. all_aligned x (alignments_of (cell_texts cs))) same
      ∙ sym (row_goes_on before (stripped cell) (cell_texts cs) f)
      ∙ ap (λ c. all_aligned before (alignments_of (cell_texts c))) (sym e)

-- Backslashes stand where they are due in what the writer makes of a text.
use Rattle.std.proofs.Common.{◌≡◌, ◌∙◌, refl, ap, sym, ℕ, zero, suc, ◌+◌, ◌-◌, Bool, true, false, List, [], ◌∷◌, ◌++◌}
use Rattle.std.proofs.Common.{Option, Some, None, codes, arith, subst, inl, inr}
use Rattle.std.specs.Prelude.{not, ◌&&◌, ◌||◌, ◌==◌, if◌then◌else◌, length, slice_get, slice_index, take, drop, nat_le}
use Rattle.std.specs.Option.{option_or}
use Rattle.std.specs.List.{prefix_len, suffix_len}
use Rattle.std.specs.Char.{is_ascii_punctuation, is_ascii_digit}
use Rattle.std.proofs.lemmas.Bool.{eqb-true, eq-eqb, ne_eqb, and_parts, or_parts, or_cases}
use Rattle.std.proofs.lemmas.List.{append_assoc, get_or_at, drop_at, take_at, length-append, reverse-append}
use Rattle.std.proofs.lemmas.List.{take-append-le}
use Rattle.htmd_lexical.specs.Characters.{is_one_of}
use Rattle.htmd_lexical.specs.CharacterClasses.{is_empty}
use Rattle.htmd_text.specs.EscapedPlaces.{is_place}
use Rattle.htmd_text.specs.Trims.{trimmed_start, trimmed_end}
use Rattle.htmd_commonmark.specs.declared.text_escape.Place.{Place}
use Rattle.htmd_commonmark.specs.References.{is_reference}
use Rattle.htmd_commonmark.specs.LineMarks.{line_mark, number_mark, begins_block, ends_marker}
use Rattle.htmd_commonmark.specs.TextEscapes.{may_be_escaped, may_be_in_tag, is_bracket, is_inline_mark, is_marked}
use Rattle.htmd_commonmark.specs.TextEscapes.{is_of_word, character_before, character_after, is_underscore}
use Rattle.htmd_commonmark_reading.specs.Brackets.{kind, Kind}
use Rattle.htmd_law_inlines.proofs.TextPieces.{test, is_slash, is_angle, is_and, is_mark, is_closing, is_grave}
use Rattle.htmd_law_inlines.proofs.TextPieces.{is_opening, is_sign, underscores}
use Rattle.htmd_law_inlines.proofs.TextRead.{needs_none, AreDue, AreAll}
use Rattle.htmd_law_inlines.proofs.ReferencePieces.{one_of}

-- ---- a place of a text

pub index_at : (pre t : List ℕ) (c : ℕ) → slice_index (pre ++ (c ∷ t)) (length pre) ≡ c
index_at pre t c = get_or_at pre c t 0 (length pre) refl

get_at : (pre t : List ℕ) → slice_get (pre ++ t) (length pre) ≡ slice_get t 0
get_at [] t = refl
get_at (x ∷ pre) t = get_at pre t

pub length_one : (pre : List ℕ) (c : ℕ) → length (pre ++ (c ∷ [])) ≡ length pre + 1
length_one [] c = refl
length_one (x ∷ pre) c = let e = length_one pre c in omega arith

get_after : (pre t : List ℕ) (c : ℕ) → slice_get (pre ++ (c ∷ t)) (length pre + 1) ≡ slice_get t 0
get_after pre t c =
    ap (λ l. slice_get l (length pre + 1)) (sym (append_assoc pre (c ∷ []) t))
    ∙ ap (slice_get ((pre ++ (c ∷ [])) ++ t)) (sym (length_one pre c)) ∙ get_at (pre ++ (c ∷ [])) t

pub drop_after : (pre t : List ℕ) (c : ℕ) → drop (length pre + 1) (pre ++ (c ∷ t)) ≡ t
drop_after pre t c =
    ap (drop (length pre + 1)) (sym (append_assoc pre (c ∷ []) t))
    ∙ drop_at (pre ++ (c ∷ [])) t (length pre + 1) (length_one pre c)

is_last_at : (pre t : List ℕ) (c : ℕ) → (length pre + 1 == length (pre ++ (c ∷ t))) ≡ is_empty t
is_last_at pre [] c = eq-eqb _ _ (sym (length_one pre c))
is_last_at pre (d ∷ t) c = ne_eqb _ _ (λ e. let x = length-append pre (c ∷ d ∷ t) in absurd (omega arith))

is_first_at : (pre : List ℕ) → (length pre == 0) ≡ is_empty pre
is_first_at [] = refl
is_first_at (x ∷ pre) = ne_eqb _ _ (λ e. absurd (omega arith))

-- what is an inline mark between these
abbrev pub mark_at : Place → List ℕ → ℕ → List ℕ → Bool
mark_at place pre c t =
    is_one_of (codes "`*[~") c
    || ((c == 93) && place.in_brackets)
    || ((c == 92) && may_be_escaped (option_or (slice_get t 0) place.after))
    || ((c == 95) && not (is_of_word (character_before place pre) && is_of_word (character_after place (c ∷ t))))
    || ((c == 60) && may_be_in_tag (option_or (slice_get t 0) place.after))
    || ((c == 38) && is_reference t)
    || ((c == 33) && is_empty t && is_bracket place.after)
    || (is_one_of (codes "^") c && is_empty pre && is_bracket place.before)

pub inline_at : (place : Place) (pre t : List ℕ) (c : ℕ)
    → is_inline_mark place (pre ++ (c ∷ t)) (length pre) ≡ mark_at place pre c t
inline_at place pre t c =
    rw (
      index_at pre t c,
      get_after pre t c,
      drop_after pre t c,
      is_last_at pre t c,
      is_first_at pre,
      take_at pre (c ∷ t) (length pre) refl,
      drop_at pre (c ∷ t) (length pre) refl,
    ) refl

-- only these characters are marks
pub mark_is : (place : Place) (pre t : List ℕ) (c : ℕ) → mark_at place pre c t ≡ true
    → is_one_of (codes "`*[~]\\_<&!^") c ≡ true
mark_is place pre t c h =
    test (c == 96) (λ e. rw (eqb-true c 96 e) refl)
    (λ n0. test (c == 42) (λ e. rw (eqb-true c 42 e) refl)
    (λ n1. test (c == 91) (λ e. rw (eqb-true c 91 e) refl)
    (λ n2. test (c == 126) (λ e. rw (eqb-true c 126 e) refl)
    (λ n3. test (c == 93) (λ e. rw (eqb-true c 93 e) refl)
    (λ n4. test (c == 92) (λ e. rw (eqb-true c 92 e) refl)
    (λ n5. test (c == 95) (λ e. rw (eqb-true c 95 e) refl)
    (λ n6. test (c == 60) (λ e. rw (eqb-true c 60 e) refl)
    (λ n7. test (c == 38) (λ e. rw (eqb-true c 38 e) refl)
    (λ n8. test (c == 33) (λ e. rw (eqb-true c 33 e) refl)
    (λ n9. test (c == 94) (λ e. rw (eqb-true c 94 e) refl)
    (λ n10. let x : false ≡ true = rw (n0, n1, n2, n3, n4, n5, n6, n7, n8, n9, n10) at h in absurd (cc))))))))))))

-- ---- a character that is no mark

due_at : (place : Place) (pre t : List ℕ) (c : ℕ) (x : Kind) → kind c ≡ x → (c == 95) ≡ false
    → mark_at place pre c t ≡ false → needs_none x place t ≡ true
due_at place pre t c Kind.blank e u h = refl
due_at place pre t c Kind.line_end e u h = refl
due_at place pre t c Kind.slash e u h =
    test (may_be_escaped (option_or (slice_get t 0) place.after))
    (λ y. let z : true ≡ false = rw (is_slash c e, y) at h in absurd (cc)) (λ y. rw y refl)
due_at place pre t c Kind.grave e u h = let z : true ≡ false = rw (is_grave c e) at h in absurd (cc)
due_at place pre t c Kind.sign e u h =
    test (c == 42) (λ y. let z : true ≡ false = rw (eqb-true c 42 y) at h in absurd (cc))
    (λ y. test (c == 126) (λ y'. let z : true ≡ false = rw (eqb-true c 126 y') at h in absurd (cc))
    (λ y'. let z : false ≡ true = rw (y, u, y') at (is_sign c e) in absurd (cc)))
due_at place pre t c Kind.angle_bracket e u h =
    test (may_be_in_tag (option_or (slice_get t 0) place.after))
    (λ y. let z : true ≡ false = rw (is_angle c e, y) at h in absurd (cc)) (λ y. rw y refl)
due_at place pre t c Kind.and_sign e u h =
    test (is_reference t)
    (λ y. let z : true ≡ false = rw (is_and c e, y) at h in absurd (cc)) (λ y. rw y refl)
due_at place pre t c Kind.exclamation e u h =
    test (is_empty t && is_bracket place.after)
    (λ y. let z : true ≡ false = rw (is_mark c e, y) at h in absurd (cc)) (λ y. rw y refl)
due_at place pre t c Kind.opening e u h = let z : true ≡ false = rw (is_opening c e) at h in absurd (cc)
due_at place pre t c Kind.closing e u h =
    test place.in_brackets
    (λ y. let z : true ≡ false = rw (is_closing c e, y) at h in absurd (cc)) (λ y. rw y refl)
due_at place pre t c Kind.other e u h = refl

-- ---- the character that would make a block

block_mark : (c : ℕ) (s : List ℕ) (after : Option ℕ) → begins_block c s after ≡ true
    → is_one_of (codes "=>|-+:#.)") c ≡ true
block_mark c s after h =
    test (c == 61) (λ e. rw (eqb-true c 61 e) refl)
    (λ n0. test (c == 62) (λ e. rw (eqb-true c 62 e) refl)
    (λ n1. test (c == 124) (λ e. rw (eqb-true c 124 e) refl)
    (λ n2. test (c == 45) (λ e. rw (eqb-true c 45 e) refl)
    (λ n3. test (c == 43) (λ e. rw (eqb-true c 43 e) refl)
    (λ n4. test (c == 58) (λ e. rw (eqb-true c 58 e) refl)
    (λ n5. test (c == 35) (λ e. rw (eqb-true c 35 e) refl)
    (λ n6. let x : false ≡ true = rw (n0, n1, n2, n3, n4, n5, n6) at h in absurd (cc))))))))

placed_if : (q : Bool) (n k : ℕ) → is_place (if q then Some n else None) k ≡ true → (q ≡ true) × (k ≡ n)
placed_if true n k h = (refl, eqb-true k n h)
placed_if false n k h = absurd (cc)

number_place : (a b d : Bool) (x : List ℕ) (n k : ℕ)
    → is_place (if a && b && is_one_of (codes ".)") (slice_index x n) && d then Some n else None) k ≡ true
    → is_one_of (codes ".)") (slice_index x k) ≡ true
number_place a b d x n k h =
    let p = placed_if (a && b && is_one_of (codes ".)") (slice_index x n) && d) n k h in
    let q = (and_parts (a && b && is_one_of (codes ".)") (slice_index x n)) d p.0).0 in
    rw p.1 ((and_parts (a && b) (is_one_of (codes ".)") (slice_index x n)) q).1)

pub line_mark_is : (s : List ℕ) (after : Option ℕ) (k : ℕ) → is_place (line_mark s after) k ≡ true
    → is_one_of (codes "=>|-+:#.)") (slice_index s k) ≡ true
line_mark_is [] after k h = absurd (cc)
line_mark_is (b ∷ s) after k h =
    test (begins_block b s after)
    (λ e. let y : (k == 0) ≡ true = rw e at h in
    subst (λ n. is_one_of (codes "=>|-+:#.)") (slice_index (b ∷ s) n) ≡ true) (sym (eqb-true k 0 y))
    (block_mark b s after e))
    (λ e. let digits = prefix_len is_ascii_digit (b ∷ s) in
    let y : is_place (number_mark (b ∷ s) after) k ≡ true = rw e at h in
    one_of (λ x. is_one_of (codes "=>|-+:#.)") x) (codes ".)") (slice_index (b ∷ s) k)
    (number_place (nat_le 1 digits) (nat_le digits 9) (ends_marker (drop (digits + 1) (b ∷ s)) after) (b ∷ s)
    digits k y)
    refl)

-- ---- all places

-- whether the row of underscores around a place stands in a word
abbrev pub is_row_in_word : Place → List ℕ → List ℕ → Bool
is_row_in_word place pre t = is_of_word (character_before place pre) && is_of_word (character_after place t)

-- the places of the text that get a backslash: marks all do, and others only if they may
pub record MarksAll (place : Place) (whole : List ℕ) (marked : ℕ → Bool) : Type 0 where
  pub punctuation : (pre t : List ℕ) (c : ℕ) → whole ≡ pre ++ (c ∷ t) → marked (length pre) ≡ true
      → is_ascii_punctuation c ≡ true
  pub none_left : (pre t : List ℕ) (c : ℕ) → whole ≡ pre ++ (c ∷ t) → marked (length pre) ≡ false
      → mark_at place pre c t ≡ false
  pub rows : (pre t : List ℕ) → whole ≡ pre ++ (95 ∷ t)
      → marked (length pre) ≡ not (is_row_in_word place pre (95 ∷ t))

or_false : (x y : Bool) → y ≡ false → (x || y) ≡ x
or_false true y h = refl
or_false false y h = h

no_line_mark : (s : List ℕ) (after : Option ℕ) (b : Bool) (k : ℕ) → slice_index s k ≡ 95
    → (b && is_place (line_mark s after) k) ≡ false
no_line_mark s after false k e = refl
no_line_mark s after true k e =
    test (is_place (line_mark s after) k)
    (λ h. let x : false ≡ true = rw e at (line_mark_is s after k h) in absurd (cc)) (λ h. h)

row_mark : (place : Place) (pre t : List ℕ) → mark_at place pre 95 t
    ≡ not (is_row_in_word place pre (95 ∷ t))
row_mark place pre t =
    test (is_row_in_word place pre (95 ∷ t)) (λ e. rw e refl) (λ e. rw e refl)

pub marks_all : (place : Place) (whole : List ℕ) → MarksAll place whole (is_marked place whole)
marks_all place whole = record {
  punctuation = λ pre t c e h.
      elim (or_cases (is_inline_mark place whole (length pre))
      (place.begins_line && is_place (line_mark whole place.after) (length pre)) h)
      as (λ x. is_ascii_punctuation c ≡ true) [
        | inl x ↦ one_of is_ascii_punctuation (codes "`*[~]\\_<&!^") c
            (mark_is place pre t c (sym (inline_at place pre t c)
            ∙ ap (λ l. is_inline_mark place l (length pre)) (sym e) ∙ x)) refl
        | inr x ↦ one_of is_ascii_punctuation (codes "=>|-+:#.)") c
            (subst (λ d. is_one_of (codes "=>|-+:#.)") d ≡ true)
            (ap (λ l. slice_index l (length pre)) e ∙ index_at pre t c)
            (line_mark_is whole place.after (length pre)
            (and_parts place.begins_line (is_place (line_mark whole place.after) (length pre)) x).1)) refl
      ];
  none_left = λ pre t c e h.
      sym (inline_at place pre t c) ∙ ap (λ l. is_inline_mark place l (length pre)) (sym e)
      ∙ (or_parts (is_inline_mark place whole (length pre))
      (place.begins_line && is_place (line_mark whole place.after) (length pre)) h).0;
  rows = λ pre t e.
      or_false (is_inline_mark place whole (length pre))
      (place.begins_line && is_place (line_mark whole place.after) (length pre))
      (no_line_mark whole place.after place.begins_line (length pre)
      (ap (λ l. slice_index l (length pre)) e ∙ index_at pre t 95))
      ∙ ap (λ l. is_inline_mark place l (length pre)) e ∙ inline_at place pre t 95 ∙ row_mark place pre t;
}

pub are_due : (place : Place) (whole : List ℕ) (marked : ℕ → Bool) → MarksAll place whole marked
    → (pre t : List ℕ) (k : ℕ) → whole ≡ pre ++ t → length pre ≡ k → AreDue place marked k t
are_due place whole marked m pre [] k e n = tt
are_due place whole marked m pre (c ∷ t) k e n = (
  λ h. m.punctuation pre t c e (ap marked n ∙ h),
  λ u h. due_at place pre t c (kind c) refl u (m.none_left pre t c e (ap marked n ∙ h)),
  are_due place whole marked m (pre ++ (c ∷ [])) t (suc k) (e ∙ sym (append_assoc pre (c ∷ []) t))
      (let l = length_one pre c in omega arith),
)

-- ---- rows have backslashes as a whole

trimmed_one : (pre : List ℕ) → trimmed_end is_underscore (pre ++ (95 ∷ [])) ≡ trimmed_end is_underscore pre
trimmed_one pre =
    let n = suffix_len is_underscore pre in
    let a : suffix_len is_underscore (pre ++ (95 ∷ [])) ≡ 1 + n =
    ap (prefix_len is_underscore) (reverse-append pre (95 ∷ [])) in
    let l = length_one pre 95 in
    let b : length (pre ++ (95 ∷ [])) - suffix_len is_underscore (pre ++ (95 ∷ []))
    ≡ length pre - n = omega arith in
    ap (λ i. take i (pre ++ (95 ∷ []))) b ∙ take-append-le (length pre - n) pre (95 ∷ []) (omega arith)

pub trimmed_start_one : (t : List ℕ) → trimmed_start is_underscore (95 ∷ t) ≡ trimmed_start is_underscore t
trimmed_start_one t =
    let e : 1 + prefix_len is_underscore t ≡ suc (prefix_len is_underscore t) = omega arith in
    ap (λ n. drop n (95 ∷ t)) e

next_in_row : (place : Place) (pre t : List ℕ)
    → is_row_in_word place pre (95 ∷ 95 ∷ t) ≡ is_row_in_word place (pre ++ (95 ∷ [])) (95 ∷ t)
next_in_row place pre t =
    rw (trimmed_one pre, trimmed_start_one (95 ∷ t)) refl

pub row_is_whole : (place : Place) (whole : List ℕ) (marked : ℕ → Bool) → MarksAll place whole marked
    → (n : ℕ) (pre t : List ℕ) (k : ℕ) (b : Bool) → whole ≡ pre ++ (underscores (suc n) ++ t)
    → length pre ≡ k → marked k ≡ b
    → AreAll b marked k (suc n)
row_is_whole place whole marked m zero pre t k b e n h = (h, tt)
row_is_whole place whole marked m (suc i) pre t k b e n h = (
  h,
  row_is_whole place whole marked m i (pre ++ (95 ∷ [])) t (suc k) b
      (e ∙ sym (append_assoc pre (95 ∷ []) (underscores (suc i) ++ t)))
      (let l = length_one pre 95 in omega arith)
      (ap marked (let l = length_one pre 95 in let x : suc k ≡ length (pre ++ (95 ∷ [])) = omega arith in x)
      ∙ m.rows (pre ++ (95 ∷ [])) (underscores i ++ t)
      (e ∙ sym (append_assoc pre (95 ∷ []) (underscores (suc i) ++ t)))
      ∙ ap not (sym (next_in_row place pre (underscores i ++ t)))
      ∙ sym (m.rows pre (underscores (suc i) ++ t) e) ∙ ap marked n ∙ h),
)

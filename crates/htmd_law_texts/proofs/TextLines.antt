-- A text that begins a line: the line is one of a paragraph, whatever character is first.
use Rattle.std.proofs.Common.{◌≡◌, ◌∙◌, refl, ap, sym, subst, ℕ, zero, suc, ◌+◌, Bool, true, false, List, [], ◌∷◌, ◌++◌}
use Rattle.std.proofs.Common.{Option, Some, codes, arith, inl, inr}
use Rattle.std.specs.Prelude.{length, drop, ◌==◌, ◌&&◌, ◌||◌, nat_le, slice_index}
use Rattle.std.specs.List.{list_all, prefix_len}
use Rattle.std.specs.Char.{is_ascii_digit}
use Rattle.std.proofs.lemmas.Bool.{and_parts, and_cases, and_right, le-leb, or_parts, or_right, eq-eqb}
use Rattle.htmd_lexical.specs.Characters.{is_one_of}
use Rattle.htmd_lexical.specs.CharacterClasses.{first_is, behind_run}
use Rattle.htmd_text.specs.EscapedPlaces.{with_backslashes, is_place}
use Rattle.htmd_commonmark.specs.declared.text_escape.Place.{Place}
use Rattle.htmd_commonmark.specs.LineMarks.{line_mark, number_mark, begins_block, ends_marker, is_bullet, is_dashes}
use Rattle.htmd_commonmark.specs.LineMarks.{is_heading_marker}
use Rattle.htmd_commonmark.specs.TextEscapes.{is_inline_mark, is_marked}
use Rattle.htmd_commonmark_reading.specs.BlockStarts.{After, no_start, no_sign, sign, digit}
use Rattle.htmd_commonmark_reading.specs.BlockStarts.{is_empty_or_blank, heading_start, heading_with}
use Rattle.htmd_commonmark_reading.specs.BlockStarts.{digits, delimiter}
use Rattle.htmd_commonmark_reading.specs.BlockStarts as starts
use Rattle.htmd_document.specs.NormalInlines as normal
use Rattle.htmd_law_inlines.proofs.TextPieces.{test, differs}
use Rattle.htmd_law_inlines.proofs.TextMarks.{index_at, drop_after}
use Rattle.htmd_law_texts.proofs.LineStarts.{IsLead, Both, both_by, black_start, start_by}
use Rattle.htmd_law_texts.proofs.TextStarts.{IsNext, next_not, marker_goes_on, digit_unmarked, sign_unmarked, Run}
use Rattle.htmd_law_texts.proofs.TextStarts.{run_of}

-- ---- what follows in the line

pub all_drop : (p : ℕ → Bool) (n : ℕ) (s : List ℕ) → list_all p s ≡ true → list_all p (drop n s) ≡ true
all_drop p zero s h = h
all_drop p (suc n) [] h = refl
all_drop p (suc n) (c ∷ s) h = all_drop p n s (and_parts (p c) (list_all p s) h).1

-- a text that begins no block, by each test of its own
pub record BeginsNone (b : ℕ) (s : List ℕ) (after : Option ℕ) : Type 0 where
  pub no_sign : is_one_of (codes "=>|") b ≡ false
  pub no_bullet : is_bullet b s after ≡ false
  pub no_dashes : is_dashes b s ≡ false
  pub no_colon : ((b == 58) && first_is 45 s) ≡ false
  pub no_heading : is_heading_marker (b ∷ s) after ≡ false

pub begins_none : (b : ℕ) (s : List ℕ) (after : Option ℕ) → begins_block b s after ≡ false
    → BeginsNone b s after
begins_none b s after h =
    let x0 = is_one_of (codes "=>|") b in
    let x1 = is_bullet b s after in
    let x2 = is_dashes b s in
    let x3 = (b == 58) && first_is 45 s in
    let h4 = or_parts (x0 || x1 || x2 || x3) (is_heading_marker (b ∷ s) after) h in
    let h3 = or_parts (x0 || x1 || x2) x3 h4.0 in
    let h2 = or_parts (x0 || x1) x2 h3.0 in
    let h1 = or_parts x0 x1 h2.0 in
    record { no_sign = h1.0; no_bullet = h1.1; no_dashes = h2.1; no_colon = h3.1; no_heading = h4.1 }

-- ---- number signs

heading_none : (after : Option ℕ) (marked : ℕ → Bool) (t m : List ℕ) → IsNext after m
    → list_all normal.is_line_byte (35 ∷ t) ≡ true → is_heading_marker (35 ∷ t) after ≡ false
    → (r : Run starts.is_number_sign marked (35 ∷ t) (35 ∷ t) m 0)
    → heading_start (with_backslashes marked 0 (35 ∷ t) ++ m) ≡ no_start
heading_none after marked t m n p h r =
    let s = with_backslashes marked 0 (35 ∷ t) ++ m in
    let k = prefix_len starts.is_number_sign (35 ∷ t) in
    let v = drop k (35 ∷ t) in
    let plain : list_all normal.is_line_byte v ≡ true = all_drop normal.is_line_byte k (35 ∷ t) p in
    let some : nat_le 1 k ≡ true = le-leb 1 k (omega arith) in
    let end : (nat_le k 6 && ends_marker v after) ≡ false = rw some at h in
    ap (λ j. heading_with j (behind_run starts.is_number_sign s)) r.run_len ∙ ap (heading_with k) r.rest
    ∙ elim (and_cases (nat_le k 6) (ends_marker v after) end) as (λ x.
    heading_with k (with_backslashes marked (length r.front) v ++ m) ≡ no_start) [
      | inl e ↦ rw e refl
      | inr e ↦
          let x = with_backslashes marked (length r.front) v ++ m in
          rw (and_right (nat_le k 6) (is_empty_or_blank x)
          (marker_goes_on after marked (length r.front) v m n plain e)) refl
    ]

pub sign_line : (place : Place) (t m : List ℕ) → IsNext place.after m
    → list_all normal.is_line_byte (35 ∷ t) ≡ true → begins_block 35 t place.after ≡ false
    → Both (with_backslashes (is_marked place (35 ∷ t)) 0 (35 ∷ t) ++ m)
sign_line place t m n p b =
    let marked = is_marked place (35 ∷ t) in
    let u = with_backslashes marked 1 t ++ m in
    let no : marked 0 ≡ false = sign_unmarked place t [] t 35 b refl refl in
    let w : with_backslashes marked 0 (35 ∷ t) ++ m ≡ 35 ∷ u = rw no refl in
    let h : is_heading_marker (35 ∷ t) place.after ≡ false = (begins_none 35 t place.after b).no_heading in
    let r = run_of starts.is_number_sign marked (35 ∷ t) m
    (next_not starts.is_number_sign place.after m refl n) refl
    (λ pre t' c e x. sign_unmarked place t pre t' c b e x) [] (35 ∷ t) 0 refl refl in
    let none = heading_none place.after marked t m n p h r in
    let lead : IsLead 35 =
    record { black = refl; no_hyphen = refl; no_colon = refl; no_bar = refl; no_equals = refl } in
    subst Both (sym w)
    (both_by 35 u lead refl (λ a k. black_start a k 35 u refl ∙ ap heading_start (sym w) ∙ none))

-- ---- numbers

behind_digits : (s : List ℕ) → drop (suc (length (digits s))) s ≡ drop 1 (behind_run is_ascii_digit s)
behind_digits [] = refl
behind_digits (c ∷ s) =
    test (is_ascii_digit c) (λ e. rw e (behind_digits s)) (λ e. rw e refl)

-- what stands after the digits of a line makes no item of it
number_none : (a : After) (k b : ℕ) (s : List ℕ) → is_ascii_digit b ≡ true
    → (nat_le (length (digits (b ∷ s))) 9 && is_one_of (codes ".)") (delimiter (b ∷ s))
    && is_empty_or_blank (drop 1 (behind_run is_ascii_digit (b ∷ s)))) ≡ false
    → start_by digit a k b s ≡ no_start
number_none a k b s d h =
    let n = length (digits (b ∷ s)) in
    test (nat_le n 9 && is_one_of (codes ".)") (delimiter (b ∷ s)))
    (λ e. let x : is_empty_or_blank (drop 1 (behind_run is_ascii_digit (b ∷ s))) ≡ false = rw e at h in
    let y : is_empty_or_blank (drop (suc n) (b ∷ s)) ≡ false = ap is_empty_or_blank (behind_digits (b ∷ s))
    ∙ x in
    rw (e, y) refl)
    (λ e. rw e refl)

digit_sign : (b : ℕ) → is_ascii_digit b ≡ true → sign b ≡ digit
digit_sign b d =
    rw (
      differs is_ascii_digit b 62 d refl,
      differs is_ascii_digit b 35 d refl,
      differs is_ascii_digit b 96 d refl,
      differs is_ascii_digit b 126 d refl,
      differs is_ascii_digit b 60 d refl,
      differs is_ascii_digit b 95 d refl,
      differs is_ascii_digit b 42 d refl,
      differs is_ascii_digit b 45 d refl,
      differs is_ascii_digit b 43 d refl,
      d,
    ) refl

digit_lead : (b : ℕ) → is_ascii_digit b ≡ true → IsLead b
digit_lead b d = record {
  black = rw (differs is_ascii_digit b 32 d refl, differs is_ascii_digit b 9 d refl) refl;
  no_hyphen = differs is_ascii_digit b 45 d refl;
  no_colon = differs is_ascii_digit b 58 d refl;
  no_bar = differs is_ascii_digit b 124 d refl;
  no_equals = differs is_ascii_digit b 61 d refl;
}

-- the first of a text or 0
abbrev first_or : List ℕ → ℕ
first_or [] = 0
first_or (c ∷ s) = c

delimiter_is : (s : List ℕ) → delimiter s ≡ first_or (behind_run is_ascii_digit s)
delimiter_is s = go (behind_run is_ascii_digit s) refl
  where
    go : (r : List ℕ) → behind_run is_ascii_digit s ≡ r → delimiter s ≡ first_or (behind_run is_ascii_digit s)
    go [] e = rw e refl
    go (c ∷ r) e = rw e refl

and_all : (x y z : Bool) → (x ≡ true → y ≡ true → z ≡ false) → (x && y && z) ≡ false
and_all true true z h = h refl refl
and_all true false z h = refl
and_all false y z h = refl

-- where the backslash isn't, the digits and what follows them are no marker
number_ends : (place : Place) (b : ℕ) (t m front v : List ℕ) → is_ascii_digit b ≡ true → IsNext place.after m
    → list_all normal.is_line_byte (b ∷ t) ≡ true → begins_block b t place.after ≡ false → place.begins_line
    ≡ true
    → b ∷ t ≡ front ++ v → length front ≡ prefix_len is_ascii_digit (b ∷ t)
    → list_all normal.is_line_byte v ≡ true
    → (nat_le (prefix_len is_ascii_digit (b ∷ t)) 9
    && is_one_of (codes ".)") (first_or (with_backslashes (is_marked place (b ∷ t)) (length front) v ++ m))
    && is_empty_or_blank (drop 1 (with_backslashes (is_marked place (b ∷ t)) (length front) v ++ m)))
    ≡ false
number_ends place b t m front [] d n p q bl e l pv =
    and_all (nat_le (prefix_len is_ascii_digit (b ∷ t)) 9) (is_one_of (codes ".)") (first_or m))
    (is_empty_or_blank (drop 1 m))
    (λ x y. let z : is_one_of (codes ".)") (first_or m) ≡ false = no_point place.after m n in
    let w : true ≡ false = sym y ∙ z in absurd (cc))
  where
    no_point : (after : Option ℕ) (m : List ℕ) → IsNext after m → is_one_of (codes ".)") (first_or m) ≡ false
    no_point after [] n = refl
    no_point after (h ∷ m) n = next_not (is_one_of (codes ".)")) after (h ∷ m) refl n
number_ends place b t m front (c ∷ v) d n p q bl e l pv =
    let marked = is_marked place (b ∷ t) in
    let k = length front in
    let x0 = nat_le (prefix_len is_ascii_digit (b ∷ t)) 9 in
    let line = with_backslashes marked k (c ∷ v) ++ m in
    test (marked k)
    (λ x. and_all x0 (is_one_of (codes ".)") (first_or line)) (is_empty_or_blank (drop 1 line))
    (λ y z. let w : is_one_of (codes ".)") 92 ≡ true = rw x at z in absurd (cc)))
    (λ x. and_all x0 (is_one_of (codes ".)") (first_or line)) (is_empty_or_blank (drop 1 line))
    (λ y z. let w : is_one_of (codes ".)") c ≡ true = rw x at z in
    rw x (marker_goes_on place.after marked (suc k) v m n
    (and_parts (normal.is_line_byte c) (list_all normal.is_line_byte v) pv).1
    (test (ends_marker v place.after)
    (λ f. let some : nat_le 1 (prefix_len is_ascii_digit (b ∷ t)) ≡ true =
    rw d (le-leb 1 (1 + prefix_len is_ascii_digit t) (omega arith)) in
    let there : is_one_of (codes ".)") (slice_index (b ∷ t) (prefix_len is_ascii_digit (b ∷ t))) ≡ true =
    ap (λ j. is_one_of (codes ".)") (slice_index (b ∷ t) j)) (sym l)
    ∙ ap (λ y. is_one_of (codes ".)") (slice_index y k)) e ∙ ap (is_one_of (codes ".)")) (index_at front v c)
    ∙ w in
    let ends : ends_marker (drop (prefix_len is_ascii_digit (b ∷ t) + 1) (b ∷ t)) place.after ≡ true =
    ap (λ j. ends_marker (drop (j + 1) (b ∷ t)) place.after) (sym l)
    ∙ ap (λ y. ends_marker (drop (k + 1) y) place.after) e
    ∙ ap (λ y. ends_marker y place.after) (drop_after front v c) ∙ f in
    let mark : number_mark (b ∷ t) place.after ≡ Some (prefix_len is_ascii_digit (b ∷ t)) =
    rw (some, y, there, ends) refl in
    let here : is_place (line_mark (b ∷ t) place.after) k ≡ true =
    rw (q, mark) (rw l (eq-eqb (prefix_len is_ascii_digit (b ∷ t)) _ refl)) in
    let both : (place.begins_line && is_place (line_mark (b ∷ t) place.after) k) ≡ true = rw (bl, here) refl in
    let all : marked k ≡ true = or_right (is_inline_mark place (b ∷ t) k) _ both in
    absurd (cc))
    (λ f. f)))))

pub digit_line : (place : Place) (b : ℕ) (t m : List ℕ) → is_ascii_digit b ≡ true → IsNext place.after m
    → list_all normal.is_line_byte (b ∷ t) ≡ true → begins_block b t place.after ≡ false → place.begins_line
    ≡ true
    → Both (with_backslashes (is_marked place (b ∷ t)) 0 (b ∷ t) ++ m)
digit_line place b t m d n p q bl =
    let marked = is_marked place (b ∷ t) in
    let u = with_backslashes marked 1 t ++ m in
    let no : marked 0 ≡ false = digit_unmarked place (b ∷ t) [] t b refl d in
    let w : with_backslashes marked 0 (b ∷ t) ++ m ≡ b ∷ u = rw no refl in
    let r = run_of is_ascii_digit marked (b ∷ t) m (next_not is_ascii_digit place.after m refl n) refl
    (λ pre t' c e x. digit_unmarked place (b ∷ t) pre t' c e x) [] (b ∷ t) 0 refl refl in
    let j = prefix_len is_ascii_digit (b ∷ t) in
    let v = drop j (b ∷ t) in
    let len : length r.front ≡ j = r.place ∙ (let z : 0 + j ≡ j = omega arith in z) in
    let x = with_backslashes marked (length r.front) v ++ m in
    let run : length (digits (b ∷ u)) ≡ j = ap (λ y. length (digits y)) (sym w) ∙ r.run_len in
    let rest : behind_run is_ascii_digit (b ∷ u) ≡ x = ap (behind_run is_ascii_digit) (sym w) ∙ r.rest in
    let ends = number_ends place b t m r.front v d n p q bl r.whole_is len (all_drop normal.is_line_byte j (b ∷ t) p)
    in
    let none : (nat_le (length (digits (b ∷ u))) 9 && is_one_of (codes ".)") (delimiter (b ∷ u))
    && is_empty_or_blank (drop 1 (behind_run is_ascii_digit (b ∷ u)))) ≡ false =
    ap (λ i. nat_le i 9 && is_one_of (codes ".)") (delimiter (b ∷ u))
    && is_empty_or_blank (drop 1 (behind_run is_ascii_digit (b ∷ u)))) run
    ∙ ap (λ i. nat_le j 9 && is_one_of (codes ".)") i && is_empty_or_blank
    (drop 1 (behind_run is_ascii_digit (b ∷ u))))
    (delimiter_is (b ∷ u))
    ∙ ap (λ y. nat_le j 9 && is_one_of (codes ".)") (first_or y) && is_empty_or_blank (drop 1 y)) rest ∙ ends in
    subst Both (sym w)
    (both_by b u (digit_lead b d) (differs is_ascii_digit b 42 d refl)
    (λ a k. black_start a k b u (digit_lead b d).black ∙ ap (λ y. start_by y a k b u) (digit_sign b d)
    ∙ number_none a k b u d none))

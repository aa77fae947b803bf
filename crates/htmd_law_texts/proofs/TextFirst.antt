-- Any text that begins a line: the line is one of a paragraph.
use Rattle.std.proofs.Common.{◌≡◌, ◌∙◌, refl, ap, sym, subst, ℕ, suc, Bool, true, false, List, [], ◌∷◌, ◌++◌, Some}
use Rattle.std.proofs.Common.{None, codes, append_assoc, arith}
use Rattle.std.specs.Prelude.{length, ◌==◌, ◌&&◌, ◌||◌, slice_get, reverse}
use Rattle.std.specs.Option.{option_or}
use Rattle.std.specs.List.{list_all}
use Rattle.std.specs.Char.{is_ascii_digit}
use Rattle.std.proofs.lemmas.Bool.{and_parts, or_parts, eqb-true, not-false}
use Rattle.std.proofs.lemmas.Str.{chars-nil}
use Rattle.htmd_lexical.specs.Characters.{is_one_of}
use Rattle.htmd_lexical.specs.CharacterClasses.{first_is}
use Rattle.htmd_text.specs.EscapedPlaces.{with_backslashes, is_place}
use Rattle.htmd_commonmark.specs.declared.text_escape.Place.{Place}
use Rattle.htmd_commonmark.specs.LineMarks.{line_mark, begins_block}
use Rattle.htmd_commonmark.specs.TextEscapes.{may_be_escaped, may_be_in_tag, is_inline_mark, is_marked, is_of_word}
use Rattle.htmd_commonmark.specs.TextEscapes.{character_before, escaped}
use Rattle.htmd_commonmark_reading.specs.Characters.{is_space_or_tab, stripped, stripped_end}
use Rattle.htmd_commonmark_reading.specs.Lines.{line, marks, after_marker}
use Rattle.htmd_commonmark_reading.specs.LeafBlocks.{underline}
use Rattle.htmd_commonmark_reading.specs.Tables.{delimiter_row, with_bars, split_at_bars, is_delimiter, alignments_of}
use Rattle.htmd_commonmark_reading.specs.BlockStarts.{After, alone, under, lazy, Start, no_start, no_sign, sign}
use Rattle.htmd_commonmark_reading.specs.BlockStarts.{started, is_same, is_empty_or_blank, html_start, unless_rule}
use Rattle.htmd_commonmark_reading.specs.BlockStarts.{item_start}
use Rattle.htmd_document.specs.NormalInlines as normal
use Rattle.htmd_law_inlines.proofs.TextPieces.{test, differs, begins_no_tag}
use Rattle.htmd_law_inlines.proofs.TextMarks.{mark_at, marks_all, length_one}
use Rattle.htmd_law_texts.proofs.LineStarts.{IsLead, Both, both_by, plain_line, black_start, row_of_black}
use Rattle.htmd_law_texts.proofs.LineStarts.{underline_of_black}
use Rattle.htmd_law_texts.proofs.Foreign.{IsForeign, HasForeign, foreign_cons, foreign_marks, foreign_all, foreign_end}
use Rattle.htmd_law_texts.proofs.Foreign.{foreign_row, behind_first}
use Rattle.htmd_law_texts.proofs.TextStarts.{IsNext, heads, next_not, next_tag, next_escapes, marker_goes_on}
use Rattle.htmd_law_texts.proofs.TextLines.{begins_none, sign_line, digit_line}
use Rattle.htmd_law_texts.proofs.LineStarts.{strip_cons, alone_if, no_row, first_of, split_cons, cells_cons}

-- Any text that begins a line: the line is one of a paragraph.

-- ---- a plus sign

pub item_none : (a : After) (k c : ℕ) (s : List ℕ) (x : Start) → is_empty_or_blank s ≡ false
    → item_start a c None 1 (after_marker 1 (line k (c ∷ s))) x ≡ no_start
item_none a k c s x h = rw h refl

plus_line : (place : Place) (t m : List ℕ) → IsNext place.after m → list_all normal.is_line_byte (43 ∷ t)
    ≡ true
    → begins_block 43 t place.after ≡ false → (marked : ℕ → Bool)
    → Both (43 ∷ (with_backslashes marked 1 t ++ m))
plus_line place t m n p b marked =
    let u = with_backslashes marked 1 t ++ m in
    let q = (and_parts (normal.is_line_byte 43) (list_all normal.is_line_byte t) p).1 in
    let e = marker_goes_on place.after marked 1 t m n q (begins_none 43 t place.after b).no_bullet in
    let lead : IsLead 43 =
    record { black = refl; no_hyphen = refl; no_colon = refl; no_bar = refl; no_equals = refl } in
    both_by 43 u lead refl (λ a k. black_start a k 43 u refl ∙ item_none a k 43 u _ e)

-- ---- a hyphen

foreign_text : (place : Place) (whole m : List ℕ) → IsNext place.after m → (pre t : List ℕ) (k : ℕ)
    → whole ≡ pre ++ t → length pre ≡ k → list_all (is_one_of (codes "-:| ")) t ≡ false
    → list_all normal.is_line_byte t ≡ true → HasForeign (with_backslashes (is_marked place whole) k t ++ m)
foreign_text place whole m n pre [] k e l h p = absurd (cc)
foreign_text place whole m n pre (c ∷ t) k e l h p =
    let marked = is_marked place whole in
    let q = and_parts (normal.is_line_byte c) (list_all normal.is_line_byte t) p in
    let u = with_backslashes marked (suc k) t ++ m in
    let slash : (s : List ℕ) → first_is 124 s ≡ false → IsForeign 92 s =
    λ s x. record { black = refl; no_hyphen = refl; no_colon = refl; no_bar = refl; no_escape = x } in
    let yes : (marked k ≡ true) → with_backslashes marked k (c ∷ t) ++ m ≡ 92 ∷ c ∷ u = λ x. rw x refl in
    let no : (marked k ≡ false) → with_backslashes marked k (c ∷ t) ++ m ≡ c ∷ u = λ x. rw x refl in
    test (is_one_of (codes "-:| ") c)
    (λ o. let i = foreign_text place whole m n (pre ++ (c ∷ [])) t (suc k)
    (e ∙ sym (append_assoc pre (c ∷ []) t))
    (let y = length_one pre c in omega arith) (rw o at h) q.1 in
    test (marked k)
    (λ x. subst HasForeign (sym (yes x)) (foreign_cons 92 (c ∷ u) (foreign_cons c u i)))
    (λ x. subst HasForeign (sym (no x)) (foreign_cons c u i)))
    (λ o. let not_it : (d : ℕ) → is_one_of (codes "-:| ") d ≡ true → (c == d) ≡ false =
    λ d y. test (c == d) (λ z. let v = ap (is_one_of (codes "-:| ")) (eqb-true c d z) in absurd (cc)) (λ z. z) in
    test (marked k)
    (λ x. subst HasForeign (sym (yes x))
    (record { before = []; sign = 92; after = c ∷ u; is = refl; foreign = slash (c ∷ u) (not_it 124 refl) }))
    (λ x. subst HasForeign (sym (no x)) (record {
      before = [];
      sign = c;
      after = u;
      is = refl;
      foreign = record {
        black = rw (not_it 32 refl, differs normal.is_line_byte c 9 q.0 refl) refl;
        no_hyphen = not_it 45 refl;
        no_colon = not_it 58 refl;
        no_bar = not_it 124 refl;
        no_escape = test (c == 92) (λ z. rw z (no_bar_next t k (q.1) (next_plain z x))) (λ z. rw z refl);
      };
    })))
  where
    -- after a backslash that has none before it no bar stands
    no_bar_next : (t : List ℕ) (k : ℕ) → list_all normal.is_line_byte t ≡ true
        → may_be_escaped (option_or (slice_get t 0) place.after) ≡ false
        → first_is 124 (with_backslashes (is_marked place whole) (suc k) t ++ m) ≡ false
    no_bar_next [] k p f = let x = next_escapes place.after m n in let y : true ≡ false = sym x ∙ f in absurd (cc)
    no_bar_next (d ∷ t) k p f =
        test (is_marked place whole (suc k)) (λ x. rw x refl)
        (λ x. rw x (test (d == 124)
        (λ y. let z : true ≡ false = ap (λ c. may_be_escaped (Some c)) (sym (eqb-true d 124 y))
        ∙ f in absurd (cc))
        (λ y. y)))

    next_plain : (c == 92) ≡ true → is_marked place whole k ≡ false
        → may_be_escaped (option_or (slice_get t 0) place.after) ≡ false
    next_plain z x =
        let y = (marks_all place whole).none_left pre t c e (ap (is_marked place whole) l ∙ x) in
        let w : mark_at place pre 92 t ≡ false = ap (λ d. mark_at place pre d t) (sym (eqb-true c 92 z)) ∙ y in
        test (may_be_escaped (option_or (slice_get t 0) place.after))
        (λ f. let v : true ≡ false = rw f at w in absurd (cc)) (λ f. f)

pub rule_none : (c : ℕ) (s : List ℕ) (x : Start) → list_all (is_same c) (marks (c ∷ s)) ≡ false
    → unless_rule c (c ∷ s) x ≡ x
rule_none c s x h = rw h refl

hyphen_underline : (s : List ℕ) → HasForeign s → underline (45 ∷ s) ≡ None
hyphen_underline s h =
    let e : list_all (is_same 45) s ≡ false = foreign_all (is_same 45) s h h.foreign.no_hyphen in rw e refl

hyphen_line : (place : Place) (t m : List ℕ) → IsNext place.after m → list_all normal.is_line_byte (45 ∷ t)
    ≡ true
    → begins_block 45 t place.after ≡ false
    → Both (45 ∷ (with_backslashes (is_marked place (45 ∷ t)) 1 t ++ m))
hyphen_line place t m n p b =
    let marked = is_marked place (45 ∷ t) in
    let u = with_backslashes marked 1 t ++ m in
    let q = (and_parts (normal.is_line_byte 45) (list_all normal.is_line_byte t) p).1 in
    let z = begins_none 45 t place.after b in
    let e = marker_goes_on place.after marked 1 t m n q z.no_bullet in
    let h = foreign_text place (45 ∷ t) m n (45 ∷ []) t 1 refl refl z.no_dashes q in
    let r : list_all (is_same 45) (marks (45 ∷ u)) ≡ false = foreign_marks (is_same 45) u h h.foreign.no_hyphen in
    let start : (a : After) (k : ℕ) → started a (line k (45 ∷ u)) ≡ no_start =
    λ a k. black_start a k 45 u refl ∙ rule_none 45 u _ r ∙ item_none a k 45 u _ e in (
      record { black = refl; starts = start alone; no_asterisks = refl; no_hyphens = r },
      record {
        black = refl;
        starts = start under;
        no_underline = λ k.
            underline_of_black k 45 u refl ∙ hyphen_underline (stripped_end is_space_or_tab u) (foreign_end u h);
        no_delimiters = λ k.
            row_of_black k 45 u refl
            ∙ foreign_row 45 (stripped_end is_space_or_tab u) refl refl (foreign_end u h);
      },
    )

-- ---- a colon

abbrev NoHyphen : List ℕ → Type 0
NoHyphen s = first_is 45 s ≡ false

bars_first : (s : List ℕ) → NoHyphen s → NoHyphen (with_bars s)
bars_first [] h = refl
bars_first (c ∷ s) h =
    test ((c == 92) && first_is 124 s)
    (λ e. rw e (barred s (and_parts (c == 92) (first_is 124 s) e).1)) (λ e. rw e h)
  where
    barred : (s : List ℕ) → first_is 124 s ≡ true → NoHyphen (with_bars s)
    barred [] e = absurd (cc)
    barred (x ∷ s) e = ap (λ y. first_is 45 (with_bars (y ∷ s))) (eqb-true x 124 e)

split_first : (s : List ℕ) → NoHyphen s → NoHyphen (first_of (split_at_bars 58 s))
split_first [] h = refl
split_first (c ∷ s) h =
    test (c == 124) (λ e. rw e refl) (λ e. ap (λ l. first_is 45 (first_of l)) (split_cons 58 c s e) ∙ h)

colon_alone : (y : List ℕ) → NoHyphen y → is_delimiter (58 ∷ y) ≡ false
colon_alone [] h = refl
colon_alone (e ∷ y) h = alone_if e y h

colon_row : (s : List ℕ) → NoHyphen s → delimiter_row (58 ∷ s) ≡ None
colon_row s h =
    let w = cells_cons 58 s refl refl in
    let t = stripped_end is_space_or_tab s in
    let l = first_of (split_at_bars 58 t) in
    let i = split_first t (behind_first is_space_or_tab 45 s h) in
    let j = bars_first (stripped_end is_space_or_tab l) (behind_first is_space_or_tab 45 l i) in
    ap alignments_of w.1
    ∙ no_row (with_bars (stripped (58 ∷ l))) w.0
    (ap (λ x. is_delimiter (with_bars x)) (strip_cons 58 l refl)
    ∙ colon_alone (with_bars (stripped_end is_space_or_tab l)) j)

next_first : (place : Place) (t m : List ℕ) (marked : ℕ → Bool) (k : ℕ) → IsNext place.after m → NoHyphen t
    → NoHyphen (with_backslashes marked k t ++ m)
next_first place [] m marked k n h = by_head m (next_not (λ c. c == 45) place.after m refl n)
  where
    by_head : (m : List ℕ) → heads (λ c. c == 45) m ≡ false → NoHyphen m
    by_head [] e = refl
    by_head (c ∷ m) e = e
next_first place (d ∷ t) m marked k n h = test (marked k) (λ x. rw x refl) (λ x. rw x h)

colon_line : (place : Place) (t m : List ℕ) → IsNext place.after m → begins_block 58 t place.after ≡ false
    → (marked : ℕ → Bool) → Both (58 ∷ (with_backslashes marked 1 t ++ m))
colon_line place t m n b marked =
    let u = with_backslashes marked 1 t ++ m in
    let f = next_first place t m marked 1 n (begins_none 58 t place.after b).no_colon in
    let start : (a : After) (k : ℕ) → started a (line k (58 ∷ u))
    ≡ no_start = λ a k. black_start a k 58 u refl in (
      record { black = refl; starts = start alone; no_asterisks = refl; no_hyphens = refl },
      record {
        black = refl;
        starts = start under;
        no_underline = λ k. underline_of_black k 58 u refl;
        no_delimiters = λ k.
            row_of_black k 58 u refl
            ∙ colon_row (stripped_end is_space_or_tab u) (behind_first is_space_or_tab 45 u f);
      },
    )

-- ---- a less-than sign

pub no_html : (a : After) (s u : List ℕ) → begins_no_tag u ≡ true → html_start a s u ≡ no_start
no_html alone s [] h = refl
no_html under s [] h = refl
no_html lazy s [] h = refl
no_html a s (c ∷ u) h =
    test (c == 32)
    (λ e. subst (λ d. html_start a s (d ∷ u) ≡ no_start) (sym (eqb-true c 32 e)) (with_space a))
    (λ n. test (c == 10)
    (λ e. subst (λ d. html_start a s (d ∷ u) ≡ no_start) (sym (eqb-true c 10 e)) (with_feed a))
    (λ o. let e : (c == 92) ≡ true = rw (n, o) at h in
    subst (λ d. html_start a s (d ∷ u) ≡ no_start) (sym (eqb-true c 92 e)) (with_slash a)))
  where
    with_space : (a : After) → html_start a s (32 ∷ u) ≡ no_start
    with_space alone = refl
    with_space under = refl
    with_space lazy = refl

    with_feed : (a : After) → html_start a s (10 ∷ u) ≡ no_start
    with_feed alone = refl
    with_feed under = refl
    with_feed lazy = refl

    with_slash : (a : After) → html_start a s (92 ∷ u) ≡ no_start
    with_slash alone = refl
    with_slash under = refl
    with_slash lazy = refl

angle_next : (place : Place) (whole t m : List ℕ) → IsNext place.after m
    → may_be_in_tag (option_or (slice_get t 0) place.after) ≡ false → (marked : ℕ → Bool) (k : ℕ)
    → begins_no_tag (with_backslashes marked k t ++ m) ≡ true
angle_next place whole [] m n h marked k = next_tag place.after m n h
angle_next place whole (d ∷ t) m n h marked k =
    let p = not-false ((d == 32) || (d == 10)) h in
    test (marked k) (λ x. rw x refl) (λ x. rw x (rw p refl))

angle_line : (place : Place) (t m : List ℕ) → IsNext place.after m
    → may_be_in_tag (option_or (slice_get t 0) place.after) ≡ false → (marked : ℕ → Bool)
    → Both (60 ∷ (with_backslashes marked 1 t ++ m))
angle_line place t m n h marked =
    let u = with_backslashes marked 1 t ++ m in
    let lead : IsLead 60 =
    record { black = refl; no_hyphen = refl; no_colon = refl; no_bar = refl; no_equals = refl } in
    both_by 60 u lead refl
    (λ a k. black_start a k 60 u refl ∙ no_html a (60 ∷ u) u (angle_next place t t m n h marked 1))

-- ---- any text

-- a text at a line's beginning, and what stands after it in the line
pub record IsTextLine (place : Place) (b : ℕ) (t m : List ℕ) : Type 0 where
  pub begins : place.begins_line ≡ true
  pub before : place.before ≡ None
  pub plain : list_all normal.is_line_byte (b ∷ t) ≡ true
  pub no_space : (b == 32) ≡ false
  pub next : IsNext place.after m

marked_line : (s : List ℕ) → Both (92 ∷ s)
marked_line s =
    plain_line 92 s (record { black = refl; no_hyphen = refl; no_colon = refl; no_bar = refl; no_equals = refl })
    refl refl

-- no underscore is without a backslash there
no_underscore : (place : Place) (b : ℕ) (t : List ℕ) → place.before ≡ None → mark_at place [] b t ≡ false
    → (b == 95) ≡ false
no_underscore place b t n h =
    test (b == 95)
    (λ e. let x : mark_at place [] 95 t ≡ false = ap (λ c. mark_at place [] c t) (sym (eqb-true b 95 e)) ∙ h in
    let y : is_of_word (character_before place []) ≡ false =
    ap (λ l. is_of_word (option_or (slice_get (reverse l) 0) place.before)) chars-nil ∙ ap is_of_word n in
    let z : true ≡ false = rw y at x in absurd (cc))
    (λ e. e)

no_sign_of : (b : ℕ) → (b == 62) ≡ false → (b == 35) ≡ false → (b == 96) ≡ false → (b == 126) ≡ false
    → (b == 60) ≡ false → (b == 95) ≡ false → (b == 42) ≡ false → (b == 45) ≡ false → (b == 43)
    ≡ false
    → is_ascii_digit b ≡ false → sign b ≡ no_sign
no_sign_of b e1 e2 e3 e4 e5 e6 e7 e8 e9 d = rw (e1, e2, e3, e4, e5, e6, e7, e8, e9, d) refl

pub text_line : (place : Place) (b : ℕ) (t m : List ℕ) → IsTextLine place b t m
    → Both (escaped place (b ∷ t) ++ m)
text_line place b t m h =
    let marked = is_marked place (b ∷ t) in
    let u = with_backslashes marked 1 t ++ m in
    test (marked 0)
    (λ x. let w : with_backslashes marked 0 (b ∷ t) ++ m ≡ 92 ∷ b ∷ u = rw x refl in
    subst Both (sym w) (marked_line (b ∷ u)))
    (λ x. let w : with_backslashes marked 0 (b ∷ t) ++ m ≡ b ∷ u = rw x refl in
    let f = (marks_all place (b ∷ t)).none_left [] t b refl x in
    let g : is_place (line_mark (b ∷ t) place.after) 0 ≡ false =
    rw h.begins at ((or_parts (is_inline_mark place (b ∷ t) 0) _ x).1) in
    let q : begins_block b t place.after ≡ false =
    test (begins_block b t place.after) (λ e. let y : true ≡ false = rw e at g in absurd (cc)) (λ e. e) in
    let none = begins_none b t place.after q in
    test (b == 35)
    (λ e. subst (λ c. Both (with_backslashes (is_marked place (c ∷ t)) 0 (c ∷ t) ++ m)) (sym (eqb-true b 35 e))
    (sign_line place t m h.next (ap (λ c. list_all normal.is_line_byte (c ∷ t)) (sym (eqb-true b 35 e)) ∙ h.plain)
    (ap (λ c. begins_block c t place.after) (sym (eqb-true b 35 e)) ∙ q)))
    (λ n35. test (is_ascii_digit b)
    (λ d. digit_line place b t m d h.next h.plain q h.begins)
    (λ nd. subst Both (sym w)
    (test (b == 43)
    (λ e. let is = eqb-true b 43 e in
    subst (λ c. Both (c ∷ u)) (sym is)
    (plus_line place t m h.next (ap (λ c. list_all normal.is_line_byte (c ∷ t)) (sym is) ∙ h.plain)
    (ap (λ c. begins_block c t place.after) (sym is) ∙ q) marked))
    (λ n43. test (b == 45)
    (λ e. let is = eqb-true b 45 e in
    subst (λ c. Both (c ∷ (with_backslashes (is_marked place (c ∷ t)) 1 t ++ m))) (sym is)
    (hyphen_line place t m h.next (ap (λ c. list_all normal.is_line_byte (c ∷ t)) (sym is) ∙ h.plain)
    (ap (λ c. begins_block c t place.after) (sym is) ∙ q)))
    (λ n45. test (b == 58)
    (λ e. let is = eqb-true b 58 e in
    subst (λ c. Both (c ∷ u)) (sym is)
    (colon_line place t m h.next (ap (λ c. begins_block c t place.after) (sym is) ∙ q) marked))
    (λ n58. test (b == 60)
    (λ e. let is = eqb-true b 60 e in
    let f' : mark_at place [] 60 t ≡ false = ap (λ c. mark_at place [] c t) (sym is) ∙ f in
    let i : may_be_in_tag (option_or (slice_get t 0) place.after) ≡ false =
    test (may_be_in_tag (option_or (slice_get t 0) place.after))
    (λ y. let z : true ≡ false = rw y at f' in absurd (cc)) (λ y. y) in
    subst (λ c. Both (c ∷ u)) (sym is) (angle_line place t m h.next i marked))
    (λ n60. let not_it : (d : ℕ) → mark_at place [] d t ≡ true → (b == d) ≡ false =
    λ d y. test (b == d)
    (λ z. let v : true ≡ false = sym y ∙ ap (λ c. mark_at place [] c t) (sym (eqb-true b d z))
    ∙ f in absurd (cc))
    (λ z. z) in
    let not_sign : (d : ℕ) → is_one_of (codes "=>|") d ≡ true → (b == d) ≡ false =
    λ d y. test (b == d)
    (λ z. let v : true ≡ false = sym y ∙ ap (is_one_of (codes "=>|")) (sym (eqb-true b d z))
    ∙ none.no_sign in absurd (cc))
    (λ z. z) in
    let black : is_space_or_tab b ≡ false =
    rw (h.no_space, differs normal.is_line_byte b 9 (and_parts (normal.is_line_byte b) _ h.plain).0 refl) refl in
    plain_line b u
    (record {
      black = black;
      no_hyphen = n45;
      no_colon = n58;
      no_bar = not_sign 124 refl;
      no_equals = not_sign 61 refl;
    })
    (not_it 42 refl)
    (no_sign_of b (not_sign 62 refl) n35 (not_it 96 refl) (not_it 126 refl) n60
    (no_underscore place b t h.before f) (not_it 42 refl) n45 n43 nd)))))))))

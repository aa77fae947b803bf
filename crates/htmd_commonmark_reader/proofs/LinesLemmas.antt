-- Lines, their white space, and what is cut of it.
use Rattle.std.proofs.Common.{◌≡◌, ◌≢◌, ℕ, zero, suc, ◌+◌, ◌-◌, ◌*◌, ◌<◌, ◌≤◌, true, false, List, [], ◌∷◌}
use Rattle.std.proofs.Common.{◌++◌, length, get_or, drop, refl, ap, sym, ◌∙◌, arith, subst, append_assoc, length-drop}
use Rattle.std.proofs.lemmas.Bool.Decides.{nat_tests}
use Rattle.std.proofs.lemmas.List.{drop_more, length-append, get_or_at, length_push, drop_at}
use Rattle.std.proofs.lemmas.Nat.{mod_below}
use Rattle.std.proofs.lemmas.Str.{IsCharBoundary-after_ascii, IsUtf8-drop}
use Rattle.std.specs.Char.{encode_utf8}
use Rattle.std.specs.Prelude.{◌==◌, nat_le}
use Rattle.std.specs.Str.{IsUtf8}
use Rattle.htmd_lexical.proofs.Cases.{test}
use Rattle.htmd_lexical.proofs.RunsLemmas.{behind_within}
use Rattle.htmd_lexical.specs.CharacterClasses.{is_empty, first_is, leading_run, behind_run}
use Rattle.htmd_commonmark_reading.specs.Characters.{past_blanks, is_space_or_tab, replacement_character}
use Rattle.htmd_commonmark_reading.specs.Lines.{Line, line, split_lines, onto_first, without_null, is_blank_text}
use Rattle.htmd_commonmark_reading.specs.Lines.{one_column, to_tab_stop, no_white, to_stop, indent_at}
use Rattle.htmd_commonmark_reading.specs.Lines.{spaces, cut_at, width, marks}
use Rattle.htmd_commonmark_reader.specs.LineViews.{is_in_line, past_line_end, columns_at}

-- ---- the first line of a text

pub first_line : (s : List ℕ) → 0 < length s
    → split_lines s ≡ leading_run is_in_line s ∷ split_lines (past_line_end (behind_run is_in_line s))
first_line [] l = absurd (omega arith)
first_line (c ∷ s) l =
    test (c == 10) (λ feed. at_feed feed)
    (λ feed. test (c == 13) (λ back. at_return feed back s) (λ back. in_line feed back s (first_line s)))
  where
    at_feed : (c == 10) ≡ true
        → split_lines (c ∷ s)
        ≡ leading_run is_in_line (c ∷ s) ∷ split_lines (past_line_end (behind_run is_in_line (c ∷ s)))
    at_feed feed =
        let other : (c == 13) ≡ false = grind (arith, nat_tests) in
        rw (feed, other, feed) refl

    at_return : (c == 10) ≡ false → (c == 13) ≡ true → (t : List ℕ)
        → split_lines (c ∷ t)
        ≡ leading_run is_in_line (c ∷ t) ∷ split_lines (past_line_end (behind_run is_in_line (c ∷ t)))
    at_return feed back [] = rw (feed, back, back) refl
    at_return feed back (d ∷ t) =
        test (d == 10) (λ e. rw (feed, back, e, back) refl)
        (λ e. let here : split_lines (c ∷ d ∷ t) ≡ [] ∷ split_lines (d ∷ t) = rw (feed, back, e) refl in
        let front : leading_run is_in_line (c ∷ d ∷ t) ≡ [] = rw (feed, back) refl in
        let behind : behind_run is_in_line (c ∷ d ∷ t) ≡ c ∷ d ∷ t = rw (feed, back) refl in
        let past : past_line_end (c ∷ d ∷ t) ≡ d ∷ t = rw (back, e) refl in
        here
        ∙ sym (ap (λ (x : List ℕ). x ∷ split_lines (past_line_end (behind_run is_in_line (c ∷ d ∷ t)))) front
        ∙ ap (λ u. [] ∷ split_lines u) (ap past_line_end behind ∙ past)))

    in_line : (c == 10) ≡ false → (c == 13) ≡ false → (t : List ℕ)
        → (0 < length t
        → split_lines t ≡ leading_run is_in_line t ∷ split_lines (past_line_end (behind_run is_in_line t)))
        → split_lines (c ∷ t)
        ≡ leading_run is_in_line (c ∷ t) ∷ split_lines (past_line_end (behind_run is_in_line (c ∷ t)))
    in_line feed back [] h = rw (feed, back) refl
    in_line feed back (d ∷ t) h = rw (feed, back) (ap (onto_first c) (h (omega arith)))

pub line_end_within : (s : List ℕ) → length (past_line_end s) ≤ length s
line_end_within [] = omega arith
line_end_within (c ∷ s) =
    test (c == 13)
    (λ e. test (first_is 10 s) (λ f. rw (e, f) (omega (arith, length-drop 1 s))) (λ f. rw (e, f) (omega arith)))
    (λ e. test (c == 10) (λ f. rw (e, f) (omega arith)) (λ f. rw (e, f) (omega arith)))

pub first_shorter : (s : List ℕ) → 0 < length s
    → length (past_line_end (behind_run is_in_line s)) < length s
first_shorter [] l = absurd (omega arith)
first_shorter (c ∷ s) l =
    test (c == 10)
    (λ e. let other : (c == 13) ≡ false = grind (arith, nat_tests) in rw (e, other, e) (omega arith))
    (λ e. test (c == 13)
    (λ f. test (first_is 10 s) (λ g. rw (e, f, f, g) (omega (arith, length-drop 1 s)))
    (λ g. rw (e, f, f, g) (omega arith)))
    (λ f. let m = line_end_within (behind_run is_in_line s) in let k = behind_within is_in_line s in
    rw (e, f) (omega arith)))

-- ---- white space at the beginning

-- the three widths of a character
by_width : {P : Type 0} (c : ℕ) → (width c ≡ one_column → is_space_or_tab c ≡ true → P)
    → (width c ≡ to_tab_stop → is_space_or_tab c ≡ true → P)
    → (width c ≡ no_white → is_space_or_tab c ≡ false → P) → P
by_width c one tab none =
    test (c == 32) (λ e. one (rw e refl) (rw e refl))
    (λ e. test (c == 9) (λ f. tab (rw (e, f) refl) (rw (e, f) refl)) (λ f. none (rw (e, f) refl) (rw (e, f) refl)))

blank_ascii : (c : ℕ) → is_space_or_tab c ≡ true → c < 128
blank_ascii c e = grind (arith, nat_tests)

module _ (k c : ℕ) where
  columns_one : width c ≡ one_column → columns_at k c ≡ 1
  columns_one w = rw (w, columns_at) refl

  columns_tab : width c ≡ to_tab_stop → columns_at k c ≡ to_stop k
  columns_tab w = rw (w, columns_at) refl

  columns_none : width c ≡ no_white → columns_at k c ≡ 0
  columns_none w = rw (w, columns_at) refl

  module _ (s : List ℕ) where
    indent_one : width c ≡ one_column → indent_at k (c ∷ s) ≡ suc (indent_at (suc k) s)
    indent_one w = rw (w, indent_at) refl

    indent_tab : width c ≡ to_tab_stop → indent_at k (c ∷ s) ≡ to_stop k + indent_at (k + to_stop k) s
    indent_tab w = rw (w, indent_at) refl

    indent_none : width c ≡ no_white → indent_at k (c ∷ s) ≡ 0
    indent_none w = rw (w, indent_at) refl

    module _ (n : ℕ) where
      cut_one : width c ≡ one_column → cut_at k (suc n) (c ∷ s) ≡ cut_at (suc k) n s
      cut_one w = rw (w, cut_at) refl

      cut_whole : width c ≡ to_tab_stop → nat_le (to_stop k) (suc n) ≡ true
          → cut_at k (suc n) (c ∷ s) ≡ cut_at (k + to_stop k) (suc n - to_stop k) s
      cut_whole w f = rw (w, f, cut_at) refl

      cut_part : width c ≡ to_tab_stop → nat_le (to_stop k) (suc n) ≡ false
          → cut_at k (suc n) (c ∷ s) ≡ line (k + suc n) (spaces (to_stop k - suc n) s)
      cut_part w f = rw (w, f, cut_at) refl

      cut_black : width c ≡ no_white → cut_at k (suc n) (c ∷ s) ≡ line k (c ∷ s)
      cut_black w = rw (w, cut_at) refl

-- tab stops are at most 4 columns away
stop_near : (k : ℕ) → (0 < to_stop k) × (to_stop k ≤ 4)
stop_near k = (omega (arith, mod_below k 4 (omega arith)), omega arith)

pub columns_small : (k c : ℕ) → columns_at k c ≤ 4
columns_small k c =
    by_width c (λ w b. omega (arith, columns_one k c w)) (λ w b. omega (arith, columns_tab k c w, (stop_near k).1))
    (λ w b. omega (arith, columns_none k c w))

-- white space is ASCII
pub columns_ascii : (k c : ℕ) → 0 < columns_at k c → c < 128
columns_ascii k c l =
    by_width c (λ w b. blank_ascii c b) (λ w b. blank_ascii c b)
    (λ w b. absurd (omega (arith, columns_none k c w)))

past_spaces : (n : ℕ) (s : List ℕ) → past_blanks (spaces n s) ≡ past_blanks s
past_spaces zero s = refl
past_spaces (suc n) s = past_spaces n s

pub indent_spaces : (k n : ℕ) (s : List ℕ) → indent_at k (spaces n s) ≡ n + indent_at (k + n) s
indent_spaces k zero s =
    let place : k ≡ k + 0 = omega arith in ap (λ m. indent_at m s) place ∙ omega arith
indent_spaces k (suc n) s =
    let step = indent_spaces (suc k) n s in
    let place : suc k + n ≡ k + suc n = omega arith in
    let one : indent_at k (32 ∷ spaces n s) ≡ suc (indent_at (suc k) (spaces n s)) =
    indent_one k 32 (spaces n s) refl in
    one ∙ ap suc (step ∙ ap (λ m. n + indent_at m s) place) ∙ omega arith

-- one more character of white space
pub indent_more : (k : ℕ) (c : ℕ) (s : List ℕ) → 0 < columns_at k c
    → indent_at k (c ∷ s) ≡ columns_at k c + indent_at (k + columns_at k c) s
indent_more k c s l =
    by_width c
    (λ w b. let place : suc k ≡ k + 1 = omega arith in
    rw (columns_one k c w) (indent_one k c s w ∙ ap (λ j. suc (indent_at j s)) place ∙ omega arith))
    (λ w b. rw (columns_tab k c w) (indent_tab k c s w))
    (λ w b. absurd (omega (arith, columns_none k c w)))

pub indent_stops : (k : ℕ) (c : ℕ) (s : List ℕ) → columns_at k c ≡ 0 → indent_at k (c ∷ s) ≡ 0
indent_stops k c s z =
    by_width c (λ w b. absurd (omega (arith, columns_one k c w)))
    (λ w b. absurd (omega (arith, columns_tab k c w, (stop_near k).0))) (λ w b. indent_none k c s w)

-- the same at a place of a text
pub indent_next : (k : ℕ) (s : List ℕ) (i : ℕ) → i < length s → 0 < columns_at k (get_or s i 0)
    → indent_at k (drop i s)
    ≡ columns_at k (get_or s i 0) + indent_at (k + columns_at k (get_or s i 0)) (drop (i + 1) s)
indent_next k s i l m = ap (indent_at k) (drop_more s i 0 l) ∙ indent_more k (get_or s i 0) (drop (i + 1) s) m

pub indent_ends : (k : ℕ) (s : List ℕ) (i : ℕ) → i < length s → columns_at k (get_or s i 0) ≡ 0
    → indent_at k (drop i s) ≡ 0
indent_ends k s i l z = ap (indent_at k) (drop_more s i 0 l) ∙ indent_stops k (get_or s i 0) (drop (i + 1) s) z

pub indent_within : (k : ℕ) (s : List ℕ) → indent_at k s ≤ 4 * length s
indent_within k [] = omega arith
indent_within k (c ∷ s) =
    by_width c (λ w b. omega (arith, indent_one k c s w, indent_within (suc k) s))
    (λ w b. omega (arith, indent_tab k c s w, (stop_near k).1, indent_within (k + to_stop k) s))
    (λ w b. omega (arith, indent_none k c s w))

-- ---- what is cut

-- one more character is cut
pub cut_more : (k n : ℕ) (c : ℕ) (s : List ℕ) → 0 < columns_at k c → columns_at k c ≤ n
    → cut_at k n (c ∷ s) ≡ cut_at (k + columns_at k c) (n - columns_at k c) s
cut_more k zero c s l m = absurd (omega arith)
cut_more k (suc n) c s l m =
    by_width c
    (λ w b. let place : suc k ≡ k + 1 = omega arith in
    let left : n ≡ suc n - 1 = omega arith in
    rw (columns_one k c w)
    (cut_one k c s n w ∙ ap (λ j. cut_at j n s) place ∙ ap (λ j. cut_at (k + 1) j s) left))
    (λ w b. let fits : to_stop k ≤ suc n = omega (arith, columns_tab k c w) in
    let test : nat_le (to_stop k) (suc n) ≡ true = grind (arith, nat_tests, fits) in
    rw (columns_tab k c w) (cut_whole k c s n w test))
    (λ w b. absurd (omega (arith, columns_none k c w)))

-- a tab is cut in two
pub cut_tab : (k n : ℕ) (c : ℕ) (s : List ℕ) → 0 < n → n < columns_at k c
    → cut_at k n (c ∷ s) ≡ line (k + n) (spaces (columns_at k c - n) s)
cut_tab k zero c s l m = absurd (omega arith)
cut_tab k (suc n) c s l m =
    by_width c (λ w b. absurd (omega (arith, columns_one k c w)))
    (λ w b. let parts : suc n < to_stop k = omega (arith, columns_tab k c w) in
    let test : nat_le (to_stop k) (suc n) ≡ false = grind (arith, nat_tests, parts) in
    rw (columns_tab k c w) (cut_part k c s n w test))
    (λ w b. absurd (omega (arith, columns_none k c w)))

pub cut_stops : (k n : ℕ) (c : ℕ) (s : List ℕ) → columns_at k c ≡ 0
    → cut_at k n (c ∷ s) ≡ line k (c ∷ s)
cut_stops k zero c s z = refl
cut_stops k (suc n) c s z =
    by_width c (λ w b. absurd (omega (arith, columns_one k c w)))
    (λ w b. absurd (omega (arith, columns_tab k c w, (stop_near k).0))) (λ w b. cut_black k c s n w)

-- the same at a place of a text
pub cut_next : (k n : ℕ) (s : List ℕ) (i : ℕ) → i < length s → 0 < columns_at k (get_or s i 0)
    → columns_at k (get_or s i 0) ≤ n
    → cut_at k n (drop i s)
    ≡ cut_at (k + columns_at k (get_or s i 0)) (n - columns_at k (get_or s i 0)) (drop (i + 1) s)
cut_next k n s i l m f = ap (cut_at k n) (drop_more s i 0 l) ∙ cut_more k n (get_or s i 0) (drop (i + 1) s) m f

pub cut_partly : (k n : ℕ) (s : List ℕ) (i : ℕ) → i < length s → 0 < n → n < columns_at k (get_or s i 0)
    → cut_at k n (drop i s) ≡ line (k + n) (spaces (columns_at k (get_or s i 0) - n) (drop (i + 1) s))
cut_partly k n s i l m f = ap (cut_at k n) (drop_more s i 0 l) ∙ cut_tab k n (get_or s i 0) (drop (i + 1) s) m f

pub cut_ends : (k n : ℕ) (s : List ℕ) (i : ℕ) → i < length s → columns_at k (get_or s i 0) ≡ 0
    → cut_at k n (drop i s) ≡ line k (drop i s)
cut_ends k n s i l z =
    ap (cut_at k n) (drop_more s i 0 l) ∙ cut_stops k n (get_or s i 0) (drop (i + 1) s) z
    ∙ ap (line k) (sym (drop_more s i 0 l))

pub cut_spaces : (k n m : ℕ) (s : List ℕ) → m ≤ n → cut_at k n (spaces m s) ≡ cut_at (k + m) (n - m) s
cut_spaces k n zero s l =
    let place : k ≡ k + 0 = omega arith in
    let left : n ≡ n - 0 = omega arith in
    ap (λ j. cut_at j n s) place ∙ ap (λ j. cut_at (k + 0) j s) left
cut_spaces k zero (suc m) s l = absurd (omega arith)
cut_spaces k (suc n) (suc m) s l =
    let place : suc k + m ≡ k + suc m = omega arith in
    let left : n - m ≡ suc n - suc m = omega arith in
    cut_one k 32 (spaces m s) n refl ∙ cut_spaces (suc k) n m s (omega arith)
    ∙ ap (λ j. cut_at j (n - m) s) place ∙ ap (λ j. cut_at (k + suc m) j s) left

pub cut_few : (k n m : ℕ) (s : List ℕ) → n ≤ m → cut_at k n (spaces m s) ≡ line (k + n) (spaces (m - n) s)
cut_few k zero m s l =
    let place : k ≡ k + 0 = omega arith in
    let left : m ≡ m - 0 = omega arith in
    ap (λ j. line j (spaces m s)) place ∙ ap (λ j. line (k + 0) (spaces j s)) left
cut_few k (suc n) zero s l = absurd (omega arith)
cut_few k (suc n) (suc m) s l =
    let place : suc k + n ≡ k + suc n = omega arith in
    let left : m - n ≡ suc m - suc n = omega arith in
    cut_one k 32 (spaces m s) n refl ∙ cut_few (suc k) n m s (omega arith)
    ∙ ap (λ j. line j (spaces (m - n) s)) place ∙ ap (λ j. line (k + suc n) (spaces j s)) left

-- ---- U+0000

abbrev pub HasNoNull : List ℕ → Type 0
HasNoNull s = (i : ℕ) → i < length s → get_or s i 0 ≢ 0

other : (b : ℕ) → b ≢ 0 → (b == 0) ≡ false
other b h = grind (arith, nat_tests)

behind_first : (b : ℕ) (s : List ℕ) → HasNoNull (b ∷ s) → HasNoNull s
behind_first b s h i l = h (suc i) (omega arith)

without_null-append : (s t : List ℕ) → HasNoNull s → without_null (s ++ t) ≡ s ++ without_null t
without_null-append [] t h = refl
without_null-append (b ∷ s) t h =
    rw (other b (h 0 (omega arith))) (ap (λ x. b ∷ x) (without_null-append s t (behind_first b s h)))

pub no_null : (s : List ℕ) → HasNoNull s → without_null s ≡ s
no_null [] h = refl
no_null (b ∷ s) h = rw (other b (h 0 (omega arith))) (ap (λ x. b ∷ x) (no_null s (behind_first b s h)))

-- one more part
pub null_more : (whole part ended rest after text : List ℕ) → whole ++ without_null rest ≡ without_null text
    → rest ≡ part ++ (0 ∷ after) → HasNoNull part
    → ended ≡ (whole ++ part) ++ encode_utf8 replacement_character
    → ended ++ without_null after ≡ without_null text
null_more whole part ended rest after text i e h d =
    let tail : without_null rest ≡ part ++ (encode_utf8 replacement_character ++ without_null after) =
    ap without_null e ∙ without_null-append part (0 ∷ after) h in
    ap (λ x. x ++ without_null after) d
    ∙ append_assoc (whole ++ part) (encode_utf8 replacement_character) (without_null after)
    ∙ append_assoc whole part (encode_utf8 replacement_character ++ without_null after)
    ∙ ap (λ x. whole ++ x) (sym tail) ∙ i

pub behind_null : (rest part after : List ℕ) → IsUtf8 rest → rest ≡ part ++ (0 ∷ after) → IsUtf8 after
behind_null rest part after u e =
    let size : length rest ≡ length part + suc (length after) = ap length e ∙ length-append part (0 ∷ after) in
    let at : get_or rest (length part) 0 ≡ 0 =
    ap (λ s. get_or s (length part) 0) e ∙ get_or_at part 0 after 0 (length part) refl in
    let cut = IsCharBoundary-after_ascii rest (length part) u (omega (arith, size)) (omega (arith, at)) in
    let all : rest ≡ (part ++ 0 ∷ []) ++ after = e ∙ sym (append_assoc part (0 ∷ []) after) in
    let k : length (part ++ 0 ∷ []) ≡ length part + 1 = length_push part 0 in
    subst IsUtf8 (ap (drop (length part + 1)) all ∙ drop_at (part ++ 0 ∷ []) after (length part + 1) k)
    (IsUtf8-drop rest (length part + 1) u cut)

-- ---- lines as the reader holds them

pub blank_text : (s : List ℕ) → is_empty (past_blanks s) ≡ is_blank_text s
blank_text [] = refl
blank_text (c ∷ s) = test (is_space_or_tab c) (λ e. rw e (blank_text s)) (λ e. rw e refl)

pub blank_spaces : (n : ℕ) (s : List ℕ) → is_blank_text (spaces n s) ≡ is_blank_text s
blank_spaces zero s = refl
blank_spaces (suc n) s = blank_spaces n s

pub spaces_content : (n : ℕ) (s : List ℕ) → past_blanks (spaces n s) ≡ past_blanks s
spaces_content n s = past_spaces n s

-- no white space at the beginning
unindented : (k : ℕ) (s : List ℕ) → indent_at k s ≡ 0 → past_blanks s ≡ s
unindented k [] z = refl
unindented k (c ∷ s) z =
    by_width c (λ w b. absurd (omega (arith, indent_one k c s w)))
    (λ w b. absurd (omega (arith, indent_tab k c s w, (stop_near k).0))) (λ w b. rw b refl)

-- all white space is cut
pub cut_all : (k n : ℕ) (s : List ℕ) → indent_at k s ≤ n
    → cut_at k n s ≡ line (k + indent_at k s) (past_blanks s)
cut_all k zero s l =
    let none : indent_at k s ≡ 0 = omega arith in
    let place : k ≡ k + indent_at k s = omega arith in
    ap (λ t. line k t) (sym (unindented k s none)) ∙ ap (λ j. line j (past_blanks s)) place
cut_all k (suc n) [] l = let place : k ≡ k + 0 = omega arith in ap (λ j. line j []) place
cut_all k (suc n) (c ∷ s) l =
    by_width c
    (λ w b. let more = cut_all (suc k) n s (omega (arith, indent_one k c s w)) in
    let place : suc k + indent_at (suc k) s ≡ k + indent_at k (c ∷ s) = omega (arith, indent_one k c s w) in
    cut_one k c s n w ∙ more ∙ ap (λ j. line j (past_blanks s)) place
    ∙ ap (λ t. line (k + indent_at k (c ∷ s)) t) (sym (blank_more c s b)))
    (λ w b. let inside : to_stop k ≤ suc n = omega (arith, indent_tab k c s w) in
    let fits : nat_le (to_stop k) (suc n) ≡ true = grind (arith, nat_tests, inside) in
    let more = cut_all (k + to_stop k) (suc n - to_stop k) s (omega (arith, indent_tab k c s w)) in
    let place : k + to_stop k + indent_at (k + to_stop k) s ≡ k + indent_at k (c ∷ s) =
    omega (arith, indent_tab k c s w) in
    cut_whole k c s n w fits ∙ more ∙ ap (λ j. line j (past_blanks s)) place
    ∙ ap (λ t. line (k + indent_at k (c ∷ s)) t) (sym (blank_more c s b)))
    (λ w b. let place : k ≡ k + indent_at k (c ∷ s) = omega (arith, indent_none k c s w) in
    let same : past_blanks (c ∷ s) ≡ c ∷ s = rw b refl in
    cut_black k c s n w ∙ ap (λ j. line j (c ∷ s)) place
    ∙ ap (λ t. line (k + indent_at k (c ∷ s)) t) (sym same))
  where
    blank_more : (d : ℕ) (t : List ℕ) → is_space_or_tab d ≡ true → past_blanks (d ∷ t) ≡ past_blanks t
    blank_more d t b = rw b refl

-- what is cut is white space alone
pub cut_content : (k n : ℕ) (s : List ℕ) → past_blanks ((cut_at k n s).text) ≡ past_blanks s
cut_content k zero s = refl
cut_content k (suc n) [] = refl
cut_content k (suc n) (c ∷ s) =
    by_width c
    (λ w b. ap text_of (cut_one k c s n w) ∙ cut_content (suc k) n s ∙ sym (blank_more c s b))
    (λ w b. test (nat_le (to_stop k) (suc n))
    (λ g. ap text_of (cut_whole k c s n w g) ∙ cut_content (k + to_stop k) (suc n - to_stop k) s
    ∙ sym (blank_more c s b))
    (λ g. ap text_of (cut_part k c s n w g) ∙ past_spaces (to_stop k - suc n) s ∙ sym (blank_more c s b)))
    (λ w b. ap text_of (cut_black k c s n w))
  where
    text_of : Line → List ℕ
    text_of l = past_blanks l.text

    blank_more : (d : ℕ) (t : List ℕ) → is_space_or_tab d ≡ true → past_blanks (d ∷ t) ≡ past_blanks t
    blank_more d t b = rw b refl

spaces_marks : (n : ℕ) (s : List ℕ) → marks (spaces n s) ≡ marks s
spaces_marks zero s = refl
spaces_marks (suc n) s = spaces_marks n s

-- what is cut is no mark
pub cut_marks : (k n : ℕ) (s : List ℕ) → marks ((cut_at k n s).text) ≡ marks s
cut_marks k zero s = refl
cut_marks k (suc n) [] = refl
cut_marks k (suc n) (c ∷ s) =
    by_width c
    (λ w b. ap marks_of (cut_one k c s n w) ∙ cut_marks (suc k) n s ∙ sym (unmarked c s b))
    (λ w b. test (nat_le (to_stop k) (suc n))
    (λ g. ap marks_of (cut_whole k c s n w g) ∙ cut_marks (k + to_stop k) (suc n - to_stop k) s
    ∙ sym (unmarked c s b))
    (λ g. ap marks_of (cut_part k c s n w g) ∙ spaces_marks (to_stop k - suc n) s ∙ sym (unmarked c s b)))
    (λ w b. ap marks_of (cut_black k c s n w))
  where
    marks_of : Line → List ℕ
    marks_of l = marks l.text

    unmarked : (d : ℕ) (t : List ℕ) → is_space_or_tab d ≡ true → marks (d ∷ t) ≡ marks t
    unmarked d t b = rw b refl

abbrev columns_of : Line → ℕ
columns_of l = indent_at l.column l.text

-- the columns of white space that are left
pub cut_indent : (k n : ℕ) (s : List ℕ) → n ≤ indent_at k s
    → indent_at ((cut_at k n s).column) ((cut_at k n s).text) ≡ indent_at k s - n
cut_indent k zero s l = omega arith
cut_indent k (suc n) [] l = absurd (omega arith)
cut_indent k (suc n) (c ∷ s) l =
    by_width c
    (λ w b. let more = cut_indent (suc k) n s (omega (arith, indent_one k c s w)) in
    ap columns_of (cut_one k c s n w) ∙ more ∙ omega (arith, indent_one k c s w))
    (λ w b. test (nat_le (to_stop k) (suc n))
    (λ g. let fits : to_stop k ≤ suc n = grind (arith, nat_tests) in
    let more = cut_indent (k + to_stop k) (suc n - to_stop k) s (omega (arith, indent_tab k c s w)) in
    ap columns_of (cut_whole k c s n w g) ∙ more ∙ omega (arith, fits, indent_tab k c s w))
    (λ g. let parts : suc n < to_stop k = grind (arith, nat_tests) in
    let place : k + suc n + (to_stop k - suc n) ≡ k + to_stop k = omega (arith, parts) in
    let left = indent_spaces (k + suc n) (to_stop k - suc n) s in
    ap columns_of (cut_part k c s n w g) ∙ left ∙ ap (λ j. to_stop k - suc n + indent_at j s) place
    ∙ omega (arith, parts, indent_tab k c s w)))
    (λ w b. absurd (omega (arith, indent_none k c s w)))

content_unindented : (j : ℕ) (s : List ℕ) → indent_at j (past_blanks s) ≡ 0
content_unindented j [] = refl
content_unindented j (c ∷ s) =
    test (is_space_or_tab c) (λ e. rw e (content_unindented j s))
    (λ e. let black : indent_at j (c ∷ s) ≡ 0 =
    by_width c (λ w b. absurd (let f : true ≡ false = sym b ∙ e in cc))
    (λ w b. absurd (let f : true ≡ false = sym b ∙ e in cc))
    (λ w b. indent_none j c s w) in
    rw e black)

content_content : (s : List ℕ) → past_blanks (past_blanks s) ≡ past_blanks s
content_content [] = refl
content_content (c ∷ s) = test (is_space_or_tab c) (λ e. rw e (content_content s)) (λ e. rw (e, e) refl)

-- white space, by its columns, and the rest
white_and_rest : (j : ℕ) (s : List ℕ) → indent_at j s + 4 * length (past_blanks s) ≤ 4 * length s
white_and_rest j [] = omega arith
white_and_rest j (c ∷ s) =
    by_width c
    (λ w b. let more = white_and_rest (suc j) s in
    let same : past_blanks (c ∷ s) ≡ past_blanks s = rw b refl in
    omega (arith, indent_one j c s w, more, ap length same))
    (λ w b. let more = white_and_rest (j + to_stop j) s in
    let same : past_blanks (c ∷ s) ≡ past_blanks s = rw b refl in
    omega (arith, indent_tab j c s w, (stop_near j).1, more, ap length same))
    (λ w b. let same : past_blanks (c ∷ s) ≡ c ∷ s = rw b refl in
    omega (arith, indent_none j c s w, ap length same))

-- a line at a column, with so many spaces before its text, its indentation and its content
module _ (k m i : ℕ) (s t : List ℕ) (e : i ≡ indent_at k (spaces m s)) (f : t ≡ past_blanks s) where
  pub content_place : i + 4 * length t ≤ m + 4 * length s
  content_place = omega (arith, e, indent_spaces k m s, white_and_rest (k + m) s, ap length f)

  pub uncut_line : (n : ℕ) → i ≤ n → line (k + i) t ≡ cut_at k n (spaces m s)
  uncut_line n l =
      let place : k + indent_at k (spaces m s) ≡ k + i = omega (arith, e) in
      let same : past_blanks (spaces m s) ≡ t = past_spaces m s ∙ sym f in
      sym (cut_all k n (spaces m s) (omega (arith, e)) ∙ ap (λ j. line j (past_blanks (spaces m s))) place
      ∙ ap (line (k + i)) same)

  pub uncut_indent : 0 ≡ indent_at (k + i) t
  uncut_indent = sym (ap (indent_at (k + i)) f ∙ content_unindented (k + i) s)

  pub uncut_content : t ≡ past_blanks t
  uncut_content = f ∙ sym (content_content s) ∙ sym (ap past_blanks f)

  pub few_indent : (n : ℕ) → n ≤ m → i - n ≡ indent_at (k + n) (spaces (m - n) s)
  few_indent n l =
      let place : k + n + (m - n) ≡ k + m = omega (arith, l) in
      let left : i - n ≡ m - n + indent_at (k + m) s = omega (arith, e, indent_spaces k m s, l) in
      sym (indent_spaces (k + n) (m - n) s ∙ ap (λ j. m - n + indent_at j s) place ∙ sym left)

  -- what the text is cut to
  module _ (n : ℕ) (l : Line) (c : l ≡ cut_at (k + m) (n - m) s) (g : m ≤ n) where
    pub cut_line : l ≡ cut_at k n (spaces m s)
    cut_line = c ∙ sym (cut_spaces k n m s g)

    pub left_indent : n ≤ i → i - n ≡ indent_at l.column l.text
    left_indent h =
        let left = cut_indent k n (spaces m s) (omega (arith, e)) in
        let same : i - n ≡ indent_at k (spaces m s) - n = omega (arith, e) in
        same ∙ sym left ∙ ap columns_of (sym cut_line)

    pub left_content : t ≡ past_blanks l.text
    left_content = f ∙ sym (cut_content (k + m) (n - m) s) ∙ ap (λ (x : Line). past_blanks x.text) (sym c)

empty_length : (t : List ℕ) → (length t == 0) ≡ is_empty t
empty_length [] = refl
empty_length (b ∷ t) = grind (arith, nat_tests)

pub blank_line : (m : ℕ) (s t : List ℕ) → t ≡ past_blanks s → (length t == 0) ≡ is_blank_text (spaces m s)
blank_line m s t f = empty_length t ∙ ap is_empty f ∙ blank_text s ∙ sym (blank_spaces m s)

-- how the columns of white space are counted
pub ruleset indent_steps = (columns_small, indent_next, indent_ends)

-- how a text is cut
pub ruleset cut_steps = (columns_small, cut_next, cut_partly, cut_ends)

-- A text at the beginning of a line: the line is one of a paragraph, by the backslashes that stand in it.
use Rattle.std.proofs.Common.{◌≡◌, ◌∙◌, refl, ap, sym, ℕ, suc, ◌+◌, Bool, true, false, List, [], ◌∷◌, ◌++◌, Option}
use Rattle.std.proofs.Common.{Some, None, codes, append_assoc, arith}
use Rattle.std.specs.Prelude.{length, drop, ◌==◌, ◌&&◌, ◌||◌, not, slice_index}
use Rattle.std.specs.List.{list_all, prefix_len}
use Rattle.std.specs.Char.{is_ascii_digit}
use Rattle.std.proofs.lemmas.Bool.{and_parts, eqb-true, not-true}
use Rattle.htmd_lexical.specs.Characters.{is_one_of}
use Rattle.htmd_lexical.specs.CharacterClasses.{leading_run, behind_run}
use Rattle.htmd_text.specs.EscapedPlaces.{with_backslashes, is_place}
use Rattle.htmd_commonmark.specs.declared.text_escape.Place.{Place}
use Rattle.htmd_commonmark.specs.LineMarks.{line_mark, begins_block, ends_marker}
use Rattle.htmd_commonmark.specs.TextEscapes.{may_be_escaped, may_be_in_tag, is_inline_mark, is_marked}
use Rattle.htmd_commonmark_reading.specs.Characters.{is_space_or_tab}
use Rattle.htmd_commonmark_reading.specs.BlockStarts.{is_empty_or_blank}
use Rattle.htmd_document.specs.NormalInlines as normal
use Rattle.htmd_law_inlines.proofs.TextPieces.{test, differs, begins_no_tag}
use Rattle.htmd_law_inlines.proofs.ReferencePieces.{one_of}
use Rattle.htmd_law_inlines.proofs.TextMarks.{index_at, inline_at, mark_at, mark_is, line_mark_is, length_one}

-- ---- what follows in the line

-- what stands in the line after a text, as the writer knows it
abbrev pub IsNext : Option ℕ → List ℕ → Type 0
IsNext None m = m ≡ []
IsNext (Some g) [] = ⊥
IsNext (Some g) (h ∷ m) =
    (is_one_of (codes "`*[]!<_~\n") g ≡ true) × ((g == 10) ≡ true → is_one_of (codes "\\ ") h ≡ true)
    × ((g == 10) ≡ false → is_one_of (codes "`*_~<[]!\\") h ≡ true)

abbrev pub heads : (ℕ → Bool) → List ℕ → Bool
heads p [] = false
heads p (c ∷ s) = p c

pub next_not : (p : ℕ → Bool) (after : Option ℕ) (m : List ℕ)
    → list_all (λ c. not (p c)) (codes "`*_~<[]!\\ ") ≡ true → IsNext after m → heads p m ≡ false
next_not p None m t n = ap (heads p) n
next_not p (Some g) [] t n = absurd n
next_not p (Some g) (h ∷ m) t n =
    let both : (c : ℕ) → is_one_of (codes "`*_~<[]!\\ ") c ≡ true → p c ≡ false =
    λ c e. not-true (p c) (one_of (λ c. not (p c)) (codes "`*_~<[]!\\ ") c e t) in
    test (g == 10)
    (λ e. both h (one_of (is_one_of (codes "`*_~<[]!\\ ")) (codes "\\ ") h (n.1 e) refl))
    (λ e. both h (one_of (is_one_of (codes "`*_~<[]!\\ ")) (codes "`*_~<[]!\\") h (n.2 e) refl))

pub next_tag : (after : Option ℕ) (m : List ℕ) → IsNext after m → may_be_in_tag after ≡ false
    → begins_no_tag m ≡ true
next_tag None m n e = ap begins_no_tag n
next_tag (Some g) [] n e = absurd n
next_tag (Some g) (h ∷ m) n e =
    test (g == 10)
    (λ x. one_of (λ c. begins_no_tag (c ∷ [])) (codes "\\ ") h (n.1 x) refl)
    (λ x. let y = one_of (λ c. may_be_in_tag (Some c) || (c == 10)) (codes "`*[]!<_~\n") g n.0 refl in
    let z : false ≡ true = rw (e, x) at y in absurd (cc))

pub next_escapes : (after : Option ℕ) (m : List ℕ) → IsNext after m → may_be_escaped after ≡ true
next_escapes None m n = refl
next_escapes (Some g) [] n = absurd n
next_escapes (Some g) (h ∷ m) n = one_of (λ c. may_be_escaped (Some c)) (codes "`*[]!<_~\n") g n.0 refl

-- what ends no marker is there
pub marker_goes_on : (after : Option ℕ) (marked : ℕ → Bool) (k : ℕ) (v m : List ℕ) → IsNext after m
    → list_all normal.is_line_byte v ≡ true → ends_marker v after ≡ false
    → is_empty_or_blank (with_backslashes marked k v ++ m) ≡ false
marker_goes_on None marked k [] m n p e = absurd (cc)
marker_goes_on (Some g) marked k [] [] n p e = absurd n
marker_goes_on (Some g) marked k [] (h ∷ m) n p e =
    not-true (is_space_or_tab h) (one_of (λ c. not (is_space_or_tab c)) (codes "`*_~<[]!\\") h (n.2 e) refl)
marker_goes_on after marked k (d ∷ v) m n p e =
    let q = (and_parts (normal.is_line_byte d) (list_all normal.is_line_byte v) p).0 in
    let t = differs normal.is_line_byte d 9 q refl in
    test (marked k) (λ x. rw x refl) (λ x. rw (x, e, t) refl)

-- ---- places without a backslash

pub unmarked : (place : Place) (s : List ℕ) (k : ℕ) → is_inline_mark place s k ≡ false
    → is_place (line_mark s place.after) k ≡ false → is_marked place s k ≡ false
unmarked place s k i l = rw i (go place.begins_line)
  where
    go : (b : Bool) → (b && is_place (line_mark s place.after) k) ≡ false
    go true = l
    go false = refl

pub inline_none : (place : Place) (s pre t : List ℕ) (c : ℕ) → s ≡ pre ++ (c ∷ t) → mark_at place pre c t
    ≡ false
    → is_inline_mark place s (length pre) ≡ false
inline_none place s pre t c e h = ap (λ l. is_inline_mark place l (length pre)) e ∙ inline_at place pre t c ∙ h

pub digit_unmarked : (place : Place) (s pre t : List ℕ) (c : ℕ) → s ≡ pre ++ (c ∷ t) → is_ascii_digit c
    ≡ true
    → is_marked place s (length pre) ≡ false
digit_unmarked place s pre t c e d =
    unmarked place s (length pre)
    (inline_none place s pre t c e
    (test (mark_at place pre c t)
    (λ h. let x = one_of (λ c. not (is_ascii_digit c)) (codes "`*[~]\\_<&!^") c (mark_is place pre t c h) refl in
    let y : false ≡ true = rw d at x in absurd (cc))
    (λ h. h)))
    (test (is_place (line_mark s place.after) (length pre))
    (λ h. let i : slice_index s (length pre) ≡ c = ap (λ l. slice_index l (length pre)) e ∙ index_at pre t c in
    let x = one_of (λ c. not (is_ascii_digit c)) (codes "=>|-+:#.)") (slice_index s (length pre))
    (line_mark_is s place.after (length pre) h) refl in
    let y : not (is_ascii_digit c) ≡ true = ap (λ n. not (is_ascii_digit n)) (sym i) ∙ x in
    let z : false ≡ true = rw d at y in absurd (cc))
    (λ h. h))

pub sign_unmarked : (place : Place) (t0 pre t : List ℕ) (c : ℕ) → begins_block 35 t0 place.after ≡ false
    → 35 ∷ t0 ≡ pre ++ (c ∷ t) → (c == 35) ≡ true → is_marked place (35 ∷ t0) (length pre) ≡ false
sign_unmarked place t0 pre t c b e d =
    let none : line_mark (35 ∷ t0) place.after ≡ None = rw b refl in
    unmarked place (35 ∷ t0) (length pre)
    (inline_none place (35 ∷ t0) pre t c e (rw (eqb-true c 35 d) refl))
    (ap (λ o. is_place o (length pre)) none)

-- ---- a run at the beginning

pub record Run (p : ℕ → Bool) (marked : ℕ → Bool) (whole t m : List ℕ) (k : ℕ) : Type 0 where
  pub front : List ℕ
  pub whole_is : whole ≡ front ++ drop (prefix_len p t) t
  pub place : length front ≡ k + prefix_len p t
  pub run_len : length (leading_run p (with_backslashes marked k t ++ m)) ≡ prefix_len p t
  pub rest :
      behind_run p (with_backslashes marked k t ++ m)
      ≡ with_backslashes marked (length front) (drop (prefix_len p t) t) ++ m

pub no_run : (p : ℕ → Bool) (m : List ℕ) → heads p m ≡ false
    → (leading_run p m ≡ []) × (behind_run p m ≡ m)
no_run p [] h = (refl, refl)
no_run p (c ∷ m) h = (rw h refl, rw h refl)

pub run_of : (p : ℕ → Bool) (marked : ℕ → Bool) (whole m : List ℕ) → heads p m ≡ false → p 92 ≡ false
    → ((pre t : List ℕ) (c : ℕ) → whole ≡ pre ++ (c ∷ t) → p c ≡ true → marked (length pre) ≡ false)
    → (pre t : List ℕ) (k : ℕ) → whole ≡ pre ++ t → length pre ≡ k → Run p marked whole t m k
run_of p marked whole m h b u pre [] k e l = record {
  front = pre;
  whole_is = e;
  place = omega arith;
  run_len = ap length (no_run p m h).0;
  rest = (no_run p m h).1;
}
run_of p marked whole m h b u pre (c ∷ t) k e l =
    test (p c)
    (λ x. let n = prefix_len p t in
    let e' : whole ≡ (pre ++ (c ∷ [])) ++ t = e ∙ sym (append_assoc pre (c ∷ []) t) in
    let l' : length (pre ++ (c ∷ [])) ≡ suc k = let y = length_one pre c in omega arith in
    let i = run_of p marked whole m h b u (pre ++ (c ∷ [])) t (suc k) e' l' in
    let len : prefix_len p (c ∷ t) ≡ suc n = rw x (let z : 1 + n ≡ suc n = omega arith in z) in
    let dropped : drop (prefix_len p (c ∷ t)) (c ∷ t) ≡ drop n t = ap (λ j. drop j (c ∷ t)) len in
    let no : marked k ≡ false = ap marked (sym l) ∙ u pre t c e x in
    let w : with_backslashes marked k (c ∷ t) ++ m ≡ c ∷ (with_backslashes marked (suc k) t ++ m) = rw no refl in
    let r : leading_run p (c ∷ (with_backslashes marked (suc k) t ++ m))
    ≡ c ∷ leading_run p (with_backslashes marked (suc k) t ++ m) = rw x refl in
    let s : behind_run p (c ∷ (with_backslashes marked (suc k) t ++ m))
    ≡ behind_run p (with_backslashes marked (suc k) t ++ m) = rw x refl in
    let at : length i.front ≡ suc k + n = i.place in
    record {
      front = i.front;
      whole_is = i.whole_is ∙ ap (λ d. i.front ++ d) (sym dropped);
      place = let q : length i.front ≡ k + suc n = omega arith in q ∙ ap (λ j. k + j) (sym len);
      run_len = ap (λ y. length (leading_run p y)) w ∙ ap length r ∙ ap suc i.run_len ∙ sym len;
      rest = ap (behind_run p) w ∙ s ∙ i.rest ∙ ap (λ d. with_backslashes marked (length i.front) d ++ m)
          (sym dropped);
    })
    (λ x. let len : prefix_len p (c ∷ t) ≡ 0 = rw x refl in
    let dropped : drop (prefix_len p (c ∷ t)) (c ∷ t) ≡ c ∷ t = ap (λ j. drop j (c ∷ t)) len in
    let first : heads p (with_backslashes marked k (c ∷ t) ++ m) ≡ false =
    test (marked k) (λ y. rw y b) (λ y. rw y x) in
    let none = no_run p (with_backslashes marked k (c ∷ t) ++ m) first in
    record {
      front = pre;
      whole_is = e ∙ ap (λ d. pre ++ d) (sym dropped);
      place = let q : length pre ≡ k + 0 = omega arith in q ∙ ap (λ j. k + j) (sym len);
      run_len = ap length none.0 ∙ sym len;
      rest = none.1 ∙ ap (λ d. with_backslashes marked k d ++ m) (sym dropped)
          ∙ ap (λ j. with_backslashes marked j (drop (prefix_len p (c ∷ t)) (c ∷ t)) ++ m) (sym l);
    })

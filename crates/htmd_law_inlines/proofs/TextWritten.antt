-- What is written of a text is the text with backslashes, at the end of a heading too.
use Rattle.std.proofs.Common.{◌≡◌, ◌∙◌, refl, ap, sym, ℕ, suc, ◌+◌, ◌-◌, ◌<◌, Bool, true, false, List, [], ◌∷◌, ◌++◌}
use Rattle.std.proofs.Common.{Option, length, arith, inl, inr}
use Rattle.std.specs.Prelude.{is_none, not, ◌&&◌, ◌||◌, ◌==◌, take, slice_index, nat_lt}
use Rattle.std.specs.List.{suffix_len, prefix_len}
use Rattle.std.proofs.lemmas.Bool.{eqb-true, eq-eqb, ne_eqb, and_parts, or_parts, or_cases, or_right, and_left}
use Rattle.std.proofs.lemmas.Bool.{and_right}
use Rattle.std.proofs.lemmas.List.{append_assoc, take_at, reverse-append}
use Rattle.htmd_lexical.specs.CharacterClasses.{is_empty}
use Rattle.htmd_text.specs.EscapedPlaces.{with_backslashes}
use Rattle.htmd_commonmark.specs.declared.line.Line.{Line}
use Rattle.htmd_commonmark.specs.declared.text_escape.Place.{Place}
use Rattle.htmd_commonmark.specs.TextEscapes.{is_marked}
use Rattle.htmd_commonmark.specs.TextEscapes as text
use Rattle.htmd_commonmark.specs.InlineMarkdown.{place_of, is_number_sign, ends_in_closing_signs, with_last_escaped}
use Rattle.htmd_commonmark.specs.InlineMarkdown.{with_text, is_end_of_heading}
use Rattle.htmd_commonmark.specs.declared.inline_ends.Following.{Following}
use Rattle.htmd_text.specs.EscapedPlaces.{is_place}
use Rattle.htmd_commonmark.specs.LineMarks.{line_mark}
use Rattle.htmd_commonmark.specs.WrittenText.{Written, wrote, is_heading, is_one_line, begins_line}
use Rattle.htmd_commonmark.specs.declared.line.LineKind.{LineKind}
use Rattle.htmd_commonmark.specs.declared.line.LineKind.TheVariants.{Paragraph, Heading, Cell}
use Rattle.htmd_law_inlines.proofs.TextPieces.{test}
use Rattle.std.specs.Char.{is_ascii_punctuation}
use Rattle.htmd_law_inlines.proofs.TextMarks.{MarksAll, marks_all, index_at, length_one, inline_at}
use Rattle.htmd_law_inlines.proofs.RowsRead.{beyond, beyond_length, marks_append, snoc}

-- ---- the end of a heading

-- the same places, and the last
abbrev and_last : (ℕ → Bool) → ℕ → ℕ → Bool
and_last marked n k = marked k || (k + 1 == n)

or_no : (x y : Bool) → y ≡ false → (x || y) ≡ x
or_no true y h = refl
or_no false y h = h

not_last : (marked : ℕ → Bool) (n k : ℕ) → k + 1 < n → and_last marked n k ≡ marked k
not_last marked n k h = or_no (marked k) (k + 1 == n) (ne_eqb (k + 1) n (λ e. absurd (omega arith)))

same_marks : (marked : ℕ → Bool) (n : ℕ) (q : List ℕ) (k : ℕ) → k + length q < n
    → with_backslashes (and_last marked n) k q ≡ with_backslashes marked k q
same_marks marked n [] k h = refl
same_marks marked n (c ∷ q) k h =
    let e = not_last marked n k (omega arith) in
    let r = same_marks marked n q (suc k) (omega arith) in
    test (marked k) (λ m. rw (e, m) (ap (λ l. 92 ∷ c ∷ l) r)) (λ m. rw (e, m) (ap (λ l. c ∷ l) r))

-- where a sign is the last, it is this one
last_sign : (s q pre t : List ℕ) (c : ℕ) → s ≡ q ++ (35 ∷ []) → s ≡ pre ++ (c ∷ t) → length pre + 1
    ≡ length s → c ≡ 35
last_sign s q pre t c e f h =
    let l : length s ≡ length q + 1 = ap length e ∙ length_one q 35 in
    let n : length pre ≡ length q = omega arith in
    sym (index_at pre t c) ∙ ap (λ x. slice_index x (length pre)) (sym f ∙ e)
    ∙ ap (slice_index (q ++ (35 ∷ []))) n
    ∙ index_at q [] 35

marks_last : (place : Place) (s q : List ℕ) (marked : ℕ → Bool) → s ≡ q ++ (35 ∷ [])
    → MarksAll place s marked
    → MarksAll place s (and_last marked (length s))
marks_last place s q marked e m = record {
  punctuation = λ pre t c f h.
      elim (or_cases (marked (length pre)) (length pre + 1 == length s) h) as (λ x. is_ascii_punctuation c ≡ true) [
        | inl x ↦ m.punctuation pre t c f x
        | inr x ↦ ap is_ascii_punctuation (last_sign s q pre t c e f (eqb-true (length pre + 1) (length s) x))
      ];
  none_left = λ pre t c f h. m.none_left pre t c f (or_parts (marked (length pre)) (length pre + 1 == length s) h).0;
  rows = λ pre t f.
      or_no (marked (length pre)) (length pre + 1 == length s)
      (ne_eqb (length pre + 1) (length s) (λ x. let y = last_sign s q pre t 95 e f x in absurd (omega arith)))
      ∙ m.rows pre t f;
}

pub cut_one : (y : List ℕ) (c : ℕ) → take (length (y ++ (c ∷ [])) - 1) (y ++ (c ∷ [])) ≡ y
cut_one y c =
    let l = length_one y c in
    let e : length (y ++ (c ∷ [])) - 1 ≡ length y = omega arith in
    ap (λ n. take n (y ++ (c ∷ []))) e ∙ take_at y (c ∷ []) (length y) refl

-- a backslash before the last sign is one more place
last_written : (s q : List ℕ) (marked : ℕ → Bool) → s ≡ q ++ (35 ∷ []) → marked (length q) ≡ false
    → with_last_escaped (with_backslashes marked 0 s) ≡ with_backslashes (and_last marked (length s)) 0 s
last_written s q marked e h =
    let n = length s in
    let l : n ≡ length q + 1 = ap length e ∙ length_one q 35 in
    let x : beyond q 0 ≡ length q = beyond_length q 0 ∙ (omega arith) in
    let here : with_backslashes marked (beyond q 0) (35 ∷ []) ≡ 35 ∷ [] = rw (x, h) refl in
    let there : with_backslashes (and_last marked n) (beyond q 0) (35 ∷ []) ≡ 92 ∷ 35 ∷ [] =
    rw (x, or_right (marked (length q)) (length q + 1 == n) (eq-eqb (length q + 1) n (sym l))) refl in
    let w : with_backslashes marked 0 s ≡ with_backslashes marked 0 q ++ (35 ∷ []) =
    ap (with_backslashes marked 0) e ∙ marks_append marked q (35 ∷ []) 0
    ∙ ap (λ u. with_backslashes marked 0 q ++ u) here in
    ap with_last_escaped w ∙ ap (λ u. u ++ (92 ∷ 35 ∷ [])) (cut_one (with_backslashes marked 0 q) 35)
    ∙ ap (λ u. u ++ (92 ∷ 35 ∷ [])) (sym (same_marks marked n q 0 (omega arith)))
    ∙ ap (λ u. with_backslashes (and_last marked n) 0 q ++ u) (sym there)
    ∙ sym (marks_append (and_last marked n) q (35 ∷ []) 0) ∙ ap (with_backslashes (and_last marked n) 0) (sym e)

-- what ends in closing signs ends in one
ends_in_sign : (y : List ℕ) (c : ℕ) → ends_in_closing_signs (y ++ (c ∷ [])) ≡ true → c ≡ 35
ends_in_sign y c h =
    test (c == 35) (λ e. eqb-true c 35 e)
    (λ e. let z : suffix_len is_number_sign (y ++ (c ∷ [])) ≡ 0 =
    ap (prefix_len is_number_sign) (reverse-append y (c ∷ [])) ∙ rw e refl in
    let v = and_parts (nat_lt 0 (suffix_len is_number_sign (y ++ (c ∷ [])))) _ h in
    let u : false ≡ true = rw z at v.0 in absurd (cc))

heading_is_one_line : (kind : LineKind) → is_heading kind ≡ true → is_one_line kind ≡ true
heading_is_one_line Paragraph h = absurd (cc)
heading_is_one_line Heading h = refl
heading_is_one_line Cell h = absurd (cc)

-- a sign in a heading has no backslash of its own
sign_unmarked : (line : Line) (so_far : List ℕ) (after : Option ℕ) (s q : List ℕ) → is_heading line.kind
    ≡ true
    → s ≡ q ++ (35 ∷ []) → is_marked (place_of line so_far after) s (length q) ≡ false
sign_unmarked line so_far after s q h e =
    let place = place_of line so_far after in
    or_no (text.is_inline_mark place s (length q)) (place.begins_line && is_place (line_mark s after) (length q))
    (and_left place.begins_line (is_place (line_mark s after) (length q))
    (and_right (begins_line so_far) (not (is_one_line line.kind)) (ap not (heading_is_one_line line.kind h))))
    ∙ ap (λ x. text.is_inline_mark place x (length q)) e ∙ inline_at place q [] 35

last_is_sign : (s q : List ℕ) (c : ℕ) (marked : ℕ → Bool) → s ≡ q ++ (c ∷ [])
    → ends_in_closing_signs (with_backslashes marked 0 s) ≡ true → c ≡ 35
last_is_sign s q c marked e h =
    let w = ap (with_backslashes marked 0) e ∙ marks_append marked q (c ∷ []) 0 in
    let h' : ends_in_closing_signs (with_backslashes marked 0 q ++ with_backslashes marked (beyond q 0) (c ∷ []))
    ≡ true =
    ap ends_in_closing_signs (sym w) ∙ h in
    test (marked (beyond q 0))
    (λ m. ends_in_sign (with_backslashes marked 0 q ++ (92 ∷ [])) c
    (ap ends_in_closing_signs (append_assoc (with_backslashes marked 0 q) (92 ∷ []) (c ∷ [])) ∙ rw m at h'))
    (λ m. ends_in_sign (with_backslashes marked 0 q) c (rw m at h'))

-- ---- the text

-- a text is written with backslashes before all marks
pub record IsTextWritten (line : Line) (w : Written) (f : Following) (s : List ℕ) : Type 0 where
  pub marked : ℕ → Bool
  pub marks : MarksAll (place_of line w.text f.after) s marked
  pub is : with_text line w f s ≡ wrote w (with_backslashes marked 0 s)

as_it_is : (line : Line) (w : Written) (f : Following) (s : List ℕ)
    → (is_end_of_heading line f && ends_in_closing_signs (text.escaped (place_of line w.text f.after) s)) ≡ false
    → IsTextWritten line w f s
as_it_is line w f s e = record {
  marked = is_marked (place_of line w.text f.after) s;
  marks = marks_all (place_of line w.text f.after) s;
  is = rw e refl;
}

pub text_written : (line : Line) (w : Written) (f : Following) (s : List ℕ) → is_empty s ≡ false
    → IsTextWritten line w f s
text_written line w f [] n = absurd (cc)
text_written line w f (x ∷ r) n =
    let s = x ∷ r in
    let v = snoc x r in
    let place = place_of line w.text f.after in
    let marked = is_marked place s in
    test (is_end_of_heading line f && ends_in_closing_signs (text.escaped place s))
    (λ e. let p = and_parts (is_end_of_heading line f) (ends_in_closing_signs (text.escaped place s)) e in
    let h = (and_parts (is_heading line.kind) f.is_last (and_parts (is_heading line.kind && f.is_last)
    (is_none f.after) p.0).0).0 in
    let sign = last_is_sign s v.front v.last marked v.is p.1 in
    let is : s ≡ v.front ++ (35 ∷ []) = v.is ∙ ap (λ c. v.front ++ (c ∷ [])) sign in
    record {
      marked = and_last marked (length s);
      marks = marks_last place s v.front marked is (marks_all place s);
      is = rw e (ap (wrote w)
          (last_written s v.front marked is (sign_unmarked line w.text f.after s v.front h is)));
    })
    (λ e. as_it_is line w f s e)

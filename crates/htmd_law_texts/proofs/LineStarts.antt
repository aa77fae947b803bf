-- A line begins no block, underlines nothing and is no delimiter row, by its first characters.
use Rattle.std.proofs.Common.{◌≡◌, ◌∙◌, refl, ap, ℕ, zero, suc, Bool, true, false, List, [], ◌∷◌, ◌++◌, Option, Some}
use Rattle.std.proofs.Common.{None, append_assoc}
use Rattle.std.specs.Prelude.{length, drop, ◌+◌, ◌==◌, ◌&&◌, if◌then◌else◌, reverse, nat_le}
use Rattle.std.specs.List.{list_all}
use Rattle.std.proofs.lemmas.Bool.{and_parts, eqb-true}
use Rattle.std.proofs.lemmas.List.{reverse-append, reverse-reverse}
use Rattle.htmd_document.specs.declared.document.Alignment.{Alignment}
use Rattle.htmd_lexical.specs.CharacterClasses.{first_is, behind_run}
use Rattle.htmd_commonmark_reading.specs.Characters.{is_space_or_tab, past_blanks, stripped, stripped_end}
use Rattle.htmd_commonmark_reading.specs.Lines.{line, marks, onto_first, after_marker, cut}
use Rattle.htmd_commonmark_reading.specs.Tables.{cells, without_first_bar, split_at_bars, without_blank_last}
use Rattle.htmd_commonmark_reading.specs.Tables.{cell_texts, with_bars, is_delimiter, has_hyphens_alone, without_colon}
use Rattle.htmd_commonmark_reading.specs.Tables.{alignments_of, one_more_alignment, delimiter_row}
use Rattle.htmd_commonmark_reading.specs.LeafBlocks.{underline, underline_of, delimiter_row_of}
use Rattle.htmd_commonmark_reading.specs.Boxes.{quoting}
use Rattle.htmd_commonmark_reading.specs.BlockStarts.{After, alone, under, Start, no_start, first_line, Sign}
use Rattle.htmd_commonmark_reading.specs.BlockStarts.{quote_sign, heading_sign, fence_sign, tag_sign, rule_sign}
use Rattle.htmd_commonmark_reading.specs.BlockStarts.{bullet_or_rule, bullet, digit, no_sign, sign, started, started_by}
use Rattle.htmd_commonmark_reading.specs.BlockStarts.{fresh, behind_quote, behind_padding, heading_start, fence_start}
use Rattle.htmd_commonmark_reading.specs.BlockStarts.{html_start, unless_rule, item_start, if_numbered, code_start}
use Rattle.htmd_commonmark_reading.specs.BlockStarts.{digits, number_of, delimiter}
use Rattle.htmd_law_blocks.specs.LineTexts.{IsFirstLine, IsFurtherLine, IsNotOf}
use Rattle.htmd_law_blocks.proofs.LinesLemmas.{black_indent}
use Rattle.htmd_law_inlines.proofs.TextPieces.{test}
use mathlib.Core.List.{reverse-cons}

-- ---- the ends of a line

pub behind_at : (p : ℕ → Bool) (r t : List ℕ) (f : ℕ) → p f ≡ false
    → behind_run p (r ++ (f ∷ t)) ≡ behind_run p r ++ (f ∷ t)
behind_at p [] t f h = rw h refl
behind_at p (c ∷ r) t f h = test (p c) (λ e. rw e (behind_at p r t f h)) (λ e. rw e refl)

pub strip_at : (p : ℕ → Bool) (u v : List ℕ) (f : ℕ) → p f ≡ false
    → stripped_end p (u ++ (f ∷ v)) ≡ u ++ (f ∷ stripped_end p v)
strip_at p u v f h =
    let a : reverse (u ++ (f ∷ v)) ≡ reverse v ++ (f ∷ reverse u) =
    reverse-append u (f ∷ v) ∙ ap (λ l. l ++ reverse u) (reverse-cons f v)
    ∙ append_assoc (reverse v) (f ∷ []) (reverse u)
    in
    let b = behind_run p (reverse v) in
    ap (λ l. reverse (behind_run p l)) a ∙ ap reverse (behind_at p (reverse v) (reverse u) f h)
    ∙ reverse-append b (f ∷ reverse u) ∙ ap (λ l. l ++ reverse b)
    (reverse-cons f (reverse u) ∙ ap (λ l. l ++ (f ∷ [])) (reverse-reverse u))
    ∙ append_assoc u (f ∷ []) (reverse b)

pub strip_cons : (c : ℕ) (s : List ℕ) → is_space_or_tab c ≡ false
    → stripped (c ∷ s) ≡ c ∷ stripped_end is_space_or_tab s
strip_cons c s h =
    let e : past_blanks (c ∷ s) ≡ c ∷ s = rw h refl in
    ap (stripped_end is_space_or_tab) e ∙ strip_at is_space_or_tab [] s c h

-- ---- delimiter rows

pub alone_if : (e : ℕ) (s : List ℕ) → (e == 45) ≡ false
    → has_hyphens_alone (reverse (without_colon (reverse (e ∷ s)))) ≡ false
alone_if e s h = ap (λ l. has_hyphens_alone (reverse (without_colon l))) (reverse-cons e s) ∙ go (reverse s)
  where
    go : (r : List ℕ) → has_hyphens_alone (reverse (without_colon (r ++ (e ∷ [])))) ≡ false
    go [] = test (e == 58) (λ x. rw x refl) (λ x. rw (x, h) refl)
    go (x ∷ r) =
        test (x == 58)
        (λ y. rw (y, reverse-append r (e ∷ []), h) refl)
        (λ y. rw (y, reverse-cons x (r ++ (e ∷ [])), reverse-append r (e ∷ []), h) refl)

pub not_delimiter : (c : ℕ) (s : List ℕ) → (c == 45) ≡ false → (c == 58) ≡ false
    → is_delimiter (c ∷ s) ≡ false
not_delimiter c s h i =
    let e : without_colon (c ∷ s) ≡ c ∷ s = rw i refl in
    ap (λ l. has_hyphens_alone (reverse (without_colon (reverse l)))) e ∙ alone_if c s h

pub no_row : (x : List ℕ) (xs : List (List ℕ)) → is_delimiter x ≡ false → alignments_of (x ∷ xs) ≡ None
no_row x xs h = go (alignments_of xs)
  where
    go : (o : Option (List Alignment)) → one_more_alignment x o ≡ None
    go None = refl
    go (Some more) = rw h refl

-- the first of texts, and the others
abbrev pub first_of : List (List ℕ) → List ℕ
first_of [] = []
first_of (l ∷ ls) = l

abbrev pub rest_of : List (List ℕ) → List (List ℕ)
rest_of [] = []
rest_of (l ∷ ls) = ls

pub onto : (c : ℕ) (ls : List (List ℕ)) → onto_first c ls ≡ (c ∷ first_of ls) ∷ rest_of ls
onto c [] = refl
onto c (l ∷ ls) = refl

pub split_cons : (b c : ℕ) (s : List ℕ) → (c == 124) ≡ false
    → split_at_bars b (c ∷ s) ≡ (c ∷ first_of (split_at_bars c s)) ∷ rest_of (split_at_bars c s)
split_cons b c s h = rw h (onto c (split_at_bars c s))

-- the first cell of a row that begins with no white space and no bar
pub cells_cons : (c : ℕ) (s : List ℕ) → is_space_or_tab c ≡ false → (c == 124) ≡ false
    → (ls : List (List ℕ)) × (cells (c ∷ s)
    ≡ with_bars (stripped (c ∷ first_of (split_at_bars c (stripped_end is_space_or_tab s)))) ∷ ls)
cells_cons c s h b =
    let t = stripped_end is_space_or_tab s in
    let l = first_of (split_at_bars c t) in
    let w = without_last (c ∷ l) (rest_of (split_at_bars c t)) (rw h refl) in
    let bar : without_first_bar (c ∷ t) ≡ c ∷ t = rw b refl in (
      cell_texts w.0,
      ap (λ x. cell_texts (without_blank_last (split_at_bars 0 (without_first_bar x)))) (strip_cons c s h)
          ∙ ap (λ x. cell_texts (without_blank_last (split_at_bars 0 x))) bar
          ∙ ap (λ x. cell_texts (without_blank_last x)) (split_cons 0 c t b)
          ∙ ap cell_texts w.1,
    )
  where
    without_last : (x : List ℕ) (ls : List (List ℕ)) → list_all is_space_or_tab x ≡ false
        → (ms : List (List ℕ)) × (without_blank_last (x ∷ ls) ≡ x ∷ ms)
    without_last x [] h = ([], rw h refl)
    without_last x (y ∷ ls) h = (without_blank_last (y ∷ ls), refl)

bars_cons : (c : ℕ) (m : List ℕ) → (c == 45) ≡ false → (c == 58) ≡ false
    → is_delimiter (with_bars (c ∷ m)) ≡ false
bars_cons c m h i =
    test ((c == 92) && first_is 124 m)
    (λ e. rw e (barred m ((and_parts (c == 92) (first_is 124 m) e).1)))
    (λ e. rw e (not_delimiter c (with_bars m) h i))
  where
    barred : (m : List ℕ) → first_is 124 m ≡ true → is_delimiter (with_bars m) ≡ false
    barred [] e = absurd (cc)
    barred (x ∷ m) e =
        ap (λ y. is_delimiter (with_bars (y ∷ m))) (eqb-true x 124 e) ∙ not_delimiter 124 (with_bars m) refl refl

pub no_delimiters_by : (c : ℕ) (s : List ℕ) → is_space_or_tab c ≡ false → (c == 45) ≡ false → (c == 58)
    ≡ false
    → (c == 124) ≡ false → delimiter_row (c ∷ s) ≡ None
no_delimiters_by c s h i j b =
    let w = cells_cons c s h b in
    let l = first_of (split_at_bars c (stripped_end is_space_or_tab s)) in
    ap alignments_of w.1
    ∙ no_row (with_bars (stripped (c ∷ l))) w.0
    (ap (λ x. is_delimiter (with_bars x)) (strip_cons c l h) ∙ bars_cons c (stripped_end is_space_or_tab l) i j)

-- ---- lines

pub row_of_black : (k c : ℕ) (s : List ℕ) → is_space_or_tab c ≡ false
    → delimiter_row_of (line k (c ∷ s)) ≡ delimiter_row (c ∷ stripped_end is_space_or_tab s)
row_of_black k c s h =
    ap (λ n. if nat_le n 3 then delimiter_row (stripped (c ∷ s)) else None) (black_indent k (c ∷ s) h)
    ∙ ap delimiter_row (strip_cons c s h)

pub underline_of_black : (k c : ℕ) (s : List ℕ) → is_space_or_tab c ≡ false
    → underline_of (line k (c ∷ s)) ≡ underline (c ∷ stripped_end is_space_or_tab s)
underline_of_black k c s h =
    ap (λ n. if nat_le n 3 then underline (stripped (c ∷ s)) else None) (black_indent k (c ∷ s) h)
    ∙ ap underline (strip_cons c s h)

no_underline_by : (c : ℕ) (s : List ℕ) → (c == 61) ≡ false → (c == 45) ≡ false → underline (c ∷ s)
    ≡ None
no_underline_by c s h i = rw (h, i) refl

-- a character that begins a line of text unless it starts something
pub record IsLead (c : ℕ) : Type 0 where
  pub black : is_space_or_tab c ≡ false
  pub no_hyphen : (c == 45) ≡ false
  pub no_colon : (c == 58) ≡ false
  pub no_bar : (c == 124) ≡ false
  pub no_equals : (c == 61) ≡ false

pub further_by : (c : ℕ) (s : List ℕ) → IsLead c → ((k : ℕ) → started under (line k (c ∷ s)) ≡ no_start)
    → IsFurtherLine (c ∷ s)
further_by c s l h = record {
  black = l.black;
  starts = h;
  no_underline = λ k.
      underline_of_black k c s l.black ∙ no_underline_by c (stripped_end is_space_or_tab s) l.no_equals l.no_hyphen;
  no_delimiters = λ k.
      row_of_black k c s l.black
      ∙ no_delimiters_by c (stripped_end is_space_or_tab s) l.black l.no_hyphen l.no_colon l.no_bar;
}

pub not_of : (sign c : ℕ) (s : List ℕ) → is_space_or_tab c ≡ false → (c == sign) ≡ false
    → IsNotOf sign (c ∷ s)
not_of sign c s h e = rw h (rw e refl)

pub first_by : (c : ℕ) (s : List ℕ) → is_space_or_tab c ≡ false → (c == 45) ≡ false → IsNotOf 42 (c ∷ s)
    → ((k : ℕ) → started alone (line k (c ∷ s)) ≡ no_start) → IsFirstLine (c ∷ s)
first_by c s b n a h = record {
  black = b;
  starts = h;
  no_asterisks = a;
  no_hyphens = not_of 45 c s b n;
}

-- what a character of a kind starts, after so many columns of white space
abbrev pub start_at : ℕ → Sign → After → ℕ → ℕ → List ℕ → Start
start_at i x a k c s =
    let b = cut i (line k (c ∷ s)) in
    elim x [
      | quote_sign ↦ first_line (fresh quoting (behind_quote b) (started_by (marks s) zero alone (behind_quote b)))
      | heading_sign ↦ heading_start b.text
      | fence_sign ↦ fence_start i c b.text
      | tag_sign ↦ html_start a (c ∷ s) (drop 1 b.text)
      | rule_sign ↦ unless_rule c b.text no_start
      | bullet_or_rule ↦
          let r = after_marker 1 b in
          unless_rule c b.text (item_start a c None (suc i) r (started_by (marks s) zero alone (behind_padding r)))
      | bullet ↦
          let r = after_marker 1 b in
          item_start a c None (suc i) r (started_by (marks s) zero alone (behind_padding r))
      | digit ↦
          let n = length (digits b.text) in
          let r = after_marker (suc n) b in
          if_numbered b.text
          (item_start a (delimiter b.text) (Some (number_of b.text)) (suc n + i) r
          (started_by (marks s) n alone (behind_padding r)))
      | no_sign ↦ no_start
    ]

-- the same where none stands before it
abbrev pub start_by : Sign → After → ℕ → ℕ → List ℕ → Start
start_by x a k c s = start_at 0 x a k c s

-- a line that begins a paragraph or goes on with it
abbrev pub Both : List ℕ → Type 0
Both l = IsFirstLine l × IsFurtherLine l

pub both_by : (c : ℕ) (s : List ℕ) → IsLead c → (c == 42) ≡ false
    → ((a : After) (k : ℕ) → started a (line k (c ∷ s)) ≡ no_start) → Both (c ∷ s)
both_by c s l n h =
    (first_by c s l.black l.no_hyphen (not_of 42 c s l.black n) (h alone), further_by c s l (h under))

-- what a line that begins with no white space starts, by its first character
pub black_start : (a : After) (k c : ℕ) (s : List ℕ) → is_space_or_tab c ≡ false
    → started a (line k (c ∷ s)) ≡ start_by (sign c) a k c s
black_start a k c s h =
    let m : marks (c ∷ s) ≡ c ∷ marks s = rw h refl in
    ap (λ x. started_by x 0 a (line k (c ∷ s))) m
    ∙ ap (λ i. elim (nat_le i 3) [
      | false ↦ code_start a (line k (c ∷ s))
      | true ↦ start_at i (sign c) a k c s
    ]) (black_indent k (c ∷ s) h)

-- a character that starts nothing
pub plain_start : (a : After) (k c : ℕ) (s : List ℕ) → is_space_or_tab c ≡ false → sign c ≡ no_sign
    → started a (line k (c ∷ s)) ≡ no_start
plain_start a k c s h e = black_start a k c s h ∙ rw e refl

pub plain_line : (c : ℕ) (s : List ℕ) → IsLead c → (c == 42) ≡ false → sign c ≡ no_sign → Both (c ∷ s)
plain_line c s l n e = both_by c s l n (λ a k. plain_start a k c s l.black e)

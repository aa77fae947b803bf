-- Headings, fences and rules.
use Rattle.std.proofs.Common.{◌≡◌, ℕ, ◌+◌, ◌<◌, ◌≤◌, Bool, true, false, List, ◌∷◌, length, drop, get_or, refl, ap}
use Rattle.std.proofs.Common.{sym, ◌∙◌, arith}
use Rattle.std.proofs.lemmas.Bool.Decides.{nat_tests}
use Rattle.std.proofs.lemmas.List.{drop_more, reverse-reverse}
use Rattle.std.specs.List.{list_all}
use Rattle.std.specs.Prelude.{reverse, nat_le, ◌&&◌}
use Rattle.htmd_lexical.specs.CharacterClasses.{behind_run}
use Rattle.htmd_commonmark_reading.specs.Characters.{is_space_or_tab, stripped, stripped_end}
use Rattle.htmd_commonmark_reading.specs.Lines.{line, marks, spaces, indent_at}
use Rattle.htmd_commonmark_reading.specs.BlockStarts.{is_same, is_empty_or_blank, heading_text, closes_fence}
use Rattle.htmd_commonmark_reader.proofs.LinesLemmas.{spaces_content}

-- ---- rules

pub marks_skip : (s : List ℕ) (i : ℕ) → i < length s → is_space_or_tab (get_or s i 0) ≡ true
    → marks (drop i s) ≡ marks (drop (i + 1) s)
marks_skip s i l e = ap marks (drop_more s i 0 l) ∙ (rw e refl)

pub marks_take : (s : List ℕ) (i : ℕ) → i < length s → is_space_or_tab (get_or s i 0) ≡ false
    → marks (drop i s) ≡ get_or s i 0 ∷ marks (drop (i + 1) s)
marks_take s i l e = ap marks (drop_more s i 0 l) ∙ (rw e refl)

-- ---- headings

backwards : (s : List ℕ) → reverse (stripped_end (is_same 35) s) ≡ behind_run (is_same 35) (reverse s)
backwards s = reverse-reverse (behind_run (is_same 35) (reverse s))

pub heading_closed : (s whole opened : List ℕ) → whole ≡ stripped s → opened ≡ stripped_end (is_same 35) whole
    → is_empty_or_blank (reverse opened) ≡ true → stripped_end is_space_or_tab opened ≡ heading_text s
heading_closed s whole opened d e f =
    let back : reverse opened ≡ behind_run (is_same 35) (reverse (stripped s)) =
    ap reverse e ∙ backwards whole ∙ ap (λ t. behind_run (is_same 35) (reverse t)) d in
    let closed : is_empty_or_blank (behind_run (is_same 35) (reverse (stripped s))) ≡ true =
    ap is_empty_or_blank (sym back) ∙ f in
    rw (closed, sym back) refl

pub heading_open : (s whole opened : List ℕ) → whole ≡ stripped s → opened ≡ stripped_end (is_same 35) whole
    → is_empty_or_blank (reverse opened) ≡ false → whole ≡ heading_text s
heading_open s whole opened d e f =
    let back : reverse opened ≡ behind_run (is_same 35) (reverse (stripped s)) =
    ap reverse e ∙ backwards whole ∙ ap (λ t. behind_run (is_same 35) (reverse t)) d in
    let not_closed : is_empty_or_blank (behind_run (is_same 35) (reverse (stripped s))) ≡ false =
    ap is_empty_or_blank (sym back) ∙ f in
    d ∙ (rw not_closed (sym (reverse-reverse (stripped s))))

-- ---- fences

pub spaces_stripped : (n : ℕ) (s : List ℕ) → stripped (spaces n s) ≡ stripped s
spaces_stripped n s = ap (stripped_end is_space_or_tab) (spaces_content n s)

module _ (sign count k m i : ℕ) (s text : List ℕ) (e : i ≡ indent_at k (spaces m s)) (f : text ≡ stripped s)
  where
    closing_line : closes_fence sign count (line k (spaces m s))
        ≡ (nat_le i 3 && nat_le count (length text) && list_all (is_same sign) text)
    closing_line = let same : stripped (spaces m s) ≡ text = spaces_stripped m s ∙ sym f in rw (same, sym e) refl

    pub closing_deep : 3 < i → false ≡ closes_fence sign count (line k (spaces m s))
    closing_deep l = let deep : nat_le i 3 ≡ false = grind (arith, nat_tests) in sym (closing_line ∙ (rw deep refl))

    pub closing_short : i ≤ 3 → length text < count → false ≡ closes_fence sign count (line k (spaces m s))
    closing_short h l =
        let near : nat_le i 3 ≡ true = grind (arith, nat_tests) in
        let few : nat_le count (length text) ≡ false = grind (arith, nat_tests) in
        sym (closing_line ∙ (rw (near, few) refl))

    pub closing_all : (r : Bool) → i ≤ 3 → count ≤ length text → r ≡ list_all (is_same sign) text
        → r ≡ closes_fence sign count (line k (spaces m s))
    closing_all r h l q =
        let near : nat_le i 3 ≡ true = grind (arith, nat_tests) in
        let enough : nat_le count (length text) ≡ true = grind (arith, nat_tests) in
        q ∙ sym (closing_line ∙ (rw (near, enough) refl))

-- What a normalised cell holds.
use Rattle.std.proofs.Common.{◌≡◌, ℕ, suc, ◌+◌, ◌<◌, ◌≤◌, Bool, true, false, List, [], ◌∷◌, ◌++◌, length, get_or, drop}
use Rattle.std.proofs.Common.{append_assoc, refl, sym, ap, ◌∙◌, subst, arith, ⊎_elim, codes}
use Rattle.std.specs.Prelude.{reverse, not, ◌&&◌, ◌==◌, nat_lt}
use Rattle.std.specs.List.{between, flat_map, list_all}
use Rattle.std.specs.Str.{IsCharBoundary, IsUtf8, all_scalars, encode_utf8_all}
use Rattle.std.specs.Char.{encode_utf8}
use Rattle.std.proofs.lemmas.Bool.{and_parts, cases_Bool, false≢true, eqb-true}
use Rattle.std.proofs.lemmas.Bool.Decides.{nat_tests}
use Rattle.std.proofs.lemmas.List.{append-nil, reverse-append, drop_more, drop_all}
use Rattle.std.proofs.lemmas.List.Edits.{between_more, between_none}
use Rattle.std.proofs.lemmas.Slice.{between_to_end}
use Rattle.std.proofs.lemmas.List.Folds.{list_all-append}
use Rattle.std.proofs.lemmas.List.Concat.{flat_map-append}
use Rattle.std.proofs.lemmas.Str.{IsUtf8-nil, IsUtf8-append, IsUtf8-take, IsUtf8-drop, encode_ascii, inside_one}
use Rattle.std.proofs.lemmas.Str.{IsCharBoundary-start, IsCharBoundary-after_ascii}
use Rattle.htmd_lexical.specs.Characters.{line_feed, carriage_return, space, vertical_bar}
use Rattle.htmd_text.specs.Trims.{trimmed_text, trimmed_start}
use Rattle.htmd_lexical.specs.WhiteSpace.{is_document_white_space}
use Rattle.htmd_text.proofs.TrimsLemmas.{start_boundary, end_boundary, document_of_ascii}
use Rattle.htmd_markdown.specs.Tables.{in_cell, normalised_cell}
use Rattle.htmd_markdown.specs.CellBytes.{IsReplaced}
use Rattle.htmd_markdown.proofs.TrimmedTexts.{Begins, IsBare, trimmed_is, trimmed_between}
use lib.Utf8.{encode, scalar, low_scalar}

-- what stands for a byte, case by case
pub by_cases : (P : List ℕ → Type 0) (b : ℕ) → (b ≡ line_feed → P (space ∷ []))
    → (b ≡ carriage_return → P [])
    → (b ≡ vertical_bar → P (codes "&#124;"))
    → ((b == line_feed) ≡ false → (b == carriage_return) ≡ false → (b == vertical_bar) ≡ false
    → P (b ∷ []))
    → P (in_cell b)
by_cases P b at_line_feed at_return at_bar else_case =
    ⊎_elim
    (λ (yes : (b == line_feed) ≡ true). rw yes (at_line_feed (eqb-true b line_feed yes)))
    (λ (no : (b == line_feed) ≡ false).
    ⊎_elim
    (λ (yes : (b == carriage_return) ≡ true). rw (no, yes) (at_return (eqb-true b carriage_return yes)))
    (λ (no' : (b == carriage_return) ≡ false).
    ⊎_elim
    (λ (yes : (b == vertical_bar) ≡ true). rw (no, no', yes) (at_bar (eqb-true b vertical_bar yes)))
    (λ (no'' : (b == vertical_bar) ≡ false). rw (no, no', no'') (else_case no no' no''))
    (cases_Bool (b == vertical_bar)))
    (cases_Bool (b == carriage_return)))
    (cases_Bool (b == line_feed))

-- ---- white space at the ends

white_stays : (b : ℕ) → is_document_white_space b ≡ true → list_all is_document_white_space (in_cell b) ≡ true
white_stays b white =
    by_cases (λ l. list_all is_document_white_space l ≡ true) b (λ is. refl) (λ is. refl)
    (λ is. absurd (false≢true (sym (ap is_document_white_space is) ∙ white)))
    (λ f r v. ap (λ first. first && true) white)

white_in_cells : (s : List ℕ) → list_all is_document_white_space s ≡ true
    → list_all is_document_white_space (flat_map in_cell s) ≡ true
white_in_cells [] all = refl
white_in_cells (b ∷ s) all =
    let parts = and_parts (is_document_white_space b) (list_all is_document_white_space s) all in
    list_all-append is_document_white_space (in_cell b) (flat_map in_cell s)
    ∙ ap (λ front. front && list_all is_document_white_space (flat_map in_cell s)) (white_stays b parts.0)
    ∙ white_in_cells s parts.1

-- the text's first byte fails
abbrev Fails : (ℕ → Bool) → List ℕ → Type 0
Fails passes [] = ⊥
Fails passes (b ∷ s) = passes b ≡ false

fails_on : (passes : ℕ → Bool) (s t : List ℕ) → Fails passes s → Begins passes (s ++ t)
fails_on passes [] t fails = absurd fails
fails_on passes (b ∷ s) t fails = fails

begins_in : (f : ℕ → List ℕ) (passes : ℕ → Bool) → ((b : ℕ) → passes b ≡ false → Fails passes (f b))
    → (s : List ℕ)
    → Begins passes s → Begins passes (flat_map f s)
begins_in f passes fails [] begins = tt
begins_in f passes fails (b ∷ s) begins = fails_on passes (f b) (flat_map f s) (fails b begins)

bare_first : (b : ℕ) → is_document_white_space b ≡ false → Fails is_document_white_space (in_cell b)
bare_first b bare =
    by_cases (λ l. Fails is_document_white_space l) b
    (λ is. absurd (false≢true (sym bare ∙ ap is_document_white_space is)))
    (λ is. absurd (false≢true (sym bare ∙ ap is_document_white_space is)))
    (λ is. refl)
    (λ f r v. bare)

bare_last : (b : ℕ) → is_document_white_space b ≡ false → Fails is_document_white_space (reverse (in_cell b))
bare_last b bare =
    by_cases (λ l. Fails is_document_white_space (reverse l)) b
    (λ is. absurd (false≢true (sym bare ∙ ap is_document_white_space is)))
    (λ is. absurd (false≢true (sym bare ∙ ap is_document_white_space is)))
    (λ is. refl)
    (λ f r v. bare)

reverse-flat_map : (f : ℕ → List ℕ) (s : List ℕ)
    → reverse (flat_map f s) ≡ flat_map (λ b. reverse (f b)) (reverse s)
reverse-flat_map f [] = refl
reverse-flat_map f (b ∷ s) =
    reverse-append (f b) (flat_map f s)
    ∙ ap (λ l. l ++ reverse (f b)) (reverse-flat_map f s)
    ∙ ap (λ l. flat_map (λ c. reverse (f c)) (reverse s) ++ l) (sym (append-nil (reverse (f b))))
    ∙ sym (flat_map-append (λ c. reverse (f c)) (reverse s) (b ∷ []))
    ∙ ap (flat_map (λ c. reverse (f c))) (sym (reverse-append (b ∷ []) s))

-- a cell may as well be trimmed first
pub normalised_is : (cell : List ℕ)
    → normalised_cell cell ≡ flat_map in_cell (trimmed_text is_document_white_space cell)
normalised_is cell =
    let here = trimmed_between is_document_white_space cell in
    let middle = trimmed_text is_document_white_space cell in
    trimmed_is is_document_white_space (flat_map in_cell cell) (flat_map in_cell middle) (record {
      before = flat_map in_cell here.before;
      after = flat_map in_cell here.after;
      whole = ap (flat_map in_cell) here.whole ∙ flat_map-append in_cell here.before (middle ++ here.after)
          ∙ ap (λ l. flat_map in_cell here.before ++ l) (flat_map-append in_cell middle here.after);
      cut = white_in_cells here.before here.cut;
      cut_behind = white_in_cells here.after here.cut_behind;
      bare = record {
        front = begins_in in_cell is_document_white_space bare_first middle here.bare.front;
        back = subst (λ (l : List ℕ). Begins is_document_white_space l) (sym (reverse-flat_map in_cell middle))
            (begins_in (λ b. reverse (in_cell b)) is_document_white_space bare_last (reverse middle) here.bare.back);
      };
    })

-- ---- what a normalised cell lacks

-- the byte does not stand in the text
abbrev pub lacks : ℕ → List ℕ → Bool
lacks c s = list_all (λ b. not (b == c)) s

all_in_cells : (passes : ℕ → Bool) → ((b : ℕ) → list_all passes (in_cell b) ≡ true) → (s : List ℕ)
    → list_all passes (flat_map in_cell s) ≡ true
all_in_cells passes each [] = refl
all_in_cells passes each (b ∷ s) =
    list_all-append passes (in_cell b) (flat_map in_cell s)
    ∙ ap (λ front. front && list_all passes (flat_map in_cell s)) (each b)
    ∙ all_in_cells passes each s

no_bar : (b : ℕ) → lacks vertical_bar (in_cell b) ≡ true
no_bar b =
    by_cases (λ l. lacks vertical_bar l ≡ true) b (λ is. refl) (λ is. refl) (λ is. refl) (λ f r v. rw v refl)

no_line_feed : (b : ℕ) → lacks line_feed (in_cell b) ≡ true
no_line_feed b =
    by_cases (λ l. lacks line_feed l ≡ true) b (λ is. refl) (λ is. refl) (λ is. refl) (λ f r v. rw f refl)

-- ---- a normalised cell is a text

high_stays : (b : ℕ) → 128 ≤ b → in_cell b ≡ b ∷ []
high_stays b high =
    by_cases (λ l. l ≡ b ∷ []) b (λ is. absurd (omega arith)) (λ is. absurd (omega arith))
    (λ is. absurd (omega arith))
    (λ f r v. refl)

high_in_cells : (s : List ℕ) → ((k : ℕ) → k < length s → 128 ≤ get_or s k 0) → flat_map in_cell s ≡ s
high_in_cells [] high = refl
high_in_cells (b ∷ s) high =
    let first : 128 ≤ b = high 0 (omega arith) in
    ap (λ l. l ++ flat_map in_cell s) (high_stays b first)
    ∙ ap (λ l. b ∷ l) (high_in_cells s (λ k lt. high (suc k) (omega arith)))

low_text : (b : ℕ) → b < 128 → IsUtf8 (in_cell b ++ [])
unfolding encode
low_text b low =
    by_cases (λ l. IsUtf8 (l ++ [])) b
    (λ is. (space ∷ [], (refl, refl)))
    (λ is. IsUtf8-nil)
    (λ is. (codes "&#124;", (refl, refl)))
    (λ f r v. (b ∷ [], (ap (λ t. t && true) (low_scalar b (omega arith)), ap (λ l. l ++ []) (encode_ascii b low))))

high_byte : (x c : ℕ) → 128 ≤ c → (x < 128 → c ≡ x) → 128 ≤ x
high_byte x c high same =
    ⊎_elim
    (λ (yes : nat_lt x 128 ≡ true).
    let low : x < 128 = grind (arith, nat_tests) in
    let e = same low in omega arith)
    (λ (no : nat_lt x 128 ≡ false). grind (arith, nat_tests))
    (cases_Bool (nat_lt x 128))

character_in_cells : (c : ℕ) → scalar c ≡ true → IsUtf8 (flat_map in_cell (encode_utf8 c))
character_in_cells c good =
    ⊎_elim
    (λ (yes : nat_lt c 128 ≡ true).
    let low : c < 128 = grind (arith, nat_tests) in
    subst (λ (l : List ℕ). IsUtf8 (flat_map in_cell l)) (sym (encode_ascii c low)) (low_text c low))
    (λ (no : nat_lt c 128 ≡ false).
    let high : 128 ≤ c = grind (arith, nat_tests) in
    let whole : encode_utf8 c ≡ encode_utf8 c ++ [] = sym (append-nil (encode_utf8 c)) in
    let same = high_in_cells (encode_utf8 c) (λ k lt. high_byte (get_or (encode_utf8 c) k 0) c high
    (inside_one c [] (encode_utf8 c) k whole lt)) in
    subst (λ (l : List ℕ). IsUtf8 l) (sym same) (c ∷ [], (ap (λ t. t && true) good, append-nil (encode_utf8 c))))
    (cases_Bool (nat_lt c 128))

characters_in_cells : (cs : List ℕ) → all_scalars cs ≡ true → IsUtf8 (flat_map in_cell (encode_utf8_all cs))
characters_in_cells [] good = IsUtf8-nil
characters_in_cells (c ∷ cs) good =
    let parts = and_parts (scalar c) (all_scalars cs) good in
    subst (λ (l : List ℕ). IsUtf8 l) (sym (flat_map-append in_cell (encode_utf8 c) (encode_utf8_all cs)))
    (IsUtf8-append (flat_map in_cell (encode_utf8 c)) (flat_map in_cell (encode_utf8_all cs))
    (character_in_cells c parts.0) (characters_in_cells cs parts.1))

text_in_cells : (s : List ℕ) → IsUtf8 s → IsUtf8 (flat_map in_cell s)
text_in_cells s (cs, (good, e)) = subst (λ (l : List ℕ). IsUtf8 (flat_map in_cell l)) e (characters_in_cells cs good)

trimmed_is_text : (s : List ℕ) → IsUtf8 s → IsUtf8 (trimmed_text is_document_white_space s)
trimmed_is_text s text =
    let rest = trimmed_start is_document_white_space s in
    IsUtf8-take rest _ (IsUtf8-drop s _ text (start_boundary is_document_white_space s text document_of_ascii))
    (end_boundary is_document_white_space rest document_of_ascii)

-- a cell as it is written: a text with neither bars nor line feeds nor white space at its ends
pub record IsCell (cell : List ℕ) : Type 0 where
  pub text : IsUtf8 cell
  pub bare : IsBare is_document_white_space cell
  pub bars : lacks vertical_bar cell ≡ true
  pub line_feeds : lacks line_feed cell ≡ true

pub normalised_is_cell : (cell : List ℕ) → IsUtf8 cell → IsCell (normalised_cell cell)
normalised_is_cell cell text = record {
  text = trimmed_is_text (flat_map in_cell cell) (text_in_cells cell text);
  bare = (trimmed_between is_document_white_space (flat_map in_cell cell)).bare;
  bars = ap (lacks vertical_bar) (normalised_is cell) ∙ all_in_cells (λ b. not (b == vertical_bar)) no_bar
      (trimmed_text is_document_white_space cell);
  line_feeds = ap (lacks line_feed) (normalised_is cell) ∙ all_in_cells (λ b. not (b == line_feed)) no_line_feed
      (trimmed_text is_document_white_space cell);
}

-- ---- a cell, byte by byte

-- as far as i the cell is written, but for what stands from `from` on
pub record Normalising (cell old out : List ℕ) (from i : ℕ) : Type 0 where
  pub in_order : from ≤ i
  pub cut : IsCharBoundary cell from
  pub whole : out ++ (between from i cell ++ flat_map in_cell (drop i cell)) ≡ old ++ flat_map in_cell cell

pub normalising_none : (cell old : List ℕ) → IsUtf8 cell → Normalising cell old old 0 0
normalising_none cell old text = record {
  in_order = omega arith;
  cut = IsCharBoundary-start cell text;
  whole = refl;
}

pub normalising_stays : (cell old out : List ℕ) (from i : ℕ) → i < length cell
    → in_cell (get_or cell i 0) ≡ get_or cell i 0 ∷ [] → Normalising cell old out from i
    → Normalising cell old out from (i + 1)
normalising_stays cell old out from i lt stays was = record {
  in_order = omega (arith, was.in_order);
  cut = was.cut;
  whole =
      let b = get_or cell i 0 in
      let rest = flat_map in_cell (drop (i + 1) cell) in
      let first : flat_map in_cell (drop i cell) ≡ b ∷ rest = ap (flat_map in_cell) (drop_more cell i 0 lt)
      ∙ ap (λ l. l ++ rest) stays in
      let grown : between from (i + 1) cell ++ rest ≡ between from i cell ++ b ∷ rest =
      ap (λ l. l ++ rest) (between_more cell from i 0 was.in_order lt)
      ∙ append_assoc (between from i cell) (b ∷ []) rest in
      ap (λ l. out ++ l) (grown ∙ ap (λ l. between from i cell ++ l) (sym first)) ∙ was.whole;
}

pub normalising_replaced : (cell old out instead : List ℕ) (from i : ℕ) → IsUtf8 cell → i < length cell
    → IsReplaced (get_or cell i 0) instead → Normalising cell old out from i
    → Normalising cell old ((out ++ between from i cell) ++ instead) (i + 1) (i + 1)
normalising_replaced cell old out instead from i text lt here was = record {
  in_order = omega arith;
  cut = IsCharBoundary-after_ascii cell i text lt here.ascii;
  whole =
      let rest = flat_map in_cell (drop (i + 1) cell) in
      let first : flat_map in_cell (drop i cell) ≡ instead ++ rest = ap (flat_map in_cell) (drop_more cell i 0 lt)
      ∙ ap (λ l. l ++ rest) here.text in
      rw (between_none cell (i + 1), append_assoc, append_assoc)
      (ap (λ l. out ++ (between from i cell ++ l)) (sym first) ∙ was.whole);
}

pub normalising_all : (cell old out : List ℕ) (from i : ℕ) → length cell ≤ i → Normalising cell old out from i
    → out ++ between from (length cell) cell ≡ old ++ flat_map in_cell cell
normalising_all cell old out from i past was =
    let piece : between from (length cell) cell ≡ between from i cell =
    between_to_end cell from (length cell) (omega arith) ∙ sym (between_to_end cell from i past) in
    let ended : flat_map in_cell (drop i cell) ≡ [] = ap (flat_map in_cell) (drop_all i cell past) in
    rw piece (ap (λ l. out ++ l) (sym (append-nil (between from i cell))
    ∙ ap (λ l. between from i cell ++ l) (sym ended)) ∙ was.whole)

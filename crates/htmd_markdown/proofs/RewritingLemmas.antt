-- A text that is made of another one, written piece by piece.
use Rattle.std.proofs.Common.{◌≡◌, ℕ, ◌+◌, ◌<◌, ◌≤◌, List, [], ◌∷◌, ◌++◌, length, get_or, take, drop, refl, sym}
use Rattle.std.proofs.Common.{ap, ◌∙◌, arith, append_assoc}
use Rattle.std.specs.Prelude.{slice_index}
use Rattle.std.specs.List.{between}
use Rattle.std.specs.Str.{IsCharBoundary, IsUtf8}
use Rattle.std.proofs.lemmas.List.{append-nil, drop_more, drop_all, drop-drop, get_or-drop}
use Rattle.std.proofs.lemmas.List.Edits.{between_more, between_none}
use Rattle.std.proofs.lemmas.Slice.{between_to_end}
use Rattle.std.proofs.lemmas.Str.{IsCharBoundary-start, IsCharBoundary-after_ascii}
use Rattle.htmd_markdown.specs.Rewriting.{StandsFor}
use Rattle.htmd_text.proofs.EscapedPlacesLemmas.{below_ascii_end}

-- What was written after a text, the piece that waits, and what the rest becomes, are the whole.
pub record Rewriting (made_of : List ℕ → List ℕ) (s before out : List ℕ) (from i : ℕ) : Type 0 where
  pub in_order : from ≤ i
  pub cut : IsCharBoundary s from
  pub whole : out ++ (between from i s ++ made_of (drop i s)) ≡ before ++ made_of s

pub rewriting_none : (made_of : List ℕ → List ℕ) (s before : List ℕ) → IsUtf8 s
    → Rewriting made_of s before before 0 0
rewriting_none made_of s before text = record {
  in_order = omega arith;
  cut = IsCharBoundary-start s text;
  whole = refl;
}

pub rewriting_stays : (made_of : List ℕ → List ℕ) (s before out : List ℕ) (from i : ℕ) → i < length s
    → made_of (drop i s) ≡ take 1 (drop i s) ++ made_of (drop 1 (drop i s))
    → Rewriting made_of s before out from i → Rewriting made_of s before out from (i + 1)
rewriting_stays made_of s before out from i lt stays was = record {
  in_order = omega (arith, was.in_order);
  cut = was.cut;
  whole =
      let rest = made_of (drop (i + 1) s) in
      let first : made_of (drop i s) ≡ get_or s i 0 ∷ rest =
      stays ∙ ap (λ l. take 1 l ++ made_of (drop 1 l)) (drop_more s i 0 lt) in
      let piece = between_more s from i 0 was.in_order lt in
      let grown : between from (i + 1) s ++ rest ≡ between from i s ++ get_or s i 0 ∷ rest =
      ap (λ l. l ++ rest) piece ∙ append_assoc (between from i s) (get_or s i 0 ∷ []) rest in
      ap (λ l. out ++ l) (grown ∙ ap (λ l. between from i s ++ l) (sym first)) ∙ was.whole;
}

pub rewriting_replaced : (made_of : List ℕ → List ℕ) (s before out piece : List ℕ) (from i : ℕ) → IsUtf8 s
    → i < length s → StandsFor made_of (drop i s) piece → Rewriting made_of s before out from i
    → Rewriting made_of s before ((out ++ between from i s) ++ piece) (i + 1) (i + 1)
rewriting_replaced made_of s before out piece from i text lt here was = record {
  in_order = omega arith;
  cut =
      let place : slice_index (drop i s) 0 ≡ get_or s i 0 = get_or-drop i s 0 0
      ∙ ap (λ n. get_or s n 0) (omega arith) in
      let ascii = below_ascii_end (slice_index (drop i s) 0) here.ascii in
      IsCharBoundary-after_ascii s i text lt (omega arith);
  whole =
      let rest : made_of (drop i s) ≡ piece ++ made_of (drop (i + 1) s) = here.whole
      ∙ ap (λ l. piece ++ made_of l) (drop-drop 1 i s) in
      rw (between_none s (i + 1), append_assoc, append_assoc) (ap (λ l. out ++ (between from i s ++ l)) (sym rest)
      ∙ was.whole);
}

pub rewriting_all : (made_of : List ℕ → List ℕ) (s before out : List ℕ) (from i : ℕ) → length s ≤ i
    → made_of [] ≡ [] → Rewriting made_of s before out from i
    → out ++ between from (length s) s ≡ before ++ made_of s
rewriting_all made_of s before out from i past none was =
    let piece : between from (length s) s ≡ between from i s = between_to_end s from (length s) (omega arith)
    ∙ sym (between_to_end s from i past) in
    let ended : made_of (drop i s) ≡ [] = ap made_of (drop_all i s past) ∙ none in
    rw piece (ap (λ l. out ++ l) (sym (append-nil (between from i s)) ∙ ap (λ l. between from i s ++ l) (sym ended))
    ∙ was.whole)

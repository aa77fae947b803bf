-- Addresses and titles, written piece by piece.
use Rattle.std.proofs.Common.{◌≡◌, ℕ, ◌+◌, ◌<◌, Bool, true, false, List, [], ◌∷◌, ◌++◌, length, get_or, drop, take}
use Rattle.std.proofs.Common.{refl, sym, ap, ◌∙◌, arith, append_assoc, ⊎_elim}
use Rattle.std.specs.Prelude.{◌==◌, ◌&&◌, slice_get, codes}
use Rattle.std.specs.Char.{is_ascii}
use Rattle.std.specs.List.{between, list_all}
use Rattle.std.proofs.lemmas.Bool.{or_cases, and_parts}
use Rattle.std.proofs.lemmas.Bool.Decides.{nat_tests}
use Rattle.std.proofs.lemmas.List.{drop_more}
use Rattle.std.proofs.lemmas.List.Edits.{between_more, between_none}
use Rattle.std.proofs.lemmas.Str.{IsCharBoundary-before_ascii}
use Rattle.htmd_lexical.specs.Characters.{ampersand, backslash, is_one_of}
use Rattle.htmd_lexical.specs.CharacterClasses.{is_empty}
use Rattle.htmd_text.proofs.EscapedPlacesLemmas.{below_ascii_end}
use Rattle.htmd_markdown.specs.Rewriting.{StandsFor}
use Rattle.htmd_markdown.proofs.AddressesLemmas.{among_is_ascii}
use Rattle.htmd_markdown.proofs.RewritingLemmas.{Rewriting}
use Rattle.htmd_commonmark.specs.References.{is_reference, begins_reference}
use Rattle.htmd_commonmark.specs.Addresses.{may_escape, is_escaped, escaped_in}

-- a backslash before a byte that stays
pub rewriting_escaped : (made_of : List ℕ → List ℕ) (s before out : List ℕ) (from i : ℕ) → i < length s
    → made_of (drop i s) ≡ backslash ∷ get_or s i 0 ∷ made_of (drop (i + 1) s)
    → is_ascii (get_or s i 0) ≡ true
    → Rewriting made_of s before out from i
    → Rewriting made_of s before ((out ++ between from i s) ++ backslash ∷ []) i (i + 1)
rewriting_escaped made_of s before out from i lt here ascii was = record {
  in_order = omega arith;
  cut = IsCharBoundary-before_ascii s i lt (below_ascii_end (get_or s i 0) ascii);
  whole =
      let piece : between i (i + 1) s ≡ get_or s i 0 ∷ [] =
      between_more s i i 0 (omega arith) lt ∙ ap (λ l. l ++ get_or s i 0 ∷ []) (between_none s i) in
      rw (piece, append_assoc, append_assoc) (ap (λ l. out ++ (between from i s ++ l)) (sym here) ∙ was.whole);
}

-- what stands for the byte at a place

pub escaped_at : (signs s : List ℕ) (i : ℕ) → i < length s
    → is_escaped signs (get_or s i 0) (drop (i + 1) s) ≡ true
    → escaped_in signs (drop i s) ≡ backslash ∷ get_or s i 0 ∷ escaped_in signs (drop (i + 1) s)
escaped_at signs s i lt here = rw (drop_more s i 0 lt, here) refl

pub reference_at : (signs s : List ℕ) (i : ℕ) → i < length s
    → is_escaped signs (get_or s i 0) (drop (i + 1) s) ≡ false → begins_reference (drop i s) ≡ true
    → StandsFor (escaped_in signs) (drop i s) (codes "&amp;")
reference_at signs s i lt other here =
    let both : ((get_or s i 0 == ampersand) && is_reference (drop (i + 1) s)) ≡ true =
    ap begins_reference (sym (drop_more s i 0 lt)) ∙ here in
    let first = (and_parts (get_or s i 0 == ampersand) (is_reference (drop (i + 1) s)) both).0 in
    rw (drop_more s i 0 lt) (record { ascii = grind (arith, nat_tests); whole = rw (other, both) refl })

pub stays_at : (signs s : List ℕ) (i : ℕ) → i < length s
    → is_escaped signs (get_or s i 0) (drop (i + 1) s) ≡ false → begins_reference (drop i s) ≡ false
    → escaped_in signs (drop i s) ≡ take 1 (drop i s) ++ escaped_in signs (drop 1 (drop i s))
stays_at signs s i lt other none =
    let neither : ((get_or s i 0 == ampersand) && is_reference (drop (i + 1) s)) ≡ false =
    ap begins_reference (sym (drop_more s i 0 lt)) ∙ none in
    rw (drop_more s i 0 lt, other, neither) refl

backslash_ascii : (b : ℕ) (rest : Bool) → ((b == backslash) && rest) ≡ true → is_ascii b ≡ true
backslash_ascii b rest e = let first = (and_parts (b == backslash) rest e).0 in grind (arith, nat_tests)

pub escaped_is_ascii : (signs s : List ℕ) (i : ℕ) (rest : List ℕ) → list_all is_ascii signs ≡ true
    → is_escaped signs (get_or s i 0) rest ≡ true → is_ascii (get_or s i 0) ≡ true
escaped_is_ascii signs s i rest all e =
    ⊎_elim (among_is_ascii signs s i all) (backslash_ascii (get_or s i 0) (may_escape (slice_get rest 0)))
    (or_cases (is_one_of signs (get_or s i 0)) ((get_or s i 0 == backslash) && may_escape (slice_get rest 0)) e)

pub filled_if : (s : List ℕ) → (length s == 0) ≡ false → is_empty s ≡ false
filled_if [] e = cc
filled_if (b ∷ s) e = refl

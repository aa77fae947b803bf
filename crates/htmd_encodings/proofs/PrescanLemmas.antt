-- The search goes on from ever shorter bytes.
use Rattle.std.proofs.Common.{◌≡◌, ℕ, zero, suc, ◌<◌, ◌≤◌, ◌&&◌, ◌||◌, List, [], ◌∷◌, length, drop, refl}
use Rattle.std.proofs.Common.{◌∙◌, ap, arith, length-drop, Option, Some, None, codes}
use Rattle.htmd_lexical.proofs.Cases.{test}
use Rattle.htmd_lexical.proofs.RunsLemmas.{behind_within}
use Rattle.htmd_lexical.specs.CharacterClasses.{behind_run, begins_in_any_case, begins_with, first_is}
use Rattle.htmd_lexical.specs.Characters.{exclamation_mark, question_mark, slash, less_than_sign, greater_than_sign}
use Rattle.htmd_lexical.specs.TagReading.{is_other}
use Rattle.htmd_encodings.specs.declared.encodings.Encoding.{Encoding}
use Rattle.htmd_encodings.specs.Attributes.{Tag, tag, is_unquoted_byte}
use Rattle.htmd_encodings.specs.Declarations.{in_attributes}
use Rattle.htmd_encodings.specs.Prescan.{Found, said, onward, said_or, found_in_meta, behind_tag, begins_with_gap}
use Rattle.htmd_encodings.specs.Prescan.{is_tag}
use Rattle.htmd_encodings.specs.Prescan.{found_after, after_sign, search_found, search_at, search_within}
use Rattle.htmd_encodings.proofs.AttributesLemmas.{size_of_rest, tag_size}
use Rattle.htmd_encodings.proofs.RunsLemmas.{after_first_within}

-- how many bytes are left
abbrev size_of : Found → ℕ
size_of (said encoding) = 0
size_of (onward s) = length s

or_size : (encoding : Option Encoding) (s : List ℕ) → size_of (said_or encoding s) ≤ length s
or_size None s = omega arith
or_size (Some encoding) s = omega arith

meta_size : (t : Tag) → size_of (found_in_meta t) ≤ size_of_rest t
meta_size None = omega arith
meta_size (Some (a, s)) = or_size (in_attributes a) s

behind_size : (t : Tag) → length (behind_tag t) ≤ size_of_rest t
behind_size None = omega arith
behind_size (Some (a, s)) = omega arith

sign_size : (s : List ℕ) → length (after_sign s) ≤ length s
sign_size s =
    let k = behind_within (is_other greater_than_sign) s in
    let d = length-drop 1 (behind_run (is_other greater_than_sign) s) in
    omega arith

found_size : (s : List ℕ) → size_of (found_after s) ≤ length s
found_size s =
    let one = length-drop 1 s in
    let four = length-drop 4 s in
    let comment = after_first_within (codes "-->") (drop 1 s) in
    let in_meta = meta_size (tag (drop 4 s)) in
    let meta_rest = tag_size (drop 4 s) in
    let name : List ℕ = behind_run is_unquoted_byte s in
    let in_tag = behind_size (tag name) in
    let tag_rest = tag_size name in
    let parts = behind_within is_unquoted_byte s in
    let sign = sign_size s in
    test (begins_with (codes "!--") s) (λ e. rw e (omega arith))
    (λ e. test (begins_in_any_case (codes "meta") s && begins_with_gap (drop 4 s)) (λ f. rw (e, f) (omega arith))
    (λ f. test (is_tag s) (λ g. rw (e, f, g) (omega arith))
    (λ g. test (first_is exclamation_mark s || first_is slash s || first_is question_mark s)
    (λ h. rw (e, f, g, h) (omega arith)) (λ h. rw (e, f, g, h) (omega arith)))))

pub found_shorter : (s rest : List ℕ) → onward rest ≡ found_after s → length rest ≤ length s
found_shorter s rest e =
    let a : length rest ≡ size_of (found_after s) = ap size_of e in
    let b = found_size s in
    omega arith

-- the number of places doesn't matter, once it is more than that of bytes
search_same : (j k : ℕ) (s : List ℕ) → length s < j → length s < k → search_within j s ≡ search_within k s
search_same zero k s l m = absurd (omega arith)
search_same (suc j) zero s l m = absurd (omega arith)
search_same (suc j) (suc k) s l m =
    at (behind_run (is_other less_than_sign) s) (behind_within (is_other less_than_sign) s)
    (λ r o. search_same j k r (omega arith) (omega arith))
  where
    found : (f : Found) (t : List ℕ) → f ≡ found_after t → length t < length s
        → ((r : List ℕ) → length r < length s → search_within j r ≡ search_within k r)
        → search_found f (search_within j) ≡ search_found f (search_within k)
    found (said encoding) t e o go = refl
    found (onward r) t e o go = let h = found_shorter t r e in go r (omega arith)

    at : (t : List ℕ) → length t ≤ length s
        → ((r : List ℕ) → length r < length s → search_within j r ≡ search_within k r)
        → search_at t (search_within j) ≡ search_at t (search_within k)
    at [] o go = refl
    at (b ∷ t) o go = found (found_after t) t refl (omega arith) go

-- what follows the next `<`
abbrev pub at_sign : List ℕ → List ℕ
at_sign s = behind_run (is_other less_than_sign) s

-- the search goes on after it
pub search_more : (s sign after rest : List ℕ) (whole : Option Encoding) → sign ≡ at_sign s → 1 ≤ length sign
    → after ≡ drop 1 sign → onward rest ≡ found_after after
    → search_within (suc (length s)) s ≡ whole → search_within (suc (length rest)) rest ≡ whole
search_more s [] after rest whole e l d f h = absurd (omega arith)
search_more s (b ∷ t) after rest whole e l d f h =
    let k = found_shorter after rest f in
    let m : length after ≡ length t = ap length d in
    let n : suc (length t) ≡ length (at_sign s) = ap length e in
    let o = behind_within (is_other less_than_sign) s in
    let same : search_within (suc (length rest)) rest ≡ search_within (length s) rest =
    search_same (suc (length rest)) (length s) rest (omega arith) (omega arith) in
    same ∙ (ap (λ x. search_found x (search_within (length s))) (f ∙ ap found_after d)
    ∙ (ap (λ t. search_at t (search_within (length s))) e ∙ h))

pub search_smaller : (s sign after rest : List ℕ) → sign ≡ at_sign s → 1 ≤ length sign
    → after ≡ drop 1 sign
    → onward rest ≡ found_after after → length rest < length s
search_smaller s [] after rest e l d f = absurd (omega arith)
search_smaller s (b ∷ t) after rest e l d f =
    let k = found_shorter after rest f in
    let m : length after ≡ length t = ap length d in
    let n : suc (length t) ≡ length (at_sign s) = ap length e in
    let o = behind_within (is_other less_than_sign) s in
    omega arith

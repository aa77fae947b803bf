-- Texts and addresses without bytes that get a backslash in some places.
use Rattle.std.proofs.Common.{◌≡◌, ℕ, zero, suc, Bool, false, List, [], ◌∷◌, get_or}
use Rattle.std.proofs.Common.{refl, ap, arith, codes, is_some}
use Rattle.std.specs.Prelude.{◌==◌, ◌&&◌, ◌||◌, slice_get, Option, Some, None}
use Rattle.std.specs.List.{list_any}
use Rattle.std.proofs.lemmas.Bool.{or_parts}
use Rattle.std.proofs.lemmas.Bool.Decides.{nat_tests}
use Rattle.htmd_lexical.specs.Characters.{ampersand, backslash, exclamation_mark, is_one_of, less_than_sign}
use Rattle.htmd_lexical.specs.Characters.{right_square_bracket, underscore}
use Rattle.htmd_text.specs.EscapedPlaces.{with_backslashes, is_place}
use Rattle.htmd_commonmark.specs.Addresses.{destination, escaped_in, may_escape, needs_brackets}
use Rattle.htmd_commonmark.specs.LineMarks.{line_mark}
use Rattle.htmd_commonmark.specs.PlainTexts.{may_be_escaped, may_be_marked}
use Rattle.htmd_commonmark.specs.References.{is_reference}
use Rattle.htmd_commonmark.specs.TextEscapes.{Place, escaped, is_inline_mark, is_marked}

-- ---- texts

unmarked : (marked : ℕ → Bool) (k : ℕ) (s : List ℕ) → ((i : ℕ) → marked i ≡ false)
    → with_backslashes marked k s ≡ s
unmarked marked k [] none = refl
unmarked marked k (b ∷ s) none = rw (none k) (ap (λ t. b ∷ t) (unmarked marked (suc k) s none))

plain_at : (s : List ℕ) (k : ℕ) → list_any may_be_marked s ≡ false → may_be_marked (get_or s k 0) ≡ false
plain_at [] k none = refl
plain_at (b ∷ s) zero none = (or_parts (may_be_marked b) (list_any may_be_marked s) none).0
plain_at (b ∷ s) (suc k) none = plain_at s k (or_parts (may_be_marked b) (list_any may_be_marked s) none).1

no_mark : (b : ℕ) (p q r t u v w x y : Bool) → may_be_marked b ≡ false
    → (is_one_of (codes "`*[~") b
    || ((b == right_square_bracket) && p)
    || ((b == backslash) && q)
    || ((b == underscore) && r)
    || ((b == less_than_sign) && t)
    || ((b == ampersand) && u)
    || ((b == exclamation_mark) && v && w)
    || (is_one_of (codes "^") b && x && y)) ≡ false
no_mark b p q r t u v w x y e = grind (arith, nat_tests)

pub no_place : (place : Option ℕ) (k : ℕ) → is_some place ≡ false → is_place place k ≡ false
no_place None k e = refl
no_place (Some n) k e = cc

-- without such bytes, and without a mark at the beginning of a line, a text stays as it is
pub plain_escaped : (place : Place) (s : List ℕ) → list_any may_be_marked s ≡ false
    → ((k : ℕ) → (place.begins_line && is_place (line_mark s place.after) k) ≡ false) → escaped place s ≡ s
plain_escaped place s none mark =
    unmarked (is_marked place s) 0 s (λ k. both (is_inline_mark place s k) _
    (no_mark (get_or s k 0) _ _ _ _ _ _ _ _ _ (plain_at s k none)) (mark k))
  where
    both : (a b : Bool) → a ≡ false → b ≡ false → (a || b) ≡ false
    both a b e f = rw e f

-- ---- addresses

kept : (b : ℕ) (p q : Bool) → may_be_escaped b ≡ false
    → ((is_one_of (codes "()<>") b || ((b == backslash) && p)) ≡ false) × (((b == ampersand) && q) ≡ false)
kept b p q e = (grind (arith, nat_tests), grind (arith, nat_tests))

-- without such bytes an address stays as it is
pub plain_address : (s : List ℕ) → list_any may_be_escaped s ≡ false → escaped_in (codes "()<>") s ≡ s
plain_address [] none = refl
plain_address (b ∷ s) none =
    let parts = or_parts (may_be_escaped b) (list_any may_be_escaped s) none in
    let told = kept b (may_escape (slice_get s 0)) (is_reference s) parts.0 in
    rw (told.0, told.1) (ap (λ t. b ∷ t) (plain_address s parts.1))

pub plain_destination : (s : List ℕ) → needs_brackets s ≡ false → list_any may_be_escaped s ≡ false
    → destination s ≡ s
plain_destination s bare none = rw bare (plain_address s none)

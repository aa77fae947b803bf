-- Backslashes of Markdown stand before ASCII punctuation.
use Rattle.std.proofs.Common.{◌≡◌, ℕ, ◌+◌, ◌-◌, ◌<◌, Bool, true, false, cond, List, [], ◌∷◌, get_or, drop, codes, refl}
use Rattle.std.proofs.Common.{sym, ap, ◌∙◌, arith, Option, Some, None, ⊎_elim}
use Rattle.std.specs.Prelude.{◌==◌, ◌&&◌, ◌||◌, slice_index, nat_lt}
use Rattle.std.specs.Char.{is_ascii, is_ascii_digit, is_ascii_punctuation}
use Rattle.std.proofs.lemmas.Bool.{or_cases, or_parts, and_parts}
use Rattle.std.proofs.lemmas.Bool.Decides.{nat_tests}
use Rattle.std.proofs.lemmas.List.{get_or-drop}
use Rattle.std.proofs.lemmas.List.Sums.{prefix_len_passes}
use Rattle.htmd_lexical.specs.Characters.{full_stop, space, less_than_sign, backslash, is_one_of}
use Rattle.htmd_text.specs.ListMarkers.{is_atx_heading, numerals_len, dots_len, ordered_item_dot}
use Rattle.htmd_text.specs.EscapedPlaces.{is_escaped, is_always_escaped, is_html_opener, begins_block}
use Rattle.htmd_text.specs.EscapedPlaces.{numbered_item_dot}
use Rattle.htmd_text.specs.EscapedPlaces.{is_place}
use Rattle.htmd_text.specs.EscapeKinds.{AreAscii}
use Rattle.htmd_text.specs.declared.escape.EscapeKind.TheVariants.{Markdown}

some_if : (b : Bool) (place k : ℕ) → is_place (cond b (Some place) None) k ≡ true
    → (b ≡ true) × (k ≡ place)
some_if true place k e = (refl, grind (arith, nat_tests))
some_if false place k e = (cc, cc)

pub place_if : (b : Bool) (o : Option ℕ) (k : ℕ) → is_place (cond b o None) k ≡ true → is_place o k ≡ true
place_if true o k e = e
place_if false o k e = cc

-- a dot stands at that place
pub dot_at : (s : List ℕ) (k : ℕ) → is_place (ordered_item_dot s) k ≡ true → get_or s k 0 ≡ full_stop
dot_at s k e =
    let found = some_if (nat_lt 0 (numerals_len s) && nat_lt 0 (dots_len s)
    && (slice_index s (numerals_len s + dots_len s) == space)) (numerals_len s + dots_len s - 1) k e in
    let some = (and_parts (nat_lt 0 (numerals_len s)) (nat_lt 0 (dots_len s))
    (and_parts (nat_lt 0 (numerals_len s) && nat_lt 0 (dots_len s)) _ found.0).0).1 in
    let dots : 0 < dots_len s = grind (arith, nat_tests) in
    let passes = prefix_len_passes (λ b. b == full_stop) (drop (numerals_len s) s) (dots_len s - 1) 0 (omega arith) in
    let same : get_or (drop (numerals_len s) s) (dots_len s - 1) 0 ≡ get_or s k 0 =
    get_or-drop (numerals_len s) s (dots_len s - 1) 0 ∙ ap (λ n. get_or s n 0) (omega (arith, found.1)) in
    sym same ∙ grind (arith, nat_tests)

heading_first : (s : List ℕ) → is_atx_heading s ≡ true → is_ascii_punctuation (slice_index s 0) ≡ true
heading_first [] e = cc
heading_first (b ∷ s) e = grind (arith, nat_tests, and_parts)

sign_is_punctuation : (b next : ℕ)
    → (is_one_of (codes "=~>") b || (is_one_of (codes "-+") b && (next == space))) ≡ true
    → is_ascii_punctuation b ≡ true
sign_is_punctuation b next e = grind (arith, nat_tests)

block_first : (s : List ℕ) → begins_block s ≡ true → is_ascii_punctuation (slice_index s 0) ≡ true
block_first [] e = cc
block_first (b ∷ s) e =
    ⊎_elim (sign_is_punctuation b (slice_index s 0)) (heading_first (b ∷ s))
    (or_cases (is_one_of (codes "=~>") b || (is_one_of (codes "-+") b && (slice_index s 0 == space)))
    (is_atx_heading (b ∷ s)) e)

special_is_punctuation : (b : ℕ) → is_always_escaped b ≡ true → is_ascii_punctuation b ≡ true
special_is_punctuation b e = grind (arith, nat_tests)

html_is_punctuation : (b : ℕ) (opens : Bool) → ((b == less_than_sign) && opens) ≡ true
    → is_ascii_punctuation b ≡ true
html_is_punctuation b opens e = let first = (and_parts (b == less_than_sign) opens e).0 in grind (arith, nat_tests)

numbered_dot : (s : List ℕ) (k : ℕ) → is_place (numbered_item_dot s) k ≡ true
    → is_ascii_punctuation (slice_index s k) ≡ true
numbered_dot s k e = let dot = dot_at s k (place_if (is_ascii_digit (slice_index s 0)) (ordered_item_dot s) k e) in
    rw dot refl

begins_at : (s : List ℕ) (k : ℕ) → ((k == 0) && begins_block s) ≡ true
    → is_ascii_punctuation (slice_index s k) ≡ true
begins_at s k e =
    let parts = and_parts (k == 0) (begins_block s) e in
    let start : k ≡ 0 = grind (arith, nat_tests) in
    rw start (block_first s parts.1)

-- what gets a backslash is ASCII punctuation
pub marked_is_punctuation : (s : List ℕ) (k : ℕ) → is_escaped s k ≡ true
    → is_ascii_punctuation (slice_index s k) ≡ true
marked_is_punctuation s k e =
    let special = is_always_escaped (slice_index s k) in
    let html = is_html_opener s k in
    let begins = (k == 0) && begins_block s in
    let dot = is_place (numbered_item_dot s) k in
    ⊎_elim
    (λ x. ⊎_elim
    (λ y. ⊎_elim (special_is_punctuation (slice_index s k)) (html_is_punctuation (slice_index s k) _)
    (or_cases special html y))
    (begins_at s k) (or_cases (special || html) begins x))
    (numbered_dot s k)
    (or_cases (special || html || begins) dot e)

pub punctuation_is_ascii : (b : ℕ) → is_ascii_punctuation b ≡ true → is_ascii b ≡ true
punctuation_is_ascii b e = grind (arith, nat_tests)

pub marks_are_ascii : (s : List ℕ) → AreAscii (Markdown (begins_block s) (numbered_item_dot s)) s
marks_are_ascii s k lt e = punctuation_is_ascii (slice_index s k) (marked_is_punctuation s k e)

-- a backslash always gets one
pub unmarked_is_no_backslash : (s : List ℕ) (k : ℕ) → is_escaped s k ≡ false
    → (slice_index s k == backslash) ≡ false
unmarked_is_no_backslash s k e =
    let special = is_always_escaped (slice_index s k) in
    let html = is_html_opener s k in
    let begins = (k == 0) && begins_block s in
    let dot = is_place (numbered_item_dot s) k in
    let plain = (or_parts special html
    (or_parts (special || html) begins (or_parts (special || html || begins) dot e).0).0).0 in
    (or_parts (slice_index s k == backslash) _ plain).0

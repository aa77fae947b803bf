-- How far the numeric characters at the front of a text go, one character at a time.
use Rattle.std.proofs.Common.{◌≡◌, ℕ, ◌+◌, ◌<◌, ◌≤◌, true, false, List, [], ◌∷◌, ◌++◌, length, get_or, take, drop, sym}
use Rattle.std.proofs.Common.{ap, ◌∙◌, arith, refl}
use Rattle.std.specs.Prelude.{◌-◌, ◌&&◌, ◌==◌, nat_lt, if◌then◌else◌, slice_index, encode_utf8_all, Option, Some, None}
use Rattle.std.specs.List.{prefix_len}
use Rattle.std.specs.Char.{len_utf8, is_ascii_digit}
use Rattle.std.specs.Bool.{beq}
use Rattle.std.specs.Str.{chars, IsUtf8}
use Rattle.std.proofs.lemmas.List.{take_more, take-append-drop, length-append, append-nil}
use Rattle.std.proofs.lemmas.List.Sums.{prefix_len-drop_yes, prefix_len-drop_no, prefix_len-drop_all}
use Rattle.std.proofs.lemmas.Str.{encodes-append, length-encode, encodes-chars}
use Rattle.unicode.specs.GeneralCategory.{general_category}
use Rattle.unicode.proofs.CategoryComputing.{ucd_category}
use Rattle.unicode.proofs.GeneralCategoryLemmas.{general_category_stepped}
use Rattle.unicode.proofs.Facts.{Stepped-below, same_from_beq}
use Rattle.htmd_lexical.specs.Characters.{space}
use Rattle.htmd_text.specs.ListMarkers.{is_number, is_numeric, numerals_len, dots_len, ordered_item_dot}

-- in ASCII the numeric characters are the digits
pub numeric-ascii : (c : ℕ) → c < 128 → is_numeric c ≡ is_ascii_digit c
unfolding ucd_category
numeric-ascii c small =
    same_from_beq _ _ (Stepped-below general_category general_category_stepped
    (λ x category. beq (is_number category) (is_ascii_digit x)) 128 refl c small)

-- what the first n characters take
abbrev pub taken : List ℕ → ℕ → ℕ
taken cs n = length (encode_utf8_all (take n cs))

taken_more : (cs : List ℕ) (n c : ℕ) → (n < length cs) × (c ≡ get_or cs n c)
    → taken cs (n + 1) ≡ taken cs n + len_utf8 c
taken_more cs n c here =
    let step = take_more cs n c here.0 in
    let same : take (n + 1) cs ≡ take n cs ++ c ∷ [] = step ∙ ap (λ x. take n cs ++ x ∷ []) (sym here.1) in
    let one = length-encode c in
    rw (same, encodes-append, length-append) (grind (arith, append-nil))

taken_le : (cs : List ℕ) (n : ℕ) → taken cs n ≤ length (encode_utf8_all cs)
taken_le cs n =
    let whole = ap (λ l. length (encode_utf8_all l)) (take-append-drop n cs) in
    let parts : length (encode_utf8_all (take n cs ++ drop n cs)) ≡ taken cs n
    + length (encode_utf8_all (drop n cs)) =
    ap length (encodes-append (take n cs) (drop n cs)) ∙ length-append (encode_utf8_all (take n cs))
    (encode_utf8_all (drop n cs)) in
    omega arith

pub taken_bound : (s : List ℕ) (n : ℕ) → IsUtf8 s → taken (chars s) n ≤ length s
taken_bound s n text = omega (arith, taken_le (chars s) n, ap length (encodes-chars s text))

-- the loop's state: this many characters were numeric
pub record NumericTo (cs : List ℕ) (n len : ℕ) : Type 0 where
  pub size : len ≡ taken cs n
  pub numeric : n + prefix_len is_numeric (drop n cs) ≡ prefix_len is_numeric cs

pub numeric_more : (cs : List ℕ) (n c len : ℕ) → (n < length cs) × (c ≡ get_or cs n c)
    → is_numeric c ≡ true
    → NumericTo cs n len → NumericTo cs (n + 1) (len + len_utf8 c)
numeric_more cs n c len here passing was =
    let passes = ap is_numeric (sym here.1) ∙ passing in
    let step = prefix_len-drop_yes is_numeric cs n c here.0 passes in
    record { size = omega (arith, taken_more cs n c here, was.size); numeric = omega (arith, was.numeric) }

pub numeric_stop : (s : List ℕ) (n c len : ℕ) → (n < length (chars s)) × (c ≡ get_or (chars s) n c)
    → is_numeric c ≡ false → NumericTo (chars s) n len → len ≡ numerals_len s
numeric_stop s n c len here failing was =
    let fails = ap is_numeric (sym here.1) ∙ failing in
    let step = prefix_len-drop_no is_numeric (chars s) n c here.0 fails in
    let stops : n ≡ prefix_len is_numeric (chars s) = omega (arith, was.numeric) in
    was.size ∙ ap (taken (chars s)) stops

pub numeric_end : (s : List ℕ) (n len : ℕ) → length (chars s) ≤ n → NumericTo (chars s) n len
    → len ≡ numerals_len s
numeric_end s n len past was =
    let step = prefix_len-drop_all is_numeric (chars s) n past in
    let stops : n ≡ prefix_len is_numeric (chars s) = omega (arith, was.numeric) in
    was.size ∙ ap (taken (chars s)) stops

abbrev dot_after : List ℕ → ℕ → ℕ → Option ℕ
dot_after s numerals dots =
    if nat_lt 0 numerals && nat_lt 0 dots && (slice_index s (numerals + dots) == space)
    then Some (numerals + dots - 1)
    else None

-- where the last dot is in the text
pub dot_told : (s bytes : List ℕ) (numerals dots : ℕ) → bytes ≡ s → numerals ≡ numerals_len s
    → dots ≡ dots_len s → dot_after bytes numerals dots ≡ ordered_item_dot s
dot_told s bytes numerals dots same number full =
    ap (λ l. dot_after l numerals dots) same ∙ ap (λ n. dot_after s n dots) number
    ∙ ap (dot_after s (numerals_len s)) full

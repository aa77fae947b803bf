-- The columns of a text, character by character.
use Rattle.std.proofs.Common.{◌≡◌, ℕ, suc, ◌+◌, ◌*◌, ◌<◌, ◌≤◌, ◌==◌, Bool, true, false, List, [], ◌∷◌, ◌++◌, length}
use Rattle.std.proofs.Common.{cond, refl, sym, ap, ◌∙◌, arith}
use Rattle.std.specs.Prelude.{◌&&◌, nat_le}
use Rattle.std.proofs.lemmas.Bool.{and_parts}
use Rattle.std.proofs.lemmas.Bool.Decides.{nat_tests}
use Rattle.ucd_table.specs.Rows.{Row, value_in}
use Rattle.ucd_normal.specs.CanonicalCombiningClassRows.{canonical_combining_class_rows}
use Rattle.ucd_east_asian.specs.EastAsianWidthRows.{east_asian_width_rows}
use Rattle.std.specs.List.{sum_by}
use Rattle.std.specs.Str.{IsAscii, IsUtf8, chars}
use Rattle.std.proofs.lemmas.List.Sums.{sum_by-cons}
use Rattle.std.proofs.lemmas.Str.{chars-nil, chars_past_char, encodes-chars, length-le-encodes}
use Rattle.unicode.specs.CanonicalCombiningClass.{canonical_combining_class}
use Rattle.unicode.specs.EastAsianWidth.{east_asian_width}
use Rattle.unicode.specs.declared.properties.EastAsianWidth.{EastAsianWidth}
use Rattle.unicode.specs.declared.properties.EastAsianWidth.TheVariants.{Ambiguous, Fullwidth, Halfwidth, Neutral}
use Rattle.unicode.specs.declared.properties.EastAsianWidth.TheVariants.{Narrow, Wide}
use Rattle.htmd_text.proofs.PlainTextLemmas.{chars_ascii}
use Rattle.htmd_commonmark.specs.Columns.{columns_by, columns_of, width_of}
use lib.Utf8.{encode}

by-le : (w : EastAsianWidth) → columns_by w ≤ 2
by-le Ambiguous = omega arith
by-le Fullwidth = omega arith
by-le Halfwidth = omega arith
by-le Neutral = omega arith
by-le Narrow = omega arith
by-le Wide = omega arith

chosen-le : (t : Bool) (n : ℕ) → n ≤ 2 → cond t n 0 ≤ 2
chosen-le true n h = h
chosen-le false n h = omega arith

of-le : (c : ℕ) → columns_of c ≤ 2
of-le c = chosen-le (canonical_combining_class c == 0) (columns_by (east_asian_width c)) (by-le (east_asian_width c))

-- ---- ASCII

-- the rows begin after ASCII
abbrev after_ascii : {V : Type 0} → List (Row V) → Bool
after_ascii [] = true
after_ascii (r ∷ rs) = nat_le 128 r.0 && after_ascii rs

default_in : {V : Type 0} (default : V) (rows : List (Row V)) (c : ℕ) → c < 128 → after_ascii rows ≡ true
    → value_in default rows c ≡ default
unfolding value_in
default_in default [] c lt all = refl
default_in default (r ∷ rs) c lt all =
    let parts = and_parts (nat_le 128 r.0) (after_ascii rs) all in
    let past : (nat_le r.0 c && nat_le c r.1) ≡ false = grind (arith, nat_tests, parts.0, lt) in
    ap (λ t. cond t r.2 (value_in default rs c)) past ∙ default_in default rs c lt parts.1

not_combining : (c : ℕ) → c < 128 → canonical_combining_class c ≡ 0
unfolding canonical_combining_class canonical_combining_class_rows
not_combining c lt = default_in 0 canonical_combining_class_rows c lt refl

abbrev other_rows : List (Row EastAsianWidth) → List (Row EastAsianWidth)
other_rows [] = []
other_rows (r ∷ rs) = rs

narrow : (c : ℕ) → c < 128 → columns_by (east_asian_width c) ≡ 1
unfolding east_asian_width east_asian_width_rows value_in
narrow c lt = by_first (nat_le 0x20 c && nat_le c 0x7E)
    (default_in Neutral (other_rows east_asian_width_rows) c lt refl)
  where
    by_first : (t : Bool) → value_in Neutral (other_rows east_asian_width_rows) c ≡ Neutral
        → columns_by (cond t Narrow (value_in Neutral (other_rows east_asian_width_rows) c)) ≡ 1
    by_first true e = refl
    by_first false e = ap columns_by e

-- an ASCII character takes one column
pub of-ascii : (c : ℕ) → c < 128 → columns_of c ≡ 1
of-ascii c lt =
    ap (λ n. cond (n == 0) (columns_by (east_asian_width c)) 0) (not_combining c lt) ∙ narrow c lt

-- ASCII takes one column a byte
pub ascii_width : (s : List ℕ) → IsAscii s → length s ≡ width_of s
ascii_width [] ascii = sym (ap (sum_by columns_of) chars-nil)
ascii_width (b ∷ s) ascii =
    let rest = ascii_width s (λ i. ascii (suc i)) in
    let whole = ap (sum_by columns_of) (chars_ascii b s (ascii 0)) in
    omega (arith, whole, rest, sum_by-cons columns_of b (chars s), of-ascii b (ascii 0))

sum-le : (cs : List ℕ) → sum_by columns_of cs ≤ length cs * 2
sum-le [] = omega arith
sum-le (c ∷ cs) = omega (arith, sum_by-cons columns_of c cs, of-le c, sum-le cs)

-- at most two columns a byte
pub width-le : (s : List ℕ) → IsUtf8 s → width_of s ≤ length s * 2
width-le s utf8 =
    omega (arith, sum-le (chars s), length-le-encodes (chars s), ap length (encodes-chars s utf8))

pub width-turn : (s rest : List ℕ) (c width total : ℕ) → IsUtf8 s → s ≡ encode c ++ rest
    → width + sum_by columns_of (chars s) ≡ total
    → (width + columns_of c) + sum_by columns_of (chars rest) ≡ total
width-turn s rest c width total utf8 split h =
    let more = ap (sum_by columns_of) (chars_past_char s rest c utf8 split) in
    omega (arith, h, more, sum_by-cons columns_of c (chars rest))

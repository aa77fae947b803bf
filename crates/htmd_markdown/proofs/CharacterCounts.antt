-- Characters of a text, counted by the bytes that begin one.
use Rattle.std.proofs.Common.{◌≡◌, ℕ, ◌+◌, ◌/◌, ◌%◌, ◌<◌, ◌≤◌, true, false, List, [], ◌∷◌, ◌++◌, length, refl, sym, ap}
use Rattle.std.proofs.Common.{◌∙◌, arith, ⊎_elim}
use Rattle.std.specs.Prelude.{nat_lt, count_by, sum_by, cond}
use Rattle.std.specs.List.{flat_map}
use Rattle.std.specs.Str.{IsUtf8, encode_utf8_all, chars}
use Rattle.std.specs.Char.{encode_utf8}
use Rattle.std.proofs.lemmas.Bool.{cases_Bool}
use Rattle.std.proofs.lemmas.Bool.Decides.{nat_tests}
use Rattle.std.proofs.lemmas.List.Sums.{sum_by-cons, sum_by-append}
use Rattle.std.proofs.lemmas.Str.{chars_from_encodes}
use Rattle.htmd_text.specs.Trims.{trimmed_text}
use Rattle.htmd_lexical.specs.WhiteSpace.{is_document_white_space}
use Rattle.htmd_markdown.specs.CellBytes.{begins_character, byte_width}
use Rattle.htmd_markdown.specs.Tables.{in_cell, normalised_cell, cell_width}
use Rattle.htmd_markdown.proofs.CellsLemmas.{normalised_is, normalised_is_cell}
use lib.Utf8.{encode}

-- how many bytes begin a character
abbrev pub characters : List ℕ → ℕ
characters s = count_by begins_character s

pub characters-append : (s t : List ℕ) → characters (s ++ t) ≡ characters s + characters t
characters-append s t = sum_by-append (λ b. cond (begins_character b) 1 0) s t

one : (b : ℕ) → begins_character b ≡ true → characters (b ∷ []) ≡ 1
one b first = rw first refl

two : (b c : ℕ) → begins_character b ≡ true → begins_character c ≡ false → characters (b ∷ c ∷ []) ≡ 1
two b c first second = rw (first, second) refl

three : (b c d : ℕ) → begins_character b ≡ true → begins_character c ≡ false → begins_character d ≡ false
    → characters (b ∷ c ∷ d ∷ []) ≡ 1
three b c d first second third = rw (first, second, third) refl

four : (b c d e : ℕ) → begins_character b ≡ true → begins_character c ≡ false → begins_character d ≡ false
    → begins_character e ≡ false → characters (b ∷ c ∷ d ∷ e ∷ []) ≡ 1
four b c d e first second third fourth = rw (first, second, third, fourth) refl

begins_low : (b : ℕ) → b < 128 → begins_character b ≡ true
begins_low b low = grind (arith, nat_tests)

begins_high : (b : ℕ) → 192 ≤ b → begins_character b ≡ true
begins_high b high = grind (arith, nat_tests)

goes_on : (n : ℕ) → begins_character (128 + n % 64) ≡ false
goes_on n =
    let low : n % 64 < 64 = omega arith in
    let x = 128 + n % 64 in
    begins_not x (omega arith) (omega arith)
  where
    begins_not : (x : ℕ) → 128 ≤ x → x < 192 → begins_character x ≡ false
    begins_not x le lt = grind (arith, nat_tests)

character_is_one : (c : ℕ) → characters (encode_utf8 c) ≡ 1
unfolding encode
character_is_one c =
    ⊎_elim
    (λ (yes : nat_lt c 128 ≡ true). let low : c < 128 =
    grind (arith, nat_tests) in rw yes (one c (begins_low c low)))
    (λ (no : nat_lt c 128 ≡ false).
    ⊎_elim
    (λ (yes : nat_lt c 2048 ≡ true). rw (no, yes)
    (two (192 + c / 64) (128 + c % 64) (begins_high (192 + c / 64) (omega arith)) (goes_on c)))
    (λ (no' : nat_lt c 2048 ≡ false).
    ⊎_elim
    (λ (yes : nat_lt c 65536 ≡ true). rw (no, no', yes) (three (224 + c / 4096) (128 + c / 64 % 64) (128 + c % 64)
    (begins_high (224 + c / 4096) (omega arith)) (goes_on (c / 64)) (goes_on c)))
    (λ (no'' : nat_lt c 65536 ≡ false). rw (no, no', no'')
    (four (240 + c / 262144) (128 + c / 4096 % 64) (128 + c / 64 % 64) (128 + c % 64)
    (begins_high (240 + c / 262144) (omega arith)) (goes_on (c / 4096)) (goes_on (c / 64)) (goes_on c)))
    (cases_Bool (nat_lt c 65536)))
    (cases_Bool (nat_lt c 2048)))
    (cases_Bool (nat_lt c 128))

encoded : (cs : List ℕ) → characters (encode_utf8_all cs) ≡ length cs
encoded [] = refl
encoded (c ∷ cs) =
    let here = characters-append (encode_utf8 c) (encode_utf8_all cs) in
    let first = character_is_one c in
    let rest = encoded cs in
    omega (arith, here, first, rest)

-- each character of a text begins with one such byte
pub characters_are : (s : List ℕ) → IsUtf8 s → characters s ≡ length (chars s)
characters_are s (cs, (good, e)) =
    ap characters (sym e) ∙ encoded cs ∙ ap length (chars_from_encodes cs s (cs, (good, e)) e)

counted : (s : List ℕ) → sum_by byte_width s ≡ characters (flat_map in_cell s)
counted [] = refl
counted (b ∷ s) =
    let here = sum_by-cons byte_width b s in
    let both = characters-append (in_cell b) (flat_map in_cell s) in
    let rest = counted s in
    omega (arith, here, both, rest)

-- a cell's width, byte by byte
pub width_counted : (cell : List ℕ) → IsUtf8 cell → sum_by byte_width (trimmed_text is_document_white_space cell)
    ≡ cell_width cell
width_counted cell text =
    counted (trimmed_text is_document_white_space cell)
    ∙ ap characters (sym (normalised_is cell))
    ∙ characters_are (normalised_cell cell) (normalised_is_cell cell text).text

-- A field of a row, read and written, as PostgreSQL's COPY does: "COPY", File Formats, Text Format.
use Rattle.std.specs.Prelude.{ℕ, zero, suc, ◌+◌, ◌-◌, ◌*◌, ◌%◌, Bool, ◌&&◌, ◌==◌, nat_lt, nat_le}
use Rattle.std.specs.Prelude.{if◌then◌else◌, List, [], ◌∷◌, ◌++◌, codes}
use Rattle.std.specs.Char.{is_ascii_digit}
use Rattle.htmd_lexical.specs.Characters.{backslash, carriage_return, digit_zero, form_feed, line_feed, tab}

-- the field that has no value
abbrev pub null : List ℕ
null = codes "\\N"

-- ---- the bytes that a field stands for

-- a letter, as its byte
abbrev pub letter_a : ℕ
letter_a = 0x61

abbrev pub letter_f : ℕ
letter_f = 0x66

abbrev pub letter_x : ℕ
letter_x = 0x78

abbrev pub capital_a : ℕ
capital_a = 0x41

abbrev pub capital_f : ℕ
capital_f = 0x46

abbrev pub lies_from : ℕ → ℕ → ℕ → Bool
lies_from least most b = nat_le least b && nat_le b most

-- what a byte is worth as a hexadecimal digit, or 16
abbrev pub digit_value : ℕ → ℕ
digit_value b =
    if is_ascii_digit b then b - digit_zero
    else if lies_from letter_a letter_f b then b - letter_a + 10
    else if lies_from capital_a capital_f b then b - capital_a + 10
    else 16

-- how many digits of this base are in front, at most this many
abbrev pub digits : ℕ → ℕ → List ℕ → ℕ
digits base zero s = 0
digits base (suc most) [] = 0
digits base (suc most) (b ∷ s) = if nat_lt (digit_value b) base then suc (digits base most s) else 0

-- a number and then those digits, modulo 256
abbrev pub number_behind : ℕ → ℕ → ℕ → List ℕ → ℕ
number_behind n base zero s = n
number_behind n base (suc most) [] = n
number_behind n base (suc most) (b ∷ s) =
    if nat_lt (digit_value b) base then number_behind ((n * base + digit_value b) % 256) base most s else n

-- the byte that this one stands for after a backslash: a control for b, f, n, r, t and v, else itself
abbrev pub named : ℕ → ℕ
named b =
    if b == 0x62 then 8
    else if b == letter_f then form_feed
    else if b == 0x6E then line_feed
    else if b == 0x72 then carriage_return
    else if b == 0x74 then tab
    else if b == 0x76 then 11
    else b

-- the byte that the text after a backslash stands for: one to three octal digits, an x and one or two hexadecimal ones,
-- or one byte; a backslash at the end stands for itself
abbrev pub escaped : List ℕ → ℕ
escaped [] = backslash
escaped (b ∷ s) =
    if nat_lt (digit_value b) 8 then number_behind 0 8 3 (b ∷ s)
    else if (b == letter_x) && nat_lt 0 (digits 16 2 s) then number_behind 0 16 2 s
    else named b

-- and how many bytes that text takes
abbrev pub escape_length : List ℕ → ℕ
escape_length [] = 0
escape_length (b ∷ s) =
    if nat_lt (digit_value b) 8 then digits 8 3 (b ∷ s) else if b == letter_x then suc (digits 16 2 s) else 1

-- the bytes that a field stands for, if this many at its front belong to an escape before it
abbrev pub read_behind : ℕ → List ℕ → List ℕ
read_behind n [] = []
read_behind (suc n) (b ∷ s) = read_behind n s
read_behind zero (b ∷ s) =
    if b == backslash then escaped s ∷ read_behind (escape_length s) s else b ∷ read_behind zero s

-- the bytes that a field stands for
abbrev pub read_field : List ℕ → List ℕ
read_field field = read_behind 0 field

-- ---- bytes as a field

-- a byte in a field: a backslash, a line feed, a carriage return and a tab are escaped, and nothing else
abbrev pub written_byte : ℕ → List ℕ
written_byte b =
    if b == backslash then codes "\\\\"
    else if b == line_feed then codes "\\n"
    else if b == carriage_return then codes "\\r"
    else if b == tab then codes "\\t"
    else b ∷ []

-- a text as a field
abbrev pub written_field : List ℕ → List ℕ
written_field [] = []
written_field (b ∷ s) = written_byte b ++ written_field s

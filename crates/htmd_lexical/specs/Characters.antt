-- Characters by name (those of Unicode, or their short forms). An ASCII character is one byte of a text.
use Rattle.std.specs.Prelude.{ℕ, Bool, ◌==◌, List}
use Rattle.std.specs.List.{list_any}

abbrev pub null : ℕ
null = 0x00

abbrev pub tab : ℕ
tab = 0x09

abbrev pub line_feed : ℕ
line_feed = 0x0A

abbrev pub form_feed : ℕ
form_feed = 0x0C

abbrev pub carriage_return : ℕ
carriage_return = 0x0D

abbrev pub space : ℕ
space = 0x20

abbrev pub exclamation_mark : ℕ
exclamation_mark = 0x21

abbrev pub quotation_mark : ℕ
quotation_mark = 0x22

abbrev pub number_sign : ℕ
number_sign = 0x23

abbrev pub ampersand : ℕ
ampersand = 0x26

abbrev pub apostrophe : ℕ
apostrophe = 0x27

abbrev pub left_parenthesis : ℕ
left_parenthesis = 0x28

abbrev pub right_parenthesis : ℕ
right_parenthesis = 0x29

abbrev pub asterisk : ℕ
asterisk = 0x2A

abbrev pub plus_sign : ℕ
plus_sign = 0x2B

abbrev pub comma : ℕ
comma = 0x2C

abbrev pub hyphen : ℕ
hyphen = 0x2D

abbrev pub full_stop : ℕ
full_stop = 0x2E

abbrev pub slash : ℕ
slash = 0x2F

abbrev pub digit_zero : ℕ
digit_zero = 0x30

abbrev pub digit_nine : ℕ
digit_nine = 0x39

abbrev pub colon : ℕ
colon = 0x3A

abbrev pub semicolon : ℕ
semicolon = 0x3B

abbrev pub less_than_sign : ℕ
less_than_sign = 0x3C

abbrev pub equals_sign : ℕ
equals_sign = 0x3D

abbrev pub greater_than_sign : ℕ
greater_than_sign = 0x3E

abbrev pub question_mark : ℕ
question_mark = 0x3F

abbrev pub capital_letter_a : ℕ
capital_letter_a = 0x41

abbrev pub capital_letter_z : ℕ
capital_letter_z = 0x5A

abbrev pub left_square_bracket : ℕ
left_square_bracket = 0x5B

abbrev pub backslash : ℕ
backslash = 0x5C

abbrev pub right_square_bracket : ℕ
right_square_bracket = 0x5D

abbrev pub underscore : ℕ
underscore = 0x5F

abbrev pub grave_accent : ℕ
grave_accent = 0x60

abbrev pub small_letter_a : ℕ
small_letter_a = 0x61

abbrev pub small_letter_z : ℕ
small_letter_z = 0x7A

abbrev pub left_curly_bracket : ℕ
left_curly_bracket = 0x7B

abbrev pub vertical_bar : ℕ
vertical_bar = 0x7C

abbrev pub right_curly_bracket : ℕ
right_curly_bracket = 0x7D

abbrev pub tilde : ℕ
tilde = 0x7E

-- U+00A0, and its two bytes
abbrev pub no_break_space : ℕ
no_break_space = 0xA0

abbrev pub no_break_space_first_byte : ℕ
no_break_space_first_byte = 0xC2

abbrev pub no_break_space_second_byte : ℕ
no_break_space_second_byte = 0xA0

-- U+FEFF
abbrev pub byte_order_mark : ℕ
byte_order_mark = 0xFEFF

-- the character is one of these
abbrev pub is_one_of : List ℕ → ℕ → Bool
is_one_of characters b = list_any (λ c. b == c) characters

-- Which class each class of the reader is.
use Rattle.std.specs.Prelude.{ℕ, Bool, true, nat_lt}
use Rattle.htmd_lexical.specs.WhiteSpace.{is_ascii_white_space}
use Rattle.htmd_lexical.specs.TagReading.{is_other}
use Rattle.htmd_html5_tokens.specs.Tags.{is_name_byte, is_attribute_name_byte, is_unquoted_byte, is_gap_byte}
use Rattle.htmd_html5_tokens.specs.Doctypes.{is_black}
use Rattle.htmd_html5_tokens.specs.declared.classes.Class.{Class}
use Rattle.htmd_html5_tokens.specs.declared.classes.Class.TheVariants.{Name, AttributeName, UnquotedValue, Gap, White}
use Rattle.htmd_html5_tokens.specs.declared.classes.Class.TheVariants.{Black, Other}

abbrev pub is_in : Class → ℕ → Bool
is_in Name = is_name_byte
is_in AttributeName = is_attribute_name_byte
is_in UnquotedValue = is_unquoted_byte
is_in Gap = is_gap_byte
is_in White = is_ascii_white_space
is_in Black = is_black
is_in (Other b) = is_other b

-- the characters outside ASCII are all of the class, or none is
abbrev pub is_ascii : Class → Bool
is_ascii (Other b) = nat_lt b 128
is_ascii _ = true

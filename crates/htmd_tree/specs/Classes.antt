-- Which class of the grammar each class of the reader is.
use Rattle.std.specs.Prelude.{ℕ, Bool, true, nat_lt}
use Rattle.htmd_lexical.specs.WhiteSpace.{is_ascii_white_space}
use Rattle.htmd_lexical.specs.CharacterClasses.{is_tag_name_byte, is_attribute_name_byte, is_unquoted_byte}
use Rattle.htmd_lexical.specs.TagReading.{is_other}
use Rattle.htmd_tree.specs.declared.reader.scan.Class.{Class}
use Rattle.htmd_tree.specs.declared.reader.scan.Class.TheVariants.{TagName, WhiteSpace, AttributeName, UnquotedValue}
use Rattle.htmd_tree.specs.declared.reader.scan.Class.TheVariants.{Other}

abbrev pub is_in : Class → ℕ → Bool
is_in TagName = is_tag_name_byte
is_in WhiteSpace = is_ascii_white_space
is_in AttributeName = is_attribute_name_byte
is_in UnquotedValue = is_unquoted_byte
is_in (Other b) = is_other b

-- the characters outside ASCII are all of the class, or none is
abbrev pub is_ascii : Class → Bool
is_ascii (Other b) = nat_lt b 128
is_ascii _ = true

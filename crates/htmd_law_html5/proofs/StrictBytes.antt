-- Which bytes of a tag are of which class by the strict grammar and by the lenient reader.
use Rattle.std.proofs.Common.{◌≡◌, ℕ, true, false, not, refl, arith}
use Rattle.std.specs.Prelude.{◌==◌, ◌||◌}
use Rattle.std.specs.Char.{is_ascii_alphanumeric}
use Rattle.std.proofs.lemmas.Bool.Decides.{nat_tests}
use Rattle.htmd_lexical.specs.WhiteSpace.{is_ascii_white_space}
use Rattle.htmd_lexical.specs.CharacterClasses.{is_tag_name_byte}
use Rattle.htmd_html5_tokens.specs.Tags.{is_name_byte, is_gap_byte}
use Rattle.htmd_lexical.specs.CharacterClasses as strict
use Rattle.htmd_html5_tokens.specs.Tags as lenient

pub key_byte : (b : ℕ) → strict.is_attribute_name_byte b ≡ true → lenient.is_attribute_name_byte b ≡ true
key_byte b e = grind (arith, nat_tests)

pub key_head : (b : ℕ) → strict.is_attribute_name_byte b ≡ true
    → (is_gap_byte b ≡ false) × ((b == 62) ≡ false)
key_head b e = (grind (arith, nat_tests), grind (arith, nat_tests))

pub key_no_null : (b : ℕ) → strict.is_attribute_name_byte b ≡ true → not (b == 0) ≡ true
key_no_null b e = grind (arith, nat_tests)

pub white_gap : (b : ℕ) → is_ascii_white_space b ≡ true → is_gap_byte b ≡ true
white_gap b e = grind (arith, nat_tests)

pub white_ends : (b : ℕ) → is_ascii_white_space b ≡ true → is_name_byte b ≡ false
white_ends b e = grind (arith, nat_tests)

pub white_no_slash : (b : ℕ) → is_ascii_white_space b ≡ true → (b == 47) ≡ false
white_no_slash b e = grind (arith, nat_tests)

pub ends_key : (b : ℕ) → is_name_byte b ≡ false → lenient.is_attribute_name_byte b ≡ false
ends_key b e = rw e refl

pub ends_reference : (b : ℕ) → is_name_byte b ≡ false
    → (is_ascii_alphanumeric b ≡ false) × ((b == 59) ≡ false)
    × (((b == 61) || is_ascii_alphanumeric b) ≡ false)
ends_reference b e = (grind (arith, nat_tests), grind (arith, nat_tests), grind (arith, nat_tests))

pub bare_byte : (b : ℕ) → strict.is_unquoted_byte b ≡ true → lenient.is_unquoted_byte b ≡ true
bare_byte b e = grind (arith, nat_tests)

pub bare_head : (b : ℕ) → strict.is_unquoted_byte b ≡ true
    → (is_ascii_white_space b ≡ false) × ((b == 34) ≡ false) × ((b == 39) ≡ false)
bare_head b e = (grind (arith, nat_tests), grind (arith, nat_tests), grind (arith, nat_tests))

pub ends_bare : (b : ℕ) → is_name_byte b ≡ false → strict.is_unquoted_byte b ≡ false
    → lenient.is_unquoted_byte b ≡ false
ends_bare b e f = grind (arith, nat_tests)

pub name_byte : (b : ℕ) → is_tag_name_byte b ≡ true → is_name_byte b ≡ true
name_byte b e = grind (arith, nat_tests)

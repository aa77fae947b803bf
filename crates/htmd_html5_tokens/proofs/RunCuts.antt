-- Where a text may be cut after a run of characters of one class: outside ASCII all characters are of it, or none is.
use Rattle.std.proofs.Common.{◌≡◌, ℕ, ◌<◌, true, false, arith, inl, inr}
use Rattle.std.proofs.lemmas.Bool.Decides.{nat_tests}
use Rattle.htmd_lexical.proofs.CharacterClassesLemmas.{white_is_ascii}
pub use Rattle.htmd_scanning.proofs.RunCuts.{cut_before_ascii}
use Rattle.htmd_scanning.specs.Runs.{IsUniform}
use Rattle.htmd_scanning.proofs.RunCuts.{outside_other}
use Rattle.htmd_html5_tokens.specs.Tags.{is_name_byte, is_attribute_name_byte, is_unquoted_byte, is_gap_byte}
use Rattle.htmd_html5_tokens.specs.Doctypes.{is_black}
use Rattle.htmd_html5_tokens.specs.Classes.{is_in, is_ascii}
use Rattle.htmd_html5_tokens.specs.declared.classes.Class.{Class}
use Rattle.htmd_html5_tokens.specs.declared.classes.Class.TheVariants.{Name, AttributeName, UnquotedValue, Gap, White}
use Rattle.htmd_html5_tokens.specs.declared.classes.Class.TheVariants.{Black, Other}

outside_name : (b : ℕ) → is_name_byte b ≡ false → b < 128
outside_name b e = grind (arith, nat_tests)

pub outside_attribute_name : (b : ℕ) → is_attribute_name_byte b ≡ false → b < 128
outside_attribute_name b e = grind (arith, nat_tests)

outside_unquoted : (b : ℕ) → is_unquoted_byte b ≡ false → b < 128
outside_unquoted b e = grind (arith, nat_tests)

inside_gap : (b : ℕ) → is_gap_byte b ≡ true → b < 128
inside_gap b e = grind (arith, nat_tests)

outside_black : (b : ℕ) → is_black b ≡ false → b < 128
outside_black b e = grind (arith, nat_tests)

pub uniform : (class : Class) → is_ascii class ≡ true → IsUniform (is_in class)
uniform Name a = inl outside_name
uniform AttributeName a = inl outside_attribute_name
uniform UnquotedValue a = inl outside_unquoted
uniform Gap a = inr inside_gap
uniform White a = inr white_is_ascii
uniform Black a = inl outside_black
uniform (Other other) a = inl (λ b. outside_other other b a)

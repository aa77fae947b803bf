-- Outside ASCII all characters are of a class, or none is.
use Rattle.std.proofs.Common.{◌≡◌, ℕ, ◌<◌, true, false, arith, inl, inr}
use Rattle.std.proofs.lemmas.Bool.Decides.{nat_tests}
use Rattle.htmd_lexical.specs.CharacterClasses.{is_tag_name_byte, is_attribute_name_byte, is_unquoted_byte}
use Rattle.htmd_lexical.proofs.CharacterClassesLemmas.{white_is_ascii}
use Rattle.htmd_scanning.specs.Runs.{IsUniform}
use Rattle.htmd_scanning.proofs.RunCuts.{outside_other}
use Rattle.htmd_tree.specs.declared.reader.scan.Class.{Class}
use Rattle.htmd_tree.specs.declared.reader.scan.Class.TheVariants.{TagName, WhiteSpace, AttributeName, UnquotedValue}
use Rattle.htmd_tree.specs.declared.reader.scan.Class.TheVariants.{Other}
use Rattle.htmd_tree.specs.Classes.{is_in, is_ascii}

outside_tag_name : (b : ℕ) → is_tag_name_byte b ≡ true → b < 128
outside_tag_name b e = grind (arith, nat_tests)

outside_attribute_name : (b : ℕ) → is_attribute_name_byte b ≡ false → b < 128
outside_attribute_name b e = grind (arith, nat_tests)

outside_unquoted : (b : ℕ) → is_unquoted_byte b ≡ false → b < 128
outside_unquoted b e = grind (arith, nat_tests)

pub uniform : (class : Class) → is_ascii class ≡ true → IsUniform (is_in class)
uniform TagName a = inr outside_tag_name
uniform WhiteSpace a = inr white_is_ascii
uniform AttributeName a = inl outside_attribute_name
uniform UnquotedValue a = inl outside_unquoted
uniform (Other other) a = inl (λ b. outside_other other b a)

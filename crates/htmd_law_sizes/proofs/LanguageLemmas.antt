-- The language of a code block has at most 64 bytes.
use Rattle.std.proofs.Common.{◌≡◌, refl, ℕ, ◌≤◌, Bool, true, false, List, [], ◌∷◌, ◌++◌, length, arith}
use Rattle.std.proofs.lemmas.Bool.Decides.{nat_tests}
use Rattle.std.specs.Prelude.{◌&&◌, nat_le, if◌then◌else◌, Option, Some, None}
use Rattle.std.specs.List.{list_all}
use Rattle.htmd_lexical.specs.AttributePairs.{AttributePair}
use Rattle.htmd_shown.specs.Attributes.{is_filled, is_in_name}
use Rattle.htmd_shown.specs.SimpleTrees.{Simple}
use Rattle.htmd_flow.specs.Languages.{longest_name, is_none, name_if, first_name, language_named, only_code}
use Rattle.htmd_flow.specs.Languages.{found_languages, language_of_block}
use Rattle.htmd_law_sizes.specs.DocumentSizes.{size_of_option}
use Rattle.htmd_law_sizes.proofs.ShownSizes.{or_le}

short : (n : ℕ) → nat_le n longest_name ≡ true → n ≤ 64
short n h = grind (arith, nat_tests)

name_le : (s : List ℕ) → size_of_option (name_if s) ≤ 64
name_le s = go (is_filled s) (nat_le (length s) longest_name) refl (list_all is_in_name s)
  where
    go : (a b : Bool) → nat_le (length s) longest_name ≡ b → (c : Bool)
        → size_of_option (if a && b && c then Some s else None) ≤ 64
    go true true e true = omega (arith, short (length s) e)
    go true true e false = omega arith
    go true false e c = omega arith
    go false b e c = omega arith

first_le : (found : List (List ℕ)) → size_of_option (first_name found) ≤ 64
first_le [] = omega arith
first_le (s ∷ found) = or_le (name_if s) (first_name found) 64 (name_le s) (first_le found)

named_le : (o : Option (List ℕ)) → size_of_option o ≤ 64 → size_of_option (language_named o) ≤ 64
named_le None h = omega arith
named_le (Some s) h = go (is_none s)
  where
    go : (t : Bool) → size_of_option (if t then None else Some s) ≤ 64
    go true = omega arith
    go false = h

pub language_le : (attributes : List AttributePair) (trees : List Simple) (near : List (List AttributePair))
    → size_of_option (language_of_block attributes trees near) ≤ 64
language_le attributes trees near =
    named_le (first_name (found_languages (only_code trees ++ attributes ∷ []) near))
    (first_le (found_languages (only_code trees ++ attributes ∷ []) near))

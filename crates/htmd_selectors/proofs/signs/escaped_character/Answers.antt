-- The kinds of numbers.
use Rattle.std.proofs.Common.{◌≡◌, ℕ, true, false, refl, ap, ◌∙◌, arith}
use Rattle.std.proofs.lemmas.Bool.Decides.{nat_tests}
use Rattle.std.specs.Char.{InScalarRange, OutOfScalarRange}
use Rattle.htmd_selectors.specs.Reading.{is_no_character, character_numbered, escaped_character}
use Rattle.htmd_selectors.proofs.signs.escaped_character.Goals as goal

numbered_zero : (n : ℕ) → n ≡ 0 → 0xFFFD ≡ character_numbered n
numbered_zero n e = rw e refl

numbered_scalar : (n v : ℕ) → (n ≡ 0 → ⊥) → InScalarRange n → v ≡ n → v ≡ character_numbered n
numbered_scalar n v z i s =
    let off : is_no_character n ≡ false = grind (arith, nat_tests) in
    rw off s

numbered_none : (n : ℕ) → OutOfScalarRange n → 0xFFFD ≡ character_numbered n
numbered_none n o =
    let on : is_no_character n ≡ true = grind (arith, nat_tests) in
    rw on refl

pub returns-then-code-eq0 : goal.returns-then-code-eq0
unfolding escaped_character
returns-then-code-eq0 c =
    numbered_zero c.number-code.result c.if-code-eq0.true ∙ ap character_numbered c.number-code.ensures

pub returns-in-Some : goal.returns-in-Some
unfolding escaped_character
returns-in-Some c =
    numbered_scalar c.number-code.result c.in-Some.character c.if-code-eq0.false c.in-Some.ensures.cases
    c.in-Some.ensures.value.1
    ∙ ap character_numbered c.number-code.ensures

pub returns-in-None : goal.returns-in-None
unfolding escaped_character
returns-in-None c =
    numbered_none c.number-code.result c.in-None.ensures.cases ∙ ap character_numbered c.number-code.ensures

-- What is left to prove of `goes_on_with_name`.
use Rattle.std.proofs.Common.{◌∙◌, ℕ, drop, sym, arith}
use Rattle.std.proofs.lemmas.List.{length-drop}
use Rattle.htmd_lexical.proofs.CharacterClassesLemmas.{goes_on_no_further}
use Rattle.htmd_scanning.proofs.end_tags.goes_on_with_name.Goals as goal

pub returns-in_default : goal.returns-in_default
returns-in_default c =
    let rest = drop c.loop-character.character-index c.args.name.now in
    sym (goes_on_no_further rest c.loop-character.rest.now (omega (arith, length-drop {A = ℕ}))
    c.in_default.len_below)
    ∙ c.loop-character.invariant

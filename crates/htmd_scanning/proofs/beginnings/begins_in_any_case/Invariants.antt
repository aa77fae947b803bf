-- What the loop of `begins_in_any_case` keeps.
use Rattle.std.proofs.Common.{◌≡◌, drop}
use Rattle.htmd_lexical.specs.CharacterClasses.{begins_in_any_case}
use Rattle.htmd_scanning.proofs.beginnings.begins_in_any_case.Given as goal

abbrev pub invariant-loop-character : goal.invariant-loop-character
invariant-loop-character l =
    begins_in_any_case (drop l.character-index l.characters) l.rest ≡ begins_in_any_case l.characters l.bytes

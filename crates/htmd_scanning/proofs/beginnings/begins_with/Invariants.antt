-- What the loop of `begins_with` keeps.
use Rattle.std.proofs.Common.{◌≡◌, drop}
use Rattle.htmd_lexical.specs.CharacterClasses.{begins_with}
use Rattle.htmd_scanning.proofs.beginnings.begins_with.Given as goal

abbrev pub invariant-loop-character : goal.invariant-loop-character
invariant-loop-character l =
    begins_with (drop l.character-index l.characters) l.rest ≡ begins_with l.characters l.bytes

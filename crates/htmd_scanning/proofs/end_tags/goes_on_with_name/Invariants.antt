-- What the loop of `goes_on_with_name` keeps.
use Rattle.std.proofs.Common.{◌≡◌, drop}
use Rattle.htmd_lexical.specs.EndTags.{goes_on_with_name}
use Rattle.htmd_scanning.proofs.end_tags.goes_on_with_name.Given as goal

abbrev pub invariant-loop-character : goal.invariant-loop-character
invariant-loop-character l =
    goes_on_with_name (drop l.character-index l.name) l.rest ≡ goes_on_with_name l.name l.bytes

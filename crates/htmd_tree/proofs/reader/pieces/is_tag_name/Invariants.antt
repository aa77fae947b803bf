-- What the loop of `is_tag_name` keeps.
use Rattle.std.proofs.Common.{◌≡◌, drop, map}
use Rattle.std.specs.Str.{bytes_eq}
use Rattle.std.specs.Char.{to_ascii_lowercase}
use Rattle.htmd_lexical.specs.CharacterClasses.{leading_run, is_tag_name_byte}
use Rattle.htmd_tree.proofs.reader.pieces.is_tag_name.Given as goal

abbrev pub invariant-loop-letter : goal.invariant-loop-letter
invariant-loop-letter l =
    bytes_eq (map to_ascii_lowercase (leading_run is_tag_name_byte l.rest)) (drop l.letter-index l.name)
    ≡ bytes_eq (map to_ascii_lowercase (leading_run is_tag_name_byte l.bytes)) l.name

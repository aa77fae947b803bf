-- What the loop of `character_named` keeps.
use Rattle.std.proofs.Common.{◌≡◌, drop, map}
use Rattle.htmd_grammar.specs.Rules.{character_named}
use Rattle.htmd_tree.specs.DecodedCharacters.{entry}
use Rattle.htmd_tree.proofs.reader.references.character_named.Given as goal

abbrev pub invariant-loop-known : goal.invariant-loop-known
invariant-loop-known l =
    character_named (map entry (drop l.known-index l.names)) l.name ≡ character_named (map entry l.names) l.name

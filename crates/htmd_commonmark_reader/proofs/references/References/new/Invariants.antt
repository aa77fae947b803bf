-- The last definitions are kept.
use Rattle.std.proofs.Common.{◌≡◌, ◌≤◌, ℕ, List, drop, length}
use Rattle.std.specs.Prelude.{map}
use Rattle.htmd_commonmark_reader.specs.Definitions.{held_of}
use Rattle.htmd_commonmark_reader.specs.Keys.{held_with, with_key}
use Rattle.htmd_commonmark_reader.proofs.references.References.new.Given as goal

abbrev pub invariant-loop-left : goal.invariant-loop-left
invariant-loop-left l = record {
  within : l.left ≤ length l.definitions.items;
  kept :
      (key : List ℕ) → held_with l.definitions.items l.places key
      ≡ with_key (map held_of (drop l.left l.definitions.items)) key;
}

abbrev pub decreases-loop-left : goal.decreases-loop-left
decreases-loop-left l = l.left

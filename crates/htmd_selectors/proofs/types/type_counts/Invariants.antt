use Rattle.std.proofs.Common.{◌≡◌, ◌+◌, ◌≤◌, ◌++◌, ℕ, List, [], drop}
use Rattle.htmd_selectors.specs.Types.{occurrences, type_counts}
use Rattle.htmd_selectors.specs.TypeViews.{names_of, seen_of}
use Rattle.htmd_selectors.proofs.types.type_counts.Given as goal

abbrev pub invariant-loop-name : goal.invariant-loop-name
invariant-loop-name l = record {
  few : (name : List ℕ) → seen_of l.seen name ≤ l.name-index;
  state :
      (before : List (List ℕ))
      × ((name : List ℕ) → seen_of l.seen name ≡ occurrences name before)
      × ((name : List ℕ) → occurrences name before + occurrences name (names_of (drop l.name-index l.names))
      ≡ occurrences name (names_of l.names))
      × (l.counts.items ++ type_counts before (names_of (drop l.name-index l.names))
      ≡ type_counts [] (names_of l.names));
}

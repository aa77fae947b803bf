use Rattle.std.proofs.Common.{◌≡◌, ◌+◌, ◌≤◌, ℕ, List, drop}
use Rattle.htmd_selectors.specs.Types.{occurrences}
use Rattle.htmd_selectors.specs.TypeViews.{names_of, seen_of}
use Rattle.htmd_selectors.proofs.types.totals.Given as goal

abbrev pub invariant-loop-name : goal.invariant-loop-name
invariant-loop-name l = record {
  few : (name : List ℕ) → seen_of l.seen name ≤ l.name-index;
  rest :
      (name : List ℕ) → occurrences name (names_of (drop l.name-index l.names)) + seen_of l.seen name
      ≡ occurrences name (names_of l.names);
}

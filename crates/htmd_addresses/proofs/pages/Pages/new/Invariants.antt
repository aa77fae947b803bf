-- The last pages are kept.
use Rattle.std.proofs.Common.{◌≡◌, ◌≤◌, ℕ, List, drop, length}
use Rattle.htmd_addresses.specs.Leads.{output_at}
use Rattle.htmd_addresses.specs.PageViews.{output_in, pages_of}
use Rattle.htmd_addresses.proofs.pages.Pages.new.Given as goal

abbrev pub invariant-loop-left : goal.invariant-loop-left
invariant-loop-left l = record {
  within : l.left ≤ length l.pages.items;
  kept :
      (path : List ℕ) → output_in l.pages.items l.places path
      ≡ output_at (pages_of (drop l.left l.pages.items)) path;
}

abbrev pub decreases-loop-left : goal.decreases-loop-left
decreases-loop-left l = l.left

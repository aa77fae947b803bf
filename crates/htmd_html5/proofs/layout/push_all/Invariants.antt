-- The nodes that were met come next.
use Rattle.std.proofs.Common.{◌≡◌, ℕ, ◌++◌, Bor, map}
use Rattle.htmd_html5.specs.LayoutViews.{coming_under}
use Rattle.htmd_html5.proofs.layout.push_all.Given as goal

abbrev pub invariant-loop-node : goal.invariant-loop-node
invariant-loop-node l =
    l.coming.items
    ≡ l.initial.coming.items ++ map (coming_under l.under) (map (λ (node : Bor ℕ). node.now) l.yielded)

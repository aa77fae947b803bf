-- With the children to come, what is known is all of it.
use Rattle.std.proofs.Common.{◌≡◌, ◌-◌, ◌++◌, length, drop, map}
use Rattle.htmd_article.specs.PartViews.{part_of}
use Rattle.htmd_article.proofs.KnownLemmas.{known_at}
use Rattle.htmd_article.proofs.parts.+known.Given as goal

-- children come after their parent
abbrev pub decreases-known : goal.decreases-known
decreases-known l = length l.tree.now - l.id

abbrev pub invariant-loop-child : goal.invariant-loop-child
invariant-loop-child l =
    map part_of l.parts.items ++ map (known_at l.tree l.is_link) (drop l.child-index l.children)
    ≡ map (known_at l.tree l.is_link) l.children

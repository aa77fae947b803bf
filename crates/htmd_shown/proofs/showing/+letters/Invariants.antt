use Rattle.std.proofs.Common.{◌≡◌, drop}
use Rattle.htmd_shown.specs.Showings.{code_shows}
use Rattle.htmd_shown.specs.SimpleViews.{simples_of}
use Rattle.htmd_shown.proofs.showing.+letters.Given as goal

-- the nodes to come decide
abbrev pub invariant-code_shows-loop-tree : goal.invariant-code_shows-loop-tree
invariant-code_shows-loop-tree l =
    code_shows (simples_of (drop l.tree-index l.trees)) ≡ code_shows (simples_of l.trees)

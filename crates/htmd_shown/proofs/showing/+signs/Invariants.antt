use Rattle.std.proofs.Common.{◌≡◌, drop}
use Rattle.htmd_shown.specs.Showings.{show_usual_sign}
use Rattle.htmd_shown.specs.SimpleViews.{simples_of}
use Rattle.htmd_shown.proofs.showing.+signs.Given as goal

-- the nodes to come decide
abbrev pub invariant-show_usual_sign-loop-tree : goal.invariant-show_usual_sign-loop-tree
invariant-show_usual_sign-loop-tree l =
    show_usual_sign (simples_of (drop l.tree-index l.trees)) ≡ show_usual_sign (simples_of l.trees)

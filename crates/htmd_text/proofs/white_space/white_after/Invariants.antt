-- What the loop of `white_after` keeps.
use Rattle.std.proofs.Common.{◌≡◌, ◌&&◌, ◌++◌, ℕ, List, false, drop}
use Rattle.std.specs.Prelude.{◌==◌}
use Rattle.htmd_text.specs.Replacement.{is_squeezed}
use Rattle.htmd_text.proofs.white_space.white_after.Given as goal

abbrev pub invariant-loop-b : goal.invariant-loop-b
invariant-loop-b l = (rest : List ℕ)
    → ((l.other == 0) && is_squeezed l.after_white (drop l.b-index l.bytes ++ rest))
    ≡ is_squeezed false (l.bytes ++ rest)

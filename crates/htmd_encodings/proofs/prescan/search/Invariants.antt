-- What is left says what all says.
use Rattle.std.proofs.Common.{◌≡◌, suc, length}
use Rattle.htmd_encodings.specs.Prescan.{search_within}
use Rattle.htmd_encodings.proofs.prescan.search.Given as goal

abbrev pub invariant-loop-sign : goal.invariant-loop-sign
invariant-loop-sign l = search_within (suc (length l.rest)) l.rest ≡ search_within (suc (length l.bytes)) l.bytes

abbrev pub decreases-loop-sign : goal.decreases-loop-sign
decreases-loop-sign l = length l.rest

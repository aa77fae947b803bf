use Rattle.std.proofs.Common.{◌≡◌, drop}
use Rattle.std.specs.Str.{bytes_eq}
use Rattle.htmd_trimming.specs.Hidden.{bare}
use Rattle.htmd_trimming.proofs.hidden.is_bare.Given as goal

-- the bytes to come decide
abbrev pub invariant-loop-b : goal.invariant-loop-b
invariant-loop-b l = bytes_eq (bare (drop l.b-index l.text)) l.rest ≡ bytes_eq (bare l.text) l.wanted

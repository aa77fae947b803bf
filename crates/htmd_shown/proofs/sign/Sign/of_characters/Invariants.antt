use Rattle.std.proofs.Common.{◌≡◌, filter}
use Rattle.htmd_shown.specs.Belows.{sign_of}
use Rattle.htmd_shown.specs.Marks.{is_seen}
use Rattle.htmd_shown.proofs.sign.Sign.of_characters.Given as goal

-- what the characters so far show
abbrev pub invariant-loop-c : goal.invariant-loop-c
invariant-loop-c l = l.sign ≡ sign_of (filter is_seen l.yielded)

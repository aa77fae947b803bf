-- The total of the texts so far.
use Rattle.std.proofs.Common.{◌≡◌, length, min, sum_by, take}
use Rattle.htmd_text.proofs.join.total_len.Given as goal

abbrev pub invariant-loop-text : goal.invariant-loop-text
invariant-loop-text l = l.total ≡ min (sum_by (λ text. length text.now) (take l.text-index l.texts))
    0xFFFF_FFFF_FFFF_FFFF

-- What was put, and the slots behind it.
use Rattle.std.proofs.Common.{◌≡◌, ◌+◌, ◌-◌, ◌∷◌, ◌++◌, take, drop, replicate}
use Rattle.htmd_commonmark_reader.specs.declared.slots.Slot.TheVariants as slot
use Rattle.htmd_commonmark_reader.proofs.slots.put.Given as goal

abbrev pub invariant-loop-place : goal.invariant-loop-place
invariant-loop-place l =
    l.slots ≡ take l.from l.fn.slots ++ (l.first ∷ replicate (l.place - (l.from + 1)) slot.Nothing)
    ++ drop l.place l.fn.slots

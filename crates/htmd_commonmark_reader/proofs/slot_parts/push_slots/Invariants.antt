-- The slots so far are written.
use Rattle.std.proofs.Common.{◌≡◌, ◌++◌, take, string_bytes}
use Rattle.htmd_commonmark_reader.specs.SlotParts.{written}
use Rattle.htmd_commonmark_reader.specs.Slots.{slots_parts}
use Rattle.htmd_parts.specs.PartViews.{all_parts_of}
use Rattle.htmd_commonmark_reader.proofs.slot_parts.push_slots.Given as goal

abbrev pub invariant-loop-slot : goal.invariant-loop-slot
invariant-loop-slot l =
    written l.parts.items (string_bytes l.held)
    ≡ all_parts_of l.fn.parts.items ++ slots_parts (take l.slot-index l.slots)

-- One more slot.
use Rattle.std.proofs.Common.{◌≡◌, ◌∙◌, ◌+◌, ◌<◌, ◌++◌, ◌∷◌, [], ℕ, List, length, take, get_or, ap, sym, append_assoc}
use Rattle.std.proofs.lemmas.List.{append-nil, take_more}
use Rattle.htmd_commonmark_reader.specs.Slots.{slot_parts, slots_parts}
use Rattle.htmd_commonmark_reader.specs.declared.slots.Slot.{Slot}
use Rattle.htmd_parts.specs.Parts.{Part}
use Rattle.htmd_parts.specs.PartViews.{all_parts_of}
use Rattle.htmd_commonmark_reader.proofs.EmphasisLemmas.{slots_append}
use Rattle.htmd_commonmark_reader.proofs.slot_parts.push_slots.Goals as goal

slots_more : (slots : List Slot) (i : ℕ) (d : Slot) (before : List Part) → i < length slots
    → (before ++ slots_parts (take i slots)) ++ slot_parts (get_or slots i d)
    ≡ before ++ slots_parts (take (i + 1) slots)
slots_more slots i d before l =
    append_assoc before (slots_parts (take i slots)) (slot_parts (get_or slots i d))
    ∙ ap (λ t. before ++ t)
    (ap (λ t. slots_parts (take i slots) ++ t) (sym (append-nil (slot_parts (get_or slots i d))))
    ∙ sym (slots_append (take i slots) (get_or slots i d ∷ [])) ∙ ap slots_parts (sym (take_more slots i d l)))

pub loop-slot-preserved : goal.loop-slot-preserved
loop-slot-preserved c =
    let slots = c.args.slots.now in
    let i = c.loop-slot.slot-index in
    let s = c.slot-item.result in
    c.in_ok-push_slot.ensures ∙ ap (λ l. l ++ slot_parts s) c.loop-slot.invariant
    ∙ ap (λ x. (all_parts_of c.args.parts.now.items ++ slots_parts (take i slots)) ++ slot_parts x) c.slot-item.is
    ∙ slots_more slots i s (all_parts_of c.args.parts.now.items) c.loop-slot-test.true

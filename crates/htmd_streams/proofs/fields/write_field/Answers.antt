-- The next escape, and what follows the last one.
use Rattle.htmd_streams.proofs.FieldsLemmas.{written-step, written-end}
use Rattle.htmd_streams.proofs.fields.write_field.Goals as goal

pub loop-plain-preserved : goal.loop-plain-preserved
loop-plain-preserved c =
    written-step c.loop-plain.row.items c.extend_from_slice.new.self.items c.extend_from_slice-in-Some.new.self.items
    c.in-Some.plain.now c.in-Some.escape.now c.in-Some.behind.now c.loop-plain.rest.now _ c.in-Some.ensures.parts
    c.in_ok-extend_from_slice.ensures.items c.in_ok-extend_from_slice-2.ensures.items c.loop-plain.invariant

pub returns : goal.returns
returns c =
    written-end c.loop-plain.row.items c.extend_from_slice-2.new.self.items c.loop-plain.rest.now _
    c.in_default.ensures.parts c.in_ok-extend_from_slice-3.ensures.items c.loop-plain.invariant

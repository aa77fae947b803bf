-- The next escape, and what follows the last one.
use Rattle.htmd_streams.proofs.FieldsLemmas.{read-step, read-end}
use Rattle.htmd_streams.proofs.fields.read_field.Goals as goal

pub loop-front-preserved : goal.loop-front-preserved
loop-front-preserved c =
    read-step c.loop-front.page.items c.extend_from_slice.new.self.items c.push.new.self.items c.in-Some.front.now
    c.in-Some.behind.now c.loop-front.rest.now _ c.escape-byte.result.0 c.escape-byte.result.1 c.in-Some.ensures
    c.escape-byte.ensures.byte c.escape-byte.ensures.count c.in_ok-extend_from_slice.ensures.items
    c.in_ok-push.ensures.items c.loop-front.invariant

pub returns : goal.returns
returns c =
    read-end c.loop-front.page.items c.extend_from_slice-2.new.self.items c.loop-front.rest.now _ c.in_default.ensures
    c.in_ok-extend_from_slice-2.ensures.items c.loop-front.invariant

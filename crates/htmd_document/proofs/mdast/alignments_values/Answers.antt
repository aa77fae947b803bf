-- What is left to prove of `alignments_values`.
use Rattle.htmd_document.specs.declared.document.Alignment.TheVariants.{None}
use Rattle.htmd_document.specs.Mdast.{alignment_data}
use Rattle.htmd_document.proofs.MdastLemmas.{mapped-copy}
use Rattle.htmd_document.proofs.mdast.alignments_values.Goals as goal

pub loop-a-preserved : goal.loop-a-preserved
loop-a-preserved c = mapped-copy alignment_data c.args.alignments.now c.loop-a.a-index None c.loop-a.values.items
    c.push.new.self.items c.in_ok-alignment.field-0 c.loop-a-test.true c.in_ok-alignment.ensures c.loop-a.invariant
    c.in_ok-push.ensures.items

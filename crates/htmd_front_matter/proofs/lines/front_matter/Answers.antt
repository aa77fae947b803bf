use Rattle.std.proofs.Common.{arith, string_bytes}
use Rattle.htmd_nodes.specs.NumberedTrees.{value_at}
use Rattle.htmd_front_matter.specs.Values.{value_in}
use Rattle.htmd_front_matter.specs.Lines.{keys, line_if}
use Rattle.htmd_front_matter.specs.declared.values.Key.TheVariants.{Title}
use Rattle.htmd_front_matter.proofs.ValuesLemmas.{keys-turn}
use Rattle.htmd_front_matter.proofs.lines.front_matter.Goals as goal

pub loop-key-preserved : goal.loop-key-preserved
loop-key-preserved c =
    keys-turn (λ key. line_if key (value_in key (value_at c.args.tree.now 0))) keys Title c.loop-key.key-index
    (string_bytes c.loop-key.lines) (string_bytes c.push_value.new.lines) _ (omega arith) c.loop-key.invariant
    c.in_ok-push_value.ensures

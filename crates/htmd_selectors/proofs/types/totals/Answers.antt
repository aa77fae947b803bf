use Rattle.std.proofs.Common.{arith, get_or, []}
use Rattle.htmd_selectors.proofs.TypesLemmas.{seen-turn, seen-few}
use Rattle.htmd_selectors.proofs.types.totals.Goals as goal

pub see-requires : goal.see-requires
see-requires c =
    let few = c.loop-name.invariant.few
    (get_or c.args.names.now c.loop-name.name-index (record { ref_ptr = (0, 0); now = [] })).now in
    omega (arith, few)

pub loop-name-preserved : goal.loop-name-preserved
loop-name-preserved c =
    let names = c.args.names.now in
    let i = c.loop-name.name-index in
    record {
      few = λ name. seen-few c.loop-name.seen c.see.new.seen _ name i (c.in_ok-see.ensures.seen name)
          (c.loop-name.invariant.few name);
      rest = λ name. seen-turn names i (record { ref_ptr = (0, 0); now = [] }) c.loop-name.seen c.see.new.seen name
          (omega arith) (c.in_ok-see.ensures.seen name) (c.loop-name.invariant.rest name);
    }

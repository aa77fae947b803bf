-- The registrations stay within the handlers.
use Rattle.std.proofs.Common.{rules, arith, ◌<◌, ◌≤◌, sym, subst, map, length, All}
use Rattle.std.proofs.lemmas.Grind.{common_steps}
use Rattle.htmd_walk.specs.TagIndexes.{tag_index}
use Rattle.htmd_walk.proofs.ChoiceLemmas.{within-grown}
use Rattle.htmd_walk.proofs.element_handler.element_handlers.ElementHandlers.add_built_in.Goals as goal

pub invariant_of-self-2 : goal.invariant_of-self-2
invariant_of-self-2 g c =
    let count = length c.args.self.now.handlers.items in
    let more = length c.push.new.self.items in
    let old = map tag_index c.args.self.now.registered.all.items in
    let tags = map (λ t. t.now) c.as_slice.result.now in
    let kept : count ≤ more = first_of (omega arith, search rules, grind (arith, common_steps)) in
    let within : c.len.result < more = first_of (omega arith, search rules, grind (arith, common_steps)) in
    record {
      within = subst (λ xs. All (λ r. r.index < more) xs) (sym (c.in_ok-add.ensures.ok))
          (within-grown old tags c.len.result count more kept within c.args.self.now.within);
    }

-- Room is made, and nothing else changes.
use Rattle.std.proofs.Common.{◌∙◌, ap, sym, subst, map}
use Rattle.htmd_walk.specs.TagIndexes.{tag_index}
use Rattle.htmd_walk.specs.Latest.{latest, IsChained}
use Rattle.htmd_walk.proofs.LatestLemmas.{same_text}
use Rattle.htmd_walk.proofs.element_handler.registrations.Registrations.add.Goals as goal

pub invariant_of-self-2 : goal.invariant_of-self-2
invariant_of-self-2 c = record {
  newest_is = λ q.
      same_text c.args.self.now.newest c.reserve.new.self (c.reserve.ensures.entries).2 q
      ∙ c.args.self.now.newest_is q
      ∙ sym (ap (λ xs. latest q (map tag_index xs)) c.reserve-2.ensures.items);
  older_is = subst (λ xs. IsChained xs) (sym c.reserve-2.ensures.items) c.args.self.now.older_is;
}

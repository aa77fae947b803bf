use Rattle.std.proofs.Common.{sym, ap, ◌∙◌, [], ◌∷◌, map}
use Rattle.std.specs.Prelude.{if◌then◌else◌}
use Rattle.std.proofs.lemmas.List.{map-append}
use Rattle.htmd_chunks.specs.ChunkViews.{list_filling_of, part_of}
use Rattle.htmd_chunks.specs.Fillings as spec
use Rattle.htmd_chunks.proofs.PushesLemmas.{some-more, further_items-append}
use Rattle.htmd_chunks.proofs.list_filling.ListFilling.push_parts.Goals as goal

pub loop-part-preserved : goal.loop-part-preserved
loop-part-preserved c =
    let most = c.match-next.self.limits.most in
    let list = c.match-next.self.list in
    let f = list_filling_of c.match-next.self in
    let place = c.args.place in
    let old = c.loop-part.yielded in
    let p = c.in-Some-part.part ∷ [] in
    record {
      filling = c.in_ok-begin.ensures.filling
          ∙ ap (λ n. spec.with_further_items n c.loop-part.self.list (list_filling_of c.loop-part.self) place
          (map part_of p))
          (ap (λ l. l.most) c.loop-part.invariant.limits)
          ∙ ap (λ l. spec.with_further_items most l (list_filling_of c.loop-part.self) place (map part_of p))
          c.loop-part.invariant.list
          ∙ ap (λ g. spec.with_further_items most list g place (map part_of p)) c.loop-part.invariant.filling
          ∙ sym (further_items-append most list f place (map part_of old) (map part_of p))
          ∙ ap (spec.with_further_items most list f place) (sym (map-append part_of old p));
      limits = c.in_ok-begin.ensures.limits ∙ c.loop-part.invariant.limits;
      list = c.in_ok-begin.ensures.list ∙ c.loop-part.invariant.list;
      used = sym (ap (λ b. if b then c.in_ok-used.used else 0) (some-more old c.in-Some-part.part));
    }

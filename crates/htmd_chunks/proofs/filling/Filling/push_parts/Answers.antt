use Rattle.std.proofs.Common.{sym, ap, ◌∙◌, [], ◌∷◌, map}
use Rattle.std.specs.Prelude.{if◌then◌else◌}
use Rattle.std.proofs.lemmas.List.{map-append}
use Rattle.htmd_chunks.specs.ChunkViews.{filling_of, block_part_of}
use Rattle.htmd_chunks.specs.Fillings as spec
use Rattle.htmd_chunks.proofs.PushesLemmas.{some-more, further-append}
use Rattle.htmd_chunks.proofs.filling.Filling.push_parts.Goals as goal

pub loop-part-preserved : goal.loop-part-preserved
loop-part-preserved c =
    let most = c.match-next.self.limits.most in
    let f = filling_of c.match-next.self in
    let ps = map block_part_of c.loop-part.yielded in
    record {
      filling = c.in_ok-begin.ensures.filling
          ∙ ap (λ n. spec.with_further n (filling_of c.loop-part.self)
          (map block_part_of (c.in-Some-part.part ∷ [])))
          (ap (λ l. l.most) c.loop-part.invariant.limits)
          ∙ ap (λ g. spec.with_further most g (map block_part_of (c.in-Some-part.part ∷ [])))
          c.loop-part.invariant.filling
          ∙ sym (further-append most f ps (map block_part_of (c.in-Some-part.part ∷ [])))
          ∙ ap (spec.with_further most f)
          (sym (map-append block_part_of c.loop-part.yielded (c.in-Some-part.part ∷ [])));
      limits = c.in_ok-begin.ensures.limits ∙ c.loop-part.invariant.limits;
      before =
          sym (ap (λ b. if b then c.args.self.now.used else 0) (some-more c.loop-part.yielded c.in-Some-part.part));
    }

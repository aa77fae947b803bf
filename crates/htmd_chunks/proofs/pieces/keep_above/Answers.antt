use Rattle.std.proofs.Common.{◌∙◌, ap, map, rules}
use Rattle.std.specs.Prelude.{nat_lt}
use Rattle.std.proofs.lemmas.Fn.{filter_same}
use Rattle.htmd_chunks.specs.ChunkViews.{heading_of}
use Rattle.htmd_chunks.specs.declared.pieces.Heading.{Heading}
use Rattle.htmd_chunks.proofs.PiecesLemmas.{above-views}
use Rattle.htmd_chunks.proofs.pieces.keep_above.Goals as goal

pub returns : goal.returns
returns c =
    let kept = filter_same _ (λ (h : Heading). nat_lt h.level c.args.level) _ (λ x b g k. search rules) _ _
    c.retain.ensures.filtered in
    ap (map heading_of) kept ∙ above-views c.args.level c.args.path.now.items

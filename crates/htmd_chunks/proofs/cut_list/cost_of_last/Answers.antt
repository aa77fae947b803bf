use Rattle.std.proofs.Common.{◌≡◌, ◌+◌, ◌-◌, ◌∙◌, ap, length, sym, map, arith}
use Rattle.htmd_document.specs.DocumentViews.{blocks_of}
use Rattle.htmd_chunks.specs.ChunkViews.{part_of}
use Rattle.htmd_chunks.specs.Cuts as spec
use Rattle.htmd_chunks.specs.Measures.{blocks_size}
use Rattle.htmd_chunks.specs.Sizes.{cost}
use Rattle.htmd_chunks.proofs.LeastLemmas.{if_ok}
use Rattle.htmd_chunks.proofs.PartsLemmas.{last-blocks}
use Rattle.htmd_chunks.proofs.cut_list.cost_of_last.Goals as goal

pub returns-in_ok-blocks_size-in-len1-up : goal.returns-in_ok-blocks_size-in-len1-up
returns-in_ok-blocks_size-in-len1-up c =
    let bounds = c.args.bounds.now in
    let margin = c.args.margin in
    let tight = c.args.is_tight in
    let parts = c.args.parts.now in
    let last : (length parts - 1) + 1 ≡ length parts = omega (arith, c.in-len1-up.len_at_least) in
    if_ok c.cost.result _ (spec.cost_of_last_blocks bounds margin tight (map part_of parts)) c.cost.ensures
    (ap (cost margin) c.in_ok-blocks_size-in-len1-up.ensures
    ∙ ap (λ bs. cost margin (blocks_size bounds.options tight (blocks_of bs))) c.deref.ensures.value
    ∙ sym (last-blocks bounds margin tight parts (length parts - 1) c.part-item.result last c.part-item.is))

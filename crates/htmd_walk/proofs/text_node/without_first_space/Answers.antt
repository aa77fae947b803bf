use Rattle.std.proofs.Common.{◌∙◌, ap, arith}
use Rattle.std.specs.List.{prefix_len}
use Rattle.htmd_text.specs.Trims.{is_space}
use Rattle.htmd_walk.proofs.Cuts.{cut_in_leading, space_of_ascii}
use Rattle.htmd_walk.proofs.text_node.without_first_space.Goals as goal

pub range_from-requires : goal.range_from-requires
range_from-requires c = λ _.
    let counted = c.leading_len.ensures.value ∙ ap (prefix_len is_space) c.as_bytes.ensures.value in
    let here = cut_in_leading is_space c.args.text.now 1 c.utf8.text space_of_ascii (omega arith) in
    (here.0, here.1)

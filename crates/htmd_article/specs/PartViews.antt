-- What the parts of the source stand for.
use Rattle.std.specs.Borrow.{Bor}
use Rattle.std.specs.Prelude.{List, map, Option, option_map}
use Rattle.htmd_nodes.specs.Views.{data_of}
use Rattle.htmd_article.specs.declared.parts.Part.{Part, fold-Part}
use Rattle.htmd_article.specs.declared.parts.Part.TheOpen.{Part-F}
use Rattle.htmd_article.specs.Parts as spec

-- one level, with the parts in it already seen
abbrev pub part_step : Part-F spec.Part → spec.Part
part_step p = spec.part (data_of p.node.now) p.facts (spec.parts_of p.parts.items)

abbrev pub part_of : Part → spec.Part
part_of = fold-Part spec.Part part_step

abbrev pub parts_of : List Part → spec.Parts
parts_of ps = spec.parts_of (map part_of ps)

abbrev pub part_found : Option (Bor Part) → Option spec.Part
part_found = option_map (λ p. part_of p.now)

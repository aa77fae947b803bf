-- Closed blocks as a flat list, and as the reader holds them.
use Rattle.std.specs.Prelude.{Bool, List, ◌∷◌, map, option_map, string_bytes}
use Rattle.htmd_commonmark_reading.specs.Boxes as spec
use Rattle.htmd_commonmark_reading.specs.Boxes.{ClosedBlock, ClosedBlocks}
use Rattle.htmd_commonmark_reader.specs.Rows.{strings}
use Rattle.htmd_commonmark_reader.specs.declared.closed.Container.{Container}
use Rattle.htmd_commonmark_reader.specs.declared.closed.Container.TheVariants.{Quote, Item}
use Rattle.htmd_commonmark_reader.specs.declared.closed.ClosedLeaf.{ClosedLeaf}
use Rattle.htmd_commonmark_reader.specs.declared.closed.ClosedLeaf.TheVariants.{Text, Heading, Code, Rule, Html, Table}
use Rattle.htmd_commonmark_reader.specs.declared.closed.Closed.{Closed}
use Rattle.htmd_commonmark_reader.specs.declared.closed.Closed.TheVariants as closed

-- the beginning of a container, its end, a definition, or another block
pub data ClosedPart : Type 0 where
  begin : (gap : Bool) (kind : spec.Container) → ClosedPart
  end : ClosedPart
  definition : (gap : Bool) → ClosedPart
  single : (gap : Bool) (p : ClosedBlock) → ClosedPart

abbrev mutual
  -- the parts of a block, before others
  pub block_parts : Bool → ClosedBlock → List ClosedPart → List ClosedPart
  block_parts g (spec.text s) rest = single g (spec.text s) ∷ rest
  block_parts g (spec.headed level s) rest = single g (spec.headed level s) ∷ rest
  block_parts g (spec.code language s) rest = single g (spec.code language s) ∷ rest
  block_parts g spec.rule rest = single g spec.rule ∷ rest
  block_parts g (spec.html s) rest = single g (spec.html s) ∷ rest
  block_parts g (spec.grid alignments header rows) rest = single g (spec.grid alignments header rows) ∷ rest
  block_parts g (spec.defined d) rest = definition g ∷ rest
  block_parts g (spec.boxed kind ps) rest = begin g kind ∷ closed_parts ps (end ∷ rest)

  -- the parts of blocks, before others
  pub closed_parts : ClosedBlocks → List ClosedPart → List ClosedPart
  closed_parts spec.no_closed_blocks rest = rest
  closed_parts (spec.closed_block g p ps) rest = block_parts g p (closed_parts ps rest)

abbrev pub kind_of : Container → spec.Container
kind_of Quote = spec.quoting
kind_of (Item sign number columns) = spec.listing sign number columns

abbrev pub leaf_of : ClosedLeaf → ClosedBlock
leaf_of (Text s) = spec.text (string_bytes s)
leaf_of (Heading level s) = spec.headed level (string_bytes s)
leaf_of (Code language s) = spec.code (option_map (λ t. string_bytes t) language) (string_bytes s)
leaf_of Rule = spec.rule
leaf_of (Html s) = spec.html (string_bytes s)
leaf_of (Table alignments header rows) =
    spec.grid alignments.items (strings header.items) (map (λ row. strings row.items) rows.items)

abbrev pub part_of : Closed → ClosedPart
part_of (closed.Begin gap kind) = begin gap (kind_of kind)
part_of closed.End = end
part_of (closed.Definition gap) = definition gap
part_of (closed.Leaf gap l) = single gap (leaf_of l)

abbrev pub parts_of : List Closed → List ClosedPart
parts_of parts = map part_of parts

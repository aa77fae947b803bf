-- Closed blocks in one flat list.
use Rattle.std.proofs.Common.{◌≡◌, ◌∙◌, Bool, ◌&&◌, List, [], ◌∷◌, ◌++◌, refl, ap, sym, append_assoc}
use Rattle.htmd_commonmark_reading.specs.Boxes as spec
use Rattle.htmd_commonmark_reading.specs.Boxes.{ClosedBlock, ClosedBlocks, no_closed_blocks, closed_block, joined}
use Rattle.htmd_commonmark_reading.specs.LinkDefinitions.{Definition}
use Rattle.htmd_commonmark_reading.specs.Lists.{part_definitions, collected}
use Rattle.htmd_commonmark_reader.specs.ClosedParts.{ClosedPart, begin, end, single, block_parts, closed_parts}
use Rattle.htmd_commonmark_reader.specs.ClosedParts.{leaf_of}
use Rattle.htmd_commonmark_reader.specs.OpenBlocks.{is_none}
use Rattle.htmd_commonmark_reader.specs.declared.closed.ClosedLeaf.{ClosedLeaf}
use Rattle.htmd_commonmark_reader.specs.declared.closed.ClosedLeaf.TheVariants as closed

mutual
  pub block_append : (g : Bool) (p : ClosedBlock) (a b : List ClosedPart)
      → block_parts g p (a ++ b) ≡ block_parts g p a ++ b
  block_append g (spec.text s) a b = refl
  block_append g (spec.headed level s) a b = refl
  block_append g (spec.code language s) a b = refl
  block_append g spec.rule a b = refl
  block_append g (spec.html s) a b = refl
  block_append g (spec.grid alignments header rows) a b = refl
  block_append g (spec.defined d) a b = refl
  block_append g (spec.boxed kind ps) a b = ap (λ l. begin g kind ∷ l) (parts_append ps (end ∷ a) b)

  pub parts_append : (ps : ClosedBlocks) (a b : List ClosedPart)
      → closed_parts ps (a ++ b) ≡ closed_parts ps a ++ b
  parts_append no_closed_blocks a b = refl
  parts_append (closed_block g p ps) a b =
      ap (block_parts g p) (parts_append ps a b) ∙ block_append g p (closed_parts ps a) b

-- what follows is behind all
pub parts_behind : (ps : ClosedBlocks) (b : List ClosedPart) → closed_parts ps b ≡ closed_parts ps [] ++ b
parts_behind ps b = parts_append ps [] b

pub joined_parts : (ps qs : ClosedBlocks) (b : List ClosedPart)
    → closed_parts (joined ps qs) b ≡ closed_parts ps (closed_parts qs b)
joined_parts no_closed_blocks qs b = refl
joined_parts (closed_block g p ps) qs b = ap (block_parts g p) (joined_parts ps qs b)

pub joined_behind : (ps qs : ClosedBlocks)
    → closed_parts (joined ps qs) [] ≡ closed_parts ps [] ++ closed_parts qs []
joined_behind ps qs = joined_parts ps qs [] ∙ parts_behind ps (closed_parts qs [])

part_found : (p : ClosedBlock) (a b : List Definition)
    → part_definitions p (a ++ b) ≡ part_definitions p a ++ b
part_found (spec.text s) a b = refl
part_found (spec.headed level s) a b = refl
part_found (spec.code language s) a b = refl
part_found spec.rule a b = refl
part_found (spec.html s) a b = refl
part_found (spec.grid alignments header rows) a b = refl
part_found (spec.defined d) a b = refl
part_found (spec.boxed kind ps) a b = sym (append_assoc (collected ps) a b)

pub joined_found : (ps qs : ClosedBlocks) → collected (joined ps qs) ≡ collected ps ++ collected qs
joined_found no_closed_blocks qs = refl
joined_found (closed_block g p ps) qs =
    ap (part_definitions p) (joined_found ps qs) ∙ part_found p (collected ps) (collected qs)

pub joined_none : (ps qs : ClosedBlocks) → is_none (joined ps qs) ≡ (is_none ps && is_none qs)
joined_none no_closed_blocks qs = refl
joined_none (closed_block g p ps) qs = refl

-- ---- one leaf

pub leaf_parts : (g : Bool) (l : ClosedLeaf) → block_parts g (leaf_of l) [] ≡ single g (leaf_of l) ∷ []
leaf_parts g (closed.Text s) = refl
leaf_parts g (closed.Heading level s) = refl
leaf_parts g (closed.Code language s) = refl
leaf_parts g closed.Rule = refl
leaf_parts g (closed.Html s) = refl
leaf_parts g (closed.Table alignments header rows) = refl

pub leaf_found : (l : ClosedLeaf) → part_definitions (leaf_of l) [] ≡ []
leaf_found (closed.Text s) = refl
leaf_found (closed.Heading level s) = refl
leaf_found (closed.Code language s) = refl
leaf_found closed.Rule = refl
leaf_found (closed.Html s) = refl
leaf_found (closed.Table alignments header rows) = refl

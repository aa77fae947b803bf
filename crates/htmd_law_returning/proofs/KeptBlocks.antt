-- Where anchors stay: their lines and paragraphs of them alone at once.
use Rattle.std.proofs.Common.{◌≡◌, Bool, true, false, not, ◌&&◌, ◌||◌, refl}
use Rattle.std.specs.List.{list_all}
use Rattle.std.proofs.lemmas.Bool.{and_from, and_parts}
use Rattle.htmd_document.specs.Documents.{Inline, Block, paragraph, heading, code_block, quote, thematic_break, list}
use Rattle.htmd_document.specs.Documents.{table, element, tags, Blocks, no_blocks, block, Items, no_items, item}
use Rattle.htmd_document.specs.LoneAnchors.{is_alone, stand_alone, stand_inside, all_stand, items_stand_well}
use Rattle.htmd_law_returning.specs.LastingAnchors.{inline_keeps, line_keeps, heading_keeps, title_keeps}
use Rattle.htmd_law_returning.specs.LastingAnchors.{is_headed_element}
use Rattle.htmd_law_returning.specs.SettledDocuments.{is_one_line}
use Rattle.htmd_law_returning.specs.LastingAnchors.{block_lines_stand, lines_stand, item_lines_stand}

abbrev pub keeps_anchors : Inline → Bool
keeps_anchors x = inline_keeps is_one_line x

abbrev mutual
  pub block_keeps : Block → Bool
  block_keeps (paragraph content) = line_keeps content
  block_keeps (heading level content) = line_keeps content && heading_keeps content
  block_keeps (quote content) = blocks_keep false content
  block_keeps (list start is_tight items) = items_keep items
  block_keeps (table alignments header rows) =
      list_all line_keeps header && list_all (list_all line_keeps) rows
  block_keeps (element name attributes content) =
      blocks_keep false content && (not (is_headed_element name) || title_keeps content)
  block_keeps b = true

  -- whether the document ends with these
  pub blocks_keep : Bool → Blocks → Bool
  blocks_keep is_end no_blocks = true
  blocks_keep is_end (block b bs) =
      block_keeps b && (not (is_alone b) || stand_alone is_end bs) && blocks_keep is_end bs

  pub items_keep : Items → Bool
  items_keep no_items = true
  items_keep (item bs rest) = blocks_keep false bs && items_keep rest

-- ---- they are so if both are

mutual
  block-kept : (b : Block) → block_lines_stand b ≡ true → stand_inside b ≡ true → block_keeps b ≡ true
  block-kept (paragraph content) l s = l
  block-kept (heading level content) l s = l
  block-kept (code_block language t) l s = refl
  block-kept (quote content) l s = kept content false l s
  block-kept thematic_break l s = refl
  block-kept (list start is_tight items) l s = items-kept items l s
  block-kept (table alignments header rows) l s = l
  block-kept (element name attributes content) l s =
      let first : Bool = not (is_headed_element name) || title_keeps content in
      let p = and_parts (lines_stand content) first l in
      and_from (blocks_keep false content) first (kept content false p.0 s) p.1
  block-kept (tags t) l s = refl

  pub kept : (d : Blocks) (is_end : Bool) → lines_stand d ≡ true → all_stand is_end d ≡ true
      → blocks_keep is_end d ≡ true
  kept no_blocks is_end l s = refl
  kept (block b bs) is_end l s =
      let alone : Bool = not (is_alone b) || stand_alone is_end bs in
      let p = and_parts (block_lines_stand b) (lines_stand bs) l in
      let q = and_parts (stand_inside b && alone) (all_stand is_end bs) s in
      let r = and_parts (stand_inside b) alone q.0 in
      and_from (block_keeps b && alone) (blocks_keep is_end bs)
      (and_from (block_keeps b) alone (block-kept b p.0 r.0) r.1) (kept bs is_end p.1 q.1)

  items-kept : (items : Items) → item_lines_stand items ≡ true → items_stand_well items ≡ true
      → items_keep items ≡ true
  items-kept no_items l s = refl
  items-kept (item bs rest) l s =
      let p = and_parts (lines_stand bs) (item_lines_stand rest) l in
      let q = and_parts (all_stand false bs) (items_stand_well rest) s in
      and_from (blocks_keep false bs) (items_keep rest) (kept bs false p.0 q.0) (items-kept rest p.1 q.1)

-- ---- and both are if they are so

mutual
  block-both : (b : Block) → block_keeps b ≡ true → (block_lines_stand b ≡ true) × (stand_inside b ≡ true)
  block-both (paragraph content) k = (k, refl)
  block-both (heading level content) k = (k, refl)
  block-both (code_block language t) k = (refl, refl)
  block-both (quote content) k = both content false k
  block-both thematic_break k = (refl, refl)
  block-both (list start is_tight items) k = items-both items k
  block-both (table alignments header rows) k = (k, refl)
  block-both (element name attributes content) k =
      let first : Bool = not (is_headed_element name) || title_keeps content in
      let p = and_parts (blocks_keep false content) first k in
      let q = both content false p.0 in
      (and_from (lines_stand content) first q.0 p.1, q.1)
  block-both (tags t) k = (refl, refl)

  pub both : (d : Blocks) (is_end : Bool) → blocks_keep is_end d ≡ true
      → (lines_stand d ≡ true) × (all_stand is_end d ≡ true)
  both no_blocks is_end k = (refl, refl)
  both (block b bs) is_end k =
      let alone : Bool = not (is_alone b) || stand_alone is_end bs in
      let p = and_parts (block_keeps b && alone) (blocks_keep is_end bs) k in
      let q = and_parts (block_keeps b) alone p.0 in
      let own = block-both b q.0 in
      let rest = both bs is_end p.1 in (
        and_from (block_lines_stand b) (lines_stand bs) own.0 rest.0,
        and_from (stand_inside b && alone) (all_stand is_end bs) (and_from (stand_inside b) alone own.1 q.1) rest.1,
      )

  items-both : (items : Items) → items_keep items ≡ true
      → (item_lines_stand items ≡ true) × (items_stand_well items ≡ true)
  items-both no_items k = (refl, refl)
  items-both (item bs rest) k =
      let p = and_parts (blocks_keep false bs) (items_keep rest) k in
      let own = both bs false p.0 in
      let others = items-both rest p.1 in (
        and_from (lines_stand bs) (item_lines_stand rest) own.0 others.0,
        and_from (all_stand false bs) (items_stand_well rest) own.1 others.1,
      )

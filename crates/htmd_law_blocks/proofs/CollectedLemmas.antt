-- A document's blocks define no link; the definitions after them are all.
use Rattle.std.proofs.Common.{◌≡◌, ◌∙◌, refl, sym, ap, ℕ, suc, Bool, true, false, not, List, [], ◌∷◌, ◌++◌}
use Rattle.std.proofs.Common.{append_assoc}
use Rattle.std.specs.Prelude.{Option, None}
use Rattle.htmd_document.specs.Documents as documents
use Rattle.htmd_commonmark.specs.declared.blocks.Place.{Place}
use Rattle.htmd_commonmark.specs.declared.markers.Sign.{Sign}
use Rattle.htmd_commonmark.specs.declared.markers.Markers.{Markers}
use Rattle.htmd_commonmark.specs.declared.options.DocumentOptions.{DocumentOptions}
use Rattle.htmd_commonmark.specs.BlockMarkdown.{item_count, markers_of, place_in_item, place_in_quote, behind_first}
use Rattle.htmd_commonmark.specs.BlockMarkdown.{sign_of, written_blocks, written_block}
use Rattle.htmd_commonmark.specs.DocumentMarkdown.{outermost}
use Rattle.htmd_commonmark_reading.specs.LinkDefinitions.{Definition}
use Rattle.htmd_commonmark_reading.specs.Brackets.{References}
use Rattle.htmd_commonmark_reading.specs.Boxes.{ClosedBlock, text, headed, code, rule, html, grid, defined, boxed}
use Rattle.htmd_commonmark_reading.specs.Boxes.{ClosedBlocks, no_closed_blocks, closed_block, joined, definition_parts}
use Rattle.htmd_commonmark_reading.specs.Lists.{part_definitions, collected}
use Rattle.htmd_law_blocks.specs.DocumentParts.{first_parts, further_parts, block_parts, item_parts, document_parts}
use Rattle.htmd_law_blocks.specs.BlockLaws.{parts_with}

mutual
  first_none : (o : DocumentOptions) (p : Place) (ds : List (List ℕ)) (bs : documents.Blocks)
      → collected (first_parts o p ds bs) ≡ []
  first_none o p ds documents.no_blocks = refl
  first_none o p ds (documents.block first rest) =
      let q = behind_first p in
      let after = sign_of o None p.outer first in
      let es = (written_block o p None ds first).definitions in
      block_none o p None ds false first (further_parts o q after es rest) ∙ further_none o q after es rest

  further_none : (o : DocumentOptions) (p : Place) (before : Option Sign) (ds : List (List ℕ)) (bs : documents.Blocks)
      → collected (further_parts o p before ds bs) ≡ []
  further_none o p before ds documents.no_blocks = refl
  further_none o p before ds (documents.block first rest) =
      let after = sign_of o before p.outer first in
      let es = (written_block o p before ds first).definitions in
      block_none o p before ds (not p.tight) first (further_parts o p after es rest) ∙ further_none o p after es rest

  block_none : (o : DocumentOptions) (p : Place) (before : Option Sign) (ds : List (List ℕ)) (g : Bool)
      (b : documents.Block) (rs : ClosedBlocks) → collected (block_parts o p before ds g b rs) ≡ collected rs
  block_none o p before ds g (documents.paragraph content) rs = refl
  block_none o p before ds g (documents.heading level content) rs = refl
  block_none o p before ds g (documents.code_block language s) rs = refl
  block_none o p before ds g (documents.quote content) rs =
      ap (λ (x : References). x ++ collected rs) (first_none o (place_in_quote p.in_item) ds content)
  block_none o p before ds g documents.thematic_break rs = refl
  block_none o p before ds g (documents.element name attributes content) rs = refl
  block_none o p before ds g (documents.tags s) rs = refl
  block_none o p before ds g (documents.list start t items) rs =
      items_none o (markers_of o before p.outer start (item_count items)) t 0 ds g items rs
  block_none o p before ds g (documents.table alignments header rows) rs = refl

  items_none : (o : DocumentOptions) (m : Markers) (t : Bool) (k : ℕ) (ds : List (List ℕ)) (g : Bool)
      (items : documents.Items) (rs : ClosedBlocks) → collected (item_parts o m t k ds g items rs) ≡ collected rs
  items_none o m t k ds g documents.no_items rs = refl
  items_none o m t k ds g (documents.item first others) rs =
      let p = place_in_item m t in
      let es = (written_blocks o p ds first).definitions in
      let more = item_parts o m t (suc k) es (not t) others rs in
      ap (λ (x : References). x ++ collected more) (first_none o p ds first)
      ∙ items_none o m t (suc k) es (not t) others rs

part_before : (p : ClosedBlock) (a b : References) → part_definitions p (a ++ b) ≡ part_definitions p a ++ b
part_before (text s) a b = refl
part_before (headed level s) a b = refl
part_before (code language s) a b = refl
part_before rule a b = refl
part_before (html s) a b = refl
part_before (grid alignments header rows) a b = refl
part_before (defined d) a b = refl
part_before (boxed kind ps) a b = sym (append_assoc (collected ps) a b)

collected_joined : (ps qs : ClosedBlocks) → collected (joined ps qs) ≡ collected ps ++ collected qs
collected_joined no_closed_blocks qs = refl
collected_joined (closed_block g p ps) qs =
    ap (part_definitions p) (collected_joined ps qs) ∙ part_before p (collected ps) (collected qs)

all_defined : (g : Bool) (found : List Definition) → collected (definition_parts g found no_closed_blocks) ≡ found
all_defined g [] = refl
all_defined g (d ∷ ds) = ap (◌∷◌ d) (all_defined false ds)

pub all_collected : (o : DocumentOptions) (d : documents.Blocks) (found : List Definition)
    → collected (parts_with o d found) ≡ found
all_collected o d found =
    let ds = definition_parts true found no_closed_blocks in
    collected_joined (document_parts o d) ds
    ∙ ap (λ (x : References). x ++ collected ds) (first_none o outermost [] d)
    ∙ all_defined true found

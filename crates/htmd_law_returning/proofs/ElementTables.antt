-- A rich page's table whose cells hold blocks is the element that it was.
use Rattle.std.proofs.Common.{◌≡◌, ℕ, Bool, true, false, not, ◌&&◌, ◌||◌, cond, List, []}
use Rattle.std.proofs.Common.{◌∷◌, ◌++◌}
use Rattle.std.proofs.Common.{Option, Some, None, filter, map, refl, sym, ap, ◌∙◌}
use Rattle.std.specs.List.{list_all, list_any}
use Rattle.std.specs.Str.{chars}
use Rattle.std.proofs.lemmas.Bool.{and_parts}
use Rattle.htmd_lexical.specs.AttributePairs.{AttributePair}
use Rattle.htmd_lexical.specs.Characters.{line_feed}
use Rattle.htmd_document.specs.Documents.{Block}
use Rattle.htmd_document.specs.Documents.{element, Blocks, no_blocks, block, blocks_of, BlockAttribute}
use Rattle.htmd_document.specs.declared.document.BlockElement.{BlockElement}
use Rattle.htmd_document.specs.declared.document.BlockElement.TheVariants as an
use Rattle.htmd_flow.specs.Contexts.{Context, apart}
use Rattle.htmd_flow.specs.Flows.{nodes_of, node_of, flow_all}
use Rattle.htmd_flow.specs.Flows as flow
use Rattle.htmd_flow.specs.Levels.{list_of}
use Rattle.htmd_flow.specs.Paragraphs.{fed_all}
use Rattle.htmd_flow.specs.Parts.{Part, edge, whole}
use Rattle.htmd_flow.specs.TableElements as elements
use Rattle.htmd_flow.specs.Tables as tables
use Rattle.htmd_shown.specs.Facts.{made, facts_of}
use Rattle.htmd_shown.specs.Showings.{show, shows}
use Rattle.htmd_shown.specs.SimpleTrees.{Simple, Simples, more}
use Rattle.htmd_shown.specs.SimpleTrees as simple
use Rattle.htmd_shown.specs.declared.facts.Facts.{Facts}
use Rattle.htmd_shown.specs.declared.role.Role.TheVariants as role
use Rattle.htmd_law_rendering.specs.RenderedTrees.{pairs_of_element}
use Rattle.htmd_law_returning.specs.SettledDocuments.{has_no_attributes, are_settled_in, weight_in, blocks_are_away}
use Rattle.htmd_law_returning.specs.SettledTables.{is_border_at_most, are_of_cell, cell_attributes}
use Rattle.htmd_law_returning.specs.SettledTables.{cells_in, rows_in, has_header, is_wide, is_told}
use Rattle.htmd_law_returning.specs.SettledTables.{have_fitting_cells, is_tall, are_filled_rows, end_at_captions}
use Rattle.htmd_law_returning.specs.SettledTables.{are_rows_of_element}
use Rattle.htmd_law_returning.specs.LastingAnchors.{lines_in}
use Rattle.std.proofs.lemmas.Bool.{and_from}
use Rattle.htmd_law_returning.proofs.BareLemmas.{has_no_name}
use Rattle.htmd_law_returning.proofs.FirstTargets.{line-first, line-seen-none}
use Rattle.htmd_law_returning.proofs.LocalAnchors.{come_first}
use Rattle.htmd_law_returning.proofs.LocalAnchors.{local_all}
use Rattle.htmd_law_returning.proofs.LocalLines.{IsLocal, element-local}
use Rattle.htmd_law_returning.proofs.LocalTables.{lined, lined-local}
use Rattle.htmd_law_returning.proofs.SoundBlocks.{IsSound}
use Rattle.htmd_law_returning.proofs.SoundNodes.{sound-element, sound-text}
use Rattle.htmd_law_returning.proofs.CostLemmas.{spend-element, spend-past, spend-text}
use Rattle.htmd_law_returning.proofs.TableContents.{AreTableNodes, AreInTable, table-visible}
use Rattle.htmd_law_returning.proofs.FlowLemmas.{GivesBlock}
use Rattle.htmd_law_returning.proofs.LeanTrees.{heavy-tree}
use Rattle.htmd_law_returning.proofs.PartAttributes.{same-attributes, nameless}
use Rattle.htmd_law_returning.proofs.ReadyLemmas.{here, parts_of, apart-fed}
use Rattle.htmd_law_returning.proofs.RichCellLemmas.{line_tree}
use Rattle.htmd_law_returning.proofs.StartLemmas.{false-true, from-not}
use Rattle.htmd_law_returning.proofs.TallRows.{read, rows-uncut, rows-span, one-row-each}
use Rattle.htmd_law_returning.proofs.UnpartedPieces.{unparted, any-unparted, all-unparted, filled-same, paragraphs-same}
use Rattle.htmd_law_returning.proofs.UnpartedPieces.{alone-unparted, end-unparted, elements-unparted}
use lib.Utf8.{encode}

-- ---- what is known of a table

record IsRows (attributes : List BlockAttribute) (ps : List elements.Piece) : Type 0 where
  some : list_any elements.is_filled_piece ps ≡ true
  filled : (list_any is_tall ps || list_all elements.is_filled_piece ps) ≡ true
  told : is_told attributes ps ≡ true
  other : (elements.are_paragraphs ps && elements.has_header_alone ps) ≡ false

known-rows : (attributes : List BlockAttribute) (ps : List elements.Piece)
    → are_rows_of_element attributes ps ≡ true
    → IsRows attributes ps
known-rows attributes ps h =
    let form : Bool = elements.are_paragraphs ps && elements.has_header_alone ps in
    let all = and_parts ((are_filled_rows ps && have_fitting_cells ps) && is_told attributes ps) (not form) h in
    let three = and_parts (are_filled_rows ps && have_fitting_cells ps) (is_told attributes ps) all.0 in
    let two = and_parts (are_filled_rows ps) (have_fitting_cells ps) three.0 in
    let own = and_parts (list_any elements.is_filled_piece ps)
    (list_any is_tall ps || list_all elements.is_filled_piece ps) two.0 in
    record { some = own.0; filled = own.1; told = three.1; other = from-not form all.1 }

-- its border
record IsFrame (attributes : List BlockAttribute) (ps : List elements.Piece) : Type 0 where
  border : Bool
  is : flow.has_border (pairs_of_element attributes) ≡ border
  same : elements.border_attribute border ≡ attributes
  told : ((border || list_any has_header ps) || (elements.are_paragraphs ps && list_any is_wide ps)) ≡ true

framed : (attributes : List BlockAttribute) (ps : List elements.Piece) → is_border_at_most attributes ≡ true
    → is_told attributes ps ≡ true → IsFrame attributes ps
framed [] ps h told = record { border = false; is = refl; same = refl; told = told }
framed (a ∷ rest) ps h told =
    let same : elements.border_attribute true ≡ a ∷ rest =
    same-attributes (elements.border_attribute true) (a ∷ rest) h in
    record {
      border = true;
      is = ap (λ xs. flow.has_border (pairs_of_element xs)) (sym same);
      same = same;
      told = refl;
    }

-- ---- the elements again

module _ (attributes : List BlockAttribute) (content bs : Blocks) where
  -- what is known of the first cell, and of the others
  record AreCells : Type 0 where
    again : cell_attributes (pairs_of_element attributes) ≡ attributes
    later : are_settled_in an.Row bs ≡ true

  cells-known : (name : BlockElement)
      → ((are_of_cell attributes && are_settled_in name content) && are_settled_in an.Row bs) ≡ true
      → AreCells
  cells-known name h =
      let own : Bool = are_of_cell attributes in
      let all = and_parts (own && are_settled_in name content) (are_settled_in an.Row bs) h in
      let first = and_parts own (are_settled_in name content) all.0 in
      record {
        again = same-attributes (cell_attributes (pairs_of_element attributes)) attributes first.0;
        later = all.1;
      }

cells-again : (row : Blocks) → are_settled_in an.Row row ≡ true
    → blocks_of (map elements.cell_element (cells_in row)) ≡ row
cells-again no_blocks settled = refl
cells-again (block (element an.Cell attributes content) bs) settled =
    let own = cells-known attributes content bs an.Cell settled in
    ap (λ xs. block (element an.Cell xs content) (blocks_of (map elements.cell_element (cells_in bs)))) own.again
    ∙ ap (block (element an.Cell attributes content)) (cells-again bs own.later)
cells-again (block (element an.HeaderCell attributes content) bs) settled =
    let own = cells-known attributes content bs an.HeaderCell settled in
    ap (λ xs. block (element an.HeaderCell xs content) (blocks_of (map elements.cell_element (cells_in bs)))) own.again
    ∙ ap (block (element an.HeaderCell attributes content)) (cells-again bs own.later)
cells-again (block b bs) settled = false-true settled

no-attributes : (attributes : List BlockAttribute) → has_no_attributes attributes ≡ true → [] ≡ attributes
no-attributes [] h = refl
no-attributes (a ∷ rest) h = false-true h

rows-again : (part : Option ℕ) (rows : Blocks) → are_settled_in an.Table rows ≡ true
    → blocks_of (map elements.piece_element (rows_in part rows)) ≡ rows
rows-again part no_blocks settled = refl
rows-again part (block (element an.Caption attributes content) bs) settled =
    let own : Bool = has_no_attributes attributes && blocks_are_away content in
    let good = and_parts (own && are_settled_in an.Caption content) (are_settled_in an.Table bs) settled in
    let first = and_parts own (are_settled_in an.Caption content) good.0 in
    ap (λ xs. block (element an.Caption xs content) (blocks_of (map elements.piece_element (rows_in part bs))))
    (no-attributes attributes (and_parts (has_no_attributes attributes) (blocks_are_away content) first.0).0)
    ∙ ap (block (element an.Caption attributes content)) (rows-again part bs good.1)
rows-again part (block (element an.Row attributes cells) bs) settled =
    let good = and_parts (has_no_attributes attributes && are_settled_in an.Row cells) (are_settled_in an.Table bs)
    settled in
    let own = and_parts (has_no_attributes attributes) (are_settled_in an.Row cells) good.0 in
    let rest : Blocks = blocks_of (map elements.piece_element (rows_in part bs)) in
    ap (λ cs. block (element an.Row [] cs) rest) (cells-again cells own.1)
    ∙ (ap (λ xs. block (element an.Row xs cells) rest) (no-attributes attributes own.0)
    ∙ ap (block (element an.Row attributes cells)) (rows-again part bs good.1))
rows-again part (block b bs) settled = false-true settled

-- ---- the table

-- no table of GitHub's form
element-made : (border : Bool) (ps : List elements.Piece) (attributes : List BlockAttribute) (rows : Blocks)
    → (elements.are_paragraphs ps && elements.has_header_alone ps) ≡ false
    → list_any elements.is_filled_piece ps ≡ true → elements.border_attribute border ≡ attributes
    → blocks_of (map elements.piece_element ps) ≡ rows
    → elements.table_of_pieces border ps ≡ Some (element an.Table attributes rows)
element-made border ps attributes rows other some frame again =
    ap (λ b. cond b (elements.table_of_lines ps) (elements.table_of_elements border ps)) other
    ∙ (ap (λ b. cond b (Some (element an.Table (elements.border_attribute border)
    (blocks_of (map elements.piece_element ps)))) None) some
    ∙ (ap (λ xs. Some (element an.Table xs (blocks_of (map elements.piece_element ps)))) frame
    ∙ ap (λ bs. Some (element an.Table attributes bs)) again))

-- a table of pieces that stay
element-parts : (trees : List Simple) (pairs : List AttributePair) (pieces : List flow.TablePiece)
    (nodes : List flow.Node) (context : Context) (made_of : List elements.Piece) (b : Block)
    (spans border headed : Bool)
    → flow.have_row_spans (flow.rows_in pieces) ≡ spans → filter (flow.stays spans) pieces ≡ pieces
    → tables.holds_table_alone true trees ≡ true → flow.has_border pairs ≡ border
    → list_any flow.heads pieces ≡ headed
    → ((border || headed) || (elements.are_paragraphs made_of && list_any flow.is_wide pieces)) ≡ true
    → (elements.are_paragraphs made_of ≡ true → list_any flow.holds_table pieces ≡ false)
    → map (flow.piece_with_blocks spans context) pieces ≡ made_of → elements.cut_all made_of ≡ made_of
    → elements.table_of_pieces border made_of ≡ Some b
    → flow.rich_table_parts trees pairs pieces nodes context ≡ edge ∷ whole b ∷ edge ∷ []
element-parts trees pairs pieces nodes context made_of b spans border headed spanning kept alone frame heads told free
    gives uncut is =
    let grid : Bool = flow.may_be_grid pieces in
    ap (λ s. apart (flow.kept_table_parts trees pairs s (filter (flow.stays s) pieces) nodes context)) spanning
    ∙ (ap (λ ps. apart (flow.kept_table_parts trees pairs spans ps nodes context)) kept
    ∙ (ap (λ x. apart (cond (not x || not (flow.is_headed pairs pieces || grid)) content
    (flow.table_with_blocks pairs pieces (flow.pieces_with_blocks spans pieces context) content))) alone
    ∙ (ap (λ ps. shape (flow.is_headed pairs pieces) grid (elements.are_paragraphs ps) (flow.has_border pairs) ps)
    (ap elements.cut_all gives ∙ uncut)
    ∙ (ap (λ x. shape (x || list_any flow.heads pieces) grid (elements.are_paragraphs made_of) x made_of) frame
    ∙ (ap (λ x. shape (border || x) grid (elements.are_paragraphs made_of) border made_of) heads
    ∙ either (border || headed) told)))))
  where
    content : List Part
    content = flow_all nodes context

    shape : Bool → Bool → Bool → Bool → List elements.Piece → List Part
    shape h g p x ps =
        apart (cond (not (h || g)) content
        (cond (h || p) (flow.block_part (elements.table_of_pieces x ps)) content))

    either : (h : Bool) → (h || (elements.are_paragraphs made_of && list_any flow.is_wide pieces)) ≡ true
        → shape h (flow.may_be_grid pieces) (elements.are_paragraphs made_of) border made_of
        ≡ edge ∷ whole b ∷ edge ∷ []
    either true e = ap (λ o. apart (flow.block_part o)) is
    either false e =
        let p : Bool = elements.are_paragraphs made_of in
        let two = and_parts p (list_any flow.is_wide pieces) e in
        ap (λ w. shape false (w && not (list_any flow.holds_table pieces)) p border made_of) two.1
        ∙ (ap (λ x. shape false (not x) p border made_of) (free two.0)
        ∙ (ap (λ x. shape false true x border made_of) two.0 ∙ ap (λ o. apart (flow.block_part o)) is))

module _ (is_rich : Bool) (n outer : ℕ) (attributes : List BlockAttribute) (rows : Blocks) (ts : Simples)
    (all : AreTableNodes is_rich n rows ts) where
  pieces-are : flow.pieces_of (lined ts) ≡ flow.pieces_of ts
  unfolding node_of
  pieces-are = refl

  rows-alone : tables.holds_table_alone true (list_of (lined ts)) ≡ true
  unfolding chars encode
  rows-alone = all.alone

  abbrev pieces : List flow.TablePiece
  pieces = flow.pieces_of ts

  abbrev made_of : List elements.Piece
  made_of = read (here is_rich n) pieces

  -- how rows are read, by whether a cell takes more than one
  record IsReading : Type 0 where
    spans : Bool
    spanning : flow.have_row_spans (flow.rows_in pieces) ≡ spans
    kept : filter (flow.stays spans) pieces ≡ pieces
    gives : map (flow.piece_with_blocks spans (here is_rich n)) pieces ≡ made_of

  tall-same : (p : elements.Piece) → is_tall (unparted p) ≡ is_tall p
  tall-same (elements.caption content) = refl
  tall-same (elements.row r) = refl

  rows-read : end_at_captions made_of ≡ true
      → (list_any is_tall (rows_in None rows) || list_all elements.is_filled_piece (rows_in None rows)) ≡ true
      → IsReading
  rows-read fit filled = either (list_any is_tall (rows_in None rows)) refl filled
    where
      tall : list_any is_tall made_of ≡ list_any is_tall (rows_in None rows)
      tall = sym (any-unparted is_tall tall-same made_of) ∙ ap (list_any is_tall) all.pieces.same

      spanning : flow.have_row_spans (flow.rows_in pieces) ≡ list_any is_tall made_of
      spanning = rows-span (here is_rich n) pieces all.pieces.joined fit

      either : (b : Bool) → list_any is_tall (rows_in None rows) ≡ b
          → (b || list_all elements.is_filled_piece (rows_in None rows)) ≡ true → IsReading
      either true e h = record {
        spans = true;
        spanning = spanning ∙ (tall ∙ e);
        kept = all.pieces.all_kept;
        gives = refl;
      }
      either false e h = record {
        spans = false;
        spanning = spanning ∙ (tall ∙ e);
        kept = all.pieces.kept h;
        gives = one-row-each (here is_rich n) pieces fit (tall ∙ e);
      }

  table-parts : is_border_at_most attributes ≡ true → end_at_captions (rows_in None rows) ≡ true
      → are_rows_of_element attributes (rows_in None rows) ≡ true → are_settled_in an.Table rows ≡ true
      → flow.rich_table_parts (list_of (lined ts)) (pairs_of_element attributes) (flow.pieces_of (lined ts))
      (nodes_of (lined ts)) (here is_rich n)
      ≡ edge ∷ whole (element an.Table attributes rows) ∷ edge ∷ []
  table-parts border ends form settled =
      let qs : List elements.Piece = rows_in None rows in
      let are = all.pieces in
      let own = known-rows attributes qs form in
      let fit : end_at_captions made_of ≡ true =
      sym (end-unparted made_of) ∙ (ap end_at_captions are.same ∙ ends) in
      let frame = framed attributes qs border own.told in
      let read_so = rows-read fit own.filled in
      let papers : elements.are_paragraphs made_of ≡ elements.are_paragraphs qs =
      sym (all-unparted elements.holds_paragraphs paragraphs-same made_of) ∙ ap elements.are_paragraphs are.same in
      ap (λ xs. flow.rich_table_parts (list_of (lined ts)) (pairs_of_element attributes) xs
      (nodes_of (lined ts)) (here is_rich n)) pieces-are
      ∙ element-parts (list_of (lined ts)) (pairs_of_element attributes) pieces
      (nodes_of (lined ts)) (here is_rich n) made_of (element an.Table attributes rows) read_so.spans frame.border
      (list_any has_header qs) read_so.spanning read_so.kept rows-alone frame.is are.heads
      (ap (λ p. (frame.border || list_any has_header qs) || (p && list_any flow.is_wide pieces)) papers
      ∙ (ap (λ w. (frame.border || list_any has_header qs) || (elements.are_paragraphs qs && w)) are.wide
      ∙ frame.told)) (λ h. are.tableless (sym papers ∙ h)) read_so.gives (rows-uncut made_of are.joined fit)
      (element-made frame.border made_of attributes rows
      (ap (λ b. b && elements.has_header_alone made_of) papers
      ∙ (ap (λ b. elements.are_paragraphs qs && b)
      (sym (alone-unparted made_of) ∙ ap elements.has_header_alone are.same) ∙ own.other))
      (sym (any-unparted elements.is_filled_piece filled-same made_of)
      ∙ (ap (list_any elements.is_filled_piece) are.same ∙ own.some)) frame.same
      (ap blocks_of (sym (elements-unparted made_of) ∙ ap (map elements.piece_element) are.same)
      ∙ rows-again None rows settled))

  element-fed : (known : Facts) → is_rich ≡ true
      → flow.rich_table_parts (list_of (lined ts)) (pairs_of_element attributes) (flow.pieces_of (lined ts))
      (nodes_of (lined ts)) (here is_rich n)
      ≡ edge ∷ whole (element an.Table attributes rows) ∷ edge ∷ []
      → (us : Simples)
      → parts_of is_rich n (more (simple.element outer role.Table known (pairs_of_element attributes) (lined ts)) us)
      ≡ edge ∷ whole (element an.Table attributes rows) ∷ edge ∷ parts_of is_rich n us
  unfolding node_of
  element-fed known rich inside us =
      let trees : List Simple = list_of (lined ts) in
      let nodes : List flow.Node = nodes_of (lined ts) in
      let context : Context = here is_rich n in
      let after : List Part = parts_of is_rich n us in
      let parts : List Part =
      flow.rich_table_parts trees (pairs_of_element attributes) (flow.pieces_of (lined ts)) nodes context in
      ap (λ r. cond (r && true) parts
      (flow.table_parts trees nodes (flow.rows_of_table (lined ts)) context) ++ after) rich
      ∙ ap (λ ps. ps ++ after) inside

module _ (is_rich : Bool) (n outer : ℕ) (attributes : List BlockAttribute) (rows : Blocks) (ts : Simples)
    (all : AreInTable is_rich n rows ts) where
  abbrev table_tree : Simple
  table_tree = made outer role.Table (pairs_of_element attributes) (lined ts)

  abbrev local_content : Simples
  local_content = lined (local_all [] ts)

  table-local : IsLocal table_tree
      (simple.element outer role.Table (facts_of (lined ts)) (pairs_of_element attributes) local_content)
  table-local =
      let facts : Facts = facts_of (lined ts) in
      let pairs : List AttributePair = pairs_of_element attributes in
      let content = lined-local ts in
      let own = element-local outer role.Table facts pairs (lined ts) refl refl (content.1 ∙ all.waits) in
      (own.0 ∙ ap (simple.element outer role.Table facts pairs) content.0, own.1)

  table-sound : IsSound table_tree (lines_in rows)
  table-sound =
      sound-element outer role.Table (pairs_of_element attributes) (lined ts) (lines_in rows) refl
      (nameless attributes) (sound-text (line_feed ∷ []) ts (lines_in rows) all.sound)

  tree-visible : show false ts ≡ true → shows false table_tree ≡ true
  unfolding chars encode
  tree-visible h = h

  pub element-table-gives : is_rich ≡ true → is_border_at_most attributes ≡ true
      → end_at_captions (rows_in None rows) ≡ true
      → are_rows_of_element attributes (rows_in None rows) ≡ true → are_settled_in an.Table rows ≡ true
      → GivesBlock is_rich n table_tree (element an.Table attributes rows)
  element-table-gives rich border ends form settled = record {
    sound = table-sound;
    spent =
        let k : ℕ = weight_in rows in
        spend-element k outer role.Table (facts_of (lined ts)) (pairs_of_element attributes) (lined ts) refl
        (spend-past k line_tree ts (spend-text (line_feed ∷ [])) all.spent);
    kind = refl;
    untitled = refl;
    waits = table-local.1;
    led = λ ids e. false-true e;
    lean = heavy-tree refl refl (λ r. tree-visible (table-visible is_rich n rows ts all
        (known-rows attributes (rows_in None rows) form).some))
        (λ k. line-seen-none ts ∙ all.unseen k)
        (λ k. and_from (has_no_name (pairs_of_element attributes)) (come_first (lined ts)) (nameless attributes)
        (line-first ts ∙ all.leads k));
    gives = λ mode w done h may us.
        ap (λ t. fed_all w (parts_of is_rich n (more t us))) table-local.0
        ∙ (ap (fed_all w) (element-fed is_rich n outer attributes rows (local_all [] ts) all.nodes
        (facts_of (lined ts)) rich
        (table-parts is_rich n outer attributes rows (local_all [] ts) all.nodes border ends form settled) us)
        ∙ ap (λ v. fed_all v (parts_of is_rich n us)) (apart-fed mode w done h (element an.Table attributes rows)));
  }

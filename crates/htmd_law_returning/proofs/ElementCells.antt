-- What the cells and rows of a table that is an element give: cells that hold blocks.
use Rattle.std.proofs.Common.{◌≡◌, ℕ, suc, ◌+◌, Bool, true, false, ◌&&◌, ◌||◌, cond, List, [], ◌∷◌, Some}
use Rattle.std.proofs.Common.{filter, map, length, refl, sym, ap, ◌∙◌, subst, nat_lt, ◌++◌}
use Rattle.std.specs.List.{list_all, list_any}
use Rattle.std.specs.Str.{chars}
use Rattle.std.proofs.lemmas.Bool.{and_parts, and_from}
use Rattle.htmd_lexical.specs.Characters.{line_feed}
use Rattle.htmd_document.specs.Documents.{Blocks, no_blocks, block, element, BlockAttribute}
use Rattle.htmd_document.specs.TightItems.{is_filled}
use Rattle.htmd_document.specs.declared.document.BlockElement.{BlockElement}
use Rattle.htmd_document.specs.declared.document.BlockElement.TheVariants as an
use Rattle.htmd_flow.specs.Flows.{flow_all, node_of, nodes_of}
use Rattle.htmd_flow.specs.Flows as flow
use Rattle.htmd_flow.specs.Levels.{list_of}
use Rattle.htmd_flow.specs.TableElements as elements
use Rattle.htmd_flow.specs.Tables as tables
use Rattle.htmd_shown.specs.Facts.{made, facts_of}
use Rattle.htmd_shown.specs.Kinds.{holds, have_table}
use Rattle.htmd_shown.specs.Showings.{show}
use Rattle.htmd_shown.specs.SimpleTrees.{Simple, Simples, none, more}
use Rattle.htmd_shown.specs.SimpleTrees as simple
use Rattle.htmd_shown.specs.declared.facts.Facts.{Facts}
use Rattle.htmd_lexical.specs.AttributePairs.{AttributePair}
use Rattle.htmd_document_of_tree.specs.Seen.{all_seen}
use Rattle.htmd_law_returning.specs.LastingAnchors.{title_keeps, are_unseen}
use Rattle.htmd_law_returning.proofs.FirstTargets.{IsLead, first-more, line-first, line-seen-none, unseen-more}
use Rattle.htmd_law_returning.proofs.LocalAnchors.{come_first}
use Rattle.htmd_law_returning.specs.LastingAnchors.{Line, lines_in}
use Rattle.htmd_law_returning.proofs.LocalAnchors.{local_all, pending_all}
use Rattle.htmd_law_returning.proofs.LocalLines.{element-local}
use Rattle.htmd_law_returning.proofs.LocalShowings.{all-local-shows}
use Rattle.htmd_law_returning.proofs.LocalTables.{lined, next-local, cell-local, row_with, row_tree, row-local}
use Rattle.htmd_law_returning.proofs.LocalTables.{sound-next, sound-row}
use Rattle.htmd_law_returning.proofs.SoundBlocks.{AreSound, IsSound, sound-none}
use Rattle.htmd_law_returning.proofs.SoundNodes.{sound-element}
use Rattle.htmd_shown.specs.declared.role.Role.TheVariants as role
use Rattle.htmd_law_rendering.specs.RenderedTrees.{pairs_of_element}
use Rattle.htmd_law_returning.specs.SettledDocuments.{weight_in, said_in}
use Rattle.htmd_law_returning.specs.SettledTables.{cells_in, rows_in, has_header, is_wide}
use Rattle.htmd_law_returning.proofs.BareLemmas.{has_no_name}
use Rattle.htmd_law_returning.proofs.CostLemmas.{AllSpend, spend-element, spend-none, spend-more, spend-past}
use Rattle.htmd_law_returning.proofs.CostLemmas.{spend-text}
use Rattle.htmd_law_returning.proofs.NearContexts.{silent-same, all-same}
use Rattle.htmd_law_returning.proofs.PartAttributes.{silent}
use Rattle.htmd_law_returning.proofs.ReadyLemmas.{here, parts_of}
use Rattle.htmd_law_returning.proofs.RichCellLemmas.{cell_role, cells_among, line_tree, or-true, cells-show}
use Rattle.htmd_law_returning.proofs.RichTableLemmas.{body_rows, as_pieces}
use Rattle.htmd_law_returning.proofs.StartLemmas.{false-true}
use Rattle.htmd_document_of_tree.specs.Limits.{is_carrying}
use lib.Utf8.{encode}

-- something shows first, or later
either-visible : (a b c d : Bool) → (c ≡ true → a ≡ true) → (d ≡ true → b ≡ true) → (c || d) ≡ true
    → (a || b) ≡ true
either-visible a b true d own later h = ap (λ x. x || b) (own refl)
either-visible a b false d own later h = ap (λ x. a || x) (later h) ∙ or-true a

-- ---- cells

abbrev pub cell_name : Bool → BlockElement
cell_name true = an.HeaderCell
cell_name false = an.Cell

-- nodes that are the cells of a row
pub record AreCellNodes (is_rich : Bool) (n : ℕ) (row : Blocks) (ts : Simples) : Type 0 where
  pub alone : list_all (tables.is_cell_or_nothing true) (list_of ts) ≡ true
  pub gives : map (flow.cell_with_blocks true false (here is_rich n)) (cells_among ts) ≡ cells_in row
  pub shows : list_any (λ (m : flow.Node). flow.content_shows m.tree) (cells_among ts)
      ≡ list_any elements.is_filled_cell (cells_in row)
  pub heads : list_any (λ (m : flow.Node). flow.is_header false m.tree) (cells_among ts)
      ≡ list_any (λ (c : elements.Cell). c.is_header) (cells_in row)
  pub count : length (cells_among ts) ≡ length (cells_in row)
  pub tableless : list_all elements.is_paragraph_cell (cells_in row) ≡ true
      → list_any (λ (m : flow.Node). holds (λ f. f.holds_table) m.tree) (cells_among ts) ≡ false

-- what shows of them, with anchors or without
pub record AreElementCells (is_rich : Bool) (n : ℕ) (row : Blocks) (ts : Simples) : Type 0 where
  pub sound : AreSound ts (lines_in row)
  pub waits : pending_all [] ts ≡ []
  pub spent : AllSpend (weight_in row) (said_in row) ts
  pub nodes : AreCellNodes is_rich n row (local_all [] ts)
  pub leads : title_keeps row ≡ true → come_first ts ≡ true
  pub unseen : are_unseen row ≡ true → all_seen ts ≡ 0

module _ (is_rich : Bool) (n : ℕ) where
  no-nodes : AreCellNodes is_rich n no_blocks none
  unfolding node_of
  no-nodes = record {
    alone = refl;
    gives = refl;
    shows = refl;
    heads = refl;
    count = refl;
    tableless = λ h. refl;
  }

  pub no-cells : AreElementCells is_rich n no_blocks none
  no-cells = record {
    sound = sound-none;
    waits = refl;
    spent = spend-none;
    nodes = no-nodes;
    leads = λ h. refl;
    unseen = λ h. refl;
  }

  -- what is known of a cell's nodes, and of its blocks
  record IsCellNode (facts : Facts) (attributes : List BlockAttribute) (content : Simples) (d : Blocks) : Type 0 where
    gives : flow.blocks_of false (parts_of is_rich n content) ≡ d
    shows : show false content ≡ is_filled d
    tableless : elements.is_paragraph_at_most d ≡ true → facts.holds_table ≡ false

  pub record IsCellTree (attributes : List BlockAttribute) (content : Simples) (d : Blocks) : Type 0 where
    pub nameless : has_no_name (pairs_of_element attributes) ≡ true
    pub sound : AreSound content (lines_in d)
    pub waits : pending_all [] content ≡ []
    pub spent : AllSpend (weight_in d) (said_in d) content
    pub gives : flow.blocks_of false (parts_of is_rich n (local_all [] content)) ≡ d
    pub shows : show false content ≡ is_filled d
    pub tableless : elements.is_paragraph_at_most d ≡ true → have_table content ≡ false
    pub first : title_keeps d ≡ true → come_first content ≡ true
    pub unseen : are_unseen d ≡ true → all_seen content ≡ 0

  abbrev cell_node : ℕ → Bool → Facts → List BlockAttribute → Simples → Simple
  cell_node id is_header facts attributes content =
      simple.element id (cell_role is_header) facts (pairs_of_element attributes) content

  abbrev cell_trees : ℕ → Bool → Facts → List BlockAttribute → Simples → Simples → Simples
  cell_trees id is_header facts attributes content ts =
      more (cell_node id is_header facts attributes content) (lined ts)

  cell-alone : (id : ℕ) (is_header : Bool) (facts : Facts) (attributes : List BlockAttribute) (content ts : Simples)
      → list_all (tables.is_cell_or_nothing true) (list_of ts) ≡ true
      → list_all (tables.is_cell_or_nothing true) (list_of (cell_trees id is_header facts attributes content ts))
      ≡ true
  unfolding chars encode
  cell-alone id true facts attributes content ts h = h
  cell-alone id false facts attributes content ts h = h

  cell-gives : (id : ℕ) (is_header : Bool) (facts : Facts) (attributes : List BlockAttribute) (content ts : Simples)
      (d rest : Blocks)
      → IsCellNode facts attributes content d
      → map (flow.cell_with_blocks true false (here is_rich n)) (cells_among ts) ≡ cells_in rest
      → map (flow.cell_with_blocks true false (here is_rich n))
      (cells_among (cell_trees id is_header facts attributes content ts))
      ≡ cells_in (block (element (cell_name is_header) attributes d) rest)
  unfolding node_of
  cell-gives id true facts attributes content ts d rest own e = rw (own.gives, e) refl
  cell-gives id false facts attributes content ts d rest own e =
      rw (
        silent-same facts.pres (pairs_of_element attributes) (silent attributes)
            (λ c. flow.blocks_of false (flow_all (nodes_of content) c))
            (λ c x y h. ap (flow.blocks_of false) (all-same content c x y h)) is_rich n,
        own.gives,
        e,
      ) refl

  cell-shows : (id : ℕ) (is_header : Bool) (facts : Facts) (attributes : List BlockAttribute) (content ts : Simples)
      (d rest : Blocks)
      → show false content ≡ is_filled d
      → list_any (λ (m : flow.Node). flow.content_shows m.tree) (cells_among ts)
      ≡ list_any elements.is_filled_cell (cells_in rest)
      → list_any (λ (m : flow.Node). flow.content_shows m.tree)
      (cells_among (cell_trees id is_header facts attributes content ts))
      ≡ list_any elements.is_filled_cell (cells_in (block (element (cell_name is_header) attributes d) rest))
  unfolding node_of
  cell-shows id true facts attributes content ts d rest own e = rw (own, e) refl
  cell-shows id false facts attributes content ts d rest own e = rw (own, e) refl

  cell-heads : (id : ℕ) (is_header : Bool) (facts : Facts) (attributes : List BlockAttribute) (content ts : Simples)
      (d rest : Blocks)
      → list_any (λ (m : flow.Node). flow.is_header false m.tree) (cells_among ts)
      ≡ list_any (λ (c : elements.Cell). c.is_header) (cells_in rest)
      → list_any (λ (m : flow.Node). flow.is_header false m.tree)
      (cells_among (cell_trees id is_header facts attributes content ts))
      ≡ list_any (λ (c : elements.Cell). c.is_header)
      (cells_in (block (element (cell_name is_header) attributes d) rest))
  unfolding node_of
  cell-heads id true facts attributes content ts d rest e = refl
  cell-heads id false facts attributes content ts d rest e = e

  cell-count : (id : ℕ) (is_header : Bool) (facts : Facts) (attributes : List BlockAttribute) (content ts : Simples)
      (d rest : Blocks)
      → length (cells_among ts) ≡ length (cells_in rest)
      → length (cells_among (cell_trees id is_header facts attributes content ts))
      ≡ length (cells_in (block (element (cell_name is_header) attributes d) rest))
  unfolding node_of
  cell-count id true facts attributes content ts d rest e = ap suc e
  cell-count id false facts attributes content ts d rest e = ap suc e

  cell-tableless : (id : ℕ) (is_header : Bool) (facts : Facts) (attributes : List BlockAttribute)
      (content ts : Simples)
      (d rest : Blocks) → (elements.is_paragraph_at_most d ≡ true → facts.holds_table ≡ false)
      → (list_all elements.is_paragraph_cell (cells_in rest) ≡ true
      → list_any (λ (m : flow.Node). holds (λ f. f.holds_table) m.tree) (cells_among ts) ≡ false)
      → list_all elements.is_paragraph_cell (cells_in (block (element (cell_name is_header) attributes d) rest))
      ≡ true
      → list_any (λ (m : flow.Node). holds (λ f. f.holds_table) m.tree)
      (cells_among (cell_trees id is_header facts attributes content ts)) ≡ false
  unfolding node_of
  cell-tableless id true facts attributes content ts d rest own later h =
      let parts = and_parts (elements.is_paragraph_at_most d) (list_all elements.is_paragraph_cell (cells_in rest)) h in
      rw (own parts.0) (later parts.1)
  cell-tableless id false facts attributes content ts d rest own later h =
      let parts = and_parts (elements.is_paragraph_at_most d) (list_all elements.is_paragraph_cell (cells_in rest)) h in
      rw (own parts.0) (later parts.1)

  more-nodes : (id : ℕ) (is_header : Bool) (facts : Facts) (attributes : List BlockAttribute) (content ts : Simples)
      (d rest : Blocks) → IsCellNode facts attributes content d → AreCellNodes is_rich n rest ts
      → AreCellNodes is_rich n (block (element (cell_name is_header) attributes d) rest)
      (cell_trees id is_header facts attributes content ts)
  more-nodes id is_header facts attributes content ts d rest own later = record {
    alone = cell-alone id is_header facts attributes content ts later.alone;
    gives = cell-gives id is_header facts attributes content ts d rest own later.gives;
    shows = cell-shows id is_header facts attributes content ts d rest own.shows later.shows;
    heads = cell-heads id is_header facts attributes content ts d rest later.heads;
    count = cell-count id is_header facts attributes content ts d rest later.count;
    tableless = cell-tableless id is_header facts attributes content ts d rest own.tableless later.tableless;
  }

  cell-spent : (id : ℕ) (is_header : Bool) (attributes : List BlockAttribute) (content ts : Simples) (d rest : Blocks)
      → AllSpend (weight_in d) (said_in d) content → AllSpend (weight_in rest) (said_in rest) ts
      → AllSpend (weight_in d + weight_in rest) (λ w. said_in rest (said_in d w))
      (cell_trees id is_header (facts_of content) attributes content ts)
  cell-spent id is_header attributes content ts d rest own later =
      spend-more (weight_in d) (weight_in rest)
      (cell_node id is_header (facts_of content) attributes content) (lined ts)
      (spend-element (weight_in d) id (cell_role is_header) (facts_of content) (pairs_of_element attributes) content
      (free is_header) own)
      (spend-past (weight_in rest) line_tree ts (spend-text (line_feed ∷ [])) later)
    where
      free : (h : Bool) → is_carrying (cell_role h) ≡ false
      free true = refl
      free false = refl

  cell-sound : (id : ℕ) (is_header : Bool) (pairs : List AttributePair) (content : Simples) (ls : List Line)
      → has_no_name pairs ≡ true → AreSound content ls
      → IsSound (made id (cell_role is_header) pairs content) ls
  cell-sound id true pairs content ls h k = sound-element id role.HeaderCell pairs content ls refl h k
  cell-sound id false pairs content ls h k = sound-element id role.Cell pairs content ls refl h k

  lines-behind : (is_header : Bool) (attributes : List BlockAttribute) (d rest : Blocks)
      → lines_in d ++ lines_in rest ≡ lines_in (block (element (cell_name is_header) attributes d) rest)
  lines-behind true attributes d rest = refl
  lines-behind false attributes d rest = refl

  cell-leads : (id : ℕ) (is_header : Bool) (attributes : List BlockAttribute) (content : Simples) (d : Blocks)
      → IsCellTree attributes content d → IsLead (element (cell_name is_header) attributes d)
      (made id (cell_role is_header) (pairs_of_element attributes) content)
  cell-leads id true attributes content d own = record {
    first = λ h. and_from (has_no_name (pairs_of_element attributes)) (come_first content) own.nameless (own.first h);
    unseen = own.unseen;
  }
  cell-leads id false attributes content d own = record {
    first = λ h. and_from (has_no_name (pairs_of_element attributes)) (come_first content) own.nameless (own.first h);
    unseen = own.unseen;
  }

  pub more-cells : (id : ℕ) (is_header : Bool) (attributes : List BlockAttribute) (content ts : Simples)
      (d rest : Blocks) → IsCellTree attributes content d → AreElementCells is_rich n rest ts
      → AreElementCells is_rich n (block (element (cell_name is_header) attributes d) rest)
      (more (made id (cell_role is_header) (pairs_of_element attributes) content) (more line_tree ts))
  more-cells id is_header attributes content ts d rest own later =
      let facts : Facts = facts_of content in
      let pairs : List AttributePair = pairs_of_element attributes in
      let tree : Simple = made id (cell_role is_header) pairs content in
      let inner : Simples = local_all [] content in
      let first = cell-local id is_header facts pairs content own.waits in
      let stays = next-local tree (cell_node id is_header facts attributes inner) ts first in
      let whole : Blocks = block (element (cell_name is_header) attributes d) rest in
      record {
        sound = subst (λ ls. AreSound (more tree (lined ts)) ls) (lines-behind is_header attributes d rest)
            (sound-next tree ts (lines_in d) (lines_in rest) first.1
            (cell-sound id is_header pairs content (lines_in d) own.nameless own.sound) later.sound);
        waits = stays.1 ∙ later.waits;
        spent = cell-spent id is_header attributes content ts d rest own.spent later.spent;
        nodes = subst (λ (us : Simples). AreCellNodes is_rich n whole us) (sym stays.0)
            (more-nodes id is_header facts attributes inner (local_all [] ts) d rest
            (record {
              gives = own.gives;
              shows = all-local-shows false [] content ∙ own.shows;
              tableless = own.tableless;
            }) later.nodes);
        leads = first-more (element (cell_name is_header) attributes d) rest tree ts
            (cell-leads id is_header attributes content d own) later.sound later.leads;
        unseen = unseen-more (element (cell_name is_header) attributes d) rest tree ts
            (cell-leads id is_header attributes content d own) later.unseen;
      }

-- ---- rows

-- nodes that are the rows of a table
pub record AreRowNodes (is_rich : Bool) (n : ℕ) (rows : Blocks) (ts : Simples) : Type 0 where
  pub alone : list_all (tables.is_row_or_nothing true) (list_of ts) ≡ true
  pub gives : (id : ℕ) → map (flow.piece_with_blocks true (here is_rich n)) (as_pieces (body_rows id ts))
      ≡ rows_in (Some id) rows
  pub kept : (id : ℕ) → list_all elements.is_filled_piece (rows_in (Some id) rows) ≡ true
      → filter (flow.stays false) (as_pieces (body_rows id ts)) ≡ as_pieces (body_rows id ts)
  pub heads : (id : ℕ) → list_any flow.heads (as_pieces (body_rows id ts))
      ≡ list_any has_header (rows_in (Some id) rows)
  pub wide : (id : ℕ) → list_any flow.is_wide (as_pieces (body_rows id ts))
      ≡ list_any is_wide (rows_in (Some id) rows)
  pub tableless : (id : ℕ) → elements.are_paragraphs (rows_in (Some id) rows) ≡ true
      → list_any flow.holds_table (as_pieces (body_rows id ts)) ≡ false
  pub visible : (id : ℕ) → list_any elements.is_filled_piece (rows_in (Some id) rows) ≡ true
      → show false ts ≡ true

-- what shows of them, with anchors or without
pub record AreElementRows (is_rich : Bool) (n : ℕ) (rows : Blocks) (ts : Simples) : Type 0 where
  pub sound : AreSound ts (lines_in rows)
  pub waits : pending_all [] ts ≡ []
  pub spent : AllSpend (weight_in rows) (said_in rows) ts
  pub nodes : AreRowNodes is_rich n rows (local_all [] ts)
  pub leads : title_keeps rows ≡ true → come_first ts ≡ true
  pub unseen : are_unseen rows ≡ true → all_seen ts ≡ 0

module _ (is_rich : Bool) (n : ℕ) where
  none-rows : AreRowNodes is_rich n no_blocks none
  unfolding node_of
  none-rows = record {
    alone = refl;
    gives = λ id. refl;
    kept = λ id h. refl;
    heads = λ id. refl;
    wide = λ id. refl;
    tableless = λ id h. refl;
    visible = λ id h. false-true h;
  }

  abbrev bare_row : ℕ → Facts → Simple
  bare_row id facts = simple.element id role.Row facts [] none

  pub no-rows : AreElementRows is_rich n no_blocks none
  no-rows = record {
    sound = sound-none;
    waits = refl;
    spent = spend-none;
    nodes = none-rows;
    leads = λ h. refl;
    unseen = λ h. refl;
  }

  row-alone : (id : ℕ) (facts : Facts) (cells ts : Simples)
      → list_all (tables.is_cell_or_nothing true) (list_of cells) ≡ true
      → list_all (tables.is_row_or_nothing true) (list_of ts) ≡ true
      → list_all (tables.is_row_or_nothing true)
      (list_of (more (row_with facts id cells) (lined ts))) ≡ true
  unfolding chars encode
  row-alone id facts cells ts h k =
      ap (λ b. b && list_all (tables.is_row_or_nothing true) (list_of ts)) h ∙ k

  row-visible : (id : ℕ) (facts : Facts) (cells ts : Simples) (c d : Bool)
      → (c ≡ true → show false cells ≡ true)
      → (d ≡ true → show false ts ≡ true) → (c || d) ≡ true
      → show false (more (row_with facts id cells) (lined ts)) ≡ true
  unfolding chars encode
  row-visible id facts cells ts c d own later h = either-visible (show false cells) (show false ts) c d own later h

  one-more : (id : ℕ) (facts : Facts) (attributes : List BlockAttribute) (cells ts : Simples) (row rest : Blocks)
      → AreCellNodes is_rich n row cells → AreRowNodes is_rich n rest ts
      → AreRowNodes is_rich n (block (element an.Row attributes row) rest) (more (row_with facts id cells) (lined ts))
  unfolding node_of
  one-more id facts attributes cells ts row rest own later = record {
    alone = row-alone id facts cells ts own.alone later.alone;
    gives = λ part.
        ap (λ cs. elements.row (record { part = Some part; cells = cs })
        ∷ map (flow.piece_with_blocks true (here is_rich n)) (as_pieces (body_rows part ts))) own.gives
        ∙ ap (λ ps. elements.row (record { part = Some part; cells = cells_in row }) ∷ ps) (later.gives part);
    kept = λ part h.
        let parts = and_parts (list_any elements.is_filled_cell (cells_in row))
        (list_all elements.is_filled_piece (rows_in (Some part) rest)) h in
        let first : flow.Row = record { part = Some part; is_in_head = false; cells = cells_among cells } in
        ap (λ b. cond b (flow.of_row first ∷ filter (flow.stays false) (as_pieces (body_rows part ts)))
        (filter (flow.stays false) (as_pieces (body_rows part ts)))) (own.shows ∙ parts.0)
        ∙ ap (λ ps. flow.of_row first ∷ ps) (later.kept part parts.1);
    heads = λ part.
        ap (λ b. b || list_any flow.heads (as_pieces (body_rows part ts))) own.heads
        ∙ ap (λ b. list_any (λ (c : elements.Cell). c.is_header) (cells_in row) || b) (later.heads part);
    wide = λ part.
        ap (λ k. nat_lt 1 k || list_any flow.is_wide (as_pieces (body_rows part ts))) own.count
        ∙ ap (λ b. nat_lt 1 (length (cells_in row)) || b) (later.wide part);
    tableless = λ part h.
        let parts = and_parts (list_all elements.is_paragraph_cell (cells_in row))
        (elements.are_paragraphs (rows_in (Some part) rest)) h in
        ap (λ b. b || list_any flow.holds_table (as_pieces (body_rows part ts))) (own.tableless parts.0)
        ∙ later.tableless part parts.1;
    visible = λ part.
        row-visible id facts cells ts (list_any elements.is_filled_cell (cells_in row))
        (list_any elements.is_filled_piece (rows_in (Some part) rest))
        (λ h. cells-show cells (own.shows ∙ h)) (later.visible part);
  }

  pub more-rows : (id : ℕ) (attributes : List BlockAttribute) (cells ts : Simples) (row rest : Blocks)
      → AreElementCells is_rich n row cells → AreElementRows is_rich n rest ts
      → AreElementRows is_rich n (block (element an.Row attributes row) rest)
      (more (made id role.Row [] (more line_tree cells)) (more line_tree ts))
  more-rows id attributes cells ts row rest own later =
      let facts : Facts = facts_of (lined cells) in
      let first = row-local id cells own.waits in
      let stays = next-local (row_tree id cells) (row_with facts id (local_all [] cells)) ts first in
      record {
        sound = sound-next (row_tree id cells) ts (lines_in row) (lines_in rest) first.1
            (sound-row id cells (lines_in row) own.sound) later.sound;
        waits = stays.1 ∙ later.waits;
        spent = spend-more (weight_in row) (weight_in rest) (row_tree id cells) (lined ts)
            (spend-element (weight_in row) id role.Row facts [] (lined cells) refl
            (spend-past (weight_in row) line_tree cells (spend-text (line_feed ∷ [])) own.spent))
            (spend-past (weight_in rest) line_tree ts (spend-text (line_feed ∷ [])) later.spent);
        nodes = subst (λ (us : Simples). AreRowNodes is_rich n (block (element an.Row attributes row) rest) us)
            (sym stays.0)
            (one-more id facts attributes (local_all [] cells) (local_all [] ts) row rest own.nodes later.nodes);
        leads = first-more (element an.Row attributes row) rest (row_tree id cells) ts (record {
          first = λ h. line-first cells ∙ own.leads h;
          unseen = λ h. line-seen-none cells ∙ own.unseen h;
        }) later.sound later.leads;
        unseen = unseen-more (element an.Row attributes row) rest (row_tree id cells) ts (record {
          first = λ h. line-first cells ∙ own.leads h;
          unseen = λ h. line-seen-none cells ∙ own.unseen h;
        }) later.unseen;
      }

  -- a row without cells
  bare-nodes : (id : ℕ) (facts : Facts) (rest : Blocks) (ts : Simples) → AreRowNodes is_rich n rest ts
      → AreRowNodes is_rich n (block (element an.Row [] no_blocks) rest) (more (bare_row id facts) (lined ts))
  unfolding node_of chars encode
  bare-nodes id facts rest ts later = record {
    alone = later.alone;
    gives = λ part. ap (λ ps. elements.row (record { part = Some part; cells = [] }) ∷ ps) (later.gives part);
    kept = λ part h. false-true h;
    heads = later.heads;
    wide = later.wide;
    tableless = later.tableless;
    visible = later.visible;
  }

  pub one-bare-row : (id : ℕ) (rest : Blocks) (ts : Simples) → AreElementRows is_rich n rest ts
      → AreElementRows is_rich n (block (element an.Row [] no_blocks) rest)
      (more (made id role.Row [] none) (more line_tree ts))
  one-bare-row id rest ts later =
      let facts : Facts = facts_of none in
      let first = element-local id role.Row facts [] none refl refl refl in
      let stays = next-local (bare_row id facts) (bare_row id facts) ts first in
      record {
        sound = sound-next (bare_row id facts) ts [] (lines_in rest) first.1
            (sound-element id role.Row [] none [] refl refl sound-none) later.sound;
        waits = stays.1 ∙ later.waits;
        spent = spend-more 0 (weight_in rest) (bare_row id facts) (lined ts)
            (spend-element 0 id role.Row facts [] none refl spend-none)
            (spend-past (weight_in rest) line_tree ts (spend-text (line_feed ∷ [])) later.spent);
        nodes = subst (λ (us : Simples). AreRowNodes is_rich n (block (element an.Row [] no_blocks) rest) us)
            (sym stays.0) (bare-nodes id facts rest (local_all [] ts) later.nodes);
        leads = first-more (element an.Row [] no_blocks) rest (bare_row id facts) ts
            (record { first = λ h. refl; unseen = λ h. refl }) later.sound later.leads;
        unseen = unseen-more (element an.Row [] no_blocks) rest (bare_row id facts) ts
            (record { first = λ h. refl; unseen = λ h. refl }) later.unseen;
      }

-- something shows in rows in which something stands
pub rows-visible : (is_rich : Bool) (n id : ℕ) (rows : Blocks) (ts : Simples) → AreElementRows is_rich n rows ts
    → list_any elements.is_filled_piece (rows_in (Some id) rows) ≡ true → show false ts ≡ true
rows-visible is_rich n id rows ts all h = sym (all-local-shows false [] ts) ∙ all.nodes.visible id h

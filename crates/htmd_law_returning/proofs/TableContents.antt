-- What stands in a table that is an element: captions, and sections of rows between them.
use Rattle.std.proofs.Common.{◌≡◌, ℕ, ◌+◌, Bool, true, false, ◌&&◌, ◌||◌, cond, List, [], ◌∷◌, ◌++◌, Option, Some}
use Rattle.std.proofs.Common.{None, filter, map, refl, sym, ap, ◌∙◌, subst, arith, append_assoc}
use Rattle.std.specs.List.{list_all, list_any}
use Rattle.std.specs.Str.{chars}
use Rattle.std.specs.Prelude.{nat_le}
use Rattle.std.proofs.lemmas.Bool.{and_from, and_parts, or_right}
use Rattle.htmd_lexical.proofs.Cases.{test}
use Rattle.htmd_lexical.specs.Characters.{line_feed}
use Rattle.htmd_document.specs.Documents.{element, Blocks, no_blocks, block}
use Rattle.htmd_document.specs.TightItems.{is_filled}
use Rattle.htmd_document.specs.declared.document.BlockElement.TheVariants as an
use Rattle.htmd_flow.specs.Flows.{node_of, nodes_of, flow_all}
use Rattle.htmd_flow.specs.Flows as flow
use Rattle.htmd_flow.specs.Levels.{list_of}
use Rattle.htmd_flow.specs.TableElements as elements
use Rattle.htmd_flow.specs.Tables as tables
use Rattle.htmd_shown.specs.Facts.{made, facts_of}
use Rattle.htmd_shown.specs.Showings.{show}
use Rattle.htmd_shown.specs.SimpleTrees.{Simple, Simples, none, more}
use Rattle.htmd_shown.specs.SimpleTrees as simple
use Rattle.htmd_shown.specs.declared.facts.Facts.{Facts}
use Rattle.htmd_shown.specs.declared.role.Role.TheVariants as role
use Rattle.htmd_document_of_tree.specs.Limits.{Written, written_all}
use Rattle.htmd_document_of_tree.specs.Seen.{seen, all_seen}
use Rattle.htmd_law_returning.specs.LastingAnchors.{lines_of, lines_in, title_keeps, are_unseen, is_unseen, block_leads}
use Rattle.htmd_law_returning.specs.NoAnchors.{block_has_no_anchors, blocks_have_no_anchors}
use Rattle.htmd_law_returning.specs.SettledDocuments.{weight_of_block, weight_in, said_of_block, said_in}
use Rattle.htmd_law_returning.specs.SettledDocuments.{has_no_attributes, are_settled_in}
use Rattle.htmd_law_returning.specs.SettledTables.{cells_in, rows_in, has_header, is_wide}
use Rattle.htmd_law_returning.proofs.CostLemmas.{AllSpend, spend-element, spend-none, spend-more, spend-past}
use Rattle.htmd_law_returning.proofs.CostLemmas.{spend-text, IsLess}
use Rattle.htmd_law_returning.proofs.ElementCells.{AreElementRows, AreRowNodes}
use Rattle.htmd_law_returning.proofs.GivenBlocks.{around-here}
use Rattle.htmd_law_returning.proofs.InsideLemmas.{IsTitle}
use Rattle.htmd_law_returning.proofs.FirstTargets.{first-behind, first-more, plain-nameless, unseen-more, zero-plus}
use Rattle.htmd_law_returning.proofs.HomeAnchors.{none-in-blocks}
use Rattle.htmd_law_returning.proofs.LocalAnchors.{local_all, pending_all, come_first, comes_first, are_nameless}
use Rattle.htmd_law_returning.proofs.LocalLines.{IsLocal, element-local, more-local}
use Rattle.htmd_law_returning.proofs.LocalShowings.{all-local-shows}
use Rattle.htmd_law_returning.proofs.LocalTables.{lined, next-local, sound-next}
use Rattle.htmd_law_returning.proofs.ReadyLemmas.{here, parts_of}
use Rattle.htmd_law_returning.proofs.RichCellLemmas.{line_tree}
use Rattle.htmd_law_returning.proofs.RichTableLemmas.{body_rows, as_pieces}
use Rattle.htmd_law_returning.proofs.SoundBlocks.{AreSound, sound-none}
use Rattle.htmd_law_returning.proofs.SoundNodes.{sound-element, sound-title, sound-more}
use Rattle.htmd_law_returning.proofs.TallRows.{AreJoined, joined-before, begins_with_row, read, all-stay}
use Rattle.htmd_law_returning.proofs.StartLemmas.{false-true}
use Rattle.htmd_law_returning.proofs.UnpartedPieces.{unparted, rows-unparted, any-append, all-append, filter-append}
use Rattle.htmd_law_returning.proofs.UnpartedPieces.{map-append, all-unparted, any-unparted, filled-same}
use Rattle.htmd_law_returning.proofs.UnpartedPieces.{headers-same, wide-same, paragraphs-same}
use lib.Utf8.{encode}

-- ---- its pieces

-- pieces that are the captions and rows of a table
pub record ArePieces (is_rich : Bool) (n : ℕ) (content : Blocks) (ps : List flow.TablePiece) : Type 0 where
  pub same : map unparted (read (here is_rich n) ps) ≡ rows_in None content
  pub joined : AreJoined (read (here is_rich n) ps)
  -- where a cell takes more than one row, and where none does
  pub all_kept : filter (flow.stays true) ps ≡ ps
  pub kept : list_all elements.is_filled_piece (rows_in None content) ≡ true → filter (flow.stays false) ps ≡ ps
  pub heads : list_any flow.heads ps ≡ list_any has_header (rows_in None content)
  pub wide : list_any flow.is_wide ps ≡ list_any is_wide (rows_in None content)
  pub tableless : elements.are_paragraphs (rows_in None content) ≡ true → list_any flow.holds_table ps ≡ false

-- nodes that stand in a table
pub record AreTableNodes (is_rich : Bool) (n : ℕ) (content : Blocks) (ts : Simples) : Type 0 where
  pub alone : tables.holds_table_alone true (list_of ts) ≡ true
  pub pieces : ArePieces is_rich n content (flow.pieces_of ts)
  pub visible : list_any elements.is_filled_piece (rows_in None content) ≡ true → show false ts ≡ true

-- what shows of them, with anchors or without
pub record AreInTable (is_rich : Bool) (n : ℕ) (content : Blocks) (ts : Simples) : Type 0 where
  pub sound : AreSound ts (lines_in content)
  pub waits : pending_all [] ts ≡ []
  pub spent : AllSpend (weight_in content) (said_in content) ts
  pub nodes : AreTableNodes is_rich n content (local_all [] ts)
  pub leads : title_keeps content ≡ true → come_first ts ≡ true
  pub unseen : are_unseen content ≡ true → all_seen ts ≡ 0

-- ---- rows before what else stands in it

abbrev pub append : Blocks → Blocks → Blocks
append no_blocks ds = ds
append (block b bs) ds = block b (append bs ds)

abbrev pub are_rows : Blocks → Bool
are_rows no_blocks = true
are_rows (block (element an.Row attributes cells) bs) = are_rows bs
are_rows (block b bs) = false

-- where anchors of both stand at the beginning of all
none-append : (bs ds : Blocks) → blocks_have_no_anchors (append bs ds) ≡ true
    → (blocks_have_no_anchors bs ≡ true) × (blocks_have_no_anchors ds ≡ true)
none-append no_blocks ds h = (refl, h)
none-append (block b bs) ds h =
    let p = and_parts (block_has_no_anchors b) (blocks_have_no_anchors (append bs ds)) h in
    let q = none-append bs ds p.1 in
    (and_from (block_has_no_anchors b) (blocks_have_no_anchors bs) p.0 q.0, q.1)

unseen-append : (bs ds : Blocks) → are_unseen (append bs ds) ≡ true
    → (are_unseen bs ≡ true) × (are_unseen ds ≡ true)
unseen-append no_blocks ds h = (refl, h)
unseen-append (block b bs) ds h =
    let p = and_parts (is_unseen b) (are_unseen (append bs ds)) h in
    let q = unseen-append bs ds p.1 in
    (and_from (is_unseen b) (are_unseen bs) p.0 q.0, q.1)

title-append : (bs ds : Blocks) → title_keeps (append bs ds) ≡ true
    → (title_keeps bs ≡ true) × (cond (are_unseen bs) (title_keeps ds) (blocks_have_no_anchors ds) ≡ true)
title-append no_blocks ds h = (refl, h)
title-append (block b bs) ds h = split (is_unseen b) p.1 (λ k. title-append bs ds k)
  where
    both : Blocks
    both = append bs ds

    p : (block_leads b ≡ true) × (cond (is_unseen b) (title_keeps both) (blocks_have_no_anchors both) ≡ true)
    p = and_parts (block_leads b) (cond (is_unseen b) (title_keeps both) (blocks_have_no_anchors both)) h

    split : (u : Bool) → cond u (title_keeps both) (blocks_have_no_anchors both) ≡ true
        → (title_keeps both ≡ true → (title_keeps bs ≡ true)
        × (cond (are_unseen bs) (title_keeps ds) (blocks_have_no_anchors ds) ≡ true))
        → ((block_leads b && cond u (title_keeps bs) (blocks_have_no_anchors bs)) ≡ true)
        × (cond (u && are_unseen bs) (title_keeps ds) (blocks_have_no_anchors ds) ≡ true)
    split true k f =
        let q = f k in (and_from (block_leads b) (title_keeps bs) p.0 q.0, q.1)
    split false k f =
        let q = none-append bs ds k in (and_from (block_leads b) (blocks_have_no_anchors bs) p.0 q.0, q.1)

-- the rows up to a caption, and what stands behind them
abbrev pub rows_first : Blocks → Blocks
rows_first (block (element an.Row attributes cells) bs) = block (element an.Row attributes cells) (rows_first bs)
rows_first bs = no_blocks

abbrev pub behind_rows : Blocks → Blocks
behind_rows (block (element an.Row attributes cells) bs) = behind_rows bs
behind_rows bs = bs

pub rows-split : (bs : Blocks) → append (rows_first bs) (behind_rows bs) ≡ bs
rows-split no_blocks = refl
rows-split (block (element an.Row attributes cells) bs) = ap (block (element an.Row attributes cells)) (rows-split bs)
rows-split (block b bs) = refl

pub rows-are : (bs : Blocks) → are_rows (rows_first bs) ≡ true
rows-are no_blocks = refl
rows-are (block (element an.Row attributes cells) bs) = rows-are bs
rows-are (block b bs) = refl

pub none-begins : (bs : Blocks) → are_settled_in an.Table bs ≡ true
    → begins_with_row (rows_in None (behind_rows bs)) ≡ false
none-begins no_blocks h = refl
none-begins (block (element an.Row attributes cells) bs) h =
    none-begins bs (and_parts (has_no_attributes attributes && are_settled_in an.Row cells) (are_settled_in an.Table bs)
    h).1
none-begins (block (element an.Caption attributes content) bs) h = refl
none-begins (block b bs) h = false-true h

rows-append : (part : Option ℕ) (rows rest : Blocks) → are_rows rows ≡ true
    → rows_in part (append rows rest) ≡ rows_in part rows ++ rows_in part rest
rows-append part no_blocks rest h = refl
rows-append part (block (element an.Row attributes cells) bs) rest h =
    ap (λ ps. elements.row (record { part = part; cells = cells_in cells }) ∷ ps) (rows-append part bs rest h)
rows-append part (block b bs) rest h = false-true h

lines-append : (bs ds : Blocks) → lines_in bs ++ lines_in ds ≡ lines_in (append bs ds)
lines-append no_blocks ds = refl
lines-append (block b bs) ds =
    append_assoc (lines_of b) (lines_in bs) (lines_in ds) ∙ ap (λ ls. lines_of b ++ ls) (lines-append bs ds)

weight-append : (bs ds : Blocks) → weight_in bs + weight_in ds ≡ weight_in (append bs ds)
weight-append no_blocks ds = none-more (weight_in ds)
  where
    none-more : (k : ℕ) → 0 + k ≡ k
    none-more k = omega arith
weight-append (block b bs) ds =
    more-weight (weight_of_block b) (weight_in bs) (weight_in ds)
    ∙ ap (λ k. weight_of_block b + k) (weight-append bs ds)
  where
    more-weight : (i j k : ℕ) → i + j + k ≡ i + (j + k)
    more-weight i j k = omega arith

said-append : (bs ds : Blocks) (w : Written) → said_in ds (said_in bs w) ≡ said_in (append bs ds) w
said-append no_blocks ds w = refl
said-append (block b bs) ds w = said-append bs ds (said_of_block b w)

spend-same : {f g : Written → Written} → (k : ℕ) (ts : Simples) → ((w : Written) → f w ≡ g w)
    → AllSpend k f ts
    → AllSpend k g ts
spend-same {f} {g} k ts same own = (
  own.0,
  λ v w l. subst (λ (u : Written). IsLess u (written_all w ts)) (same v) (own.1 v w l),
)

module _ (is_rich : Bool) (n : ℕ) where
  no-pieces : AreTableNodes is_rich n no_blocks none
  unfolding node_of
  no-pieces = record {
    alone = refl;
    pieces = record {
      same = refl;
      joined = tt;
      all_kept = refl;
      kept = λ h. refl;
      heads = refl;
      wide = refl;
      tableless = λ h. refl;
    };
    visible = λ h. false-true h;
  }

  pub table-none : AreInTable is_rich n no_blocks none
  table-none = record {
    sound = sound-none;
    waits = refl;
    spent = spend-none;
    nodes = no-pieces;
    leads = λ h. refl;
    unseen = λ h. refl;
  }

  -- ---- rows

  row-pieces : (id : ℕ) (rows rest : Blocks) (ts : Simples) (ps : List flow.TablePiece) → are_rows rows ≡ true
      → begins_with_row (read (here is_rich n) ps) ≡ false → AreRowNodes is_rich n rows ts
      → ArePieces is_rich n rest ps
      → ArePieces is_rich n (append rows rest) (as_pieces (body_rows id ts) ++ ps)
  row-pieces id rows rest ts ps h begins all later =
      let trees : List flow.TablePiece = as_pieces (body_rows id ts) in
      let context = here is_rich n in
      let own : List elements.Piece = rows_in (Some id) rows in
      let plain : map unparted own ≡ rows_in None rows = rows-unparted (Some id) rows in
      let whole : rows_in None (append rows rest) ≡ rows_in None rows ++ rows_in None rest =
      rows-append None rows rest h in
      let made : read context (trees ++ ps) ≡ own ++ read context ps =
      map-append (flow.piece_with_blocks true context) trees ps ∙ ap (λ qs. qs ++ read context ps) (all.gives id) in
      record {
        same = ap (map unparted) made
            ∙ (map-append unparted own (read context ps)
            ∙ (ap (λ qs. qs ++ map unparted (read context ps)) plain
            ∙ (ap (λ qs. rows_in None rows ++ qs) later.same ∙ sym whole)));
        joined = subst (λ (qs : List elements.Piece). AreJoined qs) (sym made)
            (joined-before id rows (read context ps) begins later.joined);
        all_kept = filter-append (flow.stays true) trees ps
            ∙ (ap (λ qs. qs ++ filter (flow.stays true) ps) (all-stay (body_rows id ts))
            ∙ ap (λ qs. trees ++ qs) later.all_kept);
        kept = λ f.
            let parts = and_parts (list_all elements.is_filled_piece (rows_in None rows))
            (list_all elements.is_filled_piece (rows_in None rest))
            (sym (ap (list_all elements.is_filled_piece) whole
            ∙ all-append elements.is_filled_piece (rows_in None rows) (rows_in None rest)) ∙ f) in
            let filled : list_all elements.is_filled_piece own ≡ true =
            sym (all-unparted elements.is_filled_piece filled-same own)
            ∙ (ap (list_all elements.is_filled_piece) plain ∙ parts.0) in
            filter-append (flow.stays false) trees ps
            ∙ (ap (λ qs. qs ++ filter (flow.stays false) ps) (all.kept id filled)
            ∙ ap (λ qs. trees ++ qs) (later.kept parts.1));
        heads = any-append flow.heads trees ps
            ∙ (ap (λ b. b || list_any flow.heads ps)
            (all.heads id ∙ (sym (any-unparted has_header headers-same own) ∙ ap (list_any has_header) plain))
            ∙ (ap (λ b. list_any has_header (rows_in None rows) || b) later.heads
            ∙ sym (ap (list_any has_header) whole
            ∙ any-append has_header (rows_in None rows) (rows_in None rest))));
        wide = any-append flow.is_wide trees ps
            ∙ (ap (λ b. b || list_any flow.is_wide ps)
            (all.wide id ∙ (sym (any-unparted is_wide wide-same own) ∙ ap (list_any is_wide) plain))
            ∙ (ap (λ b. list_any is_wide (rows_in None rows) || b) later.wide
            ∙ sym (ap (list_any is_wide) whole ∙ any-append is_wide (rows_in None rows) (rows_in None rest))));
        tableless = λ f.
            let parts = and_parts (elements.are_paragraphs (rows_in None rows))
            (elements.are_paragraphs (rows_in None rest))
            (sym (ap elements.are_paragraphs whole
            ∙ all-append elements.holds_paragraphs (rows_in None rows) (rows_in None rest)) ∙ f) in
            let first : elements.are_paragraphs own ≡ true =
            sym (all-unparted elements.holds_paragraphs paragraphs-same own)
            ∙ (ap elements.are_paragraphs plain ∙ parts.0) in
            any-append flow.holds_table trees ps
            ∙ (ap (λ b. b || list_any flow.holds_table ps) (all.tableless id first) ∙ later.tableless parts.1);
      }

  body-pieces : (id : ℕ) (facts : Facts) (ts us : Simples)
      → flow.pieces_of (more (simple.element id role.TableBody facts [] ts) us)
      ≡ as_pieces (body_rows id ts) ++ flow.pieces_of us
  unfolding node_of
  body-pieces id facts ts us = refl

  body-alone : (id : ℕ) (facts : Facts) (ts us : Simples)
      → list_all (tables.is_row_or_nothing true) (list_of ts) ≡ true
      → tables.holds_table_alone true (list_of us) ≡ true
      → tables.holds_table_alone true (list_of (more (simple.element id role.TableBody facts [] ts) us)) ≡ true
  body-alone id facts ts us h k = ap (λ b. b && tables.holds_table_alone true (list_of us)) h ∙ k

  body-visible : (id : ℕ) (facts : Facts) (ts us : Simples) (a b : Bool) → (a ≡ true → show false ts ≡ true)
      → (b ≡ true → show false us ≡ true) → (a || b) ≡ true
      → show false (more (simple.element id role.TableBody facts [] ts) us) ≡ true
  body-visible id facts ts us true b own later h = ap (λ x. x || show false us) (own refl)
  body-visible id facts ts us false b own later h = or_right (show false ts) (show false us) (later h)

  body-nodes : (id : ℕ) (facts : Facts) (rows rest : Blocks) (ts us : Simples) → are_rows rows ≡ true
      → begins_with_row (rows_in None rest) ≡ false → AreRowNodes is_rich n rows ts
      → AreTableNodes is_rich n rest us
      → AreTableNodes is_rich n (append rows rest) (more (simple.element id role.TableBody facts [] ts) us)
  body-nodes id facts rows rest ts us h begins all later = record {
    alone = body-alone id facts ts us all.alone later.alone;
    pieces = subst (λ ps. ArePieces is_rich n (append rows rest) ps) (sym (body-pieces id facts ts us))
        (row-pieces id rows rest ts (flow.pieces_of us) h
        (sym (begins-unparted (read (here is_rich n) (flow.pieces_of us)))
        ∙ (ap begins_with_row later.pieces.same ∙ begins)) all later.pieces);
    visible = λ f.
        body-visible id facts ts us (list_any elements.is_filled_piece (rows_in None rows))
        (list_any elements.is_filled_piece (rows_in None rest))
        (λ e. all.visible id (sym (any-unparted elements.is_filled_piece filled-same (rows_in (Some id) rows))
        ∙ (ap (list_any elements.is_filled_piece) (rows-unparted (Some id) rows) ∙ e)))
        later.visible
        (sym (ap (list_any elements.is_filled_piece) (rows-append None rows rest h)
        ∙ any-append elements.is_filled_piece (rows_in None rows) (rows_in None rest)) ∙ f);
  }
    where
      begins-unparted : (ps : List elements.Piece) → begins_with_row (map unparted ps) ≡ begins_with_row ps
      begins-unparted [] = refl
      begins-unparted (elements.caption content ∷ ps) = refl
      begins-unparted (elements.row r ∷ ps) = refl

  pub table-body : (id : ℕ) (rows rest : Blocks) (ts us : Simples) → are_rows rows ≡ true
      → begins_with_row (rows_in None rest) ≡ false → AreElementRows is_rich n rows ts
      → AreInTable is_rich n rest us
      → AreInTable is_rich n (append rows rest) (more (made id role.TableBody [] ts) us)
  table-body id rows rest ts us h begins all later =
      let facts : Facts = facts_of ts in
      let tree : Simple = made id role.TableBody [] ts in
      let whole : Blocks = append rows rest in
      let own : IsLocal tree (simple.element id role.TableBody facts [] (local_all [] ts)) =
      element-local id role.TableBody facts [] ts refl refl all.waits in
      let stays = more-local tree (simple.element id role.TableBody facts [] (local_all [] ts)) us own in
      record {
        sound = subst (λ ls. AreSound (more tree us) ls) (lines-append rows rest)
            (sound-more tree us (lines_in rows) (lines_in rest) own.1
            (sound-element id role.TableBody [] ts (lines_in rows) refl refl all.sound) later.sound);
        waits = stays.1 ∙ later.waits;
        spent = subst (λ k. AllSpend k (said_in whole) (more tree us)) (weight-append rows rest)
            (spend-same (weight_in rows + weight_in rest) (more tree us) (said-append rows rest)
            (spend-more (weight_in rows) (weight_in rest) tree us
            (spend-element (weight_in rows) id role.TableBody facts [] ts refl all.spent) later.spent));
        nodes = subst (λ (vs : Simples). AreTableNodes is_rich n whole vs) (sym stays.0)
            (body-nodes id facts rows rest (local_all [] ts) (local_all [] us) h begins all.nodes later.nodes);
        leads = λ k.
            let p = title-append rows rest k in
            let is_behind : Bool → Bool = λ x. cond x (title_keeps rest) (blocks_have_no_anchors rest) in
            let is_first : ℕ → Bool = λ j. cond (nat_le j 0) (come_first us) (are_nameless us) in
            test (are_unseen rows)
            (λ r. and_from (comes_first tree) (is_first (seen tree)) (all.leads p.0)
            (ap is_first (all.unseen r) ∙ later.leads (sym (ap is_behind r) ∙ p.1)))
            (λ r. first-behind tree us (all.leads p.0)
            (plain-nameless us (lines_in rest) later.sound (none-in-blocks rest (sym (ap is_behind r) ∙ p.1))));
        unseen = λ k.
            let p = unseen-append rows rest k in
            ap (λ j. j + all_seen us) (all.unseen p.0) ∙ (zero-plus (all_seen us) ∙ later.unseen p.1);
      }

  -- ---- a caption

  caption-alone : (id : ℕ) (facts : Facts) (content ts : Simples)
      → tables.holds_table_alone true (list_of ts) ≡ true
      → tables.holds_table_alone true (list_of (more (simple.element id role.Caption facts [] content) (lined ts)))
      ≡ true
  unfolding chars encode
  caption-alone id facts content ts h = h

  caption-pieces : (id : ℕ) (facts : Facts) (content ts : Simples) (d rest : Blocks)
      → flow.blocks_of false (parts_of is_rich n content) ≡ d → show false content ≡ true
      → ArePieces is_rich n rest (flow.pieces_of ts)
      → ArePieces is_rich n (block (element an.Caption [] d) rest)
      (flow.pieces_of (more (simple.element id role.Caption facts [] content) (lined ts)))
  unfolding node_of
  caption-pieces id facts content ts d rest gives shows later =
      let ps : List flow.TablePiece = flow.pieces_of ts in
      let first : flow.TablePiece = flow.of_caption (node_of (simple.element id role.Caption facts [] content)) in
      let stay : (spans : Bool) → filter (flow.stays spans) ps ≡ ps
      → filter (flow.stays spans) (first ∷ ps) ≡ first ∷ ps =
      λ spans e.
      ap (λ b. cond b (first ∷ filter (flow.stays spans) ps) (filter (flow.stays spans) ps)) shows
      ∙ ap (λ qs. first ∷ qs) e in
      record {
        same = ap (λ c. elements.caption (flow.blocks_of false (flow_all (nodes_of content) c))
            ∷ map unparted (read (here is_rich n) ps)) (around-here is_rich n content)
            ∙ (ap (λ bs. elements.caption bs ∷ map unparted (read (here is_rich n) ps)) gives
            ∙ ap (λ qs. elements.caption d ∷ qs) later.same);
        joined = later.joined;
        all_kept = stay true later.all_kept;
        kept = λ h.
            stay false (later.kept (and_parts (is_filled d)
            (list_all elements.is_filled_piece (rows_in None rest)) h).1);
        heads = refl;
        wide = later.wide;
        tableless = later.tableless;
      }

  pub table-caption : (id : ℕ) (content ts : Simples) (d rest : Blocks) → IsTitle (parts_of is_rich n) content d
      → title_keeps d ≡ true → show false content ≡ true → AreInTable is_rich n rest ts
      → AreInTable is_rich n (block (element an.Caption [] d) rest)
      (more (made id role.Caption [] content) (more line_tree ts))
  table-caption id content ts d rest within led shows later =
      let facts : Facts = facts_of content in
      let tree : Simple = made id role.Caption [] content in
      let inner : Simples = local_all [] content in
      let first : IsLocal tree (simple.element id role.Caption facts [] inner) =
      element-local id role.Caption facts [] content refl refl within.inside.waits in
      let stays = next-local tree (simple.element id role.Caption facts [] inner) ts first in
      record {
        sound = sound-next tree ts (lines_in d) (lines_in rest) first.1
            (sound-title id role.Caption content (lines_in d) refl refl refl refl (within.first led)
            within.inside.sound) later.sound;
        waits = stays.1 ∙ later.waits;
        spent = spend-more (weight_in d) (weight_in rest) tree (lined ts)
            (spend-element (weight_in d) id role.Caption facts [] content refl within.inside.spent)
            (spend-past (weight_in rest) line_tree ts (spend-text (line_feed ∷ [])) later.spent);
        nodes = subst (λ (us : Simples). AreTableNodes is_rich n (block (element an.Caption [] d) rest) us)
            (sym stays.0)
            (record {
              alone = caption-alone id facts inner (local_all [] ts) later.nodes.alone;
              pieces = caption-pieces id facts inner (local_all [] ts) d rest
                  within.inside.written.gives (all-local-shows false [] content ∙ shows) later.nodes.pieces;
              visible = λ h. ap (λ b. b || show false (lined (local_all [] ts)))
                  (all-local-shows false [] content ∙ shows);
            });
        leads = first-more (element an.Caption [] d) rest tree ts
            (record { first = λ h. refl; unseen = within.inside.unseen }) later.sound later.leads;
        unseen = unseen-more (element an.Caption [] d) rest tree ts
            (record { first = λ h. refl; unseen = within.inside.unseen }) later.unseen;
      }

-- something shows where something stands in it
pub table-visible : (is_rich : Bool) (n : ℕ) (content : Blocks) (ts : Simples)
    → (all : AreInTable is_rich n content ts)
    → list_any elements.is_filled_piece (rows_in None content) ≡ true → show false ts ≡ true
table-visible is_rich n content ts all h = sym (all-local-shows false [] ts) ∙ all.nodes.visible h

-- What a table gives whose rows hold settled lines.
use Rattle.std.proofs.Common.{◌≡◌, ℕ, ◌+◌, Bool, true, false, not, ◌&&◌, ◌||◌, cond, List, [], ◌∷◌, ◌++◌, filter, map}
use Rattle.std.proofs.Common.{fold, take, drop, length, ◌==◌, refl, sym, ap, ◌∙◌, subst, arith, Some}
use Rattle.std.specs.List.{list_all, list_any, flat_map}
use Rattle.std.specs.Str.{chars}
use Rattle.std.proofs.lemmas.List.{append-nil}
use Rattle.std.proofs.lemmas.Bool.{and_parts}
use Rattle.std.proofs.lemmas.Bool.Decides.{nat_tests}
use Rattle.htmd_lexical.proofs.Cases.{test}
use Rattle.htmd_lexical.specs.Characters.{line_feed}
use Rattle.htmd_document.specs.declared.document.Alignment.{Alignment}
use Rattle.htmd_document.specs.Documents.{Inlines, no_inlines, inline, Block, table}
use Rattle.htmd_document.specs.NormalDocuments.{has_cell, is_normal_row}
use Rattle.htmd_flow.specs.Contexts.{Context, apart}
use Rattle.htmd_flow.specs.Flows.{nodes_of, node_of, flow_all}
use Rattle.htmd_flow.specs.Flows as flow
use Rattle.htmd_flow.specs.Grids.{Row, table_of_rows, with_cell, trimmed_row}
use Rattle.htmd_flow.specs.Levels.{list_of}
use Rattle.htmd_flow.specs.Paragraphs.{Writing, fed, fed_all}
use Rattle.htmd_flow.specs.Parts.{Part, edge, whole}
use Rattle.htmd_flow.specs.TableElements as elements
use Rattle.htmd_flow.specs.Tables as tables
use Rattle.htmd_flow.specs.declared.table_form.Layout.TheVariants as layout
use Rattle.htmd_shown.specs.Facts.{made, facts_of}
use Rattle.htmd_shown.specs.SimpleTrees.{Simple, Simples, none, more, element}
use Rattle.htmd_shown.specs.declared.facts.Facts.{Facts}
use Rattle.htmd_shown.specs.declared.role.Role.TheVariants as role
use Rattle.htmd_shown.specs.Showings.{show}
use Rattle.htmd_law_returning.specs.LastingAnchors.{cells_lead}
use Rattle.htmd_law_returning.specs.NoAnchors.{have_no_anchors}
use Rattle.htmd_law_returning.proofs.HomeAnchors.{none-in-rows}
use Rattle.htmd_law_returning.proofs.LocalAnchors.{comes_first, are_nameless}
use Rattle.htmd_law_returning.specs.SettledDocuments.{weight_among, weight_of_cells, weight_of_rows}
use Rattle.htmd_law_returning.specs.SettledDocuments.{said_among, said_of_cells, said_of_rows, over_cells, over_rows}
use Rattle.htmd_law_returning.specs.SettledDocuments.{shows_last_column, shows_header}
use Rattle.htmd_document_of_tree.specs.Limits.{Written}
use Rattle.htmd_law_returning.proofs.CostLemmas.{Spends, AllSpend, spend-element, spend-more, spend-text}
use Rattle.htmd_law_returning.proofs.CostLemmas.{spend-past, spend-within}
use Rattle.htmd_law_returning.proofs.LeanTrees.{heavy-tree}
use Rattle.htmd_law_returning.proofs.ReadyLemmas.{here, parts_of, IsReady, edge-fed, whole-fed, clean-ready, ready-flat}
use Rattle.htmd_law_returning.proofs.ReadyLemmas.{apart-fed}
use Rattle.htmd_law_returning.proofs.FlowLemmas.{GivesBlock}
use Rattle.htmd_law_returning.proofs.GridLemmas.{made_row, made_rows, cut_row, table-made, lines-made}
use Rattle.htmd_law_returning.proofs.RichCellLemmas.{cells_among}
use Rattle.htmd_law_returning.proofs.RichCellLemmas.{line_tree, cells-show}
use Rattle.htmd_law_returning.proofs.LocalShowings.{all-local-shows}
use Rattle.htmd_law_returning.proofs.RichTableLemmas.{rich_row, rich_rows}
use Rattle.htmd_law_returning.proofs.RichTableLemmas.{as_pieces, body_rows, are_narrow, rich-parts, lines-table}
use Rattle.htmd_law_returning.proofs.RichTableLemmas.{rows-filled}
use Rattle.htmd_law_returning.proofs.LocalAnchors.{local_all}
use Rattle.htmd_law_returning.proofs.LocalLines.{IsLocal, element-local}
use Rattle.htmd_law_returning.proofs.LocalTables.{lined, lined-local, next-local, row_with, row_tree}
use Rattle.htmd_law_returning.proofs.LocalTables.{row-local, sound-next, sound-only, sound-row}
use Rattle.htmd_law_returning.proofs.FirstTargets.{first-behind, line-first, plain-nameless}
use Rattle.htmd_law_returning.proofs.SoundBlocks.{IsSound, sound-none}
use Rattle.htmd_law_returning.proofs.SoundNodes.{sound-element, sound-text}
use Rattle.htmd_law_returning.specs.LastingAnchors.{cells_of}
use Rattle.htmd_law_returning.proofs.StartLemmas.{Mode, clean, is_flat_mode, false-true}
use lib.Utf8.{encode}
use Rattle.htmd_law_returning.proofs.TableCells.{Cells, IsKept, AreCells, AreRows, row-gives, row-spends, spend-line}

-- ---- the table

-- what is in a table's head, and in a table without a body and with one
abbrev pub head_in : ℕ → Simples → Simples
head_in id cells = lined (more (row_tree id cells) (lined none))

abbrev pub head_alone : ℕ → ℕ → Simples → Simples
head_alone head id cells = more line_tree (more (made head role.TableHead [] (head_in id cells)) (more line_tree none))

abbrev pub with_body : ℕ → ℕ → Simples → ℕ → Simples → Simples
with_body head id cells body rows =
    more line_tree (more (made head role.TableHead [] (head_in id cells))
    (more line_tree (more (made body role.TableBody [] (more line_tree rows)) (more line_tree none))))

headed : (c : Cells) → c.is_filled ≡ true → c.holds_table ≡ false
    → tables.layout_with_headers c ≡ layout.Grid
headed c f t =
    ap (λ b. cond (not b || (c.holds_table && c.holds_header)) layout.Page layout.Grid) f
    ∙ ap (λ b. cond (b && c.holds_header) layout.Page layout.Grid) t

-- rows without the empty cells at their ends weigh as much
cut-over : (measure : Inlines → ℕ) → measure no_inlines ≡ 0 → (cells : List Inlines)
    → over_cells measure (cut_row cells) ≡ over_cells measure cells
cut-over measure empty [] = refl
cut-over measure empty (c ∷ cs) = ap (λ k. measure c + k) (rest cs)
  where
    before : (c : Inlines) (t : List Inlines)
        → over_cells measure (with_cell c t) ≡ measure c + over_cells measure t
    before no_inlines [] = sym (ap (λ k. k + 0) empty)
    before (inline x xs) [] = refl
    before c (d ∷ t) = refl

    rest : (cs : List Inlines) → over_cells measure (trimmed_row cs) ≡ over_cells measure cs
    rest [] = refl
    rest (c ∷ cs) = before c (trimmed_row cs) ∙ ap (λ k. measure c + k) (rest cs)

cut-over-rows : (measure : Inlines → ℕ) → measure no_inlines ≡ 0 → (rows : List (List Inlines))
    → over_rows measure (map cut_row rows) ≡ over_rows measure rows
cut-over-rows measure empty [] = refl
cut-over-rows measure empty (r ∷ rs) =
    ap (λ k. k + over_rows measure (map cut_row rs)) (cut-over measure empty r)
    ∙ ap (λ k. over_cells measure r + k) (cut-over-rows measure empty rs)

-- and say as much
cut-cells-said : (cells : List Inlines) → said_of_cells (cut_row cells) ≡ said_of_cells cells
cut-cells-said [] = refl
cut-cells-said (c ∷ cs) =
    ap {B = Written → Written} (λ (g : Written → Written) (w : Written). g (said_among c w)) (rest cs)
  where
    before : (c : Inlines) (t : List Inlines)
        → said_of_cells (with_cell c t) ≡ (λ (w : Written). said_of_cells t (said_among c w))
    before no_inlines [] = refl
    before (inline x xs) [] = refl
    before c (d ∷ t) = refl

    rest : (cs : List Inlines) → said_of_cells (trimmed_row cs) ≡ said_of_cells cs
    rest [] = refl
    rest (c ∷ cs) =
        before c (trimmed_row cs)
        ∙ ap {B = Written → Written} (λ (g : Written → Written) (w : Written). g (said_among c w)) (rest cs)

cut-said : (rows : List (List Inlines)) → said_of_rows (map cut_row rows) ≡ said_of_rows rows
cut-said [] = refl
cut-said (r ∷ rs) =
    ap {B = Written → Written} (λ (g : Written → Written) (w : Written). said_of_rows (map cut_row rs) (g w))
    (cut-cells-said r)
    ∙ ap {B = Written → Written} (λ (g : Written → Written) (w : Written). g (said_of_cells r w)) (cut-said rs)

pub cut-weights : (rows : List (List Inlines)) → weight_of_rows (map cut_row rows) ≡ weight_of_rows rows
cut-weights rows = cut-over-rows weight_among refl rows

-- a table between edges
between-fed : (mode : Mode) (w : Writing) (done : List Block) (b : Block) (ps : List Part) → IsReady mode w done
    → fed_all w (edge ∷ edge ∷ whole b ∷ edge ∷ edge ∷ ps) ≡ fed_all (clean mode (done ++ b ∷ [])) ps
between-fed mode w done b ps h =
    let free : is_flat_mode mode ≡ false = ready-flat mode w done h in
    let first = clean-ready mode done free in
    let last = clean-ready mode (done ++ b ∷ []) free in
    ap (λ v. fed_all (fed (fed (fed (fed v edge) (whole b)) edge) edge) ps) (edge-fed mode w done h)
    ∙ (ap (λ v. fed_all (fed (fed (fed v (whole b)) edge) edge) ps) (edge-fed mode (clean mode done) done first)
    ∙ (ap (λ v. fed_all (fed (fed v edge) edge) ps) (whole-fed mode (clean mode done) done first b)
    ∙ (ap (λ v. fed_all (fed v edge) ps) (edge-fed mode (clean mode (done ++ b ∷ [])) (done ++ b ∷ []) last)
    ∙ ap (λ v. fed_all v ps) (edge-fed mode (clean mode (done ++ b ∷ [])) (done ++ b ∷ []) last))))

-- what a table of rows and columns gives
grid-parts : (is_rich : Bool) (n id : ℕ) (facts : Facts) (content ts : Simples) (b : Block) → is_rich ≡ false
    → tables.layout_of (list_of content) ≡ layout.Grid
    → flow.grid_inside (nodes_of content) (flow.rows_of_table content) (here is_rich n)
    ≡ edge ∷ whole b ∷ edge ∷ edge ∷ []
    → parts_of is_rich n (more (element id role.Table facts [] content) ts)
    ≡ edge ∷ edge ∷ whole b ∷ edge ∷ edge ∷ parts_of is_rich n ts
unfolding node_of
grid-parts is_rich n id facts content ts b plain grid inside =
    let trees : List Simple = list_of content in
    let nodes : List flow.Node = nodes_of content in
    let rows : List flow.Row = flow.rows_of_table content in
    let context : Context = here is_rich n in
    let after : List Part = parts_of is_rich n ts in
    ap (λ r. cond (r && true) (flow.rich_table_parts trees [] (flow.pieces_of content) nodes context)
    (flow.table_parts trees nodes rows context) ++ after) plain
    ∙ (ap (λ l. cond (flow.is_grid_by l rows) (edge ∷ flow.grid_inside nodes rows context)
    (apart (flow_all nodes context)) ++ after) grid
    ∙ ap (λ ps. (edge ∷ ps) ++ after) inside)

-- a rich page's table between edges
rich-fed : (mode : Mode) (is_rich : Bool) (n id : ℕ) (facts : Facts) (content ts : Simples) (b : Block)
    → is_rich ≡ true
    → flow.rich_table_parts (list_of content) [] (flow.pieces_of content) (nodes_of content) (here is_rich n)
    ≡ edge ∷ whole b ∷ edge ∷ []
    → (w : Writing) (done : List Block) → IsReady mode w done
    → fed_all w (parts_of is_rich n (more (element id role.Table facts [] content) ts))
    ≡ fed_all (clean mode (done ++ b ∷ [])) (parts_of is_rich n ts)
unfolding node_of
rich-fed mode is_rich n id facts content ts b rich inside w done h =
    let trees : List Simple = list_of content in
    let nodes : List flow.Node = nodes_of content in
    let context : Context = here is_rich n in
    let after : List Part = parts_of is_rich n ts in
    let parts : List Part = flow.rich_table_parts trees [] (flow.pieces_of content) nodes context in
    ap (λ r. fed_all w (cond (r && true) parts
    (flow.table_parts trees nodes (flow.rows_of_table content) context) ++ after)) rich
    ∙ (ap (λ ps. fed_all w (ps ++ after)) inside ∙ ap (λ v. fed_all v after) (apart-fed mode w done h b))

-- what is asked of a rich page is so of one
asked : (is_rich b : Bool) → is_rich ≡ true → (is_rich && not b) ≡ false → b ≡ true
asked is_rich true e h = refl
asked is_rich false e h = false-true (sym h ∙ ap (λ r. r && true) e)

-- the block of a table's rows
rows-block : (is_rich : Bool) (n : ℕ) (rows : List flow.Row) (made_of : List Row) (b : Block)
    → map (flow.row_of (here is_rich n)) rows ≡ made_of → table_of_rows (flow.filled_rows made_of) ≡ Some b
    → flow.block_part (flow.table_block rows (here is_rich n)) ≡ whole b ∷ []
rows-block is_rich n rows made_of b e h =
    ap (λ rs. flow.block_part (table_of_rows (flow.filled_rows rs))) e ∙ ap flow.block_part h

module _ (is_rich : Bool) (n head id : ℕ) (alignments : List Alignment) (header : List Inlines) (cells : Simples)
    (own : AreCells is_rich n true alignments header cells) (some : has_cell header ≡ true) where
  -- with anchors before what shows
  abbrev inside : Simples
  inside = local_all [] cells

  abbrev row : Simple
  row = row_with (facts_of (lined cells)) id inside

  abbrev in_head : Simples
  in_head = lined (more row (lined none))

  abbrev head_own : Simple
  head_own = element head role.TableHead (facts_of (head_in id cells)) [] in_head

  abbrev alone_own : Simples
  alone_own = lined (more head_own (lined none))

  head-local : IsLocal (made head role.TableHead [] (head_in id cells)) head_own
  head-local =
      let own_row = next-local (row_tree id cells) row none (row-local id cells own.waits) in
      let inner = lined-local (more (row_tree id cells) (lined none)) in
      let all = element-local head role.TableHead (facts_of (head_in id cells)) [] (head_in id cells) refl refl
      (inner.1 ∙ own_row.1) in (
        all.0 ∙ ap (element head role.TableHead (facts_of (head_in id cells)) []) (inner.0 ∙ ap lined own_row.0),
        all.1,
      )

  head-sound : IsSound (made head role.TableHead [] (head_in id cells)) (cells_of header)
  head-sound = sound-element head role.TableHead [] (head_in id cells) (cells_of header) refl refl
      (sound-text (line_feed ∷ []) (more (row_tree id cells) (lined none)) (cells_of header)
      (sound-only (row_tree id cells) (cells_of header) (row-local id cells own.waits).1
      (sound-row id cells (cells_of header) own.sound)))

  head-alone : list_all (tables.is_row_or_nothing false) (list_of in_head) ≡ true
  unfolding chars encode
  head-alone = ap (λ b. b && true) own.alone

  head-spends : Spends (weight_of_cells header) (said_of_cells header) (made head role.TableHead [] (head_in id cells))
  head-spends =
      let k : ℕ = weight_of_cells header in
      let row : Simples = more (row_tree id cells) (more line_tree none) in
      spend-element k head role.TableHead (facts_of (head_in id cells)) [] (head_in id cells) refl
      (spend-past k line_tree row (spend-text (line_feed ∷ []))
      (spend-line k (row_tree id cells) (row-spends id cells k own.spent)))

  head-kept : IsKept true tables.no_cells (tables.with_row_at tables.no_cells row)
  head-kept =
      let first = own.counted tables.no_cells refl in
      record { no_table = first.no_table; filled = λ e. first.filled (ap (λ b. false || b) some) }

  -- without a body
  alone-layout : tables.layout_of (list_of alone_own) ≡ layout.Grid
  unfolding chars encode
  alone-layout =
      ap (λ b. cond (b && true) (tables.layout_with_headers (tables.with_row_at tables.no_cells row))
      layout.Page) head-alone
      ∙ headed (tables.with_row_at tables.no_cells row) (head-kept.filled refl) head-kept.no_table

  alone-inside : (b : Block)
      → table_of_rows (flow.filled_rows (made_row true (Some head) alignments header ∷ [])) ≡ Some b
      → flow.grid_inside (nodes_of alone_own) (flow.rows_of_table alone_own)
      (here is_rich n)
      ≡ edge ∷ whole b ∷ edge ∷ edge ∷ []
  unfolding node_of
  alone-inside b h =
      let nodes : List flow.Node = nodes_of alone_own in
      ap (λ ps. flow.captions_among (take (flow.before_row nodes) nodes) (here is_rich n)
      ++ edge ∷ ps
      ++ edge ∷ flow.captions_among (drop (flow.before_row nodes) nodes) (here is_rich n) ++ edge ∷ [])
      (rows-block is_rich n (flow.rows_of_table alone_own)
      (made_row true (Some head) alignments header ∷ []) b
      (row-gives is_rich n id head (facts_of (lined cells)) true alignments inside none header own.gives) h)

  -- the head of a rich page's table
  abbrev head_row : flow.Row
  head_row = record { part = Some head; is_in_head = true; cells = cells_among inside }

  head-heads : shows_header header ≡ true → flow.has_header head_row ≡ true
  head-heads h = some-node (cells_among inside) (own.rich.shows h)
    where
      some-node : (ns : List flow.Node) → list_any (λ (m : flow.Node). flow.content_shows m.tree) ns ≡ true
          → list_any (λ (m : flow.Node). flow.is_header true m.tree) ns ≡ true
      some-node [] e = false-true e
      some-node (m ∷ ns) e = refl

  rich-alone : list_all (tables.is_row_or_nothing true) (list_of in_head) ≡ true
  unfolding chars encode
  rich-alone = ap (λ b. b && true) own.rich.alone

  alone-rich : shows_header header ≡ true → (length alignments == length header) ≡ true
      → shows_last_column header [] ≡ true
      → flow.rich_table_parts (list_of alone_own) [] (flow.pieces_of alone_own)
      (nodes_of alone_own) (here is_rich n) ≡ edge ∷ whole (table alignments header []) ∷ edge
      ∷ []
  unfolding chars encode node_of
  alone-rich shown count last =
      let same : length alignments ≡ length header = grind (arith, nat_tests, count) in
      rich-parts (list_of alone_own) (head_row ∷ []) (nodes_of alone_own)
      (here is_rich n) (rich_row (Some head) true alignments header ∷ []) (table alignments header [])
      (ap (λ b. (b && false) || false) own.rich.spanless)
      (ap (λ b. cond b (flow.of_row head_row ∷ []) []) (own.rich.shows shown))
      (ap (λ b. b && true) rich-alone)
      (ap (λ b. b || false) (head-heads shown))
      (ap (λ cs. elements.row (record { part = Some head; cells = cs }) ∷ []) own.rich.gives)
      (lines-table (Some head) (Some head) alignments header [] (table alignments header []) same refl
      (lines-made alignments header [] some count refl last))

  alone-local : (outer : ℕ) → IsLocal (made outer role.Table [] (head_alone head id cells))
      (element outer role.Table (facts_of (head_alone head id cells)) [] alone_own)
  alone-local outer =
      let content : Simples = head_alone head id cells in
      let tree : Simple = made head role.TableHead [] (head_in id cells) in
      let next = next-local tree head_own none head-local in
      let inner = lined-local (more tree (lined none)) in
      let all = element-local outer role.Table (facts_of content) [] content refl refl (inner.1 ∙ next.1) in
      (all.0 ∙ ap (element outer role.Table (facts_of content) []) (inner.0 ∙ ap lined next.0), all.1)

  cells-seen : shows_header header ≡ true → show false cells ≡ true
  cells-seen shown = sym (all-local-shows false [] cells) ∙ cells-show inside (own.rich.shows shown)

  -- something shows in the head
  head-seen : (us : Simples) → shows_header header ≡ true
      → show false (more line_tree (more (made head role.TableHead [] (head_in id cells)) us)) ≡ true
  unfolding chars encode
  head-seen us shown =
      ap (λ b. (b || false) || show false us) (cells-seen shown)

  alone-seen : shows_header header ≡ true → show false (head_alone head id cells) ≡ true
  alone-seen shown = head-seen (more line_tree none) shown

  head-first : cells_lead header ≡ true → comes_first (made head role.TableHead [] (head_in id cells)) ≡ true
  head-first k =
      line-first (more (row_tree id cells) (lined none))
      ∙ first-behind (row_tree id cells) (lined none) (line-first cells ∙ own.leads k) refl

  alone-sound : (outer : ℕ) → IsSound (made outer role.Table [] (head_alone head id cells)) (cells_of header ++ [])
  alone-sound outer =
      sound-element outer role.Table [] (head_alone head id cells) (cells_of header ++ []) refl refl
      (sound-text (line_feed ∷ []) (more (made head role.TableHead [] (head_in id cells)) (lined none))
      (cells_of header ++ [])
      (sound-next (made head role.TableHead [] (head_in id cells)) none (cells_of header) [] head-local.1 head-sound
      sound-none))

  pub alone-gives : (outer : ℕ) → (is_rich && not (shows_header header && true)) ≡ false
      → (length alignments == length header) ≡ true
      → shows_last_column header [] ≡ true
      → GivesBlock is_rich n (made outer role.Table [] (head_alone head id cells)) (table alignments header [])
  alone-gives outer plain count last = record {
    sound = alone-sound outer;
    waits = (alone-local outer).1;
    led = λ ids e. false-true e;
    spent =
        let content : Simples = head_alone head id cells in
        let k : ℕ = weight_of_cells header in
        let head_tree : Simple = made head role.TableHead [] (head_in id cells) in
        spend-element (k + 0) outer role.Table (facts_of content) [] content refl
        (spend-within k (k + 0) content (omega arith)
        (spend-past k line_tree (more head_tree (more line_tree none)) (spend-text (line_feed ∷ []))
        (spend-line k head_tree head-spends)));
    kind = refl;
    untitled = refl;
    lean = heavy-tree refl refl (λ r. alone-seen
        (and_parts (shows_header header) true (asked is_rich (shows_header header && true) r plain)).0)
        (λ k. false-true k)
        (λ k. line-first (more (made head role.TableHead [] (head_in id cells)) (lined none))
        ∙ first-behind (made head role.TableHead [] (head_in id cells)) (lined none)
        (head-first (and_parts (cells_lead header) true k).0) refl);
    gives = λ mode w done h may ts.
        ap (λ t. fed_all w (parts_of is_rich n (more t ts))) (alone-local outer).0 ∙
        test is_rich
        (λ e. rich-fed mode is_rich n outer (facts_of (head_alone head id cells)) alone_own ts
        (table alignments header []) e
        (alone-rich (and_parts (shows_header header) true (asked is_rich (shows_header header && true) e plain)).0 count
        last) w done h)
        (λ e. ap (fed_all w) (grid-parts is_rich n outer (facts_of (head_alone head id cells)) alone_own ts
        (table alignments header []) e
        alone-layout (alone-inside (table alignments header [])
        (table-made (Some head) (Some head) alignments header [] some count refl last)))
        ∙ between-fed mode w done (table alignments header []) (parts_of is_rich n ts) h);
  }

  -- with one
  module _ (body : ℕ) (lines : List (List Inlines)) (rows : Simples)
      (others : AreRows is_rich n alignments lines rows) where
    abbrev all : Simples
    all = with_body head id cells body rows

    abbrev lines_own : Simples
    lines_own = local_all [] rows

    abbrev body_tree : Simple
    body_tree = made body role.TableBody [] (lined rows)

    abbrev body_own : Simple
    body_own = element body role.TableBody (facts_of (lined rows)) [] (lined lines_own)

    abbrev all_own : Simples
    all_own = lined (more head_own (lined (more body_own (lined none))))

    body-local : IsLocal body_tree body_own
    body-local =
        let inner = lined-local rows in
        let own_body = element-local body role.TableBody (facts_of (lined rows)) [] (lined rows) refl refl
        (inner.1 ∙ others.waits) in
        (own_body.0 ∙ ap (element body role.TableBody (facts_of (lined rows)) []) inner.0, own_body.1)

    table-local : (outer : ℕ)
        → IsLocal (made outer role.Table [] all) (element outer role.Table (facts_of all) [] all_own)
    table-local outer =
        let tree : Simple = made head role.TableHead [] (head_in id cells) in
        let last = next-local body_tree body_own none body-local in
        let first = next-local tree head_own (more body_tree (lined none)) head-local in
        let inner = lined-local (more tree (lined (more body_tree (lined none)))) in
        let whole_table = element-local outer role.Table (facts_of all) [] all refl refl
        (inner.1 ∙ (first.1 ∙ last.1)) in (
          whole_table.0 ∙ ap (element outer role.Table (facts_of all) [])
              (inner.0 ∙ ap lined (first.0 ∙ ap (λ ts. more head_own (lined ts)) last.0)),
          whole_table.1,
        )

    body-kept : IsKept true tables.no_cells
        (fold tables.with_row_at (tables.with_row_at tables.no_cells row) (list_of lines_own))
    body-kept =
        let rest = others.counted (tables.with_row_at tables.no_cells row) head-kept.no_table in
        record {
          no_table = rest.no_table;
          filled = λ e. rest.filled (ap (λ b. b || false) (head-kept.filled refl));
        }

    body-layout : tables.layout_of (list_of all_own) ≡ layout.Grid
    unfolding chars encode
    body-layout =
        let known : Cells =
        fold tables.with_row_at (tables.with_row_at tables.no_cells row) (list_of lines_own) in
        let inside : Bool = list_all (tables.is_row_or_nothing false) (list_of lines_own) in
        ap (λ b. cond (b && (inside && true)) (tables.layout_with_headers known) layout.Page) head-alone
        ∙ (ap (λ b. cond (b && true) (tables.layout_with_headers known) layout.Page) others.alone
        ∙ headed known (body-kept.filled refl) body-kept.no_table)

    body-rows : map (flow.row_of (here is_rich n)) (flow.rows_of_table all_own)
        ≡ made_row true (Some head) alignments header ∷ made_rows (Some body) alignments lines
    unfolding node_of
    body-rows =
        let line : flow.Row → Row = flow.row_of (here is_rich n) in
        let inner : List flow.Row = flow.rows_among (record { id = Some body; is_head = false }) lines_own in
        ap (λ cs. record { part = Some head; is_in_head = true; cells = cs } ∷ map line (inner ++ [])) own.gives
        ∙ (ap (λ rs. made_row true (Some head) alignments header ∷ map line rs) (append-nil inner)
        ∙ ap (λ rs. made_row true (Some head) alignments header ∷ rs) (others.gives body))

    body-spent : AllSpend (weight_of_cells header + weight_of_rows lines)
        (λ w. said_of_rows lines (said_of_cells header w)) all
    body-spent =
        let first : Simple = made head role.TableHead [] (head_in id cells) in
        let second : Simple = made body role.TableBody [] (more line_tree rows) in
        let rest : Simples = more second (more line_tree none) in
        let j : ℕ = weight_of_cells header in
        let k : ℕ = weight_of_rows lines in
        spend-past (j + k) line_tree (more first (more line_tree rest)) (spend-text (line_feed ∷ []))
        (spend-more j k first (more line_tree rest) head-spends
        (spend-past k line_tree rest (spend-text (line_feed ∷ [])) (spend-line k second
        (spend-element k body role.TableBody (facts_of (more line_tree rows)) [] (more line_tree rows) refl
        (spend-past k line_tree rows (spend-text (line_feed ∷ [])) others.spent)))))

    body-inside : (b : Block)
        → table_of_rows (flow.filled_rows
        (made_row true (Some head) alignments header ∷ made_rows (Some body) alignments lines)) ≡ Some b
        → flow.grid_inside (nodes_of all_own) (flow.rows_of_table all_own) (here is_rich n)
        ≡ edge ∷ whole b ∷ edge ∷ edge ∷ []
    unfolding node_of
    body-inside b h =
        let nodes : List flow.Node = nodes_of all_own in
        ap (λ ps. flow.captions_among (take (flow.before_row nodes) nodes) (here is_rich n)
        ++ edge ∷ ps
        ++ edge ∷ flow.captions_among (drop (flow.before_row nodes) nodes) (here is_rich n) ++ edge ∷ [])
        (rows-block is_rich n (flow.rows_of_table all_own)
        (made_row true (Some head) alignments header ∷ made_rows (Some body) alignments lines) b body-rows h)

    body-pieces : flow.pieces_of all_own ≡ as_pieces (head_row ∷ body_rows body lines_own)
    unfolding node_of
    body-pieces =
        ap (λ ps. flow.of_row head_row ∷ ps) (append-nil (as_pieces (body_rows body lines_own)))

    all-alone : tables.holds_table_alone true (list_of all_own) ≡ true
    unfolding chars encode
    all-alone =
        let inside : Bool = list_all (tables.is_row_or_nothing true) (list_of lines_own) in
        ap (λ b. b && (inside && true)) rich-alone ∙ ap (λ b. b && true) others.rich.alone

    body-rich : shows_header header ≡ true → are_narrow (length header) lines ≡ true
        → (length alignments == length header) ≡ true
        → list_all (is_normal_row (length header)) (map cut_row lines) ≡ true
        → shows_last_column header (map cut_row lines) ≡ true
        → flow.rich_table_parts (list_of all_own) [] (flow.pieces_of all_own) (nodes_of all_own) (here is_rich n)
        ≡ edge ∷ whole (table alignments header (map cut_row lines)) ∷ edge ∷ []
    body-rich shown narrow count normal last =
        let same : length alignments ≡ length header = grind (arith, nat_tests, count) in
        let inner : List flow.Row = body_rows body lines_own in
        let b : Block = table alignments header (map cut_row lines) in
        ap (λ ps. flow.rich_table_parts (list_of all_own) [] ps (nodes_of all_own) (here is_rich n)) body-pieces
        ∙ rich-parts (list_of all_own) (head_row ∷ inner) (nodes_of all_own) (here is_rich n)
        (rich_row (Some head) true alignments header ∷ rich_rows (Some body) alignments lines) b
        (ap (λ x. (x && flow.follows_in_part (Some head) inner) || flow.have_row_spans inner) own.rich.spanless
        ∙ others.rich.spanless body)
        (ap (λ x. cond x (flow.of_row head_row ∷ filter (flow.stays false) (as_pieces inner))
        (filter (flow.stays false) (as_pieces inner))) (own.rich.shows shown)
        ∙ ap (λ ps. flow.of_row head_row ∷ ps)
        (others.rich.kept body (rows-filled (length header) lines normal)))
        all-alone
        (ap (λ x. x || list_any flow.heads (as_pieces inner)) (head-heads shown))
        (ap (λ cs. elements.row (record { part = Some head; cells = cs })
        ∷ map (flow.piece_with_blocks false (here is_rich n)) (as_pieces inner)) own.rich.gives
        ∙ ap (λ ps. rich_row (Some head) true alignments header ∷ ps) (others.rich.gives body))
        (lines-table (Some head) (Some body) alignments header lines b same narrow
        (lines-made alignments header lines some count normal last))

    body-seen : shows_header header ≡ true → show false all ≡ true
    body-seen shown = head-seen (more line_tree (more body_tree (more line_tree none))) shown

    body-nameless : list_all (list_all have_no_anchors) (map cut_row lines) ≡ true
        → are_nameless (lined (more body_tree (lined none))) ≡ true
    body-nameless h =
        ap (λ b. b && true) (plain-nameless rows (flat_map cells_of (map cut_row lines)) others.sound
        (none-in-rows (map cut_row lines) h))

    body-sound : (outer : ℕ) → IsSound (made outer role.Table [] all)
        (cells_of header ++ flat_map cells_of (map cut_row lines))
    body-sound outer =
        sound-element outer role.Table [] all (cells_of header ++ flat_map cells_of (map cut_row lines))
        refl refl
        (sound-text (line_feed ∷ [])
        (more (made head role.TableHead [] (head_in id cells)) (lined (more body_tree (lined none))))
        (cells_of header ++ flat_map cells_of (map cut_row lines))
        (sound-next (made head role.TableHead [] (head_in id cells)) (more body_tree (lined none))
        (cells_of header) (flat_map cells_of (map cut_row lines)) head-local.1 head-sound
        (sound-only body_tree (flat_map cells_of (map cut_row lines)) body-local.1
        (sound-element body role.TableBody [] (lined rows) (flat_map cells_of (map cut_row lines)) refl refl
        (sound-text (line_feed ∷ []) rows (flat_map cells_of (map cut_row lines)) others.sound)))))

    pub body-gives : (outer : ℕ)
        → (is_rich && not (shows_header header && are_narrow (length header) lines)) ≡ false
        → (length alignments == length header) ≡ true
        → list_all (is_normal_row (length header)) (map cut_row lines) ≡ true
        → shows_last_column header (map cut_row lines) ≡ true
        → GivesBlock is_rich n (made outer role.Table [] all) (table alignments header (map cut_row lines))
    body-gives outer plain count normal last =
        let j : ℕ = weight_of_cells header in
        let b : Block = table alignments header (map cut_row lines) in
        record {
          sound = body-sound outer;
          waits = (table-local outer).1;
          led = λ ids e. false-true e;
          spent = subst (λ (k : ℕ). Spends (j + k)
              (λ w. said_of_rows (map cut_row lines) (said_of_cells header w)) (made outer role.Table [] all))
              (sym (cut-weights lines))
              (subst (λ (g : Written → Written). Spends (j + weight_of_rows lines)
              (λ w. g (said_of_cells header w)) (made outer role.Table [] all)) (sym (cut-said lines))
              (spend-element (j + weight_of_rows lines) outer role.Table (facts_of all) [] all refl body-spent));
          kind = refl;
          untitled = refl;
          lean = heavy-tree refl refl (λ r. body-seen
              (and_parts (shows_header header) (are_narrow (length header) lines)
              (asked is_rich (shows_header header && are_narrow (length header) lines) r plain)).0) (λ k. false-true k)
              (λ k.
              let p = and_parts (cells_lead header) (list_all (list_all have_no_anchors) (map cut_row lines)) k in
              line-first (more (made head role.TableHead [] (head_in id cells)) (lined (more body_tree (lined none))))
              ∙ first-behind (made head role.TableHead [] (head_in id cells)) (lined (more body_tree (lined none)))
              (head-first p.0) (body-nameless p.1));
          gives = λ mode w done h may ts.
              ap (λ t. fed_all w (parts_of is_rich n (more t ts))) (table-local outer).0 ∙
              test is_rich
              (λ e. rich-fed mode is_rich n outer (facts_of all) all_own ts b e
              (let parts = and_parts (shows_header header) (are_narrow (length header) lines)
              (asked is_rich (shows_header header && are_narrow (length header) lines) e plain) in
              body-rich parts.0 parts.1 count normal last) w done h)
              (λ e. ap (fed_all w) (grid-parts is_rich n outer (facts_of all) all_own ts b e body-layout (body-inside b
              (table-made (Some head) (Some body) alignments header lines some count normal last)))
              ∙ between-fed mode w done b (parts_of is_rich n ts) h);
        }

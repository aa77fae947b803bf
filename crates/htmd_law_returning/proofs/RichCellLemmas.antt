-- What the cells and rows of a rich page's table give: cells of a paragraph at most that take no more than one place.
use Rattle.std.proofs.Common.{◌≡◌, ℕ, Bool, true, false, not, ◌||◌, List, []}
use Rattle.std.proofs.Common.{◌∷◌, filter, map, drop, refl, ap, ◌∙◌}
use Rattle.std.specs.List.{list_all, list_any}
use Rattle.std.specs.Str.{chars}
use Rattle.htmd_lexical.specs.AttributePairs.{AttributePair}
use Rattle.htmd_document.specs.declared.document.Alignment.{Alignment}
use Rattle.htmd_document.specs.declared.document.Alignment.TheVariants as align
use Rattle.htmd_document.specs.Documents.{Inlines, no_inlines, inline, Blocks, no_blocks, block, paragraph}
use Rattle.htmd_document.specs.Documents as documents
use Rattle.htmd_document.specs.NormalInlines.{has_none, are_normal}
use Rattle.htmd_flow.specs.Flows.{nodes_of, node_of}
use Rattle.htmd_flow.specs.Flows as flow
use Rattle.htmd_flow.specs.Levels.{list_of}
use Rattle.htmd_flow.specs.Paragraphs.{Writing, fed_all, ended}
use Rattle.htmd_flow.specs.Parts.{Part}
use Rattle.htmd_flow.specs.TableElements as elements
use Rattle.htmd_flow.specs.Tables as tables
use Rattle.htmd_shown.specs.Attributes.{alignment, wide_span, row_span}
use Rattle.htmd_shown.specs.Showings.{show, shows}
use Rattle.htmd_shown.specs.declared.facts.Facts.{Facts}
use Rattle.htmd_shown.specs.SimpleTrees.{Simple, Simples, text, none, more, element}
use Rattle.htmd_shown.specs.declared.role.Role.{Role}
use Rattle.htmd_shown.specs.declared.role.Role.TheVariants as role
use Rattle.htmd_commonmark_reading.specs.Rendering.{first_alignment}
use Rattle.htmd_law_rendering.specs.RenderedTrees.{pairs_of_alignment}
use Rattle.htmd_law_returning.proofs.ReadyLemmas.{here, parts_of}
use Rattle.htmd_law_returning.proofs.FlowLemmas.{line-fed, paragraph-ends}
use Rattle.htmd_law_returning.proofs.HeldLemmas.{are_held}
use Rattle.htmd_law_returning.proofs.LineFormLemmas.{IsWhole}
use Rattle.htmd_law_returning.proofs.LineParts.{parts_in, Numbers, is_rising}
use Rattle.htmd_law_returning.proofs.StartLemmas.{in_blocks, clean, false-true}
use Rattle.htmd_lexical.specs.Characters.{line_feed}
use lib.Utf8.{encode}

abbrev pub line_tree : Simple
line_tree = text (line_feed ∷ [])

abbrev pub cell_role : Bool → Role
cell_role true = role.HeaderCell
cell_role false = role.Cell

-- ---- what a cell holds

abbrev pub cell_blocks : Inlines → Blocks
cell_blocks no_inlines = no_blocks
cell_blocks (inline x xs) = block (paragraph (inline x xs)) no_blocks

pub cell-blocks : (parts : List Part) (ns : Numbers) (xs : Inlines)
    → ((w : Writing) → fed_all w parts ≡ fed_all w (parts_in [] ns xs)) → (has_none xs ≡ false → IsWhole xs)
    → are_normal false [] xs ≡ true → are_held xs ≡ true → is_rising 0 ns xs ≡ true
    → flow.blocks_of false parts ≡ cell_blocks xs
cell-blocks parts ns no_inlines e ends normal settled rise =
    ap (λ w. documents.blocks_of (ended w).done) (e (clean in_blocks []))
cell-blocks parts ns (inline x xs) e ends normal settled rise =
    let line = line-fed in_blocks [] ns (inline x xs) (ends refl) normal settled rise in
    ap (λ w. documents.blocks_of (ended w).done) (e (clean in_blocks []) ∙ line.is)
    ∙ ap (λ (w : Writing). documents.blocks_of w.done)
    (paragraph-ends in_blocks (inline x xs) [] line.inner line.last refl)

-- ---- cells

abbrev pub cell_of_rows : ℕ → Bool → Alignment → Inlines → elements.Cell
cell_of_rows rows is_header a c = record {
  is_header = is_header;
  columns = 1;
  rows = rows;
  alignment = a;
  content = cell_blocks c;
}

abbrev pub made_cell : Bool → Alignment → Inlines → elements.Cell
made_cell is_header a c = cell_of_rows 1 is_header a c

abbrev pub rich_cells : Bool → List Alignment → List Inlines → List elements.Cell
rich_cells is_header alignments [] = []
rich_cells is_header alignments (c ∷ cs) =
    made_cell is_header (first_alignment alignments) c ∷ rich_cells is_header (drop 1 alignments) cs

-- something is in it
abbrev pub is_some : Inlines → Bool
is_some c = not (has_none c)

-- the cells among nodes
abbrev pub cells_among : Simples → List flow.Node
cells_among ts = filter flow.is_cell (nodes_of ts)

pub or-true : (b : Bool) → (b || true) ≡ true
or-true true = refl
or-true false = refl

-- first or later
later-true : (a b c : Bool) → (c ≡ true → b ≡ true) → c ≡ true → (a || b) ≡ true
later-true a b c later k = ap (λ x. a || x) (later k) ∙ or-true a

either-true : (a b c : Bool) → (c ≡ true → b ≡ true) → (a || c) ≡ true → (a || b) ≡ true
either-true true b c later k = refl
either-true false b c later k = later k

abbrev some_cell : Simples → Bool
some_cell ts = list_any (λ (m : flow.Node). flow.content_shows m.tree) (cells_among ts)

-- something shows where it does in a cell
pub cells-show : (ts : Simples) → some_cell ts ≡ true → show false ts ≡ true
unfolding node_of
cells-show none h = false-true h
cells-show (more (element id role.Cell facts attributes content) ts) h =
    either-true (show false content) (show false ts) (some_cell ts) (cells-show ts) h
cells-show (more (element id role.HeaderCell facts attributes content) ts) h =
    either-true (show false content) (show false ts) (some_cell ts) (cells-show ts) h
cells-show (more tree ts) h =
    later-true (shows false tree) (show false ts) (some_cell ts) (cells-show ts) h

aligned-one-column : (a : Alignment) → wide_span (pairs_of_alignment a) ≡ 1
aligned-one-column align.None = refl
aligned-one-column align.Left = refl
aligned-one-column align.Center = refl
aligned-one-column align.Right = refl

aligned-one-row : (a : Alignment) → row_span (pairs_of_alignment a) ≡ 1
aligned-one-row align.None = refl
aligned-one-row align.Left = refl
aligned-one-row align.Center = refl
aligned-one-row align.Right = refl

alignment-said : (a : Alignment) → alignment (pairs_of_alignment a) ≡ a
alignment-said align.None = refl
alignment-said align.Left = refl
alignment-said align.Center = refl
alignment-said align.Right = refl

-- nodes that are the cells of a row of a rich page
pub record AreRichCells (is_rich : Bool) (n : ℕ) (is_header : Bool) (alignments : List Alignment)
    (cells : List Inlines) (ts : Simples) : Type 0 where
  pub alone : list_all (tables.is_cell_or_nothing true) (list_of ts) ≡ true
  pub gives : map (flow.cell_with_blocks false is_header (here is_rich n)) (cells_among ts)
      ≡ rich_cells is_header alignments cells
  pub spanless : list_any (λ (m : flow.Node). flow.may_span m.tree) (cells_among ts) ≡ false
  pub shows : list_any is_some cells ≡ true
      → list_any (λ (m : flow.Node). flow.content_shows m.tree) (cells_among ts) ≡ true

module _ (is_rich : Bool) (n : ℕ) where
  pub no-rich-cells : (is_header : Bool) (alignments : List Alignment)
      → AreRichCells is_rich n is_header alignments [] none
  unfolding node_of
  no-rich-cells is_header alignments = record {
    alone = refl;
    gives = refl;
    spanless = refl;
    shows = λ e. false-true e;
  }

  cell-gives : (id : ℕ) (facts : Facts) (is_header : Bool) (a : Alignment) (content ts : Simples) (c : Inlines)
      → facts.pres ≡ 0 → flow.blocks_of false (parts_of is_rich n content) ≡ cell_blocks c
      → map (flow.cell_with_blocks false is_header (here is_rich n)) (cells_among
      (more (element id (cell_role is_header) facts (pairs_of_alignment a) content) (more line_tree ts)))
      ≡ made_cell is_header a c ∷ map (flow.cell_with_blocks false is_header (here is_rich n)) (cells_among ts)
  unfolding node_of
  cell-gives id facts true a content ts c p e = rw (e, aligned-one-column a, alignment-said a) refl
  cell-gives id facts false a content ts c p e = rw (p, e, aligned-one-column a, alignment-said a) refl

  cell-alone : (id : ℕ) (facts : Facts) (is_header : Bool) (attributes : List AttributePair) (content ts : Simples)
      → list_all (tables.is_cell_or_nothing true) (list_of ts) ≡ true
      → list_all (tables.is_cell_or_nothing true)
      (list_of (more (element id (cell_role is_header) facts attributes content) (more line_tree ts))) ≡ true
  unfolding chars encode
  cell-alone id facts true attributes content ts h = h
  cell-alone id facts false attributes content ts h = h

  cell-spanless : (id : ℕ) (facts : Facts) (is_header : Bool) (a : Alignment) (content ts : Simples)
      → list_any (λ (m : flow.Node). flow.may_span m.tree) (cells_among ts) ≡ false
      → list_any (λ (m : flow.Node). flow.may_span m.tree) (cells_among
      (more (element id (cell_role is_header) facts (pairs_of_alignment a) content) (more line_tree ts))) ≡ false
  unfolding node_of
  cell-spanless id facts true a content ts h = rw (aligned-one-row a) h
  cell-spanless id facts false a content ts h = rw (aligned-one-row a) h

  cell-shows : (id : ℕ) (facts : Facts) (is_header : Bool) (attributes : List AttributePair) (content ts : Simples)
      (c : Inlines)
      (cs : List Inlines) → (is_some c ≡ true → show false content ≡ true)
      → (list_any is_some cs ≡ true
      → list_any (λ (m : flow.Node). flow.content_shows m.tree) (cells_among ts) ≡ true)
      → list_any is_some (c ∷ cs) ≡ true
      → list_any (λ (m : flow.Node). flow.content_shows m.tree) (cells_among
      (more (element id (cell_role is_header) facts attributes content) (more line_tree ts))) ≡ true
  unfolding node_of
  cell-shows id facts true attributes content ts no_inlines cs s later h =
      ap (λ b. show false content || b) (later h) ∙ or-true (show false content)
  cell-shows id facts false attributes content ts no_inlines cs s later h =
      ap (λ b. show false content || b) (later h) ∙ or-true (show false content)
  cell-shows id facts true attributes content ts (inline x xs) cs s later h =
      ap (λ b. b || list_any (λ (m : flow.Node). flow.content_shows m.tree) (cells_among ts)) (s refl)
  cell-shows id facts false attributes content ts (inline x xs) cs s later h =
      ap (λ b. b || list_any (λ (m : flow.Node). flow.content_shows m.tree) (cells_among ts)) (s refl)

  pub more-rich-cells : (id : ℕ) (facts : Facts) (is_header : Bool) (alignments : List Alignment)
      (content ts : Simples)
      (c : Inlines)
      (cs : List Inlines) → facts.pres ≡ 0 → (is_some c ≡ true → show false content ≡ true)
      → flow.blocks_of false (parts_of is_rich n content) ≡ cell_blocks c
      → AreRichCells is_rich n is_header (drop 1 alignments) cs ts
      → AreRichCells is_rich n is_header alignments (c ∷ cs)
      (more (element id (cell_role is_header) facts (pairs_of_alignment (first_alignment alignments)) content)
      (more line_tree ts))
  more-rich-cells id facts is_header alignments content ts c cs p s e later =
      let a : Alignment = first_alignment alignments in
      record {
        alone = cell-alone id facts is_header (pairs_of_alignment a) content ts later.alone;
        gives = cell-gives id facts is_header a content ts c p e
            ∙ ap (λ xs. made_cell is_header a c ∷ xs) later.gives;
        spanless = cell-spanless id facts is_header a content ts later.spanless;
        shows = λ h. cell-shows id facts is_header (pairs_of_alignment a) content ts c cs s later.shows h;
      }

-- Tables of rich documents, by what is known of them.
use Rattle.std.proofs.Common.{◌≡◌, Bool, true, false, cond, ◌||◌, List, sym, ap, ◌∙◌, filter, map}
use Rattle.htmd_lexical.specs.AttributePairs.{AttributePair}
use Rattle.htmd_shown.specs.Kinds.{has, content_of}
use Rattle.htmd_shown.specs.Roles as roles
use Rattle.htmd_shown.specs.SimpleTrees.{Simple}
use Rattle.htmd_shown.specs.SimpleViews.{simple_of, simples_of}
use Rattle.htmd_shown.specs.declared.simple.Simple as simples
use Rattle.htmd_flow.specs.Contexts.{Context}
use Rattle.htmd_flow.specs.Flows as spec
use Rattle.htmd_flow.specs.Levels.{list_of}
use Rattle.htmd_flow.specs.Parts.{Part}
use Rattle.htmd_flow.specs.PieceViews.{part_in, piece_of}
use Rattle.htmd_flow.specs.TableElements as tables
use Rattle.htmd_flow.specs.TableViews.{cells_at}
use Rattle.htmd_flow.specs.declared.table_form.TablePart.{TablePart}
use Rattle.htmd_flow.specs.declared.table_pieces.TablePiece as source
use Rattle.htmd_flow.proofs.NodesLemmas.{nodes_are, trees_are}
use Rattle.htmd_flow.proofs.TablePieceLemmas.{piece_row}

module _ (trees : List Simple) (attributes : List AttributePair) (has_spans : Bool) (kept : List spec.TablePiece)
    (ns : List spec.Node) (context : Context) where
  abbrev made : List tables.Piece
  made = spec.pieces_with_blocks has_spans kept context

  abbrev content : List Part
  content = spec.flow_all ns context

  abbrev table : List Part
  table = spec.block_part (tables.table_of_pieces (spec.has_border attributes) made)

  abbrev by_page : Bool → List Part
  by_page b = cond b content (spec.table_with_blocks attributes kept made content)

  pub table_page : spec.is_for_page trees attributes kept ≡ true
      → content ≡ spec.kept_table_parts trees attributes has_spans kept ns context
  table_page h = sym (ap by_page h)

  pub table_made : spec.is_for_page trees attributes kept ≡ false
      → (spec.is_headed attributes kept || tables.are_paragraphs made) ≡ true
      → table ≡ spec.kept_table_parts trees attributes has_spans kept ns context
  table_made h k = sym (ap by_page h ∙ ap (λ b. cond b table content) k)

  pub table_unmade : spec.is_for_page trees attributes kept ≡ false
      → (spec.is_headed attributes kept || tables.are_paragraphs made) ≡ false
      → content ≡ spec.kept_table_parts trees attributes has_spans kept ns context
  table_unmade h k = sym (ap by_page h ∙ ap (λ b. cond b table content) k)

-- a row with its blocks
pub row_with_blocks : (has_spans : Bool) (context : Context) (p : source.TablePiece) (content : List simples.Simple)
    (part : TablePart) (cells : List tables.Cell) → has roles.is_caption (simple_of p.node.now) ≡ false
    → part ≡ part_in p → simples_of content ≡ content_of (simple_of p.node.now)
    → cells ≡ map (spec.cell_with_blocks has_spans part.is_head context) (cells_at content)
    → tables.row (record { part = part.id; cells = cells }) ≡ spec.piece_with_blocks has_spans context (piece_of p)
row_with_blocks has_spans context p content part cells n e c h =
    let all = filter spec.is_cell (spec.nodes_of (content_of (simple_of p.node.now))) in
    let same : cells_at content ≡ all = ap (filter spec.is_cell) (sym (nodes_are content) ∙ ap spec.nodes_of c) in
    ap (λ cs. tables.row (record { part = part.id; cells = cs }))
    (h ∙ ap (map (spec.cell_with_blocks has_spans part.is_head context)) same)
    ∙ ap (λ (q : TablePart). tables.row (record {
      part = q.id;
      cells = map (spec.cell_with_blocks has_spans q.is_head context) all;
    })) e
    ∙ ap (spec.piece_with_blocks has_spans context) (piece_row p n)

-- what is kept of a table
pub table_kept : (ts : List simples.Simple) (attributes : List AttributePair) (found kept : List spec.TablePiece)
    (has_spans : Bool) (ns : List spec.Node) (context : Context) → found ≡ spec.pieces_of (simples_of ts)
    → has_spans ≡ spec.have_row_spans (spec.rows_in found) → kept ≡ filter (spec.stays has_spans) found
    → spec.kept_table_parts (map simple_of ts) attributes has_spans kept ns context
    ≡ spec.kept_table_parts (list_of (simples_of ts)) attributes
    (spec.have_row_spans (spec.rows_in (spec.pieces_of (simples_of ts))))
    (spec.kept_pieces (spec.pieces_of (simples_of ts))) ns context
table_kept ts attributes found kept has_spans ns context e f g =
    let all = list_of (simples_of ts) in
    ap (λ xs. spec.kept_table_parts xs attributes has_spans kept ns context) (sym (trees_are ts))
    ∙ ap (λ k. spec.kept_table_parts all attributes has_spans k ns context) g
    ∙ ap (λ b. spec.kept_table_parts all attributes b (filter (spec.stays b) found) ns context) f
    ∙ ap (λ x. spec.kept_table_parts all attributes (spec.have_row_spans (spec.rows_in x)) (spec.kept_pieces x) ns
    context) e

-- How much an element gives, by its role.
use Rattle.std.proofs.Common.{◌≡◌, ℕ, suc, ◌+◌, ◌*◌, ◌≤◌, Bool, true, false, List, [], ◌∷◌, ◌++◌, length}
use Rattle.std.proofs.Common.{map, zero-mul, add-mul, mul-le-mul_left, arith}
use Rattle.std.specs.Prelude.{not, ◌&&◌, if◌then◌else◌, codes, Option, Some, None}
use Rattle.htmd_lexical.specs.Characters.{space}
use Rattle.htmd_lexical.specs.AttributePairs.{AttributePair}
use Rattle.htmd_lexical.specs.WhiteSpace.{is_ascii_white_space}
use Rattle.htmd_shown.specs.declared.facts.Facts.{Facts}
use Rattle.htmd_shown.specs.declared.role.Role.{Role}
use Rattle.htmd_shown.specs.declared.role.Role.TheVariants as role
use Rattle.htmd_shown.specs.AllTexts.{all_text_among, with_line_feeds, lines_of, without_last_line_feed, dollar_sign}
use Rattle.htmd_shown.specs.Attributes.{has_attribute, text_of, title_of, description_of, address, in_line, is_any_case}
use Rattle.htmd_shown.specs.Attributes.{is_filled}
use Rattle.htmd_shown.specs.SimpleTrees.{Simples}
use Rattle.htmd_shown.specs.Spaces.{is_blank_text}
use Rattle.htmd_document.specs.Documents.{Inlines, no_inlines, inline, code_block, Blocks, no_blocks, block}
use Rattle.htmd_document.specs.Formats.{of_format, of_element}
use Rattle.htmd_flow.specs.Contexts.{Context, has_elements, is_lined, inside_format, inside_title, inside_link, in_code}
use Rattle.htmd_flow.specs.Contexts.{unlinked, is_linked_to_part, beside_code, in_one_line, deeper, run_in, apart}
use Rattle.htmd_flow.specs.Flows.{Node, Element, blocks_of, line_of, flow_all, image_parts, math_block}
use Rattle.htmd_flow.specs.Flows.{math_in_line, formula_parts, embed_edge, embed_parts, box_parts, linked_by, heading_of}
use Rattle.htmd_flow.specs.Flows.{around_heading, heading_parts, quote_of, quote_parts, code_parts, text_in_lines}
use Rattle.htmd_flow.specs.Flows.{verbatim_parts, start_of, anchors_apart, near_parts, around_title, described_parts}
use Rattle.htmd_flow.specs.Flows.{term_parts, terms_by, rich_table_at, table_parts, table_at, figure_at, parts_of}
use Rattle.htmd_flow.specs.Languages.{language_of_block}
use Rattle.htmd_flow.specs.Levels.{list_of}
use Rattle.htmd_flow.specs.Parts.{Around, Part, place, box, edge, whole}
use Rattle.htmd_law_sizes.specs.DocumentSizes.{size_of_option}
use Rattle.htmd_law_sizes.proofs.HeavySizes.{heavy_inlines, heavy}
use Rattle.htmd_law_sizes.specs.SimpleSizes.{size_of_ids, size_of_simples, level_of}
use Rattle.htmd_law_sizes.specs.TreeSizes.{size_of_values}
use Rattle.htmd_law_sizes.proofs.ContextRooms.{Within, around_le, within_format, within_link, within_unlinked}
use Rattle.htmd_law_sizes.proofs.ContextRooms.{within_title, title_within, within_near}
use Rattle.htmd_law_sizes.proofs.NodeCosts.{AllFit, worth, flow_le, list_le}
use Rattle.htmd_law_sizes.proofs.PartCosts.{costs, costs_append, blocks_cost, line_cost}
use Rattle.htmd_document_of_tree.proofs.TextLengths.{total}
use Rattle.htmd_law_sizes.proofs.RichCosts.{details_le, figure_le, described_le}
use Rattle.htmd_law_sizes.proofs.RichTableCosts.{PiecesFit, pieces_worth, rich_table_le}
use Rattle.htmd_law_sizes.proofs.TableCosts.{RowsFit, rows_worth, captions_worth, table_le}
use Rattle.htmd_law_sizes.proofs.TermCosts.{TermsFit, terms_worth, terms_le}
use Rattle.htmd_document_of_tree.proofs.TextLengths.{address_le, line_le, trimmed_le}
use Rattle.htmd_law_sizes.proofs.TextCosts.{title_le, description_le, with_feeds_le}
use Rattle.htmd_law_sizes.proofs.TextCosts.{code_text_le, without_last_le, lines_le}

-- ---- leaves

-- a text in its context
pub run_le : (s : List ℕ) (c : Context) → Within c.around → costs (run_in c s ∷ []) ≤ 51 * length s
run_le s c w =
    let h : 33 + length c.around ≤ 51 = omega (arith, around_le c.around w) in
    omega (arith, mul-le-mul_left (length s) h)

pub image_cost : (address : Option (List ℕ)) (attributes : List AttributePair) (c : Context) → Within c.around
    → costs (image_parts address attributes c) + 50 ≤ 400 * suc (size_of_option address + size_of_values attributes)
image_cost (Some s) attributes c w =
    omega (
      arith,
      address_le s,
      title_le attributes,
      description_le attributes,
      around_le c.around w,
    )
image_cost None attributes c w = go (is_filled d)
  where
    d : List ℕ
    d = description_of attributes

    go : (t : Bool) → costs (if t then run_in c d ∷ [] else []) + 50 ≤ 400 * suc (0 + size_of_values attributes)
    go true = omega (arith, run_le d c w, description_le attributes)
    go false = omega arith

pub formula_cost : (tex : List ℕ) (t : Bool) (c : Context) (k : ℕ) → Within c.around
    → costs (formula_parts tex t c) + 50 ≤ 400 * suc (length tex + k)
formula_cost tex t c k w = go (t && not c.is_flat)
  where
    go : (b : Bool)
        → costs (if b then apart (whole (math_block tex) ∷ []) else math_in_line tex c) + 50 ≤ 400 * suc
        (length tex + k)
    go true = omega (arith, trimmed_le is_ascii_white_space (with_line_feeds tex), with_feeds_le tex)
    go false =
        omega (arith, run_le (dollar_sign ∷ []) c w, run_le (in_line tex) (in_code c) w, line_le tex)

places_cost : (ids : List (List ℕ)) → costs (map place ids) ≤ 2 * size_of_ids ids
places_cost [] = omega arith
places_cost (id ∷ ids) = omega (arith, places_cost ids)

edge_cost : (c : Context) → Within c.around → costs (embed_edge c ∷ []) ≤ 51
edge_cost c w = go c.is_flat
  where
    go : (t : Bool) → costs ((if t then run_in c (space ∷ []) else edge) ∷ []) ≤ 51
    go true = omega (arith, run_le (space ∷ []) c w)
    go false = omega arith

pub embed_cost : (id : ℕ) (address title : List ℕ) (anchors : List (List ℕ)) (c : Context) (k : ℕ)
    → Within c.around
    → costs (embed_parts id address title anchors c) + 50
    ≤ 400 * suc (length address + length title + k + size_of_ids anchors)
embed_cost id address title anchors c k w =
    let d = inside_link id address None c in
    let x = run_in d title ∷ embed_edge c ∷ [] in
    omega (
      arith,
      costs_append (embed_edge c ∷ map place anchors) x,
      places_cost anchors,
      edge_cost c w,
      run_le title d (within_link id address None c w),
    )

pub box_cost : (attributes : List AttributePair) → costs (box_parts attributes) ≤ 2
box_cost attributes = go (is_any_case (codes "checkbox") (text_of (codes "type") attributes))
  where
    go : (t : Bool) → costs (if t then box (has_attribute (codes "checked") attributes) ∷ [] else []) ≤ 2
    go true = omega arith
    go false = omega arith

-- ---- headings and quotes

heading_of_cost : (level : ℕ) (xs : Inlines) → costs (heading_of level xs) ≤ 2 + level + heavy_inlines xs
heading_of_cost level no_inlines = omega arith
heading_of_cost level (inline x xs) = omega arith

heading_within : (facts : Facts) (c : Context) → Within c.around → Within (around_heading facts c).around
heading_within facts c w = go (facts.shows_sign && is_linked_to_part c)
  where
    go : (t : Bool) → Within (if t then unlinked c else c).around
    go true = within_unlinked c w
    go false = w

heading_cost : (level : ℕ) (facts : Facts) (nodes : List Node) (c : Context) → AllFit nodes → Within c.around
    → costs (heading_parts level facts nodes c) ≤ 4 + level + worth nodes
heading_cost level facts nodes c f w = go c.is_flat
  where
    d : Context
    d = in_one_line (around_heading facts c)

    v : Within d.around
    v = heading_within facts c w

    go : (t : Bool)
        → costs (apart (if t then flow_all nodes c else heading_of level (line_of (flow_all nodes d))))
        ≤ 4 + level + worth nodes
    go true = simp costs_append (omega (arith, flow_le nodes c f w))
    go false =
        simp costs_append
        (omega (
          arith,
          heading_of_cost level (line_of (flow_all nodes d)),
          line_cost (flow_all nodes d),
          flow_le nodes d f v,
        ))

quote_of_cost : (bs : Blocks) → costs (quote_of bs) ≤ 2 + heavy bs
quote_of_cost no_blocks = omega arith
quote_of_cost (block b bs) = omega arith

quote_cost : (nodes : List Node) (c : Context) → AllFit nodes → Within c.around
    → costs (quote_parts nodes c) ≤ 5 + worth nodes
quote_cost nodes c f w = go (is_lined c)
  where
    parts : List Part
    parts = flow_all nodes (deeper c)

    go : (t : Bool)
        → costs (apart (if t then flow_all nodes c else quote_of (blocks_of false parts))) ≤ 5 + worth nodes
    go true = simp costs_append (omega (arith, flow_le nodes c f w))
    go false =
        simp costs_append
        (omega (
          arith,
          quote_of_cost (blocks_of false parts),
          blocks_cost false parts,
          flow_le nodes (deeper c) f w,
        ))

-- ---- code

code_lines : (ls : List (List ℕ)) (around : List Around)
    → costs (code_parts ls around) ≤ total ls * (33 + length around) + length ls
code_lines [] around = omega (arith, zero-mul (33 + length around))
code_lines (l ∷ ls) around =
    omega (arith, code_lines ls around, add-mul (length l) (total ls) (33 + length around))

verbatim_text : (attributes : List AttributePair) (content : Simples) (s : List ℕ) (c : Context) (k : ℕ)
    → length s ≤ 6 * k → Within c.around → costs (text_in_lines attributes content s c) ≤ 306 * k + 60
verbatim_text attributes content s c k l w = go (is_blank_text s) c.is_flat
  where
    ls : List (List ℕ)
    ls = lines_of s

    lines : total ls + length ls ≤ suc (length s)
    lines = lines_le s

    h : 33 + length c.around ≤ 51
    h = omega (arith, around_le c.around w)

    -- the lines in all that stands around them
    costly : total ls * (33 + length c.around) ≤ total ls * 51
    costly = mul-le-mul_left (total ls) h

    go : (t u : Bool)
        → costs
        (if t then edge ∷ []
        else (if u then edge ∷ code_parts ls c.around
        else apart
        (whole (code_block (language_of_block attributes (list_of content) c.near) (without_last_line_feed s)) ∷ [])))
        ≤ 306 * k + 60
    go true u = omega arith
    go false true = omega (arith, costly, code_lines ls c.around, lines, l)
    go false false = omega (arith, without_last_le s, l)

verbatim_cost : (attributes : List AttributePair) (content : Simples) (c : Context) → Within c.around
    → costs (verbatim_parts attributes content c) ≤ 306 * size_of_simples content + 60
verbatim_cost attributes content c w =
    verbatim_text attributes content (with_line_feeds (all_text_among content)) c (size_of_simples content)
    (code_text_le content) w

-- ---- elements

-- what is known of what is in an element
pub record Known (e : Element) (k : ℕ) : Type 0 where
  pub fit : AllFit e.nodes
  pub paid : worth e.nodes ≤ 400 * k
  pub rows : RowsFit e.rows
  pub lined : captions_worth e.nodes + rows_worth e.rows ≤ 400 * k
  pub pieces : PiecesFit e.pieces
  pub pieced : pieces_worth e.pieces ≤ 400 * k
  pub terms : TermsFit e.terms
  pub termed : terms_worth e.terms ≤ 400 * k
  pub inside : size_of_simples e.content ≡ k

flow_in : (e : Element) (k : ℕ) (c : Context) → Known e k → Within c.around
    → costs (flow_all e.nodes c) ≤ 400 * k
flow_in e k c h w = omega (arith, flow_le e.nodes c h.fit w, h.paid)

apart_in : (e : Element) (k : ℕ) (c : Context) → Known e k → Within c.around
    → costs (apart (flow_all e.nodes c)) ≤ 2 + 400 * k
apart_in e k c h w = simp costs_append (omega (arith, flow_in e k c h w))

near_in : (e : Element) (k : ℕ) (c : Context) → Known e k → Within c.around
    → costs (near_parts e c) ≤ 2 + 400 * k
near_in e k c h w =
    apart_in e k (beside_code e.facts.pres e.attributes c) h (within_near e.facts.pres e.attributes c w)

anchors_in : (e : Element) (k : ℕ) (c : Context) → Known e k → Within c.around
    → costs (anchors_apart e.nodes c) ≤ 2 + 400 * k
anchors_in e k c h w = go c.is_flat
  where
    go : (t : Bool) → costs (if t then flow_all e.nodes c else apart (flow_all e.nodes c)) ≤ 2 + 400 * k
    go true = omega (arith, flow_in e k c h w)
    go false = apart_in e k c h w

around_in : (e : Element) (k : ℕ) (c : Context) → Known e k → Within c.around
    → costs ((run_in c (space ∷ []) ∷ flow_all e.nodes c) ++ run_in c (space ∷ []) ∷ []) ≤ 102 + 400 * k
around_in e k c h w =
    omega (
      arith,
      costs_append (run_in c (space ∷ []) ∷ flow_all e.nodes c) (run_in c (space ∷ []) ∷ []),
      run_le (space ∷ []) c w,
      flow_in e k c h w,
    )

linked_within : (id : ℕ) (attributes : List AttributePair) (c : Context) → Within c.around
    → Within (linked_by id attributes c).around
linked_within id attributes c w =
    within_link id (address (text_of (codes "href") attributes)) (title_of attributes) c w

title_in : (e : Element) (k : ℕ) (c : Context) → Known e k → Within c.around
    → costs (apart (flow_all e.nodes (around_title e.content c))) ≤ 2 + 400 * k
title_in e k c h w = apart_in e k (around_title e.content c) h (title_within e.content c w)

terms_in : (e : Element) (k : ℕ) (c : Context) → Known e k → Within c.around
    → costs (terms_by e.terms e.nodes c) ≤ 31 + 400 * k
terms_in e k c h w = go (has_elements c)
  where
    go : (t : Bool)
        → costs (if t then described_parts e.terms c else term_parts e.terms e.nodes c) ≤ 31 + 400 * k
    go true = omega (arith, described_le e.terms c h.terms w, h.termed)
    go false = omega (arith, terms_le e.terms e.nodes c (400 * k) h.terms h.fit h.termed h.paid w)

table_in : (e : Element) (k : ℕ) (c : Context) → Known e k → Within c.around
    → costs (table_at e c) ≤ 199 + 400 * k
table_in e k c h w = go (has_elements c)
  where
    go : (t : Bool)
        → costs (if t then rich_table_at e c else table_parts (list_of e.content) e.nodes e.rows c) ≤ 199 + 400 * k
    go true =
        omega (
          arith,
          rich_table_le (list_of e.content) e.attributes e.pieces e.nodes c (400 * k) h.fit h.pieces h.paid h.pieced w,
        )
    go false = table_le (list_of e.content) e.nodes e.rows c (400 * k) h.fit h.rows h.paid h.lined w

figure_in : (e : Element) (k : ℕ) (c : Context) → Known e k → Within c.around
    → costs (figure_at e c) ≤ 32 + 400 * k
figure_in e k c h w =
    omega (
      arith,
      figure_le e.nodes (beside_code e.facts.pres e.attributes c) h.fit (within_near e.facts.pres e.attributes c w),
      h.paid,
    )

pub element_le : (r : Role) (e : Element) (k : ℕ) (c : Context) → Known e k → Within c.around
    → costs (parts_of r e c) + 50 ≤ 400 * suc (level_of r + size_of_values e.attributes + k)
element_le (role.Format f) e k c h w =
    omega (arith, flow_in e k (inside_format (of_format f) c) h (within_format (of_format f) c w))
element_le (role.Element f) e k c h w =
    omega (arith, flow_in e k (inside_format (of_element f) c) h (within_format (of_element f) c w))
element_le role.Abbreviation e k c h w =
    omega (
      arith,
      flow_in e k (inside_title (title_of e.attributes) c) h (within_title (title_of e.attributes) c w),
    )
element_le role.Code e k c h w = omega (arith, flow_in e k (in_code c) h w)
element_le role.Typed e k c h w = omega (arith, flow_in e k (in_code c) h w)
element_le role.Link e k c h w =
    omega (arith, flow_in e k (linked_by e.id e.attributes c) h (linked_within e.id e.attributes c w))
element_le role.Target e k c h w = omega (arith, flow_in e k c h w)
element_le role.Apart e k c h w = omega (arith, around_in e k c h w)
element_le role.LineBreak e k c h w = omega arith
element_le role.Input e k c h w =
    omega (
      arith,
      costs_append (box_parts e.attributes)
          (flow_all e.nodes c),
      box_cost e.attributes,
      flow_in e k c h w,
    )
element_le (role.Heading level) e k c h w = omega (arith, heading_cost level e.facts e.nodes c h.fit w, h.paid)
element_le role.Paragraph e k c h w = omega (arith, apart_in e k c h w)
element_le role.Preformatted e k c h w = omega (arith, verbatim_cost e.attributes e.content c w, h.inside)
element_le role.Verbatim e k c h w = omega (arith, verbatim_cost e.attributes e.content c w, h.inside)
element_le role.BlockQuote e k c h w = omega (arith, quote_cost e.nodes c h.fit w, h.paid)
element_le role.ThematicBreak e k c h w = omega arith
element_le role.BulletList e k c h w = omega (arith, list_le None e.nodes c h.fit w, h.paid)
element_le role.NumberedList e k c h w = omega (arith, list_le (Some (start_of e.attributes)) e.nodes c h.fit w, h.paid)
element_le role.Item e k c h w = omega (arith, apart_in e k c h w)
element_le role.Terms e k c h w = omega (arith, terms_in e k c h w)
element_le role.Term e k c h w = omega (arith, title_in e k c h w)
element_le role.Meaning e k c h w = omega (arith, apart_in e k c h w)
element_le role.Table e k c h w = omega (arith, table_in e k c h w)
element_le role.LayoutTable e k c h w = omega (arith, apart_in e k c h w)
element_le role.Caption e k c h w = omega (arith, title_in e k c h w)
element_le role.TableHead e k c h w = omega (arith, apart_in e k c h w)
element_le role.TableBody e k c h w = omega (arith, apart_in e k c h w)
element_le role.Row e k c h w = omega (arith, apart_in e k c h w)
element_le role.Cell e k c h w = omega (arith, near_in e k c h w)
element_le role.HeaderCell e k c h w = omega (arith, apart_in e k c h w)
element_le role.Division e k c h w = omega (arith, near_in e k c h w)
element_le role.Figure e k c h w = omega (arith, figure_in e k c h w)
element_le role.FigureCaption e k c h w = omega (arith, title_in e k c h w)
element_le role.Details e k c h w = omega (arith, details_le e.attributes e.nodes c h.fit w, h.paid)
element_le role.Summary e k c h w = omega (arith, title_in e k c h w)
element_le role.Legend e k c h w = omega (arith, apart_in e k c h w)
element_le role.Block e k c h w = omega (arith, apart_in e k c h w)
element_le role.Plain e k c h w = omega (arith, flow_in e k c h w)
element_le role.Anchors e k c h w = omega (arith, anchors_in e k c h w)
element_le role.Unlinked e k c h w = omega (arith, flow_in e k (unlinked c) h (within_unlinked c w))

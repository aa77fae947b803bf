-- How much of addresses an element gives, by its role.
use Rattle.std.proofs.Common.{◌≡◌, refl, ℕ, ◌+◌, ◌*◌, ◌≤◌, Bool, true, false, List, [], ◌∷◌, ◌++◌}
use Rattle.std.proofs.Common.{map, add-mul, arith}
use Rattle.std.specs.Prelude.{not, ◌&&◌, nat_le, if◌then◌else◌, codes, Option, Some, None}
use Rattle.htmd_lexical.specs.Characters.{space}
use Rattle.htmd_lexical.specs.AttributePairs.{AttributePair}
use Rattle.htmd_document.specs.Documents.{Inlines, no_inlines, inline, heading, code_block, quote, thematic_break}
use Rattle.htmd_document.specs.Documents.{Blocks, no_blocks, block}
use Rattle.htmd_document.specs.Formats.{of_format, of_element}
use Rattle.htmd_shown.specs.declared.facts.Facts.{Facts}
use Rattle.htmd_shown.specs.declared.role.Role.{Role}
use Rattle.htmd_shown.specs.declared.role.Role.TheVariants as role
use Rattle.htmd_shown.specs.AllTexts.{all_text_among, with_line_feeds, lines_of, without_last_line_feed, dollar_sign}
use Rattle.htmd_shown.specs.Attributes.{has_attribute, text_of, title_of, description_of, address, in_line, is_any_case}
use Rattle.htmd_shown.specs.Attributes.{is_filled}
use Rattle.htmd_shown.specs.Roles as roles
use Rattle.htmd_shown.specs.SimpleTrees.{Simple, Simples}
use Rattle.htmd_shown.specs.Spaces.{is_blank_text}
use Rattle.htmd_flow.specs.Contexts.{Context, has_elements, is_lined, inside_format, inside_title, inside_link, unlinked}
use Rattle.htmd_flow.specs.Contexts.{is_linked_to_part, beside_code, in_code, in_one_line, deeper}
use Rattle.htmd_flow.specs.Contexts.{run_in, apart}
use Rattle.htmd_flow.specs.Flows.{Element, flow_all, blocks_of, line_of, image_parts}
use Rattle.htmd_flow.specs.Flows.{math_block, math_in_line, formula_parts, embed_edge, embed_parts, box_parts, linked_by}
use Rattle.htmd_flow.specs.Flows.{heading_of, around_heading, heading_parts, quote_of, quote_parts, code_parts}
use Rattle.htmd_flow.specs.Flows.{text_in_lines, start_of, anchors_apart, around_title, title_parts, described_parts}
use Rattle.htmd_flow.specs.Flows.{term_parts, terms_by, rich_table_at, table_parts, table_at, figure_at, details_parts}
use Rattle.htmd_flow.specs.Flows.{parts_of}
use Rattle.htmd_flow.specs.Languages.{language_of_block}
use Rattle.htmd_flow.specs.Levels.{list_of}
use Rattle.htmd_flow.specs.Parts.{place, box, edge, whole}
use Rattle.htmd_law_sizes.specs.DocumentSizes.{size_of_option}
use Rattle.htmd_document_of_tree.specs.Limits.{is_carrying, size}
use Rattle.htmd_law_sizes.proofs.DebtContexts.{Inside, marked_inside, element_inside, named_inside, link_inside}
use Rattle.htmd_law_sizes.proofs.DebtContexts.{less_around, unlinked_inside, near_inside, here, title_inside}
use Rattle.htmd_law_sizes.proofs.Debts.{link_size, debt_inlines, debt}
use Rattle.htmd_law_sizes.proofs.DebtNodes.{AllDue, dues, not_flat, list_cost_of, flow_cost}
use Rattle.htmd_law_sizes.proofs.DebtNodes.{TermsDue, terms_dues, terms_cost}
use Rattle.htmd_law_sizes.proofs.DebtParts.{rep, Costs, at_most, nothing, both, run_cost, blank_cost, three_cost}
use Rattle.htmd_law_sizes.proofs.DebtParts.{picture_cost, break_cost, place_cost, box_cost, edge_cost, block_cost}
use Rattle.htmd_law_sizes.proofs.DebtParts.{code_cost, apart_cost, space_blank, blocks_cost, line_cost}
use Rattle.htmd_law_sizes.proofs.DebtRich.{same_line, not_one_line, details_cost, figure_cost, described_cost}
use Rattle.htmd_law_sizes.proofs.DebtRichTables.{PiecesDue, pieces_dues, rich_table_cost}
use Rattle.htmd_law_sizes.proofs.DebtTables.{RowsDue, rows_dues}
use Rattle.htmd_law_sizes.proofs.DebtTables.{captions_dues, table_cost}
use Rattle.htmd_law_sizes.proofs.LanguageLemmas.{language_le}
use Rattle.htmd_law_sizes.proofs.Leaves.{leaves_among, own_among, due_among}
use Rattle.htmd_law_sizes.proofs.Leaves.{among_grows}

heading_inside : (facts : Facts) (c : Context) → rep (around_heading facts c).around ≤ rep c.around
heading_inside facts c = go (facts.shows_sign && is_linked_to_part c)
  where
    go : (t : Bool) → rep (if t then unlinked c else c).around ≤ rep c.around
    go true = less_around c.around
    go false = omega arith

-- ---- leaves

pub image_cost : (address : Option (List ℕ)) (attributes : List AttributePair) (c : Context)
    → Costs c.is_flat (image_parts address attributes c) (rep c.around)
image_cost (Some s) attributes c =
    picture_cost c.is_flat (address s) (title_of attributes) (description_of attributes) c.around
image_cost None attributes c = go (is_filled (description_of attributes))
  where
    d : List ℕ
    d = description_of attributes

    go : (t : Bool) → Costs c.is_flat (if t then run_in c d ∷ [] else []) (rep c.around)
    go true = run_cost c.is_flat d c.around c.is_code
    go false = at_most c.is_flat [] 0 (rep c.around) (omega arith) (nothing c.is_flat)

pub formula_cost : (tex : List ℕ) (t : Bool) (c : Context)
    → Costs c.is_flat (formula_parts tex t c) (rep c.around + 4)
formula_cost tex t c = go (t && not c.is_flat)
  where
    go : (b : Bool)
        → Costs c.is_flat (if b then apart (whole (math_block tex) ∷ []) else math_in_line tex c) (rep c.around + 4)
    go true =
        at_most c.is_flat (apart (whole (math_block tex) ∷ [])) 4 (rep c.around + 4) (omega arith)
        (apart_cost c.is_flat (whole (math_block tex) ∷ []) 4 (block_cost c.is_flat (math_block tex)))
    go false =
        at_most c.is_flat (math_in_line tex c) (rep c.around) (rep c.around + 4) (omega arith)
        (three_cost c.is_flat (dollar_sign ∷ []) (in_line tex) (dollar_sign ∷ []) c.around c.is_code true c.is_code)

places_cost : (f : Bool) (ids : List (List ℕ)) → Costs f (map place ids) 0
places_cost f [] = nothing f
places_cost f (id ∷ ids) = both f (place id ∷ []) (map place ids) 0 0 (place_cost f id) (places_cost f ids)

embed_edge_cost : (c : Context) → Costs c.is_flat (embed_edge c ∷ []) 0
embed_edge_cost c = go c.is_flat
  where
    go : (t : Bool) → Costs c.is_flat ((if t then run_in c (space ∷ []) else edge) ∷ []) 0
    go true = blank_cost c.is_flat (space ∷ []) c.around c.is_code space_blank
    go false = edge_cost c.is_flat

pub embed_cost : (id : ℕ) (address title : List ℕ) (anchors : List (List ℕ)) (c : Context)
    → Costs c.is_flat (embed_parts id address title anchors c) (rep c.around + link_size address None)
embed_cost id address title anchors c =
    let d = inside_link id address None c in
    let i = link_inside id address None c in
    let k = rep c.around + link_size address None in
    at_most c.is_flat ((embed_edge c ∷ map place anchors) ++ run_in d title ∷ embed_edge c ∷ [])
    (0 + 0 + (rep d.around + 0)) k (omega (arith, i.room))
    (both c.is_flat (embed_edge c ∷ map place anchors) (run_in d title ∷ embed_edge c ∷ []) (0 + 0)
    (rep d.around + 0)
    (both c.is_flat (embed_edge c ∷ []) (map place anchors) 0 0 (embed_edge_cost c) (places_cost c.is_flat anchors))
    (both c.is_flat (run_in d title ∷ []) (embed_edge c ∷ []) (rep d.around) 0
    (run_cost c.is_flat title d.around d.is_code) (embed_edge_cost c)))

pub text_cost : (s : List ℕ) (c : Context)
    → Costs c.is_flat (run_in c s ∷ []) (rep c.around * (if is_blank_text s then 0 else 1) + 0)
text_cost s c = go (is_blank_text s) refl
  where
    go : (t : Bool) → is_blank_text s ≡ t
        → Costs c.is_flat (run_in c s ∷ []) (rep c.around * (if t then 0 else 1) + 0)
    go true e =
        at_most c.is_flat (run_in c s ∷ []) 0 (rep c.around * 0 + 0) (omega arith)
        (blank_cost c.is_flat s c.around c.is_code e)
    go false e =
        at_most c.is_flat (run_in c s ∷ []) (rep c.around) (rep c.around * 1 + 0) (omega arith)
        (run_cost c.is_flat s c.around c.is_code)

boxes_cost : (f : Bool) (attributes : List AttributePair) → Costs f (box_parts attributes) 0
boxes_cost f attributes = go (is_any_case (codes "checkbox") (text_of (codes "type") attributes))
  where
    go : (t : Bool) → Costs f (if t then box (has_attribute (codes "checked") attributes) ∷ [] else []) 0
    go true = box_cost f (has_attribute (codes "checked") attributes)
    go false = nothing f

-- ---- elements

-- what is known of what is in an element
pub record Known (e : Element) : Type 0 where
  pub fit : AllDue e.nodes
  pub paid : (k : ℕ) → dues k e.nodes ≤ due_among k e.content
  pub rows : RowsDue e.rows
  pub pieces : PiecesDue e.pieces
  pub pieced : (k : ℕ) → pieces_dues k e.pieces ≤ due_among k e.content
  pub lined : (k : ℕ) → captions_dues k e.nodes + rows_dues k e.rows ≤ due_among k e.content
  pub terms : TermsDue e.terms
  pub termed : (k : ℕ) → terms_dues k e.terms ≤ due_among k e.content

pub flow_in : (e : Element) (c d : Context) (k : ℕ) → Known e → Inside c d k
    → Costs c.is_flat (flow_all e.nodes d) (due_among k e.content)
flow_in e c d k h i =
    same_line c d (flow_all e.nodes d) (due_among k e.content) i.flat
    (at_most d.is_flat (flow_all e.nodes d) (dues (rep d.around) e.nodes) (due_among k e.content)
    (omega (arith, h.paid (rep d.around), among_grows (rep d.around) k e.content i.room)) (flow_cost e.nodes d h.fit))

apart_in : (e : Element) (c d : Context) (k : ℕ) → Known e → Inside c d k
    → Costs c.is_flat (apart (flow_all e.nodes d)) (due_among k e.content)
apart_in e c d k h i = apart_cost c.is_flat (flow_all e.nodes d) (due_among k e.content) (flow_in e c d k h i)

anchors_in : (e : Element) (c : Context) → Known e
    → Costs c.is_flat (anchors_apart e.nodes c) (due_among (rep c.around) e.content)
anchors_in e c h = go c.is_flat
  where
    go : (t : Bool)
        → Costs c.is_flat (if t then flow_all e.nodes c else apart (flow_all e.nodes c))
        (due_among (rep c.around) e.content)
    go true = flow_in e c c (rep c.around) h (here c)
    go false = apart_in e c c (rep c.around) h (here c)

around_in : (e : Element) (c : Context) → Known e
    → Costs c.is_flat ((run_in c (space ∷ []) ∷ flow_all e.nodes c) ++ run_in c (space ∷ []) ∷ [])
    (due_among (rep c.around) e.content)
around_in e c h =
    let s = run_in c (space ∷ []) ∷ [] in
    let k = due_among (rep c.around) e.content in
    let b = blank_cost c.is_flat (space ∷ []) c.around c.is_code space_blank in
    at_most c.is_flat ((s ++ flow_all e.nodes c) ++ s) (0 + k + 0) k (omega arith)
    (both c.is_flat (s ++ flow_all e.nodes c) s (0 + k) 0
    (both c.is_flat s (flow_all e.nodes c) 0 k b (flow_in e c c (rep c.around) h (here c))) b)

input_in : (e : Element) (c : Context) → Known e
    → Costs c.is_flat (box_parts e.attributes ++ flow_all e.nodes c) (due_among (rep c.around) e.content)
input_in e c h =
    let k = due_among (rep c.around) e.content in
    at_most c.is_flat (box_parts e.attributes ++ flow_all e.nodes c) (0 + k) k (omega arith)
    (both c.is_flat (box_parts e.attributes) (flow_all e.nodes c) 0 k (boxes_cost c.is_flat e.attributes)
    (flow_in e c c (rep c.around) h (here c)))

heading_of_cost : (f : Bool) (level : ℕ) (xs : Inlines) → Costs f (heading_of level xs) (debt_inlines xs)
heading_of_cost f level no_inlines = nothing f
heading_of_cost f level (inline x xs) = block_cost f (heading level (inline x xs))

heading_in : (level : ℕ) (e : Element) (c : Context) → Known e
    → Costs c.is_flat (heading_parts level e.facts e.nodes c) (due_among (rep c.around) e.content)
heading_in level e c h =
    apart_cost c.is_flat
    (if c.is_flat then flow_all e.nodes c else heading_of level (line_of (flow_all e.nodes d)))
    (due_among (rep c.around) e.content) (go c.is_flat)
  where
    d : Context
    d = in_one_line (around_heading e.facts c)

    k : ℕ
    k = due_among (rep c.around) e.content

    line : debt_inlines (line_of (flow_all e.nodes d)) ≤ k
    line =
        omega (
          arith,
          line_cost (flow_all e.nodes d) (dues (rep d.around) e.nodes) (flow_cost e.nodes d h.fit),
          h.paid (rep d.around),
          among_grows (rep d.around) (rep c.around) e.content (heading_inside e.facts c),
        )

    go : (t : Bool)
        → Costs c.is_flat (if t then flow_all e.nodes c else heading_of level (line_of (flow_all e.nodes d))) k
    go true = flow_in e c c (rep c.around) h (here c)
    go false =
        at_most c.is_flat (heading_of level (line_of (flow_all e.nodes d)))
        (debt_inlines (line_of (flow_all e.nodes d))) k line
        (heading_of_cost c.is_flat level (line_of (flow_all e.nodes d)))

quote_of_cost : (f : Bool) (bs : Blocks) → Costs f (quote_of bs) (debt bs)
quote_of_cost f no_blocks = nothing f
quote_of_cost f (block b bs) = block_cost f (quote (block b bs))

quote_in : (e : Element) (c : Context) → Known e
    → Costs c.is_flat (quote_parts e.nodes c) (due_among (rep c.around) e.content)
quote_in e c h =
    apart_cost c.is_flat
    (if is_lined c then flow_all e.nodes c else quote_of (blocks_of false (flow_all e.nodes (deeper c)))) k
    (go (is_lined c) refl)
  where
    k : ℕ
    k = due_among (rep c.around) e.content

    d : Context
    d = deeper c

    bs : Blocks
    bs = blocks_of false (flow_all e.nodes d)

    go : (t : Bool) → is_lined c ≡ t → Costs c.is_flat (if t then flow_all e.nodes c else quote_of bs) k
    go true g = flow_in e c c (rep c.around) h (here c)
    go false g =
        let i = not_flat c.is_flat (nat_le 32 c.nested) g in
        let j = blocks_cost false d.is_flat (flow_all e.nodes d) (dues (rep d.around) e.nodes) i
        (flow_cost e.nodes d h.fit) in
        at_most c.is_flat (quote_of bs) (debt bs) k (omega (arith, j, h.paid (rep c.around)))
        (quote_of_cost c.is_flat bs)

-- lines of code in one line, or a block
verbatim_cost : (attributes : List AttributePair) (content : Simples) (s : List ℕ) (c : Context)
    → Costs c.is_flat (text_in_lines attributes content s c) (rep c.around + 64)
verbatim_cost attributes content s c = go (is_blank_text s) c.is_flat refl
  where
    k : ℕ
    k = rep c.around + 64

    o : Option (List ℕ)
    o = language_of_block attributes (list_of content) c.near

    go : (t u : Bool) → c.is_flat ≡ u
        → Costs u
        (if t then edge ∷ []
        else (if u then edge ∷ code_parts (lines_of s) c.around
        else apart (whole (code_block o (without_last_line_feed s)) ∷ []))) (rep c.around + 64)
    go true u e = at_most u (edge ∷ []) 0 k (omega arith) (edge_cost u)
    go false true e =
        at_most true (edge ∷ code_parts (lines_of s) c.around) (0 + rep c.around) k (omega arith)
        (both true (edge ∷ []) (code_parts (lines_of s) c.around) 0 (rep c.around) (edge_cost true)
        (code_cost (lines_of s) c.around))
    go false false e =
        at_most false (apart (whole (code_block o (without_last_line_feed s)) ∷ [])) (size_of_option o) k
        (omega (arith, language_le attributes (list_of content) c.near))
        (apart_cost false (whole (code_block o (without_last_line_feed s)) ∷ []) (size_of_option o)
        (block_cost false (code_block o (without_last_line_feed s))))

-- what a link says, for each leaf in it
link_in : (e : Element) (c : Context) → Known e
    → Costs c.is_flat (flow_all e.nodes (linked_by e.id e.attributes c))
    (rep c.around * leaves_among e.content
    + (size role.Link e.attributes * leaves_among e.content + 0 + own_among e.content))
link_in e c h =
    let k = rep c.around in
    let d = linked_by e.id e.attributes c in
    at_most c.is_flat (flow_all e.nodes d) (due_among (k + size role.Link e.attributes) e.content)
    (k * leaves_among e.content + (size role.Link e.attributes * leaves_among e.content + 0 + own_among e.content))
    (omega (arith, add-mul k (size role.Link e.attributes) (leaves_among e.content)))
    (flow_in e c d (k + size role.Link e.attributes) h
    (link_inside e.id (address (text_of (codes "href") e.attributes)) (title_of e.attributes) c))

-- so does an abbreviation
abbreviation_in : (e : Element) (c : Context) → Known e
    → Costs c.is_flat (flow_all e.nodes (inside_title (title_of e.attributes) c))
    (rep c.around * leaves_among e.content
    + (size role.Abbreviation e.attributes * leaves_among e.content + 0 + own_among e.content))
abbreviation_in e c h =
    let k = rep c.around in
    let m = size role.Abbreviation e.attributes in
    let d = inside_title (title_of e.attributes) c in
    at_most c.is_flat (flow_all e.nodes d) (due_among (k + m) e.content)
    (k * leaves_among e.content + (m * leaves_among e.content + 0 + own_among e.content))
    (omega (arith, add-mul k m (leaves_among e.content)))
    (flow_in e c d (k + m) h (named_inside e.attributes c))

-- ---- elements of rich documents

title_in : (e : Element) (c : Context) → Known e
    → Costs c.is_flat (title_parts e c) (due_among (rep c.around) e.content)
title_in e c h = apart_in e c (around_title e.content c) (rep c.around) h (title_inside e.content c)

terms_in : (e : Element) (c : Context) → Known e
    → Costs c.is_flat (terms_by e.terms e.nodes c) (due_among (rep c.around) e.content)
terms_in e c h = go (has_elements c) refl
  where
    k : ℕ
    k = due_among (rep c.around) e.content

    go : (t : Bool) → has_elements c ≡ t
        → Costs c.is_flat (if t then described_parts e.terms c else term_parts e.terms e.nodes c) k
    go true g = described_cost e.terms c k (not_one_line c.is_rich c.is_flat g) h.terms (h.termed (rep c.around))
    go false g = terms_cost e.terms e.nodes c k h.terms h.fit (h.termed (rep c.around)) (h.paid (rep c.around))

table_in : (e : Element) (c : Context) → Known e
    → Costs c.is_flat (table_at e c) (due_among (rep c.around) e.content)
table_in e c h = go (has_elements c) refl
  where
    k : ℕ
    k = due_among (rep c.around) e.content

    trees : List Simple
    trees = list_of e.content

    go : (t : Bool) → has_elements c ≡ t
        → Costs c.is_flat (if t then rich_table_at e c else table_parts trees e.nodes e.rows c) k
    go true g =
        rich_table_cost trees e.attributes e.pieces e.nodes c k (not_one_line c.is_rich c.is_flat g) h.fit h.pieces
        (h.paid (rep c.around)) (h.pieced (rep c.around))
    go false g =
        table_cost trees e.nodes e.rows c k h.fit h.rows (h.paid (rep c.around)) (h.lined (rep c.around))

figure_in : (e : Element) (c : Context) → Known e
    → Costs c.is_flat (figure_at e c) (due_among (rep c.around) e.content)
figure_in e c h =
    let d = beside_code e.facts.pres e.attributes c in
    let i = near_inside e.facts.pres e.attributes c in
    same_line c d (figure_at e c) (due_among (rep c.around) e.content) i.flat
    (at_most d.is_flat (figure_at e c) (dues (rep d.around) e.nodes) (due_among (rep c.around) e.content)
    (omega (arith, h.paid (rep d.around), among_grows (rep d.around) (rep c.around) e.content i.room))
    (figure_cost e.nodes d h.fit))

details_in : (e : Element) (c : Context) → Known e
    → Costs c.is_flat (details_parts e.attributes e.nodes c) (due_among (rep c.around) e.content)
details_in e c h =
    at_most c.is_flat (details_parts e.attributes e.nodes c) (dues (rep c.around) e.nodes)
    (due_among (rep c.around) e.content) (h.paid (rep c.around)) (details_cost e.attributes e.nodes c h.fit)

-- all that an element gives, by its role
pub element_cost : (r : Role) (e : Element) (c : Context) → Known e
    → Costs c.is_flat (parts_of r e c)
    (rep c.around * (if roles.is_verbatim r then 1 else leaves_among e.content)
    + ((if is_carrying r then size r e.attributes * leaves_among e.content else 0)
    + (if roles.is_verbatim r then 64 else 0) + own_among e.content))
element_cost (role.Format f) e c h =
    at_most c.is_flat (parts_of (role.Format f) e c) (due_among (rep c.around) e.content)
    (rep c.around * leaves_among e.content + (0 + 0 + own_among e.content)) (omega arith)
    (flow_in e c (inside_format (of_format f) c) (rep c.around) h (marked_inside f c))
element_cost (role.Element f) e c h =
    at_most c.is_flat (parts_of (role.Element f) e c) (due_among (rep c.around) e.content)
    (rep c.around * leaves_among e.content + (0 + 0 + own_among e.content)) (omega arith)
    (flow_in e c (inside_format (of_element f) c) (rep c.around) h (element_inside f c))
element_cost role.Abbreviation e c h = abbreviation_in e c h
element_cost role.Code e c h =
    at_most c.is_flat (parts_of role.Code e c) (due_among (rep c.around) e.content)
    (rep c.around * leaves_among e.content + (0 + 0 + own_among e.content)) (omega arith)
    (flow_in e c (in_code c) (rep c.around) h (record { flat = refl; room = omega arith }))
element_cost role.Typed e c h =
    at_most c.is_flat (parts_of role.Typed e c) (due_among (rep c.around) e.content)
    (rep c.around * leaves_among e.content + (0 + 0 + own_among e.content)) (omega arith)
    (flow_in e c (in_code c) (rep c.around) h (record { flat = refl; room = omega arith }))
element_cost role.Link e c h =
    link_in e c h
element_cost role.Target e c h =
    at_most c.is_flat (parts_of role.Target e c) (due_among (rep c.around) e.content)
    (rep c.around * leaves_among e.content + (0 + 0 + own_among e.content)) (omega arith)
    (flow_in e c c (rep c.around) h (here c))
element_cost role.Apart e c h =
    at_most c.is_flat (parts_of role.Apart e c) (due_among (rep c.around) e.content)
    (rep c.around * leaves_among e.content + (0 + 0 + own_among e.content)) (omega arith)
    (around_in e c h)
element_cost role.LineBreak e c h =
    at_most c.is_flat (parts_of role.LineBreak e c) (due_among (rep c.around) e.content)
    (rep c.around * leaves_among e.content + (0 + 0 + own_among e.content)) (omega arith)
    (at_most c.is_flat (parts_of role.LineBreak e c) 0 (due_among (rep c.around) e.content) (omega arith)
    (break_cost c.is_flat))
element_cost role.Input e c h =
    at_most c.is_flat (parts_of role.Input e c) (due_among (rep c.around) e.content)
    (rep c.around * leaves_among e.content + (0 + 0 + own_among e.content)) (omega arith)
    (input_in e c h)
element_cost (role.Heading level) e c h =
    at_most c.is_flat (parts_of (role.Heading level) e c) (due_among (rep c.around) e.content)
    (rep c.around * leaves_among e.content + (0 + 0 + own_among e.content)) (omega arith)
    (heading_in level e c h)
element_cost role.Paragraph e c h =
    at_most c.is_flat (parts_of role.Paragraph e c) (due_among (rep c.around) e.content)
    (rep c.around * leaves_among e.content + (0 + 0 + own_among e.content)) (omega arith)
    (apart_in e c c (rep c.around) h (here c))
element_cost role.Preformatted e c h =
    at_most c.is_flat (parts_of role.Preformatted e c) (rep c.around + 64)
    (rep c.around * 1 + (0 + 64 + own_among e.content)) (omega arith)
    (verbatim_cost e.attributes e.content (with_line_feeds (all_text_among e.content)) c)
element_cost role.Verbatim e c h =
    at_most c.is_flat (parts_of role.Verbatim e c) (rep c.around + 64)
    (rep c.around * 1 + (0 + 64 + own_among e.content)) (omega arith)
    (verbatim_cost e.attributes e.content (with_line_feeds (all_text_among e.content)) c)
element_cost role.BlockQuote e c h =
    at_most c.is_flat (parts_of role.BlockQuote e c) (due_among (rep c.around) e.content)
    (rep c.around * leaves_among e.content + (0 + 0 + own_among e.content)) (omega arith)
    (quote_in e c h)
element_cost role.ThematicBreak e c h =
    at_most c.is_flat (parts_of role.ThematicBreak e c) (due_among (rep c.around) e.content)
    (rep c.around * leaves_among e.content + (0 + 0 + own_among e.content)) (omega arith)
    (at_most c.is_flat (parts_of role.ThematicBreak e c) 0 (due_among (rep c.around) e.content) (omega arith)
    (block_cost c.is_flat thematic_break))
element_cost role.BulletList e c h =
    at_most c.is_flat (parts_of role.BulletList e c) (due_among (rep c.around) e.content)
    (rep c.around * leaves_among e.content + (0 + 0 + own_among e.content)) (omega arith)
    (at_most c.is_flat (parts_of role.BulletList e c) (dues (rep c.around) e.nodes)
    (due_among (rep c.around) e.content) (h.paid (rep c.around))
    (list_cost_of None e.nodes c h.fit))
element_cost role.NumberedList e c h =
    at_most c.is_flat (parts_of role.NumberedList e c) (due_among (rep c.around) e.content)
    (rep c.around * leaves_among e.content + (0 + 0 + own_among e.content)) (omega arith)
    (at_most c.is_flat (parts_of role.NumberedList e c) (dues (rep c.around) e.nodes)
    (due_among (rep c.around) e.content) (h.paid (rep c.around))
    (list_cost_of (Some (start_of e.attributes)) e.nodes c h.fit))
element_cost role.Item e c h =
    at_most c.is_flat (parts_of role.Item e c) (due_among (rep c.around) e.content)
    (rep c.around * leaves_among e.content + (0 + 0 + own_among e.content)) (omega arith)
    (apart_in e c c (rep c.around) h (here c))
element_cost role.Terms e c h =
    at_most c.is_flat (parts_of role.Terms e c) (due_among (rep c.around) e.content)
    (rep c.around * leaves_among e.content + (0 + 0 + own_among e.content)) (omega arith) (terms_in e c h)
element_cost role.Term e c h =
    at_most c.is_flat (parts_of role.Term e c) (due_among (rep c.around) e.content)
    (rep c.around * leaves_among e.content + (0 + 0 + own_among e.content)) (omega arith) (title_in e c h)
element_cost role.Meaning e c h =
    at_most c.is_flat (parts_of role.Meaning e c) (due_among (rep c.around) e.content)
    (rep c.around * leaves_among e.content + (0 + 0 + own_among e.content)) (omega arith)
    (apart_in e c c (rep c.around) h (here c))
element_cost role.Table e c h =
    at_most c.is_flat (parts_of role.Table e c) (due_among (rep c.around) e.content)
    (rep c.around * leaves_among e.content + (0 + 0 + own_among e.content)) (omega arith) (table_in e c h)
element_cost role.LayoutTable e c h =
    at_most c.is_flat (parts_of role.LayoutTable e c) (due_among (rep c.around) e.content)
    (rep c.around * leaves_among e.content + (0 + 0 + own_among e.content)) (omega arith)
    (apart_in e c c (rep c.around) h (here c))
element_cost role.Caption e c h =
    at_most c.is_flat (parts_of role.Caption e c) (due_among (rep c.around) e.content)
    (rep c.around * leaves_among e.content + (0 + 0 + own_among e.content)) (omega arith) (title_in e c h)
element_cost role.TableHead e c h =
    at_most c.is_flat (parts_of role.TableHead e c) (due_among (rep c.around) e.content)
    (rep c.around * leaves_among e.content + (0 + 0 + own_among e.content)) (omega arith)
    (apart_in e c c (rep c.around) h (here c))
element_cost role.TableBody e c h =
    at_most c.is_flat (parts_of role.TableBody e c) (due_among (rep c.around) e.content)
    (rep c.around * leaves_among e.content + (0 + 0 + own_among e.content)) (omega arith)
    (apart_in e c c (rep c.around) h (here c))
element_cost role.Row e c h =
    at_most c.is_flat (parts_of role.Row e c) (due_among (rep c.around) e.content)
    (rep c.around * leaves_among e.content + (0 + 0 + own_among e.content)) (omega arith)
    (apart_in e c c (rep c.around) h (here c))
element_cost role.Cell e c h =
    at_most c.is_flat (parts_of role.Cell e c) (due_among (rep c.around) e.content)
    (rep c.around * leaves_among e.content + (0 + 0 + own_among e.content)) (omega arith)
    (apart_in e c (beside_code e.facts.pres e.attributes c) (rep c.around) h (near_inside e.facts.pres e.attributes c))
element_cost role.HeaderCell e c h =
    at_most c.is_flat (parts_of role.HeaderCell e c) (due_among (rep c.around) e.content)
    (rep c.around * leaves_among e.content + (0 + 0 + own_among e.content)) (omega arith)
    (apart_in e c c (rep c.around) h (here c))
element_cost role.Division e c h =
    at_most c.is_flat (parts_of role.Division e c) (due_among (rep c.around) e.content)
    (rep c.around * leaves_among e.content + (0 + 0 + own_among e.content)) (omega arith)
    (apart_in e c (beside_code e.facts.pres e.attributes c) (rep c.around) h (near_inside e.facts.pres e.attributes c))
element_cost role.Figure e c h =
    at_most c.is_flat (parts_of role.Figure e c) (due_among (rep c.around) e.content)
    (rep c.around * leaves_among e.content + (0 + 0 + own_among e.content)) (omega arith) (figure_in e c h)
element_cost role.FigureCaption e c h =
    at_most c.is_flat (parts_of role.FigureCaption e c) (due_among (rep c.around) e.content)
    (rep c.around * leaves_among e.content + (0 + 0 + own_among e.content)) (omega arith) (title_in e c h)
element_cost role.Details e c h =
    at_most c.is_flat (parts_of role.Details e c) (due_among (rep c.around) e.content)
    (rep c.around * leaves_among e.content + (0 + 0 + own_among e.content)) (omega arith) (details_in e c h)
element_cost role.Summary e c h =
    at_most c.is_flat (parts_of role.Summary e c) (due_among (rep c.around) e.content)
    (rep c.around * leaves_among e.content + (0 + 0 + own_among e.content)) (omega arith) (title_in e c h)
element_cost role.Legend e c h =
    at_most c.is_flat (parts_of role.Legend e c) (due_among (rep c.around) e.content)
    (rep c.around * leaves_among e.content + (0 + 0 + own_among e.content)) (omega arith)
    (apart_in e c c (rep c.around) h (here c))
element_cost role.Block e c h =
    at_most c.is_flat (parts_of role.Block e c) (due_among (rep c.around) e.content)
    (rep c.around * leaves_among e.content + (0 + 0 + own_among e.content)) (omega arith)
    (apart_in e c c (rep c.around) h (here c))
element_cost role.Plain e c h =
    at_most c.is_flat (parts_of role.Plain e c) (due_among (rep c.around) e.content)
    (rep c.around * leaves_among e.content + (0 + 0 + own_among e.content)) (omega arith)
    (flow_in e c c (rep c.around) h (here c))
element_cost role.Anchors e c h =
    at_most c.is_flat (parts_of role.Anchors e c) (due_among (rep c.around) e.content)
    (rep c.around * leaves_among e.content + (0 + 0 + own_among e.content)) (omega arith)
    (anchors_in e c h)
element_cost role.Unlinked e c h =
    at_most c.is_flat (parts_of role.Unlinked e c) (due_among (rep c.around) e.content)
    (rep c.around * leaves_among e.content + (0 + 0 + own_among e.content)) (omega arith)
    (flow_in e c (unlinked c) (rep c.around) h (unlinked_inside c))

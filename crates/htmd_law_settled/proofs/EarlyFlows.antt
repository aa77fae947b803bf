-- In one line nodes in which anchors come before all that shows give such parts.
use Rattle.std.proofs.Common.{◌≡◌, ℕ, zero, suc, ◌+◌, Bool, true, false, cond, not, ◌&&◌, ◌||◌, List, [], ◌∷◌, ◌++◌}
use Rattle.std.proofs.Common.{refl, sym, ap}
use Rattle.std.proofs.Common.{◌∙◌, subst, map, take, drop, filter, arith, Option, Some, None}
use Rattle.std.specs.Prelude.{codes, is_some, ℤ, nat_le}
use Rattle.std.specs.List.{list_any, list_all, flat_map, prefix_len}
use Rattle.std.specs.Str.{chars}
use Rattle.std.proofs.lemmas.Bool.{false≢true, true≢false, and_parts}
use Rattle.htmd_lexical.specs.AttributePairs.{AttributePair}
use Rattle.htmd_lexical.specs.Characters.{space}
use Rattle.std.proofs.lemmas.List.{append_assoc}
use Rattle.std.proofs.lemmas.Grind.{flat_map-append}
use Rattle.htmd_lexical.proofs.Cases.{test}
use Rattle.htmd_document.specs.DocumentLimits.{most_nested}
use Rattle.htmd_document.specs.Documents.{code_block}
use Rattle.htmd_document.specs.declared.document.BlockElement.TheVariants as name
use Rattle.htmd_document.specs.Formats.{Format, of_format, of_element, Abbreviation}
use Rattle.htmd_flow.specs.Contexts.{Context, with_around, is_enough, is_link, inside_format, inside_title, inside_link}
use Rattle.htmd_flow.specs.Contexts.{is_lined, in_code, unlinked, beside_code, has_elements, is_linked_to_part, run_in}
use Rattle.htmd_flow.specs.Contexts.{apart}
use Rattle.htmd_flow.specs.Flows.{Node, Row, Element, flow_all, flow_after, each_whole, is_item, goes_on}
use Rattle.htmd_flow.specs.Flows.{items_in_a_row, list_parts, term_parts, image_parts, formula_parts, embed_parts}
use Rattle.htmd_flow.specs.Flows.{box_parts, linked_by, code_parts, verbatim_parts, parts_of}
use Rattle.htmd_flow.specs.Flows.{around_title, is_grid, caption_in_one_line, captions_in_one_line, cell_in_one_line}
use Rattle.htmd_flow.specs.Flows.{row_in_one_line, rows_in_one_line, before_row, grid_in_one_line, table_parts}
use Rattle.htmd_flow.specs.Flows.{node_of, nodes_of, rows_among, rows_at, terms_of, pieces_of, no_part, part_of}
use Rattle.htmd_flow.specs.Flows.{is_cell}
use Rattle.htmd_flow.specs.Flows.{row_with, start_of, math_block, math_in_line, grid_inside, is_grid_by, line_of}
use Rattle.htmd_flow.specs.Flows.{element_part, open_attribute, blocks_of, titled, captioned, described_parts}
use Rattle.htmd_flow.specs.Flows.{rich_table_at}
use Rattle.htmd_flow.specs.Languages.{language_of_block}
use Rattle.htmd_flow.specs.Levels.{list_of}
use Rattle.htmd_flow.specs.Parts.{Around, linked, formatted, Part, run, picture, break, place, box, edge, whole}
use Rattle.htmd_flow.specs.Tables.{is_no_row, is_no_caption, from_caption, has_captions_around}
use Rattle.htmd_flow.specs.Tables.{holds_table_alone, layout_by_cells, has_head, cells_in}
use Rattle.htmd_flow.specs.declared.table_form.Layout.TheVariants as layout
use Rattle.htmd_flow.specs.declared.table_form.TablePart.{TablePart}
use Rattle.htmd_shown.specs.declared.facts.Facts.{Facts}
use Rattle.htmd_shown.specs.declared.role.Role.{Role}
use Rattle.htmd_shown.specs.declared.role.Role.TheVariants as role
use Rattle.htmd_shown.specs.AllTexts.{all_text_among, with_line_feeds, lines_of, image_text}
use Rattle.htmd_shown.specs.AllTexts.{without_last_line_feed}
use Rattle.htmd_shown.specs.Attributes.{text_of, title_of, description_of, is_filled, is_any_case, has_attribute}
use Rattle.htmd_shown.specs.Attributes.{address}
use Rattle.htmd_shown.specs.Kinds.{has}
use Rattle.htmd_shown.specs.Roles as roles
use Rattle.htmd_shown.specs.Showings.{code_shows, image_shows, shows, show, show_usual_sign}
use Rattle.htmd_shown.specs.SimpleTrees.{Simple, text, image, formula, embedded, anchor, element, Simples, none, more}
use Rattle.htmd_shown.specs.Spaces.{is_blank_text}
use Rattle.htmd_law_documents.specs.SimpleForms.{IsSound, AreSound}
use Rattle.htmd_law_documents.proofs.NormalFilledLemmas.{is_showing}
use Rattle.htmd_law_documents.proofs.NormalSeenElementLemmas.{blank-line}
use Rattle.htmd_law_documents.proofs.NormalSeenLemmas.{or-none, or-true, or-more}
use Rattle.htmd_law_documents.proofs.WrapperTableLemmas.{node-tree}
use Rattle.htmd_law_returning.specs.LastingAnchors.{heading_keeps}
use Rattle.htmd_law_settled.specs.Leaves.{Leaves}
use Rattle.htmd_law_settled.proofs.EarlyLines.{IsEarly, Leads, early-line}
use Rattle.htmd_law_settled.proofs.EarlyTrees.{Early, AllEarly}
use Rattle.htmd_law_settled.proofs.LeafElements.{HasCode, HasTree, HaveTrees}
use lib.Utf8.{encode}

-- ---- parts

early-less : (b c : Bool) (p : Part) → (b ≡ true → c ≡ true) → IsEarly c p → IsEarly b p
early-less b c (run s around is_code) f h = tt
early-less b c (picture address title description around) f h = tt
early-less b c break f h = tt
early-less true c (place id) f h = absurd (false≢true (sym h ∙ f refl))
early-less false c (place id) f h = refl
early-less b c (box is_checked) f h = tt
early-less b c edge f h = tt
early-less b c (whole x) f h = tt

or-less : (b c s : Bool) → (b ≡ true → c ≡ true) → (b || s) ≡ true → (c || s) ≡ true
or-less true c s f e = ap (λ x. x || s) (f refl)
or-less false true s f e = refl
or-less false false s f e = e

leads-less : (b c d : Bool) (ps : List Part) → (b ≡ true → c ≡ true) → Leads c d ps → Leads b d ps
leads-less b c d [] f h = λ e. h (f e)
leads-less b c d (p ∷ ps) f h = (
  early-less b c p f h.0,
  leads-less (b || is_showing true p) (c || is_showing true p) d ps (or-less b c (is_showing true p) f) h.1,
)

leads-both : (b c d : Bool) (ps qs : List Part) → Leads b c ps → Leads c d qs → Leads b d (ps ++ qs)
leads-both b c d [] qs g h = leads-less b c d qs g h
leads-both b c d (p ∷ ps) qs g h = (g.0, leads-both (b || is_showing true p) c d ps qs g.1 h)

none-less : (b : Bool) → (b || false) ≡ true → b ≡ true
none-less b e = sym (or-none b) ∙ e

leads-edge : (b c : Bool) (ps : List Part) → Leads b c ps → Leads b c (edge ∷ ps)
leads-edge b c ps h = (tt, leads-less (b || false) b c ps (none-less b) h)

one-edge : (b : Bool) → Leads b b (edge ∷ [])
one-edge b = (tt, none-less b)

leads-apart : (b c : Bool) (ps : List Part) → Leads b c ps → Leads b c (apart ps)
leads-apart b c ps h = leads-edge b c (ps ++ edge ∷ []) (leads-both b c c ps (edge ∷ []) h (one-edge c))

leads-either : (x : Bool) (b c : Bool) (ps qs : List Part) → Leads b c ps → Leads b c qs
    → Leads b c (cond x ps qs)
leads-either true b c ps qs g h = g
leads-either false b c ps qs g h = h

space-blank : is_blank_text (space ∷ []) ≡ true
unfolding chars encode
space-blank = refl

one-space : (b : Bool) (around : List Around) (is_code : Bool) → Leads b b (run (space ∷ []) around is_code ∷ [])
one-space b around is_code =
    (tt, λ e. none-less b (sym (ap (λ x. b || not x) space-blank) ∙ e))

-- parts in one line
abbrev pub LeadsIn : Bool → Bool → (Context → List Part) → Type 0
LeadsIn b c parts = (x : Context) → x.is_flat ≡ true → Leads b c (parts x)

-- ---- what is around

either-flat : (b : Bool) (x y : Context) → x.is_flat ≡ true → y.is_flat ≡ true → (cond b x y).is_flat ≡ true
either-flat true x y g h = g
either-flat false x y g h = h

format-flat : (g : Format) (x : Context) → x.is_flat ≡ true → (inside_format g x).is_flat ≡ true
format-flat g x e = either-flat (is_enough g x.around) x (with_around x (formatted g)) e e

title-flat : (o : Option (List ℕ)) (x : Context) → x.is_flat ≡ true → (inside_title o x).is_flat ≡ true
title-flat None x e = e
title-flat (Some s) x e = format-flat (Abbreviation s) x e

link-flat : (id : ℕ) (s : List ℕ) (o : Option (List ℕ)) (x : Context) → x.is_flat ≡ true
    → (inside_link id s o x).is_flat ≡ true
link-flat id s o x e = either-flat (list_any is_link x.around) x (with_around x (linked id s o)) e e

beside-flat : (n : ℕ) (attributes : List AttributePair) (x : Context) → x.is_flat ≡ true
    → (beside_code n attributes x).is_flat ≡ true
beside-flat zero attributes x e = e
beside-flat (suc zero) attributes x e = e
beside-flat (suc (suc n)) attributes x e = e

around-flat : (content : Simples) (x : Context) → x.is_flat ≡ true → (around_title content x).is_flat ≡ true
around-flat content x e =
    either-flat (has_elements x && is_linked_to_part x && show_usual_sign content) (unlinked x) x e e

-- ---- nodes

pub record EarlyNode (b c : Bool) (n : Node) : Type 0 where
  pub node : LeadsIn b c n.whole
  pub caption : has roles.is_caption n.tree ≡ true → LeadsIn b c n.content
  pub cell : has roles.is_cell n.tree ≡ true → LeadsIn b c n.content
  pub grows : b ≡ true → c ≡ true

abbrev pub Chain : Bool → Bool → List Node → Type 0
Chain b c [] = b ≡ true → c ≡ true
Chain b c (n ∷ nodes) = (m : Bool) × EarlyNode b m n × Chain m c nodes

-- what follows each other, and items before others
record Halves (b c : Bool) (ps qs : List Part) : Type 0 where
  between : Bool
  first : Leads b between ps
  second : Leads between c qs

-- in one line a list is its items
list-leads : (o : Option ℤ) (b c : Bool) (nodes : List Node) (x : Context) → x.is_flat ≡ true
    → Leads b c (each_whole nodes x) → Leads b c (list_parts o nodes x)
list-leads o b c nodes x e h = rw e (leads-apart b c (each_whole nodes x) h)

each-leads : (b c : Bool) (nodes : List Node) → Chain b c nodes → LeadsIn b c (each_whole nodes)
each-leads b c [] h x e = h
each-leads b c (n ∷ nodes) h x e =
    leads-both b h.0 c (n.whole x) (each_whole nodes x) (h.1.node x e) (each-leads h.0 c nodes h.2 x e)

mutual
  pub flow-leads : (b c : Bool) (nodes : List Node) → Chain b c nodes → LeadsIn b c (flow_all nodes)
  flow-leads b c [] h x e = h
  flow-leads b c (n ∷ nodes) h x e =
      by (is_item n) (row-leads h.0 c nodes h.2 x e) (flow-leads h.0 c nodes h.2 x e)
    where
      row : List Part
      row = each_whole (items_in_a_row nodes) x

      by : (y : Bool) → Halves h.0 c row (flow_after nodes x) → Leads h.0 c (flow_all nodes x)
          → Leads b c (cond y (list_parts None (n ∷ items_in_a_row nodes) x ++ flow_after nodes x)
          (n.whole x ++ flow_all nodes x))
      by true g k =
          leads-both b g.between c (list_parts None (n ∷ items_in_a_row nodes) x) (flow_after nodes x)
          (list-leads None b g.between (n ∷ items_in_a_row nodes) x e
          (leads-both b h.0 g.between (n.whole x) row (h.1.node x e) g.first)) g.second
      by false g k = leads-both b h.0 c (n.whole x) (flow_all nodes x) (h.1.node x e) k

  row-leads : (b c : Bool) (nodes : List Node) → Chain b c nodes → (x : Context) → x.is_flat ≡ true
      → Halves b c (each_whole (items_in_a_row nodes) x) (flow_after nodes x)
  row-leads b c [] h x e = record { between = b; first = λ q. q; second = h }
  row-leads b c (n ∷ nodes) h x e =
      by (goes_on n) (row-leads h.0 c nodes h.2 x e) (flow-leads h.0 c nodes h.2 x e)
    where
      by : (y : Bool) → Halves h.0 c (each_whole (items_in_a_row nodes) x) (flow_after nodes x)
          → Leads h.0 c (flow_all nodes x)
          → Halves b c (each_whole (cond y (n ∷ items_in_a_row nodes) []) x)
          (cond y (flow_after nodes x) (n.whole x ++ flow_all nodes x))
      by true g k = record {
        between = g.between;
        first = leads-both b h.0 g.between (n.whole x) (each_whole (items_in_a_row nodes) x) (h.1.node x e) g.first;
        second = g.second;
      }
      by false g k = record {
        between = b;
        first = λ q. q;
        second = leads-both b h.0 c (n.whole x) (flow_all nodes x) (h.1.node x e) k;
      }

-- ---- tables

caption-leads : (b c : Bool) (n : Node) → EarlyNode b c n → LeadsIn b c (λ x. caption_in_one_line x n)
caption-leads b c n h x e = one (has roles.is_caption n.tree) refl
  where
    one : (y : Bool) → has roles.is_caption n.tree ≡ y → Leads b c (cond y (n.content x ++ edge ∷ []) [])
    one true f = leads-both b c c (n.content x) (edge ∷ []) (h.caption f x e) (one-edge c)
    one false f = h.grows

captions-lead : (b c : Bool) (nodes : List Node) → Chain b c nodes → LeadsIn b c (captions_in_one_line nodes)
captions-lead b c [] h x e = h
captions-lead b c (n ∷ nodes) h x e =
    leads-both b h.0 c (caption_in_one_line x n) (captions_in_one_line nodes x) (caption-leads b h.0 n h.1 x e)
    (captions-lead h.0 c nodes h.2 x e)

cells-lead : (b c : Bool) (nodes : List Node) → Chain b c nodes
    → LeadsIn b c (λ x. flat_map (cell_in_one_line x) (filter is_cell nodes))
cells-lead b c [] h x e = h
cells-lead b c (n ∷ nodes) h x e = by (is_cell n) refl (cells-lead h.0 c nodes h.2 x e)
  where
    by : (y : Bool) → is_cell n ≡ y → Leads h.0 c (flat_map (cell_in_one_line x) (filter is_cell nodes))
        → Leads b c (flat_map (cell_in_one_line x) (cond y (n ∷ filter is_cell nodes) (filter is_cell nodes)))
    by true f k =
        leads-both b h.0 c (cell_in_one_line x n) (flat_map (cell_in_one_line x) (filter is_cell nodes))
        (leads-both b h.0 h.0 (n.content x) (run (space ∷ []) x.around false ∷ []) (h.1.cell f x e)
        (one-space h.0 x.around false)) k
    by false f k =
        leads-less b h.0 c (flat_map (cell_in_one_line x) (filter is_cell nodes)) h.1.grows k

one-row : (p : TablePart) (b c : Bool) (nodes : List Node) → Chain b c nodes
    → LeadsIn b c (rows_in_one_line (row_with p nodes))
one-row p b c nodes h x e =
    let cells : List Part = flat_map (cell_in_one_line x) (filter is_cell nodes) in
    leads-both b c c (cells ++ edge ∷ []) []
    (leads-both b c c cells (edge ∷ []) (cells-lead b c nodes h x e) (one-edge c)) (λ q. q)

pub rows-both : (rs ss : List Row) (b m c : Bool) (x : Context) → Leads b m (rows_in_one_line rs x)
    → Leads m c (rows_in_one_line ss x) → Leads b c (rows_in_one_line (rs ++ ss) x)
rows-both [] ss b m c x g h = leads-less b m c (rows_in_one_line ss x) g h
rows-both (r ∷ rs) ss b m c x g h = split (λ d k. rows-both rs ss d m c x k h) (row_in_one_line x r) b g
  where
    split : ((d : Bool) → Leads d m (rows_in_one_line rs x) → Leads d c (rows_in_one_line (rs ++ ss) x))
        → (ps : List Part) (d : Bool) → Leads d m (ps ++ rows_in_one_line rs x)
        → Leads d c (ps ++ rows_in_one_line (rs ++ ss) x)
    split next [] d k = next d k
    split next (p ∷ ps) d k = (k.0, split next ps (d || is_showing true p) k.1)

no-rows : (t : Simple) → is_no_row t ≡ true → rows_at no_part t ≡ []
unfolding node_of
no-rows (element id role.Row facts attributes content) h = absurd (false≢true h)
no-rows (element id role.TableHead facts attributes content) h = absurd (false≢true h)
no-rows (element id role.TableBody facts attributes content) h = absurd (false≢true h)
no-rows (element id r facts attributes content) h = refl
no-rows (text s) h = refl
no-rows (image o attributes) h = refl
no-rows (formula tex is_alone attributes) h = refl
no-rows (embedded id s title attributes ids) h = refl
no-rows (anchor id) h = refl

all-no-rows : (ts : Simples) → list_all is_no_row (list_of ts) ≡ true → rows_among no_part ts ≡ []
unfolding node_of
all-no-rows none f = refl
all-no-rows (more t ts) f =
    let p = and_parts (is_no_row t) (list_all is_no_row (list_of ts)) f in
    ap (λ rs. rs ++ rows_among no_part ts) (no-rows t p.0) ∙ all-no-rows ts p.1

-- nodes with the rows that they are
abbrev pub RowChain : Bool → Bool → Simples → Type 0
RowChain b c none = b ≡ true → c ≡ true
RowChain b c (more t ts) =
    (m : Bool) × EarlyNode b m (node_of t) × LeadsIn b m (rows_in_one_line (rows_at no_part t)) × RowChain m c ts

node-chain : (b c : Bool) (ts : Simples) → RowChain b c ts → Chain b c (nodes_of ts)
unfolding node_of
node-chain b c none h = h
node-chain b c (more t ts) h = (h.0, h.1, node-chain h.0 c ts h.3)

one_more : (n : ℕ) → 1 + n ≡ suc n
one_more n = omega arith

module _ (x : Context) (flat : x.is_flat ≡ true) where
  -- rows, and captions behind them
  behind-lead : (b c : Bool) (ts : Simples) → RowChain b c ts
      → list_all is_no_row (from_caption (list_of ts)) ≡ true
      → Leads b c (rows_in_one_line (rows_among no_part ts) x ++ captions_in_one_line (nodes_of ts) x)
  unfolding node_of
  behind-lead b c none h f = h
  behind-lead b c (more t ts) h f =
      let all : List Simple = t ∷ list_of ts in
      let k : ℕ = prefix_len is_no_caption (list_of ts) in
      let n : Node = node_of t in
      let kind : has roles.is_caption n.tree ≡ has roles.is_caption t = ap (has roles.is_caption) (node-tree t) in
      test (has roles.is_caption t)
      (λ e.
      let none_left = all-no-rows (more t ts)
      (sym (ap (λ y. list_all is_no_row (drop (cond (not y) (1 + k) 0) all)) e) ∙ f) in
      subst (λ (rs : List Row). Leads b c (rows_in_one_line rs x ++ captions_in_one_line (n ∷ nodes_of ts) x))
      (sym none_left) (captions-lead b c (n ∷ nodes_of ts) (node-chain b c (more t ts) h) x flat))
      (λ e.
      let rest = behind-lead h.0 c ts h.3
      (sym (ap (λ y. list_all is_no_row (drop (cond (not y) (1 + k) 0) all)) e
      ∙ ap (λ m. list_all is_no_row (drop m all)) (one_more k)) ∙ f) in
      let rows : List Part = rows_in_one_line (rows_at no_part t) x in
      let more_rows : List Part = rows_in_one_line (rows_among no_part ts) x in
      let last : List Part = captions_in_one_line (nodes_of ts) x in
      subst (λ (y : Bool). Leads b c (rows_in_one_line (rows_at no_part t ++ rows_among no_part ts) x
      ++ (cond y (n.content x ++ edge ∷ []) [] ++ last))) (sym (kind ∙ e))
      (subst (λ (ps : List Part). Leads b c (ps ++ last))
      (sym (flat_map-append (row_in_one_line x) (rows_at no_part t) (rows_among no_part ts)))
      (subst (λ (ps : List Part). Leads b c ps) (sym (append_assoc rows more_rows last))
      (leads-both b h.0 c rows (more_rows ++ last) (h.2 x flat) rest))))

  abbrev GridLeads : Bool → Bool → Simples → ℕ → Type 0
  GridLeads b c ts n =
      Leads b c ((captions_in_one_line (take n (nodes_of ts)) x ++ rows_in_one_line (rows_among no_part ts) x)
      ++ captions_in_one_line (drop n (nodes_of ts)) x)

  -- a caption before them
  front-more : (b c : Bool) (t : Simple) (ts : Simples) (n : ℕ) → (h : RowChain b c (more t ts))
      → is_no_row t ≡ true → GridLeads h.0 c ts n → GridLeads b c (more t ts) (suc n)
  unfolding node_of
  front-more b c t ts n h e g =
      let one : List Part = caption_in_one_line x (node_of t) in
      let first : List Part = captions_in_one_line (take n (nodes_of ts)) x in
      let rows : List Part = rows_in_one_line (rows_among no_part ts) x in
      let last : List Part = captions_in_one_line (drop n (nodes_of ts)) x in
      subst (λ (rs : List Row). Leads b c
      (((one ++ first) ++ rows_in_one_line (rs ++ rows_among no_part ts) x) ++ last))
      (sym (no-rows t e))
      (subst (λ (ps : List Part). Leads b c (ps ++ last)) (sym (append_assoc one first rows))
      (subst (λ (ps : List Part). Leads b c ps) (sym (append_assoc one (first ++ rows) last))
      (leads-both b h.0 c one ((first ++ rows) ++ last)
      (caption-leads b h.0 (node_of t) h.1 x flat) g)))

  front-lead : (b c : Bool) (ts : Simples) → RowChain b c ts → has_captions_around (list_of ts) ≡ true
      → GridLeads b c ts (before_row (nodes_of ts))
  unfolding node_of
  front-lead b c none h f = h
  front-lead b c (more t ts) h f =
      let all : List Simple = t ∷ list_of ts in
      let k : ℕ = prefix_len is_no_row (list_of ts) in
      let m : ℕ = before_row (nodes_of ts) in
      let kind : is_no_row (node_of t).tree ≡ is_no_row t = ap is_no_row (node-tree t) in
      test (is_no_row t)
      (λ e.
      let rest = front-lead h.0 c ts h.3
      (sym (ap (λ y. list_all is_no_row (from_caption (drop (cond y (1 + k) 0) all))) e
      ∙ ap (λ j. list_all is_no_row (from_caption (drop j all))) (one_more k)) ∙ f) in
      subst (GridLeads b c (more t ts)) (sym (ap (λ y. cond y (1 + m) 0) (kind ∙ e) ∙ one_more m))
      (front-more b c t ts m h e rest))
      (λ e.
      subst (GridLeads b c (more t ts)) (sym (ap (λ y. cond y (1 + m) 0) (kind ∙ e)))
      (behind-lead b c (more t ts) h
      (sym (ap (λ y. list_all is_no_row (from_caption (drop (cond y (1 + k) 0) all))) e) ∙ f)))

-- a table of rows and columns has captions around its rows
grid-around : (ts : List Simple) (rows : List Row) → is_grid ts rows ≡ true → has_captions_around ts ≡ true
grid-around ts rows e =
    test (has_captions_around ts) (λ h. h)
    (λ h. absurd (false≢true (sym (ap (λ b. is_grid_by
    (cond (b && holds_table_alone false ts) (layout_by_cells (has_head ts) (cells_in ts)) layout.Page) rows) h) ∙ e)))

table-leads : (b c : Bool) (ts : Simples) → RowChain b c ts
    → LeadsIn b c (table_parts (list_of ts) (nodes_of ts) (rows_among no_part ts))
table-leads b c ts h x e = by (is_grid (list_of ts) rows) refl
  where
    nodes : List Node
    nodes = nodes_of ts

    rows : List Row
    rows = rows_among no_part ts

    inside : (y : Bool) → y ≡ true → Leads b c (grid_in_one_line nodes rows x)
        → Leads b c (cond y (grid_in_one_line nodes rows x) (grid_inside nodes rows x))
    inside true f k = k
    inside false f k = absurd (false≢true f)

    by : (y : Bool) → is_grid (list_of ts) rows ≡ y
        → Leads b c (cond y (edge ∷ cond x.is_flat (grid_in_one_line nodes rows x) (grid_inside nodes rows x))
        (apart (flow_all nodes x)))
    by true f =
        leads-edge b c (cond x.is_flat (grid_in_one_line nodes rows x) (grid_inside nodes rows x))
        (inside x.is_flat e (front-lead x e b c ts h (grid-around (list_of ts) rows f)))
    by false f = leads-apart b c (flow_all nodes x) (flow-leads b c nodes (node-chain b c ts h) x e)

-- ---- leaves

no-elements : (x : Context) → x.is_flat ≡ true → has_elements x ≡ false
no-elements x f = by x.is_rich x.is_flat f
  where
    by : (y z : Bool) → z ≡ true → (y && not z) ≡ false
    by true z e = ap not e
    by false z e = refl

run-leads : (b : Bool) (s : List ℕ) (around : List Around) (is_code : Bool)
    → Leads b (b || not (is_blank_text s)) (run s around is_code ∷ [])
run-leads b s around is_code = (tt, λ e. e)

image-leads : (b : Bool) (o : Option (List ℕ)) (attributes : List AttributePair)
    → IsSound (image o attributes) → LeadsIn b (b || image_shows o attributes) (image_parts o attributes)
image-leads b (Some s) attributes u x e = (tt, λ q. q)
image-leads b None attributes u x e =
    let alt : List ℕ = text_of (codes "alt") attributes in
    let d : List ℕ = description_of attributes in
    let c : Bool = b || not (is_blank_text (image_text attributes)) in
    leads-either (is_filled d) b c (run_in x d ∷ []) []
    (tt, λ q. sym (ap (λ y. b || not y) (blank-line alt u)) ∙ q)
    (λ q. ap (λ y. y || not (is_blank_text (image_text attributes))) q)

formula-leads : (b : Bool) (tex : List ℕ) (is_alone : Bool) → LeadsIn b (b || true) (formula_parts tex is_alone)
formula-leads b tex is_alone x e = in_line_alone is_alone x.is_flat e
  where
    line : Leads b (b || true) (math_in_line tex x)
    line = (tt, (tt, (tt, λ q. or-true b)))

    in_line_alone : (y z : Bool) → z ≡ true
        → Leads b (b || true) (cond (y && not z) (apart (whole (math_block tex) ∷ [])) (math_in_line tex x))
    in_line_alone true true f = line
    in_line_alone false true f = line
    in_line_alone y false f = absurd (false≢true f)

places-lead : (b c : Bool) (ids : List (List ℕ)) (ps : List Part) → (b ≡ true → ids ≡ []) → Leads b c ps
    → Leads b c (map place ids ++ ps)
places-lead b c [] ps e h = h
places-lead true c (id ∷ ids) ps e h = absurd (some (e refl))
  where
    some : id ∷ ids ≡ [] → ⊥
    some q = cc
places-lead false c (id ∷ ids) ps e h = (refl, places-lead false c ids ps (λ q. absurd (false≢true q)) h)

embed-leads : (b : Bool) (id : ℕ) (s title : List ℕ) (ids : List (List ℕ)) → (b ≡ true → ids ≡ [])
    → LeadsIn b (b || true) (embed_parts id s title ids)
embed-leads b id s title ids early x e = by x.is_flat e
  where
    one : Part
    one = run_in x (space ∷ [])

    rest : List Part
    rest = map place ids ++ run_in (inside_link id s None x) title ∷ one ∷ []

    inner : Leads b (b || true) rest
    inner =
        places-lead b (b || true) ids (run_in (inside_link id s None x) title ∷ one ∷ []) early
        (tt, (tt, λ q. or-true b))

    by : (y : Bool) → y ≡ true
        → Leads b (b || true) ((cond y one edge ∷ map place ids)
        ++ run_in (inside_link id s None x) title ∷ cond y one edge ∷ [])
    by true f = leads-both b b (b || true) (one ∷ []) rest (one-space b x.around x.is_code) inner
    by false f = absurd (false≢true f)

code-leads : (lines : List (List ℕ)) (around : List Around) (b c : Bool) → c ≡ true
    → Leads b c (code_parts lines around)
code-leads [] around b c e = λ q. e
code-leads (s ∷ lines) around b c e = (tt, (tt, code-leads lines around ((b || not (is_blank_text s)) || false) c e))

module _ (k : Leaves) where
  verbatim-leads : (b : Bool) (attributes : List AttributePair) (content : Simples) → HasCode k attributes content
      → LeadsIn b (b || code_shows content) (verbatim_parts attributes content)
  verbatim-leads b attributes content h x e = by (is_blank_text s) refl
    where
      s : List ℕ
      s = with_line_feeds (all_text_among content)

      c : Bool
      c = b || code_shows content

      lines : List Part
      lines = code_parts (lines_of s) x.around

      body : List Part
      body = apart (whole (code_block (language_of_block attributes (list_of content) x.near)
          (without_last_line_feed s)) ∷ [])

      some : is_blank_text s ≡ false → code_shows content ≡ true
      some f = test (code_shows content) (λ q. q) (λ q. absurd (true≢false (sym (h.blank q) ∙ f)))

      less : b ≡ true → c ≡ true
      less q = ap (λ y. y || code_shows content) q

      in_line_code : (y : Bool) → y ≡ true → is_blank_text s ≡ false
          → Leads b c (cond y (edge ∷ lines) body)
      in_line_code true q f =
          (tt, code-leads (lines_of s) x.around (b || false) c (ap (λ y. b || y) (some f) ∙ or-true b))
      in_line_code false q f = absurd (false≢true q)

      by : (y : Bool) → is_blank_text s ≡ y
          → Leads b c (cond y (edge ∷ []) (cond x.is_flat (edge ∷ lines) body))
      by true f = (tt, λ q. less (none-less b q))
      by false f = in_line_code x.is_flat e f

  -- ---- elements

  module _ (id : ℕ) (facts : Facts) (attributes : List AttributePair) (content : Simples) (b : Bool)
      (rows : RowChain b (b || show true content) content) (code : HasCode k attributes content) where
    chained : Chain b (b || show true content) (nodes_of content)
    chained = node-chain b (b || show true content) content rows

    here : LeadsIn b (b || show true content) (flow_all (nodes_of content))
    here = flow-leads b (b || show true content) (nodes_of content) chained

    abbrev el : Element
    el = record {
      id = id;
      facts = facts;
      attributes = attributes;
      content = content;
      nodes = nodes_of content;
      rows = rows_among no_part content;
      pieces = pieces_of content;
      terms = terms_of content;
    }

    blocks : LeadsIn b (b || show true content) (λ x. apart (flow_all (nodes_of content) x))
    blocks x f = leads-apart b (b || show true content) (flow_all (nodes_of content) x) (here x f)

    titles : LeadsIn b (b || show true content) (λ x. apart (flow_all (nodes_of content) (around_title content x)))
    titles x f = blocks (around_title content x) (around-flat content x f)

    near : LeadsIn b (b || show true content)
        (λ x. apart (flow_all (nodes_of content) (beside_code facts.pres attributes x)))
    near x f = blocks (beside_code facts.pres attributes x) (beside-flat facts.pres attributes x f)

    no-details : (x : Context) (y : Bool) → y ≡ false → x.is_flat ≡ true
        → Leads b (b || show true content) (apart (cond y
        (element_part name.Details (open_attribute attributes)
        (blocks_of false (titled name.Summary (nodes_of content) x)))
        (flow_all (nodes_of content) x)))
    no-details x false e f = blocks x f
    no-details x true e f = absurd (true≢false e)

    no-figure : (x : Context) (y : Bool) → y ≡ false → x.is_flat ≡ true
        → Leads b (b || show true content)
        (apart (cond y (captioned (nodes_of content) x) (flow_all (nodes_of content) x)))
    no-figure x false e f = blocks x f
    no-figure x true e f = absurd (true≢false e)

    is-lined : (x : Context) → x.is_flat ≡ true → is_lined x ≡ true
    is-lined x f = ap (λ y. y || nat_le most_nested x.nested) f

    lined-or : (x : Context) (y z : Bool) → y ≡ true → x.is_flat ≡ true → (ps : List Part)
        → Leads b (b || show true content) (cond (y || z) (apart (flow_all (nodes_of content) x)) ps)
    lined-or x true z e f ps = blocks x f
    lined-or x false z e f ps = absurd (false≢true e)

    no-terms : (x : Context) → x.is_flat ≡ true
        → Leads b (b || show true content) (term_parts (terms_of content) (nodes_of content) x)
    no-terms x f = lined-or x (is_lined x) _ (is-lined x f) f _

    terms : (x : Context) (y : Bool) → y ≡ false → x.is_flat ≡ true
        → Leads b (b || show true content) (cond y (described_parts (terms_of content) x)
        (term_parts (terms_of content) (nodes_of content) x))
    terms x false e f = no-terms x f
    terms x true e f = absurd (true≢false e)

    table : (x : Context) (y : Bool) → y ≡ false → x.is_flat ≡ true
        → Leads b (b || show true content) (cond y (rich_table_at el x)
        (table_parts (list_of content) (nodes_of content) (rows_among no_part content) x))
    table x false e f = table-leads b (b || show true content) content rows x f
    table x true e f = absurd (true≢false e)

    lined : (x : Context) (y : Bool) → y ≡ true → x.is_flat ≡ true → (ps : List Part)
        → Leads b (b || show true content) (apart (cond y (flow_all (nodes_of content) x) ps))
    lined x true e f ps = blocks x f
    lined x false e f ps = absurd (false≢true e)

    element-leads : (r : Role) → LeadsIn b (b || shows true (element id r facts attributes content)) (parts_of r el)
    element-leads (role.Format g) x f = here (inside_format (of_format g) x) (format-flat (of_format g) x f)
    element-leads (role.Element g) x f = here (inside_format (of_element g) x) (format-flat (of_element g) x f)
    element-leads role.Abbreviation x f =
        here (inside_title (title_of attributes) x) (title-flat (title_of attributes) x f)
    element-leads role.Code x f = here (in_code x) f
    element-leads role.Typed x f = here (in_code x) f
    element-leads role.Link x f =
        here (linked_by id attributes x)
        (link-flat id (address (text_of (codes "href") attributes)) (title_of attributes) x f)
    element-leads role.Unlinked x f = here (unlinked x) f
    element-leads role.Target x f = here x f
    element-leads role.Plain x f = here x f
    element-leads role.Apart x f =
        let c : Bool = b || show true content in
        let one : Part = run_in x (space ∷ []) in
        leads-both b c c (one ∷ flow_all (nodes_of content) x) (one ∷ [])
        (leads-both b b c (one ∷ []) (flow_all (nodes_of content) x) (one-space b x.around x.is_code) (here x f))
        (one-space c x.around x.is_code)
    element-leads role.LineBreak x f = (tt, λ q. ap (λ y. y || show true content) (none-less b q))
    element-leads role.Input x f =
        let is_box : Bool = is_any_case (codes "checkbox") (text_of (codes "type") attributes) in
        leads-both b b (b || show true content) (box_parts attributes) (flow_all (nodes_of content) x)
        (leads-either is_box b b (box (has_attribute (codes "checked") attributes) ∷ []) [] (tt, none-less b)
        (λ q. q))
        (here x f)
    element-leads role.Anchors x f =
        leads-either x.is_flat b (b || show true content) (flow_all (nodes_of content) x)
        (apart (flow_all (nodes_of content) x)) (here x f) (blocks x f)
    element-leads (role.Heading level) x f = lined x x.is_flat f f _
    element-leads role.Preformatted x f = verbatim-leads b attributes content code x f
    element-leads role.Verbatim x f = verbatim-leads b attributes content code x f
    element-leads role.BlockQuote x f = lined x (is_lined x) (is-lined x f) f _
    element-leads role.ThematicBreak x f = (tt, λ q. q)
    element-leads role.BulletList x f =
        list-leads None b (b || show true content) (nodes_of content) x f
        (each-leads b (b || show true content) (nodes_of content) chained x f)
    element-leads role.NumberedList x f =
        list-leads (Some (start_of attributes)) b (b || show true content) (nodes_of content) x f
        (each-leads b (b || show true content) (nodes_of content) chained x f)
    element-leads role.Terms x f = terms x (has_elements x) (no-elements x f) f
    element-leads role.Table x f = table x (has_elements x) (no-elements x f) f
    element-leads role.Details x f = no-details x (has_elements x) (no-elements x f) f
    element-leads role.Figure x f =
        let y : Context = beside_code facts.pres attributes x in
        let g = beside-flat facts.pres attributes x f in
        no-figure y (has_elements y) (no-elements y g) g
    element-leads role.Term x f = titles x f
    element-leads role.Caption x f = titles x f
    element-leads role.FigureCaption x f = titles x f
    element-leads role.Summary x f = titles x f
    element-leads role.Division x f = near x f
    element-leads role.Cell x f = near x f
    element-leads r x f = blocks x f

    caption-content : (r : Role) → roles.is_caption r ≡ true
        → LeadsIn b (b || shows true (element id r facts attributes content)) (flow_all (nodes_of content))
    caption-content role.Caption q = here
    caption-content r q = absurd (false≢true q)

    cell-content : (r : Role) → roles.is_cell r ≡ true
        → LeadsIn b (b || shows true (element id r facts attributes content)) (flow_all (nodes_of content))
    cell-content role.Cell q = here
    cell-content role.HeaderCell q = here
    cell-content r q = absurd (false≢true q)

    of-part : (y : Bool) (inner : List Row) → LeadsIn b (b || show true content) (rows_in_one_line inner)
        → LeadsIn b (b || show true content) (rows_in_one_line (cond (not y && true) inner []))
    of-part false inner h x f = h x f
    of-part true inner h x f = λ q. ap (λ y. y || show true content) q

    rows-here : (r : Role) (p : TablePart) (inner : List Row)
        → LeadsIn b (b || show true content) (rows_in_one_line inner)
        → LeadsIn b (b || shows true (element id r facts attributes content))
        (rows_in_one_line (cond (roles.is_row r) (row_with p (nodes_of content))
        (cond (not (is_some p.id) && roles.is_part r) inner [])))
    rows-here role.Row p inner h x f = one-row p b (b || show true content) (nodes_of content) chained x f
    rows-here role.TableHead p inner h x f = of-part (is_some p.id) inner h x f
    rows-here role.TableBody p inner h x f = of-part (is_some p.id) inner h x f
    rows-here r p inner h x f = no-more (is_some p.id)
      where
        t : Simple
        t = element id r facts attributes content

        no-more : (y : Bool) → Leads b (b || shows true t) (rows_in_one_line (cond (not y && false) inner []) x)
        no-more true = λ q. ap (λ z. z || shows true t) q
        no-more false = λ q. ap (λ z. z || shows true t) q

  -- ---- trees

  grown : (b : Bool) (t : Simple) → b ≡ true → (b || shows true t) ≡ true
  grown b t q = ap (λ y. y || shows true t) q

  unlike : {A : Type 0} → false ≡ true → A
  unlike q = absurd (false≢true q)

  mutual
    unfolding node_of

    node-leads : (b : Bool) (t : Simple) → Early b t → HasTree k t → IsSound t
        → EarlyNode b (b || shows true t) (node_of t)
    node-leads b (text s) h g u = record {
      node = λ x f. run-leads b s x.around x.is_code;
      caption = unlike;
      cell = unlike;
      grows = grown b (text s);
    }
    node-leads b (image o attributes) h g u = record {
      node = image-leads b o attributes u;
      caption = unlike;
      cell = unlike;
      grows = grown b (image o attributes);
    }
    node-leads b (formula tex is_alone attributes) h g u = record {
      node = formula-leads b tex is_alone;
      caption = unlike;
      cell = unlike;
      grows = grown b (formula tex is_alone attributes);
    }
    node-leads b (embedded id s title attributes ids) h g u = record {
      node = embed-leads b id s title ids h;
      caption = unlike;
      cell = unlike;
      grows = grown b (embedded id s title attributes ids);
    }
    node-leads b (anchor id) h g u = record {
      node = λ x f. (h, λ q. q);
      caption = unlike;
      cell = unlike;
      grows = grown b (anchor id);
    }
    node-leads b (element id r facts attributes content) h g u =
        let rows = chain b content h g.2 u.1 in
        record {
          node = element-leads id facts attributes content b rows g.1 r;
          caption = caption-content id facts attributes content b rows g.1 r;
          cell = cell-content id facts attributes content b rows g.1 r;
          grows = grown b (element id r facts attributes content);
        }

    chain : (b : Bool) (ts : Simples) → AllEarly b ts → HaveTrees k ts → AreSound ts
        → RowChain b (b || show true ts) ts
    chain b none h g u = λ q. ap (λ y. y || false) q
    chain b (more t ts) h g u = (
      b || shows true t,
      node-leads b t h.0 g.0 u.0,
      rows-of no_part b t h.0 g.0 u.0,
      subst (λ (d : Bool). RowChain (b || shows true t) d ts) (sym (or-more b (shows true t) (show true ts)))
          (chain (b || shows true t) ts h.1 g.1 u.1),
    )

    rows-of : (p : TablePart) (b : Bool) (t : Simple) → Early b t → HasTree k t → IsSound t
        → LeadsIn b (b || shows true t) (rows_in_one_line (rows_at p t))
    rows-of p b (element id r facts attributes content) h g u =
        rows-here id facts attributes content b (chain b content h g.2 u.1) g.1 r p
        (rows_among (part_of (element id r facts attributes content)) content)
        (all-rows (part_of (element id r facts attributes content)) b content h g.2 u.1)
    rows-of p b (text s) h g u = λ x f q. grown b (text s) q
    rows-of p b (image o attributes) h g u = λ x f q. grown b (image o attributes) q
    rows-of p b (formula tex is_alone attributes) h g u = λ x f q. grown b (formula tex is_alone attributes) q
    rows-of p b (embedded id s title attributes ids) h g u =
        λ x f q. grown b (embedded id s title attributes ids) q
    rows-of p b (anchor id) h g u = λ x f q. grown b (anchor id) q

    all-rows : (p : TablePart) (b : Bool) (ts : Simples) → AllEarly b ts → HaveTrees k ts → AreSound ts
        → LeadsIn b (b || show true ts) (rows_in_one_line (rows_among p ts))
    all-rows p b none h g u = λ x f q. ap (λ y. y || false) q
    all-rows p b (more t ts) h g u = λ x f.
        rows-both (rows_at p t) (rows_among p ts) b (b || shows true t) (b || (shows true t || show true ts)) x
        (rows-of p b t h.0 g.0 u.0 x f)
        (subst (λ (d : Bool). Leads (b || shows true t) d (rows_in_one_line (rows_among p ts) x))
        (sym (or-more b (shows true t) (show true ts))) (all-rows p (b || shows true t) ts h.1 g.1 u.1 x f))

  pub early-heading : (content : Simples) → AllEarly false content → HaveTrees k content → AreSound content
      → (x : Context) → x.is_flat ≡ true → heading_keeps (line_of (flow_all (nodes_of content) x)) ≡ true
  early-heading content h g u x f =
      early-line (show true content) (flow_all (nodes_of content) x)
      (flow-leads false (show true content) (nodes_of content)
      (node-chain false (show true content) content (chain false content h g u)) x f)

-- The links of a document are those around what shows of its simpler tree.
use Rattle.std.proofs.Common.{◌≡◌, ℕ, Bool, true, false, cond, not, ◌&&◌, ◌||◌, List, [], ◌∷◌, ◌++◌, map, filter}
use Rattle.std.proofs.Common.{refl, sym, ap, ◌∙◌, subst, Option, Some, None}
use Rattle.std.specs.Prelude.{codes, is_some}
use Rattle.htmd_lexical.specs.AttributePairs.{AttributePair}
use Rattle.htmd_lexical.specs.Characters.{space}
use Rattle.htmd_document.specs.Documents.{Inlines, no_inlines, inline, Blocks, no_blocks, block}
use Rattle.htmd_document.specs.Formats.{of_format, of_element}
use Rattle.htmd_shown.specs.declared.facts.Facts.{Facts}
use Rattle.htmd_shown.specs.declared.role.Role.{Role}
use Rattle.htmd_shown.specs.declared.role.Role.TheVariants as role
use Rattle.htmd_shown.specs.AllTexts.{all_text_among, with_line_feeds, lines_of}
use Rattle.htmd_shown.specs.Attributes.{description_of, title_of, is_filled, is_any_case, text_of}
use Rattle.htmd_shown.specs.Attributes.{has_attribute}
use Rattle.htmd_shown.specs.Kinds.{has}
use Rattle.htmd_shown.specs.Roles as roles
use Rattle.htmd_shown.specs.SimpleTrees.{Simple, text, image, formula, embedded, anchor, element, Simples, none, more}
use Rattle.htmd_shown.specs.Spaces.{is_blank_text}
use Rattle.htmd_document_of_tree.specs.declared.leadings.Layout.{Layout}
use Rattle.htmd_document_of_tree.specs.declared.leadings.Layout.TheVariants as layout
use Rattle.htmd_document_of_tree.specs.Leadings.{is_flat, layout_in}
use Rattle.htmd_document_of_tree.specs.Limits.{address_of}
use Rattle.htmd_flow.specs.Contexts.{Context, bare_in, has_elements, is_lined}
use Rattle.htmd_flow.specs.Contexts.{inside_title}
use Rattle.htmd_flow.specs.Contexts.{inside_format, inside_link, unlinked, beside_code}
use Rattle.htmd_flow.specs.Contexts.{in_code, in_one_line, deeper, run_in, apart}
use Rattle.htmd_flow.specs.Flows.{Node, Row, gap, of_node, node_of, nodes_of, nodes_below, terms_of}
use Rattle.htmd_flow.specs.Flows.{rows_among, rows_at, rows_of_table, no_part, part_of, leads_to, row_with, is_cell}
use Rattle.htmd_flow.specs.Flows.{parts_of_child, document_of, flow_all, image_parts, math_block, math_in_line}
use Rattle.htmd_flow.specs.Flows.{formula_parts, embed_edge, embed_parts, box_parts, heading_of, around_heading}
use Rattle.htmd_flow.specs.Flows.{heading_parts, quote_of, code_parts, verbatim_parts, start_of}
use Rattle.htmd_flow.specs.Flows.{is_grid_of, blocks_of, line_of, linked_by, around_title, around_node, pieces_at, pieces_of}
use Rattle.htmd_flow.specs.Flows.{of_caption, of_row, terms_by, term_parts, described_parts, table_parts, rich_table_parts}
use Rattle.htmd_flow.specs.Levels.{list_of}
use Rattle.htmd_flow.specs.Parts.{Around, formatted, linked, run, place, box, edge, whole}
use Rattle.htmd_flow.specs.Terms.{is_group}
use Rattle.htmd_flow.specs.declared.table_form.TablePart.{TablePart}
use Rattle.htmd_law_documents.proofs.ElementLemmas.{false-true, true-false}
use Rattle.htmd_law_anchors.specs.DocumentLinks.{LinksInLine, LinksInBlocks}
use Rattle.htmd_law_anchors.proofs.LinkAroundLemmas.{node-tree, inside_of, heading_link, title_link, link_in, in-format}
use Rattle.htmd_law_anchors.proofs.LinkAroundLemmas.{in-link, in-unlinked, in-heading, in-abbreviation, in-title}
use Rattle.htmd_law_anchors.proofs.LinkWritingLemmas.{AllGood, GoodPart, GoodParts, parts-append, parts-apart}
use Rattle.htmd_law_anchors.proofs.LinkWritingLemmas.{parts-either, blocks-good, line-good}
use Rattle.htmd_law_anchors.proofs.LinkNodesLemmas.{At, In, in-deeper, is_inner, Gives, NodeGood, AllNodes, has-more}
use Rattle.htmd_law_anchors.proofs.LinkNodesLemmas.{has-none, caption-inner, other-content}
use Rattle.htmd_law_anchors.proofs.LinkNodesLemmas.{list-parts-good, flow-good, GoodTerms, terms-append}
use Rattle.htmd_law_anchors.proofs.LinkNodesLemmas.{nodes-terms, term-parts-good, CellsGood, RowsGood}
use Rattle.htmd_law_anchors.proofs.LinkNodesLemmas.{CaptionsGood, space-blank, table-parts-good}
use Rattle.htmd_law_anchors.proofs.LinkRichLemmas.{cell-inner, cell-untitled, in-near, details-good, figure-good}
use Rattle.htmd_law_anchors.proofs.LinkRichLemmas.{described-good, CellNodes, GoodPieces, pieces-append, rich-table-good}

-- ---- what shows in a link

abbrev pub image_gives : Option (List ℕ) → List AttributePair → Bool
image_gives address attributes = is_some address || not (is_blank_text (description_of attributes))

abbrev pub code_gives : Simples → Bool
code_gives content = not (is_blank_text (with_line_feeds (all_text_among content)))

abbrev pub Unless : Bool → Type 0 → Type 0 → Type 0
Unless true A B = A
Unless false A B = B

module _ (Is : List ℕ → Type 0) (rich : Bool) where
  abbrev pub Holds : Option (List ℕ) → Type 0
  Holds None = Unit {0}
  Holds (Some address) = Is address

  abbrev mutual
    -- around what shows of a node, which stands in one line or not, there is such a link or none
    pub Within : Option (List ℕ) → Bool → Simple → Type 0
    Within link flat (text s) = is_blank_text s ≡ false → Holds link
    Within link flat (image address attributes) = image_gives address attributes ≡ true → Holds link
    Within link flat (formula tex is_alone attributes) = (flat || not is_alone) ≡ true → Holds link
    Within link flat (embedded id address title attributes anchors) = Holds link × Is address
    Within link flat (anchor id) = Unit {0}
    Within link flat (element id r facts attributes content) =
        Unless (roles.is_verbatim r) ((flat && code_gives content) ≡ true → Holds link)
        (AllWithin (link_in rich flat r facts attributes content link) (layout_in rich flat r content) content)

    pub AllWithin : Option (List ℕ) → Layout → Simples → Type 0
    AllWithin link beside none = Unit {0}
    AllWithin link beside (more tree trees) = Within link (is_flat beside tree) tree × AllWithin link beside trees

  -- the same where all stand so
  abbrev pub AllAt : Option (List ℕ) → Bool → Simples → Type 0
  AllAt link flat none = Unit {0}
  AllAt link flat (more tree trees) = Within link flat tree × AllAt link flat trees

  line-at : (link : Option (List ℕ)) (ts : Simples) → AllWithin link layout.OneLine ts → AllAt link true ts
  line-at link none h = tt
  line-at link (more t ts) h = (h.0, line-at link ts h.1)

  blocks-at : (link : Option (List ℕ)) (ts : Simples) → AllWithin link layout.Blocks ts → AllAt link false ts
  blocks-at link none h = tt
  blocks-at link (more t ts) h = (h.0, blocks-at link ts h.1)

  -- what stands beside what is in an element that is no heading; grid: that is of rows and columns
  abbrev pub ContentWithin : Option (List ℕ) → Bool → Bool → Simples → Type 0
  ContentWithin link flat grid ts =
      AllWithin link (cond (flat || false) layout.OneLine (cond (not rich && grid) layout.Cells layout.Blocks)) ts

  unlaid : (b : Bool) → (not b && false) ≡ false
  unlaid true = refl
  unlaid false = refl

  base-at : (link : Option (List ℕ)) (flat : Bool) (ts : Simples) → ContentWithin link flat false ts
      → AllAt link flat ts
  base-at link true ts h = line-at link ts h
  base-at link false ts h =
      blocks-at link ts (subst (λ (b : Bool). AllWithin link (cond b layout.Cells layout.Blocks) ts) (unlaid rich) h)

  heading-at : (link : Option (List ℕ)) (flat : Bool) (ts : Simples)
      → AllWithin link (cond (flat || true) layout.OneLine (cond (not rich && false) layout.Cells layout.Blocks)) ts
      → AllAt link true ts
  heading-at link true ts h = line-at link ts h
  heading-at link false ts h = line-at link ts h

  at-good : (link : Option (List ℕ)) (around : List Around) → At link around → Holds link → AllGood Is around
  at-good link [] h g = tt
  at-good link (formatted format ∷ around) h g = (tt, at-good link around h g)
  at-good link (linked node address title ∷ around) h g = (subst Holds h.0 g, at-good None around h.1 tt)

  -- ---- leaves

  module _ (link : Option (List ℕ)) (flat : Bool) (c : Context) (i : In rich link flat c) where
    good : Holds link → AllGood Is c.around
    good g = at-good link c.around i.around g

    image-good : (o : Option (List ℕ)) (attributes : List AttributePair)
        → (image_gives o attributes ≡ true → Holds link)
        → GoodParts Is (image_parts o attributes c)
    image-good (Some s) attributes h = (good (h refl), tt)
    image-good None attributes h =
        parts-either Is (is_filled (description_of attributes)) (run_in c (description_of attributes) ∷ []) []
        (λ e. ((λ b. good (h (ap not b))), tt)) (λ e. tt)

    formula-good : (tex : List ℕ) (is_alone : Bool) → ((flat || not is_alone) ≡ true → Holds link)
        → GoodParts Is (formula_parts tex is_alone c)
    formula-good tex is_alone h =
        parts-either Is (is_alone && not c.is_flat) (apart (whole (math_block tex) ∷ [])) (math_in_line tex c)
        (λ e. (tt, (tt, (tt, tt))))
        (λ e.
        let g : AllGood Is c.around = good
        (h (in-line is_alone flat (ap (λ b. is_alone && not b) (sym i.line) ∙ e))) in
        ((λ b. g), ((λ b. g), ((λ b. g), tt))))
      where
        in-line : (a f : Bool) → (a && not f) ≡ false → (f || not a) ≡ true
        in-line a true e = refl
        in-line true false e = true-false e
        in-line false false e = refl

    space-good : (around : List Around) (k : Bool) → GoodPart Is (run (space ∷ []) around k)
    space-good around k e = absurd (space-blank Is rich link e)

    edge-good : (b : Bool) → GoodPart Is (cond b (run_in c (space ∷ [])) edge)
    edge-good true = space-good c.around c.is_code
    edge-good false = tt

    places-good : (ids : List (List ℕ)) → GoodParts Is (map place ids)
    places-good [] = tt
    places-good (id ∷ ids) = (tt, places-good ids)

    embed-good : (id : ℕ) (s title : List ℕ) (ids : List (List ℕ)) → Holds link → Is s
        → GoodParts Is (embed_parts id s title ids c)
    embed-good id s title ids h a =
        parts-append Is (embed_edge c ∷ map place ids)
        (run_in (inside_link id s None c) title ∷ embed_edge c ∷ []) (edge-good c.is_flat, places-good ids) (
          (λ e. at-good (inside_of link s) (inside_link id s None c).around
              (in-link rich link flat c id s None i).around
              (held link h)),
          (edge-good c.is_flat, tt),
        )
      where
        held : (l : Option (List ℕ)) → Holds l → Holds (inside_of l s)
        held None g = a
        held (Some other) g = g

    lines-good : (lines : List (List ℕ)) → AllGood Is c.around → GoodParts Is (code_parts lines c.around)
    lines-good [] g = tt
    lines-good (s ∷ lines) g = ((λ e. g), (tt, lines-good lines g))

    verbatim-good : (attributes : List AttributePair) (content : Simples)
        → ((flat && code_gives content) ≡ true → Holds link)
        → GoodParts Is (verbatim_parts attributes content c)
    verbatim-good attributes content h =
        let s : List ℕ = with_line_feeds (all_text_among content) in
        parts-either Is (is_blank_text s) (edge ∷ []) _ (λ e. (tt, tt))
        (λ e. parts-either Is c.is_flat (edge ∷ code_parts (lines_of s) c.around) _
        (λ k. (
          tt,
          lines-good (lines_of s)
              (good (h (ap (λ b. b && code_gives content) (sym i.line ∙ k) ∙ ap not e))),
        ))
        (λ k. (tt, (tt, (tt, tt)))))

    -- ---- elements

    heading-whole : (level : ℕ) (xs : Inlines) → LinksInLine Is xs → GoodParts Is (heading_of level xs)
    heading-whole level no_inlines h = tt
    heading-whole level (inline x xs) h = (h, tt)

    quote-whole : (bs : Blocks) → LinksInBlocks Is bs → GoodParts Is (quote_of bs)
    quote-whole no_blocks h = tt
    quote-whole (block b bs) h = (h, tt)

    box-good : (attributes : List AttributePair) → GoodParts Is (box_parts attributes)
    box-good attributes =
        parts-either Is (is_any_case (codes "checkbox") (text_of (codes "type") attributes))
        (box (has_attribute (codes "checked") attributes) ∷ []) [] (λ e. (tt, tt)) (λ e. tt)

  heading-good : (link : Option (List ℕ)) (flat : Bool) (c : Context) → In rich link flat c
      → (level : ℕ) (facts : Facts)
      (nodes : List Node) → AllNodes Is rich (heading_link flat facts link) true nodes
      → GoodParts Is (heading_parts level facts nodes c)
  heading-good link true c i level facts nodes h =
      subst (λ (b : Bool). GoodParts Is (apart (cond b (flow_all nodes c)
      (heading_of level (line_of (flow_all nodes (in_one_line (around_heading facts c)))))))) (sym i.line)
      (parts-apart Is (flow_all nodes c) (flow-good Is rich link true nodes h c i))
  heading-good link false c i level facts nodes h =
      let d : Context = in_one_line (around_heading facts c) in
      subst (λ (b : Bool). GoodParts Is (apart (cond b (flow_all nodes c)
      (heading_of level (line_of (flow_all nodes d)))))) (sym i.line)
      (parts-apart Is (heading_of level (line_of (flow_all nodes d)))
      (heading-whole link false c i level (line_of (flow_all nodes d))
      (line-good Is (flow_all nodes d)
      (flow-good Is rich (heading_link false facts link) true nodes h d (in-heading rich link c facts i)))))

  -- what is known of nodes by what they are made of
  abbrev RowTrees : Option (List ℕ) → Bool → Simples → Type 0
  RowTrees link flat none = Unit {0}
  RowTrees link flat (more t ts) =
      (has roles.is_row_or_part t ≡ true → Within link flat t) × RowTrees link flat ts

  abbrev CaptionTrees : Option (List ℕ) → Bool → Simples → Type 0
  CaptionTrees link flat none = Unit {0}
  CaptionTrees link flat (more t ts) =
      (has roles.is_caption t ≡ true → Within link flat t) × CaptionTrees link flat ts

  rows-at : (link : Option (List ℕ)) (flat : Bool) (ts : Simples) → AllAt link flat ts → RowTrees link flat ts
  rows-at link flat none h = tt
  rows-at link flat (more t ts) h = ((λ e. h.0), rows-at link flat ts h.1)

  captions-at : (link : Option (List ℕ)) (flat : Bool) (ts : Simples) → AllAt link flat ts
      → CaptionTrees link flat ts
  captions-at link flat none h = tt
  captions-at link flat (more t ts) h = ((λ e. h.0), captions-at link flat ts h.1)

  row-no_caption : (t : Simple) → has roles.is_row_or_part t ≡ true → not (has roles.is_caption t) ≡ true
  row-no_caption (element id role.Row facts attributes content) e = refl
  row-no_caption (element id role.TableHead facts attributes content) e = refl
  row-no_caption (element id role.TableBody facts attributes content) e = refl
  row-no_caption t e = false-true e

  cells-rows : (link : Option (List ℕ)) (ts : Simples) → AllWithin link layout.Cells ts → RowTrees link true ts
  cells-rows link none h = tt
  cells-rows link (more t ts) h =
      ((λ e. subst (λ (b : Bool). Within link b t) (row-no_caption t e) h.0), cells-rows link ts h.1)

  cells-captions : (link : Option (List ℕ)) (ts : Simples) → AllWithin link layout.Cells ts
      → CaptionTrees link false ts
  cells-captions link none h = tt
  cells-captions link (more t ts) h =
      ((λ e. subst (λ (b : Bool). Within link b t) (ap not e) h.0), cells-captions link ts h.1)

  -- no element stands there
  table-rows : (link : Option (List ℕ)) (flat b : Bool) (ts : Simples) → (rich && not flat) ≡ false → b ≡ true
      → ContentWithin link flat b ts → CaptionTrees link flat ts × RowTrees link true ts
  table-rows link true b ts p e h =
      let a : AllAt link true ts = line-at link ts h in (captions-at link true ts a, rows-at link true ts a)
  table-rows link false true ts p e h =
      let g : AllWithin link layout.Cells ts =
      subst (λ (b : Bool). AllWithin link (cond (not b && true) layout.Cells layout.Blocks) ts) (first rich p) h in
      (cells-captions link ts g, cells-rows link ts g)
    where
      first : (b : Bool) → (b && true) ≡ false → b ≡ false
      first true e = true-false e
      first false e = refl
  table-rows link false false ts p e h = false-true e

  table-blocks : (link : Option (List ℕ)) (flat b : Bool) (ts : Simples) → b ≡ false
      → ContentWithin link flat b ts
      → AllAt link flat ts
  table-blocks link flat true ts e h = true-false e
  table-blocks link flat false ts e h = base-at link flat ts h

  -- elements stand there
  table-elements : (link : Option (List ℕ)) (flat b : Bool) (ts : Simples) → (rich && not flat) ≡ true
      → ContentWithin link flat b ts → AllAt link flat ts
  table-elements link true b ts p h = line-at link ts h
  table-elements link false b ts p h =
      blocks-at link ts
      (subst (λ (d : Bool). AllWithin link (cond (not d && b) layout.Cells layout.Blocks) ts) (first rich p) h)
    where
      first : (b : Bool) → (b && true) ≡ true → b ≡ true
      first true e = refl
      first false e = false-true e

  caption-tree : (t : Simple) → has roles.is_caption t ≡ true → has is_inner t ≡ true
  caption-tree (element id r facts attributes content) e = caption-inner r e
  caption-tree t e = false-true e

  group-at : (link : Option (List ℕ)) (flat : Bool) (id : ℕ) (r : Role) (facts : Facts)
      (attributes : List AttributePair) (content : Simples) → roles.is_division r ≡ true
      → Within link flat (element id r facts attributes content) → AllAt link flat content
  group-at link flat id role.Division facts attributes content e h = base-at link flat content h
  group-at link flat id r facts attributes content e h = false-true e

  row-content : (link : Option (List ℕ)) (flat : Bool) (id : ℕ) (r : Role) (facts : Facts)
      (attributes : List AttributePair) (content : Simples) → roles.is_row_or_part r ≡ true
      → Within link flat (element id r facts attributes content) → AllAt link flat content
  row-content link flat id role.Row facts attributes content e h = base-at link flat content h
  row-content link flat id role.TableHead facts attributes content e h = base-at link flat content h
  row-content link flat id role.TableBody facts attributes content e h = base-at link flat content h
  row-content link flat id r facts attributes content e h = false-true e

  row-of-part : (r : Role) → roles.is_part r ≡ true → roles.is_row_or_part r ≡ true
  row-of-part role.TableHead e = refl
  row-of-part role.TableBody e = refl
  row-of-part r e = false-true e

  row-of-row : (r : Role) → roles.is_row r ≡ true → roles.is_row_or_part r ≡ true
  row-of-row role.Row e = refl
  row-of-row r e = false-true e

  both-first : (a b : Bool) → (a && b) ≡ true → a ≡ true
  both-first true b e = refl
  both-first false b e = false-true e

  both-second : (a b : Bool) → (a && b) ≡ true → b ≡ true
  both-second true b e = e
  both-second false b e = false-true e

  cells-of : (link : Option (List ℕ)) (flat : Bool) (nodes : List Node) → AllNodes Is rich link flat nodes
      → CellNodes Is rich link flat (filter is_cell nodes)
  cells-of link flat [] h = tt
  cells-of link flat (n ∷ nodes) h = either (is_cell n) refl (cells-of link flat nodes h.1)
    where
      either : (b : Bool) → is_cell n ≡ b → CellNodes Is rich link flat (filter is_cell nodes)
          → CellNodes Is rich link flat (cond b (n ∷ filter is_cell nodes) (filter is_cell nodes))
      either true e g = ((h.0, e), g)
      either false e g = g

  abbrev RowNodes : Option (List ℕ) → Bool → List Row → Type 0
  RowNodes link flat [] = Unit {0}
  RowNodes link flat (row ∷ rows) = CellNodes Is rich link flat row.cells × RowNodes link flat rows

  rows-append : (link : Option (List ℕ)) (flat : Bool) (xs ys : List Row) → RowNodes link flat xs
      → RowNodes link flat ys → RowNodes link flat (xs ++ ys)
  rows-append link flat [] ys g h = h
  rows-append link flat (x ∷ xs) ys g h = (g.0, rows-append link flat xs ys g.1 h)

  either-rows : (link : Option (List ℕ)) (flat a b : Bool) (xs ys : List Row)
      → (a ≡ true → RowNodes link flat xs)
      → (b ≡ true → RowNodes link flat ys) → RowNodes link flat (cond a xs (cond b ys []))
  either-rows link flat true b xs ys g h = g refl
  either-rows link flat false true xs ys g h = h refl
  either-rows link flat false false xs ys g h = tt

  line-cells : (link : Option (List ℕ)) (cells : List Node) → CellNodes Is rich link true cells
      → CellsGood Is rich link cells
  line-cells link [] h = tt
  line-cells link (n ∷ cells) h = (
    (λ c i. other-content Is rich link n c (has-none roles.is_cell roles.is_title cell-untitled n.tree h.0.1)
        (h.0.0.content (has-more roles.is_cell is_inner cell-inner n.tree h.0.1) c i)),
    line-cells link cells h.1,
  )

  line-rows : (link : Option (List ℕ)) (rows : List Row) → RowNodes link true rows → RowsGood Is rich link rows
  line-rows link [] h = tt
  line-rows link (row ∷ rows) h = (line-cells link row.cells h.0, line-rows link rows h.1)

  rows-pieces : (link : Option (List ℕ)) (flat : Bool) (rows : List Row) → RowNodes link flat rows
      → GoodPieces Is rich link flat (map of_row rows)
  rows-pieces link flat [] h = tt
  rows-pieces link flat (row ∷ rows) h = (h.0, rows-pieces link flat rows h.1)

  either-piece : (link : Option (List ℕ)) (flat : Bool) (n : Node) (b : Bool) → has roles.is_caption n.tree ≡ b
      → (rows : List Row) → NodeGood Is rich link flat n → RowNodes link flat rows
      → GoodPieces Is rich link flat (cond b (of_caption n ∷ []) (map of_row rows))
  either-piece link flat n true e rows h g = ((h, e), tt)
  either-piece link flat n false e rows h g = rows-pieces link flat rows g

  grouped : (link : Option (List ℕ)) (flat : Bool) (nodes : List Node) (n : Node) (b : Bool)
      → (b ≡ true → AllNodes Is rich link flat nodes) → NodeGood Is rich link flat n
      → GoodTerms Is rich link flat (cond b (gap ∷ map of_node nodes ++ gap ∷ []) (of_node n ∷ []))
  grouped link flat nodes n true all f = (
    tt,
    terms-append Is rich link flat (map of_node nodes) (gap ∷ []) (nodes-terms Is rich link flat nodes (all refl))
        (tt, tt),
  )
  grouped link flat nodes n false all f = (f, tt)

  near-good : (link : Option (List ℕ)) (flat : Bool) (nodes : List Node) → AllNodes Is rich link flat nodes
      → (facts : Facts) (attributes : List AttributePair) (c : Context) → In rich link flat c
      → GoodParts Is (apart (flow_all nodes (beside_code facts.pres attributes c)))
  near-good link flat nodes h facts attributes c i =
      parts-apart Is (flow_all nodes (beside_code facts.pres attributes c))
      (flow-good Is rich link flat nodes h (beside_code facts.pres attributes c)
      (in-near rich link flat c facts.pres attributes i))

  module _ (id : ℕ) (facts : Facts) (attributes : List AttributePair) (content : Simples)
      (nodes : (link : Option (List ℕ)) (flat : Bool) → AllAt link flat content
      → AllNodes Is rich link flat (nodes_of content))
      (terms : (link : Option (List ℕ)) (flat : Bool) → AllAt link flat content
      → GoodTerms Is rich link flat (terms_of content))
      (captions : (link : Option (List ℕ)) (flat : Bool) → CaptionTrees link flat content
      → CaptionsGood Is rich link flat (nodes_of content))
      (rows : (link : Option (List ℕ)) → RowTrees link true content
      → RowsGood Is rich link (rows_of_table content))
      (pieces : (link : Option (List ℕ)) (flat : Bool) → AllAt link flat content
      → GoodPieces Is rich link flat (pieces_of content)) where
    title-good : (link : Option (List ℕ)) (flat : Bool)
        → ContentWithin (title_link rich flat content link) flat false content
        → Gives Is rich link flat (λ c. flow_all (nodes_of content) (around_title content c))
    title-good link flat h c i =
        let l : Option (List ℕ) = title_link rich flat content link in
        flow-good Is rich l flat (nodes_of content) (nodes l flat (base-at l flat content h)) (around_title content c)
        (in-title rich link flat c content i)

    title-apart : (link : Option (List ℕ)) (flat : Bool)
        → ContentWithin (title_link rich flat content link) flat false content
        → Gives Is rich link flat (λ c. apart (flow_all (nodes_of content) (around_title content c)))
    title-apart link flat h c i =
        parts-apart Is (flow_all (nodes_of content) (around_title content c)) (title-good link flat h c i)

    inner-flow : (link : Option (List ℕ)) (flat : Bool) → ContentWithin link flat false content
        → Gives Is rich link flat (flow_all (nodes_of content))
    inner-flow link flat h =
        flow-good Is rich link flat (nodes_of content) (nodes link flat (base-at link flat content h))

    inner-good : (r : Role) (link : Option (List ℕ)) (flat : Bool) → is_inner r ≡ true
        → Within link flat (element id r facts attributes content)
        → Gives Is rich link flat
        (λ c. flow_all (nodes_of content) (around_node (element id r facts attributes content) c))
    inner-good role.Item link flat e h c i = inner-flow link flat h c i
    inner-good role.Meaning link flat e h c i = inner-flow link flat h c i
    inner-good role.Cell link flat e h c i = inner-flow link flat h c i
    inner-good role.HeaderCell link flat e h c i = inner-flow link flat h c i
    inner-good role.Term link flat e h c i = title-good link flat h c i
    inner-good role.Caption link flat e h c i = title-good link flat h c i
    inner-good role.FigureCaption link flat e h c i = title-good link flat h c i
    inner-good role.Summary link flat e h c i = title-good link flat h c i
    inner-good r link flat e h c i = false-true e

    table-good : (link : Option (List ℕ)) (flat : Bool) → ContentWithin link flat (is_grid_of content) content
        → (c : Context) → In rich link flat c
        → GoodParts Is (cond (has_elements c)
        (rich_table_parts (list_of content) attributes (pieces_of content) (nodes_of content) c)
        (table_parts (list_of content) (nodes_of content) (rows_of_table content) c))
    table-good link flat h c i =
        parts-either Is (has_elements c)
        (rich_table_parts (list_of content) attributes (pieces_of content) (nodes_of content) c)
        (table_parts (list_of content) (nodes_of content) (rows_of_table content) c)
        (λ e.
        let all : AllAt link flat content =
        table-elements link flat (is_grid_of content) content (elements-in c i ∙ e) h in
        rich-table-good Is rich link flat (list_of content) attributes (pieces_of content) (nodes_of content)
        (pieces link flat all) (nodes link flat all) c i)
        (λ e.
        table-parts-good Is rich link flat (list_of content) (nodes_of content) (rows_of_table content)
        (λ g.
        let k = table-rows link flat (is_grid_of content) content (elements-in c i ∙ e) g h in
        (captions link flat k.0, rows link k.1))
        (λ g. nodes link flat (table-blocks link flat (is_grid_of content) content g h)) c i e)
      where
        elements-in : (c : Context) → In rich link flat c → (rich && not flat) ≡ has_elements c
        elements-in c i =
            ap (λ b. b && not flat) (sym i.is) ∙ ap (λ b. c.is_rich && not b) (sym i.line)

    terms-in : (link : Option (List ℕ)) (flat : Bool) → AllAt link flat content
        → Gives Is rich link flat (terms_by (terms_of content) (nodes_of content))
    terms-in link flat h c i =
        parts-either Is (has_elements c) (described_parts (terms_of content) c)
        (term_parts (terms_of content) (nodes_of content) c)
        (λ e. described-good Is rich link flat (terms_of content) (terms link flat h) c i)
        (λ e. term-parts-good Is rich link flat (terms_of content) (nodes_of content) (terms link flat h)
        (nodes link flat h) c i e)

    element-good : (r : Role) (link : Option (List ℕ)) (flat : Bool)
        → Within link flat (element id r facts attributes content)
        → Gives Is rich link flat ((node_of (element id r facts attributes content)).whole)
    unfolding node_of
    element-good (role.Format g) link flat h c i =
        flow-good Is rich link flat (nodes_of content)
        (nodes link flat (base-at link flat content h)) (inside_format (of_format g) c)
        (in-format rich link flat c (of_format g) i)
    element-good (role.Element g) link flat h c i =
        flow-good Is rich link flat (nodes_of content)
        (nodes link flat (base-at link flat content h)) (inside_format (of_element g) c)
        (in-format rich link flat c (of_element g) i)
    element-good role.Code link flat h c i =
        flow-good Is rich link flat (nodes_of content)
        (nodes link flat (base-at link flat content h)) (in_code c)
        (record { around = i.around; line = i.line; is = i.is })
    element-good role.Typed link flat h c i =
        flow-good Is rich link flat (nodes_of content)
        (nodes link flat (base-at link flat content h)) (in_code c)
        (record { around = i.around; line = i.line; is = i.is })
    element-good role.Link link flat h c i =
        flow-good Is rich (inside_of link (address_of attributes)) flat (nodes_of content)
        (nodes (inside_of link (address_of attributes)) flat
        (base-at (inside_of link (address_of attributes)) flat content h)) (linked_by id attributes c)
        (in-link rich link flat c id (address_of attributes) (title_of attributes) i)
    element-good role.Unlinked link flat h c i =
        flow-good Is rich None flat (nodes_of content)
        (nodes None flat (base-at None flat content h)) (unlinked c) (in-unlinked rich link flat c i)
    element-good role.Target link flat h c i =
        flow-good Is rich link flat (nodes_of content)
        (nodes link flat (base-at link flat content h)) c i
    element-good role.Plain link flat h c i =
        flow-good Is rich link flat (nodes_of content)
        (nodes link flat (base-at link flat content h)) c i
    element-good role.Apart link flat h c i =
        parts-append Is (run_in c (space ∷ []) ∷ flow_all (nodes_of content) c) (run_in c (space ∷ []) ∷ []) (
          space-good link flat c i c.around c.is_code,
          flow-good Is rich link flat (nodes_of content)
              (nodes link flat (base-at link flat content h)) c i,
        )
        (space-good link flat c i c.around c.is_code, tt)
    element-good role.LineBreak link flat h c i = (tt, tt)
    element-good role.Input link flat h c i =
        parts-append Is (box_parts attributes) (flow_all (nodes_of content) c) (box-good link flat c i attributes)
        (flow-good Is rich link flat (nodes_of content)
        (nodes link flat (base-at link flat content h)) c i)
    element-good role.Anchors link flat h c i =
        let k : GoodParts Is (flow_all (nodes_of content) c) =
        flow-good Is rich link flat (nodes_of content)
        (nodes link flat (base-at link flat content h)) c i in
        parts-either Is c.is_flat (flow_all (nodes_of content) c) (apart (flow_all (nodes_of content) c)) (λ e. k)
        (λ e. parts-apart Is (flow_all (nodes_of content) c) k)
    element-good (role.Heading level) link flat h c i =
        heading-good link flat c i level facts (nodes_of content)
        (nodes (heading_link flat facts link) true
        (heading-at (heading_link flat facts link) flat content h))
    element-good role.Preformatted link flat h c i =
        verbatim-good link flat c i attributes content h
    element-good role.Verbatim link flat h c i =
        verbatim-good link flat c i attributes content h
    element-good role.BlockQuote link flat h c i =
        let inner : AllAt link flat content = base-at link flat content h in
        let bs : Blocks = blocks_of false (flow_all (nodes_of content) (deeper c)) in
        parts-apart Is (cond (is_lined c) (flow_all (nodes_of content) c) (quote_of bs))
        (parts-either Is (is_lined c) (flow_all (nodes_of content) c) (quote_of bs)
        (λ e. flow-good Is rich link flat (nodes_of content)
        (nodes link flat inner) c i)
        (λ e. quote-whole link flat c i bs
        (blocks-good Is false (flow_all (nodes_of content) (deeper c))
        (flow-good Is rich link flat (nodes_of content)
        (nodes link flat inner) (deeper c) (in-deeper rich link flat c i)))))
    element-good role.ThematicBreak link flat h c i = (tt, tt)
    element-good role.BulletList link flat h c i =
        list-parts-good Is rich link flat None (nodes_of content)
        (nodes link flat (base-at link flat content h)) c i
    element-good role.NumberedList link flat h c i =
        list-parts-good Is rich link flat (Some (start_of attributes)) (nodes_of content)
        (nodes link flat (base-at link flat content h)) c i
    element-good role.Abbreviation link flat h c i =
        inner-flow link flat h (inside_title (title_of attributes) c)
        (in-abbreviation rich link flat c (title_of attributes) i)
    element-good role.Terms link flat h c i = terms-in link flat (base-at link flat content h) c i
    element-good role.Table link flat h c i = table-good link flat h c i
    element-good role.Details link flat h c i =
        details-good Is rich link flat attributes (nodes_of content) (nodes link flat (base-at link flat content h)) c i
    element-good role.Figure link flat h c i =
        figure-good Is rich link flat (nodes_of content) (nodes link flat (base-at link flat content h))
        (beside_code facts.pres attributes c) (in-near rich link flat c facts.pres attributes i)
    element-good role.Term link flat h c i = title-apart link flat h c i
    element-good role.Caption link flat h c i = title-apart link flat h c i
    element-good role.FigureCaption link flat h c i = title-apart link flat h c i
    element-good role.Summary link flat h c i = title-apart link flat h c i
    element-good role.Division link flat h c i =
        near-good link flat (nodes_of content)
        (nodes link flat (base-at link flat content h)) facts attributes c i
    element-good role.Cell link flat h c i =
        near-good link flat (nodes_of content)
        (nodes link flat (base-at link flat content h)) facts attributes c i
    element-good r link flat h c i =
        parts-apart Is (flow_all (nodes_of content) c)
        (flow-good Is rich link flat (nodes_of content)
        (nodes link flat (base-at link flat content h)) c i)

  mutual
    unfolding node_of

    node-good : (t : Simple) (link : Option (List ℕ)) (flat : Bool) → Within link flat t
        → NodeGood Is rich link flat (node_of t)
    node-good (text s) link flat h = record {
      whole = λ c i. ((λ e. good link flat c i (h e)), tt);
      content = λ e c i. tt;
    }
    node-good (image o attributes) link flat h = record {
      whole = λ c i. image-good link flat c i o attributes h;
      content = λ e c i. tt;
    }
    node-good (formula tex is_alone attributes) link flat h = record {
      whole = λ c i. formula-good link flat c i tex is_alone h;
      content = λ e c i. tt;
    }
    node-good (embedded id address title attributes ids) link flat h = record {
      whole = λ c i. embed-good link flat c i id address title ids h.0 h.1;
      content = λ e c i. tt;
    }
    node-good (anchor id) link flat h = record { whole = λ c i. (tt, tt); content = λ e c i. tt }
    node-good (element id r facts attributes content) link flat h = record {
      whole = element-good id facts attributes content (λ k f x. nodes-good content k f x)
          (λ k f x. terms-good content k f x) (λ k f x. captions-good content k f x)
          (λ k x. line-rows k (rows_of_table content) (rows-good no_part content k true x))
          (λ k f x. pieces-good content k f x) r link flat h;
      content = λ e. inner-good id facts attributes content (λ k f x. nodes-good content k f x)
          (λ k f x. terms-good content k f x) (λ k f x. captions-good content k f x)
          (λ k x. line-rows k (rows_of_table content) (rows-good no_part content k true x))
          (λ k f x. pieces-good content k f x) r link flat e h;
    }

    nodes-good : (ts : Simples) (link : Option (List ℕ)) (flat : Bool) → AllAt link flat ts
        → AllNodes Is rich link flat (nodes_of ts)
    nodes-good none link flat h = tt
    nodes-good (more t ts) link flat h = (node-good t link flat h.0, nodes-good ts link flat h.1)

    captions-good : (ts : Simples) (link : Option (List ℕ)) (flat : Bool) → CaptionTrees link flat ts
        → CaptionsGood Is rich link flat (nodes_of ts)
    captions-good none link flat h = tt
    captions-good (more t ts) link flat h = (
      (λ e.
          let k : has roles.is_caption t ≡ true = sym (ap (has roles.is_caption) (node-tree t)) ∙ e in
          (node-good t link flat (h.0 k)).content (ap (has is_inner) (node-tree t) ∙ caption-tree t k)),
      captions-good ts link flat h.1,
    )

    rows-good : (p : TablePart) (ts : Simples) (link : Option (List ℕ)) (flat : Bool) → RowTrees link flat ts
        → RowNodes link flat (rows_among p ts)
    rows-good p none link flat h = tt
    rows-good p (more t ts) link flat h =
        rows-append link flat (rows_at p t) (rows_among p ts) (row-good p t link flat h.0)
        (rows-good p ts link flat h.1)

    row-good : (p : TablePart) (t : Simple) (link : Option (List ℕ)) (flat : Bool)
        → (has roles.is_row_or_part t ≡ true → Within link flat t) → RowNodes link flat (rows_at p t)
    row-good p (text s) link flat h = tt
    row-good p (image o attributes) link flat h = tt
    row-good p (formula tex is_alone attributes) link flat h = tt
    row-good p (embedded id address title attributes ids) link flat h = tt
    row-good p (anchor id) link flat h = tt
    row-good p (element id r facts attributes content) link flat h =
        let t : Simple = element id r facts attributes content in
        either-rows link flat (roles.is_row r) (leads_to p t) (row_with p (nodes_of content))
        (rows_among (part_of t) content)
        (λ e.
        let k : roles.is_row_or_part r ≡ true = row-of-row r e in (
          cells-of link flat (nodes_of content)
              (nodes-good content link flat (row-content link flat id r facts attributes content k (h k))),
          tt,
        ))
        (λ e.
        let k : roles.is_row_or_part r ≡ true = row-of-part r (both-second _ (roles.is_part r) e) in
        rows-good (part_of t) content link flat
        (rows-at link flat content (row-content link flat id r facts attributes content k (h k))))

    pieces-good : (ts : Simples) (link : Option (List ℕ)) (flat : Bool) → AllAt link flat ts
        → GoodPieces Is rich link flat (pieces_of ts)
    pieces-good none link flat h = tt
    pieces-good (more t ts) link flat h =
        pieces-append Is rich link flat (pieces_at (node_of t) (rows_at no_part t)) (pieces_of ts)
        (either-piece link flat (node_of t) (has roles.is_caption (node_of t).tree) refl (rows_at no_part t)
        (node-good t link flat h.0) (row-good no_part t link flat (λ e. h.0))) (pieces-good ts link flat h.1)

    terms-good : (ts : Simples) (link : Option (List ℕ)) (flat : Bool) → AllAt link flat ts
        → GoodTerms Is rich link flat (terms_of ts)
    terms-good none link flat h = tt
    terms-good (more t ts) link flat h =
        terms-append Is rich link flat (parts_of_child (node_of t) (nodes_below t)) (terms_of ts)
        (term-good t link flat h.0 (node-good t link flat h.0)) (terms-good ts link flat h.1)

    term-good : (t : Simple) (link : Option (List ℕ)) (flat : Bool) → Within link flat t
        → NodeGood Is rich link flat (node_of t)
        → GoodTerms Is rich link flat (parts_of_child (node_of t) (nodes_below t))
    term-good (text s) link flat h n = (n, tt)
    term-good (image o attributes) link flat h n = (n, tt)
    term-good (formula tex is_alone attributes) link flat h n = (n, tt)
    term-good (embedded id address title attributes ids) link flat h n = (n, tt)
    term-good (anchor id) link flat h n = (n, tt)
    term-good (element id r facts attributes content) link flat h n =
        let t : Simple = element id r facts attributes content in
        grouped link flat (nodes_of content) (node_of t) (is_group t)
        (λ e. nodes-good content link flat
        (group-at link flat id r facts attributes content (both-first (roles.is_division r) _ e) h)) n

  pub document-links : (ts : Simples) → AllWithin None layout.Blocks ts → LinksInBlocks Is (document_of rich ts)
  document-links ts h =
      blocks-good Is false (flow_all (nodes_of ts) (bare_in rich))
      (flow-good Is rich None false (nodes_of ts) (nodes-good ts None false (blocks-at None ts h)) (bare_in rich)
      (record { around = refl; line = refl; is = refl }))

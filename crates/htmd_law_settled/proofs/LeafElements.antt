-- Trees whose leaves are of a kind, and what their elements give.
use Rattle.std.proofs.Common.{◌≡◌, ℕ, suc, Bool, true, false, not, ◌&&◌, List, [], ◌∷◌, ◌++◌, map, Option}
use Rattle.std.proofs.Common.{Some, None, refl}
use Rattle.std.specs.Prelude.{if◌then◌else◌, codes, filter}
use Rattle.std.specs.Str.{chars}
use Rattle.std.proofs.lemmas.Bool.{false≢true}
use Rattle.htmd_lexical.specs.AttributePairs.{AttributePair}
use Rattle.htmd_lexical.specs.Characters.{space}
use Rattle.htmd_document.specs.Documents.{Inlines, no_inlines, inline, Blocks, no_blocks, block, code_block}
use Rattle.htmd_document.specs.Formats.{Abbreviation, of_format, of_element}
use Rattle.htmd_document.specs.declared.document.Format as declared_format
use Rattle.htmd_shown.specs.declared.facts.Facts.{Facts}
use Rattle.htmd_shown.specs.declared.role.Role.{Role}
use Rattle.htmd_shown.specs.declared.role.Role.TheVariants as role
use Rattle.htmd_shown.specs.AllTexts.{all_text_among, with_line_feeds, lines_of, without_last_line_feed, dollar_sign}
use Rattle.htmd_shown.specs.Attributes.{has_attribute, text_of, title_of, description_of, address, in_line, trimmed}
use Rattle.htmd_shown.specs.Attributes.{is_any_case, is_filled}
use Rattle.htmd_shown.specs.Kinds.{has}
use Rattle.htmd_shown.specs.Roles as roles
use Rattle.htmd_shown.specs.Showings.{code_shows, show, show_usual_sign}
use Rattle.htmd_shown.specs.SimpleTrees.{Simple, text, image, formula, embedded, anchor, element, Simples, none, more}
use Rattle.htmd_shown.specs.Spaces.{is_blank_text}
use Rattle.htmd_flow.specs.Contexts.{Context, has_elements, is_lined, inside_format}
use Rattle.htmd_flow.specs.Contexts.{inside_title, inside_link, in_code, unlinked, is_linked_to_part}
use Rattle.htmd_flow.specs.Contexts.{beside_code, in_one_line, deeper, run_in, apart}
use Rattle.htmd_flow.specs.Flows.{Node, Row, TermPart, gap, of_node, Element, flow_all, blocks_of, line_of, image_parts}
use Rattle.htmd_flow.specs.Flows.{math_block, math_in_line, formula_parts, embed_edge, embed_parts, box_parts}
use Rattle.htmd_flow.specs.Flows.{linked_by}
use Rattle.htmd_flow.specs.Flows.{between, heading_of, around_heading, heading_parts, quote_of, quote_parts, code_parts}
use Rattle.htmd_flow.specs.Flows.{verbatim_parts, start_of, near_parts}
use Rattle.htmd_flow.specs.Flows.{title_parts, parts_of, parts_of_child, is_cell}
use Rattle.htmd_flow.specs.Flows.{around_title, rich_table_at, term_parts, table_parts}
use Rattle.htmd_flow.specs.Flows.{described_parts, no_part, part_of, leads_to, row_with}
use Rattle.htmd_flow.specs.Flows.{node_of, nodes_of, nodes_below, terms_of, rows_among, rows_at, pieces_of, pieces_at}
use Rattle.htmd_flow.specs.Flows.{TablePiece, of_caption, of_row, captioned, element_part, open_attribute, titled}
use Rattle.htmd_flow.specs.Flows.{content_shows}
use Rattle.htmd_document.specs.declared.document.BlockElement.TheVariants as name
use Rattle.htmd_flow.specs.declared.table_form.TablePart.{TablePart}
use Rattle.htmd_flow.specs.Terms.{is_group}
use Rattle.htmd_flow.specs.Languages.{language_of_block}
use Rattle.htmd_flow.specs.Levels.{list_of}
use Rattle.htmd_flow.specs.Parts.{Around, Part, place, box, edge, whole}
use Rattle.htmd_law_settled.specs.Leaves.{Leaves}
use Rattle.htmd_law_settled.proofs.OrderedLeaves.{GivesOrder}
use Rattle.htmd_law_settled.proofs.OrderedTerms.{TermsInOrder}
use Rattle.htmd_law_settled.proofs.LeafLines.{AllCharacters, HaveBlocks, HasWhole, AllAround, AllParts}
use Rattle.htmd_law_settled.proofs.LeafLines.{parts-blocks, parts-line}
use Rattle.htmd_law_settled.proofs.LeafNodes.{parts-append, either-parts, apart-has, Gives, HasNode, AllNodes}
use Rattle.htmd_law_settled.proofs.LeafNodes.{deeper-fits, line-fits, list-parts-have, flow-has, AllTerms, terms-have}
use Rattle.htmd_law_settled.proofs.LeafNodes.{AllRows, space-has, table-has}
use Rattle.htmd_law_settled.proofs.ShownHeaders.{FillsCells, FillsBlocks, is_any_caption, of-table}
use Rattle.htmd_law_settled.proofs.LeafContexts.{either-fits, format-fits, link-fits, unlinked-fits, code-fits}
use Rattle.htmd_law_settled.proofs.LeafContexts.{beside-fits}
use Rattle.htmd_law_settled.proofs.LeafRich.{richly, details-has, figure-has, described-has, AllPieces, rich-table-has}
use Rattle.htmd_law_settled.proofs.LeafTitles.{table-title}
use lib.Utf8.{encode}

abbrev pub is_list_of_terms : Role → Bool
is_list_of_terms role.Terms = true
is_list_of_terms r = false

module _ (k : Leaves) where
  -- ---- trees

  abbrev pub HasTitle : Option (List ℕ) → Type 0
  HasTitle None = Unit {0}
  HasTitle (Some title) = k.format (Abbreviation title) ≡ true

  abbrev pub HasElement : Role → Type 0
  HasElement (role.Element g) = k.format (of_element g) ≡ true
  HasElement r = Unit {0}

  -- what is around the content of an element of this role
  pub record HasRole (r : Role) (attributes : List AttributePair) : Type 0 where
    pub link : roles.is_link r ≡ true
        → k.link (address (text_of (codes "href") attributes)) (title_of attributes) ≡ true
    pub title : roles.is_abbreviation r ≡ true → HasTitle (title_of attributes)
    pub element : HasElement r

  abbrev pub HasLines : List (List ℕ) → Type 0
  HasLines [] = Unit {0}
  HasLines (s ∷ lines) = AllCharacters k (chars s) × HasLines lines

  -- what is code if the element is verbatim
  pub record HasCode (attributes : List AttributePair) (content : Simples) : Type 0 where
    pub lines : HasLines (lines_of (with_line_feeds (all_text_among content)))
    pub block : (near : List (List AttributePair))
        → is_blank_text (with_line_feeds (all_text_among content)) ≡ false
        → k.code (language_of_block attributes (list_of content) near)
        (without_last_line_feed (with_line_feeds (all_text_among content))) ≡ true
    pub blank : code_shows content ≡ false → is_blank_text (with_line_feeds (all_text_among content)) ≡ true

  abbrev pub HasImage : Option (List ℕ) → List AttributePair → Type 0
  HasImage None attributes = AllCharacters k (chars (description_of attributes))
  HasImage (Some s) attributes = k.image (address s) (title_of attributes) (description_of attributes) ≡ true

  -- what is in it as the line of a heading
  abbrev pub HeadsLine : (Context → List Part) → Type 0
  HeadsLine parts = (c : Context) → c.is_flat ≡ true → k.heading (line_of (parts c)) ≡ true

  abbrev mutual
    pub HasTree : Simple → Type 0
    HasTree (text s) = AllCharacters k (chars s)
    HasTree (image o attributes) = HasImage o attributes
    HasTree (formula tex is_alone attributes) =
        AllCharacters k (chars (in_line tex))
        × (k.code (Some (codes "math")) (trimmed (with_line_feeds tex)) ≡ true)
    HasTree (embedded id s title attributes ids) = (k.link s None ≡ true) × AllCharacters k (chars title)
    HasTree (anchor id) = Unit {0}
    HasTree (element id r facts attributes content) =
        HasRole r attributes × HasCode attributes content × HaveTrees content
        × FillsCells (show false content) (flow_all (nodes_of content))
        × (is_any_caption r ≡ true → FillsBlocks (show false content) (flow_all (nodes_of content)))
        × (roles.is_heading r ≡ true → HeadsLine (flow_all (nodes_of content)))
        × (roles.is_title r ≡ true → GivesOrder (flow_all (nodes_of content)))
        × (is_list_of_terms r ≡ true → TermsInOrder (terms_of content))

    pub HaveTrees : Simples → Type 0
    HaveTrees none = Unit {0}
    HaveTrees (more t ts) = HasTree t × HaveTrees ts

  module _ (spaces : k.character space ≡ true) (dollars : k.character dollar_sign ≡ true)
      (formats : (g : declared_format.Format) → k.format (of_format g) ≡ true) where
    -- ---- leaves

    run-has : (s : List ℕ) → AllCharacters k (chars s) → Gives k (λ c. run_in c s ∷ [])
    run-has s h at c f = ((h, f.around), tt)

    dollar-has : AllCharacters k (chars (dollar_sign ∷ []))
    unfolding chars encode
    dollar-has = (refl, dollars, tt)

    between-has : (nodes : List Node) → AllNodes k nodes → Gives k (between (space ∷ []) nodes)
    between-has nodes h at c f =
        let one = run-has (space ∷ []) (space-has k spaces) at c f in
        parts-append k at (run_in c (space ∷ []) ∷ flow_all nodes c) (run_in c (space ∷ []) ∷ [])
        (parts-append k at (run_in c (space ∷ []) ∷ []) (flow_all nodes c) one (flow-has k spaces nodes h at c f))
        one

    image-has : (o : Option (List ℕ)) (attributes : List AttributePair) → HasImage o attributes
        → Gives k (image_parts o attributes)
    image-has (Some s) attributes h at c f = ((h, f.around), tt)
    image-has None attributes h at c f =
        either-parts k at (is_filled (description_of attributes)) (run_in c (description_of attributes) ∷ []) []
        (run-has (description_of attributes) h at c f) tt

    formula-has : (tex : List ℕ) (is_alone : Bool) → AllCharacters k (chars (in_line tex))
        → k.code (Some (codes "math")) (trimmed (with_line_feeds tex)) ≡ true
        → Gives k (formula_parts tex is_alone)
    formula-has tex is_alone h e at c f =
        either-parts k at (is_alone && not c.is_flat) (apart (whole (math_block tex) ∷ [])) (math_in_line tex c)
        (apart-has k at (whole (math_block tex) ∷ []) (e, tt))
        ((dollar-has, f.around), ((h, f.around), ((dollar-has, f.around), tt)))

    places-have : (at : ℕ) (ids : List (List ℕ)) (ps : List Part) → AllParts k at ps
        → AllParts k at (map place ids ++ ps)
    places-have at [] ps h = h
    places-have at (id ∷ ids) ps h = (tt, places-have at ids ps h)

    embed-has : (id : ℕ) (s title : List ℕ) (ids : List (List ℕ)) → k.link s None ≡ true
        → AllCharacters k (chars title) → Gives k (embed_parts id s title ids)
    embed-has id s title ids e h at c f =
        let d : Context = inside_link id s None c in
        by_edge (embed_edge c) (edge-has c.is_flat)
      where
        edge-has : (b : Bool) → AllParts k at ((if b then run_in c (space ∷ []) else edge) ∷ [])
        edge-has true = run-has (space ∷ []) (space-has k spaces) at c f
        edge-has false = (tt, tt)

        by_edge : (p : Part) → AllParts k at (p ∷ [])
            → AllParts k at ((p ∷ map place ids) ++ run_in (inside_link id s None c) title ∷ p ∷ [])
        by_edge p g = (
          g.0,
          places-have at ids (run_in (inside_link id s None c) title ∷ p ∷ [])
              ((h, (link-fits k at id s None c e f).around), g),
        )

    box-has : (at : ℕ) (attributes : List AttributePair) → AllParts k at (box_parts attributes)
    box-has at attributes =
        either-parts k at (is_any_case (codes "checkbox") (text_of (codes "type") attributes))
        (box (has_attribute (codes "checked") attributes) ∷ []) [] (tt, tt) tt

    -- ---- blocks

    heading-has : (at level : ℕ) (xs : Inlines) → HasWhole k xs → k.heading xs ≡ true
        → AllParts k at (heading_of level xs)
    heading-has at level no_inlines h g = tt
    heading-has at level (inline x xs) h g = ((h, g), tt)

    heading-parts-have : (level : ℕ) (facts : Facts) (nodes : List Node) → AllNodes k nodes
        → HeadsLine (flow_all nodes) → Gives k (heading_parts level facts nodes)
    heading-parts-have level facts nodes h g at c f =
        let d : Context = around_heading facts c in
        let fits =
        either-fits k at (facts.shows_sign && is_linked_to_part c) (unlinked c) c (unlinked-fits k at c f) f in
        let xs : Inlines = line_of (flow_all nodes (in_one_line d)) in
        apart-has k at (if c.is_flat then flow_all nodes c else heading_of level xs)
        (either-parts k at c.is_flat (flow_all nodes c) (heading_of level xs) (flow-has k spaces nodes h at c f)
        (heading-has at level xs (parts-line k spaces at (flow_all nodes (in_one_line d))
        (flow-has k spaces nodes h at (in_one_line d) (line-fits k at d fits))) (g (in_one_line d) refl)))

    quote-has : (at : ℕ) (bs : Blocks) → HaveBlocks k (suc at) bs → AllParts k at (quote_of bs)
    quote-has at no_blocks h = tt
    quote-has at (block b bs) h = (h, tt)

    quote-parts-have : (nodes : List Node) → AllNodes k nodes → Gives k (quote_parts nodes)
    quote-parts-have nodes h at c f =
        let inner : List Part = flow_all nodes (deeper c) in
        apart-has k at (if is_lined c then flow_all nodes c else quote_of (blocks_of false inner))
        (either-parts k at (is_lined c) (flow_all nodes c) (quote_of (blocks_of false inner))
        (flow-has k spaces nodes h at c f)
        (quote-has at (blocks_of false inner)
        (parts-blocks k spaces (suc at) false inner
        (flow-has k spaces nodes h (suc at) (deeper c) (deeper-fits k at c f)))))

    code-has : (at : ℕ) (lines : List (List ℕ)) (around : List Around) → HasLines lines → AllAround k around
        → AllParts k at (code_parts lines around)
    code-has at [] around h a = tt
    code-has at (s ∷ lines) around h a = ((h.0, a), (tt, code-has at lines around h.1 a))

    verbatim-has : (attributes : List AttributePair) (content : Simples) → HasCode attributes content
        → Gives k (verbatim_parts attributes content)
    verbatim-has attributes content h at c f = by_blank (is_blank_text s) refl
      where
        s : List ℕ
        s = with_line_feeds (all_text_among content)

        body : List Part
        body =
            apart (whole (code_block (language_of_block attributes (list_of content) c.near)
            (without_last_line_feed s)) ∷ [])

        by_blank : (b : Bool) → is_blank_text s ≡ b
            → AllParts k at
            (if b then edge ∷ [] else (if c.is_flat then edge ∷ code_parts (lines_of s) c.around else body))
        by_blank true e = (tt, tt)
        by_blank false e =
            either-parts k at c.is_flat (edge ∷ code_parts (lines_of s) c.around) body
            (tt, code-has at (lines_of s) c.around h.lines f.around)
            (apart-has k at (whole (code_block (language_of_block attributes (list_of content) c.near)
            (without_last_line_feed s)) ∷ []) (h.block c.near e, tt))

    -- ---- each kind

    module _ (e : Element) (coded : HasCode e.attributes e.content) (all : AllNodes k e.nodes)
        (table : AllRows k spaces e.rows) (pieces : AllPieces k e.pieces) (terms : AllTerms k spaces e.terms) where
      here : Gives k (flow_all e.nodes)
      here = flow-has k spaces e.nodes all

      blocks : Gives k (λ c. apart (flow_all e.nodes c))
      blocks at c f = apart-has k at (flow_all e.nodes c) (here at c f)

      near : Gives k (near_parts e)
      near at c f =
          apart-has k at (flow_all e.nodes (beside_code e.facts.pres e.attributes c))
          (here at (beside_code e.facts.pres e.attributes c) (beside-fits k at e.facts.pres e.attributes c f))

      title-around : (o : Option (List ℕ)) → HasTitle o → Gives k (λ c. flow_all e.nodes (inside_title o c))
      title-around None h at c f = here at c f
      title-around (Some title) h at c f = here at (inside_format (Abbreviation title) c)
          (format-fits k at (Abbreviation title) c h f)

      titles : Gives k (title_parts e)
      titles at c f =
          let b : Bool = has_elements c && is_linked_to_part c && show_usual_sign e.content in
          apart-has k at (flow_all e.nodes (around_title e.content c))
          (here at (around_title e.content c) (either-fits k at b (unlinked c) c (unlinked-fits k at c f) f))

      pub element-has : (r : Role) → HasRole r e.attributes
          → (roles.is_heading r ≡ true → HeadsLine (flow_all e.nodes))
          → (is_list_of_terms r ≡ true → TermsInOrder e.terms) → Gives k (parts_of r e)
      element-has (role.Format g) t l o at c f =
          here at (inside_format (of_format g) c) (format-fits k at (of_format g) c (formats g) f)
      element-has (role.Element g) t l o at c f =
          here at (inside_format (of_element g) c) (format-fits k at (of_element g) c t.element f)
      element-has role.Abbreviation t l o at c f = title-around (title_of e.attributes) (t.title refl) at c f
      element-has role.Code t l o at c f = here at (in_code c) (code-fits k at c f)
      element-has role.Typed t l o at c f = here at (in_code c) (code-fits k at c f)
      element-has role.Link t l o at c f =
          here at (linked_by e.id e.attributes c)
          (link-fits k at e.id (address (text_of (codes "href") e.attributes)) (title_of e.attributes) c (t.link refl)
          f)
      element-has role.Unlinked t l o at c f = here at (unlinked c) (unlinked-fits k at c f)
      element-has role.Target t l o at c f = here at c f
      element-has role.Plain t l o at c f = here at c f
      element-has role.Apart t l o at c f = between-has e.nodes all at c f
      element-has role.LineBreak t l o at c f = (tt, tt)
      element-has role.Input t l o at c f =
          parts-append k at (box_parts e.attributes) (flow_all e.nodes c) (box-has at e.attributes) (here at c f)
      element-has role.Anchors t l o at c f =
          either-parts k at c.is_flat (flow_all e.nodes c) (apart (flow_all e.nodes c)) (here at c f) (blocks at c f)
      element-has (role.Heading level) t l o at c f = heading-parts-have level e.facts e.nodes all (l refl) at c f
      element-has role.Preformatted t l o at c f = verbatim-has e.attributes e.content coded at c f
      element-has role.Verbatim t l o at c f = verbatim-has e.attributes e.content coded at c f
      element-has role.BlockQuote t l o at c f = quote-parts-have e.nodes all at c f
      element-has role.ThematicBreak t l o at c f = (tt, tt)
      element-has role.BulletList t l o at c f = list-parts-have k spaces None e.nodes all at c f
      element-has role.NumberedList t l o at c f =
          list-parts-have k spaces (Some (start_of e.attributes)) e.nodes all at c f
      element-has role.Terms t l o at c f =
          richly k spaces at c f (described_parts e.terms c) (term_parts e.terms e.nodes c)
          (λ rich some. described-has k spaces rich e.terms terms (o refl) at c f some)
          (λ plain. terms-have k spaces e.terms e.nodes terms all at c f)
      element-has role.Table t l o at c f =
          richly k spaces at c f (rich_table_at e c) (table_parts (list_of e.content) e.nodes e.rows c)
          (λ rich some.
          rich-table-has k spaces rich (list_of e.content) e.attributes e.pieces e.nodes pieces all at c f some)
          (λ plain. table-has k spaces (list_of e.content) e.nodes e.rows all table at c f plain)
      element-has role.Division t l o at c f = near at c f
      element-has role.Figure t l o at c f =
          let d : Context = beside_code e.facts.pres e.attributes c in
          let fits = beside-fits k at e.facts.pres e.attributes c f in
          apart-has k at (if has_elements d then captioned e.nodes d else flow_all e.nodes d)
          (richly k spaces at d fits (captioned e.nodes d) (flow_all e.nodes d)
          (λ rich some. figure-has k spaces rich e.nodes all at d fits some) (λ plain. here at d fits))
      element-has role.Details t l o at c f =
          let inner : List Part =
          element_part name.Details (open_attribute e.attributes) (blocks_of false (titled name.Summary e.nodes c)) in
          apart-has k at (if has_elements c then inner else flow_all e.nodes c)
          (richly k spaces at c f inner (flow_all e.nodes c)
          (λ rich some. details-has k spaces rich e.attributes e.nodes all at c f some) (λ plain. here at c f))
      element-has role.Term t l o at c f = titles at c f
      element-has role.Caption t l o at c f = titles at c f
      element-has role.FigureCaption t l o at c f = titles at c f
      element-has role.Summary t l o at c f = titles at c f
      element-has role.Cell t l o at c f = near at c f
      element-has r t l o at c f = blocks at c f

    -- ---- nodes of trees

    rows-append : (rs qs : List Row) → AllRows k spaces rs → AllRows k spaces qs → AllRows k spaces (rs ++ qs)
    rows-append [] qs g h = h
    rows-append (r ∷ rs) qs g h = (g.0, rows-append rs qs g.1 h)

    either-rows : (b : Bool) (rs qs : List Row) → AllRows k spaces rs → AllRows k spaces qs
        → AllRows k spaces (if b then rs else qs)
    either-rows true rs qs g h = g
    either-rows false rs qs g h = h

    either-nodes : (b : Bool) (ns ms : List Node) → AllNodes k ns → AllNodes k ms
        → AllNodes k (if b then ns else ms)
    either-nodes true ns ms g h = g
    either-nodes false ns ms g h = h

    cells-have : (nodes : List Node) → AllNodes k nodes → AllNodes k (filter is_cell nodes)
    cells-have [] h = tt
    cells-have (n ∷ nodes) h =
        let rest = cells-have nodes h.1 in
        either-nodes (is_cell n) (n ∷ filter is_cell nodes) (filter is_cell nodes) (h.0, rest) rest

    terms-append : (ps qs : List TermPart) → AllTerms k spaces ps → AllTerms k spaces qs
        → AllTerms k spaces (ps ++ qs)
    terms-append [] qs g h = h
    terms-append (p ∷ ps) qs g h = (g.0, terms-append ps qs g.1 h)

    nodes-terms : (nodes : List Node) → AllNodes k nodes → AllTerms k spaces (map of_node nodes)
    nodes-terms [] h = tt
    nodes-terms (n ∷ nodes) h = (h.0, nodes-terms nodes h.1)

    grouped : (b : Bool) (n : Node) (nodes : List Node) → HasNode k n → AllNodes k nodes
        → AllTerms k spaces (if b then gap ∷ map of_node nodes ++ gap ∷ [] else of_node n ∷ [])
    grouped true n nodes g h = (tt, terms-append (map of_node nodes) (gap ∷ []) (nodes-terms nodes h) (tt, tt))
    grouped false n nodes g h = (g, tt)

    pieces-append : (ps qs : List TablePiece) → AllPieces k ps → AllPieces k qs → AllPieces k (ps ++ qs)
    pieces-append [] qs g h = h
    pieces-append (of_caption n ∷ ps) qs g h = (g.0, pieces-append ps qs g.1 h)
    pieces-append (of_row r ∷ ps) qs g h = (g.0, pieces-append ps qs g.1 h)

    rows-pieces : (rows : List Row) → AllRows k spaces rows → AllPieces k (map of_row rows)
    rows-pieces [] h = tt
    rows-pieces (r ∷ rows) h = (h.0, rows-pieces rows h.1)

    either-pieces : (b : Bool) (n : Node) (rows : List Row) → HasNode k n
        → (b ≡ true → FillsBlocks (content_shows n.tree) n.content)
        → (b ≡ true → has roles.is_title n.tree ≡ true) → AllRows k spaces rows
        → AllPieces k (if b then of_caption n ∷ [] else map of_row rows)
    either-pieces true n rows g f t h = ((g, f refl, t refl), tt)
    either-pieces false n rows g f t h = rows-pieces rows h

    unshown : {A : Type 0} → false ≡ true → A
    unshown e = absurd (false≢true e)

    mutual
      unfolding node_of

      node-has : (t : Simple) → HasTree t → HasNode k (node_of t)
      node-has (text s) h =
          record {
            whole = run-has s h;
            content = λ at c f. tt;
            shown = unshown;
            filled = unshown;
            ordered = unshown;
          }
      node-has (image o attributes) h =
          record {
            whole = image-has o attributes h;
            content = λ at c f. tt;
            shown = unshown;
            filled = unshown;
            ordered = unshown;
          }
      node-has (formula tex is_alone attributes) h =
          record {
            whole = formula-has tex is_alone h.0 h.1;
            content = λ at c f. tt;
            shown = unshown;
            filled = unshown;
            ordered = unshown;
          }
      node-has (embedded id s title attributes ids) h =
          record {
            whole = embed-has id s title ids h.0 h.1;
            content = λ at c f. tt;
            shown = unshown;
            filled = unshown;
            ordered = unshown;
          }
      node-has (anchor id) h = record
          { whole = λ at c f. (tt, tt); content = λ at c f. tt; shown = unshown; filled = unshown; ordered = unshown }
      node-has (element id r facts attributes content) h = record {
        whole = element-has (record {
          id = id;
          facts = facts;
          attributes = attributes;
          content = content;
          nodes = nodes_of content;
          rows = rows_among no_part content;
          pieces = pieces_of content;
          terms = terms_of content;
        }) h.1 (nodes-have content h.2) (rows-have no_part content h.2) (pieces-have content h.2)
            (child-terms content h.2) r h.0 h.5 h.7;
        content = flow-has k spaces (nodes_of content) (nodes-have content h.2);
        shown = h.3;
        filled = h.4;
        ordered = h.6;
      }

      pub nodes-have : (ts : Simples) → HaveTrees ts → AllNodes k (nodes_of ts)
      nodes-have none h = tt
      nodes-have (more t ts) h = (node-has t h.0, nodes-have ts h.1)

      below-have : (t : Simple) → HasTree t → AllNodes k (nodes_below t)
      below-have (element id r facts attributes content) h = nodes-have content h.2
      below-have (text s) h = tt
      below-have (image o attributes) h = tt
      below-have (formula tex is_alone attributes) h = tt
      below-have (embedded id s title attributes ids) h = tt
      below-have (anchor id) h = tt

      child-terms : (ts : Simples) → HaveTrees ts → AllTerms k spaces (terms_of ts)
      child-terms none h = tt
      child-terms (more t ts) h =
          terms-append (parts_of_child (node_of t) (nodes_below t)) (terms_of ts)
          (grouped (is_group (node_of t).tree) (node_of t) (nodes_below t) (node-has t h.0) (below-have t h.0))
          (child-terms ts h.1)

      pieces-have : (ts : Simples) → HaveTrees ts → AllPieces k (pieces_of ts)
      pieces-have none h = tt
      pieces-have (more t ts) h =
          pieces-append (pieces_at (node_of t) (rows_at no_part t)) (pieces_of ts)
          (either-pieces (has roles.is_caption (node_of t).tree) (node_of t) (rows_at no_part t) (node-has t h.0)
          (λ e. (node-has t h.0).filled (of-table (node_of t).tree e)) (table-title (node_of t).tree)
          (row-have no_part t h.0)) (pieces-have ts h.1)

      rows-have : (p : TablePart) (ts : Simples) → HaveTrees ts → AllRows k spaces (rows_among p ts)
      rows-have p none h = tt
      rows-have p (more t ts) h =
          rows-append (rows_at p t) (rows_among p ts) (row-have p t h.0) (rows-have p ts h.1)

      row-have : (p : TablePart) (t : Simple) → HasTree t → AllRows k spaces (rows_at p t)
      row-have p (element id r facts attributes content) h =
          let t : Simple = element id r facts attributes content in
          let inner : List Row = rows_among (part_of t) content in
          either-rows (has roles.is_row t) (row_with p (nodes_of content)) (if leads_to p t then inner else [])
          (cells-have (nodes_of content) (nodes-have content h.2), tt)
          (either-rows (leads_to p t) inner [] (rows-have (part_of t) content h.2) tt)
      row-have p (text s) h = tt
      row-have p (image o attributes) h = tt
      row-have p (formula tex is_alone attributes) h = tt
      row-have p (embedded id s title attributes ids) h = tt
      row-have p (anchor id) h = tt

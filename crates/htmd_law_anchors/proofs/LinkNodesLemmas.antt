-- The links of what nodes give are those around what shows: what follows each other, lists of terms, and tables.
use Rattle.std.proofs.Common.{◌≡◌, ℕ, zero, suc, Bool, true, false, cond, not, ◌||◌, List, [], ◌∷◌, ◌++◌, map, refl}
use Rattle.std.proofs.Common.{◌&&◌, ap}
use Rattle.std.proofs.Common.{◌∙◌, fold, length, take, drop, subst, sym, Option, Some, None}
use Rattle.std.specs.Prelude.{ℤ, nat_lt}
use Rattle.std.specs.List.{list_any, flat_map}
use Rattle.htmd_lexical.specs.Characters.{space}
use Rattle.htmd_document.specs.Documents.{Block}
use Rattle.htmd_shown.specs.declared.role.Role.{Role}
use Rattle.htmd_shown.specs.declared.role.Role.TheVariants as role
use Rattle.htmd_shown.specs.Kinds.{has, content_of}
use Rattle.htmd_shown.specs.Roles as roles
use Rattle.htmd_shown.specs.Showings.{show_usual_sign}
use Rattle.htmd_shown.specs.SimpleTrees as simple
use Rattle.htmd_shown.specs.SimpleTrees.{Simple}
use Rattle.htmd_shown.specs.Spaces.{is_blank_text}
use Rattle.htmd_flow.specs.Contexts.{Context, has_elements, is_lined, is_linked_to_part, unlinked, deeper, apart}
use Rattle.htmd_flow.specs.Contexts.{in_one_line}
use Rattle.htmd_flow.specs.Flows.{Node, Row, TermPart, gap, of_node, is_item, before_items, behind_item, item_of}
use Rattle.htmd_flow.specs.Flows.{items_of, each_whole, list_parts, goes_on, items_in_a_row, flow_all, flow_after}
use Rattle.htmd_flow.specs.Flows.{has_role, beside_terms, within_item, Terms, no_terms, item_with, onto_last, with_term}
use Rattle.htmd_flow.specs.Flows.{with_parts, after_node, with_node, with_part, term_item, items_of_terms, list_of_terms}
use Rattle.htmd_flow.specs.Flows.{term_parts, is_grid, caption_in_one_line, captions_in_one_line, cell_in_one_line}
use Rattle.htmd_flow.specs.Flows.{row_in_one_line, rows_in_one_line, before_row, grid_in_one_line, caption_apart}
use Rattle.htmd_flow.specs.Flows.{captions_among, cell_of, row_of, filled_rows, block_part, table_block, grid_inside}
use Rattle.htmd_flow.specs.Flows.{table_parts, around_title, around_node, within}
use Rattle.htmd_flow.specs.Grids as grid
use Rattle.htmd_flow.specs.Lists.{ListItem, lists_if_filled}
use Rattle.htmd_flow.specs.Paragraphs.{Writing, begun}
use Rattle.htmd_flow.specs.Parts.{Around, formatted, linked, Part, run, edge}
use Rattle.htmd_law_documents.proofs.ElementLemmas.{false-true, true-false}
use Rattle.htmd_law_anchors.proofs.LinkWritingLemmas.{Well, GoodParts, all-well, begun-well, blocks-in-links}
use Rattle.htmd_law_anchors.proofs.LinkWritingLemmas.{parts-append, parts-apart, parts-either, blocks-good, line-good}
use Rattle.htmd_law_anchors.proofs.LinkPartLemmas.{AllItems, lists-good, GoodCells, GoodRows, GoodOption, table-good}
use lib.Utf8.{encode}
use Rattle.std.specs.Str.{chars}

-- ---- what stands around

-- this link, or none
abbrev pub At : Option (List ℕ) → List Around → Type 0
At link [] = link ≡ None
At link (formatted format ∷ around) = At link around
At link (linked node address title ∷ around) = (link ≡ Some address) × At None around

pub record In (rich : Bool) (link : Option (List ℕ)) (flat : Bool) (c : Context) : Type 0 where
  pub around : At link c.around
  pub line : c.is_flat ≡ flat
  pub is : c.is_rich ≡ rich

pub in-deeper : (rich : Bool) (link : Option (List ℕ)) (flat : Bool) (c : Context) → In rich link flat c
    → In rich link flat (deeper c)
in-deeper rich link flat c i = record { around = i.around; line = i.line; is = i.is }

pub in-line : (rich : Bool) (link : Option (List ℕ)) (flat : Bool) (c : Context) → In rich link flat c
    → In rich link true (in_one_line c)
in-line rich link flat c i = record { around = i.around; line = refl; is = i.is }

-- ---- kinds

-- roles of which what is in them is taken alone
abbrev pub is_inner : Role → Bool
is_inner role.Item = true
is_inner role.Term = true
is_inner role.Meaning = true
is_inner role.Caption = true
is_inner role.Cell = true
is_inner role.HeaderCell = true
is_inner role.FigureCaption = true
is_inner role.Summary = true
is_inner _ = false

pub item-inner : (r : Role) → roles.is_item r ≡ true → is_inner r ≡ true
item-inner role.Item e = refl
item-inner r e = false-true e

pub term-inner : (r : Role) → roles.is_term r ≡ true → is_inner r ≡ true
term-inner role.Term e = refl
term-inner r e = false-true e

pub meaning-inner : (r : Role) → roles.is_meaning r ≡ true → is_inner r ≡ true
meaning-inner role.Meaning e = refl
meaning-inner r e = false-true e

pub caption-inner : (r : Role) → roles.is_caption r ≡ true → is_inner r ≡ true
caption-inner role.Caption e = refl
caption-inner r e = false-true e

item-untitled : (r : Role) → roles.is_item r ≡ true → roles.is_title r ≡ false
item-untitled role.Item e = refl
item-untitled r e = false-true e

meaning-untitled : (r : Role) → roles.is_meaning r ≡ true → roles.is_title r ≡ false
meaning-untitled role.Meaning e = refl
meaning-untitled r e = false-true e

pub has-none : (p q : Role → Bool) → ((r : Role) → p r ≡ true → q r ≡ false) → (t : Simple)
    → has p t ≡ true
    → has q t ≡ false
has-none p q f (simple.element id r facts attributes content) e = f r e
has-none p q f t e = false-true e

-- a title stands in what is around it, in a document that isn't rich, or in one line
around-plain : (t : Simple) (c : Context) → has_elements c ≡ false → around_node t c ≡ c
around-plain t c e = either (has roles.is_title t)
  where
    either : (b : Bool) → cond b (around_title (content_of t) c) c ≡ c
    either true =
        ap (λ b. cond (b && is_linked_to_part c && show_usual_sign (content_of t)) (unlinked c) c) e
    either false = refl

around-other : (t : Simple) (c : Context) → has roles.is_title t ≡ false → around_node t c ≡ c
around-other t c e = ap (λ b. cond b (around_title (content_of t) c) c) e

pub has-more : (p q : Role → Bool) → ((r : Role) → p r ≡ true → q r ≡ true) → (t : Simple)
    → has p t ≡ true
    → has q t ≡ true
has-more p q f (simple.element id r facts attributes content) e = f r e
has-more p q f t e = false-true e

module _ (Is : List ℕ → Type 0) (rich : Bool) (link : Option (List ℕ)) where
  -- what it gives there is good
  abbrev pub Gives : Bool → (Context → List Part) → Type 0
  Gives flat parts = (c : Context) → In rich link flat c → GoodParts Is (parts c)

  -- the same where no element stands
  abbrev pub GivesPlain : Bool → (Context → List Part) → Type 0
  GivesPlain flat parts = (c : Context) → In rich link flat c → has_elements c ≡ false → GoodParts Is (parts c)

  pub record NodeGood (flat : Bool) (n : Node) : Type 0 where
    pub whole : Gives flat n.whole
    pub content : has is_inner n.tree ≡ true → Gives flat (within n)

  plain-content : (n : Node) (c : Context) → has_elements c ≡ false → GoodParts Is (within n c)
      → GoodParts Is (n.content c)
  plain-content n c e h = subst (λ (d : Context). GoodParts Is (n.content d)) (around-plain n.tree c e) h

  pub other-content : (n : Node) (c : Context) → has roles.is_title n.tree ≡ false → GoodParts Is (within n c)
      → GoodParts Is (n.content c)
  other-content n c e h = subst (λ (d : Context). GoodParts Is (n.content d)) (around-other n.tree c e) h

  abbrev pub AllNodes : Bool → List Node → Type 0
  AllNodes flat [] = Unit {0}
  AllNodes flat (n ∷ nodes) = NodeGood flat n × AllNodes flat nodes

  module _ (flat : Bool) where
    each-good : (nodes : List Node) → AllNodes flat nodes → Gives flat (each_whole nodes)
    each-good [] h c i = tt
    each-good (n ∷ nodes) h c i =
        parts-append Is (n.whole c) (each_whole nodes c) (h.0.whole c i) (each-good nodes h.1 c i)

    -- ---- lists

    before-good : (nodes : List Node) → AllNodes flat nodes → Gives flat (before_items nodes)
    before-good [] h c i = tt
    before-good (n ∷ nodes) h c i =
        parts-either Is (is_item n) [] (n.whole c ++ before_items nodes c) (λ e. tt)
        (λ e. parts-append Is (n.whole c) (before_items nodes c) (h.0.whole c i) (before-good nodes h.1 c i))

    behind-good : (nodes : List Node) → AllNodes flat nodes → Gives flat (behind_item nodes)
    behind-good [] h c i = tt
    behind-good (n ∷ nodes) h c i =
        parts-either Is (is_item n) [] (edge ∷ n.whole c ++ behind_item nodes c) (λ e. tt)
        (λ e. parts-append Is (edge ∷ n.whole c) (behind_item nodes c) (tt, h.0.whole c i)
        (behind-good nodes h.1 c i))

    either-items : (b : Bool) (xs ys : List ListItem) → (b ≡ true → AllItems Is xs) → AllItems Is ys
        → AllItems Is (cond b xs ys)
    either-items true xs ys g h = g refl
    either-items false xs ys g h = h

    item-content : (n : Node) (c : Context) → is_item n ≡ true → NodeGood flat n → In rich link flat c
        → GoodParts Is (n.content c)
    item-content n c e h i =
        other-content n c (has-none roles.is_item roles.is_title item-untitled n.tree e)
        (h.content (has-more roles.is_item is_inner item-inner n.tree e) c i)

    items-good : (nodes : List Node) → AllNodes flat nodes → (c : Context) → In rich link flat c
        → AllItems Is (items_of nodes c)
    items-good [] h c i = tt
    items-good (n ∷ nodes) h c i =
        let parts : List Part = n.content c ++ behind_item nodes c in
        let rest : AllItems Is (items_of nodes c) = items-good nodes h.1 c i in
        either-items (is_item n) (item_of n parts ∷ items_of nodes c) (items_of nodes c)
        (λ e. (
          blocks-good Is true parts
              (parts-append Is (n.content c) (behind_item nodes c)
              (item-content n c e h.0 i) (behind-good nodes h.1 c i)),
          rest,
        )) rest

    between-edges : (front lists : List Part) → GoodParts Is front → GoodParts Is lists
        → GoodParts Is ((edge ∷ front) ++ edge ∷ lists ++ edge ∷ [])
    between-edges front lists g h =
        parts-append Is ((edge ∷ front) ++ edge ∷ lists) (edge ∷ [])
        (parts-append Is (edge ∷ front) (edge ∷ lists) (tt, g) (tt, h)) (tt, tt)

    pub list-parts-good : (start : Option ℤ) (nodes : List Node) → AllNodes flat nodes
        → Gives flat (list_parts start nodes)
    list-parts-good start nodes h c i =
        let items : List ListItem = items_of nodes (deeper c) in
        let lists : List Part = lists_if_filled c.nested start items in
        parts-either Is (is_lined c) (apart (each_whole nodes c))
        ((edge ∷ before_items nodes c) ++ edge ∷ lists ++ edge ∷ [])
        (λ e. parts-apart Is (each_whole nodes c) (each-good nodes h c i))
        (λ e. between-edges (before_items nodes c) lists (before-good nodes h c i)
        (lists-good Is c.nested start items (items-good nodes h (deeper c) (in-deeper rich link flat c i))))

    -- ---- what follows each other

    either-row : (b : Bool) (n : Node) (nodes : List Node) → NodeGood flat n → AllNodes flat nodes
        → AllNodes flat (cond b (n ∷ nodes) [])
    either-row true n nodes g h = (g, h)
    either-row false n nodes g h = tt

    row-good : (nodes : List Node) → AllNodes flat nodes → AllNodes flat (items_in_a_row nodes)
    row-good [] h = tt
    row-good (n ∷ nodes) h = either-row (goes_on n) n (items_in_a_row nodes) h.0 (row-good nodes h.1)

    mutual
      pub flow-good : (nodes : List Node) → AllNodes flat nodes → Gives flat (flow_all nodes)
      flow-good [] h c i = tt
      flow-good (n ∷ nodes) h c i =
          let items : List Node = n ∷ items_in_a_row nodes in
          parts-either Is (is_item n) (list_parts None items c ++ flow_after nodes c) (n.whole c ++ flow_all nodes c)
          (λ e. parts-append Is (list_parts None items c) (flow_after nodes c)
          (list-parts-good None items (h.0, row-good nodes h.1) c i) (after-good nodes h.1 c i))
          (λ e. parts-append Is (n.whole c) (flow_all nodes c) (h.0.whole c i) (flow-good nodes h.1 c i))

      after-good : (nodes : List Node) → AllNodes flat nodes → Gives flat (flow_after nodes)
      after-good [] h c i = tt
      after-good (n ∷ nodes) h c i =
          parts-either Is (goes_on n) (flow_after nodes c) (n.whole c ++ flow_all nodes c)
          (λ e. after-good nodes h.1 c i)
          (λ e. parts-append Is (n.whole c) (flow_all nodes c) (h.0.whole c i) (flow-good nodes h.1 c i))

    -- ---- terms

    abbrev pub GoodTerm : TermPart → Type 0
    GoodTerm gap = Unit {0}
    GoodTerm (of_node n) = NodeGood flat n

    abbrev pub GoodTerms : List TermPart → Type 0
    GoodTerms [] = Unit {0}
    GoodTerms (p ∷ parts) = GoodTerm p × GoodTerms parts

    pub terms-append : (ps qs : List TermPart) → GoodTerms ps → GoodTerms qs → GoodTerms (ps ++ qs)
    terms-append [] qs g h = h
    terms-append (p ∷ ps) qs g h = (g.0, terms-append ps qs g.1 h)

    pub nodes-terms : (nodes : List Node) → AllNodes flat nodes → GoodTerms (map of_node nodes)
    nodes-terms [] h = tt
    nodes-terms (n ∷ nodes) h = (h.0, nodes-terms nodes h.1)

    abbrev AreWell : List Writing → Type 0
    AreWell [] = Unit {0}
    AreWell (w ∷ ws) = Well Is w × AreWell ws

    item-well : (ps : List Part) → GoodParts Is ps → Well Is (item_with ps)
    item-well ps h = all-well Is ps (begun true false) h (begun-well Is true false)

    last-well : (ws : List Writing) (ps : List Part) → AreWell ws → GoodParts Is ps → AreWell (onto_last ws ps)
    last-well [] ps h f = (item-well ps f, tt)
    last-well (w ∷ []) ps h f = (all-well Is ps w f h.0, tt)
    last-well (w ∷ next ∷ ws) ps h f = (h.0, last-well (next ∷ ws) ps h.1 f)

    next-well : (ws : List Writing) (ps : List Part) → AreWell ws → GoodParts Is ps
        → AreWell (ws ++ item_with ps ∷ [])
    next-well [] ps h f = (item-well ps f, tt)
    next-well (w ∷ ws) ps h f = (h.0, next-well ws ps h.1 f)

    either-well : (b : Bool) (vs ws : List Writing) → AreWell vs → AreWell ws → AreWell (cond b vs ws)
    either-well true vs ws g h = g
    either-well false vs ws g h = h

    well-items : (ws : List Writing) → AreWell ws → AllItems Is (map term_item ws)
    well-items [] h = tt
    well-items (w ∷ ws) h = (blocks-in-links Is w h.0, well-items ws h.1)

    record TermsGood (t : Terms) : Type 0 where
      before : GoodParts Is t.before
      items : AreWell t.items

    either-terms : (b : Bool) (t u : Terms) → (b ≡ true → TermsGood t) → TermsGood u → TermsGood (cond b t u)
    either-terms true t u g h = g refl
    either-terms false t u g h = h

    with-parts : (t : Terms) (ps qs : List Part) → TermsGood t → GoodParts Is ps → GoodParts Is qs
        → TermsGood (with_parts t ps qs)
    with-parts t ps qs h f g =
        either-terms (nat_lt 0 (length t.items)) (record t { items = onto_last t.items ps })
        (record t { before = t.before ++ qs })
        (λ e. record { before = h.before; items = last-well t.items ps h.items f })
        (record { before = parts-append Is t.before qs h.before g; items = h.items })

    beside-good : (n : Node) → NodeGood flat n → Gives flat (beside_terms n)
    beside-good n h c i =
        parts-either Is (has roles.is_meaning n.tree) (apart (n.content c)) (cond (is_item n) (n.content c) (n.whole c))
        (λ e. parts-apart Is (n.content c)
        (other-content n c (has-none roles.is_meaning roles.is_title meaning-untitled n.tree e)
        (h.content (has-more roles.is_meaning is_inner meaning-inner n.tree e) c i)))
        (λ e. parts-either Is (is_item n) (n.content c) (n.whole c) (λ k. item-content n c k h i) (λ k. h.whole c i))

    within-good : (n : Node) → NodeGood flat n → Gives flat (within_item n)
    within-good n h c i =
        parts-either Is (has roles.is_meaning n.tree) (beside_terms n c) (edge ∷ beside_terms n c)
        (λ e. beside-good n h c i) (λ e. (tt, beside-good n h c i))

    module _ (c : Context) (i : In rich link flat c) (plain : has_elements c ≡ false) where
      node-terms : (has_meanings : Bool) (t : Terms) (n : Node) → NodeGood flat n → TermsGood t
          → TermsGood (with_node has_meanings c t n)
      node-terms has_meanings t n k h =
          let d : Context = deeper c in
          let j : In rich link flat d = in-deeper rich link flat c i in
          either-terms (has roles.is_term n.tree) (with_term has_meanings t (apart (n.content d)))
          (with_parts (after_node t n) (within_item n d) (beside_terms n c))
          (λ e.
          let parts : GoodParts Is (apart (n.content d)) =
          parts-apart Is (n.content d)
          (plain-content n d plain (k.content (has-more roles.is_term is_inner term-inner n.tree e) d j)) in
          record {
            before = h.before;
            items = either-well t.goes_on (onto_last t.items (apart (n.content d)))
                (t.items ++ item_with (apart (n.content d)) ∷ [])
                (last-well t.items (apart (n.content d)) h.items parts)
                (next-well t.items (apart (n.content d)) h.items parts);
          })
          (with-parts (after_node t n) (within_item n d) (beside_terms n c)
          (record { before = h.before; items = h.items }) (within-good n k d j) (beside-good n k c i))

      part-terms : (has_meanings : Bool) (t : Terms) (p : TermPart) → GoodTerm p → TermsGood t
          → TermsGood (with_part has_meanings c t p)
      part-terms has_meanings t gap k h = record { before = h.before; items = h.items }
      part-terms has_meanings t (of_node n) k h = node-terms has_meanings t n k h

      all-terms : (has_meanings : Bool) (ps : List TermPart) (t : Terms) → GoodTerms ps → TermsGood t
          → TermsGood (fold (with_part has_meanings c) t ps)
      all-terms has_meanings [] t k h = h
      all-terms has_meanings (p ∷ ps) t k h =
          all-terms has_meanings ps (with_part has_meanings c t p) k.1 (part-terms has_meanings t p k.0 h)

      terms-list : (t : Terms) → TermsGood t → GoodParts Is (list_of_terms c t)
      terms-list t h =
          between-edges t.before (lists_if_filled c.nested None (items_of_terms t)) h.before
          (lists-good Is c.nested None (items_of_terms t) (well-items t.items h.items))

    pub term-parts-good : (parts : List TermPart) (nodes : List Node) → GoodTerms parts → AllNodes flat nodes
        → GivesPlain flat (term_parts parts nodes)
    term-parts-good parts nodes k h c i plain =
        let has_meanings : Bool = list_any (has_role roles.is_meaning) parts in
        let t : Terms = fold (with_part has_meanings c) no_terms parts in
        parts-either Is (is_lined c || not (list_any (has_role roles.is_term) parts)) (apart (flow_all nodes c))
        (list_of_terms c t)
        (λ e. parts-apart Is (flow_all nodes c) (flow-good nodes h c i))
        (λ e. terms-list c i plain t (all-terms c i plain has_meanings parts no_terms k
        (record { before = tt; items = tt })))

  -- ---- tables

  abbrev pub CellsGood : List Node → Type 0
  CellsGood [] = Unit {0}
  CellsGood (n ∷ nodes) = Gives true n.content × CellsGood nodes

  abbrev pub RowsGood : List Row → Type 0
  RowsGood [] = Unit {0}
  RowsGood (row ∷ rows) = CellsGood row.cells × RowsGood rows

  pub rows-append : (xs ys : List Row) → RowsGood xs → RowsGood ys → RowsGood (xs ++ ys)
  rows-append [] ys g h = h
  rows-append (x ∷ xs) ys g h = (g.0, rows-append xs ys g.1 h)

  -- the captions among nodes
  abbrev pub CaptionsGood : Bool → List Node → Type 0
  CaptionsGood flat [] = Unit {0}
  CaptionsGood flat (n ∷ nodes) =
      (has roles.is_caption n.tree ≡ true → Gives flat (within n)) × CaptionsGood flat nodes

  captions-take : (flat : Bool) (k : ℕ) (nodes : List Node) → CaptionsGood flat nodes
      → CaptionsGood flat (take k nodes)
  captions-take flat zero nodes h = tt
  captions-take flat (suc k) [] h = tt
  captions-take flat (suc k) (n ∷ nodes) h = (h.0, captions-take flat k nodes h.1)

  captions-drop : (flat : Bool) (k : ℕ) (nodes : List Node) → CaptionsGood flat nodes
      → CaptionsGood flat (drop k nodes)
  captions-drop flat zero nodes h = h
  captions-drop flat (suc k) [] h = tt
  captions-drop flat (suc k) (n ∷ nodes) h = captions-drop flat k nodes h.1

  line-captions : (flat : Bool) (nodes : List Node) → CaptionsGood flat nodes
      → GivesPlain flat (captions_in_one_line nodes)
  line-captions flat [] h c i p = tt
  line-captions flat (n ∷ nodes) h c i p =
      parts-append Is (caption_in_one_line c n) (captions_in_one_line nodes c)
      (parts-either Is (has roles.is_caption n.tree) (n.content c ++ edge ∷ []) []
      (λ e. parts-append Is (n.content c) (edge ∷ []) (plain-content n c p (h.0 e c i)) (tt, tt)) (λ e. tt))
      (line-captions flat nodes h.1 c i p)

  captions-apart : (flat : Bool) (nodes : List Node) → CaptionsGood flat nodes
      → GivesPlain flat (captions_among nodes)
  captions-apart flat [] h c i p = tt
  captions-apart flat (n ∷ nodes) h c i p =
      parts-append Is (caption_apart c n) (captions_among nodes c)
      (parts-either Is (has roles.is_caption n.tree) (apart (n.content c)) []
      (λ e. parts-apart Is (n.content c) (plain-content n c p (h.0 e c i))) (λ e. tt))
      (captions-apart flat nodes h.1 c i p)

  pub space-blank : is_blank_text (space ∷ []) ≡ false → ⊥
  unfolding chars encode
  space-blank e = true-false e

  cells-in-line : (nodes : List Node) → CellsGood nodes → Gives true (λ c. flat_map (cell_in_one_line c) nodes)
  cells-in-line [] h c i = tt
  cells-in-line (n ∷ nodes) h c i =
      parts-append Is (cell_in_one_line c n) (flat_map (cell_in_one_line c) nodes)
      (parts-append Is (n.content c) (run (space ∷ []) c.around false ∷ []) (h.0 c i)
      ((λ e. absurd (space-blank e)), tt))
      (cells-in-line nodes h.1 c i)

  rows-in-line : (rows : List Row) → RowsGood rows → Gives true (rows_in_one_line rows)
  rows-in-line [] h c i = tt
  rows-in-line (row ∷ rows) h c i =
      parts-append Is (row_in_one_line c row) (rows_in_one_line rows c)
      (parts-append Is (flat_map (cell_in_one_line c) row.cells) (edge ∷ []) (cells-in-line row.cells h.0 c i)
      (tt, tt))
      (rows-in-line rows h.1 c i)

  one-line-good : (nodes : List Node) (rows : List Row) → CaptionsGood true nodes → RowsGood rows
      → GivesPlain true (grid_in_one_line nodes rows)
  one-line-good nodes rows h g c i p =
      let k : ℕ = before_row nodes in
      let first : List Part = captions_in_one_line (take k nodes) c in
      let last : List Part = captions_in_one_line (drop k nodes) c in
      parts-append Is (first ++ rows_in_one_line rows c) last
      (parts-append Is first (rows_in_one_line rows c)
      (line-captions true (take k nodes) (captions-take true k nodes h) c i p) (rows-in-line rows g c i))
      (line-captions true (drop k nodes) (captions-drop true k nodes h) c i p)

  cell-lines : (c : Context) → In rich link true (in_one_line c) → (cells : List Node) → CellsGood cells
      → GoodCells Is (map (cell_of c) cells)
  cell-lines c i [] h = tt
  cell-lines c i (n ∷ cells) h =
      (line-good Is (n.content (in_one_line c)) (h.0 (in_one_line c) i), cell-lines c i cells h.1)

  row-cells : (c : Context) → In rich link true (in_one_line c) → (rows : List Row) → RowsGood rows
      → GoodRows Is (map (row_of c) rows)
  row-cells c i [] h = tt
  row-cells c i (row ∷ rows) h = (cell-lines c i row.cells h.0, row-cells c i rows h.1)

  rows-filled : (rows : List grid.Row) → GoodRows Is rows → GoodRows Is (filled_rows rows)
  rows-filled [] h = tt
  rows-filled (row ∷ rows) h = either (nat_lt 0 (length row.cells)) (rows-filled rows h.1)
    where
      either : (b : Bool) → GoodRows Is (filled_rows rows)
          → GoodRows Is (cond b (row ∷ filled_rows rows) (filled_rows rows))
      either true g = (h.0, g)
      either false g = g

  pub option-good : (o : Option Block) → GoodOption Is o → GoodParts Is (block_part o)
  option-good None h = tt
  option-good (Some b) h = (h, tt)

  grid-good : (flat : Bool) (nodes : List Node) (rows : List Row) → CaptionsGood flat nodes → RowsGood rows
      → GivesPlain flat (grid_inside nodes rows)
  grid-good flat nodes rows h g c i p =
      let k : ℕ = before_row nodes in
      let first : List Part = captions_among (take k nodes) c in
      let last : List Part = captions_among (drop k nodes) c in
      let block : List Part = block_part (table_block rows c) in
      let made : List grid.Row = map (row_of c) rows in
      parts-append Is ((first ++ edge ∷ block) ++ edge ∷ last) (edge ∷ [])
      (parts-append Is (first ++ edge ∷ block) (edge ∷ last)
      (parts-append Is first (edge ∷ block)
      (captions-apart flat (take k nodes) (captions-take flat k nodes h) c i p) (
        tt,
        option-good (table_block rows c)
            (table-good Is (filled_rows made) (rows-filled made (row-cells c (in-line rich link flat c i) rows g))),
      ))
      (tt, captions-apart flat (drop k nodes) (captions-drop flat k nodes h) c i p)) (tt, tt)

  -- a table is one of rows and columns, whose cells stand in lines, or what is in it
  pub table-parts-good : (flat : Bool) (trees : List Simple) (nodes : List Node) (rows : List Row)
      → (is_grid trees rows ≡ true → CaptionsGood flat nodes × RowsGood rows)
      → (is_grid trees rows ≡ false → AllNodes flat nodes) → GivesPlain flat (table_parts trees nodes rows)
  table-parts-good flat trees nodes rows g h c i p =
      parts-either Is (is_grid trees rows)
      (edge ∷ (cond c.is_flat (grid_in_one_line nodes rows c) (grid_inside nodes rows c))) (apart (flow_all nodes c))
      (λ e. (
        tt,
        parts-either Is c.is_flat (grid_in_one_line nodes rows c) (grid_inside nodes rows c)
            (λ k. one-line-good nodes rows
            (subst (λ (b : Bool). CaptionsGood b nodes) (sym i.line ∙ k) (g e).0) (g e).1 c
            (record { around = i.around; line = k; is = i.is }) p)
            (λ k. grid-good flat nodes rows (g e).0 (g e).1 c i p),
      ))
      (λ e. parts-apart Is (flow_all nodes c) (flow-good flat nodes (h e) c i))

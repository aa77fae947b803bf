-- Nodes whose leaves are of a kind give such parts: what follows each other, lists, terms, and tables.
use Rattle.std.proofs.Common.{◌≡◌, ℕ, zero, suc, ◌-◌, Bool, true, false, not, ◌||◌, List, [], ◌∷◌, ◌++◌}
use Rattle.std.proofs.Common.{map, fold, take, drop, length, refl, sym, ap, ◌∙◌, subst, Option, Some, None, ◌+◌, ◌&&◌}
use Rattle.std.specs.Prelude.{ℤ, pos, negsuc, if◌then◌else◌, nat_lt, nat_le, get_or, replicate, ◌==◌}
use Rattle.std.specs.List.{list_any, list_all, flat_map}
use Rattle.std.proofs.lemmas.Bool.{or_right, and_parts, and_from, true≢false}
use Rattle.htmd_lexical.specs.Characters.{space}
use Rattle.std.specs.Str.{chars}
use Rattle.htmd_document.specs.declared.document.Alignment.{Alignment}
use Rattle.htmd_document.specs.DocumentLimits.{greatest_start}
use Rattle.htmd_document.specs.Documents.{Inlines, no_inlines, Block, Items}
use Rattle.htmd_document.specs.NormalDocuments.{item_count}
use Rattle.htmd_document.specs.FlatDocuments.{flattened}
use Rattle.htmd_document.specs.TightItems.{is_tight_item}
use Rattle.htmd_document.specs.Documents as documents
use Rattle.htmd_lexical.proofs.Cases.{test}
use Rattle.htmd_flow.specs.Contexts.{Context, has_elements, is_lined, deeper, apart, in_one_line}
use Rattle.htmd_flow.specs.Flows.{Node, Row, TermPart, gap, of_node, is_item, before_items, behind_item, item_of}
use Rattle.htmd_flow.specs.Flows.{items_of, each_whole, list_parts, goes_on, items_in_a_row, flow_all, flow_after}
use Rattle.htmd_flow.specs.Flows.{block_part, has_role, beside_terms, within_item, Terms, no_terms, item_with}
use Rattle.htmd_flow.specs.Flows.{onto_last}
use Rattle.htmd_flow.specs.Flows.{with_term, with_parts, after_node, with_node, with_part, term_item, items_of_terms}
use Rattle.htmd_flow.specs.Flows.{list_of_terms, term_parts, is_grid, caption_in_one_line, captions_in_one_line}
use Rattle.htmd_flow.specs.Flows.{cell_in_one_line, row_in_one_line, rows_in_one_line, before_row, grid_in_one_line}
use Rattle.htmd_flow.specs.Flows.{caption_apart, captions_among, cell_of, row_of, filled_rows, table_block, grid_inside}
use Rattle.htmd_flow.specs.Flows.{table_parts, content_shows}
use Rattle.htmd_flow.specs.Grids as grid
use Rattle.htmd_flow.specs.Lists.{ListItem, are_filled, list_of, numbered, start_of, Groups, groups_at, with_number}
use Rattle.htmd_flow.specs.Lists.{from_one, greatest_in, is_close, is_lone, is_tight, holds_paragraph}
use Rattle.htmd_flow.specs.Lists.{new_number, with_item, lists_of, lists_if_filled}
use Rattle.htmd_flow.specs.Paragraphs.{Writing, begun}
use Rattle.htmd_flow.specs.Parts.{Part, run, edge}
use Rattle.htmd_shown.specs.Kinds.{has}
use Rattle.htmd_shown.specs.Roles as roles
use Rattle.htmd_shown.specs.SimpleTrees.{Simple}
use Rattle.htmd_law_returning.specs.SettledDocuments.{is_right_list, are_tight_items, stay_tight, show_loose}
use Rattle.htmd_law_returning.specs.SettledDocuments.{has_fitting_numbers, shows_last_column, shows_header}
use Rattle.htmd_law_settled.specs.Leaves.{Leaves}
use Rattle.htmd_law_settled.proofs.LastColumns.{last-shown}
use Rattle.htmd_law_settled.proofs.ShownHeaders.{FillsCells, FillsBlocks, is_any_caption}
use Rattle.htmd_law_settled.proofs.LeafLines.{AllCharacters, HasWhole, nothing-whole, HaveCells, HaveRows, HasBlock}
use Rattle.htmd_law_settled.proofs.OrderedLeaves.{GivesOrder}
use Rattle.htmd_law_settled.proofs.LeafLines.{HaveBlocks, HaveItems, AllowsElements}
use Rattle.htmd_law_settled.proofs.LeafLines.{AllAround, AllParts, HasWriting, begun-has, all-fed, writing-blocks}
use Rattle.htmd_law_settled.proofs.LeafLines.{parts-blocks, parts-line}
use lib.Utf8.{encode}

module _ (k : Leaves) where
  -- ---- parts

  pub parts-append : (at : ℕ) (ps qs : List Part) → AllParts k at ps → AllParts k at qs
      → AllParts k at (ps ++ qs)
  parts-append at [] qs g h = h
  parts-append at (p ∷ ps) qs g h = (g.0, parts-append at ps qs g.1 h)

  pub either-parts : (at : ℕ) (b : Bool) (ps qs : List Part) → AllParts k at ps → AllParts k at qs
      → AllParts k at (if b then ps else qs)
  either-parts at true ps qs g h = g
  either-parts at false ps qs g h = h

  pub apart-has : (at : ℕ) (ps : List Part) → AllParts k at ps → AllParts k at (apart ps)
  apart-has at ps h = (tt, parts-append at ps (edge ∷ []) h (tt, tt))

  -- ---- nodes

  -- a table whose last column shows may be so, in a rich document if something shows in its header
  abbrev pub MayHaveTables : Bool → Type 0
  MayHaveTables is_rich = (header : List Inlines) (rows : List (List Inlines))
      → shows_last_column header rows ≡ true
      → (is_rich ≡ true → shows_header header ≡ true) → k.table header rows ≡ true

  -- elements in rich documents alone, such formats and links around, and so many lists and quotes
  pub record FitsIn (at : ℕ) (c : Context) : Type 0 where
    pub around : AllAround k c.around
    pub rich : c.is_rich ≡ true → AllowsElements k
    pub nested : c.nested ≡ at
    pub tables : MayHaveTables c.is_rich

  abbrev pub Gives : (Context → List Part) → Type 0
  Gives parts = (at : ℕ) (c : Context) → FitsIn at c → AllParts k at (parts c)

  pub record HasNode (n : Node) : Type 0 where
    pub whole : Gives n.whole
    pub content : Gives n.content
    pub shown : FillsCells (content_shows n.tree) n.content
    pub filled : has is_any_caption n.tree ≡ true → FillsBlocks (content_shows n.tree) n.content
    pub ordered : has roles.is_title n.tree ≡ true → GivesOrder n.content

  abbrev pub AllNodes : List Node → Type 0
  AllNodes [] = Unit {0}
  AllNodes (n ∷ nodes) = HasNode n × AllNodes nodes

  pub deeper-fits : (at : ℕ) (c : Context) → FitsIn at c → FitsIn (suc at) (deeper c)
  deeper-fits at c f = record { around = f.around; rich = f.rich; nested = ap suc f.nested; tables = f.tables }

  pub line-fits : (at : ℕ) (c : Context) → FitsIn at c → FitsIn at (in_one_line c)
  line-fits at c f = record { around = f.around; rich = f.rich; nested = f.nested; tables = f.tables }

  -- ---- lists

  abbrev AllItems : ℕ → List ListItem → Type 0
  AllItems at [] = Unit {0}
  AllItems at (i ∷ items) = HaveBlocks k at i.blocks × AllItems at items

  items-append : (at : ℕ) (is js : List ListItem) → AllItems at is → AllItems at js → AllItems at (is ++ js)
  items-append at [] js g h = h
  items-append at (i ∷ is) js g h = (g.0, items-append at is js g.1 h)

  abbrev items_in : List ListItem → Items
  items_in items = documents.items_of (map (λ (i : ListItem). i.blocks) items)

  list-items : (at : ℕ) (items : List ListItem) → AllItems at items → HaveItems k at (items_in items)
  list-items at [] h = tt
  list-items at (i ∷ items) h = (h.0, list-items at items h.1)

  list-count : (items : List ListItem) → item_count (items_in items) ≡ length items
  list-count [] = refl
  list-count (i ∷ items) = ap suc (list-count items)

  -- an item by which a list isn't tight shows that it is loose
  item-shows : (i : ListItem) → is_close i ≡ false
      → (holds_paragraph i.blocks || not (is_tight_item (flattened i.blocks))) ≡ true
  item-shows i e = by (holds_paragraph i.blocks) (is_tight_item (flattened i.blocks)) i.has_paragraph e
    where
      by : (p t has : Bool) → (not (has && p) && t) ≡ false → (p || not t) ≡ true
      by true t has e = refl
      by false false has e = refl
      by false true false e = absurd (true≢false e)
      by false true true e = absurd (true≢false e)

  all-show : (items : List ListItem) → list_all is_close items ≡ false → show_loose (items_in items) ≡ true
  all-show [] e = absurd (true≢false e)
  all-show (i ∷ items) e =
      let first : Bool = holds_paragraph i.blocks || not (is_tight_item (flattened i.blocks)) in
      test (is_close i)
      (λ q.
      ap (λ b. first || b) (all-show items (sym (ap (λ b. b && list_all is_close items) q) ∙ e))
      ∙ or_right first true refl) (λ q. ap (λ b. b || show_loose (items_in items)) (item-shows i q))

  -- items by which a list is tight may stand in one
  all-tight : (items : List ListItem) → list_all is_close items ≡ true → are_tight_items (items_in items) ≡ true
  all-tight [] e = refl
  all-tight (i ∷ items) e =
      let parts = and_parts (is_close i) (list_all is_close items) e in
      let own = and_parts (not (i.has_paragraph && holds_paragraph i.blocks)) (is_tight_item (flattened i.blocks))
      parts.0 in
      and_from (is_tight_item (flattened i.blocks)) (are_tight_items (items_in items)) own.1 (all-tight items parts.1)

  close-stay : (items : List ListItem) → list_all is_close items ≡ true → stay_tight (items_in items) ≡ true
  close-stay [] e = refl
  close-stay (i ∷ []) e = refl
  close-stay (i ∷ j ∷ items) e = all-tight (i ∷ j ∷ items) e

  lone-stays : (items : List ListItem) → is_lone items ≡ true → stay_tight (items_in items) ≡ true
  lone-stays [] e = refl
  lone-stays (i ∷ []) e = refl
  lone-stays (i ∷ j ∷ items) e = absurd (true≢false (sym e))

  right-list : (items : List ListItem) → is_right_list (is_tight items) (items_in items) ≡ true
  right-list items = by (is_lone items) (list_all is_close items) refl refl
    where
      by : (lone close : Bool) → is_lone items ≡ lone → list_all is_close items ≡ close
          → is_right_list (lone || close) (items_in items) ≡ true
      by true close l e = lone-stays items l
      by false true l e = close-stay items e
      by false false l e = all-show items e

  list-has : (at : ℕ) (start : Option ℕ) (items : List ListItem) → AllItems (suc at) items
      → has_fitting_numbers at start (length items) ≡ true → AllParts k at (list_of start items ∷ [])
  list-has at start items h e = (
    (
      (
        right-list items,
        ap (has_fitting_numbers at start) (list-count items) ∙ e,
      ),
      list-items (suc at) items h,
    ),
    tt,
  )

  -- from 1 on all fit
  one-fits : (at count : ℕ) → has_fitting_numbers at (from_one count) count ≡ true
  one-fits at count = by (nat_le count greatest_start)
    where
      by : (b : Bool) → has_fitting_numbers at (if b then Some 1 else None) count ≡ true
      by true = refl
      by false = refl

  start-fits : (at : ℕ) (start : ℤ) (count : ℕ)
      → has_fitting_numbers at (start_of at start count) count ≡ true
  start-fits at (pos n) count = by (nat_le (n + count) (greatest_in at + 1)) refl
    where
      by : (b : Bool) → nat_le (n + count) (greatest_in at + 1) ≡ b
          → has_fitting_numbers at (if b then Some n else from_one count) count ≡ true
      by true e = ap (λ b. n == 1 || b) e ∙ or_right (n == 1) true refl
      by false e = one-fits at count
  start-fits at (negsuc n) count = one-fits at count

  numbered-has : (at : ℕ) (start : ℤ) (items : List ListItem) → AllItems (suc at) items
      → AllParts k at (numbered at start items)
  numbered-has at start items h =
      either-parts at (are_filled items) (list_of (start_of at start (length items)) items ∷ []) []
      (list-has at (start_of at start (length items)) items h (start-fits at start (length items))) tt

  record HasGroups (at : ℕ) (g : Groups) : Type 0 where
    nested : g.nested ≡ at
    done : AllParts k at g.done
    group : AllItems (suc at) g.group

  last-group : (at : ℕ) (g : Groups) → HasGroups at g → AllParts k at (numbered g.nested g.start g.group)
  last-group at g h =
      subst (λ n. AllParts k at (numbered n g.start g.group)) (sym h.nested) (numbered-has at g.start g.group h.group)

  number-has : (at : ℕ) (o : Option ℤ) (g : Groups) (i : ListItem) → HasGroups at g
      → HaveBlocks k (suc at) i.blocks → HasGroups at (with_number g i o)
  number-has at None g i h f = record {
    nested = h.nested;
    done = h.done;
    group = items-append (suc at) g.group (i ∷ []) h.group (f, tt);
  }
  number-has at (Some v) g i h f = record {
    nested = h.nested;
    done = parts-append at g.done (numbered g.nested g.start g.group) h.done (last-group at g h);
    group = (f, tt);
  }

  groups-have : (at : ℕ) (items : List ListItem) (g : Groups) → HasGroups at g → AllItems (suc at) items
      → HasGroups at (fold with_item g items)
  groups-have at [] g h f = h
  groups-have at (i ∷ items) g h f =
      groups-have at items (with_item g i) (number-has at (new_number g.next i.value) g i h f.0) f.1

  lists-of-have : (at : ℕ) (start : Option ℤ) (items : List ListItem) → AllItems (suc at) items
      → AllParts k at (lists_of at start items)
  lists-of-have at None items h = list-has at None items h refl
  lists-of-have at (Some start) items h =
      let g : Groups = fold with_item (groups_at at start) items in
      let all = groups-have at items (groups_at at start) (record { nested = refl; done = tt; group = tt }) h in
      parts-append at g.done (numbered g.nested g.start g.group) all.done (last-group at g all)

  -- where so many lists and quotes are said to be around
  lists-have : (at : ℕ) (c : Context) → FitsIn at c → (start : Option ℤ) (items : List ListItem)
      → AllItems (suc at) items → AllParts k at (lists_if_filled c.nested start items)
  lists-have at c f start items h =
      either-parts at (are_filled items) (lists_of c.nested start items) []
      (subst (λ n. AllParts k at (lists_of n start items)) (sym f.nested) (lists-of-have at start items h)) tt

  -- a list between edges, after what comes before it
  between-edges : (at : ℕ) (front lists : List Part) → AllParts k at front → AllParts k at lists
      → AllParts k at ((edge ∷ front) ++ edge ∷ lists ++ edge ∷ [])
  between-edges at front lists g h =
      parts-append at ((edge ∷ front) ++ edge ∷ lists) (edge ∷ [])
      (parts-append at (edge ∷ front) (edge ∷ lists) (tt, g) (tt, h)) (tt, tt)

  module _ (spaces : k.character space ≡ true) where
    -- ---- what follows each other

    each-has : (nodes : List Node) → AllNodes nodes → Gives (each_whole nodes)
    each-has [] h at c f = tt
    each-has (n ∷ nodes) h at c f = parts-append at (n.whole c) (each_whole nodes c) (h.0.whole at c f)
        (each-has nodes h.1 at c f)

    before-has : (nodes : List Node) → AllNodes nodes → Gives (before_items nodes)
    before-has [] h at c f = tt
    before-has (n ∷ nodes) h at c f =
        either-parts at (is_item n) [] (n.whole c ++ before_items nodes c) tt
        (parts-append at (n.whole c) (before_items nodes c) (h.0.whole at c f) (before-has nodes h.1 at c f))

    behind-item-has : (nodes : List Node) → AllNodes nodes → Gives (behind_item nodes)
    behind-item-has [] h at c f = tt
    behind-item-has (n ∷ nodes) h at c f =
        either-parts at (is_item n) [] (edge ∷ n.whole c ++ behind_item nodes c) tt
        (tt, parts-append at (n.whole c) (behind_item nodes c) (h.0.whole at c f) (behind-item-has nodes h.1 at c f))

    either-items : (at : ℕ) (b : Bool) (is js : List ListItem) → AllItems at is → AllItems at js
        → AllItems at (if b then is else js)
    either-items at true is js g h = g
    either-items at false is js g h = h

    items-have : (nodes : List Node) → AllNodes nodes → (at : ℕ) (c : Context) → FitsIn at c
        → AllItems at (items_of nodes c)
    items-have [] h at c f = tt
    items-have (n ∷ nodes) h at c f =
        let parts : List Part = n.content c ++ behind_item nodes c in
        let rest = items-have nodes h.1 at c f in
        either-items at (is_item n) (item_of n parts ∷ items_of nodes c) (items_of nodes c) (
          parts-blocks k spaces at true parts
              (parts-append at (n.content c) (behind_item nodes c) (h.0.content at c f)
              (behind-item-has nodes h.1 at c f)),
          rest,
        )
        rest

    pub list-parts-have : (start : Option ℤ) (nodes : List Node) → AllNodes nodes → Gives (list_parts start nodes)
    list-parts-have start nodes h at c f =
        let items : List ListItem = items_of nodes (deeper c) in
        let lists : List Part = lists_if_filled c.nested start items in
        either-parts at (is_lined c) (apart (each_whole nodes c))
        ((edge ∷ before_items nodes c) ++ edge ∷ lists ++ edge ∷ [])
        (apart-has at (each_whole nodes c) (each-has nodes h at c f))
        (between-edges at (before_items nodes c) lists (before-has nodes h at c f)
        (lists-have at c f start items (items-have nodes h (suc at) (deeper c) (deeper-fits at c f))))

    either-nodes : (b : Bool) (ns ms : List Node) → AllNodes ns → AllNodes ms → AllNodes (if b then ns else ms)
    either-nodes true ns ms g h = g
    either-nodes false ns ms g h = h

    row-has : (nodes : List Node) → AllNodes nodes → AllNodes (items_in_a_row nodes)
    row-has [] h = tt
    row-has (n ∷ nodes) h =
        either-nodes (goes_on n) (n ∷ items_in_a_row nodes) [] (h.0, row-has nodes h.1) tt

    mutual
      pub flow-has : (nodes : List Node) → AllNodes nodes → Gives (flow_all nodes)
      flow-has [] h at c f = tt
      flow-has (n ∷ nodes) h at c f =
          let items : List Node = n ∷ items_in_a_row nodes in
          either-parts at (is_item n) (list_parts None items c ++ flow_after nodes c) (n.whole c ++ flow_all nodes c)
          (parts-append at (list_parts None items c) (flow_after nodes c)
          (list-parts-have None items (h.0, row-has nodes h.1) at c f) (after-has nodes h.1 at c f))
          (parts-append at (n.whole c) (flow_all nodes c) (h.0.whole at c f) (flow-has nodes h.1 at c f))

      after-has : (nodes : List Node) → AllNodes nodes → Gives (flow_after nodes)
      after-has [] h at c f = tt
      after-has (n ∷ nodes) h at c f =
          either-parts at (goes_on n) (flow_after nodes c) (n.whole c ++ flow_all nodes c) (after-has nodes h.1 at c f)
          (parts-append at (n.whole c) (flow_all nodes c) (h.0.whole at c f) (flow-has nodes h.1 at c f))

    -- ---- terms

    abbrev pub HasTerm : TermPart → Type 0
    HasTerm gap = Unit {0}
    HasTerm (of_node n) = HasNode n

    abbrev pub AllTerms : List TermPart → Type 0
    AllTerms [] = Unit {0}
    AllTerms (p ∷ ps) = HasTerm p × AllTerms ps

    abbrev AllBegun : ℕ → List Writing → Type 0
    AllBegun at [] = Unit {0}
    AllBegun at (w ∷ ws) = HasWriting k spaces at w × AllBegun at ws

    item-has : (at : ℕ) (ps : List Part) → AllParts k at ps → HasWriting k spaces at (item_with ps)
    item-has at ps h = all-fed k spaces at (begun true false) ps (begun-has k spaces at true false) h

    last-has : (at : ℕ) (ws : List Writing) (ps : List Part) → AllBegun at ws → AllParts k at ps
        → AllBegun at (onto_last ws ps)
    last-has at [] ps h f = (item-has at ps f, tt)
    last-has at (w ∷ []) ps h f = (all-fed k spaces at w ps h.0 f, tt)
    last-has at (w ∷ next ∷ ws) ps h f = (h.0, last-has at (next ∷ ws) ps h.1 f)

    next-has : (at : ℕ) (ws : List Writing) (ps : List Part) → AllBegun at ws → AllParts k at ps
        → AllBegun at (ws ++ item_with ps ∷ [])
    next-has at [] ps h f = (item-has at ps f, tt)
    next-has at (w ∷ ws) ps h f = (h.0, next-has at ws ps h.1 f)

    either-begun : (at : ℕ) (b : Bool) (vs ws : List Writing) → AllBegun at vs → AllBegun at ws
        → AllBegun at (if b then vs else ws)
    either-begun at true vs ws g h = g
    either-begun at false vs ws g h = h

    begun-items : (at : ℕ) (ws : List Writing) → AllBegun at ws → AllItems at (map term_item ws)
    begun-items at [] h = tt
    begun-items at (w ∷ ws) h = (writing-blocks k spaces at w h.0, begun-items at ws h.1)

    -- what comes before the first item is less deep
    record HasTerms (at : ℕ) (t : Terms) : Type 0 where
      before : AllParts k at t.before
      items : AllBegun (suc at) t.items

    either-terms : (at : ℕ) (b : Bool) (t u : Terms) → HasTerms at t → HasTerms at u
        → HasTerms at (if b then t else u)
    either-terms at true t u g h = g
    either-terms at false t u g h = h

    beside-has : (n : Node) → HasNode n → Gives (beside_terms n)
    beside-has n h at c f =
        either-parts at (has roles.is_meaning n.tree) (apart (n.content c))
        (if is_item n then n.content c else n.whole c)
        (apart-has at (n.content c) (h.content at c f))
        (either-parts at (is_item n) (n.content c) (n.whole c) (h.content at c f) (h.whole at c f))

    within-has : (n : Node) → HasNode n → Gives (within_item n)
    within-has n h at c f =
        either-parts at (has roles.is_meaning n.tree) (beside_terms n c) (edge ∷ beside_terms n c)
        (beside-has n h at c f)
        (tt, beside-has n h at c f)

    module _ (has_meanings : Bool) (at : ℕ) (c : Context) (f : FitsIn at c) where
      d : FitsIn (suc at) (deeper c)
      d = deeper-fits at c f

      node-term : (t : Terms) (n : Node) → HasNode n → HasTerms at t → HasTerms at (with_node has_meanings c t n)
      node-term t n m h =
          let term : List Part = apart (n.content (deeper c)) in
          let inner : List Part = within_item n (deeper c) in
          let outer : List Part = beside_terms n c in
          let u : Terms = after_node t n in
          let one = apart-has (suc at) (n.content (deeper c)) (m.content (suc at) (deeper c) d) in
          either-terms at (has roles.is_term n.tree) (with_term has_meanings t term) (with_parts u inner outer)
          (record {
            before = h.before;
            items = either-begun (suc at) t.goes_on (onto_last t.items term) (t.items ++ item_with term ∷ [])
                (last-has (suc at) t.items term h.items one) (next-has (suc at) t.items term h.items one);
          })
          (either-terms at (nat_lt 0 (length u.items)) (record u { items = onto_last u.items inner })
          (record u { before = u.before ++ outer })
          (record {
            before = h.before;
            items =
                last-has (suc at) t.items inner h.items (within-has n m (suc at) (deeper c) d);
          })
          (record {
            before = parts-append at t.before outer h.before (beside-has n m at c f);
            items = h.items;
          }))

      part-term : (t : Terms) (p : TermPart) → HasTerm p → HasTerms at t
          → HasTerms at (with_part has_meanings c t p)
      part-term t gap m h = record { before = h.before; items = h.items }
      part-term t (of_node n) m h = node-term t n m h

      all-terms : (ps : List TermPart) (t : Terms) → AllTerms ps → HasTerms at t
          → HasTerms at (fold (with_part has_meanings c) t ps)
      all-terms [] t m h = h
      all-terms (p ∷ ps) t m h = all-terms ps (with_part has_meanings c t p) m.1 (part-term t p m.0 h)

    pub terms-have : (parts : List TermPart) (nodes : List Node) → AllTerms parts → AllNodes nodes
        → Gives (term_parts parts nodes)
    terms-have parts nodes m h at c f =
        let has_meanings : Bool = list_any (has_role roles.is_meaning) parts in
        let t : Terms = fold (with_part has_meanings c) no_terms parts in
        let all = all-terms has_meanings at c f parts no_terms m (record { before = tt; items = tt }) in
        let lists : List Part = lists_if_filled c.nested None (items_of_terms t) in
        either-parts at (is_lined c || not (list_any (has_role roles.is_term) parts)) (apart (flow_all nodes c))
        (list_of_terms c t) (apart-has at (flow_all nodes c) (flow-has nodes h at c f))
        (between-edges at t.before lists all.before
        (lists-have at c f None (items_of_terms t) (begun-items (suc at) t.items all.items)))

    -- ---- tables

    abbrev pub AllRows : List Row → Type 0
    AllRows [] = Unit {0}
    AllRows (r ∷ rows) = AllNodes r.cells × AllRows rows

    nodes-take : (n : ℕ) (nodes : List Node) → AllNodes nodes → AllNodes (take n nodes)
    nodes-take zero nodes h = tt
    nodes-take (suc n) [] h = tt
    nodes-take (suc n) (m ∷ nodes) h = (h.0, nodes-take n nodes h.1)

    nodes-drop : (n : ℕ) (nodes : List Node) → AllNodes nodes → AllNodes (drop n nodes)
    nodes-drop zero nodes h = h
    nodes-drop (suc n) [] h = tt
    nodes-drop (suc n) (m ∷ nodes) h = nodes-drop n nodes h.1

    -- what each node gives, one after the other
    each-gives : (parts : Context → Node → List Part) → ((n : Node) → HasNode n → Gives (λ c. parts c n))
        → (nodes : List Node) → AllNodes nodes → Gives (λ c. flat_map (parts c) nodes)
    each-gives parts one [] h at c f = tt
    each-gives parts one (n ∷ nodes) h at c f =
        parts-append at (parts c n) (flat_map (parts c) nodes) (one n h.0 at c f)
        (each-gives parts one nodes h.1 at c f)

    pub space-has : AllCharacters k (chars (space ∷ []))
    unfolding chars encode
    space-has = (refl, spaces, tt)

    line-caption : (n : Node) → HasNode n → Gives (λ c. caption_in_one_line c n)
    line-caption n h at c f =
        either-parts at (has roles.is_caption n.tree) (n.content c ++ edge ∷ []) []
        (parts-append at (n.content c) (edge ∷ []) (h.content at c f) (tt, tt)) tt

    line-cell : (n : Node) → HasNode n → Gives (λ c. cell_in_one_line c n)
    line-cell n h at c f =
        parts-append at (n.content c) (run (space ∷ []) c.around false ∷ []) (h.content at c f)
        ((space-has, f.around), tt)

    line-rows : (rows : List Row) → AllRows rows → Gives (rows_in_one_line rows)
    line-rows [] h at c f = tt
    line-rows (row ∷ rows) h at c f =
        parts-append at (row_in_one_line c row) (rows_in_one_line rows c)
        (parts-append at (flat_map (cell_in_one_line c) row.cells) (edge ∷ [])
        (each-gives cell_in_one_line line-cell row.cells h.0 at c f) (tt, tt)) (line-rows rows h.1 at c f)

    one-line-has : (nodes : List Node) (rows : List Row) → AllNodes nodes → AllRows rows
        → Gives (grid_in_one_line nodes rows)
    one-line-has nodes rows h g at c f =
        let n : ℕ = before_row nodes in
        let first : List Part = captions_in_one_line (take n nodes) c in
        let last : List Part = captions_in_one_line (drop n nodes) c in
        parts-append at (first ++ rows_in_one_line rows c) last
        (parts-append at first (rows_in_one_line rows c)
        (each-gives caption_in_one_line line-caption (take n nodes) (nodes-take n nodes h) at c f)
        (line-rows rows g at c f))
        (each-gives caption_in_one_line line-caption (drop n nodes) (nodes-drop n nodes h) at c f)

    apart-caption : (n : Node) → HasNode n → Gives (λ c. caption_apart c n)
    apart-caption n h at c f =
        either-parts at (has roles.is_caption n.tree) (apart (n.content c)) []
        (apart-has at (n.content c) (h.content at c f)) tt

    -- ---- rows and columns

    abbrev CellsOf : List grid.Cell → Type 0
    CellsOf [] = Unit {0}
    CellsOf (c ∷ cells) = HasWhole k c.content × CellsOf cells

    abbrev RowsOf : List grid.Row → Type 0
    RowsOf [] = Unit {0}
    RowsOf (r ∷ rows) = CellsOf r.cells × RowsOf rows

    cells-of : (at : ℕ) (c : Context) → FitsIn at c → (cells : List Node) → AllNodes cells
        → CellsOf (map (cell_of c) cells)
    cells-of at c f [] h = tt
    cells-of at c f (n ∷ cells) h = (
      parts-line k spaces at (n.content (in_one_line c))
          (h.0.content at (in_one_line c) (line-fits at c f)),
      cells-of at c f cells h.1,
    )

    rows-of : (at : ℕ) (c : Context) → FitsIn at c → (rows : List Row) → AllRows rows
        → RowsOf (map (row_of c) rows)
    rows-of at c f [] h = tt
    rows-of at c f (row ∷ rows) h = (cells-of at c f row.cells h.0, rows-of at c f rows h.1)

    either-rows-of : (b : Bool) (rows others : List grid.Row) → RowsOf rows → RowsOf others
        → RowsOf (if b then rows else others)
    either-rows-of true rows others g h = g
    either-rows-of false rows others g h = h

    rows-filled : (rows : List grid.Row) → RowsOf rows → RowsOf (filled_rows rows)
    rows-filled [] h = tt
    rows-filled (row ∷ rows) h =
        let rest = rows-filled rows h.1 in
        either-rows-of (nat_lt 0 (length row.cells)) (row ∷ filled_rows rows) (filled_rows rows) (h.0, rest) rest

    filled-has : (begins : List Bool) (cells : List grid.Cell) → CellsOf cells
        → HaveCells k (grid.filled begins cells)
    filled-has [] cells h = tt
    filled-has (true ∷ begins) (cell ∷ cells) h = (h.0, filled-has begins cells h.1)
    filled-has (true ∷ begins) [] h = (nothing-whole k, filled-has begins [] tt)
    filled-has (false ∷ begins) cells h = (nothing-whole k, filled-has begins cells h)

    all-filled : (shapes : List (List Bool)) (rows : List grid.Row) → RowsOf rows
        → HaveRows k (grid.filled_all shapes rows)
    all-filled [] rows h = tt
    all-filled (begins ∷ shapes) [] h = tt
    all-filled (begins ∷ shapes) (row ∷ rows) h = (filled-has begins row.cells h.0, all-filled shapes rows h.1)

    contents-have : (cells : List grid.Cell) → CellsOf cells
        → HaveCells k (map (λ (c : grid.Cell). c.content) cells)
    contents-have [] h = tt
    contents-have (c ∷ cells) h = (h.0, contents-have cells h.1)

    all-contents : (rows : List grid.Row) → RowsOf rows → HaveRows k (map grid.contents_of rows)
    all-contents [] h = tt
    all-contents (row ∷ rows) h = (contents-have row.cells h.0, all-contents rows h.1)

    either-lines : (b : Bool) (xs ys : List (List Inlines)) → HaveRows k xs → HaveRows k ys
        → HaveRows k (if b then xs else ys)
    either-lines true xs ys g h = g
    either-lines false xs ys g h = h

    either-cells : (b : Bool) (xs ys : List Inlines) → HaveCells k xs → HaveCells k ys
        → HaveCells k (if b then xs else ys)
    either-cells true xs ys g h = g
    either-cells false xs ys g h = h

    grid-has : (rows : List grid.Row) → RowsOf rows → HaveRows k (grid.grid rows)
    grid-has rows h =
        either-lines (grid.is_too_large rows) (map grid.contents_of rows) (grid.filled_all (grid.shapes_of rows) rows)
        (all-contents rows h) (all-filled (grid.shapes_of rows) rows h)

    with-cell : (cell : Inlines) (cells : List Inlines) → HasWhole k cell → HaveCells k cells
        → HaveCells k (grid.with_cell cell cells)
    with-cell cell [] g h = either-cells (grid.is_empty_cell cell) [] (cell ∷ []) tt (g, tt)
    with-cell cell (next ∷ cells) g h = (g, h)

    trimmed-has : (cells : List Inlines) → HaveCells k cells → HaveCells k (grid.trimmed_row cells)
    trimmed-has [] h = tt
    trimmed-has (cell ∷ cells) h = with-cell cell (grid.trimmed_row cells) h.0 (trimmed-has cells h.1)

    pub all-trimmed : (rows : List (List Inlines)) → HaveRows k rows → HaveRows k (map grid.trimmed_row rows)
    all-trimmed [] h = tt
    all-trimmed (row ∷ rows) h = (trimmed-has row h.0, all-trimmed rows h.1)

    cells-append : (xs ys : List Inlines) → HaveCells k xs → HaveCells k ys → HaveCells k (xs ++ ys)
    cells-append [] ys g h = h
    cells-append (x ∷ xs) ys g h = (g.0, cells-append xs ys g.1 h)

    empty-cells : (n : ℕ) → HaveCells k (replicate n no_inlines)
    empty-cells zero = tt
    empty-cells (suc n) = (nothing-whole k, empty-cells n)

    body-has : (rows : List (List Inlines)) → HaveRows k rows → HaveRows k (grid.body rows)
    body-has [] h = tt
    body-has (row ∷ rows) h =
        let rest = body-has rows h.1 in
        either-lines (nat_lt 0 (length row)) (row ∷ grid.body rows) (grid.body rows) (h.0, rest) rest

    first-row : (rows : List (List Inlines)) → HaveRows k rows → HaveCells k (get_or rows 0 [])
    first-row [] h = tt
    first-row (row ∷ rows) h = h.0

    other-rows : (rows : List (List Inlines)) → HaveRows k rows → HaveRows k (drop 1 rows)
    other-rows [] h = tt
    other-rows (row ∷ rows) h = h.1

    abbrev pub HasOption : ℕ → Option Block → Type 0
    HasOption at None = Unit {0}
    HasOption at (Some b) = HasBlock k at b

    pub table-of-has : (at : ℕ) (alignments : List Alignment) (has_header : Bool) (lines : List (List Inlines))
        → HaveRows k lines
        → ((grid.width lines == 0) ≡ false → k.table (grid.padded (grid.width lines)
        (if has_header then get_or lines 0 [] else [])) (grid.body (if has_header then drop 1 lines else lines))
        ≡ true)
        → HasOption at (grid.table_of alignments has_header lines)
    table-of-has at alignments has_header lines h shown =
        let columns : ℕ = grid.width lines in
        let header : List Inlines = if has_header then get_or lines 0 [] else [] in
        let rows : List (List Inlines) = if has_header then drop 1 lines else lines in
        test (columns == 0)
        (λ e. subst (HasOption at) (sym
        (ap (λ b. if b then None else Some (grid.table_in columns alignments has_header
        lines)) e)) tt)
        (λ e. subst (HasOption at) (sym
        (ap (λ b. if b then None else Some (grid.table_in columns alignments has_header
        lines)) e)) (
          cells-append header (replicate (columns - length header) no_inlines)
              (either-cells has_header (get_or lines 0 []) [] (first-row lines h) tt)
              (empty-cells (columns - length header)),
          body-has rows (either-lines has_header (drop 1 lines) lines (other-rows lines h) h),
          shown e,
        ))

    rows-table : (at : ℕ) (rows : List grid.Row) → MayHaveTables false → RowsOf rows
        → HasOption at (grid.table_of_rows rows)
    rows-table at [] may h = tt
    rows-table at (first ∷ rows) may h =
        table-of-has at (grid.alignments_of first) (grid.begins_with_header first)
        (map grid.trimmed_row (grid.grid (first ∷ rows)))
        (all-trimmed (grid.grid (first ∷ rows)) (grid-has (first ∷ rows) h))
        (λ e. may _ _ (last-shown (grid.begins_with_header first) (grid.grid (first ∷ rows)) e)
        (λ r. absurd (true≢false (sym r))))

    pub option-part : (at : ℕ) (o : Option Block) → HasOption at o → AllParts k at (block_part o)
    option-part at None h = tt
    option-part at (Some b) h = (h, tt)

    inside-has : (nodes : List Node) (rows : List Row) → AllNodes nodes → AllRows rows → (at : ℕ) (c : Context)
        → FitsIn at c → MayHaveTables false → AllParts k at (grid_inside nodes rows c)
    inside-has nodes rows h g at c f may =
        let n : ℕ = before_row nodes in
        let first : List Part = captions_among (take n nodes) c in
        let last : List Part = captions_among (drop n nodes) c in
        let made : List grid.Row = map (row_of c) rows in
        let block : List Part = block_part (table_block rows c) in
        parts-append at ((first ++ edge ∷ block) ++ edge ∷ last) (edge ∷ [])
        (parts-append at (first ++ edge ∷ block) (edge ∷ last)
        (parts-append at first (edge ∷ block)
        (each-gives caption_apart apart-caption (take n nodes) (nodes-take n nodes h) at c f) (
          tt,
          option-part at (table_block rows c)
              (rows-table at (filled_rows made) may (rows-filled made (rows-of at c f rows g))),
        ))
        (tt, each-gives caption_apart apart-caption (drop n nodes) (nodes-drop n nodes h) at c f)) (tt, tt)

    unrich : (is_rich is_flat : Bool) → (is_rich && not is_flat) ≡ false → is_flat ≡ false → is_rich ≡ false
    unrich true false e f = e
    unrich true true e f = absurd (true≢false f)
    unrich false is_flat e f = refl

    -- where there are no elements
    pub table-has : (trees : List Simple) (nodes : List Node) (rows : List Row) → AllNodes nodes → AllRows rows
        → (at : ℕ) (c : Context) → FitsIn at c → has_elements c ≡ false
        → AllParts k at (table_parts trees nodes rows c)
    table-has trees nodes rows h g at c f plain =
        let inside : List Part = if c.is_flat then grid_in_one_line nodes rows c else grid_inside nodes rows c in
        either-parts at (is_grid trees rows) (edge ∷ inside) (apart (flow_all nodes c))
        (tt, by-flat c.is_flat refl) (apart-has at (flow_all nodes c) (flow-has nodes h at c f))
      where
        by-flat : (b : Bool) → c.is_flat ≡ b
            → AllParts k at (if b then grid_in_one_line nodes rows c else grid_inside nodes rows c)
        by-flat true e = one-line-has nodes rows h g at c f
        by-flat false e =
            inside-has nodes rows h g at c f (subst MayHaveTables (unrich c.is_rich c.is_flat plain e) f.tables)

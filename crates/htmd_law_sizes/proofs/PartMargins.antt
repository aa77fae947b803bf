-- How wide the margin of what parts make is, with lists and terms: each list puts at most 69 bytes before a line.
use Rattle.std.proofs.Common.{◌≡◌, refl, ℕ, suc, ◌+◌, ◌*◌, ◌-◌, ◌<◌, ◌≤◌, Bool, true, false, List, [], ◌∷◌, ◌++◌}
use Rattle.std.proofs.Common.{length, map, arith}
use Rattle.std.proofs.lemmas.Bool.Decides.{nat_tests}
use Rattle.std.specs.Prelude.{◌&&◌, ◌||◌, max, nat_le, nat_lt, not, fold, if◌then◌else◌, Option}
use Rattle.std.specs.Prelude.{Some, None, ℤ}
use Rattle.std.specs.List.{list_any}
use Rattle.std.specs.Char.{encode_utf8}
use Rattle.std.specs.Str.{chars}
use Rattle.htmd_flow.specs.declared.paragraphs.Met.TheVariants as met
use Rattle.htmd_document.specs.Documents.{Inlines, no_inlines, inline, Block}
use Rattle.htmd_document.specs.Documents as documents
use Rattle.htmd_shown.specs.Attributes.{address}
use Rattle.htmd_shown.specs.Kinds.{has}
use Rattle.htmd_shown.specs.Roles as roles
use Rattle.htmd_shown.specs.Spaces.{is_white}
use Rattle.htmd_flow.specs.Contexts.{Context, is_lined}
use Rattle.htmd_flow.specs.Contexts.{deeper}
use Rattle.htmd_flow.specs.Contexts.{apart}
use Rattle.htmd_flow.specs.Flows.{Node, TermPart, gap, of_node, is_item, blocks_of}
use Rattle.htmd_flow.specs.Flows.{before_items, behind_item, item_of, items_of, each_whole, list_parts, goes_on}
use Rattle.htmd_flow.specs.Flows.{items_in_a_row, flow_all, flow_after, has_role, beside_terms, within_item, Terms}
use Rattle.htmd_flow.specs.Flows.{no_terms, item_with, onto_last, with_term, with_parts, after_node, with_node, with_part}
use Rattle.htmd_flow.specs.Flows.{term_item, items_of_terms, list_of_terms, term_parts}
use Rattle.htmd_flow.specs.Lists.{ListItem, are_filled, list_of, numbered, new_number, Groups}
use Rattle.htmd_flow.specs.Lists.{groups_at, with_number, with_item, lists_of, lists_if_filled}
use Rattle.htmd_flow.specs.Lists as lists
use Rattle.htmd_flow.specs.Nesting.{text_or_code}
use Rattle.htmd_flow.specs.Paragraphs.{Writing, begun, whole_content, paragraph_of, open_paragraph, ended, parted}
use Rattle.htmd_flow.specs.Paragraphs.{broken_off, spaced_out, after_leaf, is_task_here, boxed, with_task, tasked}
use Rattle.htmd_flow.specs.Paragraphs.{is_boxed_item, edged, blocked, after_character, fed, fed_all, blocks_in}
use Rattle.htmd_flow.specs.Parts.{Around, Part, run, picture, break, place, box, edge, whole}
use Rattle.htmd_law_sizes.specs.DocumentSizes.{width_of_marker, margin_of, margin_of_block, margin_of_items}
use Rattle.htmd_law_sizes.proofs.PieceBounds.{decimal_cost}

-- ---- parts

abbrev pub widest_of : Part → ℕ
widest_of (run s around is_code) = 0
widest_of (picture address title description around) = 0
widest_of break = 0
widest_of (place id) = 0
widest_of (box is_checked) = 0
widest_of edge = 0
widest_of (whole b) = margin_of_block b

abbrev pub widest : List Part → ℕ
widest [] = 0
widest (p ∷ parts) = max (widest_of p) (widest parts)

pub widest_append : (a b : List Part) → widest (a ++ b) ≡ max (widest a) (widest b)
widest_append [] b = omega arith
widest_append (p ∷ a) b = omega (arith, widest_append a b)

abbrev pub list_margin : List Block → ℕ
list_margin [] = 0
list_margin (b ∷ blocks) = max (margin_of_block b) (list_margin blocks)

margin_append : (a b : List Block) → list_margin (a ++ b) ≡ max (list_margin a) (list_margin b)
margin_append [] b = omega arith
margin_append (x ∷ a) b = omega (arith, margin_append a b)

margin_list : (blocks : List Block) → margin_of (documents.blocks_of blocks) ≡ list_margin blocks
margin_list [] = refl
margin_list (b ∷ blocks) = omega (arith, margin_list blocks)

open_margin : (xs : Inlines) → list_margin (paragraph_of xs) ≡ 0
open_margin no_inlines = refl
open_margin (inline x xs) = refl

ended_margin : (w : Writing) → list_margin (ended w).done ≡ list_margin w.done
ended_margin w = omega (arith, open_margin (whole_content w), margin_append w.done (open_paragraph w))

parted_margin : (w : Writing) → list_margin (parted w).done ≤ list_margin w.done
parted_margin w = go (not w.is_flat && nat_le 2 w.breaks)
  where
    go : (t : Bool) → list_margin (if t then ended w else w).done ≤ list_margin w.done
    go true = omega (arith, ended_margin w)
    go false = omega arith

character_margin : (w : Writing) (around : List Around) (t : Bool) (c : ℕ)
    → list_margin (after_character w around t c).done ≤ list_margin w.done
character_margin w around t c = go (is_white c)
  where
    go : (b : Bool)
        → list_margin
        (if b then spaced_out w c t else after_leaf w around t (text_or_code t (encode_utf8 c))).done
        ≤ list_margin w.done
    go true = omega arith
    go false = omega (arith, parted_margin w)

characters_margin : (cs : List ℕ) (w : Writing) (around : List Around) (t : Bool)
    → list_margin (fold (λ v c. after_character v around t c) w cs).done ≤ list_margin w.done
characters_margin [] w around t = omega arith
characters_margin (c ∷ cs) w around t =
    omega (arith, characters_margin cs (after_character w around t c) around t, character_margin w around t c)

tasked_margin : (w : Writing) (t : Bool) → list_margin (tasked w t).done ≤ list_margin w.done
tasked_margin w t = go (is_task_here w)
  where
    go : (b : Bool) → list_margin (if b then with_task (boxed w) t else boxed w).done ≤ list_margin w.done
    go true = omega arith
    go false = omega arith

edged_margin : (w : Writing) → list_margin (edged w).done ≤ list_margin w.done
edged_margin w = go w.is_flat (is_boxed_item w)
  where
    go : (a b : Bool)
        → list_margin (if a then broken_off w else (if b then w else record (ended w) { met = met.Nothing })).done
        ≤ list_margin w.done
    go true b = omega arith
    go false true = omega arith
    go false false = omega (arith, ended_margin w)

blocked_margin : (w : Writing) (x : Block) → list_margin (blocked w x).done
    ≤ max (list_margin w.done) (margin_of_block x)
blocked_margin w x = go w.is_flat
  where
    go : (b : Bool)
        → list_margin
        (if b then broken_off w else record (ended w) { done = (ended w).done ++ x ∷ []; met = met.Nothing }).done
        ≤ max (list_margin w.done) (margin_of_block x)
    go true = omega arith
    go false = omega (arith, ended_margin w, margin_append (ended w).done (x ∷ []))

fed_margin : (w : Writing) (p : Part) → list_margin (fed w p).done ≤ max (list_margin w.done) (widest_of p)
fed_margin w (run s around t) = omega (arith, characters_margin (chars s) w around t)
fed_margin w (picture address title description around) = omega (arith, parted_margin w)
fed_margin w break = omega arith
fed_margin w (place id) = omega (arith, parted_margin w)
fed_margin w (box t) = omega (arith, tasked_margin (parted w) t, parted_margin w)
fed_margin w edge = omega (arith, edged_margin w)
fed_margin w (whole x) = blocked_margin w x

pub all_margin : (parts : List Part) (w : Writing)
    → list_margin (fed_all w parts).done ≤ max (list_margin w.done) (widest parts)
all_margin [] w = omega arith
all_margin (p ∷ parts) w = omega (arith, all_margin parts (fed w p), fed_margin w p)

pub in_margin : (w : Writing) → margin_of (blocks_in w) ≤ list_margin w.done
in_margin w = omega (arith, margin_list (ended w).done, ended_margin w)

pub blocks_margin : (in_item : Bool) (parts : List Part) → margin_of (blocks_of in_item parts) ≤ widest parts
blocks_margin in_item parts =
    omega (arith, in_margin (fed_all (begun in_item false) parts), all_margin parts (begun in_item false))

-- ---- nodes

-- 69 for each list and quote that can still stand in this context
abbrev pub deep : Context → ℕ
deep c = 69 * (32 - c.nested)

pub record Narrow (n : Node) : Type 0 where
  pub outer : (c : Context) → widest (n.whole c) ≤ deep c
  pub inner : (c : Context) → widest (n.content c) ≤ deep c

abbrev pub AllNarrow : List Node → Type 0
AllNarrow [] = Unit {0}
AllNarrow (n ∷ nodes) = Narrow n × AllNarrow nodes

-- ---- lists

abbrev items_margin : List ListItem → ℕ
items_margin [] = 0
items_margin (i ∷ items) = max (margin_of i.blocks) (items_margin items)

items_append : (a b : List ListItem) → items_margin (a ++ b) ≡ max (items_margin a) (items_margin b)
items_append [] b = omega arith
items_append (i ∷ a) b = omega (arith, items_append a b)

marker_width : (start : Option ℕ) (k : ℕ) → width_of_marker start k ≤ 69
marker_width None k = omega arith
marker_width (Some start) k = let d = decimal_cost (start + k) in omega (arith, d.long)

items_width : (start : Option ℕ) (k : ℕ) (items : List ListItem)
    → margin_of_items start k (documents.items_of (map (λ (i : ListItem). i.blocks) items))
    ≤ 69 + items_margin items
items_width start k [] = omega arith
items_width start k (i ∷ items) = omega (arith, items_width start (suc k) items, marker_width start k)

numbered_width : (k : ℕ) (start : ℤ) (items : List ListItem)
    → widest (numbered k start items) ≤ 69 + items_margin items
numbered_width k start items = go (are_filled items)
  where
    n : Option ℕ
    n = lists.start_of k start (length items)

    go : (t : Bool) → widest (if t then list_of n items ∷ [] else []) ≤ 69 + items_margin items
    go true = omega (arith, items_width n 0 items)
    go false = omega arith

abbrev groups_width : Groups → ℕ
groups_width g = max (widest g.done) (69 + items_margin g.group)

number_width : (g : Groups) (i : ListItem) (v : Option ℤ)
    → groups_width (with_number g i v) ≤ max (groups_width g) (69 + margin_of i.blocks)
number_width g i None = omega (arith, items_append g.group (i ∷ []))
number_width g i (Some v) =
    omega (arith, widest_append g.done (numbered g.nested g.start g.group), numbered_width g.nested g.start g.group)

groups_le : (items : List ListItem) (g : Groups)
    → groups_width (fold with_item g items) ≤ max (groups_width g) (69 + items_margin items)
groups_le [] g = omega arith
groups_le (i ∷ items) g =
    omega (arith, groups_le items (with_item g i), number_width g i (new_number g.next i.value))

lists_width : (k : ℕ) (start : Option ℤ) (items : List ListItem)
    → widest (lists_of k start items) ≤ 69 + items_margin items
lists_width k None items = omega (arith, items_width None 0 items)
lists_width k (Some start) items =
    let g = fold with_item (groups_at k start) items in
    omega (
      arith,
      widest_append g.done (numbered g.nested g.start g.group),
      numbered_width g.nested g.start g.group,
      groups_le items (groups_at k start),
    )

filled_width : (k : ℕ) (start : Option ℤ) (items : List ListItem)
    → widest (lists_if_filled k start items) ≤ 69 + items_margin items
filled_width k start items = go (are_filled items)
  where
    go : (t : Bool) → widest (if t then lists_of k start items else []) ≤ 69 + items_margin items
    go true = lists_width k start items
    go false = omega arith

behind_width : (nodes : List Node) (c : Context) → AllNarrow nodes → widest (behind_item nodes c) ≤ deep c
behind_width [] c f = omega arith
behind_width (n ∷ nodes) c f = go (is_item n) (behind_width nodes c f.1) (f.0.outer c)
  where
    go : (t : Bool) → widest (behind_item nodes c) ≤ deep c → widest (n.whole c) ≤ deep c
        → widest (if t then [] else edge ∷ n.whole c ++ behind_item nodes c) ≤ deep c
    go true i o = omega arith
    go false i o = omega (arith, i, o, widest_append (n.whole c) (behind_item nodes c))

before_width : (nodes : List Node) (c : Context) → AllNarrow nodes → widest (before_items nodes c) ≤ deep c
before_width [] c f = omega arith
before_width (n ∷ nodes) c f = go (is_item n) (before_width nodes c f.1) (f.0.outer c)
  where
    go : (t : Bool) → widest (before_items nodes c) ≤ deep c → widest (n.whole c) ≤ deep c
        → widest (if t then [] else n.whole c ++ before_items nodes c) ≤ deep c
    go true i o = omega arith
    go false i o = omega (arith, i, o, widest_append (n.whole c) (before_items nodes c))

items_deep : (nodes : List Node) (c : Context) → AllNarrow nodes → items_margin (items_of nodes c) ≤ deep c
items_deep [] c f = omega arith
items_deep (n ∷ nodes) c f = go (is_item n) (items_deep nodes c f.1) (f.0.inner c) (behind_width nodes c f.1)
  where
    parts : List Part
    parts = n.content c ++ behind_item nodes c

    go : (t : Bool) → items_margin (items_of nodes c) ≤ deep c → widest (n.content c) ≤ deep c
        → widest (behind_item nodes c) ≤ deep c
        → items_margin (if t then item_of n parts ∷ items_of nodes c else items_of nodes c) ≤ deep c
    go true i o b =
        omega (arith, i, o, b, blocks_margin true parts, widest_append (n.content c) (behind_item nodes c))
    go false i o b = i

each_width : (nodes : List Node) (c : Context) → AllNarrow nodes → widest (each_whole nodes c) ≤ deep c
each_width [] c f = omega arith
each_width (n ∷ nodes) c f =
    omega (arith, each_width nodes c f.1, f.0.outer c, widest_append (n.whole c) (each_whole nodes c))

pub not_deep : (f : Bool) (n : ℕ) → (f || nat_le 32 n) ≡ false → n < 32
not_deep true n h = absurd (cc)
not_deep false n h = grind (arith, nat_tests)

pub list_width : (start : Option ℤ) (nodes : List Node) (c : Context) → AllNarrow nodes
    → widest (list_parts start nodes c) ≤ deep c
list_width start nodes c f = go (is_lined c) refl
  where
    go : (t : Bool) → is_lined c ≡ t
        → widest
        (if t then apart (each_whole nodes c)
        else (edge ∷ before_items nodes c)
        ++ edge ∷ lists_if_filled c.nested start (items_of nodes (deeper c)) ++ edge ∷ [])
        ≤ deep c
    go true e = simp widest_append (omega (arith, each_width nodes c f))
    go false e =
        let d = not_deep c.is_flat c.nested e in
        simp widest_append
        (omega (
          arith,
          d,
          before_width nodes c f,
          filled_width c.nested start (items_of nodes (deeper c)),
          items_deep nodes (deeper c) f,
        ))

row_narrow : (nodes : List Node) → AllNarrow nodes → AllNarrow (items_in_a_row nodes)
row_narrow [] f = tt
row_narrow (n ∷ nodes) f = go (goes_on n) (row_narrow nodes f.1)
  where
    go : (t : Bool) → AllNarrow (items_in_a_row nodes) → AllNarrow (if t then n ∷ items_in_a_row nodes else [])
    go true i = (f.0, i)
    go false i = tt

flow_step : (n : Node) (nodes : List Node) (c : Context) (t : Bool) → AllNarrow (n ∷ nodes)
    → widest (flow_all nodes c) ≤ deep c → widest (flow_after nodes c) ≤ deep c
    → widest
    (if t
    then list_parts None (n ∷ items_in_a_row nodes) c ++ flow_after nodes c
    else n.whole c ++ flow_all nodes c)
    ≤ deep c
flow_step n nodes c true f i j =
    omega (
      arith,
      list_width None (n ∷ items_in_a_row nodes) c (f.0, row_narrow nodes f.1),
      widest_append (list_parts None (n ∷ items_in_a_row nodes) c) (flow_after nodes c),
      j,
    )
flow_step n nodes c false f i j = omega (arith, f.0.outer c, widest_append (n.whole c) (flow_all nodes c), i)

after_step : (n : Node) (nodes : List Node) (c : Context) (t : Bool) → widest (n.whole c) ≤ deep c
    → widest (flow_all nodes c) ≤ deep c → widest (flow_after nodes c) ≤ deep c
    → widest (if t then flow_after nodes c else n.whole c ++ flow_all nodes c) ≤ deep c
after_step n nodes c true o i j = j
after_step n nodes c false o i j = omega (arith, o, i, widest_append (n.whole c) (flow_all nodes c))

mutual
  pub flow_width : (nodes : List Node) (c : Context) → AllNarrow nodes → widest (flow_all nodes c) ≤ deep c
  flow_width [] c f = omega arith
  flow_width (n ∷ nodes) c f = flow_step n nodes c (is_item n) f (flow_width nodes c f.1) (after_width nodes c f.1)

  after_width : (nodes : List Node) (c : Context) → AllNarrow nodes → widest (flow_after nodes c) ≤ deep c
  after_width [] c f = omega arith
  after_width (n ∷ nodes) c f =
      after_step n nodes c (goes_on n) (f.0.outer c) (flow_width nodes c f.1) (after_width nodes c f.1)

-- ---- terms

abbrev pub TermsNarrow : List TermPart → Type 0
TermsNarrow [] = Unit {0}
TermsNarrow (gap ∷ parts) = TermsNarrow parts
TermsNarrow (of_node n ∷ parts) = Narrow n × TermsNarrow parts

abbrev begun_margin : List Writing → ℕ
begun_margin [] = 0
begun_margin (w ∷ items) = max (list_margin w.done) (begun_margin items)

begun_append : (a b : List Writing) → begun_margin (a ++ b) ≡ max (begun_margin a) (begun_margin b)
begun_append [] b = omega arith
begun_append (x ∷ a) b = omega (arith, begun_append a b)

onto_margin : (items : List Writing) (parts : List Part)
    → begun_margin (onto_last items parts) ≤ max (begun_margin items) (widest parts)
onto_margin [] parts = omega (arith, all_margin parts (begun true false))
onto_margin (item ∷ []) parts = omega (arith, all_margin parts item)
onto_margin (item ∷ next ∷ items) parts = omega (arith, onto_margin (next ∷ items) parts)

-- what comes before the list, and what is in its items
record Slim (t : Terms) (k m : ℕ) : Type 0 where
  outside : widest t.before ≤ k
  inside : begun_margin t.items ≤ m

term_slim : (b : Bool) (t : Terms) (parts : List Part) (k m : ℕ) → widest parts ≤ m → Slim t k m
    → Slim (with_term b t parts) k m
term_slim b t parts k m h s = record { outside = s.outside; inside = go t.goes_on }
  where
    go : (x : Bool)
        → begun_margin (if x then onto_last t.items parts else t.items ++ item_with parts ∷ []) ≤ m
    go true = omega (arith, onto_margin t.items parts, s.inside, h)
    go false =
        omega (
          arith,
          begun_append t.items (item_with parts ∷ []),
          all_margin parts (begun true false),
          s.inside,
          h,
        )

parts_slim : (t : Terms) (inside outside : List Part) (k m : ℕ) → widest inside ≤ m → widest outside ≤ k
    → Slim t k m
    → Slim (with_parts t inside outside) k m
parts_slim t inside outside k m h i s = go (nat_lt 0 (length t.items))
  where
    go : (x : Bool)
        → Slim
        (if x then record t { items = onto_last t.items inside } else record t { before = t.before ++ outside }) k m
    go true = record { outside = s.outside; inside = omega (arith, onto_margin t.items inside, s.inside, h) }
    go false = record { outside = omega (arith, widest_append t.before outside, s.outside, i); inside = s.inside }

beside_width : (n : Node) (c : Context) → Narrow n → widest (beside_terms n c) ≤ deep c
beside_width n c f = go (has roles.is_meaning n.tree) (is_item n)
  where
    go : (a b : Bool)
        → widest (if a then apart (n.content c) else (if b then n.content c else n.whole c)) ≤ deep c
    go true b = simp widest_append (omega (arith, f.inner c))
    go false true = f.inner c
    go false false = f.outer c

within_width : (n : Node) (c : Context) → Narrow n → widest (within_item n c) ≤ deep c
within_width n c f = go (has roles.is_meaning n.tree)
  where
    go : (a : Bool) → widest (if a then beside_terms n c else edge ∷ beside_terms n c) ≤ deep c
    go true = beside_width n c f
    go false = omega (arith, beside_width n c f)

node_slim : (b : Bool) (c : Context) (t : Terms) (n : Node) → Narrow n → Slim t (deep c) (deep (deeper c))
    → Slim (with_node b c t n) (deep c) (deep (deeper c))
node_slim b c t n f s = go (has roles.is_term n.tree)
  where
    d : Context
    d = deeper c

    after : Slim (after_node t n) (deep c) (deep d)
    after = record { outside = s.outside; inside = s.inside }

    go : (a : Bool)
        → Slim
        (if a then with_term b t (apart (n.content d))
        else with_parts (after_node t n) (within_item n d) (beside_terms n c)) (deep c) (deep d)
    go true =
        term_slim b t (apart (n.content d)) (deep c) (deep d)
        (omega (arith, widest_append (n.content d) (edge ∷ []), f.inner d)) s
    go false =
        parts_slim (after_node t n) (within_item n d) (beside_terms n c) (deep c) (deep d) (within_width n d f)
        (beside_width n c f) after

part_slim : (b : Bool) (c : Context) (t : Terms) (parts : List TermPart) → TermsNarrow parts
    → Slim t (deep c) (deep (deeper c)) → Slim (fold (with_part b c) t parts) (deep c) (deep (deeper c))
part_slim b c t [] f s = s
part_slim b c t (gap ∷ parts) f s =
    part_slim b c (with_part b c t gap) parts f (record { outside = s.outside; inside = s.inside })
part_slim b c t (of_node n ∷ parts) f s = part_slim b c (with_node b c t n) parts f.1 (node_slim b c t n f.0 s)

terms_items : (items : List Writing) → items_margin (map term_item items) ≤ begun_margin items
terms_items [] = omega arith
terms_items (w ∷ items) = omega (arith, terms_items items, in_margin w)

pub terms_width : (parts : List TermPart) (nodes : List Node) (c : Context) → TermsNarrow parts → AllNarrow nodes
    → widest (term_parts parts nodes c) ≤ deep c
terms_width parts nodes c f g = go (is_lined c) (not (list_any (has_role roles.is_term) parts)) refl
  where
    b : Bool
    b = list_any (has_role roles.is_meaning) parts

    t : Terms
    t = fold (with_part b c) no_terms parts

    slim : Slim t (deep c) (deep (deeper c))
    slim = part_slim b c no_terms parts f (record { outside = omega arith; inside = omega arith })

    go : (x y : Bool) → is_lined c ≡ x
        → widest (if x || y then apart (flow_all nodes c) else list_of_terms c t) ≤ deep c
    go true y e = simp widest_append (omega (arith, flow_width nodes c g))
    go false true e = simp widest_append (omega (arith, flow_width nodes c g))
    go false false e =
        let d = not_deep c.is_flat c.nested e in
        let i : widest t.before ≤ deep c = slim.outside in
        let j : begun_margin t.items ≤ deep (deeper c) = slim.inside in
        simp widest_append
        (omega (
          arith,
          d,
          i,
          filled_width c.nested None (items_of_terms t),
          terms_items t.items,
          j,
        ))

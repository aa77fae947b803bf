-- How much a list of terms gives.
use Rattle.std.proofs.Common.{◌≡◌, refl, ℕ, ◌+◌, ◌*◌, ◌≤◌, Bool, true, false, List, [], ◌∷◌, ◌++◌, length, map, arith}
use Rattle.std.specs.Prelude.{fold, nat_lt, ◌||◌, not, if◌then◌else◌, None}
use Rattle.std.specs.List.{list_any}
use Rattle.htmd_shown.specs.Kinds.{has}
use Rattle.htmd_shown.specs.Roles as roles
use Rattle.htmd_flow.specs.Contexts.{Context, is_lined, deeper, apart}
use Rattle.htmd_flow.specs.Flows.{Node, TermPart, gap, of_node, is_item, flow_all, has_role, beside_terms, within_item}
use Rattle.htmd_flow.specs.Flows.{Terms, no_terms, item_with, onto_last, with_term, with_parts, after_node, with_node}
use Rattle.htmd_flow.specs.Flows.{with_part, term_item, items_of_terms, list_of_terms, term_parts}
use Rattle.htmd_flow.specs.Paragraphs.{Writing, begun}
use Rattle.htmd_flow.specs.Parts.{Part, edge}
use Rattle.htmd_law_sizes.specs.SimpleSizes.{size_of_simple}
use Rattle.htmd_law_sizes.proofs.ContextRooms.{Within}
use Rattle.htmd_law_sizes.proofs.NodeCosts.{Fit, AllFit, worth, items_size, filled_cost, flow_le}
use Rattle.htmd_law_sizes.proofs.PartCosts.{weight, costs, costs_append, fed_all_le, blocks_weight}

abbrev pub TermsFit : List TermPart → Type 0
TermsFit [] = Unit {0}
TermsFit (gap ∷ parts) = TermsFit parts
TermsFit (of_node n ∷ parts) = Fit n × TermsFit parts

abbrev pub terms_worth : List TermPart → ℕ
terms_worth [] = 0
terms_worth (gap ∷ parts) = terms_worth parts
terms_worth (of_node n ∷ parts) = 400 * size_of_simple n.tree + terms_worth parts

-- five more for each item that is begun
abbrev begun_size : List Writing → ℕ
begun_size [] = 0
begun_size (w ∷ items) = 5 + weight w + begun_size items

begun_append : (a b : List Writing) → begun_size (a ++ b) ≡ begun_size a + begun_size b
begun_append [] b = omega arith
begun_append (x ∷ a) b = omega (arith, begun_append a b)

item_weight : (parts : List Part) → weight (item_with parts) ≤ costs parts
item_weight parts = omega (arith, fed_all_le parts (begun true false))

onto_some : (item : Writing) (items : List Writing) (parts : List Part)
    → begun_size (onto_last (item ∷ items) parts) ≤ begun_size (item ∷ items) + costs parts
onto_some item [] parts = omega (arith, fed_all_le parts item)
onto_some item (next ∷ items) parts = omega (arith, onto_some next items parts)

onto_filled : (items : List Writing) (parts : List Part) → nat_lt 0 (length items) ≡ true
    → begun_size (onto_last items parts) ≤ begun_size items + costs parts
onto_filled [] parts h = absurd (cc)
onto_filled (item ∷ items) parts h = onto_some item items parts

onto_le : (items : List Writing) (parts : List Part)
    → begun_size (onto_last items parts) ≤ begun_size items + 5 + costs parts
onto_le [] parts = omega (arith, item_weight parts)
onto_le (item ∷ items) parts = omega (arith, onto_some item items parts)

abbrev terms_size : Terms → ℕ
terms_size t = costs t.before + begun_size t.items

term_le : (b : Bool) (t : Terms) (parts : List Part)
    → terms_size (with_term b t parts) ≤ terms_size t + 5 + costs parts
term_le b t parts = go t.goes_on
  where
    go : (x : Bool)
        → costs t.before + begun_size (if x then onto_last t.items parts else t.items ++ item_with parts ∷ [])
        ≤ terms_size t + 5 + costs parts
    go true = omega (arith, onto_le t.items parts)
    go false = omega (arith, begun_append t.items (item_with parts ∷ []), item_weight parts)

parts_le : (t : Terms) (inside outside : List Part) (k : ℕ) → costs inside ≤ k → costs outside ≤ k
    → terms_size (with_parts t inside outside) ≤ terms_size t + k
parts_le t inside outside k h i = go (nat_lt 0 (length t.items)) refl
  where
    go : (x : Bool) → nat_lt 0 (length t.items) ≡ x
        → terms_size
        (if x then record t { items = onto_last t.items inside } else record t { before = t.before ++ outside })
        ≤ terms_size t + k
    go true e = omega (arith, onto_filled t.items inside e, h)
    go false e = omega (arith, costs_append t.before outside, i)

beside_le : (n : Node) (c : Context) → Fit n → Within c.around
    → costs (beside_terms n c) + 4 ≤ 400 * size_of_simple n.tree
beside_le n c f w = go (has roles.is_meaning n.tree) (is_item n)
  where
    go : (a b : Bool)
        → costs (if a then apart (n.content c) else (if b then n.content c else n.whole c)) + 4
        ≤ 400 * size_of_simple n.tree
    go true b = simp costs_append (omega (arith, f.inner c w))
    go false true = omega (arith, f.inner c w)
    go false false = omega (arith, f.outer c w)

within_le : (n : Node) (c : Context) → Fit n → Within c.around
    → costs (within_item n c) ≤ 400 * size_of_simple n.tree
within_le n c f w = go (has roles.is_meaning n.tree)
  where
    go : (a : Bool)
        → costs (if a then beside_terms n c else edge ∷ beside_terms n c) ≤ 400 * size_of_simple n.tree
    go true = omega (arith, beside_le n c f w)
    go false = omega (arith, beside_le n c f w)

node_le : (b : Bool) (c : Context) (t : Terms) (n : Node) → Fit n → Within c.around
    → terms_size (with_node b c t n) ≤ terms_size t + 400 * size_of_simple n.tree
node_le b c t n f w = go (has roles.is_term n.tree)
  where
    d : Context
    d = deeper c

    go : (a : Bool)
        → terms_size
        (if a then with_term b t (apart (n.content d))
        else with_parts (after_node t n) (within_item n d) (beside_terms n c))
        ≤ terms_size t + 400 * size_of_simple n.tree
    go true = omega (arith, term_le b t (apart (n.content d)), costs_append (n.content d) (edge ∷ []), f.inner d w)
    go false =
        omega (
          arith,
          parts_le (after_node t n) (within_item n d) (beside_terms n c) (400 * size_of_simple n.tree)
              (within_le n d f w) (omega (arith, beside_le n c f w)),
        )

part_le : (b : Bool) (c : Context) (t : Terms) (parts : List TermPart) → TermsFit parts → Within c.around
    → terms_size (fold (with_part b c) t parts) ≤ terms_size t + terms_worth parts
part_le b c t [] f w = omega arith
part_le b c t (gap ∷ parts) f w = omega (arith, part_le b c (with_part b c t gap) parts f w)
part_le b c t (of_node n ∷ parts) f w =
    omega (arith, part_le b c (with_node b c t n) parts f.1 w, node_le b c t n f.0 w)

items_le : (items : List Writing) → items_size (map term_item items) ≤ begun_size items
items_le [] = omega arith
items_le (w ∷ items) = omega (arith, items_le items, blocks_weight w)

pub terms_le : (parts : List TermPart) (nodes : List Node) (c : Context) (k : ℕ) → TermsFit parts → AllFit nodes
    → terms_worth parts ≤ k → worth nodes ≤ k → Within c.around → costs (term_parts parts nodes c) ≤ 3 + k
terms_le parts nodes c k f g h i w = go (is_lined c || not (list_any (has_role roles.is_term) parts))
  where
    b : Bool
    b = list_any (has_role roles.is_meaning) parts

    t : Terms
    t = fold (with_part b c) no_terms parts

    go : (x : Bool) → costs (if x then apart (flow_all nodes c) else list_of_terms c t) ≤ 3 + k
    go true = simp costs_append (omega (arith, flow_le nodes c g w, i))
    go false =
        simp costs_append
        (omega (
          arith,
          part_le b c no_terms parts f w,
          filled_cost c.nested None (items_of_terms t),
          items_le t.items,
          h,
        ))

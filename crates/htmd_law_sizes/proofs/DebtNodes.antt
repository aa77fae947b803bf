-- How much of addresses nodes that follow each other give, with the lists that they make, and terms.
use Rattle.std.proofs.Common.{◌≡◌, ◌∙◌, refl, ℕ, ◌+◌, ◌≤◌, Bool, true, false, List, [], ◌∷◌, ◌++◌, length}
use Rattle.std.proofs.Common.{map, arith}
use Rattle.std.specs.Prelude.{fold, nat_le, nat_lt, ◌||◌, not, if◌then◌else◌, Option, Some, None, ℤ}
use Rattle.std.specs.List.{list_any}
use Rattle.htmd_document.specs.Documents as documents
use Rattle.htmd_shown.specs.Kinds.{has}
use Rattle.htmd_shown.specs.Roles as roles
use Rattle.htmd_flow.specs.Contexts.{Context, is_lined, deeper, apart}
use Rattle.htmd_flow.specs.Flows.{Node, TermPart, gap, of_node, is_item, before_items, behind_item, item_of, items_of}
use Rattle.htmd_flow.specs.Flows.{each_whole, list_parts, goes_on, items_in_a_row, flow_all, flow_after, has_role}
use Rattle.htmd_flow.specs.Flows.{beside_terms, within_item, Terms, no_terms, item_with, onto_last, with_term, with_parts}
use Rattle.htmd_flow.specs.Flows.{after_node, with_node, with_part, term_item, items_of_terms, list_of_terms, term_parts}
use Rattle.htmd_flow.specs.Lists.{ListItem, are_filled, is_tight, list_of, start_of, numbered, new_number, Groups}
use Rattle.htmd_flow.specs.Lists.{groups_at, with_number, with_item, lists_of, lists_if_filled}
use Rattle.htmd_flow.specs.Paragraphs.{Writing, begun}
use Rattle.htmd_flow.specs.Parts.{Part, edge}
use Rattle.htmd_law_sizes.proofs.DebtParts.{rep, owed, Costs, at_most, loosely, strictly, nothing, both, edge_cost, block_cost, apart_cost}
use Rattle.htmd_law_sizes.proofs.DebtParts.{all_flat, edge_before, blocks_cost, in_cost}
use Rattle.htmd_law_sizes.proofs.Debts.{debt, debt_items}
use Rattle.htmd_law_sizes.proofs.Leaves.{due, inner_due, inner_le, open_by, item_open, meaning_open, term_open}

pub record Due (n : Node) : Type 0 where
  pub outer : (c : Context) → Costs c.is_flat (n.whole c) (due (rep c.around) n.tree)
  pub inner : (c : Context) → Costs c.is_flat (n.content c) (inner_due (rep c.around) n.tree)

abbrev pub AllDue : List Node → Type 0
AllDue [] = Unit {0}
AllDue (n ∷ nodes) = Due n × AllDue nodes

abbrev pub dues : ℕ → List Node → ℕ
dues k [] = 0
dues k (n ∷ nodes) = due k n.tree + dues k nodes

-- what is in a node that is no verbatim block
pub opened : (n : Node) (c : Context) → Due n → has roles.is_verbatim n.tree ≡ false
    → Costs c.is_flat (n.content c) (due (rep c.around) n.tree)
opened n c f h =
    at_most c.is_flat (n.content c) (inner_due (rep c.around) n.tree) (due (rep c.around) n.tree)
    (inner_le (rep c.around) n.tree h) (f.inner c)

item_opened : (n : Node) (c : Context) → Due n → is_item n ≡ true
    → Costs c.is_flat (n.content c) (due (rep c.around) n.tree)
item_opened n c f e = opened n c f (open_by roles.is_item item_open n.tree e)

-- ---- lists

abbrev pub items_debt : List ListItem → ℕ
items_debt [] = 0
items_debt (i ∷ items) = debt i.blocks + items_debt items

items_append : (a b : List ListItem) → items_debt (a ++ b) ≡ items_debt a + items_debt b
items_append [] b = omega arith
items_append (i ∷ a) b = omega (arith, items_append a b)

blocks_debt : (items : List ListItem)
    → debt_items (documents.items_of (map (λ (i : ListItem). i.blocks) items)) ≡ items_debt items
blocks_debt [] = refl
blocks_debt (i ∷ items) = omega (arith, blocks_debt items)

list_cost : (f : Bool) (start : Option ℕ) (items : List ListItem)
    → Costs f (list_of start items ∷ []) (items_debt items)
list_cost f start items =
    let ds = documents.items_of (map (λ (i : ListItem). i.blocks) items) in
    at_most f (list_of start items ∷ []) (debt_items ds) (items_debt items) (omega (arith, blocks_debt items))
    (block_cost f (documents.list start (is_tight items) ds))

numbered_cost : (f : Bool) (k : ℕ) (start : ℤ) (items : List ListItem)
    → Costs f (numbered k start items) (items_debt items)
numbered_cost f k start items = go (are_filled items)
  where
    go : (t : Bool)
        → Costs f (if t then list_of (start_of k start (length items)) items ∷ [] else []) (items_debt items)
    go true = list_cost f (start_of k start (length items)) items
    go false = at_most f [] 0 (items_debt items) (omega arith) (nothing f)

-- the lists that are done, and the items of the last one
record Held (f : Bool) (g : Groups) (k : ℕ) : Type 0 where
  spent : ℕ
  paid : Costs f g.done spent
  fits : spent + items_debt g.group ≤ k

number_held : (f : Bool) (g : Groups) (i : ListItem) (v : Option ℤ) (k : ℕ) → Held f g k
    → Held f (with_number g i v) (k + debt i.blocks)
number_held f g i None k h = record {
  spent = h.spent;
  paid = h.paid;
  fits = omega (arith, items_append g.group (i ∷ []), h.fits);
}
number_held f g i (Some v) k h = record {
  spent = h.spent + items_debt g.group;
  paid = both f g.done (numbered g.nested g.start g.group) h.spent (items_debt g.group) h.paid
      (numbered_cost f g.nested g.start g.group);
  fits = omega (arith, h.fits);
}

groups_held : (f : Bool) (items : List ListItem) (g : Groups) (k : ℕ) → Held f g k
    → Held f (fold with_item g items) (k + items_debt items)
groups_held f [] g k h = record { spent = h.spent; paid = h.paid; fits = omega (arith, h.fits) }
groups_held f (i ∷ items) g k h =
    let j = groups_held f items (with_item g i) (k + debt i.blocks)
    (number_held f g i (new_number g.next i.value) k h) in
    record { spent = j.spent; paid = j.paid; fits = omega (arith, j.fits) }

lists_cost : (f : Bool) (k : ℕ) (start : Option ℤ) (items : List ListItem)
    → Costs f (lists_of k start items) (items_debt items)
lists_cost f k None items = list_cost f None items
lists_cost f k (Some start) items =
    let g = fold with_item (groups_at k start) items in
    let b : Held f (groups_at k start) 0 = record { spent = 0; paid = nothing f; fits = omega arith } in
    let h = groups_held f items (groups_at k start) 0 b in
    at_most f (g.done ++ numbered g.nested g.start g.group) (h.spent + items_debt g.group) (items_debt items)
    (omega (arith, h.fits))
    (both f g.done (numbered g.nested g.start g.group) h.spent (items_debt g.group) h.paid
    (numbered_cost f g.nested g.start g.group))

pub filled_cost : (f : Bool) (k : ℕ) (start : Option ℤ) (items : List ListItem)
    → Costs f (lists_if_filled k start items) (items_debt items)
filled_cost f k start items = go (are_filled items)
  where
    go : (t : Bool) → Costs f (if t then lists_of k start items else []) (items_debt items)
    go true = lists_cost f k start items
    go false = at_most f [] 0 (items_debt items) (omega arith) (nothing f)

-- ---- the items of a list

-- up to the next item
abbrev up_to_item : ℕ → List Node → ℕ
up_to_item k [] = 0
up_to_item k (n ∷ nodes) = if is_item n then 0 else due k n.tree + up_to_item k nodes

behind_cost : (nodes : List Node) (c : Context) → AllDue nodes
    → Costs c.is_flat (behind_item nodes c) (up_to_item (rep c.around) nodes)
behind_cost [] c f = nothing c.is_flat
behind_cost (n ∷ nodes) c f = go (is_item n) (behind_cost nodes c f.1) (f.0.outer c)
  where
    k : ℕ
    k = rep c.around

    go : (t : Bool) → Costs c.is_flat (behind_item nodes c) (up_to_item k nodes)
        → Costs c.is_flat (n.whole c) (due k n.tree)
        → Costs c.is_flat (if t then [] else edge ∷ n.whole c ++ behind_item nodes c)
        (if t then 0 else due k n.tree + up_to_item k nodes)
    go true i o = nothing c.is_flat
    go false i o =
        edge_before c.is_flat (n.whole c ++ behind_item nodes c) (due k n.tree + up_to_item k nodes)
        (both c.is_flat (n.whole c) (behind_item nodes c) (due k n.tree) (up_to_item k nodes) o i)

before_cost : (nodes : List Node) (c : Context) → AllDue nodes
    → Costs c.is_flat (before_items nodes c) (up_to_item (rep c.around) nodes)
before_cost [] c f = nothing c.is_flat
before_cost (n ∷ nodes) c f = go (is_item n) (before_cost nodes c f.1) (f.0.outer c)
  where
    k : ℕ
    k = rep c.around

    go : (t : Bool) → Costs c.is_flat (before_items nodes c) (up_to_item k nodes)
        → Costs c.is_flat (n.whole c) (due k n.tree)
        → Costs c.is_flat (if t then [] else n.whole c ++ before_items nodes c)
        (if t then 0 else due k n.tree + up_to_item k nodes)
    go true i o = nothing c.is_flat
    go false i o = both c.is_flat (n.whole c) (before_items nodes c) (due k n.tree) (up_to_item k nodes) o i

-- an item takes all that comes before the next one
items_le : (nodes : List Node) (c : Context) → c.is_flat ≡ false → AllDue nodes
    → items_debt (items_of nodes c) + up_to_item (rep c.around) nodes ≤ dues (rep c.around) nodes
items_le [] c h f = omega arith
items_le (n ∷ nodes) c h f = go (is_item n) refl (items_le nodes c h f.1)
  where
    k : ℕ
    k = rep c.around

    parts : List Part
    parts = n.content c ++ behind_item nodes c

    go : (t : Bool) → is_item n ≡ t → items_debt (items_of nodes c) + up_to_item k nodes ≤ dues k nodes
        → items_debt (if t then item_of n parts ∷ items_of nodes c else items_of nodes c)
        + (if t then 0 else due k n.tree + up_to_item k nodes) ≤ due k n.tree + dues k nodes
    go true e i =
        let x = both c.is_flat (n.content c) (behind_item nodes c) (due k n.tree) (up_to_item k nodes)
        (item_opened n c f.0 e) (behind_cost nodes c f.1) in
        omega (arith, i, blocks_cost true c.is_flat parts (due k n.tree + up_to_item k nodes) h x)
    go false e i = omega (arith, i)

pub each_cost : (nodes : List Node) (c : Context) → AllDue nodes
    → Costs c.is_flat (each_whole nodes c) (dues (rep c.around) nodes)
each_cost [] c f = nothing c.is_flat
each_cost (n ∷ nodes) c f =
    both c.is_flat (n.whole c) (each_whole nodes c) (due (rep c.around) n.tree) (dues (rep c.around) nodes)
    (f.0.outer c) (each_cost nodes c f.1)

pub not_flat : (a b : Bool) → (a || b) ≡ false → a ≡ false
not_flat true b h = h
not_flat false b h = refl

pub list_cost_of : (start : Option ℤ) (nodes : List Node) (c : Context) → AllDue nodes
    → Costs c.is_flat (list_parts start nodes c) (dues (rep c.around) nodes)
list_cost_of start nodes c f = go (is_lined c) refl
  where
    k : ℕ
    k = rep c.around

    items : List ListItem
    items = items_of nodes (deeper c)

    lists : List Part
    lists = lists_if_filled c.nested start items

    go : (t : Bool) → is_lined c ≡ t
        → Costs c.is_flat
        (if t then apart (each_whole nodes c) else (edge ∷ before_items nodes c) ++ edge ∷ lists ++ edge ∷ [])
        (dues k nodes)
    go true e = apart_cost c.is_flat (each_whole nodes c) (dues k nodes) (each_cost nodes c f)
    go false e =
        let h = not_flat c.is_flat (nat_le 32 c.nested) e in
        at_most c.is_flat ((edge ∷ before_items nodes c) ++ edge ∷ lists ++ edge ∷ [])
        (up_to_item k nodes + items_debt items + 0) (dues k nodes) (omega (arith, items_le nodes (deeper c) h f))
        (both c.is_flat ((edge ∷ before_items nodes c) ++ (edge ∷ lists)) (edge ∷ [])
        (up_to_item k nodes + items_debt items) 0
        (both c.is_flat (edge ∷ before_items nodes c) (edge ∷ lists) (up_to_item k nodes) (items_debt items)
        (edge_before c.is_flat (before_items nodes c) (up_to_item k nodes) (before_cost nodes c f))
        (edge_before c.is_flat lists (items_debt items) (filled_cost c.is_flat c.nested start items)))
        (edge_cost c.is_flat))

-- ---- what follows each other

row_due : (nodes : List Node) → AllDue nodes → AllDue (items_in_a_row nodes)
row_due [] f = tt
row_due (n ∷ nodes) f = go (goes_on n) (row_due nodes f.1)
  where
    go : (t : Bool) → AllDue (items_in_a_row nodes) → AllDue (if t then n ∷ items_in_a_row nodes else [])
    go true i = (f.0, i)
    go false i = tt

-- the items in a row are paid apart
record Rest (nodes : List Node) (c : Context) : Type 0 where
  spent : ℕ
  paid : Costs c.is_flat (flow_after nodes c) spent
  fits : dues (rep c.around) (items_in_a_row nodes) + spent ≤ dues (rep c.around) nodes

flow_step : (n : Node) (nodes : List Node) (c : Context) (t : Bool) → AllDue (n ∷ nodes)
    → Costs c.is_flat (flow_all nodes c) (dues (rep c.around) nodes) → Rest nodes c
    → Costs c.is_flat
    (if t
    then list_parts None (n ∷ items_in_a_row nodes) c ++ flow_after nodes c
    else n.whole c ++ flow_all nodes c)
    (due (rep c.around) n.tree + dues (rep c.around) nodes)
flow_step n nodes c true f i j =
    let k = rep c.around in
    let row = n ∷ items_in_a_row nodes in
    at_most c.is_flat (list_parts None row c ++ flow_after nodes c) (dues k row + j.spent)
    (due k n.tree + dues k nodes) (omega (arith, j.fits))
    (both c.is_flat (list_parts None row c) (flow_after nodes c) (dues k row) j.spent
    (list_cost_of None row c (f.0, row_due nodes f.1)) j.paid)
flow_step n nodes c false f i j =
    both c.is_flat (n.whole c) (flow_all nodes c) (due (rep c.around) n.tree) (dues (rep c.around) nodes)
    (f.0.outer c) i

after_step : (n : Node) (nodes : List Node) (c : Context) (t : Bool) → goes_on n ≡ t
    → Costs c.is_flat (n.whole c) (due (rep c.around) n.tree)
    → Costs c.is_flat (flow_all nodes c) (dues (rep c.around) nodes) → Rest nodes c → Rest (n ∷ nodes) c
after_step n nodes c true e o i j = record {
  spent = j.spent;
  paid = rw e (j.paid);
  fits = rw e (omega (arith, j.fits));
}
after_step n nodes c false e o i j = record {
  spent = due (rep c.around) n.tree + dues (rep c.around) nodes;
  paid =
      rw e (both c.is_flat (n.whole c) (flow_all nodes c) (due (rep c.around) n.tree)
      (dues (rep c.around) nodes) o i);
  fits = rw e (omega arith);
}

mutual
  pub flow_cost : (nodes : List Node) (c : Context) → AllDue nodes
      → Costs c.is_flat (flow_all nodes c) (dues (rep c.around) nodes)
  flow_cost [] c f = nothing c.is_flat
  flow_cost (n ∷ nodes) c f = flow_step n nodes c (is_item n) f (flow_cost nodes c f.1) (after_cost nodes c f.1)

  after_cost : (nodes : List Node) (c : Context) → AllDue nodes → Rest nodes c
  after_cost [] c f = record { spent = 0; paid = nothing c.is_flat; fits = omega arith }
  after_cost (n ∷ nodes) c f =
      after_step n nodes c (goes_on n) refl (f.0.outer c) (flow_cost nodes c f.1) (after_cost nodes c f.1)

-- ---- terms

abbrev pub TermsDue : List TermPart → Type 0
TermsDue [] = Unit {0}
TermsDue (gap ∷ parts) = TermsDue parts
TermsDue (of_node n ∷ parts) = Due n × TermsDue parts

abbrev pub terms_dues : ℕ → List TermPart → ℕ
terms_dues k [] = 0
terms_dues k (gap ∷ parts) = terms_dues k parts
terms_dues k (of_node n ∷ parts) = due k n.tree + terms_dues k parts

abbrev begun_debt : List Writing → ℕ
begun_debt [] = 0
begun_debt (w ∷ items) = owed w + begun_debt items

-- no item is one line
abbrev Loose : List Writing → Type 0
Loose [] = Unit {0}
Loose (w ∷ items) = (w.is_flat ≡ false) × Loose items

begun_append : (a b : List Writing) → begun_debt (a ++ b) ≡ begun_debt a + begun_debt b
begun_append [] b = omega arith
begun_append (x ∷ a) b = omega (arith, begun_append a b)

loose_append : (a b : List Writing) → Loose a → Loose b → Loose (a ++ b)
loose_append [] b f g = g
loose_append (x ∷ a) b f g = (f.0, loose_append a b f.1 g)

item_debt : (parts : List Part) (k : ℕ) → Costs false parts k → owed (item_with parts) ≤ k
item_debt parts k c = omega (arith, c.at (begun true false) refl)

onto_debt : (items : List Writing) (parts : List Part) (k : ℕ) → Loose items → Costs false parts k
    → begun_debt (onto_last items parts) ≤ begun_debt items + k
onto_debt [] parts k f c = omega (arith, item_debt parts k c)
onto_debt (item ∷ []) parts k f c = omega (arith, c.at item f.0)
onto_debt (item ∷ next ∷ items) parts k f c = omega (arith, onto_debt (next ∷ items) parts k f.1 c)

onto_loose : (items : List Writing) (parts : List Part) → Loose items → Loose (onto_last items parts)
onto_loose [] parts f = (all_flat parts (begun true false), tt)
onto_loose (item ∷ []) parts f = (all_flat parts item ∙ f.0, tt)
onto_loose (item ∷ next ∷ items) parts f = (f.0, onto_loose (next ∷ items) parts f.1)

-- what comes before the list, and what is in its items
record Slim (t : Terms) (k : ℕ) : Type 0 where
  spent : ℕ
  paid : Costs false t.before spent
  fits : spent + begun_debt t.items ≤ k
  loose : Loose t.items

term_slim : (b : Bool) (t : Terms) (parts : List Part) (j k : ℕ) → Costs false parts j → Slim t k
    → Slim (with_term b t parts) (k + j)
term_slim b t parts j k h s = go t.goes_on refl
  where
    go : (x : Bool) → t.goes_on ≡ x → Slim (with_term b t parts) (k + j)
    go true e = record {
      spent = s.spent;
      paid = s.paid;
      fits = rw e (omega (arith, onto_debt t.items parts j s.loose h, s.fits));
      loose = rw e (onto_loose t.items parts s.loose);
    }
    go false e = record {
      spent = s.spent;
      paid = s.paid;
      fits = rw e (omega (arith, begun_append t.items (item_with parts ∷ []), item_debt parts j h, s.fits));
      loose = rw e (loose_append t.items (item_with parts ∷ []) s.loose (all_flat parts (begun true false), tt));
    }

parts_slim : (t : Terms) (inside outside : List Part) (j k : ℕ) → Costs false inside j → Costs false outside j
    → Slim t k → Slim (with_parts t inside outside) (k + j)
parts_slim t inside outside j k h i s = go (nat_lt 0 (length t.items))
  where
    go : (x : Bool)
        → Slim
        (if x then record t { items = onto_last t.items inside } else record t { before = t.before ++ outside }) (k + j)
    go true = record {
      spent = s.spent;
      paid = s.paid;
      fits = omega (arith, onto_debt t.items inside j s.loose h, s.fits);
      loose = onto_loose t.items inside s.loose;
    }
    go false = record {
      spent = s.spent + j;
      paid = both false t.before outside s.spent j s.paid i;
      fits = omega (arith, s.fits);
      loose = s.loose;
    }

beside_cost : (n : Node) (c : Context) → Due n → Costs c.is_flat (beside_terms n c) (due (rep c.around) n.tree)
beside_cost n c f = go (has roles.is_meaning n.tree) refl (is_item n) refl
  where
    k : ℕ
    k = due (rep c.around) n.tree

    go : (a : Bool) → has roles.is_meaning n.tree ≡ a → (b : Bool) → is_item n ≡ b
        → Costs c.is_flat (if a then apart (n.content c) else (if b then n.content c else n.whole c)) k
    go true e b g =
        apart_cost c.is_flat (n.content c) k (opened n c f (open_by roles.is_meaning meaning_open n.tree e))
    go false e true g = item_opened n c f g
    go false e false g = f.outer c

within_cost : (n : Node) (c : Context) → Due n → Costs c.is_flat (within_item n c) (due (rep c.around) n.tree)
within_cost n c f = go (has roles.is_meaning n.tree)
  where
    k : ℕ
    k = due (rep c.around) n.tree

    go : (a : Bool) → Costs c.is_flat (if a then beside_terms n c else edge ∷ beside_terms n c) k
    go true = beside_cost n c f
    go false = edge_before c.is_flat (beside_terms n c) k (beside_cost n c f)

node_slim : (b : Bool) (c : Context) (t : Terms) (n : Node) (k : ℕ) → c.is_flat ≡ false → Due n → Slim t k
    → Slim (with_node b c t n) (k + due (rep c.around) n.tree)
node_slim b c t n k h f s = go (has roles.is_term n.tree) refl
  where
    d : Context
    d = deeper c

    j : ℕ
    j = due (rep c.around) n.tree

    after : Slim (after_node t n) k
    after = record { spent = s.spent; paid = s.paid; fits = s.fits; loose = s.loose }

    go : (a : Bool) → has roles.is_term n.tree ≡ a
        → Slim
        (if a then with_term b t (apart (n.content d))
        else with_parts (after_node t n) (within_item n d) (beside_terms n c)) (k + j)
    go true e =
        term_slim b t (apart (n.content d)) j k
        (loosely d.is_flat (apart (n.content d)) j h
        (apart_cost d.is_flat (n.content d) j (opened n d f (open_by roles.is_term term_open n.tree e)))) s
    go false e =
        parts_slim (after_node t n) (within_item n d) (beside_terms n c) j k
        (loosely d.is_flat (within_item n d) j h (within_cost n d f))
        (loosely c.is_flat (beside_terms n c) j h (beside_cost n c f)) after

part_slim : (b : Bool) (c : Context) (t : Terms) (parts : List TermPart) (k : ℕ) → c.is_flat ≡ false
    → TermsDue parts → Slim t k → Slim (fold (with_part b c) t parts) (k + terms_dues (rep c.around) parts)
part_slim b c t [] k h f s = record {
  spent = s.spent;
  paid = s.paid;
  fits = omega (arith, s.fits);
  loose = s.loose;
}
part_slim b c t (gap ∷ parts) k h f s =
    part_slim b c (with_part b c t gap) parts k h f
    (record { spent = s.spent; paid = s.paid; fits = s.fits; loose = s.loose })
part_slim b c t (of_node n ∷ parts) k h f s =
    let j = due (rep c.around) n.tree in
    let x = part_slim b c (with_node b c t n) parts (k + j) h f.1 (node_slim b c t n k h f.0 s) in
    record { spent = x.spent; paid = x.paid; fits = omega (arith, x.fits); loose = x.loose }

terms_items : (items : List Writing) → items_debt (map term_item items) ≤ begun_debt items
terms_items [] = omega arith
terms_items (w ∷ items) = omega (arith, terms_items items, in_cost w)

pub terms_cost : (parts : List TermPart) (nodes : List Node) (c : Context) (k : ℕ) → TermsDue parts → AllDue nodes
    → terms_dues (rep c.around) parts ≤ k → dues (rep c.around) nodes ≤ k
    → Costs c.is_flat (term_parts parts nodes c) k
terms_cost parts nodes c k f g h i = go (is_lined c) (not (list_any (has_role roles.is_term) parts)) refl
  where
    b : Bool
    b = list_any (has_role roles.is_meaning) parts

    t : Terms
    t = fold (with_part b c) no_terms parts

    items : List ListItem
    items = items_of_terms t

    lists : List Part
    lists = lists_if_filled c.nested None items

    content : Costs c.is_flat (apart (flow_all nodes c)) k
    content =
        at_most c.is_flat (apart (flow_all nodes c)) (dues (rep c.around) nodes) k i
        (apart_cost c.is_flat (flow_all nodes c) (dues (rep c.around) nodes) (flow_cost nodes c g))

    go : (x y : Bool) → is_lined c ≡ x
        → Costs c.is_flat (if x || y then apart (flow_all nodes c) else list_of_terms c t) k
    go true y e = content
    go false true e = content
    go false false e =
        let q = not_flat c.is_flat (nat_le 32 c.nested) e in
        let z : Slim no_terms 0 = record { spent = 0; paid = nothing false; fits = omega arith; loose = tt } in
        let s = part_slim b c no_terms parts 0 q f z in
        at_most c.is_flat (list_of_terms c t) (s.spent + items_debt items + 0) k
        (omega (arith, s.fits, terms_items t.items, h))
        (edge_before c.is_flat ((t.before ++ (edge ∷ lists)) ++ (edge ∷ [])) (s.spent + items_debt items + 0)
        (both c.is_flat (t.before ++ (edge ∷ lists)) (edge ∷ []) (s.spent + items_debt items) 0
        (both c.is_flat t.before (edge ∷ lists) s.spent (items_debt items)
        (strictly c.is_flat t.before s.spent q s.paid)
        (edge_before c.is_flat lists (items_debt items) (filled_cost c.is_flat c.nested None items)))
        (edge_cost c.is_flat)))

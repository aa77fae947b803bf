-- Items among nodes: rows of them outside a list, and what stands between them in one.
use Rattle.std.proofs.Common.{◌≡◌, ℕ, suc, ◌+◌, ◌<◌, Bool, true, false, cond, not, ◌||◌, List, [], ◌∷◌, ◌++◌, length, get_or}
use Rattle.std.proofs.Common.{take, drop, map}
use Rattle.std.proofs.Common.{refl, sym, ap, ◌∙◌, arith}
use Rattle.std.specs.Prelude.{None}
use Rattle.std.specs.List.{prefix_len, list_all}
use Rattle.htmd_lexical.proofs.Cases.{test}
use Rattle.htmd_shown.specs.Kinds.{has}
use Rattle.htmd_shown.specs.Roles as roles
use Rattle.htmd_shown.specs.declared.simple.Simple.{Simple}
use Rattle.htmd_shown.specs.SimpleViews.{simple_of}
use Rattle.htmd_flow.specs.Contexts.{Context}
use Rattle.htmd_flow.specs.Flows.{Node, is_item, is_spaces, goes_on, items_in_a_row, flow_all, flow_after, list_parts}
use Rattle.htmd_flow.specs.Flows.{before_items, behind_item, items_of, item_of, each_whole}
use Rattle.htmd_flow.specs.FlowViews.{node_at, nodes_at}
use Rattle.htmd_flow.specs.ItemViews as views
use Rattle.htmd_flow.specs.declared.list.ListItem as declared
use Rattle.htmd_flow.specs.ListViews as lists
use Rattle.htmd_flow.specs.Lists.{ListItem}
use Rattle.htmd_flow.specs.Parts.{Part, edge}
use Rattle.std.proofs.lemmas.List.{append_assoc, length_push, map_push, take-map, drop-map, drop-drop}
use Rattle.htmd_flow.proofs.LoopsLemmas.{at_place, first_stops, front_passes, rest_stops, passed, stopped, prefix_alike}
use Rattle.std.specs.Prelude.{ℤ, Option, IsSome, codes}
use Rattle.std.specs.Option.{option_to_list}
use Rattle.std.specs.List.{list_any}
use Rattle.htmd_document.specs.Documents.{Blocks}
use Rattle.htmd_shown.specs.Attributes.{number_at}
use Rattle.htmd_shown.specs.Kinds as kinds
use Rattle.htmd_shown.specs.SimpleViews.{simples_of}
use Rattle.htmd_flow.specs.Flows.{blocks_of, attributes_of}
use Rattle.htmd_flow.specs.Levels.{list_of}
use Rattle.htmd_flow.specs.Paragraphs.{Writing, fed_all, begun, blocks_in}
use Rattle.htmd_flow.proofs.FeedLemmas.{fed-append, popped}
use Rattle.htmd_flow.proofs.NodesLemmas.{tree_is, trees_are}

not_either : (a b : Bool) → (a || b) ≡ false → a ≡ false
not_either true b e = e
not_either false b e = refl

pub not_false : (b : Bool) → not b ≡ false → b ≡ true
not_false true e = refl
not_false false e = (cc)

pub not_true : (b : Bool) → not b ≡ true → b ≡ false
not_true true e = (cc)
not_true false e = refl

-- ---- items outside a list

row_taken : (ns : List Node) → items_in_a_row ns ≡ take (prefix_len goes_on ns) ns
row_taken [] = refl
row_taken (n ∷ ns) = test (goes_on n)
    (λ h. ap (λ b. cond b (n ∷ items_in_a_row ns) []) h ∙ ap (λ xs. n ∷ xs) (row_taken ns)
    ∙ sym (ap (λ k. take k (n ∷ ns)) (passed goes_on n ns h)))
    (λ h. ap (λ b. cond b (n ∷ items_in_a_row ns) []) h
    ∙ sym (ap (λ k. take k (n ∷ ns)) (stopped goes_on n ns h)))

-- a node that is no item
pub flow_one : (n : Node) (ns : List Node) (context : Context) → is_item n ≡ false
    → flow_all (n ∷ ns) context ≡ n.whole context ++ flow_all ns context
flow_one n ns context h =
    ap (λ b. cond b (list_parts None (n ∷ items_in_a_row ns) context ++ flow_after ns context)
    (n.whole context ++ flow_all ns context)) h

row_left : (ns : List Node) (context : Context) → flow_after ns context
    ≡ flow_all (drop (prefix_len goes_on ns) ns) context
row_left [] context = refl
row_left (n ∷ ns) context = test (goes_on n)
    (λ h. ap (λ b. cond b (flow_after ns context) (n.whole context ++ flow_all ns context)) h
    ∙ row_left ns context
    ∙ sym (ap (λ k. flow_all (drop k (n ∷ ns)) context) (passed goes_on n ns h)))
    (λ h. ap (λ b. cond b (flow_after ns context) (n.whole context ++ flow_all ns context)) h
    ∙ sym (flow_one n ns context (not_either (is_item n) (is_spaces n.tree) h))
    ∙ sym (ap (λ k. flow_all (drop k (n ∷ ns)) context) (stopped goes_on n ns h)))

-- an item, and the row that it begins
flow_many : (n : Node) (ns : List Node) (context : Context) → is_item n ≡ true
    → flow_all (n ∷ ns) context
    ≡ list_parts None (take (suc (prefix_len goes_on ns)) (n ∷ ns)) context
    ++ flow_all (drop (suc (prefix_len goes_on ns)) (n ∷ ns)) context
flow_many n ns context h =
    ap (λ b. cond b (list_parts None (n ∷ items_in_a_row ns) context ++ flow_after ns context)
    (n.whole context ++ flow_all ns context)) h
    ∙ ap (λ xs. list_parts None (n ∷ xs) context ++ flow_after ns context) (row_taken ns)
    ∙ ap (λ ps. list_parts None (n ∷ take (prefix_len goes_on ns) ns) context ++ ps) (row_left ns context)

-- ---- the same of nodes of the source

pub item_at : (t : Simple) → is_item (node_at t) ≡ has roles.is_item (simple_of t)
item_at t = ap (has roles.is_item) (tree_is (simple_of t))

goes_at : (t : Simple) → goes_on (node_at t) ≡ views.goes_on (simple_of t)
goes_at t = ap views.goes_on (tree_is (simple_of t))

goes_len : (ts : List Simple) → prefix_len goes_on (nodes_at ts) ≡ prefix_len views.goes_on (map simple_of ts)
goes_len ts = prefix_alike goes_on views.goes_on node_at simple_of goes_at ts

-- a node that is no item
pub one_step : (ts : List Simple) (k : ℕ) (n : Simple) (context : Context) → k < length ts → n ≡ get_or ts k n
    → has roles.is_item (simple_of n) ≡ false
    → flow_all (nodes_at (drop k ts)) context
    ≡ (node_at n).whole context ++ flow_all (nodes_at (drop (k + 1) ts)) context
one_step ts k n context l e h =
    ap (λ xs. flow_all (nodes_at xs) context) (at_place ts k n l e)
    ∙ flow_one (node_at n) (nodes_at (drop (k + 1) ts)) context (item_at n ∙ h)

-- how long the row is that an item begins
row_count : (n : Simple) (ts : List Simple) (len : ℕ) → has roles.is_item (simple_of n) ≡ true
    → len ≡ views.row_len (map simple_of (n ∷ ts)) → suc (prefix_len goes_on (nodes_at ts)) ≡ len
row_count n ts len h e = ap suc (goes_len ts)
    ∙ sym (ap (λ b. cond b (suc (prefix_len views.goes_on (map simple_of ts))) 0) h) ∙ sym e

-- an item, and the row that it begins
pub row_step : (ts : List Simple) (k : ℕ) (n : Simple) (len m : ℕ) (context : Context) → k < length ts
    → n ≡ get_or ts k n → has roles.is_item (simple_of n) ≡ true
    → len ≡ views.row_len (map simple_of (drop k ts)) → m ≡ len
    → flow_all (nodes_at (drop k ts)) context
    ≡ list_parts None (nodes_at (take m (drop k ts))) context ++ flow_all (nodes_at (drop (k + len) ts)) context
row_step ts k n len m context l e h v w =
    let rest : List Simple = drop (k + 1) ts in
    let first : drop k ts ≡ n ∷ rest = at_place ts k n l e in
    let count : suc (prefix_len goes_on (nodes_at rest)) ≡ len =
    row_count n rest len h (v ∙ ap (λ xs. views.row_len (map simple_of xs)) first) in
    ap (λ xs. flow_all (nodes_at xs) context) first
    ∙ flow_many (node_at n) (nodes_at rest) context (item_at n ∙ h)
    ∙ ap (λ j. list_parts None (take j (nodes_at (n ∷ rest))) context
    ++ flow_all (drop j (nodes_at (n ∷ rest))) context) count
    ∙ ap (λ ns. list_parts None ns context ++ flow_all (drop len (nodes_at (n ∷ rest))) context)
    (take-map node_at len (n ∷ rest) ∙ ap (λ xs. nodes_at (take len xs)) (sym first)
    ∙ ap (λ j. nodes_at (take j (drop k ts))) (sym w))
    ∙ ap (λ ns. list_parts None (nodes_at (take m (drop k ts))) context ++ flow_all ns context)
    (drop-map node_at len (n ∷ rest) ∙ ap (λ xs. nodes_at (drop len xs)) (sym first)
    ∙ ap nodes_at (drop-drop len k ts))

-- ---- items in a list

abbrev pub is_other : Node → Bool
is_other n = not (is_item n)

other_at : (t : Simple) → is_other (node_at t) ≡ views.is_no_item (simple_of t)
other_at t = ap not (item_at t)

pub other_len : (ts : List Simple)
    → prefix_len is_other (nodes_at ts) ≡ prefix_len views.is_no_item (map simple_of ts)
other_len ts = prefix_alike is_other views.is_no_item node_at simple_of other_at ts

-- what stands before the first item
pub before_first : (ns : List Node) (context : Context)
    → before_items ns context ≡ each_whole (take (prefix_len is_other ns) ns) context
before_first [] context = refl
before_first (n ∷ ns) context = test (is_item n)
    (λ h. ap (λ b. cond b [] (n.whole context ++ before_items ns context)) h
    ∙ sym (ap (λ k. each_whole (take k (n ∷ ns)) context) (stopped is_other n ns (ap not h))))
    (λ h. ap (λ b. cond b [] (n.whole context ++ before_items ns context)) h
    ∙ ap (λ ps. n.whole context ++ ps) (before_first ns context)
    ∙ sym (ap (λ k. each_whole (take k (n ∷ ns)) context) (passed is_other n ns (ap not h))))

-- what stands between an item and the next one
behind_first : (ns : List Node) (context : Context)
    → behind_item ns context ≡ behind_item (take (prefix_len is_other ns) ns) context
behind_first [] context = refl
behind_first (n ∷ ns) context = test (is_item n)
    (λ h. ap (λ b. cond b [] (edge ∷ n.whole context ++ behind_item ns context)) h
    ∙ sym (ap (λ k. behind_item (take k (n ∷ ns)) context) (stopped is_other n ns (ap not h))))
    (λ h. ap (λ b. cond b [] (edge ∷ n.whole context ++ behind_item ns context)) h
    ∙ ap (λ ps. edge ∷ n.whole context ++ ps) (behind_first ns context)
    ∙ sym (ap (λ b. cond b [] (edge ∷ n.whole context ++ behind_item (take (prefix_len is_other ns) ns) context))
    h)
    ∙ sym (ap (λ k. behind_item (take k (n ∷ ns)) context) (passed is_other n ns (ap not h))))

-- items begin with the first
pub from_first : (ns : List Node) (context : Context)
    → items_of ns context ≡ items_of (drop (prefix_len is_other ns) ns) context
from_first [] context = refl
from_first (n ∷ ns) context = test (is_item n)
    (λ h. sym (ap (λ k. items_of (drop k (n ∷ ns)) context) (stopped is_other n ns (ap not h))))
    (λ h. ap (λ b. cond b (item_of n (n.content context ++ behind_item ns context) ∷ items_of ns context)
    (items_of ns context)) h
    ∙ from_first ns context
    ∙ sym (ap (λ k. items_of (drop k (n ∷ ns)) context) (passed is_other n ns (ap not h))))

pub item_next : (n : Node) (ns : List Node) (context : Context) → is_other n ≡ false
    → items_of (n ∷ ns) context
    ≡ item_of n (n.content context ++ behind_item (take (prefix_len is_other ns) ns) context)
    ∷ items_of (drop (prefix_len is_other ns) ns) context
item_next n ns context h =
    ap (λ b. cond b (item_of n (n.content context ++ behind_item ns context) ∷ items_of ns context)
    (items_of ns context)) (not_false (is_item n) h)
    ∙ ap (λ ps. item_of n (n.content context ++ ps) ∷ items_of ns context) (behind_first ns context)
    ∙ ap (λ is. item_of n (n.content context ++ behind_item (take (prefix_len is_other ns) ns) context) ∷ is)
    (from_first ns context)

-- a node behind an item
pub behind_at : (t : Simple) (ns : List Node) (context : Context) → views.is_no_item (simple_of t) ≡ true
    → behind_item (node_at t ∷ ns) context ≡ (edge ∷ (node_at t).whole context) ++ behind_item ns context
behind_at t ns context h =
    ap (λ b. cond b [] (edge ∷ (node_at t).whole context ++ behind_item ns context))
    (item_at t ∙ not_true (has roles.is_item (simple_of t)) h)

-- an item, and what stands before the next one
pub item_step : (ts : List Simple) (k : ℕ) (n : Simple) (len m : ℕ) (context : Context) → k < length ts
    → n ≡ get_or ts k n → prefix_len views.is_no_item (map simple_of (drop k ts)) ≡ 0
    → len ≡ prefix_len views.is_no_item (map simple_of (drop (k + 1) ts)) → m ≡ len
    → items_of (nodes_at (drop k ts)) context
    ≡ item_of (node_at n) ((node_at n).content context ++ behind_item (nodes_at (take m (drop (k + 1) ts))) context)
    ∷ items_of (nodes_at (drop (k + (1 + len)) ts)) context
item_step ts k n len m context l e f v w =
    let rest : List Simple = drop (k + 1) ts in
    let first : drop k ts ≡ n ∷ rest = at_place ts k n l e in
    let stops : is_other (node_at n) ≡ false = other_at n
    ∙ first_stops views.is_no_item (simple_of n) (map simple_of rest)
    (sym (ap (λ xs. prefix_len views.is_no_item (map simple_of xs)) first) ∙ f) in
    let count : prefix_len is_other (nodes_at rest) ≡ len = other_len rest ∙ sym v in
    let place : (k + 1) + len ≡ k + (1 + len) = omega arith in
    ap (λ xs. items_of (nodes_at xs) context) first
    ∙ item_next (node_at n) (nodes_at rest) context stops
    ∙ ap (λ j. item_of (node_at n) ((node_at n).content context ++ behind_item (take j (nodes_at rest)) context)
    ∷ items_of (drop j (nodes_at rest)) context) count
    ∙ ap (λ ns. item_of (node_at n) ((node_at n).content context ++ behind_item ns context)
    ∷ items_of (drop len (nodes_at rest)) context)
    (take-map node_at len rest ∙ ap (λ j. nodes_at (take j rest)) (sym w))
    ∙ ap (λ ns. item_of (node_at n) ((node_at n).content context ++ behind_item (nodes_at (take m rest)) context)
    ∷ items_of ns context)
    (drop-map node_at len rest ∙ ap nodes_at (drop-drop len (k + 1) ts ∙ ap (λ j. drop j ts) place))

-- what comes after begins with an item
pub items_begin : (ts : List Simple) (k len : ℕ)
    → len ≡ prefix_len views.is_no_item (map simple_of (drop (k + 1) ts))
    → prefix_len views.is_no_item (map simple_of (drop (k + (1 + len)) ts)) ≡ 0
items_begin ts k len v =
    let place : (k + 1) + len ≡ k + (1 + len) = omega arith in
    ap (λ xs. prefix_len views.is_no_item (map simple_of xs))
    (sym (drop-drop len (k + 1) ts ∙ ap (λ j. drop j ts) place))
    ∙ ap (prefix_len views.is_no_item) (sym (drop-map simple_of len (drop (k + 1) ts)))
    ∙ ap (λ j. prefix_len views.is_no_item (drop j (map simple_of (drop (k + 1) ts)))) v
    ∙ rest_stops views.is_no_item (map simple_of (drop (k + 1) ts))

-- no item stands before the next one
pub items_before : (ts : List Simple) (k len m : ℕ)
    → len ≡ prefix_len views.is_no_item (map simple_of (drop k ts))
    → m ≡ len → list_all views.is_no_item (map simple_of (take m (drop k ts))) ≡ true
items_before ts k len m v w =
    ap (λ j. list_all views.is_no_item (map simple_of (take j (drop k ts)))) (w ∙ v)
    ∙ ap (list_all views.is_no_item)
    (sym (take-map simple_of (prefix_len views.is_no_item (map simple_of (drop k ts))) (drop k ts)))
    ∙ front_passes views.is_no_item (map simple_of (drop k ts))

-- one more item was put
pub items_more : (done new : List declared.ListItem) (i : declared.ListItem) (ts : List Simple) (k : ℕ) (n : Simple)
    (len m : ℕ) (context : Context) → k < length ts → n ≡ get_or ts k n
    → prefix_len views.is_no_item (map simple_of (drop k ts)) ≡ 0
    → len ≡ prefix_len views.is_no_item (map simple_of (drop (k + 1) ts)) → m ≡ len → new ≡ done ++ i ∷ []
    → lists.item_of i ≡ item_of (node_at n)
    ((node_at n).content context ++ behind_item (nodes_at (take m (drop (k + 1) ts))) context)
    → map lists.item_of new ++ items_of (nodes_at (drop (k + (1 + len)) ts)) context
    ≡ map lists.item_of done ++ items_of (nodes_at (drop k ts)) context
items_more done new i ts k n len m context l e f v w put is =
    let next : List ListItem = items_of (nodes_at (drop (k + (1 + len)) ts)) context in
    ap (λ xs. map lists.item_of xs ++ next) put
    ∙ ap (λ xs. xs ++ next) (map_push lists.item_of done i)
    ∙ append_assoc (map lists.item_of done) (lists.item_of i ∷ []) next
    ∙ ap (λ x. map lists.item_of done ++ x ∷ next) is
    ∙ sym (ap (λ xs. map lists.item_of done ++ xs) (item_step ts k n len m context l e f v w))

-- ---- an item

pub item_made : (t : Simple) (parts : List Part) (number : Option ℤ) (paragraph : Bool) (made : Blocks)
    (content : List Simple) → number ≡ number_at (codes "value") (attributes_of (simple_of t))
    → paragraph ≡ list_any (has roles.is_paragraph) (map simple_of content)
    → simples_of content ≡ kinds.content_of (simple_of t) → made ≡ blocks_of true parts
    → ◌≡◌ {A = ListItem} (record { value = number; has_paragraph = paragraph; blocks = made })
    (item_of (node_at t) parts)
item_made t parts number paragraph made content hv hp e hb =
    let tree = sym (tree_is (simple_of t)) in
    let v : number ≡ number_at (codes "value") (attributes_of (node_at t).tree) =
    hv ∙ ap (λ x. number_at (codes "value") (attributes_of x)) tree in
    let p : paragraph ≡ list_any (has roles.is_paragraph) (list_of (kinds.content_of (node_at t).tree)) =
    hp ∙ ap (list_any (has roles.is_paragraph)) (sym (trees_are content) ∙ ap list_of e)
    ∙ ap (λ x. list_any (has roles.is_paragraph) (list_of (kinds.content_of x))) tree in
    (λ i. record { value = v i; has_paragraph = p i; blocks = hb i })

-- what is written of it
pub item_written : (w : Writing) (content behind : List Part)
    → w ≡ fed_all (fed_all (begun true false) content) behind
    → blocks_in w ≡ blocks_of true (content ++ behind)
item_written w content behind e = ap blocks_in (e ∙ sym (fed-append (begun true false) content behind))

-- what was put last was taken
pub put_and_taken : {A : Type 0} (xs ys zs : List A) (a : A) (r : Option A) → ys ≡ xs ++ a ∷ []
    → ys ≡ zs ++ option_to_list r → (0 < length ys → IsSome r) → zs ≡ xs
put_and_taken xs ys zs a r put taken some =
    let more : length ys ≡ length xs + 1 = ap length put ∙ length_push xs a in
    popped xs zs a r (sym put ∙ taken) (some (omega (arith, more)))

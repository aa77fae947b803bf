-- What shows in nodes of rich documents gives parts that show, and then only: what follows each other, and lists.
use Rattle.std.proofs.Common.{◌≡◌, ℕ, zero, suc, Bool, true, false, cond, not, ◌&&◌, ◌||◌, List, [], ◌∷◌, ◌++◌, refl}
use Rattle.std.proofs.Common.{sym, ap, ◌∙◌, subst, fold, length, Option, Some, None}
use Rattle.std.specs.Prelude.{ℤ}
use Rattle.std.specs.List.{list_any, list_all}
use Rattle.htmd_document.specs.TightItems.{is_filled}
use Rattle.htmd_shown.specs.declared.role.Role.{Role}
use Rattle.htmd_shown.specs.declared.role.Role.TheVariants as role
use Rattle.htmd_shown.specs.Kinds.{has, content_of}
use Rattle.htmd_shown.specs.Roles as roles
use Rattle.htmd_shown.specs.Showings.{shows, show, code_shows, show_usual_sign}
use Rattle.htmd_shown.specs.SimpleTrees.{Simple, text, image, formula, embedded, anchor, element, Simples, none, more}
use Rattle.htmd_lexical.specs.AttributePairs.{AttributePair}
use Rattle.htmd_flow.specs.Contexts.{Context, has_elements, is_lined, deeper, apart, unlinked, is_linked_to_part}
use Rattle.htmd_flow.specs.Contexts.{beside_code}
use Rattle.htmd_flow.specs.Flows.{Node, is_item, before_items, behind_item, item_of, items_of, each_whole, node_of}
use Rattle.htmd_flow.specs.Flows.{around_title, around_node, in_cell, nodes_of, list_parts, goes_on, items_in_a_row}
use Rattle.htmd_flow.specs.Flows.{flow_all, flow_after}
use Rattle.htmd_flow.specs.Lists.{ListItem, are_filled, Groups, groups_at, numbered, new_number, with_number, with_item}
use Rattle.htmd_flow.specs.Lists.{lists_of, lists_if_filled}
use Rattle.htmd_flow.specs.Lists as lists
use Rattle.htmd_flow.specs.Parts.{Part, edge}
use Rattle.htmd_law_documents.proofs.NormalTextLemmas.{false-true}
use Rattle.htmd_law_documents.proofs.NormalFilledLemmas.{is_showing, is_quiet, Seen, parts-filled}
use Rattle.htmd_law_documents.proofs.NormalNodesLemmas.{not-flat}
use Rattle.htmd_law_documents.proofs.WrapperTableLemmas.{node-tree}

-- ---- tests

pub or-none : (a : Bool) → (a || false) ≡ a
or-none true = refl
or-none false = refl

pub or-true : (a : Bool) → (a || true) ≡ true
or-true true = refl
or-true false = refl

pub or-more : (a b c : Bool) → (a || (b || c)) ≡ ((a || b) || c)
or-more true b c = refl
or-more false b c = refl

pub or-turned : (a b c d : Bool) → ((a || b) || (c || d)) ≡ ((a || c) || (b || d))
or-turned true b c d = refl
or-turned false true true d = refl
or-turned false true false d = refl
or-turned false false c d = refl

pub any-append : {A : Type 0} (p : A → Bool) (xs ys : List A)
    → list_any p (xs ++ ys) ≡ (list_any p xs || list_any p ys)
any-append p [] ys = refl
any-append p (x ∷ xs) ys =
    ap (λ b. p x || b) (any-append p xs ys) ∙ or-more (p x) (list_any p xs) (list_any p ys)

every-append : {A : Type 0} (p : A → Bool) (xs ys : List A) → list_all p xs ≡ true → list_all p ys ≡ true
    → list_all p (xs ++ ys) ≡ true
every-append p [] ys g h = h
every-append p (x ∷ xs) ys g h = at (p x) (λ e. every-append p xs ys e h) g
  where
    at : (b : Bool) → (list_all p xs ≡ true → list_all p (xs ++ ys) ≡ true) → (b && list_all p xs) ≡ true
        → (b && list_all p (xs ++ ys)) ≡ true
    at true k e = k e
    at false k e = false-true e

-- ---- parts

module _ (flat : Bool) where
  pub seen-append : (a b : Bool) (ps qs : List Part) → Seen flat a ps → Seen flat b qs
      → Seen flat (a || b) (ps ++ qs)
  seen-append true b ps qs g h =
      any-append (is_showing flat) ps qs ∙ ap (λ x. x || list_any (is_showing flat) qs) g
  seen-append false true ps qs g h =
      any-append (is_showing flat) ps qs
      ∙ (ap (λ x. list_any (is_showing flat) ps || x) h ∙ or-true (list_any (is_showing flat) ps))
  seen-append false false ps qs g h = every-append (is_quiet flat) ps qs g h

  pub seen-as : (a b : Bool) (ps : List Part) → a ≡ b → Seen flat a ps → Seen flat b ps
  seen-as a b ps e h = subst (λ (x : Bool). Seen flat x ps) e h

  pub seen-edge : (b : Bool) (ps : List Part) → Seen flat b ps → Seen flat b (edge ∷ ps)
  seen-edge true ps h = h
  seen-edge false ps h = h

  -- with what is quiet behind
  pub seen-before : (b : Bool) (ps qs : List Part) → Seen flat b ps → Seen flat false qs → Seen flat b (ps ++ qs)
  seen-before b ps qs g h = seen-as (b || false) b (ps ++ qs) (or-none b) (seen-append b false ps qs g h)

  pub seen-apart : (b : Bool) (ps : List Part) → Seen flat b ps → Seen flat b (apart ps)
  seen-apart b ps h = seen-edge b (ps ++ edge ∷ []) (seen-before b ps (edge ∷ []) h refl)

  pub seen-either : (b x : Bool) (ps qs : List Part) → (x ≡ true → Seen flat b ps)
      → (x ≡ false → Seen flat b qs)
      → Seen flat b (cond x ps qs)
  seen-either b true ps qs g h = g refl
  seen-either b false ps qs g h = h refl

  pub seen-cond : (x a b : Bool) (ps qs : List Part) → Seen flat a ps → Seen flat b qs
      → Seen flat (cond x a b) (cond x ps qs)
  seen-cond true a b ps qs g h = g
  seen-cond false a b ps qs g h = h

-- ---- nodes

-- of a rich document, in one line or not
pub record Sits (flat : Bool) (c : Context) : Type 0 where
  pub rich : c.is_rich ≡ true
  pub line : c.is_flat ≡ flat

module _ {flat : Bool} where
  pub sits-either : (b : Bool) (c d : Context) → Sits flat c → Sits flat d → Sits flat (cond b c d)
  sits-either true c d g h = g
  sits-either false c d g h = h

  pub sits-unlinked : (c : Context) → Sits flat c → Sits flat (unlinked c)
  sits-unlinked c s = record { rich = s.rich; line = s.line }

  pub sits-title : (content : Simples) (c : Context) → Sits flat c → Sits flat (around_title content c)
  sits-title content c s =
      sits-either (has_elements c && is_linked_to_part c && show_usual_sign content) (unlinked c) c
      (sits-unlinked c s) s

  pub sits-around : (t : Simple) (c : Context) → Sits flat c → Sits flat (around_node t c)
  sits-around t c s =
      sits-either (has roles.is_title t) (around_title (content_of t) c) c (sits-title (content_of t) c s) s

  pub sits-near : (pres : ℕ) (attributes : List AttributePair) (c : Context) → Sits flat c
      → Sits flat (beside_code pres attributes c)
  sits-near zero attributes c s = s
  sits-near (suc zero) attributes c s = record { rich = s.rich; line = s.line }
  sits-near (suc (suc n)) attributes c s = record { rich = s.rich; line = s.line }

  pub sits-cell : (t : Simple) (c : Context) → Sits flat c → Sits flat (in_cell t c)
  sits-cell (element id role.Cell facts attributes content) c s = sits-near facts.pres attributes c s
  sits-cell (element id r facts attributes content) c s = s
  sits-cell (text t) c s = s
  sits-cell (image address attributes) c s = s
  sits-cell (formula tex is_alone attributes) c s = s
  sits-cell (embedded id address title attributes ids) c s = s
  sits-cell (anchor id) c s = s

-- there are elements where nothing is one line
pub sits-elements : (flat : Bool) (c : Context) → Sits flat c → has_elements c ≡ not flat
sits-elements flat c s = ap (λ b. b && not c.is_flat) s.rich ∙ ap not s.line

-- what it gives shows, or nothing of it does
abbrev pub GivesSeen : Bool → Bool → (Context → List Part) → Type 0
GivesSeen flat b parts = (c : Context) → Sits flat c → Seen flat b (parts c)

pub record SeenAt (flat : Bool) (n : Node) : Type 0 where
  pub whole : GivesSeen flat (shows flat n.tree) n.whole
  pub content : GivesSeen flat (show flat (content_of n.tree)) n.content

abbrev pub AllSeen : Bool → List Node → Type 0
AllSeen flat [] = Unit {0}
AllSeen flat (n ∷ nodes) = SeenAt flat n × AllSeen flat nodes

-- an element of such a kind shows where its content does
abbrev pub IsPlainKind : (Role → Bool) → Type 0
IsPlainKind kind = (r : Role) → kind r ≡ true
    → (roles.is_verbatim r ≡ false) × (roles.is_thematic_break r ≡ false) × (roles.is_heading r ≡ false)

pub shows-content : (kind : Role → Bool) → IsPlainKind kind → (flat : Bool) (t : Simple) → has kind t ≡ true
    → shows flat t ≡ show flat (content_of t)
shows-content kind k flat (element id r facts attributes content) e =
    let parts = k r e in
    let inner : Bool = show (flat || roles.is_heading r) content in
    ap (λ b. cond b (code_shows content) (cond (roles.is_thematic_break r) (not flat) inner)) parts.0
    ∙ (ap (λ b. cond b (not flat) inner) parts.1
    ∙ ap (λ b. show b content) (ap (λ b. flat || b) parts.2 ∙ or-none flat))
shows-content kind k flat (text s) e = false-true e
shows-content kind k flat (image address attributes) e = false-true e
shows-content kind k flat (formula tex is_alone attributes) e = false-true e
shows-content kind k flat (embedded id address title attributes ids) e = false-true e
shows-content kind k flat (anchor id) e = false-true e

item-plain : IsPlainKind roles.is_item
item-plain role.Item e = (refl, refl, refl)
item-plain r e = false-true e

-- ---- lists that show

numbered-seen : (nested : ℕ) (start : ℤ) (items : List ListItem)
    → list_any (is_showing false) (numbered nested start items) ≡ are_filled items
numbered-seen nested start items = at (are_filled items)
  where
    at : (b : Bool)
        → list_any (is_showing false)
        (cond b (lists.list_of (lists.start_of nested start (length items)) items ∷ []) []) ≡ b
    at true = refl
    at false = refl

abbrev marks : Groups → Bool
marks g = list_any (is_showing false) g.done || are_filled g.group

item-marks : (g : Groups) (i : ListItem) → marks (with_item g i) ≡ (marks g || is_filled i.blocks)
item-marks g i = at (new_number g.next i.value)
  where
    turned : (a b x : Bool) → (a || (b || (x || false))) ≡ ((a || b) || x)
    turned true b x = refl
    turned false true x = refl
    turned false false true = refl
    turned false false false = refl

    at : (o : Option ℤ) → marks (with_number g i o) ≡ (marks g || is_filled i.blocks)
    at None =
        ap (λ b. list_any (is_showing false) g.done || b)
        (any-append (λ (j : ListItem). is_filled j.blocks) g.group (i ∷ []))
        ∙ turned (list_any (is_showing false) g.done) (are_filled g.group) (is_filled i.blocks)
    at (Some v) =
        ap (λ b. b || (is_filled i.blocks || false))
        (any-append (is_showing false) g.done (numbered g.nested g.start g.group)
        ∙ ap (λ b. list_any (is_showing false) g.done || b) (numbered-seen g.nested g.start g.group))
        ∙ ap (λ b. marks g || b) (or-none (is_filled i.blocks))

all-marks : (items : List ListItem) (g : Groups) → marks (fold with_item g items) ≡ (marks g || are_filled items)
all-marks [] g = sym (or-none (marks g))
all-marks (i ∷ items) g =
    all-marks items (with_item g i)
    ∙ (ap (λ b. b || are_filled items) (item-marks g i)
    ∙ sym (or-more (marks g) (is_filled i.blocks) (are_filled items)))

some-lists : (nested : ℕ) (start : Option ℤ) (items : List ListItem) → are_filled items ≡ true
    → list_any (is_showing false) (lists_of nested start items) ≡ true
some-lists nested None items e = refl
some-lists nested (Some start) items e =
    let g : Groups = fold with_item (groups_at nested start) items in
    any-append (is_showing false) g.done (numbered g.nested g.start g.group)
    ∙ (ap (λ b. list_any (is_showing false) g.done || b) (numbered-seen g.nested g.start g.group)
    ∙ (all-marks items (groups_at nested start) ∙ e))

lists-seen : (nested : ℕ) (start : Option ℤ) (items : List ListItem)
    → Seen false (are_filled items) (lists_if_filled nested start items)
lists-seen nested start items = at (are_filled items) (some-lists nested start items)
  where
    at : (b : Bool) → (b ≡ true → list_any (is_showing false) (lists_of nested start items) ≡ true)
        → Seen false b (cond b (lists_of nested start items) [])
    at true h = h refl
    at false h = refl

-- ---- what follows each other

module _ (flat : Bool) where
  abbrev pub shows_node : Node → Bool
  shows_node n = shows flat n.tree

  abbrev pub show_nodes : List Node → Bool
  show_nodes nodes = list_any shows_node nodes

  each-seen : (nodes : List Node) → AllSeen flat nodes → GivesSeen flat (show_nodes nodes) (each_whole nodes)
  each-seen [] h c s = refl
  each-seen (n ∷ nodes) h c s =
      seen-append flat (shows_node n) (show_nodes nodes) (n.whole c) (each_whole nodes c) (h.0.whole c s)
      (each-seen nodes h.1 c s)

  -- up to the first item
  abbrev before_item : List Node → Bool
  before_item [] = false
  before_item (n ∷ nodes) = cond (is_item n) false (shows_node n || before_item nodes)

  before-seen : (nodes : List Node) → AllSeen flat nodes → GivesSeen flat (before_item nodes) (before_items nodes)
  before-seen [] h c s = refl
  before-seen (n ∷ nodes) h c s =
      seen-cond flat (is_item n) false (shows_node n || before_item nodes) [] (n.whole c ++ before_items nodes c) refl
      (seen-append flat (shows_node n) (before_item nodes) (n.whole c) (before_items nodes c) (h.0.whole c s)
      (before-seen nodes h.1 c s))

  behind-seen : (nodes : List Node) → AllSeen flat nodes → GivesSeen flat (before_item nodes) (behind_item nodes)
  behind-seen [] h c s = refl
  behind-seen (n ∷ nodes) h c s =
      let both : Bool = shows_node n || before_item nodes in
      seen-cond flat (is_item n) false both [] (edge ∷ n.whole c ++ behind_item nodes c) refl
      (seen-edge flat both (n.whole c ++ behind_item nodes c)
      (seen-append flat (shows_node n) (before_item nodes) (n.whole c) (behind_item nodes c) (h.0.whole c s)
      (behind-seen nodes h.1 c s)))

  -- from the first item on
  abbrev from_item : List Node → Bool
  from_item [] = false
  from_item (n ∷ nodes) =
      cond (is_item n) ((shows_node n || before_item nodes) || from_item nodes) (from_item nodes)

  items-split : (nodes : List Node) → (before_item nodes || from_item nodes) ≡ show_nodes nodes
  items-split [] = refl
  items-split (n ∷ nodes) = at (is_item n) (items-split nodes)
    where
      a : Bool
      a = shows_node n

      b : Bool
      b = before_item nodes

      d : Bool
      d = from_item nodes

      at : (x : Bool) → (b || d) ≡ show_nodes nodes
          → (cond x false (a || b) || cond x ((a || b) || d) d) ≡ (a || show_nodes nodes)
      at true e = sym (or-more a b d) ∙ ap (λ y. a || y) e
      at false e = sym (or-more a b d) ∙ ap (λ y. a || y) e

  items-filled : flat ≡ false → (nodes : List Node) → AllSeen flat nodes → (c : Context) → Sits flat c
      → are_filled (items_of nodes c) ≡ from_item nodes
  items-filled blocks [] h c s = refl
  items-filled blocks (n ∷ nodes) h c s =
      at (is_item n) (items-filled blocks nodes h.1 c s) filled
    where
      parts : List Part
      parts = n.content c ++ behind_item nodes c

      filled : is_item n ≡ true → is_filled (item_of n parts).blocks ≡ (shows_node n || before_item nodes)
      filled e =
          let own : Bool = show flat (content_of n.tree) in
          parts-filled true (own || before_item nodes) parts
          (subst (λ (f : Bool). Seen f (own || before_item nodes) parts) blocks
          (seen-append flat own (before_item nodes) (n.content c) (behind_item nodes c) (h.0.content c s)
          (behind-seen nodes h.1 c s)))
          ∙ ap (λ x. x || before_item nodes) (sym (shows-content roles.is_item item-plain flat n.tree e))

      at : (x : Bool) → are_filled (items_of nodes c) ≡ from_item nodes
          → (x ≡ true → is_filled (item_of n parts).blocks ≡ (shows_node n || before_item nodes))
          → are_filled (cond x (item_of n parts ∷ items_of nodes c) (items_of nodes c))
          ≡ cond x ((shows_node n || before_item nodes) || from_item nodes) (from_item nodes)
      at true rest f =
          ap (λ b. b || are_filled (items_of nodes c)) (f refl)
          ∙ ap (λ b. (shows_node n || before_item nodes) || b) rest
      at false rest f = rest

  pub list-parts-seen : (start : Option ℤ) (nodes : List Node) → AllSeen flat nodes
      → GivesSeen flat (show_nodes nodes) (list_parts start nodes)
  list-parts-seen start nodes h c s =
      let items : List ListItem = items_of nodes (deeper c) in
      let lists : List Part = lists_if_filled c.nested start items in
      let front : List Part = edge ∷ before_items nodes c in
      let a : Bool = before_item nodes in
      let b : Bool = from_item nodes in
      seen-either flat (show_nodes nodes) (is_lined c) (apart (each_whole nodes c))
      (front ++ edge ∷ lists ++ edge ∷ [])
      (λ i. seen-apart flat (show_nodes nodes) (each_whole nodes c) (each-seen nodes h c s))
      (λ i.
      let blocks : flat ≡ false = sym s.line ∙ not-flat c i in
      let inside : Seen flat b lists =
      subst (λ (f : Bool). Seen f b lists) (sym blocks)
      (seen-as false (are_filled items) b lists
      (items-filled blocks nodes h (deeper c) (record { rich = s.rich; line = s.line }))
      (lists-seen c.nested start items)) in
      seen-as flat (a || b) (show_nodes nodes) (front ++ edge ∷ lists ++ edge ∷ []) (items-split nodes)
      (seen-before flat (a || b) (front ++ edge ∷ lists) (edge ∷ [])
      (seen-append flat a b front (edge ∷ lists) (seen-edge flat a (before_items nodes c) (before-seen nodes h c s))
      (seen-edge flat b lists inside)) refl))

  -- ---- items in a row

  row-seen : (nodes : List Node) → AllSeen flat nodes → AllSeen flat (items_in_a_row nodes)
  row-seen [] h = tt
  row-seen (n ∷ nodes) h = at (goes_on n) (row-seen nodes h.1)
    where
      at : (x : Bool) → AllSeen flat (items_in_a_row nodes)
          → AllSeen flat (cond x (n ∷ items_in_a_row nodes) [])
      at true k = (h.0, k)
      at false k = tt

  abbrev after_items : List Node → Bool
  after_items [] = false
  after_items (n ∷ nodes) = cond (goes_on n) (after_items nodes) (shows_node n || show_nodes nodes)

  row-split : (nodes : List Node) → (show_nodes (items_in_a_row nodes) || after_items nodes) ≡ show_nodes nodes
  row-split [] = refl
  row-split (n ∷ nodes) = at (goes_on n) (row-split nodes)
    where
      row : List Node
      row = items_in_a_row nodes

      at : (x : Bool) → (show_nodes row || after_items nodes) ≡ show_nodes nodes
          → (show_nodes (cond x (n ∷ row) []) || cond x (after_items nodes) (shows_node n || show_nodes nodes))
          ≡ (shows_node n || show_nodes nodes)
      at true e =
          sym (or-more (shows_node n) (show_nodes row) (after_items nodes)) ∙ ap (λ y. shows_node n || y) e
      at false e = refl

  mutual
    pub flow-seen : (nodes : List Node) → AllSeen flat nodes → GivesSeen flat (show_nodes nodes) (flow_all nodes)
    flow-seen [] h c s = refl
    flow-seen (n ∷ nodes) h c s =
        let row : List Node = items_in_a_row nodes in
        let a : Bool = shows_node n || show_nodes row in
        let b : Bool = after_items nodes in
        let first : List Part = list_parts None (n ∷ row) c in
        let after : List Part = flow_after nodes c in
        seen-either flat (shows_node n || show_nodes nodes) (is_item n) (first ++ after) (n.whole c ++ flow_all nodes c)
        (λ i. seen-as flat (a || b) (shows_node n || show_nodes nodes) (first ++ after)
        (sym (or-more (shows_node n) (show_nodes row) b) ∙ ap (λ x. shows_node n || x) (row-split nodes))
        (seen-append flat a b first after (list-parts-seen None (n ∷ row) (h.0, row-seen nodes h.1) c s)
        (after-seen nodes h.1 c s)))
        (λ i. seen-append flat (shows_node n) (show_nodes nodes) (n.whole c) (flow_all nodes c) (h.0.whole c s)
        (flow-seen nodes h.1 c s))

    after-seen : (nodes : List Node) → AllSeen flat nodes → GivesSeen flat (after_items nodes) (flow_after nodes)
    after-seen [] h c s = refl
    after-seen (n ∷ nodes) h c s =
        seen-cond flat (goes_on n) (after_items nodes) (shows_node n || show_nodes nodes) (flow_after nodes c)
        (n.whole c ++ flow_all nodes c)
        (after-seen nodes h.1 c s)
        (seen-append flat (shows_node n) (show_nodes nodes) (n.whole c) (flow_all nodes c) (h.0.whole c s)
        (flow-seen nodes h.1 c s))

  -- ---- the nodes of trees

  pub show-nodes : (ts : Simples) → show flat ts ≡ show_nodes (nodes_of ts)
  unfolding node_of
  show-nodes none = refl
  show-nodes (more t ts) =
      ap (λ x. shows flat x || show flat ts) (sym (node-tree t))
      ∙ ap (λ b. shows_node (node_of t) || b) (show-nodes ts)

  pub content-flow : (ts : Simples) → AllSeen flat (nodes_of ts)
      → GivesSeen flat (show flat ts) (flow_all (nodes_of ts))
  content-flow ts h c s =
      seen-as flat (show_nodes (nodes_of ts)) (show flat ts) (flow_all (nodes_of ts) c) (sym (show-nodes ts))
      (flow-seen (nodes_of ts) h c s)

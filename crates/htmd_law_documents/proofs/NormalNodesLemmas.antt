-- Nodes of normal documents: what follows each other, and lists.
use Rattle.std.proofs.Common.{◌≡◌, ℕ, suc, ◌-◌, Bool, true, false, cond, List, [], ◌∷◌, ◌++◌}
use Rattle.std.proofs.Common.{subst, sym, refl, Option, None, arith}
use Rattle.std.specs.Prelude.{ℤ, nat_le}
use Rattle.std.proofs.lemmas.Bool.Decides.{nat_tests}
use Rattle.htmd_flow.specs.Contexts.{Context, is_lined, deeper, apart}
use Rattle.htmd_document.specs.DocumentLimits.{most_nested}
use Rattle.htmd_flow.specs.Flows.{Node, is_item, before_items, behind_item, item_of, items_of, each_whole}
use Rattle.htmd_flow.specs.Flows.{list_parts, goes_on, items_in_a_row, flow_all, flow_after}
use Rattle.htmd_flow.specs.Lists.{ListItem, lists_if_filled}
use Rattle.htmd_flow.specs.Parts.{Part, edge}
use Rattle.htmd_flow.specs.Nodes as Nodes
use Rattle.htmd_flow.specs.RichNodes.{content_shows}
use Rattle.htmd_flow.specs.TableElements.{is_paragraph_at_most, inlines_in}
use Rattle.htmd_document.specs.Documents.{Blocks}
use Rattle.htmd_document.specs.NormalInlines.{anchors_stand_well}
use Rattle.htmd_document.specs.TightItems.{is_filled}
use Rattle.htmd_law_documents.proofs.NormalTextLemmas.{neither}
use Rattle.htmd_law_documents.proofs.NormalLineLemmas.{FitAll}
use Rattle.htmd_law_documents.proofs.NormalPartsLemmas.{FineParts, FineFrom, Wait, good, fine-append, fine-nil}
use Rattle.htmd_law_documents.proofs.NormalPartsLemmas.{fine-edge, fine-edges}
use Rattle.htmd_law_documents.proofs.NormalPartsLemmas.{fine-apart, fine-either, fine-as, blocks-of}
use Rattle.htmd_law_documents.proofs.NormalListLemmas.{FineItems, lists-fine}

-- how many lists and quotes may stand in each other in it
abbrev pub bound : Context → ℕ
bound c = most_nested - c.nested

abbrev pub FitsIn : Context → Type 0
FitsIn c = FitAll false [] c.around

-- what it gives in a context, after what waits
abbrev pub GivesFrom : Wait → (Context → List Part) → Type 0
GivesFrom s parts = (c : Context) → FitsIn c → FineFrom c.is_flat (bound c) s (parts c)

abbrev pub Gives : (Context → List Part) → Type 0
Gives parts = GivesFrom good parts

-- the same in contexts that are one line, or in those that are none
abbrev pub GivesAt : Bool → (Context → List Part) → Type 0
GivesAt flat parts = (c : Context) → FitsIn c → c.is_flat ≡ flat → FineParts c.is_flat (bound c) (parts c)

-- what is in a node as blocks
abbrev pub blocks_inside : Node → Context → Blocks
blocks_inside n c = Nodes.blocks_of false (n.content c)

pub record FineNode (n : Node) : Type 0 where
  pub whole : Gives n.whole
  pub content : Gives n.content
  -- what shows gives blocks in rich documents
  pub shown : content_shows n.tree ≡ true → (c : Context) → c.is_rich ≡ true → FitsIn c
      → c.is_flat ≡ false
      → is_filled (blocks_inside n c) ≡ true
  -- a paragraph alone isn't of anchors alone
  pub stands : (c : Context) → c.is_rich ≡ true → FitsIn c → c.is_flat ≡ false
      → is_paragraph_at_most (blocks_inside n c) ≡ true
      → anchors_stand_well (inlines_in (blocks_inside n c)) ≡ true

abbrev pub FineNodes : List Node → Type 0
FineNodes [] = Unit {0}
FineNodes (n ∷ nodes) = FineNode n × FineNodes nodes

pub record FineAt (flat : Bool) (n : Node) : Type 0 where
  pub whole : GivesAt flat n.whole
  pub content : GivesAt flat n.content

abbrev pub AllAt : Bool → List Node → Type 0
AllAt flat [] = Unit {0}
AllAt flat (n ∷ nodes) = FineAt flat n × AllAt flat nodes

pub node-at : (flat : Bool) (n : Node) → FineNode n → FineAt flat n
node-at flat n h = record { whole = λ c f e. h.whole c f; content = λ c f e. h.content c f }

pub nodes-at : (flat : Bool) (nodes : List Node) → FineNodes nodes → AllAt flat nodes
nodes-at flat [] h = tt
nodes-at flat (n ∷ nodes) h = (node-at flat n h.0, nodes-at flat nodes h.1)

pub not-flat : (c : Context) → is_lined c ≡ false → c.is_flat ≡ false
not-flat c e = (neither c.is_flat (nat_le most_nested c.nested) e).0

either-items : (n : ℕ) (b : Bool) (xs ys : List ListItem) → FineItems n xs → FineItems n ys
    → FineItems n (cond b xs ys)
either-items n true xs ys g h = g
either-items n false xs ys g h = h

-- one deeper
pub deeper-bound : (c : Context) → is_lined c ≡ false → suc (bound (deeper c)) ≡ bound c
deeper-bound c e = room c.nested (neither c.is_flat (nat_le most_nested c.nested) e).1
  where
    room : (n : ℕ) → nat_le most_nested n ≡ false → suc (most_nested - suc n) ≡ most_nested - n
    room n e = grind (arith, nat_tests)

-- a list between edges, after what comes before it
pub between-edges : (c : Context) → (front lists : List Part) → FineParts c.is_flat (bound c) front
    → FineParts c.is_flat (bound c) lists
    → FineParts c.is_flat (bound c) ((edge ∷ front) ++ edge ∷ lists ++ edge ∷ [])
between-edges c front lists g h =
    let flat : Bool = c.is_flat in
    let n : ℕ = bound c in
    fine-append flat n ((edge ∷ front) ++ edge ∷ lists) (edge ∷ [])
    (fine-append flat n (edge ∷ front) (edge ∷ lists) (fine-edge flat n front g) (fine-edge flat n lists h))
    (fine-edges flat n)

-- what is one deeper
pub deeper-fine : (c : Context) (ps : List Part) → is_lined c ≡ false
    → FineParts false (suc (bound (deeper c))) ps
    → FineParts c.is_flat (bound c) ps
deeper-fine c ps e h =
    fine-as false c.is_flat (bound c) ps (sym (not-flat c e))
    (subst (λ (n : ℕ). FineParts false n ps) (deeper-bound c e) h)

module _ (flat : Bool) where
  each-at : (nodes : List Node) → AllAt flat nodes → GivesAt flat (each_whole nodes)
  each-at [] h c f e = fine-nil c.is_flat (bound c)
  each-at (n ∷ nodes) h c f e =
      fine-append c.is_flat (bound c) (n.whole c) (each_whole nodes c) (h.0.whole c f e) (each-at nodes h.1 c f e)

  -- ---- lists

  before-at : (nodes : List Node) → AllAt flat nodes → GivesAt flat (before_items nodes)
  before-at [] h c f e = fine-nil c.is_flat (bound c)
  before-at (n ∷ nodes) h c f e =
      fine-either c.is_flat (bound c) (is_item n) [] (n.whole c ++ before_items nodes c)
      (λ i. fine-nil c.is_flat (bound c))
      (λ i. fine-append c.is_flat (bound c) (n.whole c) (before_items nodes c) (h.0.whole c f e)
      (before-at nodes h.1 c f e))

  behind-at : (nodes : List Node) → AllAt flat nodes → GivesAt flat (behind_item nodes)
  behind-at [] h c f e = fine-nil c.is_flat (bound c)
  behind-at (n ∷ nodes) h c f e =
      fine-either c.is_flat (bound c) (is_item n) [] (edge ∷ n.whole c ++ behind_item nodes c)
      (λ i. fine-nil c.is_flat (bound c))
      (λ i. fine-edge c.is_flat (bound c) (n.whole c ++ behind_item nodes c)
      (fine-append c.is_flat (bound c) (n.whole c) (behind_item nodes c) (h.0.whole c f e)
      (behind-at nodes h.1 c f e)))

  items-at : (nodes : List Node) → AllAt flat nodes → (c : Context) → FitsIn c → c.is_flat ≡ flat
      → c.is_flat ≡ false
      → FineItems (bound c) (items_of nodes c)
  items-at [] h c f e b = tt
  items-at (n ∷ nodes) h c f e b =
      let rest : FineItems (bound c) (items_of nodes c) = items-at nodes h.1 c f e b in
      let parts : List Part = n.content c ++ behind_item nodes c in
      let fine : FineParts c.is_flat (bound c) parts =
      fine-append c.is_flat (bound c) (n.content c) (behind_item nodes c) (h.0.content c f e)
      (behind-at nodes h.1 c f e) in
      either-items (bound c) (is_item n) (item_of n parts ∷ items_of nodes c) (items_of nodes c)
      (blocks-of (bound c) true parts (fine-as c.is_flat false (bound c) parts b fine), rest)
      rest

  list-parts-at : (start : Option ℤ) (nodes : List Node) → AllAt flat nodes
      → GivesAt flat (list_parts start nodes)
  list-parts-at start nodes h c f e =
      let items : List ListItem = items_of nodes (deeper c) in
      let lists : List Part = lists_if_filled c.nested start items in
      fine-either c.is_flat (bound c) (is_lined c) (apart (each_whole nodes c))
      ((edge ∷ before_items nodes c) ++ edge ∷ lists ++ edge ∷ [])
      (λ i. fine-apart c.is_flat (bound c) (each_whole nodes c) (each-at nodes h c f e))
      (λ i. between-edges c (before_items nodes c) lists (before-at nodes h c f e)
      (deeper-fine c lists i
      (lists-fine (bound (deeper c)) c.nested start items (items-at nodes h (deeper c) f e (not-flat c i)))))

  -- ---- what follows each other

  either-row : (b : Bool) (n : Node) (nodes : List Node) → FineAt flat n → AllAt flat nodes
      → AllAt flat (cond b (n ∷ nodes) [])
  either-row true n nodes g h = (g, h)
  either-row false n nodes g h = tt

  row-at : (nodes : List Node) → AllAt flat nodes → AllAt flat (items_in_a_row nodes)
  row-at [] h = tt
  row-at (n ∷ nodes) h = either-row (goes_on n) n (items_in_a_row nodes) h.0 (row-at nodes h.1)

  mutual
    pub flow-at : (nodes : List Node) → AllAt flat nodes → GivesAt flat (flow_all nodes)
    flow-at [] h c f e = fine-nil c.is_flat (bound c)
    flow-at (n ∷ nodes) h c f e =
        let items : List Node = n ∷ items_in_a_row nodes in
        fine-either c.is_flat (bound c) (is_item n) (list_parts None items c ++ flow_after nodes c)
        (n.whole c ++ flow_all nodes c)
        (λ i. fine-append c.is_flat (bound c) (list_parts None items c) (flow_after nodes c)
        (list-parts-at None items (h.0, row-at nodes h.1) c f e) (after-at nodes h.1 c f e))
        (λ i. fine-append c.is_flat (bound c) (n.whole c) (flow_all nodes c) (h.0.whole c f e)
        (flow-at nodes h.1 c f e))

    after-at : (nodes : List Node) → AllAt flat nodes → GivesAt flat (flow_after nodes)
    after-at [] h c f e = fine-nil c.is_flat (bound c)
    after-at (n ∷ nodes) h c f e =
        fine-either c.is_flat (bound c) (goes_on n) (flow_after nodes c) (n.whole c ++ flow_all nodes c)
        (λ i. after-at nodes h.1 c f e)
        (λ i. fine-append c.is_flat (bound c) (n.whole c) (flow_all nodes c) (h.0.whole c f e)
        (flow-at nodes h.1 c f e))

-- ---- in all contexts

pub list-parts-fine : (start : Option ℤ) (nodes : List Node) → FineNodes nodes → Gives (list_parts start nodes)
list-parts-fine start nodes h c f = list-parts-at c.is_flat start nodes (nodes-at c.is_flat nodes h) c f refl

pub flow-fine : (nodes : List Node) → FineNodes nodes → Gives (flow_all nodes)
flow-fine nodes h c f = flow-at c.is_flat nodes (nodes-at c.is_flat nodes h) c f refl

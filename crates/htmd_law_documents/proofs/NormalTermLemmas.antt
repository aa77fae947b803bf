-- Lists of terms in normal documents.
use Rattle.std.proofs.Common.{◌≡◌, ℕ, Bool, true, false, cond, not, ◌||◌, List, [], ◌∷◌, ◌++◌, map, fold}
use Rattle.std.proofs.Common.{length, None, sym}
use Rattle.std.specs.Prelude.{nat_lt}
use Rattle.std.specs.List.{list_any}
use Rattle.htmd_shown.specs.Kinds.{has}
use Rattle.htmd_shown.specs.Roles as roles
use Rattle.htmd_flow.specs.Contexts.{Context, is_lined, deeper, apart}
use Rattle.htmd_flow.specs.Flows.{Node, TermPart, gap, of_node, is_item, has_role, beside_terms, within_item, Terms}
use Rattle.htmd_flow.specs.Flows.{no_terms, item_with, onto_last, with_term, with_parts, after_node, with_node}
use Rattle.htmd_flow.specs.Flows.{with_part, term_item, items_of_terms, list_of_terms, term_parts, flow_all}
use Rattle.htmd_flow.specs.Lists.{lists_if_filled}
use Rattle.htmd_flow.specs.Paragraphs.{Writing}
use Rattle.htmd_flow.specs.Parts.{Part, edge}
use Rattle.htmd_law_documents.proofs.NormalTextLemmas.{neither}
use Rattle.htmd_law_documents.proofs.NormalPartsLemmas.{FineParts, IsReady, more-ready, begun-ready, ready-blocks}
use Rattle.htmd_law_documents.proofs.NormalPartsLemmas.{fine-append, fine-nil, fine-edge, fine-apart, fine-either}
use Rattle.htmd_law_documents.proofs.NormalPartsLemmas.{fine-as}
use Rattle.htmd_law_documents.proofs.NormalListLemmas.{FineItems, lists-fine}
use Rattle.htmd_law_documents.proofs.NormalNodesLemmas.{bound, FitsIn, Gives, FineNode, FineNodes, not-flat}
use Rattle.htmd_law_documents.proofs.NormalNodesLemmas.{between-edges, deeper-fine, flow-fine}

abbrev pub FineTerm : TermPart → Type 0
FineTerm gap = Unit {0}
FineTerm (of_node n) = FineNode n

abbrev pub FineTerms : List TermPart → Type 0
FineTerms [] = Unit {0}
FineTerms (p ∷ parts) = FineTerm p × FineTerms parts

pub terms-append : (ps qs : List TermPart) → FineTerms ps → FineTerms qs → FineTerms (ps ++ qs)
terms-append [] qs g h = h
terms-append (p ∷ ps) qs g h = (g.0, terms-append ps qs g.1 h)

pub nodes-terms : (nodes : List Node) → FineNodes nodes → FineTerms (map of_node nodes)
nodes-terms [] h = tt
nodes-terms (n ∷ nodes) h = (h.0, nodes-terms nodes h.1)

-- ---- items that are begun

abbrev AreReady : ℕ → List Writing → Type 0
AreReady n [] = Unit {0}
AreReady n (w ∷ ws) = IsReady n true false w × AreReady n ws

last-ready : (n : ℕ) (ws : List Writing) (ps : List Part) → AreReady n ws → FineParts false n ps
    → AreReady n (onto_last ws ps)
last-ready n [] ps h f = (begun-ready n true false ps f, tt)
last-ready n (w ∷ []) ps h f = (more-ready n true false ps w f h.0, tt)
last-ready n (w ∷ next ∷ ws) ps h f = (h.0, last-ready n (next ∷ ws) ps h.1 f)

next-ready : (n : ℕ) (ws : List Writing) (ps : List Part) → AreReady n ws → FineParts false n ps
    → AreReady n (ws ++ item_with ps ∷ [])
next-ready n [] ps h f = (begun-ready n true false ps f, tt)
next-ready n (w ∷ ws) ps h f = (h.0, next-ready n ws ps h.1 f)

either-ready : (n : ℕ) (b : Bool) (vs ws : List Writing) → AreReady n vs → AreReady n ws
    → AreReady n (cond b vs ws)
either-ready n true vs ws g h = g
either-ready n false vs ws g h = h

ready-items : (n : ℕ) (ws : List Writing) → AreReady n ws → FineItems n (map term_item ws)
ready-items n [] h = tt
ready-items n (w ∷ ws) h = (ready-blocks n true w h.0, ready-items n ws h.1)

-- ---- what so far is begun

record AreFine (c : Context) (t : Terms) : Type 0 where
  before : FineParts false (bound c) t.before
  items : AreReady (bound (deeper c)) t.items

either-fine : (c : Context) (b : Bool) (t u : Terms) → AreFine c t → AreFine c u → AreFine c (cond b t u)
either-fine c true t u g h = g
either-fine c false t u g h = h

term-fine : (c : Context) (has_meanings : Bool) (t : Terms) (ps : List Part) → AreFine c t
    → FineParts false (bound (deeper c)) ps → AreFine c (with_term has_meanings t ps)
term-fine c has_meanings t ps h f = record {
  before = h.before;
  items = either-ready (bound (deeper c)) t.goes_on (onto_last t.items ps) (t.items ++ item_with ps ∷ [])
      (last-ready (bound (deeper c)) t.items ps h.items f) (next-ready (bound (deeper c)) t.items ps h.items f);
}

parts-fine : (c : Context) (t : Terms) (ps qs : List Part) → AreFine c t → FineParts false (bound (deeper c)) ps
    → FineParts false (bound c) qs → AreFine c (with_parts t ps qs)
parts-fine c t ps qs h f g =
    either-fine c (nat_lt 0 (length t.items)) (record t { items = onto_last t.items ps })
    (record t { before = t.before ++ qs })
    (record { before = h.before; items = last-ready (bound (deeper c)) t.items ps h.items f })
    (record { before = fine-append false (bound c) t.before qs h.before g; items = h.items })

-- ---- nodes

beside-fine : (n : Node) → FineNode n → Gives (beside_terms n)
beside-fine n h c f =
    fine-either c.is_flat (bound c) (has roles.is_meaning n.tree) (apart (n.content c))
    (cond (is_item n) (n.content c) (n.whole c))
    (λ e. fine-apart c.is_flat (bound c) (n.content c) (h.content c f))
    (λ e. fine-either c.is_flat (bound c) (is_item n) (n.content c) (n.whole c) (λ i. h.content c f)
    (λ i. h.whole c f))

within-fine : (n : Node) → FineNode n → Gives (within_item n)
within-fine n h c f =
    fine-either c.is_flat (bound c) (has roles.is_meaning n.tree) (beside_terms n c) (edge ∷ beside_terms n c)
    (λ e. beside-fine n h c f)
    (λ e. fine-edge c.is_flat (bound c) (beside_terms n c) (beside-fine n h c f))

module _ (c : Context) (f : FitsIn c) (lined : is_lined c ≡ false) where
  flat : c.is_flat ≡ false
  flat = not-flat c lined

  node-fine : (has_meanings : Bool) (t : Terms) (n : Node) → FineNode n → AreFine c t
      → AreFine c (with_node has_meanings c t n)
  node-fine has_meanings t n k h =
      let d : Context = deeper c in
      either-fine c (has roles.is_term n.tree) (with_term has_meanings t (apart (n.content d)))
      (with_parts (after_node t n) (within_item n d) (beside_terms n c))
      (term-fine c has_meanings t (apart (n.content d)) h
      (fine-as c.is_flat false (bound d) (apart (n.content d)) flat
      (fine-apart c.is_flat (bound d) (n.content d) (k.content d f))))
      (parts-fine c (after_node t n) (within_item n d) (beside_terms n c)
      (record { before = h.before; items = h.items })
      (fine-as c.is_flat false (bound d) (within_item n d) flat (within-fine n k d f))
      (fine-as c.is_flat false (bound c) (beside_terms n c) flat (beside-fine n k c f)))

  part-fine : (has_meanings : Bool) (t : Terms) (p : TermPart) → FineTerm p → AreFine c t
      → AreFine c (with_part has_meanings c t p)
  part-fine has_meanings t gap k h = record { before = h.before; items = h.items }
  part-fine has_meanings t (of_node n) k h = node-fine has_meanings t n k h

  all-fine : (has_meanings : Bool) (ps : List TermPart) (t : Terms) → FineTerms ps → AreFine c t
      → AreFine c (fold (with_part has_meanings c) t ps)
  all-fine has_meanings [] t k h = h
  all-fine has_meanings (p ∷ ps) t k h =
      all-fine has_meanings ps (with_part has_meanings c t p) k.1 (part-fine has_meanings t p k.0 h)

  list-fine : (t : Terms) → AreFine c t → FineParts c.is_flat (bound c) (list_of_terms c t)
  list-fine t h =
      let lists : List Part = lists_if_filled c.nested None (items_of_terms t) in
      between-edges c t.before lists (fine-as false c.is_flat (bound c) t.before (sym flat) h.before)
      (deeper-fine c lists lined
      (lists-fine (bound (deeper c)) c.nested None (items_of_terms t)
      (ready-items (bound (deeper c)) t.items h.items)))

pub term-parts-fine : (parts : List TermPart) (nodes : List Node) → FineTerms parts → FineNodes nodes
    → Gives (term_parts parts nodes)
term-parts-fine parts nodes k h c f =
    let has_meanings : Bool = list_any (has_role roles.is_meaning) parts in
    let t : Terms = fold (with_part has_meanings c) no_terms parts in
    fine-either c.is_flat (bound c) (is_lined c || not (list_any (has_role roles.is_term) parts))
    (apart (flow_all nodes c)) (list_of_terms c t)
    (λ e. fine-apart c.is_flat (bound c) (flow_all nodes c) (flow-fine nodes h c f))
    (λ e.
    let lined : is_lined c ≡ false =
    (neither (is_lined c) (not (list_any (has_role roles.is_term) parts)) e).0 in
    list-fine c f lined t
    (all-fine c f lined has_meanings parts no_terms k (record { before = fine-nil false (bound c); items = tt })))

-- Lists of terms keep the wrappers of their nodes, in order.
use Rattle.std.proofs.Common.{◌≡◌, ℕ, Bool, true, false, cond, not, ◌||◌, List, [], ◌∷◌, ◌++◌, map, length, fold}
use Rattle.std.proofs.Common.{refl, sym, ap, ◌∙◌, append_assoc, subst, arith, None}
use Rattle.std.specs.Prelude.{nat_lt}
use Rattle.std.specs.List.{flat_map, list_any}
use Rattle.std.proofs.lemmas.Bool.Decides.{nat_tests}
use Rattle.std.proofs.lemmas.List.{append-nil}
use Rattle.htmd_shown.specs.Kinds.{has}
use Rattle.htmd_shown.specs.Roles as roles
use Rattle.htmd_flow.specs.Contexts.{Context, is_lined, deeper, apart, has_elements}
use Rattle.htmd_flow.specs.Flows.{Node, TermPart, gap, of_node, is_item, has_role, beside_terms, within_item, Terms}
use Rattle.htmd_flow.specs.Flows.{no_terms, item_with, onto_last, with_term, with_parts, after_node, with_node}
use Rattle.htmd_flow.specs.Flows.{with_part, term_item, items_of_terms, list_of_terms, term_parts, flow_all}
use Rattle.htmd_flow.specs.Lists.{lists_if_filled}
use Rattle.htmd_flow.specs.Paragraphs.{Writing, begun, fed_all}
use Rattle.htmd_flow.specs.Parts.{Part, edge}
use Rattle.htmd_law_documents.proofs.NormalTextLemmas.{neither}
use Rattle.htmd_law_documents.proofs.Readers.{Reader}
use Rattle.htmd_law_documents.proofs.WrapperWritingLemmas.{Wrote, wrote-same, wrote-nothing, blocks-in_wrappers}
use Rattle.htmd_law_documents.proofs.WrapperPartsLemmas.{Keep, keep-nil, keep-append, keep-same, keep-edge, keep-edges}
use Rattle.htmd_law_documents.proofs.WrapperPartsLemmas.{keep-after, keep-apart, parts_wrapped, parts-wrote}
use Rattle.htmd_law_documents.proofs.WrapperListLemmas.{items_wrapped, lists-keep}
use Rattle.htmd_law_documents.proofs.WrapperKindLemmas.{term-inner}
use Rattle.htmd_law_documents.proofs.WrapperNodesLemmas.{shallow, not-flat, node_wrapped, nodes_wrapped, wrappers_in}
use Rattle.htmd_law_documents.proofs.WrapperNodesLemmas.{inner-wrappers, item-wrappers, Agree, NodeKeeps, NodesKeep}
use Rattle.htmd_law_documents.proofs.WrapperNodesLemmas.{keep-either, keep-in, flow-keeps, fits, no-elements}
use Rattle.htmd_law_documents.proofs.WrapperNodesLemmas.{meaning-wrappers}

module _ (R : Reader) where
  abbrev pub term_wrapped : Context → TermPart → List R.Seen
  term_wrapped c gap = []
  term_wrapped c (of_node n) = node_wrapped R c n

  abbrev pub terms_wrapped : List TermPart → Context → List R.Seen
  terms_wrapped parts c = flat_map (term_wrapped c) parts

  module _ (addr : ℕ → R.Wrap) where
    abbrev pub TermKeeps : TermPart → Type 0
    TermKeeps gap = Unit {0}
    TermKeeps (of_node n) = NodeKeeps R addr n

    abbrev pub TermsKeep : List TermPart → Type 0
    TermsKeep [] = Unit {0}
    TermsKeep (p ∷ parts) = TermKeeps p × TermsKeep parts

    -- ---- items

    -- the items that are begun say these in order
    abbrev Begun : List Writing → List R.Seen → Type 0
    Begun [] cs = cs ≡ []
    Begun (w ∷ ws) cs =
        (ds : List R.Seen) × (es : List R.Seen) × (cs ≡ ds ++ es) × Wrote R addr w false ds × Begun ws es

    pub more-wrote : (w : Writing) (ps : List Part) (cs ds : List R.Seen) → Wrote R addr w false cs
        → Keep R addr false ps ds → Wrote R addr (fed_all w ps) false (cs ++ ds)
    more-wrote w ps cs ds h k =
        wrote-same R addr (fed_all w ps) false (cs ++ parts_wrapped R false ps) (cs ++ ds) (ap (λ t. cs ++ t) k.is)
        (parts-wrote R addr ps w false cs k.linked h)

    item-wrote : (ps : List Part) (ds : List R.Seen) → Keep R addr false ps ds
        → Wrote R addr (item_with ps) false ds
    item-wrote ps ds k = more-wrote (begun true false) ps [] ds (wrote-nothing R addr true false) k

    last-begun : (ws : List Writing) (ps : List Part) (cs ds : List R.Seen) → Begun ws cs → Keep R addr false ps ds
        → Begun (onto_last ws ps) (cs ++ ds)
    last-begun [] ps cs ds h k =
        (ds, [], ap (λ t. t ++ ds) h ∙ sym (append-nil ds), item-wrote ps ds k, refl)
    last-begun (w ∷ []) ps cs ds h k = (
      h.0 ++ ds,
      [],
      ap (λ t. t ++ ds) (h.2 ∙ (ap (λ t. h.0 ++ t) h.4 ∙ append-nil h.0)) ∙ sym (append-nil (h.0 ++ ds)),
      more-wrote w ps h.0 ds h.3 k,
      refl,
    )
    last-begun (w ∷ next ∷ ws) ps cs ds h k = (
      h.0,
      h.1 ++ ds,
      ap (λ t. t ++ ds) h.2 ∙ append_assoc h.0 h.1 ds,
      h.3,
      last-begun (next ∷ ws) ps h.1 ds h.4 k,
    )

    next-begun : (ws : List Writing) (ps : List Part) (cs ds : List R.Seen) → Begun ws cs → Keep R addr false ps ds
        → Begun (ws ++ item_with ps ∷ []) (cs ++ ds)
    next-begun [] ps cs ds h k =
        (ds, [], ap (λ t. t ++ ds) h ∙ sym (append-nil ds), item-wrote ps ds k, refl)
    next-begun (w ∷ ws) ps cs ds h k = (
      h.0,
      h.1 ++ ds,
      ap (λ t. t ++ ds) h.2 ∙ append_assoc h.0 h.1 ds,
      h.3,
      next-begun ws ps h.1 ds h.4 k,
    )

    either-begun : (b : Bool) (vs ws : List Writing) (cs : List R.Seen) → Begun vs cs → Begun ws cs
        → Begun (cond b vs ws) cs
    either-begun true vs ws cs g h = g
    either-begun false vs ws cs g h = h

    begun-items : (ws : List Writing) (cs : List R.Seen) → Begun ws cs → items_wrapped R (map term_item ws) ≡ cs
    begun-items [] cs h = sym h
    begun-items (w ∷ ws) cs h =
        ap (λ t. t ++ items_wrapped R (map term_item ws)) (blocks-in_wrappers R addr w h.0 h.3)
        ∙ (ap (λ t. h.0 ++ t) (begun-items ws h.1 h.4) ∙ sym h.2)

    -- ---- what so far is begun

    record Said (t : Terms) (cs : List R.Seen) : Type 0 where
      first : List R.Seen
      rest : List R.Seen
      before : Keep R addr false t.before first
      items : Begun t.items rest
      is : cs ≡ first ++ rest

    said-more : (t : Terms) (cs ds rest : List R.Seen) → (h : Said t cs) → rest ≡ h.rest ++ ds
        → cs ++ ds ≡ h.first ++ rest
    said-more t cs ds rest h e =
        ap (λ x. x ++ ds) h.is ∙ (append_assoc h.first h.rest ds ∙ ap (λ x. h.first ++ x) (sym e))

    term-said : (has_meanings : Bool) (t : Terms) (ps : List Part) (cs ds : List R.Seen) → Said t cs
        → Keep R addr false ps ds → Said (with_term has_meanings t ps) (cs ++ ds)
    term-said has_meanings t ps cs ds h k = record {
      first = h.first;
      rest = h.rest ++ ds;
      before = h.before;
      items = either-begun t.goes_on (onto_last t.items ps) (t.items ++ item_with ps ∷ []) (h.rest ++ ds)
          (last-begun t.items ps h.rest ds h.items k) (next-begun t.items ps h.rest ds h.items k);
      is = said-more t cs ds (h.rest ++ ds) h refl;
    }

    no-items : (ws : List Writing) → nat_lt 0 (length ws) ≡ false → ws ≡ []
    no-items [] e = refl
    no-items (w ∷ ws) e = absurd (grind (arith, nat_tests))

    either-said : (b : Bool) (t u : Terms) (cs : List R.Seen) → (b ≡ true → Said t cs)
        → (b ≡ false → Said u cs)
        → Said (cond b t u) cs
    either-said true t u cs g h = g refl
    either-said false t u cs g h = h refl

    parts-said : (t : Terms) (ps qs : List Part) (cs ds : List R.Seen) → Said t cs → Keep R addr false ps ds
        → Keep R addr false qs ds → Said (with_parts t ps qs) (cs ++ ds)
    parts-said t ps qs cs ds h k l =
        either-said (nat_lt 0 (length t.items)) (record t { items = onto_last t.items ps })
        (record t { before = t.before ++ qs }) (cs ++ ds)
        (λ e. record {
          first = h.first;
          rest = h.rest ++ ds;
          before = h.before;
          items = last-begun t.items ps h.rest ds h.items k;
          is = said-more t cs ds (h.rest ++ ds) h refl;
        })
        (λ e.
        let nothing : h.rest ≡ [] = subst (λ (ws : List Writing). Begun ws h.rest) (no-items t.items e) h.items in
        record {
          first = h.first ++ ds;
          rest = h.rest;
          before = keep-append R addr false t.before qs h.first ds h.before l;
          items = h.items;
          is = ap (λ x. x ++ ds) (h.is ∙ (ap (λ x. h.first ++ x) nothing ∙ append-nil h.first))
              ∙ (sym (append-nil (h.first ++ ds)) ∙ ap (λ x. (h.first ++ ds) ++ x) (sym nothing));
        })

    -- ---- nodes

    beside-keeps : (n : Node) → NodeKeeps R addr n → (c : Context) → Agree R addr c
        → Keep R addr c.is_flat (beside_terms n c) (node_wrapped R (shallow c) n)
    beside-keeps n h c a =
        let s : Context = shallow c in
        let cs : List R.Seen = node_wrapped R s n in
        let ds : List R.Seen = wrappers_in R n.tree s in
        keep-either R addr (has roles.is_meaning n.tree) c.is_flat (apart (n.content c))
        (cond (is_item n) (n.content c) (n.whole c)) cs
        (λ e. keep-same R addr c.is_flat (apart (n.content c)) ds cs
        (sym (meaning-wrappers R n.tree s e))
        (keep-apart R addr c.is_flat (n.content c) ds (h.content c a)))
        (λ e. keep-either R addr (is_item n) c.is_flat (n.content c) (n.whole c) cs
        (λ i. keep-same R addr c.is_flat (n.content c) ds cs (sym (item-wrappers R n.tree s i)) (h.content c a))
        (λ i. h.whole c a (fits R addr c)))

    within-keeps : (n : Node) → NodeKeeps R addr n → (c : Context) → Agree R addr c
        → Keep R addr c.is_flat (within_item n c) (node_wrapped R (shallow c) n)
    within-keeps n h c a =
        let cs : List R.Seen = node_wrapped R (shallow c) n in
        let k : Keep R addr c.is_flat (beside_terms n c) cs = beside-keeps n h c a in
        keep-either R addr (has roles.is_meaning n.tree) c.is_flat (beside_terms n c) (edge ∷ beside_terms n c) cs
        (λ e. k) (λ e. keep-edge R addr c.is_flat (beside_terms n c) cs k)

    after-said : (t : Terms) (n : Node) (cs : List R.Seen) → Said t cs → Said (after_node t n) cs
    after-said t n cs h =
        record { first = h.first; rest = h.rest; before = h.before; items = h.items; is = h.is }

    module _ (c : Context) (a : Agree R addr c) (flat : c.is_flat ≡ false) (plain : has_elements c ≡ false) where
      unflat : (ps : List Part) (cs : List R.Seen) → Keep R addr c.is_flat ps cs → Keep R addr false ps cs
      unflat ps cs k = keep-in R addr false c.is_flat ps cs (sym flat) k

      node-said : (has_meanings : Bool) (t : Terms) (n : Node) (cs : List R.Seen) → NodeKeeps R addr n → Said t cs
          → Said (with_node has_meanings c t n) (cs ++ node_wrapped R (shallow c) n)
      node-said has_meanings t n cs k h =
          let d : Context = deeper c in
          let ds : List R.Seen = node_wrapped R (shallow c) n in
          let inner : List R.Seen = wrappers_in R n.tree (shallow c) in
          either-said (has roles.is_term n.tree) (with_term has_meanings t (apart (n.content d)))
          (with_parts (after_node t n) (within_item n d) (beside_terms n c)) (cs ++ ds)
          (λ e. term-said has_meanings t (apart (n.content d)) cs ds h
          (keep-same R addr false (apart (n.content d)) inner ds
          (sym (inner-wrappers R roles.is_term (term-inner R) n.tree (shallow c) e
          ∙ ap (wrappers_in R n.tree) (no-elements n.tree (shallow c) plain)))
          (keep-apart R addr false (n.content d) inner (unflat (n.content d) inner (k.content d a)))))
          (λ e. parts-said (after_node t n) (within_item n d) (beside_terms n c) cs ds (after-said t n cs h)
          (unflat (within_item n d) ds (within-keeps n k d a)) (unflat (beside_terms n c) ds (beside-keeps n k c a)))

      part-said : (has_meanings : Bool) (t : Terms) (p : TermPart) (cs : List R.Seen) → TermKeeps p → Said t cs
          → Said (with_part has_meanings c t p) (cs ++ term_wrapped (shallow c) p)
      part-said has_meanings t gap cs k h = record {
        first = h.first;
        rest = h.rest;
        before = h.before;
        items = h.items;
        is = append-nil cs ∙ h.is;
      }
      part-said has_meanings t (of_node n) cs k h = node-said has_meanings t n cs k h

      parts-all : (has_meanings : Bool) (ps : List TermPart) (t : Terms) (cs : List R.Seen) → TermsKeep ps
          → Said t cs → Said (fold (with_part has_meanings c) t ps) (cs ++ terms_wrapped ps (shallow c))
      parts-all has_meanings [] t cs k h =
          record { first = h.first; rest = h.rest; before = h.before; items = h.items; is = append-nil cs ∙ h.is }
      parts-all has_meanings (p ∷ ps) t cs k h =
          let one : List R.Seen = term_wrapped (shallow c) p in
          subst (Said (fold (with_part has_meanings c) (with_part has_meanings c t p) ps))
          (append_assoc cs one (terms_wrapped ps (shallow c)))
          (parts-all has_meanings ps (with_part has_meanings c t p) (cs ++ one) k.1
          (part-said has_meanings t p cs k.0 h))

      list-keeps : (t : Terms) (cs : List R.Seen) → Said t cs → Keep R addr c.is_flat (list_of_terms c t) cs
      list-keeps t cs h =
          let lists : List Part = lists_if_filled c.nested None (items_of_terms t) in
          let all : items_wrapped R (items_of_terms t) ≡ h.rest = begun-items t.items h.rest h.items in
          keep-in R addr c.is_flat false (list_of_terms c t) cs flat
          (keep-after R addr false (edge ∷ t.before ++ edge ∷ lists) (edge ∷ []) cs
          (keep-same R addr false (edge ∷ t.before ++ edge ∷ lists) (h.first ++ h.rest) cs (sym h.is)
          (keep-append R addr false (edge ∷ t.before) (edge ∷ lists) h.first h.rest
          (keep-edge R addr false t.before h.first h.before)
          (keep-edge R addr false lists h.rest
          (keep-same R addr false lists (items_wrapped R (items_of_terms t)) h.rest all
          (lists-keep R addr c.nested None (items_of_terms t))))))
          (keep-edges R addr false))

    pub term-parts-keep : (ps : List TermPart) (nodes : List Node) (c : Context) (cs : List R.Seen) → TermsKeep ps
        → NodesKeep R addr nodes → Agree R addr c → has_elements c ≡ false
        → terms_wrapped ps (shallow c) ≡ cs
        → nodes_wrapped R nodes (shallow c) ≡ cs → Keep R addr c.is_flat (term_parts ps nodes c) cs
    term-parts-keep ps nodes c cs k h a plain e f =
        let has_meanings : Bool = list_any (has_role roles.is_meaning) ps in
        let t : Terms = fold (with_part has_meanings c) no_terms ps in
        let nothing : Said no_terms [] =
        record { first = []; rest = []; before = keep-nil R addr false; items = refl; is = refl } in
        keep-either R addr (is_lined c || not (list_any (has_role roles.is_term) ps)) c.is_flat
        (apart (flow_all nodes c)) (list_of_terms c t) cs
        (λ i. keep-apart R addr c.is_flat (flow_all nodes c) cs
        (keep-same R addr c.is_flat (flow_all nodes c) (nodes_wrapped R nodes (shallow c)) cs f
        (flow-keeps R addr nodes h c a)))
        (λ i.
        let flat : c.is_flat ≡ false =
        not-flat c (neither (is_lined c) (not (list_any (has_role roles.is_term) ps)) i).0 in
        list-keeps c a flat plain t cs
        (subst (Said t) e (parts-all c a flat plain has_meanings ps no_terms [] k nothing)))

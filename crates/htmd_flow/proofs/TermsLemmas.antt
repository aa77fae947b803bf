-- The parts of a list of terms.
use Rattle.std.proofs.Common.{◌≡◌, ℕ, ◌+◌, ◌<◌, ◌≤◌, Bool, true, false, cond, not, ◌&&◌, ◌||◌, nat_lt, List, [], ◌∷◌, ◌++◌, length, get_or, take, drop}
use Rattle.std.proofs.Common.{map, refl, sym, ap, ◌∙◌, arith, append_assoc, fold, subst}
use Rattle.std.specs.List.{list_any}
use Rattle.std.proofs.lemmas.List.{append-nil, drop_all, take_more, map_push}
use Rattle.std.proofs.lemmas.Bool.Decides.{nat_tests}
use Rattle.std.proofs.lemmas.List.Folds.{list_any-append}
use Rattle.std.proofs.lemmas.List.Sums.{fold-append}
use Rattle.htmd_shown.specs.Kinds.{has, content_of}
use Rattle.htmd_shown.specs.Roles as roles
use Rattle.htmd_shown.specs.Roles.{is_term, is_meaning}
use Rattle.htmd_shown.specs.SimpleTrees as value
use Rattle.htmd_shown.specs.declared.simple.Simple.{Simple}
use Rattle.htmd_shown.specs.SimpleViews.{simple_of, simples_of}
use Rattle.htmd_flow.specs.declared.paragraphs.Paragraphs as paragraphs
use Rattle.htmd_flow.specs.declared.terms.TermItems as items
use Rattle.htmd_flow.specs.declared.terms.TermKinds.{TermKinds}
use Rattle.htmd_flow.specs.Contexts.{Context, apart, deeper, is_lined}
use Rattle.htmd_flow.specs.Flows.{Node, TermPart, gap, of_node, has_role, node_of, nodes_of, nodes_below, terms_of}
use Rattle.htmd_flow.specs.Flows as flow
use Rattle.htmd_flow.specs.Flows.{parts_of_child, Terms, no_terms, onto_last, with_part, with_node, after_node, within_item}
use Rattle.htmd_flow.specs.Flows.{beside_terms, is_item, flow_all, term_parts, list_of_terms}
use Rattle.htmd_flow.specs.ParagraphViews.{writing_in}
use Rattle.htmd_flow.specs.Paragraphs.{Writing, fed_all}
use Rattle.htmd_flow.specs.Parts.{Part, edge}
use Rattle.htmd_flow.specs.FlowViews.{node_at, nodes_at}
use Rattle.htmd_flow.specs.Terms.{is_group}
use Rattle.htmd_flow.specs.TermViews.{with_parts, parts_at, with_term, AreBegun, AreAdded}
use Rattle.htmd_flow.proofs.FeedLemmas.{fed_both}
use Rattle.htmd_flow.proofs.LoopsLemmas.{at_place}
use Rattle.htmd_flow.proofs.NodesLemmas.{tree_is, below_is, nodes_are}
use Rattle.htmd_flow.proofs.RowsLemmas.{item_at}

or_assoc : (a b c : Bool) → ((a || b) || c) ≡ (a || (b || c))
or_assoc true b c = refl
or_assoc false b c = refl

or_false : (a : Bool) → (a || false) ≡ a
or_false true = refl
or_false false = refl

-- ---- what is among them

pub kinds_both : (k : TermKinds) (ps qs : List TermPart)
    → with_parts (with_parts k ps) qs ≡ with_parts k (ps ++ qs)
kinds_both k ps qs =
    ap (λ (b : Bool). record (with_parts (with_parts k ps) qs) { has_terms = b })
    (or_assoc k.has_terms (list_any (has_role is_term) ps) (list_any (has_role is_term) qs)
    ∙ ap (λ b. k.has_terms || b) (sym (list_any-append (has_role is_term) ps qs)))
    ∙ ap (λ (b : Bool). record (with_parts k (ps ++ qs)) { has_meanings = b })
    (or_assoc k.has_meanings (list_any (has_role is_meaning) ps) (list_any (has_role is_meaning) qs)
    ∙ ap (λ b. k.has_meanings || b) (sym (list_any-append (has_role is_meaning) ps qs)))

pub kinds_none : (k : TermKinds) → k ≡ with_parts k []
kinds_none k =
    ap (λ (b : Bool). record k { has_terms = b }) (sym (or_false k.has_terms))
    ∙ ap (λ (b : Bool). record (with_parts k []) { has_meanings = b }) (sym (or_false k.has_meanings))

-- one more was seen
pub kinds_step : (k next : TermKinds) (all part rest : List TermPart) → next ≡ with_parts k part
    → all ≡ part ++ rest → with_parts next rest ≡ with_parts k all
kinds_step k next all part rest h e =
    ap (λ x. with_parts x rest) h ∙ kinds_both k part rest ∙ ap (with_parts k) (sym e)

pub one_kind : (k : TermKinds) (t : Simple) (a b : Bool) → a ≡ has is_term (simple_of t)
    → b ≡ has is_meaning (simple_of t)
    → ◌≡◌ {A = TermKinds} (record k { has_terms = k.has_terms || a; has_meanings = k.has_meanings || b })
    (with_parts k (of_node (node_at t) ∷ []))
one_kind k t a b e f =
    let term : a ≡ (has is_term (node_at t).tree || false) =
    e ∙ ap (has is_term) (sym (tree_is (simple_of t))) ∙ sym (or_false (has is_term (node_at t).tree)) in
    let meaning : b ≡ (has is_meaning (node_at t).tree || false) =
    f ∙ ap (has is_meaning) (sym (tree_is (simple_of t))) ∙ sym (or_false (has is_meaning (node_at t).tree)) in
    ap {B = TermKinds} (λ x. record k { has_terms = k.has_terms || x; has_meanings = k.has_meanings || b }) term
    ∙ ap {B = TermKinds} (λ x. record k {
      has_terms = k.has_terms || (has_role is_term (of_node (node_at t)) || false);
      has_meanings = k.has_meanings || x;
    }) meaning

-- ---- the parts of a child

pub parts_shape : (tree : value.Simple) → parts_at tree ≡ parts_of_child (node_of tree) (nodes_below tree)
unfolding terms_of
parts_shape tree = append-nil (parts_of_child (node_of tree) (nodes_below tree))

pub parts_of_group : (tree : value.Simple) (content : List Simple) → is_group tree ≡ true
    → simples_of content ≡ content_of tree
    → parts_at tree ≡ gap ∷ map of_node (nodes_at content) ++ gap ∷ []
parts_of_group tree content h e =
    parts_shape tree
    ∙ ap (λ b. cond b (gap ∷ map of_node (nodes_below tree) ++ gap ∷ []) (of_node (node_of tree) ∷ []))
    (ap is_group (tree_is tree) ∙ h)
    ∙ ap (λ ns. gap ∷ map of_node ns ++ gap ∷ []) (below_is tree ∙ ap nodes_of (sym e) ∙ nodes_are content)

pub parts_of_other : (tree : value.Simple) → is_group tree ≡ false
    → parts_at tree ≡ of_node (node_of tree) ∷ []
parts_of_other tree h =
    parts_shape tree
    ∙ ap (λ b. cond b (gap ∷ map of_node (nodes_below tree) ++ gap ∷ []) (of_node (node_of tree) ∷ []))
    (ap is_group (tree_is tree) ∙ h)

-- of nodes one after another
pub terms_next : (ts : List Simple) (k : ℕ) (t : Simple) → k < length ts → t ≡ get_or ts k t
    → terms_of (simples_of (drop k ts)) ≡ parts_at (simple_of t) ++ terms_of (simples_of (drop (k + 1) ts))
unfolding terms_of
terms_next ts k t l e =
    ap (λ xs. terms_of (simples_of xs)) (at_place ts k t l e)
    ∙ ap (λ ps. ps ++ terms_of (simples_of (drop (k + 1) ts))) (sym (parts_shape (simple_of t)))

pub no_terms_left : (ts : List Simple) (k : ℕ) → length ts ≤ k → terms_of (simples_of (drop k ts)) ≡ []
unfolding terms_of
no_terms_left ts k l = ap (λ xs. terms_of (simples_of xs)) (drop_all k ts l)

terms_append : (xs : List value.Simple) (t : value.Simple)
    → terms_of (value.simples_of (xs ++ t ∷ [])) ≡ terms_of (value.simples_of xs) ++ parts_at t
unfolding terms_of
terms_append [] t = refl
terms_append (x ∷ xs) t =
    ap (λ ps. parts_of_child (node_of x) (nodes_below x) ++ ps) (terms_append xs t)
    ∙ sym (append_assoc (parts_of_child (node_of x) (nodes_below x)) (terms_of (value.simples_of xs)) (parts_at t))

-- gaps are no terms
pub kinds_in_group : (k : TermKinds) (tree : value.Simple) (content : List Simple) → is_group tree ≡ true
    → simples_of content ≡ content_of tree
    → with_parts k (map of_node (nodes_at content)) ≡ with_parts k (parts_at tree)
kinds_in_group k tree content h e =
    kinds_none (with_parts k (map of_node (nodes_at content)))
    ∙ kinds_both k (map of_node (nodes_at content)) (gap ∷ [])
    ∙ ap (with_parts k) (sym (parts_of_group tree content h e))

-- ---- parts are added

pub added_both : (context : Context) (ps qs : List TermPart) (a b d : Writing) (i j k : items.TermItems)
    → AreAdded context ps a i b j → AreAdded context qs b j d k → AreAdded context (ps ++ qs) a i d k
added_both context ps qs a b d i j k h g = record {
  has_meanings = g.has_meanings ∙ h.has_meanings;
  terms = λ w t begun.
      subst (λ (u : Terms). AreBegun w u d k)
      (ap (λ m. fold (with_part m context) (fold (with_part i.has_meanings context) t ps) qs) h.has_meanings
      ∙ sym (fold-append (with_part i.has_meanings context) t ps qs))
      (g.terms w (fold (with_part i.has_meanings context) t ps) (h.terms w t begun));
}

pub added_none : (context : Context) (a : Writing) (i : items.TermItems) → AreAdded context [] a i a i
added_none context a i = record { has_meanings = refl; terms = λ w t begun. begun }

pub added_no_terms : (context : Context) (a : Writing) (i : items.TermItems)
    → AreAdded context (terms_of value.none) a i a i
unfolding terms_of
added_no_terms context a i = record { has_meanings = refl; terms = λ w t begun. begun }

pub added_gap : (context : Context) (a : Writing) (i : items.TermItems)
    → AreAdded context (gap ∷ []) a i a (record i { goes_on = false })
added_gap context a i = record {
  has_meanings = refl;
  terms = λ w t begun. record { out = begun.out; items = begun.items; goes_on = refl };
}

-- by the parts that they are
pub added_as : (context : Context) (ps qs : List TermPart) (a b : Writing) (i j : items.TermItems) → ps ≡ qs
    → AreAdded context ps a i b j → AreAdded context qs a i b j
added_as context ps qs a b i j e h = subst (λ xs. AreAdded context xs a i b j) e h

-- one more child of the list
pub terms_taken : (ts : List Simple) (k : ℕ) (t : Simple) → k < length ts → t ≡ get_or ts k t
    → terms_of (simples_of (take k ts)) ++ parts_at (simple_of t) ≡ terms_of (simples_of (take (k + 1) ts))
terms_taken ts k t l e =
    sym (ap (λ xs. terms_of (simples_of xs)) (take_more ts k t l ∙ ap (λ y. take k ts ++ y ∷ []) (sym e))
    ∙ ap (λ xs. terms_of (value.simples_of xs)) (map_push simple_of (take k ts) t)
    ∙ terms_append (map simple_of (take k ts)) (simple_of t))

pub nodes_taken : (ts : List Simple) (k : ℕ) (t : Simple) → k < length ts → t ≡ get_or ts k t
    → map of_node (nodes_at (take k ts)) ++ of_node (node_at t) ∷ [] ≡ map of_node (nodes_at (take (k + 1) ts))
nodes_taken ts k t l e =
    sym (ap (λ xs. map of_node (nodes_at xs)) (take_more ts k t l ∙ ap (λ y. take k ts ++ y ∷ []) (sym e))
    ∙ ap (map of_node) (map_push node_at (take k ts) t)
    ∙ map_push of_node (nodes_at (take k ts)) (node_at t))

-- ---- a node is added

pub onto_end : (items : List Writing) (w : Writing) (parts : List Part)
    → onto_last (items ++ w ∷ []) parts ≡ items ++ fed_all w parts ∷ []
onto_end [] w parts = refl
onto_end (x ∷ []) w parts = refl
onto_end (x ∷ y ∷ items) w parts = ap (λ xs. x ∷ xs) (onto_end (y ∷ items) w parts)

some_items : (items : List Writing) (w : Writing) → nat_lt 0 (length (items ++ w ∷ [])) ≡ true
some_items [] w = refl
some_items (x ∷ items) w = grind (arith, nat_tests)

module _ (context : Context) (t : Simple) where
  abbrev inner : Context
  inner = deeper context

  -- a term
  pub term_added : (before : Writing) (old new : items.TermItems) (parts : List Part)
      → has is_term (simple_of t) ≡ true → parts ≡ apart ((node_at t).content inner)
      → map writing_in new.open.items ≡ with_term old.goes_on (map writing_in old.open.items) parts
      → new.goes_on ≡ old.has_meanings → new.has_meanings ≡ old.has_meanings
      → AreAdded context (of_node (node_at t) ∷ []) before old before new
  term_added before old new parts h p items goes means = record {
    has_meanings = means;
    terms = λ w s begun.
        let is : has is_term (node_at t).tree ≡ true = ap (has is_term) (tree_is (simple_of t)) ∙ h in
        let whole : with_node old.has_meanings context s (node_at t)
        ≡ flow.with_term old.has_meanings s (apart ((node_at t).content inner)) =
        ap (λ b. cond b (flow.with_term old.has_meanings s (apart ((node_at t).content inner)))
        (with_parts_of s)) is in
        subst (λ (u : Terms). AreBegun w u before new) (sym whole) (record {
          out = begun.out;
          items = items
              ∙ ap (λ b. with_term b (map writing_in old.open.items) parts) begun.goes_on
              ∙ ap (λ xs. with_term s.goes_on xs parts) begun.items
              ∙ ap (with_term s.goes_on s.items) p;
          goes_on = goes;
        });
  }
    where
      with_parts_of : Terms → Terms
      with_parts_of s = flow.with_parts (after_node s (node_at t)) (within_item (node_at t) inner)
          (beside_terms (node_at t) context)

  other_shape : (means : Bool) (s : Terms) → has is_term (simple_of t) ≡ false
      → with_node means context s (node_at t)
      ≡ flow.with_parts (after_node s (node_at t)) (within_item (node_at t) inner) (beside_terms (node_at t) context)
  other_shape means s h =
      ap (λ b. cond b (flow.with_term means s (apart ((node_at t).content inner)))
      (flow.with_parts (after_node s (node_at t)) (within_item (node_at t) inner) (beside_terms (node_at t) context)))
      (ap (has is_term) (tree_is (simple_of t)) ∙ h)

  goes_shape : (new old now : Bool) → new ≡ (old && not (has is_meaning (simple_of t))) → old ≡ now
      → new ≡ (now && not (has is_meaning (node_at t).tree))
  goes_shape new old now e f =
      e ∙ ap (λ x. x && not (has is_meaning (simple_of t))) f
      ∙ ap (λ x. now && not (has is_meaning x)) (sym (tree_is (simple_of t)))

  -- before the first item
  pub beside_added : (before after : Writing) (old new : items.TermItems) → has is_term (simple_of t) ≡ false
      → old.open.items ≡ [] → new.open.items ≡ []
      → after ≡ fed_all before (beside_terms (node_at t) context)
      → new.goes_on ≡ (old.goes_on && not (has is_meaning (simple_of t))) → new.has_meanings ≡ old.has_meanings
      → AreAdded context (of_node (node_at t) ∷ []) before old after new
  beside_added before after old new h none left e goes means = record {
    has_meanings = means;
    terms = λ w s begun.
        let empty : s.items ≡ [] = sym begun.items ∙ ap (map writing_in) none in
        let whole : with_node old.has_meanings context s (node_at t)
        ≡ record (after_node s (node_at t)) { before = s.before ++ beside_terms (node_at t) context } =
        other_shape old.has_meanings s h
        ∙ ap (λ xs. cond (nat_lt 0 (length xs)) (record (after_node s (node_at t)) {
          items = onto_last s.items (within_item (node_at t) inner);
        })
        (record (after_node s (node_at t)) { before = s.before ++ beside_terms (node_at t) context })) empty in
        subst (λ (u : Terms). AreBegun w u after new) (sym whole) (record {
          out = fed_both w before after s.before (beside_terms (node_at t) context) begun.out e;
          items = ap (map writing_in) left ∙ sym empty;
          goes_on = goes_shape new.goes_on old.goes_on s.goes_on goes begun.goes_on;
        });
  }

  -- in the last item
  pub within_added : (before : Writing) (old new : items.TermItems) (front : List paragraphs.Paragraphs)
      (item item' : paragraphs.Paragraphs)
      → has is_term (simple_of t) ≡ false → old.open.items ≡ front ++ item ∷ []
      → new.open.items ≡ front ++ item' ∷ []
      → writing_in item' ≡ fed_all (writing_in item) (within_item (node_at t) inner)
      → new.goes_on ≡ (old.goes_on && not (has is_meaning (simple_of t))) → new.has_meanings ≡ old.has_meanings
      → AreAdded context (of_node (node_at t) ∷ []) before old before new
  within_added before old new front item item' h o n e goes means = record {
    has_meanings = means;
    terms = λ w s begun.
        let all : s.items ≡ map writing_in front ++ writing_in item ∷ [] =
        sym begun.items ∙ ap (map writing_in) o ∙ map_push writing_in front item in
        let some : nat_lt 0 (length s.items) ≡ true =
        ap (λ xs. nat_lt 0 (length xs)) all ∙ some_items (map writing_in front) (writing_in item) in
        let whole : with_node old.has_meanings context s (node_at t)
        ≡ record (after_node s (node_at t)) { items = onto_last s.items (within_item (node_at t) inner) } =
        other_shape old.has_meanings s h
        ∙ ap (λ b. cond b (record (after_node s (node_at t)) {
          items = onto_last s.items (within_item (node_at t) inner);
        })
        (record (after_node s (node_at t)) { before = s.before ++ beside_terms (node_at t) context })) some in
        subst (λ (u : Terms). AreBegun w u before new) (sym whole) (record {
          out = begun.out;
          items = ap (map writing_in) n ∙ map_push writing_in front item'
              ∙ ap (λ x. map writing_in front ++ x ∷ []) e
              ∙ sym (ap (λ xs. onto_last xs (within_item (node_at t) inner)) all
              ∙ onto_end (map writing_in front) (writing_in item) (within_item (node_at t) inner));
          goes_on = goes_shape new.goes_on old.goes_on s.goes_on goes begun.goes_on;
        });
  }

  -- ---- what it gives beside terms

  pub meaning_beside : has is_meaning (simple_of t) ≡ true
      → apart ((node_at t).content context) ≡ beside_terms (node_at t) context
  meaning_beside h = sym (ap (λ b. cond b (apart ((node_at t).content context))
      (cond (is_item (node_at t)) ((node_at t).content context) ((node_at t).whole context)))
      (ap (has is_meaning) (tree_is (simple_of t)) ∙ h))

  pub item_beside : has is_meaning (simple_of t) ≡ false → has roles.is_item (simple_of t) ≡ true
      → (node_at t).content context ≡ beside_terms (node_at t) context
  item_beside h i = sym (ap (λ b. cond b (apart ((node_at t).content context))
      (cond (is_item (node_at t)) ((node_at t).content context) ((node_at t).whole context)))
      (ap (has is_meaning) (tree_is (simple_of t)) ∙ h)
      ∙ ap (λ b. cond b ((node_at t).content context) ((node_at t).whole context)) (item_at t ∙ i))

  pub other_beside : has is_meaning (simple_of t) ≡ false → has roles.is_item (simple_of t) ≡ false
      → (node_at t).whole context ≡ beside_terms (node_at t) context
  other_beside h i = sym (ap (λ b. cond b (apart ((node_at t).content context))
      (cond (is_item (node_at t)) ((node_at t).content context) ((node_at t).whole context)))
      (ap (has is_meaning) (tree_is (simple_of t)) ∙ h)
      ∙ ap (λ b. cond b ((node_at t).content context) ((node_at t).whole context)) (item_at t ∙ i))

  pub meaning_within : has is_meaning (simple_of t) ≡ true
      → beside_terms (node_at t) context ≡ within_item (node_at t) context
  meaning_within h = sym (ap (λ b. cond b (beside_terms (node_at t) context)
      (edge ∷ beside_terms (node_at t) context))
      (ap (has is_meaning) (tree_is (simple_of t)) ∙ h))

  pub other_within : has is_meaning (simple_of t) ≡ false
      → edge ∷ beside_terms (node_at t) context ≡ within_item (node_at t) context
  other_within h = sym (ap (λ b. cond b (beside_terms (node_at t) context) (edge ∷ beside_terms (node_at t) context))
      (ap (has is_meaning) (tree_is (simple_of t)) ∙ h))

-- ---- the whole list

module _ (parts : List TermPart) (ns : List Node) (context : Context) where
  abbrev pub all_terms : Terms
  all_terms = fold (with_part (list_any (has_role is_meaning) parts) context) no_terms parts

  pub terms_lined : is_lined context ≡ true → apart (flow_all ns context) ≡ term_parts parts ns context
  terms_lined h = sym (ap (λ b. cond (b || not (list_any (has_role is_term) parts)) (apart (flow_all ns context))
      (list_of_terms context all_terms)) h)

  pub terms_none : is_lined context ≡ false → list_any (has_role is_term) parts ≡ false
      → apart (flow_all ns context) ≡ term_parts parts ns context
  terms_none h i = sym (ap (λ b. cond (b || not (list_any (has_role is_term) parts)) (apart (flow_all ns context))
      (list_of_terms context all_terms)) h
      ∙ ap (λ b. cond (not b) (apart (flow_all ns context)) (list_of_terms context all_terms)) i)

  pub terms_listed : is_lined context ≡ false → list_any (has_role is_term) parts ≡ true
      → list_of_terms context all_terms ≡ term_parts parts ns context
  terms_listed h i =
      sym (ap (λ b. cond (b || not (list_any (has_role is_term) parts)) (apart (flow_all ns context))
      (list_of_terms context all_terms)) h
      ∙ ap (λ b. cond (not b) (apart (flow_all ns context)) (list_of_terms context all_terms)) i)

  -- all were added to none
  pub all_begun : (w v : Writing) (old new : items.TermItems) → old.open.items ≡ [] → old.goes_on ≡ false
      → old.has_meanings ≡ list_any (has_role is_meaning) parts → AreAdded context parts w old v new
      → AreBegun w all_terms v new
  all_begun w v old new none goes means added =
      subst (λ m. AreBegun w (fold (with_part m context) no_terms parts) v new) means
      (added.terms w no_terms (record { out = refl; items = ap (map writing_in) none; goes_on = goes }))

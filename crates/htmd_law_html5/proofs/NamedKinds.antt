-- Kinds of nodes by the names of elements, and what leaves elements their names.
use Rattle.std.proofs.Common.{◌≡◌, ◌∙◌, ℕ, zero, suc, ◌≤◌, Bool, true, false, List, [], ◌∷◌, ◌++◌, length, get_or, set}
use Rattle.std.proofs.Common.{Option, Some, None, refl, sym, ap, subst, arith}
use Rattle.std.proofs.lemmas.Bool.{true≢false}
use Rattle.std.proofs.lemmas.List.{length-map, length-set, length-append}
use Rattle.htmd_lexical.specs.AttributePairs.{AttributePair}
use Rattle.htmd_html5_state.specs.Names.{ElementNameValue}
use Rattle.htmd_html5_state.specs.Nodes.{KindValue, NodeValue, document, text, element, kind_at, add, add_text}
use Rattle.htmd_html5_state.specs.Nodes.{add_missing, kind_with_missing, with_kind, text_of, joined_with, joined_to}
use Rattle.htmd_html5_state.specs.Nodes.{or_add, preceding}
use Rattle.htmd_law_html5.proofs.NodeTexts.{kinds, kinds_add, kinds_with_kind, kind_read, kind_new}

-- an element whose name passes
abbrev pub is_named : (ElementNameValue → Bool) → KindValue → Bool
is_named p (element name attributes) = p name
is_named p _ = false

abbrev pub NamedAt : (ElementNameValue → Bool) → List KindValue → ℕ → Type 0
NamedAt p ks n = is_named p (get_or ks n document) ≡ true

-- there are no fewer nodes, and elements have the same names
pub record Grows (ks new : List KindValue) : Type 0 where
  pub size : length ks ≤ length new
  pub names : (p : ElementNameValue → Bool) (n : ℕ) → NamedAt p ks n → NamedAt p new n

pub grows_same : {ks new : List KindValue} → new ≡ ks → Grows ks new
grows_same {ks} {new} e =
    subst (λ (x : List KindValue). Grows ks x) (sym e) (record { size = omega arith; names = λ p n q. q })

pub grows_then : {ks some new : List KindValue} → Grows ks some → Grows some new → Grows ks new
grows_then a b =
    record { size = let x = a.size in let y = b.size in omega arith; names = λ p n q. b.names p n (a.names p n q) }

-- ---- one more node

named_before : (p : ElementNameValue → Bool) (ks : List KindValue) (k : KindValue) (n : ℕ) → NamedAt p ks n
    → NamedAt p (ks ++ k ∷ []) n
named_before p [] k n e = absurd (true≢false (sym e))
named_before p (x ∷ ks) k zero e = e
named_before p (x ∷ ks) k (suc n) e = named_before p ks k n e

pub grows_new : {ks new : List KindValue} (k : KindValue) → new ≡ ks ++ k ∷ [] → Grows ks new
grows_new {ks} k e =
    subst (λ (x : List KindValue). Grows ks x) (sym e)
    (record { size = let a = length-append ks (k ∷ []) in omega arith; names = λ p n q. named_before p ks k n q })

pub grows_added : (k : KindValue) (at : _) (nodes : List NodeValue) → Grows (kinds nodes) (kinds (add k at nodes))
grows_added k at nodes = grows_new k (kinds_add k at nodes)

pub named_added : (p : ElementNameValue → Bool) (nodes : List NodeValue) (k : KindValue) {new : List KindValue}
    → new ≡ kinds nodes ++ k ∷ [] → is_named p k ≡ true → NamedAt p new (length nodes)
named_added p nodes k e q =
    subst (λ (ks : List KindValue). NamedAt p ks (length nodes)) (sym e)
    (subst (λ (m : ℕ). NamedAt p (kinds nodes ++ k ∷ []) m) (length-map nodes _)
    (ap (is_named p) (kind_new (kinds nodes) k) ∙ q))

-- ---- a node of another kind, with the same name

named_set : (p : ElementNameValue → Bool) (ks : List KindValue) (n m : ℕ) (k : KindValue)
    → is_named p k ≡ is_named p (get_or ks n document) → NamedAt p ks m → NamedAt p (set ks n k) m
named_set p [] n m k e q = q
named_set p (x ∷ ks) zero zero k e q = e ∙ q
named_set p (x ∷ ks) zero (suc m) k e q = q
named_set p (x ∷ ks) (suc n) zero k e q = q
named_set p (x ∷ ks) (suc n) (suc m) k e q = named_set p ks n m k e q

grows_set : {ks new : List KindValue} (n : ℕ) (k : KindValue) → new ≡ set ks n k
    → ((p : ElementNameValue → Bool) → is_named p k ≡ is_named p (get_or ks n document)) → Grows ks new
grows_set {ks} n k e same =
    subst (λ (x : List KindValue). Grows ks x) (sym e)
    (record { size = let a = length-set ks n k in omega arith; names = λ p m q. named_set p ks n m k (same p) q })

missing_named : (p : ElementNameValue → Bool) (more : List AttributePair) (k : KindValue)
    → is_named p (kind_with_missing more k) ≡ is_named p k
missing_named p more (element name attributes) = refl
missing_named p more _ = refl

pub grows_missing : (n : ℕ) (more : List AttributePair) (nodes : List NodeValue)
    → Grows (kinds nodes) (kinds (add_missing n more nodes))
grows_missing n more nodes =
    grows_set n (kind_with_missing more (kind_at nodes n))
    (kinds_with_kind n (kind_with_missing more (kind_at nodes n)) nodes)
    (λ p. missing_named p more (kind_at nodes n) ∙ ap (is_named p) (kind_read nodes n))

-- ---- a text

-- it is a new node, or is joined to the text before it
pub by_text : (P : List NodeValue → Type 0) (t : List ℕ) (at : _) (nodes : List NodeValue)
    → P (add (text t) at nodes)
    → ((n : ℕ) (c : List ℕ) → preceding at nodes ≡ Some n → kind_at nodes n ≡ text c
    → P (with_kind n (text (c ++ t)) nodes))
    → P (add_text t at nodes)
by_text P t at nodes added joined = by_before (preceding at nodes) refl
  where
    by_kind : (n : ℕ) (k : KindValue) → preceding at nodes ≡ Some n → kind_at nodes n ≡ k
        → P (or_add t at nodes (joined_with t n (text_of k) nodes))
    by_kind n (text before) p e = joined n before p e
    by_kind n _ p e = added

    by_before : (before : Option ℕ) → preceding at nodes ≡ before
        → P (or_add t at nodes (joined_to t before nodes))
    by_before None p = added
    by_before (Some n) p = by_kind n (kind_at nodes n) p refl

pub grows_text : (t : List ℕ) (at : _) (nodes : List NodeValue) → Grows (kinds nodes) (kinds (add_text t at nodes))
grows_text t at nodes =
    by_text (λ new. Grows (kinds nodes) (kinds new)) t at nodes (grows_added (text t) at nodes)
    (λ n c p e. grows_set n (text (c ++ t)) (kinds_with_kind n (text (c ++ t)) nodes)
    (λ q. sym (sym (ap (is_named q) (kind_read nodes n)) ∙ ap (is_named q) e)))

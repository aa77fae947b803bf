-- Comments, before what follows them and alone.
use Rattle.std.proofs.Common.{List, None, Option, Some, [], ap, arith, codes, drop, false, inl, inr, refl, sym, true, ℕ}
use Rattle.std.proofs.Common.{◌&&◌, ◌++◌, ◌∙◌, ◌∷◌, ◌≡◌, ◌⊎◌}
use Rattle.std.proofs.lemmas.Bool.Decides.{nat_tests}
use Rattle.std.specs.Prelude.{option_map, ◌==◌}
use Rattle.std.proofs.lemmas.Bool.{and_parts}
use Rattle.htmd_lexical.specs.CharacterClasses.{begins_with}
use Rattle.htmd_grammar.specs.Comments.{before_comment_end}
use Rattle.htmd_lexical.proofs.BooleanLemmas.{and_false, if_then}

pub map_some : {A B : Type 0} (f : A → B) (o : Option A) (y : B) → option_map f o ≡ Some y
    → (x : A) × (o ≡ Some x) × (f x ≡ y)
map_some f None y e = absurd (cc)
map_some f (Some x) y e = (x, refl, cc)

abbrev pub Cut : Type 0
Cut = List ℕ × List ℕ

abbrev cons_cut : ℕ → Cut → Cut
cons_cut b q = (b ∷ q.0, q.1)

abbrev pub cut : List ℕ → List ℕ → Option Cut
cut s t = Some (s, t)

pub cut_same : (s t u r : List ℕ) → cut s t ≡ cut u r → (s ≡ u) × (t ≡ r)
cut_same s t u r e = let q : ◌≡◌ {A = Cut} (s, t) (u, r) =
    cc in (ap (λ (x : Cut). x.0) q, ap (λ (x : Cut). x.1) q)

grown : (b : ℕ) (o : Option Cut) (q : Cut) (u r a : List ℕ) → o ≡ cut (q.0) (q.1 ++ a)
    → ◌≡◌ {A = Cut} (cons_cut b q) (u, r) → option_map (cons_cut b) o ≡ cut u (r ++ a)
grown b o q u r a e f = rw (e, ← ap (λ (x : Cut). x.0) f, ← ap (λ (x : Cut). x.1) f) refl

pub before_close-append : (s a u r : List ℕ) → before_comment_end s ≡ cut u r
    → before_comment_end (s ++ a) ≡ cut u (r ++ a)
before_close-append [] a u r e = absurd (cc)
before_close-append (b ∷ []) a u r e = let q = rw (and_false (b == 45)) at e in absurd (cc)
before_close-append (b ∷ c ∷ []) a u r e = let q = simp and_false at e in absurd (cc)
before_close-append (b ∷ c ∷ d ∷ s) a u r e =
    go (if_then (begins_with (codes "-->") (b ∷ c ∷ d ∷ s)) (cut [] s)
    (option_map (cons_cut b) (before_comment_end (c ∷ d ∷ s))) (cut u r) e) (before_close-append (c ∷ d ∷ s) a)
  where
    go : ((begins_with (codes "-->") (b ∷ c ∷ d ∷ s) ≡ true) × (cut [] s ≡ cut u r))
        ⊎ ((begins_with (codes "-->") (b ∷ c ∷ d ∷ s) ≡ false)
        × (option_map (cons_cut b) (before_comment_end (c ∷ d ∷ s)) ≡ cut u r))
        → ((v t : List ℕ) → before_comment_end (c ∷ d ∷ s) ≡ cut v t
        → before_comment_end ((c ∷ d ∷ s) ++ a) ≡ cut v (t ++ a))
        → before_comment_end ((b ∷ c ∷ d ∷ s) ++ a) ≡ cut u (r ++ a)
    go (inl w) ih = let q = cut_same [] s u r w.1 in rw (w.0, ← q.0, ← q.1) refl
    go (inr w) ih =
        let m = map_some (cons_cut b) (before_comment_end (c ∷ d ∷ s)) (u, r) w.1 in
        let i = ih (m.0).0 (m.0).1 m.1 in
        rw w.0 (grown b (before_comment_end ((c ∷ d ∷ s) ++ a)) m.0 u r a i m.2)

one_more : (b : ℕ) (t x v : List ℕ) → before_comment_end t ≡ cut v []
    → begins_with (codes "-->") (b ∷ (t ++ x)) ≡ false
    → before_comment_end (b ∷ t) ≡ cut (b ∷ v) []
one_more b [] x v h f = absurd (cc)
one_more b (c ∷ []) x v h f = let q = rw (and_false (c == 45)) at h in absurd (cc)
one_more b (c ∷ d ∷ t) x v h f = rw (f, h) refl

pub before_close-split : (s u r : List ℕ) → before_comment_end s ≡ cut u r
    → (t : List ℕ) × (s ≡ t ++ r) × (before_comment_end t ≡ cut u [])
before_close-split [] u r e = absurd (cc)
before_close-split (b ∷ []) u r e = let q = rw (and_false (b == 45)) at e in absurd (cc)
before_close-split (b ∷ c ∷ []) u r e = let q = simp and_false at e in absurd (cc)
before_close-split (b ∷ c ∷ d ∷ s) u r e =
    go (if_then (begins_with (codes "-->") (b ∷ c ∷ d ∷ s)) (cut [] s)
    (option_map (cons_cut b) (before_comment_end (c ∷ d ∷ s))) (cut u r) e) (before_close-split (c ∷ d ∷ s))
  where
    go : ((begins_with (codes "-->") (b ∷ c ∷ d ∷ s) ≡ true) × (cut [] s ≡ cut u r))
        ⊎ ((begins_with (codes "-->") (b ∷ c ∷ d ∷ s) ≡ false)
        × (option_map (cons_cut b) (before_comment_end (c ∷ d ∷ s)) ≡ cut u r))
        → ((v x : List ℕ) → before_comment_end (c ∷ d ∷ s) ≡ cut v x
        → (t : List ℕ) × (c ∷ d ∷ s ≡ t ++ x)
        × (before_comment_end t ≡ cut v []))
        → (t : List ℕ) × (b ∷ c ∷ d ∷ s ≡ t ++ r) × (before_comment_end t ≡ cut u [])
    go (inl w) ih = let q = cut_same [] s u r w.1 in
        (b ∷ c ∷ d ∷ [], ap (λ (y : List ℕ). b ∷ c ∷ d ∷ y) q.1, rw (w.0, ← q.0) refl)
    go (inr w) ih =
        let m = map_some (cons_cut b) (before_comment_end (c ∷ d ∷ s)) (u, r) w.1 in
        let i = ih (m.0).0 (m.0).1 m.1 in
        let f : begins_with (codes "-->") (b ∷ (i.0 ++ (m.0).1)) ≡ false =
        ap (λ (y : List ℕ). begins_with (codes "-->") (b ∷ y)) (sym i.1) ∙ w.0 in (
          b ∷ i.0,
          ap (λ (y : List ℕ). b ∷ y) i.1 ∙ ap (λ (y : List ℕ). b ∷ (i.0 ++ y)) (ap (λ (x : Cut). x.1) m.2),
          one_more b i.0 (m.0).1 (m.0).0 i.2 f ∙ ap (λ (x : Cut). cut (x.0) []) m.2,
        )

pub dashes : (x : List ℕ) → begins_with (codes "--") x ≡ true → x ≡ 45 ∷ 45 ∷ drop 2 x
dashes [] e = absurd (cc)
dashes (b ∷ []) e = let q = rw (and_false (b == 45)) at e in absurd (cc)
dashes (b ∷ c ∷ x) e =
    let p = and_parts (b == 45) ((c == 45) && true) e in
    let q = and_parts (c == 45) true p.1 in
    let i : b ≡ 45 = grind (arith, nat_tests) in
    let j : c ≡ 45 = grind (arith, nat_tests) in
    rw (i, j) refl

-- What a part says of itself, or those in it.
use Rattle.std.proofs.Common.{◌≡◌, ℕ, ◌+◌, ◌++◌, true, false, cond, List, [], ◌∷◌, length, refl}
use Rattle.std.proofs.Common.{sym, ap, ◌∙◌, append_assoc, add_assoc}
use Rattle.std.proofs.Common.{Bor, Bool, Option, Some, None, is_some, drop, get_or, ◌<◌, arith}
use Rattle.std.proofs.lemmas.Bool.{false≢true}
use Rattle.std.proofs.lemmas.List.{append-nil}
use Rattle.htmd_nodes.specs.Views.{data_of}
use Rattle.htmd_article.specs.declared.outermost.Landmark.{Landmark}
use Rattle.htmd_article.specs.declared.parts.Part as source
use Rattle.htmd_article.specs.declared.parts.Part.{out-Part}
use Rattle.htmd_article.specs.declared.outermost.Landmark.TheVariants as landmark
use Rattle.htmd_article.specs.Choices.{prose_in, articles_in, is_large, first_large, large_article}
use Rattle.htmd_article.specs.Outermost.{is_landmark, outermost, all_outermost}
use Rattle.htmd_article.specs.Parts.{Part, facts_in, is_entered}
use Rattle.htmd_article.specs.PartViews.{part_of, parts_of, part_found}
use Rattle.htmd_article.proofs.PartsLemmas.{part-out}
use Rattle.htmd_article.proofs.TurnsLemmas.{rest-next}

module _ (mark : Landmark) (p : source.Part) where
  outermost-out : outermost mark (part_of p)
      ≡ cond (is_landmark mark (data_of (out-Part p).node.now) (out-Part p).facts) (part_of p ∷ [])
      (cond (is_entered (data_of (out-Part p).node.now)) (all_outermost mark (parts_of (out-Part p).parts.items)) [])
  outermost-out =
      ap (outermost mark) (part-out p)
      ∙ ap (λ x. cond (is_landmark mark (data_of (out-Part p).node.now) (out-Part p).facts) (x ∷ [])
      (cond (is_entered (data_of (out-Part p).node.now)) (all_outermost mark (parts_of (out-Part p).parts.items)) []))
      (sym (part-out p))

  pub outermost_named : is_landmark mark (data_of (out-Part p).node.now) (out-Part p).facts ≡ true
      → outermost mark (part_of p) ≡ part_of p ∷ []
  outermost_named so = outermost-out ∙ rw so refl

  pub outermost_within : is_landmark mark (data_of (out-Part p).node.now) (out-Part p).facts ≡ false
      → is_entered (data_of (out-Part p).node.now) ≡ true
      → outermost mark (part_of p) ≡ all_outermost mark (parts_of (out-Part p).parts.items)
  outermost_within otherwise so = outermost-out ∙ rw (otherwise, so) refl

  pub outermost_nowhere : is_landmark mark (data_of (out-Part p).node.now) (out-Part p).facts ≡ false
      → is_entered (data_of (out-Part p).node.now) ≡ false → outermost mark (part_of p) ≡ []
  outermost_nowhere otherwise closed = outermost-out ∙ rw (otherwise, closed) refl

-- what parts beside each other have together
pub prose_both : (xs ys : List Part) → prose_in (xs ++ ys) ≡ prose_in xs + prose_in ys
prose_both [] ys = omega arith
prose_both (x ∷ xs) ys =
    ap (λ n. (facts_in x).prose + n) (prose_both xs ys)
    ∙ sym (add_assoc (facts_in x).prose (prose_in xs) (prose_in ys))

articles_both : (xs ys : List Part) → articles_in (xs ++ ys) ≡ articles_in xs ++ articles_in ys
articles_both [] ys = refl
articles_both (x ∷ xs) ys =
    ap (λ zs. outermost landmark.Article x ++ zs) (articles_both xs ys)
    ∙ sym (append_assoc (outermost landmark.Article x) (articles_in xs) (articles_in ys))

some-step : (b : Bool) (x q : Part) (o other : Option Part) → (Some q ≡ o → Some q ≡ other)
    → Some q ≡ cond b (Some x) o → Some q ≡ cond b (Some x) other
some-step true x q o other h e = e
some-step false x q o other h e = h e

none-step : (b : Bool) (x : Part) (o other rest : Option Part) → (None ≡ o → other ≡ rest)
    → None ≡ cond b (Some x) o → cond b (Some x) other ≡ rest
none-step true x o other rest h e = absurd (false≢true (ap is_some e))
none-step false x o other rest h e = h e

-- the first that is large is among the first parts, or among the others if none of them is
pub first_some : (whole : ℕ) (xs ys : List Part) (q : Part) → Some q ≡ first_large whole xs
    → Some q ≡ first_large whole (xs ++ ys)
first_some whole [] ys q e = absurd (false≢true (sym (ap is_some e)))
first_some whole (x ∷ xs) ys q e =
    some-step (is_large whole (facts_in x).prose) x q (first_large whole xs) (first_large whole (xs ++ ys))
    (first_some whole xs ys q) e

pub first_none : (whole : ℕ) (xs ys : List Part) → None ≡ first_large whole xs
    → first_large whole (xs ++ ys) ≡ first_large whole ys
first_none whole [] ys e = refl
first_none whole (x ∷ xs) ys e =
    none-step (is_large whole (facts_in x).prose) x (first_large whole xs) (first_large whole (xs ++ ys))
    (first_large whole ys) (first_none whole xs ys) e

pub large_some : (whole : ℕ) (xs ys : List Part) (q : Part) → Some q ≡ large_article whole xs
    → Some q ≡ large_article whole (xs ++ ys)
large_some whole xs ys q e =
    first_some whole (articles_in xs) (articles_in ys) q e ∙ ap (first_large whole) (sym (articles_both xs ys))

pub large_none : (whole : ℕ) (xs ys : List Part) → None ≡ large_article whole xs
    → large_article whole (xs ++ ys) ≡ large_article whole ys
large_none whole xs ys e =
    ap (first_large whole) (articles_both xs ys) ∙ first_none whole (articles_in xs) (articles_in ys) e

-- of one part
pub large_one : (whole : ℕ) (p : Part)
    → large_article whole (p ∷ []) ≡ first_large whole (outermost landmark.Article p)
large_one whole p = ap (first_large whole) (append-nil (outermost landmark.Article p))

pub large_named : (whole : ℕ) (mark : Landmark) (p : source.Part)
    → is_landmark mark (data_of (out-Part p).node.now) (out-Part p).facts ≡ true
    → large_article whole (outermost mark (part_of p)) ≡ first_large whole (outermost landmark.Article (part_of p))
large_named whole mark p so = ap (large_article whole) (outermost_named mark p so) ∙ large_one whole (part_of p)

-- the parts of a list from one on
pub all-next : (mark : Landmark) (xs : List source.Part) (i : ℕ) (x : source.Part) → i < length xs
    → x ≡ get_or xs i x
    → all_outermost mark (parts_of (drop i xs))
    ≡ outermost mark (part_of x) ++ all_outermost mark (parts_of (drop (i + 1) xs))
all-next mark xs i x l is = ap (λ ys. all_outermost mark (parts_of ys)) (rest-next xs i x l is)

-- of the parts in a part
pub within-all : (mark : Landmark) (p : source.Part) (xs : List source.Part) → xs ≡ (out-Part p).parts.items
    → is_landmark mark (data_of (out-Part p).node.now) (out-Part p).facts ≡ false
    → is_entered (data_of (out-Part p).node.now) ≡ true
    → all_outermost mark (parts_of xs) ≡ outermost mark (part_of p)
within-all mark p xs same other entered =
    ap (λ ys. all_outermost mark (parts_of ys)) same ∙ sym (outermost_within mark p other entered)

none_of : {X : Type 0} (o : Option X) → ((x : X) → o ≡ Some x → ⊥) → o ≡ None
none_of None h = refl
none_of (Some x) h = absurd (h x refl)

module _ (mark : Landmark) (xs : List source.Part) (i : ℕ) (x : source.Part) (l : i < length xs)
    (is : x ≡ get_or xs i x) where
  pub prose_turn : (prose more : ℕ) → more ≡ prose_in (outermost mark (part_of x)) → (after : ℕ)
      → after ≡ prose + more
      → prose + prose_in (all_outermost mark (parts_of (drop i xs))) ≡ prose_in (all_outermost mark (parts_of xs))
      → after + prose_in (all_outermost mark (parts_of (drop (i + 1) xs)))
      ≡ prose_in (all_outermost mark (parts_of xs))
  prose_turn prose more e after f rest =
      let next : prose_in (all_outermost mark (parts_of (drop i xs)))
      ≡ prose_in (outermost mark (part_of x)) + prose_in (all_outermost mark (parts_of (drop (i + 1) xs))) =
      ap prose_in (all-next mark xs i x l is)
      ∙ prose_both (outermost mark (part_of x)) (all_outermost mark (parts_of (drop (i + 1) xs))) in
      omega (arith, e, f, rest, next)

  module _ (F : List Part → Option Part)
      (some : (ys zs : List Part) (q : Part) → Some q ≡ F ys → Some q ≡ F (ys ++ zs))
      (none : (ys zs : List Part) → None ≡ F ys → F (ys ++ zs) ≡ F zs)
      (found : Option (Bor source.Part)) (e : part_found found ≡ F (outermost mark (part_of x)))
      (rest : F (all_outermost mark (parts_of (drop i xs))) ≡ F (all_outermost mark (parts_of xs))) where
    next : F (outermost mark (part_of x) ++ all_outermost mark (parts_of (drop (i + 1) xs)))
        ≡ F (all_outermost mark (parts_of xs))
    next = ap F (sym (all-next mark xs i x l is)) ∙ rest

    pub walk_some : (q : Bor source.Part) → found ≡ Some q
        → Some (part_of q.now) ≡ F (all_outermost mark (parts_of xs))
    walk_some q f =
        some (outermost mark (part_of x)) (all_outermost mark (parts_of (drop (i + 1) xs))) (part_of q.now)
        (sym (ap part_found f) ∙ e) ∙ next

    pub walk_none : ((q : Bor source.Part) → found ≡ Some q → ⊥)
        → F (all_outermost mark (parts_of (drop (i + 1) xs))) ≡ F (all_outermost mark (parts_of xs))
    walk_none h =
        sym (none (outermost mark (part_of x)) (all_outermost mark (parts_of (drop (i + 1) xs)))
        (sym (ap part_found (none_of found h)) ∙ e)) ∙ next

-- an element that is counted or found
pub ruleset outermost_steps = (outermost_named, outermost_within, outermost_nowhere)

-- the same of a large article
pub ruleset large_steps = (large_named, outermost_within, outermost_nowhere)

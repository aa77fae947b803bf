-- Trees that stand for others: the same, but that behind a break the line's end may be missing.
use Rattle.std.proofs.Common.{◌≡◌, ℕ, Bool, true, false, List, [], ◌∷◌, ◌++◌, refl, ap, ◌∙◌}
use Rattle.std.proofs.Common.{codes, ◌⊎◌, inl}
use Rattle.std.specs.Str.{bytes_eq}
use Rattle.htmd_lexical.specs.AttributePairs.{AttributePair}
use Rattle.htmd_values.specs.ValueTrees as value
use Rattle.htmd_values.specs.ValueTrees.{ValueForest}
use Rattle.htmd_law_rendering.specs.RenderedTrees.{text_before, line_end}
use Rattle.htmd_law_rendering.specs.SpelledTrees as spelled
use Rattle.htmd_law_rendering.specs.SpelledTrees.{SpelledForest, TagForm, value_forest}
use Rattle.htmd_law_returning.proofs.StartLemmas.{false-true, true-false}

abbrev pub is_break : List ℕ → Bool
is_break name = bytes_eq name (codes "br")

-- one, or another behind a break
abbrev pub Behind : Bool → Type 0 → Type 0 → Type 0
Behind false A B = A
Behind true A B = A ⊎ B

abbrev mutual
  pub Stands : ValueForest → ValueForest → Type 0
  Stands us value.none = us ≡ value.none
  Stands us (value.more (value.element name attributes content) ts) =
      (inside vs : ValueForest) × (us ≡ value.more (value.element name attributes inside) vs)
      × Stands inside content × Behind (is_break name) (Stands vs ts) (Lacks vs ts)
  Stands us (value.more t ts) = (vs : ValueForest) × (us ≡ value.more t vs) × Stands vs ts

  -- without the line's end that the others begin with
  pub Lacks : ValueForest → ValueForest → Type 0
  Lacks us (value.more (value.text (c ∷ [])) ts) = Stands us ts
  Lacks us (value.more (value.text (c ∷ d ∷ s)) ts) =
      (vs : ValueForest) × (us ≡ value.more (value.text (d ∷ s)) vs) × Stands vs ts
  Lacks us ts = ⊥

pub stands-behind : (b : Bool) (us ts : ValueForest) → Stands us ts → Behind b (Stands us ts) (Lacks us ts)
stands-behind false us ts h = h
stands-behind true us ts h = inl h

pub beside : (b : Bool) (us ts : ValueForest) → b ≡ false → Behind b (Stands us ts) (Lacks us ts) → Stands us ts
beside false us ts e h = h
beside true us ts e h = true-false e

pub stands-same : (ts : ValueForest) → Stands ts ts
stands-same value.none = refl
stands-same (value.more (value.element name attributes content) ts) =
    (content, ts, refl, stands-same content, stands-behind (is_break name) ts ts (stands-same ts))
stands-same (value.more (value.document children) ts) = (ts, refl, stands-same ts)
stands-same (value.more value.doctype ts) = (ts, refl, stands-same ts)
stands-same (value.more (value.text s) ts) = (ts, refl, stands-same ts)
stands-same (value.more (value.comment s) ts) = (ts, refl, stands-same ts)

-- ---- texts before trees

-- no empty text is first
abbrev pub begins_filled : SpelledForest → Bool
begins_filled (spelled.more (spelled.text []) ts) = false
begins_filled ts = true

pub lacks-end : (us : ValueForest) (ts : SpelledForest) → begins_filled ts ≡ true
    → Lacks us (value_forest (line_end ts)) → Stands us (value_forest ts)
lacks-end us spelled.none f h = h
lacks-end us (spelled.more (spelled.text []) ts) f h = false-true f
lacks-end us (spelled.more (spelled.text (c ∷ s)) ts) f h = h
lacks-end us (spelled.more (spelled.element form name attributes content) ts) f h = h
lacks-end us (spelled.more (spelled.lone name attributes t) ts) f h = h
lacks-end us (spelled.more (spelled.section rows) ts) f h = h

pub end-lacks : (us : ValueForest) (ts : SpelledForest) → begins_filled ts ≡ true
    → Stands us (value_forest ts) → Lacks us (value_forest (line_end ts))
end-lacks us spelled.none f h = h
end-lacks us (spelled.more (spelled.text []) ts) f h = false-true f
end-lacks us (spelled.more (spelled.text (c ∷ s)) ts) f h = h
end-lacks us (spelled.more (spelled.element form name attributes content) ts) f h = h
end-lacks us (spelled.more (spelled.lone name attributes t) ts) f h = h
end-lacks us (spelled.more (spelled.section rows) ts) f h = h

pub text-filled : (s : List ℕ) (ts : SpelledForest) → begins_filled ts ≡ true
    → begins_filled (text_before s ts) ≡ true
text-filled [] ts h = h
text-filled (b ∷ s) spelled.none h = refl
text-filled (b ∷ s) (spelled.more (spelled.text t) ts) h = refl
text-filled (b ∷ s) (spelled.more (spelled.element form name attributes content) ts) h = refl
text-filled (b ∷ s) (spelled.more (spelled.lone name attributes t) ts) h = refl
text-filled (b ∷ s) (spelled.more (spelled.section rows) ts) h = refl

pub text-stands : (s : List ℕ) (us ts : SpelledForest) → Stands (value_forest us) (value_forest ts)
    → Stands (value_forest (text_before s us)) (value_forest (text_before s ts))
text-stands [] us ts h = h
text-stands (b ∷ s) spelled.none spelled.none h = (value.none, refl, refl)
text-stands (b ∷ s) (spelled.more u us) spelled.none h = (cc)
text-stands (b ∷ s) spelled.none (spelled.more (spelled.text t) ts) h = let e = h.1 in (cc)
text-stands (b ∷ s) (spelled.more (spelled.text u) us) (spelled.more (spelled.text t) ts) h =
    let e = h.1 in let same : u ≡ t = cc in let rest : value_forest us ≡ h.0 = cc in (
      h.0,
      ap (λ r. value.more (value.text (b ∷ (s ++ r))) (value_forest us)) same
          ∙ ap (value.more (value.text (b ∷ (s ++ t)))) rest,
      h.2,
    )
text-stands (b ∷ s) (spelled.more (spelled.element form name attributes content) us)
    (spelled.more (spelled.text t) ts) h = let e = h.1 in (cc)
text-stands (b ∷ s) (spelled.more (spelled.lone name attributes v) us) (spelled.more (spelled.text t) ts) h =
    let e = h.1 in (cc)
text-stands (b ∷ s) spelled.none (spelled.more (spelled.element form name attributes content) ts) h =
    let e = h.2 in (cc)
text-stands (b ∷ s) spelled.none (spelled.more (spelled.lone name attributes v) ts) h = let e = h.2 in (cc)
text-stands (b ∷ s) (spelled.more (spelled.text u) us)
    (spelled.more (spelled.element form name attributes content) ts) h =
    let e = h.2 in (cc)
text-stands (b ∷ s) (spelled.more (spelled.text u) us) (spelled.more (spelled.lone name attributes v) ts) h =
    let e = h.2 in (cc)
text-stands (b ∷ s) (spelled.more (spelled.element other word pairs inside) us)
    (spelled.more (spelled.element form name attributes content) ts) h =
    (value_forest (spelled.more (spelled.element other word pairs inside) us), refl, h)
text-stands (b ∷ s) (spelled.more (spelled.lone word pairs v) us)
    (spelled.more (spelled.element form name attributes content) ts) h =
    (value_forest (spelled.more (spelled.lone word pairs v) us), refl, h)
text-stands (b ∷ s) (spelled.more (spelled.element other word pairs inside) us)
    (spelled.more (spelled.lone name attributes v) ts) h =
    (value_forest (spelled.more (spelled.element other word pairs inside) us), refl, h)
text-stands (b ∷ s) (spelled.more (spelled.lone word pairs t) us) (spelled.more (spelled.lone name attributes v) ts) h
    =
    (value_forest (spelled.more (spelled.lone word pairs t) us), refl, h)
text-stands (b ∷ s) (spelled.more (spelled.section rows) us) (spelled.more (spelled.text t) ts) h =
    let e = h.1 in (cc)
text-stands (b ∷ s) spelled.none (spelled.more (spelled.section rows) ts) h = let e = h.2 in (cc)
text-stands (b ∷ s) (spelled.more (spelled.text u) us) (spelled.more (spelled.section rows) ts) h =
    let e = h.2 in (cc)
text-stands (b ∷ s) (spelled.more (spelled.element form name attributes content) us)
    (spelled.more (spelled.section rows) ts) h =
    (value_forest (spelled.more (spelled.element form name attributes content) us), refl, h)
text-stands (b ∷ s) (spelled.more (spelled.lone name attributes t) us) (spelled.more (spelled.section rows) ts) h =
    (value_forest (spelled.more (spelled.lone name attributes t) us), refl, h)
text-stands (b ∷ s) (spelled.more (spelled.section rows) us)
    (spelled.more (spelled.element form name attributes content) ts) h =
    (value_forest (spelled.more (spelled.section rows) us), refl, h)
text-stands (b ∷ s) (spelled.more (spelled.section rows) us) (spelled.more (spelled.lone name attributes t) ts) h =
    (value_forest (spelled.more (spelled.section rows) us), refl, h)
text-stands (b ∷ s) (spelled.more (spelled.section rows) us) (spelled.more (spelled.section other) ts) h =
    (value_forest (spelled.more (spelled.section rows) us), refl, h)

pub element-stands : (form other : TagForm) (name : List ℕ) (attributes : List AttributePair)
    (inside content us ts : SpelledForest) → Stands (value_forest inside) (value_forest content)
    → Stands (value_forest us) (value_forest ts)
    → Stands (value_forest (spelled.more (spelled.element form name attributes inside) us))
    (value_forest (spelled.more (spelled.element other name attributes content) ts))
element-stands form other name attributes inside content us ts h e = (
  value_forest inside,
  value_forest us,
  refl,
  h,
  stands-behind (is_break name) (value_forest us) (value_forest ts) e,
)

-- Where anchors stand in inlines that are begun: before what shows, or last as long as nothing follows.
use Rattle.std.proofs.Common.{◌≡◌, Bool, true, false, not, ◌&&◌, ◌||◌, List, [], ◌∷◌, refl, ap, ◌∙◌, sym}
use Rattle.htmd_lexical.proofs.Cases.{test}
use Rattle.htmd_document.specs.Documents.{Inline, text, code, image, line_break, task, link, anchor, Inlines}
use Rattle.htmd_document.specs.Documents.{no_inlines, inline}
use Rattle.htmd_document.specs.Documents as value
use Rattle.htmd_flow.specs.Nesting.{wrapped_by, wrapped, one_inline, met, joined}
use Rattle.htmd_flow.specs.NestViews.{followed}
use Rattle.htmd_flow.specs.Parts.{Around, formatted, linked}
use Rattle.htmd_document.specs.NormalInlines.{has_none, is_break, begins_with_space, is_gap, is_anchor, first_passes}
use Rattle.htmd_document.specs.NormalInlines.{stands_well, anchors_stand_well, shows_after}
use Rattle.htmd_law_documents.proofs.NormalTextLemmas.{and-true, or-false, neither, not-false, true-false, false-true}
use Rattle.htmd_law_documents.proofs.NormalBeginLemmas.{is_begun, BeginsAs, met-begins}

-- it is no gap, and no empty text
abbrev pub IsSolid : Inline → Type 0
IsSolid y = (is_gap y ≡ false) × (is_begun (one_inline y) ≡ true)

-- what follows an anchor; e: whether that may still come
abbrev pub ShowsNext : Bool → Inlines → Type 0
ShowsNext e no_inlines = e ≡ true
ShowsNext e (inline y ys) = IsSolid y

abbrev mutual
  pub StandsOne : Inline → Type 0
  StandsOne (value.formatted f content) = (first_passes is_anchor content ≡ false) × Stands false content
  StandsOne _ = Unit {0}

  pub Stands : Bool → Inlines → Type 0
  Stands e no_inlines = Unit {0}
  Stands e (inline x rest) = StandsOne x × (is_anchor x ≡ true → ShowsNext e rest) × Stands e rest

-- ---- so they stand well

mutual
  one-stands : (x : Inline) → StandsOne x → stands_well x ≡ true
  one-stands (value.formatted f content) h = and-true (not-false h.0) (stand-well content h.1)
  one-stands (text s) h = refl
  one-stands (code s) h = refl
  one-stands (link a t xs) h = refl
  one-stands (image a t d) h = refl
  one-stands (anchor i) h = refl
  one-stands line_break h = refl
  one-stands (task b) h = refl

  pub stand-well : (xs : Inlines) → Stands false xs → anchors_stand_well xs ≡ true
  stand-well no_inlines h = refl
  stand-well (inline x rest) h =
      and-true (and-true (one-stands x h.0) (next x rest h.1)) (stand-well rest h.2)
    where
      some : (rest : Inlines) → ShowsNext false rest
          → (not (has_none rest) && not (first_passes is_gap rest)) ≡ true
      some no_inlines h = false-true h
      some (inline y ys) h = not-false h.0

      next : (x : Inline) (rest : Inlines) → (is_anchor x ≡ true → ShowsNext false rest)
          → shows_after x rest ≡ true
      next x rest h = test (is_anchor x)
          (λ e. ap (λ b. not b || not (has_none rest) && not (first_passes is_gap rest)) e ∙ some rest (h e))
          (λ e. ap (λ b. not b || not (has_none rest) && not (first_passes is_gap rest)) e)

-- ---- one more

begins-solid : (x : Inline) (y : Inline) (ys : Inlines) → IsSolid x → BeginsAs (one_inline x) (inline y ys)
    → is_begun (one_inline y) ≡ true → IsSolid y
begins-solid x y ys h b s =
    let parts = neither (is_break x) (begins_with_space x) h.0 in
    (or-false (b.break ∙ parts.0) (b.space ∙ parts.1), s)

first-begun : (y : Inline) (ys : Inlines) → is_begun (inline y ys) ≡ true → is_begun (one_inline y) ≡ true
first-begun (text s) ys h = h
first-begun (code s) ys h = refl
first-begun (image a t d) ys h = refl
first-begun (anchor i) ys h = refl
first-begun (value.formatted f xs) ys h = refl
first-begun (link a t xs) ys h = refl
first-begun line_break ys h = refl
first-begun (task b) ys h = refl

module _ (e e' : Bool) (y : Inline) (one : StandsOne y) (solid : e ≡ true → IsSolid y)
    (last : is_anchor y ≡ true → e' ≡ true) where
  pair-stands : (x : Inline) → StandsOne x → (is_anchor x ≡ true → e ≡ true)
      → Stands e' (inline x (one_inline y))
  pair-stands x h f = (h, λ a. solid (f a), (one, last, tt))

module _ (e e' : Bool) where
  met-stands : (x y : Inline) → StandsOne y → (e ≡ true → IsSolid y) → (is_anchor y ≡ true → e' ≡ true)
      → StandsOne x → (is_anchor x ≡ true → e ≡ true) → Stands e' (met x y)
  met-stands (text s) (text t) o k l h f = (tt, λ a. false-true a, tt)
  met-stands (text s) (code t) o k l h f = pair-stands e e' (code t) o k l (text s) h f
  met-stands (text s) (image a t d) o k l h f = pair-stands e e' (image a t d) o k l (text s) h f
  met-stands (text s) (anchor i) o k l h f = pair-stands e e' (anchor i) o k l (text s) h f
  met-stands (text s) (value.formatted g xs) o k l h f =
      pair-stands e e' (value.formatted g xs) o k l (text s) h f
  met-stands (text s) (link a t xs) o k l h f = pair-stands e e' (link a t xs) o k l (text s) h f
  met-stands (text s) line_break o k l h f = pair-stands e e' line_break o k l (text s) h f
  met-stands (text s) (task b) o k l h f = pair-stands e e' (task b) o k l (text s) h f
  met-stands (code s) (text t) o k l h f = pair-stands e e' (text t) o k l (code s) h f
  met-stands (code s) (code t) o k l h f = (tt, λ a. false-true a, tt)
  met-stands (code s) (image a t d) o k l h f = pair-stands e e' (image a t d) o k l (code s) h f
  met-stands (code s) (anchor i) o k l h f = pair-stands e e' (anchor i) o k l (code s) h f
  met-stands (code s) (value.formatted g xs) o k l h f =
      pair-stands e e' (value.formatted g xs) o k l (code s) h f
  met-stands (code s) (link a t xs) o k l h f = pair-stands e e' (link a t xs) o k l (code s) h f
  met-stands (code s) line_break o k l h f = pair-stands e e' line_break o k l (code s) h f
  met-stands (code s) (task b) o k l h f = pair-stands e e' (task b) o k l (code s) h f
  met-stands (image a t d) y o k l h f = pair-stands e e' y o k l (image a t d) h f
  met-stands (anchor i) y o k l h f = pair-stands e e' y o k l (anchor i) h f
  met-stands (value.formatted g xs) y o k l h f = pair-stands e e' y o k l (value.formatted g xs) h f
  met-stands (link a t xs) y o k l h f = pair-stands e e' y o k l (link a t xs) h f
  met-stands line_break y o k l h f = pair-stands e e' y o k l line_break h f
  met-stands (task b) y o k l h f = pair-stands e e' y o k l (task b) h f

-- the first of inlines stays what follows an anchor
met-next : (e' : Bool) (x y : Inline) → IsSolid x → ShowsNext e' (met x y)
met-next e' x y h = at (met x y) (met-begins x y h.1)
  where
    at : (zs : Inlines) → BeginsAs (one_inline x) zs → ShowsNext e' zs
    at no_inlines b = false-true b.begun
    at (inline z zs) b = begins-solid x z zs h b (first-begun z zs b.begun)

joined-next : (e' : Bool) (x : Inline) (xs : Inlines) (y : Inline) → IsSolid x
    → ShowsNext e' (joined (inline x xs) y)
joined-next e' x no_inlines y h = met-next e' x y h
joined-next e' x (inline x' xs) y h = h

pub joined-stands : (e e' : Bool) (xs : Inlines) (y : Inline) → Stands e xs → StandsOne y
    → (e ≡ true → IsSolid y)
    → (is_anchor y ≡ true → e' ≡ true) → Stands e' (joined xs y)
joined-stands e e' no_inlines y h o k l = (o, l, tt)
joined-stands e e' (inline x no_inlines) y h o k l = met-stands e e' x y o k l h.0 h.1
joined-stands e e' (inline x (inline x' xs)) y h o k l =
    (h.0, λ a. joined-next e' x' xs y (h.1 a), joined-stands e e' (inline x' xs) y h.2 o k l)

-- ---- another in place of the last

pub last-stands : (before : Inlines) (x x' : Inline) → Stands false (followed before (one_inline x)) → StandsOne x'
    → is_anchor x' ≡ false → IsSolid x' → Stands false (followed before (one_inline x'))
last-stands no_inlines x x' h o a s = (o, λ b. true-false (sym b ∙ a), tt)
last-stands (inline z no_inlines) x x' h o a s = (h.0, λ b. s, (o, λ b. true-false (sym b ∙ a), tt))
last-stands (inline z (inline z' zs)) x x' h o a s =
    (h.0, h.1, last-stands (inline z' zs) x x' h.2 o a s)

pub last-one : (before : Inlines) (x : Inline) → Stands false (followed before (one_inline x)) → StandsOne x
last-one no_inlines x h = h.0
last-one (inline z zs) x h = last-one zs x h.2

-- ---- in what stands around it

pub wrapped_by-solid : (a : Around) (xs : Inlines) → IsSolid (wrapped_by a xs)
wrapped_by-solid (formatted f) xs = (refl, refl)
wrapped_by-solid (linked n address title) xs = (refl, refl)

pub wrapped_by-plain : (a : Around) (xs : Inlines) → is_anchor (wrapped_by a xs) ≡ false
wrapped_by-plain (formatted f) xs = refl
wrapped_by-plain (linked n address title) xs = refl

pub wrapped-plain : (around : List Around) (y : Inline) → is_anchor y ≡ false
    → is_anchor (wrapped around y) ≡ false
wrapped-plain [] y h = h
wrapped-plain (a ∷ around) y h = wrapped_by-plain a (one_inline (wrapped around y))

pub wrapped-solid : (around : List Around) (y : Inline) → IsSolid y → IsSolid (wrapped around y)
wrapped-solid [] y h = h
wrapped-solid (a ∷ around) y h = wrapped_by-solid a (one_inline (wrapped around y))

pub wrapped-one : (around : List Around) (y : Inline) → is_anchor y ≡ false → StandsOne y
    → StandsOne (wrapped around y)
wrapped-one [] y h o = o
wrapped-one (formatted f ∷ around) y h o =
    let plain : is_anchor (wrapped around y) ≡ false = wrapped-plain around y h in
    (plain, (wrapped-one around y h o, λ b. true-false (sym b ∙ plain), tt))
wrapped-one (linked n address title ∷ around) y h o = tt

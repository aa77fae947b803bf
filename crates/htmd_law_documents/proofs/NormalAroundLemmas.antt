-- What stands around in normal documents: formats and a link that may stand there.
use Rattle.std.proofs.Common.{◌≡◌, ℕ, zero, suc, ◌+◌, Bool, true, false, cond, List, [], ◌∷◌, ◌++◌, refl, ap, ◌∙◌}
use Rattle.std.proofs.Common.{Option, arith, length, filter}
use Rattle.std.specs.Prelude.{nat_le}
use Rattle.std.specs.List.{list_any}
use Rattle.htmd_lexical.specs.AttributePairs.{AttributePair}
use Rattle.htmd_document.specs.DocumentLimits.{most_raised}
use Rattle.htmd_document.specs.Formats.{Format, is_same_kind, is_raised, raised_count}
use Rattle.htmd_document.specs.NormalInlines.{is_around, is_barred, has_title, is_attribute, is_title}
use Rattle.htmd_document.proofs.FormatsLemmas.{kind-turned}
use Rattle.htmd_flow.specs.Contexts.{Context, with_around, is_format, is_link, is_raised_around, raised_around}
use Rattle.htmd_flow.specs.Contexts.{is_enough, inside_format, inside_link, without_link, unlinked, beside_code}
use Rattle.htmd_flow.specs.Nesting.{wrapper_of}
use Rattle.htmd_flow.specs.Parts.{Around, formatted, linked, Part}
use Rattle.htmd_law_documents.proofs.NormalTextLemmas.{or-false, neither, true-false}
use Rattle.htmd_law_documents.proofs.NormalLineLemmas.{in_link, formats_in, Fits, FitAll}
use Rattle.htmd_law_documents.proofs.NormalPartsLemmas.{Wait, FineFrom}
use Rattle.htmd_law_documents.proofs.NormalNodesLemmas.{bound, FitsIn, GivesFrom}

-- what stands around all that stands in these
abbrev link_after : Bool → List Around → Bool
link_after l [] = l
link_after l (a ∷ around) = link_after (in_link l (wrapper_of a)) around

abbrev formats_after : List Format → List Around → List Format
formats_after r [] = r
formats_after r (a ∷ around) = formats_after (formats_in r (wrapper_of a)) around

fit-more : (l : Bool) (r : List Format) (around : List Around) (a : Around) → FitAll l r around
    → Fits (link_after l around) (formats_after r around) a → FitAll l r (around ++ a ∷ [])
fit-more l r [] a h f = (f, tt)
fit-more l r (b ∷ around) a h f =
    (h.0, fit-more (in_link l (wrapper_of b)) (formats_in r (wrapper_of b)) around a h.1 f)

-- ---- formats

no-format : (f : Format) (r : List Format) (around : List Around) → is_around r f ≡ false
    → list_any (is_format f) around ≡ false → is_around (formats_after r around) f ≡ false
no-format f r [] h e = h
no-format f r (formatted g ∷ around) h e =
    let parts = neither (is_same_kind f g) (list_any (is_format f) around) e in
    no-format f (g ∷ r) around (or-false (kind-turned g f ∙ parts.0) h) parts.1
no-format f r (linked n address title ∷ around) h e = no-format f r around h e

-- as many are raised as are around
raised-after : (r : List Format) (around : List Around)
    → raised_count (formats_after r around) ≡ raised_count r + raised_around around
raised-after r [] = plus (raised_count r)
  where
    plus : (n : ℕ) → n ≡ n + 0
    plus n = omega arith
raised-after r (formatted g ∷ around) =
    raised-after (g ∷ r) around ∙ one (is_raised g) (raised_count r) (filter is_raised_around around)
  where
    more : (m n : ℕ) → suc m + n ≡ m + suc n
    more m n = omega arith

    one : (b : Bool) (m : ℕ) (rest : List Around)
        → cond b (suc m) m + length rest ≡ m + length (cond b (formatted g ∷ rest) rest)
    one true m rest = more m (length rest)
    one false m rest = refl
raised-after r (linked n address title ∷ around) = raised-after r around

not-barred : (f : Format) (around : List Around) → is_enough f around ≡ false
    → is_barred (formats_after [] around) f ≡ false
not-barred f around e = either (is_raised f) e
  where
    less : (n : ℕ) → 0 + n ≡ n
    less n = omega arith

    either : (b : Bool)
        → cond b (nat_le most_raised (raised_around around)) (list_any (is_format f) around) ≡ false
        → cond b (nat_le most_raised (raised_count (formats_after [] around)))
        (is_around (formats_after [] around) f) ≡ false
    either true h = ap (nat_le most_raised) (raised-after [] around ∙ less (raised_around around)) ∙ h
    either false h = no-format f [] around refl h

-- ---- links

no-link : (l : Bool) (around : List Around) → l ≡ false → list_any is_link around ≡ false
    → link_after l around ≡ false
no-link l [] h e = h
no-link l (formatted g ∷ around) h e = no-link l around h e
no-link l (linked n address title ∷ around) h e = true-false e

-- what fits into a link fits without it
fit-outside : (r : List Format) (around : List Around) → FitAll true r around → FitAll false r around
fit-outside r [] h = tt
fit-outside r (formatted g ∷ around) h = (h.0, fit-outside (g ∷ r) around h.1)
fit-outside r (linked n address title ∷ around) h = true-false h.0.0

pub fit-without : (r : List Format) (around : List Around) → FitAll false r around
    → FitAll false r (without_link around)
fit-without r [] h = tt
fit-without r (formatted g ∷ around) h = (h.0, fit-without (g ∷ r) around h.1)
fit-without r (linked n address title ∷ around) h = fit-outside r around h.1

-- ---- contexts

module _ (s : Wait) where
  changed : (parts : Context → List Part) → GivesFrom s parts → (c : Context) (b : Bool) (a : Around) → FitsIn c
      → (b ≡ false → FitsIn (with_around c a))
      → FineFrom c.is_flat (bound c) s (parts (cond b c (with_around c a)))
  changed parts g c true a f h = g c f
  changed parts g c false a f h = g (with_around c a) (h refl)

  -- with a format more
  pub format-gives : (f : Format) (parts : Context → List Part) → has_title f ≡ true → GivesFrom s parts
      → GivesFrom s (λ c. parts (inside_format f c))
  format-gives f parts t g c h =
      changed parts g c (is_enough f c.around) (formatted f) h
      (λ e. fit-more false [] c.around (formatted f) h (not-barred f c.around e, t))

  -- in a link
  pub link-gives : (id : ℕ) (address : List ℕ) (title : Option (List ℕ)) (parts : Context → List Part)
      → is_attribute address ≡ true → is_title title ≡ true → GivesFrom s parts
      → GivesFrom s (λ c. parts (inside_link id address title c))
  link-gives id address title parts a t g c h =
      changed parts g c (list_any is_link c.around) (linked id address title) h
      (λ e. fit-more false [] c.around (linked id address title) h (no-link false c.around refl e, a, t))

  -- without the link
  pub unlinked-gives : (parts : Context → List Part) → GivesFrom s parts → GivesFrom s (λ c. parts (unlinked c))
  unlinked-gives parts g c h = g (unlinked c) (fit-without [] c.around h)

  -- near code
  pub near-gives : (pres : ℕ) (attributes : List AttributePair) (parts : Context → List Part) → GivesFrom s parts
      → GivesFrom s (λ c. parts (beside_code pres attributes c))
  near-gives zero attributes parts g c h = g c h
  near-gives (suc zero) attributes parts g c h = g (beside_code 1 attributes c) h
  near-gives (suc (suc n)) attributes parts g c h = g (beside_code (suc (suc n)) attributes c) h

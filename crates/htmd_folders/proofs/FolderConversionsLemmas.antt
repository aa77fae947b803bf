-- A run from page to page, and what follows from how its pages were taken.
use Rattle.std.proofs.Common.{◌≡◌, ◌⊎◌, ◌+◌, ℕ, suc, Bool, List, [], ◌∷◌, ◌++◌, Option, None, Some}
use Rattle.std.proofs.Common.{refl, subst, inl, inr, arith}
use Rattle.htmd_files.specs.declared.planning.Page.{Page}
use Rattle.htmd_folders.specs.Changes.{Change, Makes}
use Rattle.htmd_folders.specs.Pages.{Conversion, Converts, Fails}
use Rattle.htmd_folders.specs.FolderConversions.{TakesAfter, TakesOne}

-- one more page was taken
pub takes_more : (becomes : Conversion) (keeps : Bool) (pages : List Page) (page : Page)
    (a b c : Option (List Change)) (l f m n p q : ℕ) → TakesAfter becomes keeps pages a b l f m n
    → TakesOne becomes keeps page b c m n p q → TakesAfter becomes keeps (pages ++ page ∷ []) a c l f p q
takes_more becomes keeps [] page a b c l f m n p q (e, z, w) one =
    let P : Option (List Change) → Type 0 = λ x. TakesOne becomes keeps page x c m n p q in
    let L : ℕ → Type 0 = λ k. TakesOne becomes keeps page a c k n p q in
    let F : ℕ → Type 0 = λ k. TakesOne becomes keeps page a c l k p q in
    (c, p, q, subst F w (subst L z (subst P e one)), (refl, refl, refl))
takes_more becomes keeps (first ∷ pages) page a b c l f m n p q (between, i, j, of_first, rest) one =
    (between, i, j, of_first, takes_more becomes keeps pages page between b c i j m n p q rest one)

-- ---- pages that were not converted

-- one page was converted or not, and so many weren't, by how many of the others weren't
abbrev pub ConvertsOne : Conversion → Page → Option (List Change) → Option (List Change) → ℕ → ℕ
    → Type 0
ConvertsOne becomes page before after missed others =
    (Converts becomes page before after × (missed ≡ others)) ⊎ (Fails page before after × (missed ≡ suc others))

-- the pages were taken in order, and so many weren't converted
abbrev pub ConvertsAll : Conversion → List Page → Option (List Change) → Option (List Change) → ℕ → Type 0
ConvertsAll becomes [] before after missed = (after ≡ before) × (missed ≡ 0)
ConvertsAll becomes (page ∷ more) before after missed =
    (between : Option (List Change)) × (others : ℕ) × ConvertsAll becomes more between after others
    × ConvertsOne becomes page before between missed others

-- what changes no file changes no more than a page that fails
nothing_fails : (page : Page) (before after : Option (List Change)) → Makes before after []
    → Fails page before after
nothing_fails page None after m = tt
nothing_fails page (Some past) after m = inl m

pub converts_all : (becomes : Conversion) (keeps : Bool) (pages : List Page) (a b : Option (List Change))
    (l f m n : ℕ) → TakesAfter becomes keeps pages a b l f m n
    → (missed : ℕ) × ConvertsAll becomes pages a b missed × (m + n ≡ (l + f) + missed)
converts_all becomes keeps [] a b l f m n (e, z, w) = (0, (e, refl), omega (arith, z, w))
converts_all becomes keeps (page ∷ more) a b l f m n (between, i, j, inl (h, z, w), rest) =
    let others = converts_all becomes keeps more between b i j m n rest in
    (others.0, (between, others.0, others.1, inl (h, refl)), (let e = others.2 in omega (arith, e, z, w)))
converts_all becomes keeps (page ∷ more) a b l f m n (between, i, j, inr (inl (k, h, z, w)), rest) =
    let others = converts_all becomes keeps more between b i j m n rest in (
      suc others.0,
      (between, others.0, others.1, inr (nothing_fails page a between h, refl)),
      (let e = others.2 in omega (arith, e, z, w)),
    )
converts_all becomes keeps (page ∷ more) a b l f m n (between, i, j, inr (inr (h, z, w)), rest) =
    let others = converts_all becomes keeps more between b i j m n rest in (
      suc others.0,
      (between, others.0, others.1, inr (h, refl)),
      (let e = others.2 in omega (arith, e, z, w)),
    )

-- Runs fit, or have one unit.
use Rattle.std.proofs.Common.{◌≡◌, ℕ, ◌≤◌, Bool, true, false, cond, List, [], ◌∷◌, ◌++◌, map, refl, arith}
use Rattle.std.proofs.Common.{ap, take, leb-true, ◌⊎◌, inl, inr}
use Rattle.std.specs.Prelude.{◌||◌, nat_le}
use Rattle.htmd_document.specs.Documents.{Block}
use Rattle.htmd_commonmark.specs.declared.options.DocumentOptions.{DocumentOptions}
use Rattle.htmd_chunks.specs.Cuts.{block_part, leaf_parts}
use Rattle.htmd_chunks.specs.Measures.{block_cost}
use Rattle.htmd_chunks.specs.Pieces.{piece_options}
use Rattle.htmd_chunks.specs.Runs.{runs_from, runs}
use Rattle.htmd_chunks.specs.ShortPieces.{is_least, ends_empty}
use Rattle.htmd_chunks.specs.declared.joint.Joint.{Joint}
use Rattle.htmd_chunks.specs.declared.size.Margin.{Margin}
use Rattle.htmd_chunks.proofs.ShortPartsLemmas.{BlockFit, FirstBlock, AllBlocks, none_left, one_left, BlockParts}
use Rattle.htmd_chunks.proofs.ShortPartsLemmas.{cut_into}

-- this holds of each
pub data Each {X : Type 0} (ok : X → Type 0) : List X → Type 0 where
  of_none : Each ok []
  of_more : (x : X) (xs : List X) → ok x → Each ok xs → Each ok (x ∷ xs)

pub each-behind : {X : Type 0} (ok : X → Type 0) (xs ys : List X) → Each ok xs → Each ok ys → Each ok (xs ++ ys)
each-behind ok xs ys of_none more = more
each-behind ok xs ys (of_more x rest here others) more =
    of_more x (rest ++ ys) here (each-behind ok rest ys others more)

-- of the first run, and of the others
pub data RunParts {X : Type 0} (p q : List X → Type 0) : List (List X) → Type 0 where
  runs_are : (first : List X) (rest : List (List X)) → p first → Each q rest → RunParts p q (first ∷ rest)

-- what is asked of runs holds of those that take no more than they may
runs-later : {X : Type 0} (taken : List X → ℕ) (most : ℕ) (ok : X → Type 0) (q : List X → Type 0)
    → ((x : X) (xs : List X) → Each ok (x ∷ xs) → taken (x ∷ xs) ≤ most → q (x ∷ xs))
    → ((x : X) → ok x → q (x ∷ []))
    → (y : X) (ys xs : List X) → Each ok (y ∷ ys) → Each ok xs → q (y ∷ ys)
    → Each q (runs_from taken most most (y ∷ ys) xs)
runs-later taken most ok q fits one y ys xs begun of_none here = of_more (y ∷ ys) [] here of_none
runs-later taken most ok q fits one y ys xs begun (of_more x rest now others) here =
    let next = each-behind ok (y ∷ ys) (x ∷ []) begun (of_more x [] now of_none) in
    elim (nat_le (taken (y ∷ (ys ++ x ∷ []))) most)
    as (λ e. nat_le (taken (y ∷ (ys ++ x ∷ []))) most ≡ e
    → Each q (cond e (runs_from taken most most (y ∷ (ys ++ x ∷ [])) rest)
    ((y ∷ ys) ∷ runs_from taken most most (x ∷ []) rest))) [
      | true ↦ λ le.
          runs-later taken most ok q fits one y (ys ++ x ∷ []) rest next others
          (fits y (ys ++ x ∷ []) next (leb-true (taken (y ∷ (ys ++ x ∷ []))) most le))
      | false ↦ λ over.
          of_more (y ∷ ys) (runs_from taken most most (x ∷ []) rest) here
          (runs-later taken most ok q fits one x [] rest (of_more x [] now of_none) others (one x now))
    ] refl

runs-first : {X : Type 0} (taken : List X → ℕ) (most first : ℕ) (ok : X → Type 0) (p q : List X → Type 0)
    → ((x : X) (xs : List X) → Each ok (x ∷ xs) → taken (x ∷ xs) ≤ first → p (x ∷ xs))
    → ((x : X) (xs : List X) → Each ok (x ∷ xs) → taken (x ∷ xs) ≤ most → q (x ∷ xs))
    → ((x : X) → ok x → q (x ∷ []))
    → (y : X) (ys xs : List X) → Each ok (y ∷ ys) → Each ok xs → p (y ∷ ys)
    → RunParts p q (runs_from taken most first (y ∷ ys) xs)
runs-first taken most first ok p q begins fits one y ys xs begun of_none here = runs_are (y ∷ ys) [] here of_none
runs-first taken most first ok p q begins fits one y ys xs begun (of_more x rest now others) here =
    let next = each-behind ok (y ∷ ys) (x ∷ []) begun (of_more x [] now of_none) in
    elim (nat_le (taken (y ∷ (ys ++ x ∷ []))) first)
    as (λ e. nat_le (taken (y ∷ (ys ++ x ∷ []))) first ≡ e
    → RunParts p q (cond e (runs_from taken most first (y ∷ (ys ++ x ∷ [])) rest)
    ((y ∷ ys) ∷ runs_from taken most most (x ∷ []) rest))) [
      | true ↦ λ le.
          runs-first taken most first ok p q begins fits one y (ys ++ x ∷ []) rest next others
          (begins y (ys ++ x ∷ []) next (leb-true (taken (y ∷ (ys ++ x ∷ []))) first le))
      | false ↦ λ over.
          runs_are (y ∷ ys) (runs_from taken most most (x ∷ []) rest) here
          (runs-later taken most ok q fits one x [] rest (of_more x [] now of_none) others (one x now))
    ] refl

-- all of them, of which the first begins with the first unit
runs-fit : {X : Type 0} (taken : List X → ℕ) (most first : ℕ) (ok : X → Type 0) (p q : List X → Type 0)
    → ((x : X) (xs : List X) → Each ok (x ∷ xs) → taken (x ∷ xs) ≤ first → p (x ∷ xs))
    → ((x : X) (xs : List X) → Each ok (x ∷ xs) → taken (x ∷ xs) ≤ most → q (x ∷ xs))
    → ((x : X) → ok x → q (x ∷ []))
    → (xs : List X) → Each ok xs → (xs ≡ [] → p [])
    → ((x : X) (rest : List X) → xs ≡ x ∷ rest → ok x → p (x ∷ []))
    → RunParts p q (runs taken most first xs)
runs-fit taken most first ok p q begins fits one xs of_none none some = runs_are [] [] (none refl) of_none
runs-fit taken most first ok p q begins fits one xs (of_more x rest now others) none some =
    runs-first taken most first ok p q begins fits one x [] rest (of_more x [] now of_none) others
    (some x rest refl now)

-- Blocks of runs take no more than the runs, and one of one unit fits or can't be cut.
pub runs-well : {X : Type 0} (options : DocumentOptions) (m : Margin) (most first : ℕ) (taken : List X → ℕ)
    (ok : X → Type 0) (f : List X → Block)
    → ((x : X) (xs : List X) → Each ok (x ∷ xs)
    → block_cost (piece_options options) m (f (x ∷ xs)) ≤ taken (x ∷ xs))
    → ((x : X) → ok x → (taken (x ∷ []) ≤ most) ⊎ (is_least (f (x ∷ [])) ≡ true))
    → (xs : List X) → Each ok xs
    → (xs ≡ [] → (block_cost (piece_options options) m (f []) ≤ taken []) × (is_least (f []) ≡ true))
    → RunParts (λ r. FirstBlock options m most first (taken (take 1 xs)) (f r))
    (λ r. BlockFit options m most (f r)) (runs taken most first xs)
runs-well {X} options m most first taken ok f costs one xs each none =
    runs-fit taken most first ok (λ r. FirstBlock options m most first (taken (take 1 xs)) (f r))
    (λ r. BlockFit options m most (f r))
    (λ x rest each_here le.
    (let fit = costs x rest each_here in
    record {
      fits = λ least. inl (omega (arith, fit, le));
      short = λ is. inl (omega (arith, fit, le, is));
    }))
    (λ x rest each_here le. inl (omega (arith, costs x rest each_here, le)))
    fit-one xs each
    (λ is. record {
      fits = λ le. inl (omega (arith, (none is).0, ap (λ ys. taken (take 1 ys)) is, le));
      short = λ whole. inr (or-left (is_least (f [])) (ends_empty (f [])) (none is).1);
    })
    (λ x rest is now. record {
      fits =
          λ le. inl (omega (arith, costs x [] (of_more x [] now of_none), ap (λ ys. taken (take 1 ys)) is, le));
      short = λ whole. fit-one x now;
    })
  where
    or-left : (a b : Bool) → a ≡ true → (a || b) ≡ true
    or-left a b e = ap (λ x. x || b) e

    fit-one : (x : X) → ok x → BlockFit options m most (f (x ∷ []))
    fit-one x now =
        elim (one x now) as (λ o. BlockFit options m most (f (x ∷ []))) [
          | inl le ↦ inl (omega (arith, costs x [] (of_more x [] now of_none), le))
          | inr least ↦ inr (or-left (is_least (f (x ∷ []))) (ends_empty (f (x ∷ []))) least)
        ]

-- the blocks that runs become
leaf-later : {X : Type 0} (f : List X → Block) (name : Joint) (q : Block → Type 0) (rs : List (List X))
    → Each (λ r. q (f r)) rs → AllBlocks q (map (block_part (name ∷ [])) (map f rs))
leaf-later f name q rs of_none = none_left
leaf-later f name q rs (of_more r rest here others) =
    one_left (block_part (name ∷ []) (f r)) (map (block_part (name ∷ [])) (map f rest)) here
    (leaf-later f name q rest others)

pub leaf-well : {X : Type 0} (f : List X → Block) (name : Joint) (p q : Block → Type 0) (rs : List (List X))
    → RunParts (λ r. p (f r)) (λ r. q (f r)) rs → BlockParts p q (leaf_parts name (map f rs))
leaf-well f name p q rs (runs_are first rest here others) =
    cut_into (block_part [] (f first)) (map (block_part (name ∷ [])) (map f rest)) here
    (leaf-later f name q rest others)

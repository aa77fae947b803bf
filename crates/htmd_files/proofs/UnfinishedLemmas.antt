-- A file below a folder has the name of an unfinished output only if its own path ends so.
use Rattle.std.proofs.Common.{◌≡◌, ◌-◌, ℕ, Bool, true, false, List, [], ◌∷◌, ◌++◌, length, take, drop, reverse}
use Rattle.std.proofs.Common.{refl, sym, ap, ◌∙◌, subst, arith, length-append}
use Rattle.std.specs.Prelude.{codes, nat_eq}
use Rattle.std.specs.Cmp.Lexicographic.{pointwise}
use Rattle.std.specs.List.{AllByRecursion}
use Rattle.std.proofs.Math.Seq.{drop-append_seam}
use Rattle.std.proofs.lemmas.Bool.{false≢true, eqb-true}
use Rattle.std.proofs.lemmas.List.{append-nil, reverse-append, reverse-reverse, take-append-drop}
use Rattle.htmd_lexical.specs.Characters.{slash}
use Rattle.htmd_files.specs.Names.{is_unfinished}
use Rattle.htmd_files.specs.Paths.{below, ends_with_slash, slash_after}
use Rattle.htmd_files.specs.Promises.{HasUnfinishedName}

either : {P : Type 0} (b : Bool) → (b ≡ true → P) → (b ≡ false → P) → P
either true f g = f refl
either false f g = g refl

abbrev NoSlash : ℕ → Type 0
NoSlash b = nat_eq b slash ≡ false

-- what comes before a slash begins with all of this, if there is no slash in it
begins : (path folder begin stem : List ℕ) → path ++ slash ∷ folder ≡ begin ++ stem
    → AllByRecursion NoSlash begin
    → (rest : List ℕ) × (path ≡ begin ++ rest)
begins path folder [] stem e a = (path, refl)
begins [] folder (b ∷ begin) stem e (n, a) =
    let same : slash ≡ b = cc in
    let z : nat_eq slash slash ≡ false = subst NoSlash (sym same) n in
    absurd (false≢true (sym z))
begins (c ∷ path) folder (b ∷ begin) stem e (n, a) =
    let same : c ≡ b = cc in
    let tails : path ++ slash ∷ folder ≡ begin ++ stem = cc in
    let rest = begins path folder begin stem tails a in
    (rest.0, ap (λ x. x ∷ path) same ∙ ap (λ x. b ∷ x) rest.1)

-- the ending, from its last byte on, has no slash
no_slash : AllByRecursion NoSlash (reverse (codes ".htmd-partial"))
no_slash =
    (refl, (refl, (refl, (refl, (refl, (refl, (refl, (refl, (refl, (refl, (refl, (refl, (refl, tt)))))))))))))

-- a name that ends so is found to
found : (stem : List ℕ) → is_unfinished (stem ++ codes ".htmd-partial") ≡ true
found stem =
    let name = stem ++ codes ".htmd-partial" in
    let l : length name - 13 ≡ length stem =
    (let n = length-append stem (codes ".htmd-partial") in omega (arith, n)) in
    ap (λ s. pointwise nat_eq (codes ".htmd-partial") s)
    (ap (λ n. drop n name) l ∙ drop-append_seam stem (codes ".htmd-partial"))

-- the last byte of a text that ends with a slash
only_slash : (last : List ℕ) → pointwise nat_eq (codes "/") last ≡ true → last ≡ slash ∷ []
only_slash [] e = absurd (false≢true e)
only_slash (b ∷ []) e =
    either (nat_eq 47 b)
    (λ t. ap (λ x. x ∷ []) (sym (eqb-true 47 b t)))
    (λ t. let z = rw t at e in absurd (false≢true z))
only_slash (b ∷ c ∷ last) e =
    either (nat_eq 47 b)
    (λ t. let z = rw t at e in absurd (false≢true z))
    (λ t. let z = rw t at e in absurd (false≢true z))

-- a folder's path with its slash, from the slash on
slash_last : (folder : List ℕ) → (rest : List ℕ) × (reverse (folder ++ slash_after folder) ≡ slash ∷ rest)
slash_last folder =
    either (ends_with_slash folder)
    (λ t.
    let front = take (length folder - 1) folder in
    let last = only_slash (drop (length folder - 1) folder) t in
    let whole : folder ≡ front ++ slash ∷ [] =
    sym (take-append-drop (length folder - 1) folder) ∙ ap (λ x. front ++ x) last in (
      reverse front,
      rw t (ap reverse (append-nil folder ∙ whole) ∙ reverse-append front (slash ∷ [])),
    ))
    (λ t. (reverse folder, rw t (reverse-append folder (codes "/"))))

pub finished_below : (folder path : List ℕ) → is_unfinished path ≡ false → HasUnfinishedName (below folder path)
    → ⊥
finished_below folder path unlike (stem, e) =
    let last = slash_last folder in
    let back : reverse path ++ slash ∷ last.0 ≡ reverse (codes ".htmd-partial") ++ reverse stem =
    ap (λ x. reverse path ++ x) (sym last.1) ∙ sym (reverse-append (folder ++ slash_after folder) path)
    ∙ ap reverse e ∙ reverse-append stem (codes ".htmd-partial") in
    let rest = begins (reverse path) last.0 (reverse (codes ".htmd-partial")) (reverse stem) back no_slash in
    let whole : path ≡ reverse rest.0 ++ codes ".htmd-partial" =
    sym (reverse-reverse path) ∙ ap reverse rest.1 ∙ reverse-append (reverse (codes ".htmd-partial")) rest.0 in
    false≢true (sym unlike ∙ (ap is_unfinished whole ∙ found (reverse rest.0)))

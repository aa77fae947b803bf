-- What follows from how the pages of a run were taken.
use Rattle.std.proofs.Common.{◌≡◌, ◌≢◌, ◌⊎◌, ℕ, Bool, List, [], ◌∷◌, ◌++◌, Option, None, Some}
use Rattle.std.proofs.Common.{refl, sym, ◌∙◌, ap, subst, inl, inr, append_assoc, arith}
use Rattle.std.proofs.Math.Nat.{suc-ne-zero}
use Rattle.std.specs.List.{AllByRecursion}
use Rattle.htmd_files.specs.Promises.{HasUnfinishedName}
use Rattle.htmd_files.specs.declared.planning.Page.{Page}
use Rattle.htmd_folders.specs.Changes.{Change, created, nothing, unfinished, whole, held, IsReplaceable}
use Rattle.htmd_folders.specs.Pages.{Conversion, input_name, output_name}
use Rattle.htmd_folders.specs.FolderConversions.{Takes, AreSparing, IsApart, AreApart, IsSpared}
use Rattle.htmd_folders.specs.FolderConversions.{IsConverted, IsConvertedOrKept, IfKnown}
use Rattle.htmd_folders.specs.FolderConversions.{AtEachMoment, IsAsBeforeOrWhole, IsNeverHalf}
use Rattle.htmd_folders.proofs.FolderConversionsLemmas.{ConvertsAll, ConvertsOne, converts_all}
use Rattle.htmd_folders.proofs.ChangesLemmas.{step_of, spared_by, obstacle_by, held_output, held_kept, some_same}
use Rattle.htmd_folders.proofs.ChangesLemmas.{moments_by, moments_map, moments_append, whole_at_each, whole_now}

-- two facts of each page give a third one
all_by : {X : Type 0} (P Q R : X → Type 0) (xs : List X) → ((x : X) → P x → Q x → R x)
    → AllByRecursion P xs → AllByRecursion Q xs → AllByRecursion R xs
all_by P Q R [] f p q = tt
all_by P Q R (x ∷ xs) f (p, ps) (q, qs) = (f x p q, all_by P Q R xs f ps qs)

-- the page was converted, or some page failed and its output is as it was
abbrev IsConvertedIf : Conversion → List Change → List Change → ℕ → Page → Type 0
IsConvertedIf becomes past now failed page =
    IsConverted becomes past now page
    ⊎ ((failed ≢ 0) × (held (output_name page) now ≡ held (output_name page) past))

-- what is known after a run
record Known (becomes : Conversion) (pages : List Page) (past now : List Change) (failed : ℕ) : Type 0 where
  pub spared : (name : List ℕ) → AreSparing name pages → IsSpared name past now
  pub apart : AreApart pages → AllByRecursion (IsConvertedIf becomes past now failed) pages
  pub obstacles : (name : List ℕ) → (IsReplaceable (held name past) → ⊥) → held name now ≡ held name past

-- a name that isn't one of unfinished outputs holds what it held
kept_if : (name : List ℕ) (past now : List Change) → (HasUnfinishedName name → ⊥) → IsSpared name past now
    → held name now ≡ held name past
kept_if name past now n (inl e) = e
kept_if name past now n (inr (u, before, after)) = absurd (n u)

-- a name that holds a whole file in the end held it before
whole_before : (name bytes : List ℕ) (past now : List Change) → IsSpared name past now
    → held name now ≡ whole bytes → held name past ≡ whole bytes
whole_before name bytes past now (inl e) w = sym e ∙ w
whole_before name bytes past now (inr (u, before, after)) w =
    let e : unfinished ≡ whole bytes = sym after ∙ w in cc

-- what is spared twice is spared
spared_twice : (name : List ℕ) (past mid now : List Change) → IsSpared name past mid → IsSpared name mid now
    → IsSpared name past now
spared_twice name past mid now (inl a) (inl b) = inl (b ∙ a)
spared_twice name past mid now (inl a) (inr (u, before, after)) = inr (u, sym a ∙ before, after)
spared_twice name past mid now (inr (u, before, after)) (inl b) = inr (u, before, b ∙ after)
spared_twice name past mid now (inr (u, before, after)) (inr (v, free, left)) =
    let e : nothing ≡ unfinished = sym free ∙ after in cc

-- what no file may take the place of, before and in between
obstacle_between : (name : List ℕ) (past mid : List Change) → held name mid ≡ held name past
    → (IsReplaceable (held name past) → ⊥) → IsReplaceable (held name mid) → ⊥
obstacle_between name past mid e k r = k (subst IsReplaceable e r)

-- the first page, if the rest of the pages spare its output
first_page : (becomes : Conversion) (page : Page) (past between now : List Change) (failed others : ℕ)
    → held (output_name page) now ≡ held (output_name page) between
    → ConvertsOne becomes page (Some past) (Some between) failed others → IsConvertedIf becomes past now failed page
first_page becomes page past between now failed others k (inl ((bytes, h, (written, partial, b, made, place, e)), f)) =
    let out = output_name page in
    inl (
      bytes,
      written,
      h,
      b,
      k ∙ ap (held out) (some_same e) ∙ held_output partial out written (created partial ∷ past),
    )
first_page becomes page past between now failed others k (inr (h, f)) =
    inr (λ z. suc-ne-zero others (sym f ∙ z), k ∙ held_kept page past between h)

-- how many failed, with the first page and without it
fewer : (becomes : Conversion) (page : Page) (a b : Option (List Change)) (failed others : ℕ)
    → ConvertsOne becomes page a b failed others → others ≢ 0 → failed ≢ 0
fewer becomes page a b failed others (inl (h, f)) n = λ z. n (sym f ∙ z)
fewer becomes page a b failed others (inr (h, f)) n = λ z. suc-ne-zero others (sym f ∙ z)

-- a later page, if the first one spares its names
later_page : (becomes : Conversion) (past between now : List Change) (failed others : ℕ) (page : Page)
    → IsSpared (input_name page) past between
    → held (output_name page) between ≡ held (output_name page) past
    → (others ≢ 0 → failed ≢ 0)
    → IsConvertedIf becomes between now others page → IsConvertedIf becomes past now failed page
later_page becomes past between now failed others page i o n (inl (bytes, written, h, b, w)) =
    inl (bytes, written, whole_before (input_name page) bytes past between i h, b, w)
later_page becomes past between now failed others page i o n (inr (z, k)) = inr (n z, k ∙ o)

-- the first page's output is none of the others
sparing : (page : Page) (more : List Page) → AllByRecursion (IsApart page) more → AreSparing (output_name page) more
sparing page [] a = tt
sparing page (later ∷ more) (a, rest) = (λ e. a.1 (sym e), sparing page more rest)

-- the pages after the first one spare its output
output_kept : (becomes : Conversion) (page : Page) (more : List Page) (between now : List Change) (others : ℕ)
    → ConvertsAll becomes more (Some between) (Some now) others → AllByRecursion (IsApart page) more
    → ((name : List ℕ) → AreSparing name more → IsSpared name between now)
    → held (output_name page) now ≡ held (output_name page) between
output_kept becomes page [] between now others (e, z) a s = ap (held (output_name page)) (some_same e)
output_kept becomes page (later ∷ more) between now others t (a, rest) s =
    kept_if (output_name page) between now a.2
    (s (output_name page) (sparing page (later ∷ more) (a, rest)))

known : (becomes : Conversion) (pages : List Page) (past : List Change) (after : Option (List Change))
    (failed : ℕ) → ConvertsAll becomes pages (Some past) after failed
    → (now : List Change) × (after ≡ Some now) × Known becomes pages past now failed
known becomes [] past after failed (e, z) =
    (past, e, record { spared = λ name s. inl refl; apart = λ a. tt; obstacles = λ name k. refl })
known becomes (page ∷ more) past after failed (between, others, rest, one) =
    let step = step_of becomes page past between failed others one in
    let mid = step.0 in
    let T : Option (List Change) → Type 0 = λ x. ConvertsAll becomes more x after others in
    let O : Option (List Change) → Type 0 = λ x. ConvertsOne becomes page (Some past) x failed others in
    let one' = subst O step.1 one in
    let rest' = subst T step.1 rest in
    let next = known becomes more mid after others rest' in
    let now = next.0 in
    let N : Option (List Change) → Type 0 = λ x. ConvertsAll becomes more (Some mid) x others in (
      now,
      next.1,
      record {
        spared = λ name s. spared_twice name past mid now (spared_by name page past mid s.0 step.2)
            (next.2.spared name s.1);
        apart = λ (of_later, of_more). (
          first_page becomes page past mid now failed others
              (output_kept becomes page more mid now others (subst N next.1 rest') of_later next.2.spared) one',
          all_by (IsApart page) (IsConvertedIf becomes mid now others) (IsConvertedIf becomes past now failed) more
              (λ later s c. later_page becomes past mid now failed others later
              (spared_by (input_name later) page past mid s.0 step.2)
              (kept_if (output_name later) past mid s.3 (spared_by (output_name later) page past mid s.1 step.2))
              (fewer becomes page (Some past) (Some mid) failed others one') c)
              of_later (next.2.apart of_more),
        );
        obstacles = λ name k. let e = obstacle_by name page past mid k step.2 in
            next.2.obstacles name (obstacle_between name past mid e k) ∙ e;
      },
    )

-- one of two facts holds, if a third one isn't so
unless_failed : (P Q : Type 0) (n : ℕ) → n ≡ 0 → P ⊎ ((n ≢ 0) × Q) → P
unless_failed P Q n z (inl p) = p
unless_failed P Q n z (inr (k, q)) = absurd (k z)

or_kept : (P Q R : Type 0) → P ⊎ (R × Q) → P ⊎ Q
or_kept P Q R (inl p) = inl p
or_kept P Q R (inr (r, q)) = inr q

module _ (becomes : Conversion) (keeps : Bool) (pages : List Page) where
  pub converted_law : (before after : Option (List Change)) (left failed : ℕ)
      → Takes becomes keeps pages before after left failed → left ≡ 0 → failed ≡ 0 → AreApart pages
      → IfKnown before after (λ past now. AllByRecursion (IsConverted becomes past now) pages)
  converted_law None after left failed t y z a = tt
  converted_law (Some past) after left failed t y z a =
      let all = converts_all becomes keeps pages (Some past) after 0 0 left failed t in
      let k = known becomes pages past after all.0 all.1 in
      let none : all.0 ≡ 0 = (let e = all.2 in omega (arith, e, y, z)) in
      let P : Page → Type 0 = IsConvertedIf becomes past k.0 all.0 in (
        k.0,
        k.1,
        all_by P P (IsConverted becomes past k.0) pages
            (λ page p q. unless_failed (IsConverted becomes past k.0 page)
            (held (output_name page) k.0 ≡ held (output_name page) past) all.0 none p) (k.2.apart a) (k.2.apart a),
      )

  pub kept_law : (before after : Option (List Change)) (left failed : ℕ)
      → Takes becomes keeps pages before after left failed → AreApart pages
      → IfKnown before after (λ past now. AllByRecursion (IsConvertedOrKept becomes past now) pages)
  kept_law None after left failed t a = tt
  kept_law (Some past) after left failed t a =
      let all = converts_all becomes keeps pages (Some past) after 0 0 left failed t in
      let k = known becomes pages past after all.0 all.1 in
      let P : Page → Type 0 = IsConvertedIf becomes past k.0 all.0 in (
        k.0,
        k.1,
        all_by P P (IsConvertedOrKept becomes past k.0) pages
            (λ page p q. or_kept (IsConverted becomes past k.0 page)
            (held (output_name page) k.0 ≡ held (output_name page) past) (all.0 ≢ 0) p) (k.2.apart a) (k.2.apart a),
      )

  pub others_law : (before after : Option (List Change)) (left failed : ℕ)
      → Takes becomes keeps pages before after left failed
      → IfKnown before after (λ past now. (name : List ℕ) → AreSparing name pages → IsSpared name past now)
  others_law None after left failed t = tt
  others_law (Some past) after left failed t =
      let all = converts_all becomes keeps pages (Some past) after 0 0 left failed t in
      let k = known becomes pages past after all.0 all.1 in
      (k.0, k.1, k.2.spared)

  pub obstacles_law : (before after : Option (List Change)) (left failed : ℕ)
      → Takes becomes keeps pages before after left failed
      → IfKnown before after (λ past now. (name : List ℕ) → (IsReplaceable (held name past) → ⊥)
      → held name now ≡ held name past)
  obstacles_law None after left failed t = tt
  obstacles_law (Some past) after left failed t =
      let all = converts_all becomes keeps pages (Some past) after 0 0 left failed t in
      let k = known becomes pages past after all.0 all.1 in
      (k.0, k.1, k.2.obstacles)

-- ---- each moment

-- what was as before or whole in between, and then as in between or whole
whole_twice : (name : List ℕ) (past mid now : List Change) → IsAsBeforeOrWhole name past mid
    → IsAsBeforeOrWhole name mid now → IsAsBeforeOrWhole name past now
whole_twice name past mid now (inl a) (inl b) = inl (b ∙ a)
whole_twice name past mid now (inr (bytes, a)) (inl b) = inr (bytes, b ∙ a)
whole_twice name past mid now m (inr (bytes, b)) = inr (bytes, b)

-- where something was, something is in between
something_between : (name : List ℕ) (past mid : List Change)
    → (HasUnfinishedName name → held name past ≢ nothing) → IsAsBeforeOrWhole name past mid
    → HasUnfinishedName name → held name mid ≢ nothing
something_between name past mid n (inl e) u = λ z. n u (sym e ∙ z)
something_between name past mid n (inr (bytes, w)) u = λ z. let e : whole bytes ≡ nothing = sym w ∙ z in cc

-- the moments of a run
moments : (becomes : Conversion) (pages : List Page) (past : List Change) (after : Option (List Change))
    (failed : ℕ) → ConvertsAll becomes pages (Some past) after failed
    → (changes : List Change) × (after ≡ Some (changes ++ past))
    × ((name : List ℕ) → (HasUnfinishedName name → held name past ≢ nothing)
    → AtEachMoment (IsAsBeforeOrWhole name past) changes past)
moments becomes [] past after failed (e, z) = ([], e, λ name n. inl refl)
moments becomes (page ∷ more) past after failed (between, others, rest, one) =
    let step = step_of becomes page past between failed others one in
    let made = moments_by page past step.0 step.2 in
    let sooner = made.0 in
    let mid = sooner ++ past in
    let T : Option (List Change) → Type 0 = λ x. ConvertsAll becomes more x after others in
    let next = moments becomes more mid after others (subst T (step.1 ∙ ap Some made.1) rest) in (
      next.0 ++ sooner,
      next.1 ∙ ap Some (sym (append_assoc next.0 sooner past)),
      λ name n.
          let first = whole_now name sooner past (made.2 name n) in
          moments_append (IsAsBeforeOrWhole name past) next.0 sooner past
          (moments_map (IsAsBeforeOrWhole name mid) (IsAsBeforeOrWhole name past) next.0 mid
          (λ now w. whole_twice name past mid now first w)
          (next.2 name (something_between name past mid n first)))
          (whole_at_each name sooner past (made.2 name n)),
    )

pub never_half_law : (becomes : Conversion) (keeps : Bool) (pages : List Page) (before after : Option (List Change))
    (left failed : ℕ) → Takes becomes keeps pages before after left failed → IsNeverHalf before after
never_half_law becomes keeps pages None after left failed t = tt
never_half_law becomes keeps pages (Some past) after left failed t =
    let all = converts_all becomes keeps pages (Some past) after 0 0 left failed t in
    moments becomes pages past after all.0 all.1

-- What names hold after the changes that a page makes.
use Rattle.std.proofs.Common.{◌≡◌, ◌≢◌, ◌⊎◌, ℕ, Bool, true, false, cond, List, [], ◌∷◌, ◌++◌, Option, Some}
use Rattle.std.proofs.Common.{refl, sym, ◌∙◌, ap, subst, inl, inr, append_assoc, ◌+◌, length, length-append, arith}
use Rattle.std.specs.Prelude.{codes}
use Rattle.std.specs.Str.{bytes_eq}
use Rattle.std.specs.List.{AllByRecursion}
use Rattle.std.proofs.lemmas.Bool.{cond-false, cond-true, false_from_ne_true}
use Rattle.std.proofs.lemmas.Slice.Eq.{bytes_eq-Decides}
use Rattle.htmd_files.specs.declared.planning.Page.{Page}
use Rattle.htmd_folders.specs.Changes.{Change, placed, created, moved, removed, obstructed}
use Rattle.htmd_folders.specs.Changes.{Holding, nothing, unfinished, whole, held, IsReplaceable}
use Rattle.htmd_folders.specs.Pages.{Conversion, Fails, IsMadeFor, IsUnfinishedName, output_name}
use Rattle.htmd_folders.specs.FolderConversions.{AtEachMoment, IsAsBeforeOrWhole, IsSpared}
use Rattle.htmd_files.specs.Promises.{HasUnfinishedName}
use Rattle.htmd_folders.proofs.FolderConversionsLemmas.{ConvertsOne}

-- two names differ
pub differs : (name other : List ℕ) → name ≢ other → bytes_eq name other ≡ false
differs name other n = false_from_ne_true (bytes_eq name other) (λ t. n ((bytes_eq-Decides name other).0 t))

-- a name is itself
pub is_itself : (name : List ℕ) → bytes_eq name name ≡ true
is_itself name = (bytes_eq-Decides name name).1 refl

-- what is known of two options is the same
pub some_same : {A : Type 0} {a b : A} → Some a ≡ Some b → a ≡ b
some_same e = cc

-- two names are the same or not
same_by : (name other : List ℕ) (b : Bool) → bytes_eq name other ≡ b
    → (name ≡ other) ⊎ (bytes_eq name other ≡ false)
same_by name other true e = inl ((bytes_eq-Decides name other).0 e)
same_by name other false e = inr e

pub same_or_not : (name other : List ℕ) → (name ≡ other) ⊎ (bytes_eq name other ≡ false)
same_or_not name other = same_by name other (bytes_eq name other) refl

-- ---- names of unfinished outputs

-- the name of an output, a mark and the ending make one
pub marked : (output mark name : List ℕ) → name ≡ output ++ mark ++ codes ".htmd-partial"
    → IsUnfinishedName output name
marked output mark name e = (mark, e)

-- it is one of the names of unfinished outputs
pub has_unfinished_name : (output partial name : List ℕ) → IsUnfinishedName output partial → name ≡ partial
    → HasUnfinishedName name
has_unfinished_name output partial name (mark, e) n = (output ++ mark, n ∙ e)

-- an output is not the file beside it
pub beside : (output partial : List ℕ) → IsUnfinishedName output partial → output ≢ partial
beside output partial (mark, e) n =
    let l : length output ≡ (length output + length mark) + 13 =
    ap length (n ∙ e) ∙ length-append (output ++ mark) (codes ".htmd-partial")
    ∙ ap (λ k. k + 13) (length-append output mark) in
    absurd (omega (arith, l))

-- ---- one page

-- what a page makes: nothing; a file beside its output; that and its removal; or that and its renaming
abbrev pub IsStep : Page → List Change → List Change → Type 0
IsStep page past now =
    (now ≡ past)
    ⊎ ((partial : List ℕ) × IsMadeFor (output_name page) partial past
    × ((now ≡ created partial ∷ past)
    ⊎ ((now ≡ removed partial ∷ created partial ∷ past)
    ⊎ ((written : List ℕ) × IsReplaceable (held (output_name page) past)
    × (now ≡ moved partial (output_name page) written ∷ created partial ∷ past)))))

-- a page that was taken makes that
pub step_of : (becomes : Conversion) (page : Page) (past : List Change) (after : Option (List Change)) (m n : ℕ)
    → ConvertsOne becomes page (Some past) after m n
    → (now : List Change) × (after ≡ Some now) × IsStep page past now
step_of becomes page past after m n (inl ((bytes, h, (written, partial, b, made, place, e)), f)) = (
  moved partial (output_name page) written ∷ created partial ∷ past,
  e,
  inr (partial, made, inr (inr (written, place, refl))),
)
step_of becomes page past after m n (inr (inl e, f)) = (past, e, inl refl)
step_of becomes page past after m n (inr (inr (partial, made, inl e), f)) =
    (created partial ∷ past, e, inr (partial, made, inl refl))
step_of becomes page past after m n (inr (inr (partial, made, inr e), f)) =
    (removed partial ∷ created partial ∷ past, e, inr (partial, made, inr (inl refl)))

-- what another name holds
held_beside : (name partial : List ℕ) (past : List Change) → bytes_eq name partial ≡ false
    → held name (created partial ∷ past) ≡ held name past
held_beside name partial past f = cond-false (bytes_eq name partial) unfinished (held name past) f

held_after_removal : (name partial : List ℕ) (past : List Change) → bytes_eq name partial ≡ false
    → held name (removed partial ∷ created partial ∷ past) ≡ held name past
held_after_removal name partial past f =
    cond-false (bytes_eq name partial) nothing (held name (created partial ∷ past)) f
    ∙ held_beside name partial past f

held_after_moving : (name partial output written : List ℕ) (past : List Change) → bytes_eq name output ≡ false
    → bytes_eq name partial ≡ false
    → held name (moved partial output written ∷ created partial ∷ past) ≡ held name past
held_after_moving name partial output written past o f =
    cond-false (bytes_eq name output) (whole written)
    (cond (bytes_eq name partial) nothing (held name (created partial ∷ past))) o
    ∙ held_after_removal name partial past f

-- what the name of the file beside the output holds
held_removed : (name partial : List ℕ) (past : List Change) → name ≡ partial
    → held name (removed partial ∷ created partial ∷ past) ≡ nothing
held_removed name partial past e =
    cond-true (bytes_eq name partial) nothing (held name (created partial ∷ past))
    ((bytes_eq-Decides name partial).1 e)

held_moved : (name partial output written : List ℕ) (past : List Change) → bytes_eq name output ≡ false
    → name ≡ partial → held name (moved partial output written ∷ created partial ∷ past) ≡ nothing
held_moved name partial output written past o e =
    cond-false (bytes_eq name output) (whole written)
    (cond (bytes_eq name partial) nothing (held name (created partial ∷ past))) o
    ∙ held_removed name partial past e

-- nothing was under a name, if it is that of the file beside the output
was_free : (name output partial : List ℕ) (past : List Change) → IsMadeFor output partial past → name ≡ partial
    → held name past ≡ nothing
was_free name output partial past made e = ap (λ n. held n past) e ∙ made.1

-- each name but the output's, in each of the cases
spared_made : (name output partial : List ℕ) (past : List Change) → IsMadeFor output partial past
    → (name ≡ partial) ⊎ (bytes_eq name partial ≡ false) → IsSpared name past (created partial ∷ past)
spared_made name output partial past made (inl e) = inr (
  has_unfinished_name output partial name made.0 e,
  was_free name output partial past made e,
  cond-true (bytes_eq name partial) unfinished (held name past) ((bytes_eq-Decides name partial).1 e),
)
spared_made name output partial past made (inr f) = inl (held_beside name partial past f)

spared_removed : (name output partial : List ℕ) (past : List Change) → IsMadeFor output partial past
    → (name ≡ partial) ⊎ (bytes_eq name partial ≡ false)
    → held name (removed partial ∷ created partial ∷ past) ≡ held name past
spared_removed name output partial past made (inl e) =
    held_removed name partial past e ∙ sym (was_free name output partial past made e)
spared_removed name output partial past made (inr f) = held_after_removal name partial past f

spared_moved : (name output partial written : List ℕ) (past : List Change) → IsMadeFor output partial past
    → bytes_eq name output ≡ false → (name ≡ partial) ⊎ (bytes_eq name partial ≡ false)
    → held name (moved partial output written ∷ created partial ∷ past) ≡ held name past
spared_moved name output partial written past made o (inl e) =
    held_moved name partial output written past o e ∙ sym (was_free name output partial past made e)
spared_moved name output partial written past made o (inr f) =
    held_after_moving name partial output written past o f

-- each name but the output's is spared
pub spared_by : (name : List ℕ) (page : Page) (past now : List Change) → name ≢ output_name page
    → IsStep page past now → IsSpared name past now
spared_by name page past now n (inl e) = inl (ap (held name) e)
spared_by name page past now n (inr (partial, made, inl e)) =
    let P : List Change → Type 0 = λ changes. IsSpared name past changes in
    subst P (sym e) (spared_made name (output_name page) partial past made (same_or_not name partial))
spared_by name page past now n (inr (partial, made, inr (inl e))) =
    inl (ap (held name) e ∙ spared_removed name (output_name page) partial past made (same_or_not name partial))
spared_by name page past now n (inr (partial, made, inr (inr (written, place, e)))) =
    inl (ap (held name) e
    ∙ spared_moved name (output_name page) partial written past made (differs name (output_name page) n)
    (same_or_not name partial))

-- what no file may take the place of stays, if its name isn't that of the file beside the output
obstacle_beside : (name : List ℕ) (page : Page) (past now : List Change) (partial : List ℕ)
    → IsMadeFor (output_name page) partial past → (IsReplaceable (held name past) → ⊥)
    → bytes_eq name partial ≡ false
    → (now ≡ created partial ∷ past)
    ⊎ ((now ≡ removed partial ∷ created partial ∷ past)
    ⊎ ((written : List ℕ) × IsReplaceable (held (output_name page) past)
    × (now ≡ moved partial (output_name page) written ∷ created partial ∷ past)))
    → held name now ≡ held name past
obstacle_beside name page past now partial made k f (inl e) = ap (held name) e ∙ held_beside name partial past f
obstacle_beside name page past now partial made k f (inr (inl e)) =
    ap (held name) e ∙ held_after_removal name partial past f
obstacle_beside name page past now partial made k f (inr (inr (written, place, e))) =
    let o : name ≢ output_name page =
    λ s. k (subst (λ n. IsReplaceable (held n past)) (sym s) place) in
    ap (held name) e
    ∙ held_after_moving name partial (output_name page) written past (differs name (output_name page) o) f

-- and so it stays in each case
pub obstacle_by : (name : List ℕ) (page : Page) (past now : List Change)
    → (IsReplaceable (held name past) → ⊥) → IsStep page past now → held name now ≡ held name past
obstacle_by name page past now k (inl e) = ap (held name) e
obstacle_by name page past now k (inr (partial, made, s)) =
    let n : name ≢ partial =
    λ e. k (subst IsReplaceable (sym (was_free name (output_name page) partial past made e)) tt) in
    obstacle_beside name page past now partial made k (differs name partial n) s

-- the output of a page that was converted
pub held_output : (from to bytes : List ℕ) (past : List Change)
    → held to (moved from to bytes ∷ past) ≡ whole bytes
held_output from to bytes past =
    cond-true (bytes_eq to to) (whole bytes) (cond (bytes_eq to from) nothing (held to past)) (is_itself to)

-- the output of a page that failed
pub held_kept : (page : Page) (past now : List Change) → Fails page (Some past) (Some now)
    → held (output_name page) now ≡ held (output_name page) past
held_kept page past now (inl e) = ap (held (output_name page)) (some_same e)
held_kept page past now (inr (partial, made, inl e)) =
    ap (held (output_name page)) (some_same e)
    ∙ held_beside (output_name page) partial past
    (differs (output_name page) partial (beside (output_name page) partial made.0))
held_kept page past now (inr (partial, made, inr e)) =
    ap (held (output_name page)) (some_same e)
    ∙ held_after_removal (output_name page) partial past
    (differs (output_name page) partial (beside (output_name page) partial made.0))

-- ---- each moment

-- the change leaves what the name holds, or brings all of something under it
abbrev pub IsWholeUnder : List ℕ → Change → Type 0
IsWholeUnder name (placed other bytes) = ⊥
IsWholeUnder name (created other) = name ≢ other
IsWholeUnder name (moved from to bytes) = name ≢ from
IsWholeUnder name (removed other) = name ≢ other
IsWholeUnder name (obstructed other) = ⊥

-- what a choice gives has what both of its parts have
either : (P : Holding → Type 0) (b : Bool) (x y : Holding) → P x → P y → P (cond b x y)
either P true x y p q = p
either P false x y p q = q

-- after such changes the name holds what it held at first, or all of something
pub whole_now : (name : List ℕ) (changes past : List Change) → AllByRecursion (IsWholeUnder name) changes
    → IsAsBeforeOrWhole name past (changes ++ past)
whole_now name [] past a = inl refl
whole_now name (placed other bytes ∷ cs) past (h, a) = absurd h
whole_now name (created other ∷ cs) past (h, a) =
    let P : Holding → Type 0 = λ x. (x ≡ held name past) ⊎ ((bytes : List ℕ) × (x ≡ whole bytes)) in
    subst P (sym (cond-false (bytes_eq name other) unfinished (held name (cs ++ past)) (differs name other h)))
    (whole_now name cs past a)
whole_now name (moved from to bytes ∷ cs) past (h, a) =
    let P : Holding → Type 0 = λ x. (x ≡ held name past) ⊎ ((bytes : List ℕ) × (x ≡ whole bytes)) in
    either P (bytes_eq name to) (whole bytes) (cond (bytes_eq name from) nothing (held name (cs ++ past)))
    (inr (bytes, refl))
    (subst P (sym (cond-false (bytes_eq name from) nothing (held name (cs ++ past)) (differs name from h)))
    (whole_now name cs past a))
whole_now name (removed other ∷ cs) past (h, a) =
    let P : Holding → Type 0 = λ x. (x ≡ held name past) ⊎ ((bytes : List ℕ) × (x ≡ whole bytes)) in
    subst P (sym (cond-false (bytes_eq name other) nothing (held name (cs ++ past)) (differs name other h)))
    (whole_now name cs past a)
whole_now name (obstructed other ∷ cs) past (h, a) = absurd h

-- and so it was at each moment
pub whole_at_each : (name : List ℕ) (changes past : List Change) → AllByRecursion (IsWholeUnder name) changes
    → AtEachMoment (IsAsBeforeOrWhole name past) changes past
whole_at_each name [] past a = inl refl
whole_at_each name (c ∷ cs) past a = (whole_now name (c ∷ cs) past a, whole_at_each name cs past a.1)

-- where a name isn't one of unfinished outputs, or something is, no page makes its file
pub not_made : (name output partial : List ℕ) (past : List Change)
    → (HasUnfinishedName name → held name past ≢ nothing) → IsMadeFor output partial past → name ≢ partial
not_made name output partial past n made e =
    n (has_unfinished_name output partial name made.0 e) (was_free name output partial past made e)

-- the changes of one page, and that they leave such names whole
pub moments_by : (page : Page) (past now : List Change) → IsStep page past now
    → (changes : List Change) × (now ≡ changes ++ past)
    × ((name : List ℕ) → (HasUnfinishedName name → held name past ≢ nothing)
    → AllByRecursion (IsWholeUnder name) changes)
moments_by page past now (inl e) = ([], e, λ name n. tt)
moments_by page past now (inr (partial, made, inl e)) = (
  created partial ∷ [],
  e,
  λ name n. (not_made name (output_name page) partial past n made, tt),
)
moments_by page past now (inr (partial, made, inr (inl e))) = (
  removed partial ∷ created partial ∷ [],
  e,
  λ name n. let d = not_made name (output_name page) partial past n made in (d, (d, tt)),
)
moments_by page past now (inr (partial, made, inr (inr (written, place, e)))) = (
  moved partial (output_name page) written ∷ created partial ∷ [],
  e,
  λ name n. let d = not_made name (output_name page) partial past n made in (d, (d, tt)),
)

-- ---- moments of two runs of changes

pub moments_map : (P Q : List Change → Type 0) (changes past : List Change)
    → ((now : List Change) → P now → Q now)
    → AtEachMoment P changes past → AtEachMoment Q changes past
moments_map P Q [] past f a = f past a
moments_map P Q (c ∷ cs) past f (p, a) = (f (c ∷ (cs ++ past)) p, moments_map P Q cs past f a)

pub moments_append : (P : List Change → Type 0) (later sooner past : List Change)
    → AtEachMoment P later (sooner ++ past) → AtEachMoment P sooner past → AtEachMoment P (later ++ sooner) past
moments_append P [] sooner past a b = b
moments_append P (c ∷ cs) sooner past (p, a) b =
    (subst (λ x. P (c ∷ x)) (sym (append_assoc cs sooner past)) p, moments_append P cs sooner past a b)

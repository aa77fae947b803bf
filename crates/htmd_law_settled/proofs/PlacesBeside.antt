-- The place of a target is beside each heading and each title: no further than its beginning, or behind it.
use Rattle.std.proofs.Common.{◌≡◌, ℕ, ◌+◌, ◌≤◌, Bool, true, false, cond, List, [], ◌∷◌, ◌++◌}
use Rattle.std.proofs.Common.{subst, arith, inl, inr, Option, Some, None, refl}
use Rattle.std.specs.Prelude.{◌⊎◌, filter}
use Rattle.std.specs.Option.{unwrap_or}
use Rattle.std.proofs.lemmas.Bool.{false≢true, true≢false}
use Rattle.htmd_shown.specs.declared.role.Role.{Role}
use Rattle.htmd_shown.specs.declared.role.Role.TheVariants as role
use Rattle.htmd_shown.specs.Roles.{is_headed, is_verbatim}
use Rattle.htmd_shown.specs.Showings.{code_shows}
use Rattle.htmd_shown.specs.SimpleTrees.{Simple, text, image, formula, embedded, anchor, element, Simples, none, more}
use Rattle.htmd_document_of_tree.specs.declared.anchors.Anchors.{Anchors}
use Rattle.htmd_document_of_tree.specs.declared.anchors.Anchors.TheVariants as which
use Rattle.htmd_document_of_tree.specs.Anchors.{targets_by}
use Rattle.htmd_document_of_tree.specs.Leadings.{all_leadings, is_linked_to, is_led_to}
use Rattle.htmd_document_of_tree.specs.Seen.{one_if, seen, all_seen}
use Rattle.htmd_document_of_tree.specs.Targets.{Target, is_whole, own_targets, targets_inside, targets_among}
use Rattle.htmd_document_of_tree.specs.Targets.{is_first, firsts_after, all_targets, ids_among}
use Rattle.htmd_law_anchors.proofs.TargetLemmas.{Climbs, own-climbs, inside-climbs, among-climbs, le-trans, le-itself}

-- ---- all of them are so

abbrev pub AllTargets : (Target → Type 0) → List Target → Type 0
AllTargets P [] = Unit {0}
AllTargets P (u ∷ us) = P u × AllTargets P us

pub all-targets : (P Q : Target → Type 0) → ((u : Target) → P u → Q u) → (us : List Target)
    → AllTargets P us
    → AllTargets Q us
all-targets P Q f [] h = tt
all-targets P Q f (u ∷ us) h = (f u h.0, all-targets P Q f us h.1)

both-targets : (P Q : Target → Type 0) (us : List Target) → AllTargets P us → AllTargets Q us
    → AllTargets (λ u. P u × Q u) us
both-targets P Q [] g h = tt
both-targets P Q (u ∷ us) g h = ((g.0, h.0), both-targets P Q us g.1 h.1)

targets-append : (P : Target → Type 0) (us vs : List Target) → AllTargets P us → AllTargets P vs
    → AllTargets P (us ++ vs)
targets-append P [] vs g h = h
targets-append P (u ∷ us) vs g h = (g.0, targets-append P us vs g.1 h)

pub either-targets : (P : Target → Type 0) (b : Bool) (us vs : List Target) → AllTargets P us → AllTargets P vs
    → AllTargets P (cond b us vs)
either-targets P true us vs g h = g
either-targets P false us vs g h = h

-- ---- how much is to see

pub first-within : (l m n o : ℕ) → l + (m + n) ≤ o → l + m ≤ o
first-within l m n o q = omega arith

pub rest-within : (l m n o : ℕ) → l + (m + n) ≤ o → (l + m) + n ≤ o
rest-within l m n o q = omega arith

-- ---- beside headings and titles

abbrev mutual
  pub Beside : Target → ℕ → Simple → Type 0
  Beside u n (element id r facts attributes content) =
      is_verbatim r ≡ false
      → (is_headed r ≡ true → (u.seen ≤ n) ⊎ (n + all_seen content ≤ u.seen)) × BesideAll u n content
  Beside u n t = Unit {0}

  pub BesideAll : Target → ℕ → Simples → Type 0
  BesideAll u n none = Unit {0}
  BesideAll u n (more t ts) = Beside u n t × BesideAll u (n + seen t) ts

mutual
  before-beside : (u : Target) (n : ℕ) (t : Simple) → u.seen ≤ n → Beside u n t
  before-beside u n (element id r facts attributes content) h =
      λ e. (λ f. inl h, before-all u n content h)
  before-beside u n t h = tt

  before-all : (u : Target) (n : ℕ) (ts : Simples) → u.seen ≤ n → BesideAll u n ts
  before-all u n none h = tt
  before-all u n (more t ts) h =
      (before-beside u n t h, before-all u (n + seen t) ts (further u.seen n (seen t) h))
    where
      further : (k l m : ℕ) → k ≤ l → k ≤ l + m
      further k l m q = omega arith

mutual
  behind-beside : (u : Target) (n : ℕ) (t : Simple) → n + seen t ≤ u.seen → Beside u n t
  behind-beside u n (element id r facts attributes content) h =
      λ e. let g = subst (λ (x : Bool). n + cond x (one_if (code_shows content)) (all_seen content) ≤ u.seen) e h in
      (λ f. inr g, behind-all u n content g)
  behind-beside u n t h = tt

  behind-all : (u : Target) (n : ℕ) (ts : Simples) → n + all_seen ts ≤ u.seen → BesideAll u n ts
  behind-all u n none h = tt
  behind-all u n (more t ts) h = (
    behind-beside u n t (first-within n (seen t) (all_seen ts) u.seen h),
    behind-all u (n + seen t) ts (rest-within n (seen t) (all_seen ts) u.seen h),
  )

climbs-end : (m n : ℕ) (us : List Target) → Climbs m n us → m ≤ n
climbs-end m n [] h = h
climbs-end m n (u ∷ us) h = le-trans m u.seen n h.0 (climbs-end u.seen n us h.1)

climbs-within : (k m n : ℕ) (us : List Target) → k ≤ m → Climbs m n us
    → AllTargets (λ u. (k ≤ u.seen) × (u.seen ≤ n)) us
climbs-within k m n [] g h = tt
climbs-within k m n (u ∷ us) g h = (
  (le-trans k m u.seen g h.0, climbs-end u.seen n us h.1),
  climbs-within k u.seen n us (le-trans k m u.seen g h.0) h.1,
)

not-headed : (r : Role) → is_whole r ≡ false → is_headed r ≡ true → ⊥
not-headed (role.Heading level) e f = true≢false e
not-headed role.Term e f = true≢false e
not-headed role.Caption e f = true≢false e
not-headed role.FigureCaption e f = true≢false e
not-headed role.Summary e f = true≢false e
not-headed role.Legend e f = true≢false e
not-headed r e f = false≢true f

module _ (counts : List ℕ → Bool) where
  -- whole or not, the place is no further than what was to see
  abbrev IsBefore : Option ℕ → ℕ → Type 0
  IsBefore whole n = unwrap_or whole n ≤ n

  before-later : (whole : Option ℕ) (n k : ℕ) → IsBefore whole n → IsBefore whole (n + k)
  before-later None n k h = le-itself (n + k)
  before-later (Some m) n k h = further m n k h
    where
      further : (j l i : ℕ) → j ≤ l → j ≤ l + i
      further j l i q = omega arith

  rest-beside : (whole : Option ℕ) (n : ℕ) (t : Simple) (ts : Simples) → IsBefore whole n
      → AllTargets (λ u. Beside u n t) (targets_among counts whole (n + seen t) ts)
  rest-beside None n t ts g =
      all-targets (λ u. (n + seen t ≤ u.seen) × (u.seen ≤ (n + seen t) + all_seen ts)) (λ u. Beside u n t)
      (λ u h. behind-beside u n t h.0) (targets_among counts None (n + seen t) ts)
      (climbs-within (n + seen t) (n + seen t) ((n + seen t) + all_seen ts)
      (targets_among counts None (n + seen t) ts) (le-itself (n + seen t)) (among-climbs counts ts None (n + seen t)))
  rest-beside (Some m) n t ts g =
      all-targets (λ u. (m ≤ u.seen) × (u.seen ≤ m)) (λ u. Beside u n t)
      (λ u h. before-beside u n t (le-trans u.seen m n h.1 g)) (targets_among counts (Some m) (n + seen t) ts)
      (climbs-within m m m (targets_among counts (Some m) (n + seen t) ts) (le-itself m)
      (among-climbs counts ts (Some m) (n + seen t)))

  mutual
    inside-beside : (t : Simple) (whole : Option ℕ) (n : ℕ) → IsBefore whole n
        → AllTargets (λ u. Beside u n t) (targets_inside counts whole n t)
    inside-beside (text s) whole n g = tt
    inside-beside (image address attributes) whole n g = tt
    inside-beside (formula tex is_alone attributes) whole n g = tt
    inside-beside (embedded id address title attributes ids) whole n g = tt
    inside-beside (anchor id) whole n g = tt
    inside-beside (element id r facts attributes content) whole n g =
        by (is_whole r) refl (among-beside content whole n g)
      where
        t : Simple
        t = element id r facts attributes content

        m : ℕ
        m = unwrap_or whole n

        by : (b : Bool) → is_whole r ≡ b
            → AllTargets (λ u. BesideAll u n content) (targets_among counts whole n content)
            → AllTargets (λ u. Beside u n t) (targets_among counts (cond b (Some m) whole) n content)
        by true e h =
            all-targets (λ u. (m ≤ u.seen) × (u.seen ≤ m)) (λ u. Beside u n t)
            (λ u h. before-beside u n t (le-trans u.seen m n h.1 g)) (targets_among counts (Some m) n content)
            (climbs-within m m m (targets_among counts (Some m) n content) (le-itself m)
            (among-climbs counts content (Some m) n))
        by false e h =
            all-targets (λ u. BesideAll u n content) (λ u. Beside u n t)
            (λ u k q. (λ f. absurd (not-headed r e f), k)) (targets_among counts whole n content) h

    among-beside : (ts : Simples) (whole : Option ℕ) (n : ℕ) → IsBefore whole n
        → AllTargets (λ u. BesideAll u n ts) (targets_among counts whole n ts)
    among-beside none whole n g = tt
    among-beside (more t ts) whole n g =
        let from : ℕ = unwrap_or whole n in
        let k : ℕ = n + seen t in
        let middle : ℕ = unwrap_or whole k in
        let own : List Target = own_targets counts from t in
        let within : List Target = targets_inside counts whole n t in
        let rest : List Target = targets_among counts whole k ts in
        let All : Target → Type 0 = λ u. BesideAll u n (more t ts) in
        targets-append All (own ++ within) rest
        (targets-append All own within
        (all-targets (λ u. (from ≤ u.seen) × (u.seen ≤ from)) All
        (λ u h. before-all u n (more t ts) (le-trans u.seen from n h.1 g)) own
        (climbs-within from from from own (le-itself from) (own-climbs counts from t)))
        (all-targets (λ u. Beside u n t × ((from ≤ u.seen) × (u.seen ≤ middle))) All
        (λ u h. (h.0, before-all u k ts (le-trans u.seen middle k h.1.1 (before-later whole n (seen t) g)))) within
        (both-targets (λ u. Beside u n t) (λ u. (from ≤ u.seen) × (u.seen ≤ middle)) within
        (inside-beside t whole n g)
        (climbs-within from from middle within (le-itself from) (inside-climbs counts t whole n)))))
        (both-targets (λ u. Beside u n t) (λ u. BesideAll u k ts) rest (rest-beside whole n t ts g)
        (among-beside ts whole k (before-later whole n (seen t) g)))

firsts-keep : (P : Target → Type 0) (found : List Target) (ids known : List (List ℕ)) → AllTargets P found
    → AllTargets P (firsts_after ids known found)
firsts-keep P [] ids known h = tt
firsts-keep P (u ∷ found) ids known h =
    either-targets P (is_first ids known u) (u ∷ firsts_after ids (u.value ∷ known) found)
    (firsts_after ids known found) (h.0, firsts-keep P found ids (u.value ∷ known) h.1)
    (firsts-keep P found ids known h.1)

filter-keeps : (P : Target → Type 0) (q : Target → Bool) (us : List Target) → AllTargets P us
    → AllTargets P (filter q us)
filter-keeps P q [] h = tt
filter-keeps P q (u ∷ us) h =
    let rest = filter-keeps P q us h.1 in
    either-targets P (q u) (u ∷ filter q us) (filter q us) (h.0, rest) rest

all-beside : (counts : List ℕ → Bool) (ts : Simples) → AllTargets (λ u. BesideAll u 0 ts) (all_targets counts ts)
all-beside counts ts =
    let found : List Target = targets_among counts None 0 ts in
    firsts-keep (λ u. BesideAll u 0 ts) found (ids_among found) [] (among-beside counts ts None 0 (le-itself 0))

pub targets-beside : (a : Anchors) (rich : Bool) (ts : Simples)
    → AllTargets (λ u. BesideAll u 0 ts) (targets_by a rich ts)
targets-beside which.Linked rich ts =
    filter-keeps (λ u. BesideAll u 0 ts) (λ (t : Target). is_led_to (all_leadings rich ts) t.value t.seen)
    (all_targets (is_linked_to (all_leadings rich ts)) ts) (all-beside (is_linked_to (all_leadings rich ts)) ts)
targets-beside which.All rich ts = all-beside (λ s. true) ts
targets-beside which.None rich ts = tt

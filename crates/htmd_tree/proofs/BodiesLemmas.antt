-- The first start tag and the last end tag of a body, by going through a text.
use Rattle.std.proofs.Common.{◌++◌, ◌≡◌, ◌≢◌, ℕ, zero, suc, ◌+◌, ◌-◌, ◌<◌, ◌≤◌, Bool, true, false, not, ◌&&◌, List}
use Rattle.std.proofs.Common.{[], ◌∷◌, length, take, drop, get_or, eqb, refl, sym, ◌∙◌, ap, subst, arith, add-one}
use Rattle.std.proofs.Common.{None}
use Rattle.std.proofs.lemmas.List.{drop_more, get_or-take}
use Rattle.htmd_lexical.proofs.Cases.{test}
use Rattle.htmd_lexical.specs.CharacterClasses.{first_is, behind_run}
use Rattle.htmd_lexical.specs.TagReading.{TagPart, attribute, is_other, next_part, TagForm, no_form, form}
use Rattle.htmd_lexical.specs.TagReading.{with_attribute, form_behind, form_within}
use Rattle.std.proofs.lemmas.Bool.{eqb-true, or_parts}
use Rattle.std.proofs.Math.Bool.{or-true}
use Rattle.htmd_tree.specs.Bodies.{behind_form, behind_name, first_of, behind_first_start_tag}
use Rattle.htmd_tree.specs.Bodies.{begins_end_tag, holds_end_tag, before_last_end_tag}
use Rattle.htmd_lexical.proofs.RunsLemmas.{behind_within}
use Rattle.htmd_tree.proofs.TagPartsLemmas.{part_shorter, form_same}

-- ---- start tags

attribute_passed : (name value : List ℕ) (f : TagForm) → behind_form (with_attribute name value f) ≡ behind_form f
attribute_passed name value no_form = refl
attribute_passed name value (form more present s) = refl

-- what follows a tag follows it after an attribute too
pub behind_attribute : (s name value rest : List ℕ) → attribute name value rest ≡ next_part s
    → behind_form (form_within (suc (length rest)) rest) ≡ behind_form (form_within (suc (length s)) s)
behind_attribute s name value rest e =
    let l = part_shorter s name value rest e in
    let g : form_within (suc (length s)) s ≡ with_attribute name value (form_within (length s) rest) =
    sym (ap (λ (p : TagPart). form_behind p (form_within (length s))) e) in
    let f : form_within (suc (length rest)) rest ≡ form_within (length s) rest =
    form_same (suc (length rest)) (length s) rest (omega arith) l in
    ap behind_form f ∙ (sym (attribute_passed name value (form_within (length s) rest)) ∙ ap behind_form (sym g))

-- no start tag stands before the first `<`
pub from_first_sign : (s : List ℕ)
    → behind_first_start_tag (behind_run (is_other 60) s) ≡ behind_first_start_tag s
from_first_sign [] = refl
from_first_sign (b ∷ s) =
    test (eqb b 60)
    (λ e. let k : behind_run (is_other 60) (b ∷ s) ≡ b ∷ s = rw e refl in ap behind_first_start_tag k)
    (λ e. rw e (from_first_sign s))

pub at_sign : (s : List ℕ) → first_is 60 s ≡ true
    → behind_first_start_tag s ≡ first_of (behind_name (drop 1 s)) (behind_first_start_tag (drop 1 s))
at_sign [] e = absurd (cc)
at_sign (b ∷ s) e = rw e refl

pub without_sign : (s : List ℕ) → first_is 60 (behind_run (is_other 60) s) ≡ false
    → behind_first_start_tag s ≡ None
without_sign [] e = refl
without_sign (b ∷ s) e =
    test (eqb b 60) (λ k. let z = rw (k, k) at e in absurd (cc)) (λ k. let z = rw k at e in rw k (without_sign s z))

-- the text from the first `<` on, and what follows that
abbrev pub IsAtSign : List ℕ → List ℕ → List ℕ → Type 0
IsAtSign s tag behind = (tag ≡ behind_run (is_other 60) s) × (first_is 60 tag ≡ true) × (behind ≡ drop 1 tag)

pub next_sign : (s tag behind : List ℕ) → IsAtSign s tag behind
    → behind_first_start_tag s ≡ first_of (behind_name behind) (behind_first_start_tag behind)
next_sign s tag behind h =
    sym (from_first_sign s) ∙ (ap behind_first_start_tag (sym h.0)
    ∙ (at_sign tag h.1 ∙ ap (λ x. first_of (behind_name x) (behind_first_start_tag x)) (sym h.2)))

pub sign_shorter : (s tag behind : List ℕ) → IsAtSign s tag behind → length behind < length s
sign_shorter s tag behind h =
    let k : length tag ≤ length s = rw h.0 (behind_within (is_other 60) s) in rw h.2 (filled tag h.1 k)
  where
    filled : (t : List ℕ) → first_is 60 t ≡ true → length t ≤ length s → length (drop 1 t) < length s
    filled [] e k = absurd (cc)
    filled (b ∷ t) e k = omega arith

-- ---- end tags

no_tag : (b : ℕ) (s : List ℕ) → b ≢ 60 → begins_end_tag (b ∷ s) ≡ false
no_tag b s n = test (eqb b 60) (λ e. absurd (n (eqb-true b 60 e))) (λ e. rw e refl)

-- there is no end tag if there is none after, and no `<` before
none_from : (s : List ℕ) (n d k : ℕ) → k + d ≡ n → n ≤ length s
    → ((i : ℕ) → k ≤ i → i < n → get_or s i 0 ≢ 60)
    → holds_end_tag (drop n s) ≡ false → holds_end_tag (drop k s) ≡ false
none_from s n zero k q l h e =
    let same : k ≡ n = omega arith in subst (λ (j : ℕ). holds_end_tag (drop j s) ≡ false) (sym same) e
none_from s n (suc d) k q l h e =
    let i = none_from s n d (k + 1) (omega arith) l (λ i a b. h i (omega arith) b) e in
    let m : k < length s = omega arith in
    rw (drop_more s k 0 m, no_tag (get_or s k 0) (drop (k + 1) s) (h k (omega arith) (omega arith))) i

none_behind : (s : List ℕ) (k n : ℕ) → k < n → n ≤ length s
    → ((i : ℕ) → k < i → i < n → get_or s i 0 ≢ 60)
    → holds_end_tag (drop n s) ≡ false → holds_end_tag (drop (k + 1) s) ≡ false
none_behind s k n l m h e =
    none_from s n (n - (k + 1)) (k + 1) (omega arith) m (λ i a b. h i (omega arith) b) e

-- a `<` where no end tag begins
none_here : (s : List ℕ) (k n : ℕ) → k < n → n ≤ length s
    → ((i : ℕ) → k < i → i < n → get_or s i 0 ≢ 60)
    → holds_end_tag (drop n s) ≡ false → begins_end_tag (drop k s) ≡ false
    → holds_end_tag (drop k s) ≡ false
none_here s k n l m h e f =
    let i = none_behind s k n l m h e in
    let d = drop_more s k 0 (omega arith) in
    let g : begins_end_tag (get_or s k 0 ∷ drop (k + 1) s) ≡ false = rw d at f in
    rw (d, g) i

holds_there : (k : ℕ) (s : List ℕ) → k < length s → begins_end_tag (drop k s) ≡ true
    → holds_end_tag s ≡ true
holds_there k [] l e = absurd (omega arith)
holds_there zero (b ∷ s) l e = rw e refl
holds_there (suc k) (b ∷ s) l e = rw (holds_there k s (omega arith) e) (or-true (begins_end_tag (b ∷ s)))

-- the last end tag
last_at : (k : ℕ) (s : List ℕ) → k < length s → begins_end_tag (drop k s) ≡ true
    → holds_end_tag (drop (suc k) s) ≡ false → before_last_end_tag s ≡ take k s
last_at k [] l e f = absurd (omega arith)
last_at zero (b ∷ s) l e f = rw (e, f) refl
last_at (suc k) (b ∷ s) l e f =
    let h = holds_there k s (omega arith) e in
    rw (h, and_none (begins_end_tag (b ∷ s))) (ap (λ (x : List ℕ). b ∷ x) (last_at k s (omega arith) e f))
  where
    and_none : (x : Bool) → (x && false) ≡ false
    and_none true = refl
    and_none false = refl

-- no end tag
pub none_cut : (s : List ℕ) → holds_end_tag s ≡ false → before_last_end_tag s ≡ s
none_cut [] e = refl
none_cut (b ∷ s) e =
    let k = or_parts (begins_end_tag (b ∷ s)) (holds_end_tag s) e in
    rw k.0 (ap (λ (x : List ℕ). b ∷ x) (none_cut s k.1))

-- what is cut away stands after
pub ends_cut : (s : List ℕ) → (behind : List ℕ) × (s ≡ before_last_end_tag s ++ behind)
ends_cut [] = ([], refl)
ends_cut (b ∷ s) =
    let i = ends_cut s in
    test (begins_end_tag (b ∷ s) && not (holds_end_tag s)) (λ e. (b ∷ s, rw e refl))
    (λ e. (i.0, rw e (ap (λ (x : List ℕ). b ∷ x) i.1)))

-- ---- the front of a text up to its last `<`

-- the last `<` of the front
abbrev pub IsLastSign : List ℕ → ℕ → Type 0
IsLastSign front k =
    (k < length front) × (get_or front k 0 ≡ 60) × ((i : ℕ) → k < i → i < length front
    → get_or front i 0 ≢ 60)

-- no end tag begins after the front
pub record IsClearBehind (text front : List ℕ) : Type 0 where
  pub within : length front ≤ length text
  pub is_front : front ≡ take (length front) text
  pub none_behind : holds_end_tag (drop (length front) text) ≡ false

same_at : (text front : List ℕ) (i : ℕ) → IsClearBehind text front → i < length front
    → get_or front i 0 ≡ get_or text i 0
same_at text front i h l = ap (λ x. get_or x i 0) h.is_front ∙ get_or-take (length front) text i 0 l

pub cut_at_last : (text front : List ℕ) (k : ℕ) → IsClearBehind text front → IsLastSign front k
    → begins_end_tag (drop k text) ≡ true → before_last_end_tag text ≡ take k text
cut_at_last text front k h f e =
    let w = h.within in
    let n = none_behind text k (length front) f.0 h.within
    (λ i a b q. f.2 i a b (same_at text front i h b ∙ q)) h.none_behind in
    last_at k text (omega arith) e (ap (λ j. holds_end_tag (drop j text)) (sym (add-one k)) ∙ n)

pub passed_over : (text front : List ℕ) (k : ℕ) → IsClearBehind text front → IsLastSign front k
    → begins_end_tag (drop k text) ≡ false → holds_end_tag (drop k text) ≡ false
passed_over text front k h f e =
    none_here text k (length front) f.0 h.within (λ i a b q. f.2 i a b (same_at text front i h b
    ∙ q)) h.none_behind e

pub nothing_cut : (text front : List ℕ) → IsClearBehind text front
    → ((i : ℕ) → i < length front → get_or front i 0 ≢ 60) → before_last_end_tag text ≡ text
nothing_cut text front h f =
    none_cut text (none_from text (length front) (length front) 0 (omega arith) h.within
    (λ i a b q. f i b (same_at text front i h b ∙ q)) h.none_behind)

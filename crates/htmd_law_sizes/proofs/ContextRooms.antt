-- How much can stand around a leaf: nine formats once, eight that raise or lower, and one link.
use Rattle.std.proofs.Common.{◌≡◌, ◌∙◌, refl, sym, subst, ℕ, zero, suc, ◌+◌, ◌≤◌, Bool, true, false, List, [], ◌∷◌}
use Rattle.std.proofs.Common.{◌++◌, length, true≢false, arith}
use Rattle.std.proofs.lemmas.Bool.Decides.{nat_tests}
use Rattle.std.specs.Prelude.{not, ◌||◌, ◌&&◌, ◌==◌, nat_le, filter, if◌then◌else◌, Option, Some, None}
use Rattle.std.specs.List.{list_any}
use Rattle.htmd_lexical.specs.AttributePairs.{AttributePair}
use Rattle.htmd_document.specs.Formats.{Format, Emphasis, Strong, Deleted, Superscript, Subscript, Inserted, Underlined}
use Rattle.htmd_document.specs.Formats.{Marked, Small, Keyboard, Abbreviation, number, is_raised}
use Rattle.htmd_shown.specs.Kinds.{has, content_of}
use Rattle.htmd_shown.specs.Roles as roles
use Rattle.htmd_shown.specs.Showings.{show_usual_sign}
use Rattle.htmd_shown.specs.SimpleTrees.{Simple, Simples}
use Rattle.htmd_flow.specs.Contexts.{Context, has_elements, is_format, is_link, is_raised_around, raised_around}
use Rattle.htmd_flow.specs.Contexts.{is_enough, with_around, inside_format, inside_link, inside_title, without_link}
use Rattle.htmd_flow.specs.Contexts.{unlinked, is_linked_to_part, beside_code}
use Rattle.htmd_flow.specs.Flows.{around_title, around_node}
use Rattle.htmd_flow.specs.Parts.{Around, formatted, linked}

abbrev pub most_around : ℕ
most_around = 18

-- ---- counts of what stands around

abbrev count : (Around → Bool) → List Around → ℕ
count p [] = 0
count p (a ∷ around) = (if p a then 1 else 0) + count p around

abbrev of_kind : ℕ → Around → Bool
of_kind k (formatted f) = k == number f
of_kind k (linked node address title) = false

-- a kind that stands once
abbrev is_single : ℕ → Bool
is_single k = not (k == 3 || k == 4)

-- each is a format that stands once, or raises or lowers, or a link
one_kind : (a : Around)
    → (if of_kind 0 a then 1 else 0) + (if of_kind 1 a then 1 else 0) + (if of_kind 2 a then 1 else 0)
    + (if of_kind 5 a then 1 else 0) + (if of_kind 6 a then 1 else 0) + (if of_kind 7 a then 1 else 0)
    + (if of_kind 8 a then 1 else 0) + (if of_kind 9 a then 1 else 0) + (if of_kind 10 a then 1 else 0)
    + (if is_raised_around a then 1 else 0) + (if is_link a then 1 else 0) ≡ 1
one_kind (formatted Emphasis) = refl
one_kind (formatted Strong) = refl
one_kind (formatted Deleted) = refl
one_kind (formatted Superscript) = refl
one_kind (formatted Subscript) = refl
one_kind (formatted Inserted) = refl
one_kind (formatted Underlined) = refl
one_kind (formatted Marked) = refl
one_kind (formatted Small) = refl
one_kind (formatted Keyboard) = refl
one_kind (formatted (Abbreviation title)) = refl
one_kind (linked node address title) = refl

counted : (around : List Around)
    → length around
    ≡ count (of_kind 0) around + count (of_kind 1) around + count (of_kind 2) around + count (of_kind 5) around
    + count (of_kind 6) around + count (of_kind 7) around + count (of_kind 8) around + count (of_kind 9) around
    + count (of_kind 10) around + count is_raised_around around + count is_link around
counted [] = refl
counted (a ∷ around) = omega (arith, counted around, one_kind a)

-- as much as can stand around
pub record Within (around : List Around) : Type 0 where
  pub once : (k : ℕ) → is_single k ≡ true → count (of_kind k) around ≤ 1
  pub raised : count is_raised_around around ≤ 8
  pub links : count is_link around ≤ 1

pub around_le : (around : List Around) → Within around → length around ≤ most_around
around_le around w =
    omega (
      arith,
      counted around,
      w.once 0 refl,
      w.once 1 refl,
      w.once 2 refl,
      w.once 5 refl,
      w.once 6 refl,
      w.once 7 refl,
      w.once 8 refl,
      w.once 9 refl,
      w.once 10 refl,
      w.raised,
      w.links,
    )

pub bare_within : Within []
bare_within = record {
  once = λ k e. omega arith;
  raised = omega arith;
  links = omega arith;
}

count_append : (p : Around → Bool) (xs ys : List Around) → count p (xs ++ ys) ≡ count p xs + count p ys
count_append p [] ys = omega arith
count_append p (x ∷ xs) ys = omega (arith, count_append p xs ys)

none_any : (p : Around → Bool) (xs : List Around) → list_any p xs ≡ false → count p xs ≡ 0
none_any p [] h = refl
none_any p (x ∷ xs) h = go (p x) h (none_any p xs)
  where
    go : (t : Bool) → (t || list_any p xs) ≡ false → (list_any p xs ≡ false → count p xs ≡ 0)
        → (if t then 1 else 0) + count p xs ≡ 0
    go true e i = absurd (cc)
    go false e i = omega (arith, i e)

raised_count : (xs : List Around) → raised_around xs ≡ count is_raised_around xs
raised_count [] = refl
raised_count (x ∷ xs) = go (is_raised_around x) (raised_count xs)
  where
    go : (t : Bool) → raised_around xs ≡ count is_raised_around xs
        → length (if t then x ∷ filter is_raised_around xs else filter is_raised_around xs)
        ≡ (if t then 1 else 0) + count is_raised_around xs
    go true i = omega (arith, i)
    go false i = omega (arith, i)

not_yet : (a b : ℕ) → nat_le a b ≡ false → b + 1 ≤ a
not_yet a b h = grind (arith, nat_tests)

-- ---- formats

single_plain : (f : Format) → is_single (number f) ≡ true → is_raised f ≡ false
single_plain Emphasis h = refl
single_plain Strong h = refl
single_plain Deleted h = refl
single_plain Superscript h = absurd (cc)
single_plain Subscript h = absurd (cc)
single_plain Inserted h = refl
single_plain Underlined h = refl
single_plain Marked h = refl
single_plain Small h = refl
single_plain Keyboard h = refl
single_plain (Abbreviation title) h = refl

none_of : (f : Format) (xs : List Around) → list_any (is_format f) xs ≡ false
    → count (of_kind (number f)) xs ≡ 0
none_of f [] h = refl
none_of f (formatted g ∷ xs) h = go (number f == number g) h (none_of f xs)
  where
    go : (t : Bool) → (t || list_any (is_format f) xs) ≡ false
        → (list_any (is_format f) xs ≡ false → count (of_kind (number f)) xs ≡ 0)
        → (if t then 1 else 0) + count (of_kind (number f)) xs ≡ 0
    go true e i = absurd (cc)
    go false e i = omega (arith, i e)
none_of f (linked node address title ∷ xs) h = omega (arith, none_of f xs h)

equals : (a b : ℕ) → (a == b) ≡ true → a ≡ b
equals a b e = grind (arith, nat_tests)

-- a kind that stands once isn't around yet
not_around : (f : Format) (xs : List Around) (t : Bool) → is_raised f ≡ t
    → (if t then nat_le 8 (raised_around xs) else list_any (is_format f) xs) ≡ false
    → is_single (number f) ≡ true → count (of_kind (number f)) xs ≡ 0
not_around f xs true e h s = absurd (true≢false (sym e ∙ single_plain f s))
not_around f xs false e h s = none_of f xs h

-- there is room for one more that raises or lowers
raised_room : (f : Format) (xs : List Around) (t : Bool)
    → (if t then nat_le 8 (raised_around xs) else list_any (is_format f) xs) ≡ false
    → count is_raised_around xs ≤ 8
    → count is_raised_around xs + ((if t then 1 else 0) + 0) ≤ 8
raised_room f xs true h w = omega (arith, raised_count xs, not_yet 8 (raised_around xs) h)
raised_room f xs false h w = omega (arith, w)

added : (f : Format) (xs : List Around) → is_enough f xs ≡ false → Within xs → Within (xs ++ formatted f ∷ [])
added f xs h w = record {
  once = λ k e. omega (arith, count_append (of_kind k) xs (formatted f ∷ []), one k e (k == number f) refl);
  raised = omega (
    arith,
    count_append is_raised_around xs (formatted f ∷ []),
    raised_room f xs (is_raised f) h w.raised,
  );
  links = omega (arith, count_append is_link xs (formatted f ∷ []), w.links);
}
  where
    none : (k : ℕ) → k ≡ number f → is_single k ≡ true → count (of_kind k) xs ≡ 0
    none k i e =
        subst (λ n. count (of_kind n) xs ≡ 0) (sym i)
        (not_around f xs (is_raised f) refl h (subst (λ n. is_single n ≡ true) i e))

    one : (k : ℕ) → is_single k ≡ true → (b : Bool) → (k == number f) ≡ b
        → count (of_kind k) xs + ((if b then 1 else 0) + 0) ≤ 1
    one k e true g = omega (arith, none k (equals k (number f) g) e)
    one k e false g = omega (arith, w.once k e)

pub within_format : (f : Format) (c : Context) → Within c.around → Within (inside_format f c).around
within_format f c w = go (is_enough f c.around) refl
  where
    go : (t : Bool) → is_enough f c.around ≡ t
        → Within (if t then c else with_around c (formatted f)).around
    go true e = w
    go false e = added f c.around e w

-- ---- links

pub within_link : (node : ℕ) (address : List ℕ) (title : Option (List ℕ)) (c : Context) → Within c.around
    → Within (inside_link node address title c).around
within_link node address title c w = go (list_any is_link c.around) refl
  where
    a : Around
    a = linked node address title

    xs : List Around
    xs = c.around

    go : (t : Bool) → list_any is_link c.around ≡ t → Within (if t then c else with_around c a).around
    go true e = w
    go false e = record {
      once = λ k i. omega (arith, count_append (of_kind k) xs (a ∷ []), w.once k i);
      raised = omega (arith, count_append is_raised_around xs (a ∷ []), w.raised);
      links = omega (arith, count_append is_link xs (a ∷ []), none_any is_link xs e);
    }

fewer : (p : Around → Bool) (xs : List Around) → count p (without_link xs) ≤ count p xs
fewer p [] = omega arith
fewer p (x ∷ xs) = go (is_link x) (fewer p xs)
  where
    go : (t : Bool) → count p (without_link xs) ≤ count p xs
        → count p (if t then xs else x ∷ without_link xs) ≤ (if p x then 1 else 0) + count p xs
    go true i = omega arith
    go false i = omega (arith, i)

pub within_unlinked : (c : Context) → Within c.around → Within (unlinked c).around
within_unlinked c w = record {
  once = λ k e. omega (arith, fewer (of_kind k) c.around, w.once k e);
  raised = omega (arith, fewer is_raised_around c.around, w.raised);
  links = omega (arith, fewer is_link c.around, w.links);
}

pub within_title : (title : Option (List ℕ)) (c : Context) → Within c.around
    → Within (inside_title title c).around
within_title None c w = w
within_title (Some title) c w = within_format (Abbreviation title) c w

-- around a title the link may be gone
pub title_within : (content : Simples) (c : Context) → Within c.around → Within (around_title content c).around
title_within content c w = go (has_elements c && is_linked_to_part c && show_usual_sign content)
  where
    go : (t : Bool) → Within (if t then unlinked c else c).around
    go true = within_unlinked c w
    go false = w

pub node_within : (t : Simple) (c : Context) → Within c.around → Within (around_node t c).around
node_within t c w = go (has roles.is_title t)
  where
    go : (b : Bool) → Within (if b then around_title (content_of t) c else c).around
    go true = title_within (content_of t) c w
    go false = w

-- ---- code

pub within_near : (n : ℕ) (attributes : List AttributePair) (c : Context) → Within c.around
    → Within (beside_code n attributes c).around
within_near zero attributes c w = w
within_near (suc zero) attributes c w = w
within_near (suc (suc n)) attributes c w = w

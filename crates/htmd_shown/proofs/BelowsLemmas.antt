-- What the walk knows of nodes is what is so.
use Rattle.std.proofs.Common.{◌≡◌, ℕ, ◌+◌, min, Bool, true, false, not, ◌||◌, ◌&&◌, List}
use Rattle.std.proofs.Common.{[], ◌∷◌, ◌++◌, refl, sym, ap, ◌∙◌, arith}
use Rattle.std.proofs.lemmas.List.{append_assoc}
use Rattle.std.specs.Str.{IsUtf8}
use Rattle.std.specs.Prelude.{Option, Some, None, is_some, codes}
use Rattle.std.specs.Borrow.{Bor}
use Rattle.std.specs.Option.{option_copied}
use Rattle.htmd_lexical.specs.AttributePairs.{AttributePair}
use Rattle.htmd_shown.specs.declared.below.Below.{Below}
use Rattle.htmd_shown.specs.declared.sign.Sign.TheVariants.{More}
use Rattle.htmd_shown.specs.Belows.{sign_of, sign_and, below_and, below_of, below_among, facts_in}
use Rattle.htmd_shown.specs.Belows as belows
use Rattle.htmd_shown.specs.AllTexts.{dollar_sign}
use Rattle.htmd_shown.specs.Attributes.{text_of}
use Rattle.htmd_shown.specs.Facts.{facts_of, leaves, leaves_among, pres, pres_among}
use Rattle.htmd_shown.specs.Kinds.{is_blank, are_blank, has_table, have_table, has_header, have_header}
use Rattle.htmd_shown.specs.Marks.{letters_of, letters_among, has_image, have_image, is_one, is_mark, is_usual_sign, letters}
use Rattle.htmd_shown.specs.Pieces.{greatest_count}
use Rattle.htmd_shown.specs.Shown.{followed_by}
use Rattle.htmd_shown.specs.ShownTexts.{shown_text}
use Rattle.htmd_shown.specs.SimpleTrees.{Simple, text, image, formula, Simples, none, more}
use Rattle.htmd_shown.proofs.BlanksLemmas.{blank_letters, letters_shown}

-- ---- one more node

module _ (t : Simple) where
  abbrev and_one : Simples → Simples
  and_one ts = followed_by ts (more t none)

  and_true : (b : Bool) → (b && true) ≡ b
  and_true true = refl
  and_true false = refl

  and_assoc : (a b c : Bool) → (a && (b && c)) ≡ ((a && b) && c)
  and_assoc true b c = refl
  and_assoc false b c = refl

  or_false : (b : Bool) → (b || false) ≡ b
  or_false true = refl
  or_false false = refl

  or_assoc : (a b c : Bool) → (a || (b || c)) ≡ ((a || b) || c)
  or_assoc true b c = refl
  or_assoc false b c = refl

  one_blank : (ts : Simples) → are_blank (and_one ts) ≡ (are_blank ts && is_blank t)
  one_blank none = and_true (is_blank t)
  one_blank (more x ts) = ap (λ b. is_blank x && b) (one_blank ts)
      ∙ and_assoc (is_blank x) (are_blank ts) (is_blank t)

  one_table : (ts : Simples) → have_table (and_one ts) ≡ (have_table ts || has_table t)
  one_table none = or_false (has_table t)
  one_table (more x ts) = ap (λ b. has_table x || b) (one_table ts)
      ∙ or_assoc (has_table x) (have_table ts) (has_table t)

  one_header : (ts : Simples) → have_header (and_one ts) ≡ (have_header ts || has_header t)
  one_header none = or_false (has_header t)
  one_header (more x ts) = ap (λ b. has_header x || b) (one_header ts)
      ∙ or_assoc (has_header x) (have_header ts) (has_header t)

  one_image : (ts : Simples) → have_image (and_one ts) ≡ (have_image ts || has_image t)
  one_image none = or_false (has_image t)
  one_image (more x ts) = ap (λ b. has_image x || b) (one_image ts)
      ∙ or_assoc (has_image x) (have_image ts) (has_image t)

  sums : (a b c : ℕ) → min 2 (a + min 2 (b + c)) ≡ min 2 (min 2 (a + b) + c)
  sums a b c = omega arith

  one_pres : (ts : Simples) → pres_among (and_one ts) ≡ min 2 (pres_among ts + pres t)
  one_pres none = omega arith
  one_pres (more x ts) = ap (λ n. min 2 (pres x + n)) (one_pres ts) ∙ sums (pres x) (pres_among ts) (pres t)

  append_none : (cs : List ℕ) → (cs ++ []) ≡ cs
  append_none [] = refl
  append_none (c ∷ cs) = ap (λ x. c ∷ x) (append_none cs)

  one_letters : (ts : Simples) → letters_among (and_one ts) ≡ letters_among ts ++ letters_of t
  one_letters none = append_none (letters_of t)
  one_letters (more x ts) = ap (λ cs. letters_of x ++ cs) (one_letters ts)
      ∙ sym (append_assoc (letters_of x) (letters_among ts) (letters_of t))

  counts : (a b c : ℕ) → min greatest_count (a + min greatest_count (b + c))
      ≡ min greatest_count (min greatest_count (a + b) + c)
  counts a b c = omega arith

  one_leaf : (ts : Simples) → leaves_among (and_one ts) ≡ min greatest_count (leaves_among ts + leaves t)
  one_leaf none = omega arith
  one_leaf (more x ts) = ap (λ n. min greatest_count (leaves x + n)) (one_leaf ts)
      ∙ counts (leaves x) (leaves_among ts) (leaves t)

sign_append : (xs ys : List ℕ) → sign_of (xs ++ ys) ≡ sign_and (sign_of xs) (sign_of ys)
sign_append [] ys = refl
sign_append (x ∷ []) [] = refl
sign_append (x ∷ []) (y ∷ []) = refl
sign_append (x ∷ []) (y ∷ z ∷ ys) = refl
sign_append (x ∷ w ∷ xs) ys = refl

-- what is known of nodes and one more
pub below_one : (t : Simple) (ts : Simples)
    → below_among (followed_by ts (more t none)) ≡ below_and (below_among ts) (below_of t)
below_one t ts = rw (
  one_blank t ts,
  one_pres t ts,
  one_table t ts,
  one_header t ts,
  one_letters t ts,
  sign_append (letters_among ts) (letters_of t),
  one_image t ts,
  one_leaf t ts,
) refl

-- ---- facts

one_sign : (kind : ℕ → Bool) (cs : List ℕ) → belows.is_one kind (sign_of cs) ≡ is_one kind cs
one_sign kind [] = refl
one_sign kind (c ∷ []) = refl
one_sign kind (c ∷ d ∷ cs) = refl

pub below_facts : (ts : Simples) → facts_in (below_among ts) ≡ facts_of ts
below_facts ts = rw (one_sign is_usual_sign (letters_among ts)) refl

pub mark_told : (kind : ℕ → Bool) (ts : Simples)
    → (belows.is_one kind (below_among ts).sign && not (below_among ts).has_image) ≡ is_mark kind ts
mark_told kind ts = ap (λ b. b && not (have_image ts)) (one_sign kind (letters_among ts))

-- ---- nodes of one kind

pub text_below : (s : List ℕ) → IsUtf8 s
    → belows.below_of_sign (sign_of (letters s)) ≡ below_of (text (shown_text s))
text_below s u = rw (blank_letters s u, letters_shown s u) refl

image_one : (address : Option (List ℕ)) (attributes : List AttributePair) (s : List ℕ)
    → s ≡ text_of (codes "alt") attributes
    → belows.below_of_image (is_some address) s ≡ below_of (image address attributes)
image_one address attributes s e =
    ap (λ x. let y : Below = record belows.nothing {
      is_blank = false;
      sign = sign_of (letters x);
      has_image = is_some address;
      leaves = 1;
    } in y) e

pub image_below : (address : Option (Bor (List ℕ))) (attributes : List AttributePair) (s : List ℕ) (b : Bool)
    → b ≡ is_some address → s ≡ text_of (codes "alt") attributes
    → belows.below_of_image b s ≡ below_of (image (option_copied address) attributes)
image_below None attributes s b f e = ap (λ x. belows.below_of_image x s) f ∙ image_one None attributes s e
image_below (Some a) attributes s b f e =
    ap (λ x. belows.below_of_image x s) f ∙ image_one (Some a.now) attributes s e

two_letters : (cs : List ℕ) → sign_of ((dollar_sign ∷ cs) ++ dollar_sign ∷ []) ≡ More
two_letters [] = refl
two_letters (c ∷ cs) = refl

pub formula_below : (tex : List ℕ) (alone : Bool) (attributes : List AttributePair)
    → belows.below_of_leaf More ≡ below_of (formula tex alone attributes)
formula_below tex alone attributes = rw (two_letters (letters tex)) refl

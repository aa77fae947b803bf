-- A normal text in two, cut at a space.
use Rattle.std.proofs.Common.{◌≡◌, ℕ, ◌+◌, ◌<◌, Bool, true, false, not, List, [], ◌∷◌, ◌++◌, length, drop}
use Rattle.std.proofs.Common.{get_or, refl, sym, ap, ◌∙◌, subst, append_assoc, arith, reverse}
use Rattle.std.specs.Prelude.{◌==◌, ◌&&◌, ◌||◌}
use Rattle.std.specs.List.{list_all}
use Rattle.std.specs.Str.{IsUtf8, is_utf8}
use Rattle.std.proofs.lemmas.Bool.{and_from, not-true}
use Rattle.std.proofs.lemmas.List.{reverse-append, take_at, drop_at, get_or_at, length-append}
use Rattle.std.proofs.lemmas.List.Folds.{list_all-append}
use Rattle.std.proofs.lemmas.Str.{IsUtf8-take, IsUtf8-drop, IsUtf8-from_is_utf8, is_utf8-from_IsUtf8}
use Rattle.std.proofs.lemmas.Str.{IsCharBoundary-before_ascii, IsCharBoundary-after_ascii}
use Rattle.htmd_lexical.specs.Characters.{space}
use Rattle.htmd_lexical.specs.CharacterClasses.{is_empty, first_is}
use Rattle.htmd_document.specs.NormalInlines.{is_line_byte, is_line, has_double_space, is_text, ends_in_space}
use Rattle.htmd_chunks.proofs.RunsLemmas.{and_left, and_right, IsSomething, something}

-- ---- tests

pub or_left : (a b : Bool) → (a || b) ≡ false → a ≡ false
or_left false b e = refl
or_left true b e = absurd (cc)

pub or_right : (a b : Bool) → (a || b) ≡ false → b ≡ false
or_right false b e = e
or_right true b e = absurd (cc)

pub or_from : (a b : Bool) → a ≡ false → b ≡ false → (a || b) ≡ false
or_from a b e f = ap (λ x. x || b) e ∙ f

-- ---- the end of a text

first-front : (c : ℕ) (xs ys : List ℕ) → IsSomething xs → first_is c (xs ++ ys) ≡ first_is c xs
first-front c xs ys (something x rest) = refl

some-behind : (xs : List ℕ) (y : ℕ) → IsSomething (xs ++ y ∷ [])
some-behind [] y = something y []
some-behind (x ∷ xs) y = something x (xs ++ y ∷ [])

reverse-some : (b : ℕ) (s : List ℕ) → IsSomething (reverse (b ∷ s))
reverse-some b s =
    subst (λ (l : List ℕ). IsSomething l) (sym (reverse-append (b ∷ []) s)) (some-behind (reverse s) b)

-- the end is that of what stands behind
pub ends-behind : (r : List ℕ) (b : ℕ) (s : List ℕ) → ends_in_space (r ++ b ∷ s) ≡ ends_in_space (b ∷ s)
ends-behind r b s =
    ap (first_is space) (reverse-append r (b ∷ s))
    ∙ first-front space (reverse (b ∷ s)) (reverse r) (reverse-some b s)

-- ---- no two spaces

pub double-back : (xs ys : List ℕ) → has_double_space (xs ++ ys) ≡ false → has_double_space ys ≡ false
double-back [] ys h = h
double-back (x ∷ xs) ys h =
    double-back xs ys (or_right ((x == space) && first_is space (xs ++ ys)) (has_double_space (xs ++ ys)) h)

pub double-front : (xs ys : List ℕ) → has_double_space (xs ++ ys) ≡ false → has_double_space xs ≡ false
double-front [] ys h = refl
double-front (x ∷ xs) ys h =
    or_from ((x == space) && first_is space xs) (has_double_space xs)
    (at xs (or_left ((x == space) && first_is space (xs ++ ys)) (has_double_space (xs ++ ys)) h))
    (double-front xs ys (or_right ((x == space) && first_is space (xs ++ ys)) (has_double_space (xs ++ ys)) h))
  where
    none : (e : Bool) → (e && false) ≡ false
    none true = refl
    none false = refl

    at : (xs : List ℕ) → ((x == space) && first_is space (xs ++ ys)) ≡ false
        → ((x == space) && first_is space xs) ≡ false
    at [] h = none (x == space)
    at (y ∷ xs) h = h

-- nothing before a space is one
pub double-ends : (c : ℕ) (cs : List ℕ) (b : ℕ) (ys : List ℕ)
    → has_double_space ((c ∷ cs) ++ b ∷ ys) ≡ false
    → (b == space) ≡ true → ends_in_space (c ∷ cs) ≡ false
double-ends c [] b ys h e =
    at (c == space) (b == space) (or_left ((c == space) && (b == space)) (has_double_space (b ∷ ys)) h) e
  where
    at : (x y : Bool) → (x && y) ≡ false → y ≡ true → x ≡ false
    at false y h e = refl
    at true y h e = absurd (cc)
double-ends c (d ∷ ds) b ys h e =
    ends-behind (c ∷ []) d ds
    ∙ double-ends d ds b ys (double-back (c ∷ []) ((d ∷ ds) ++ b ∷ ys) h) e

-- nor behind it
pub double-begins : (b c : ℕ) (s : List ℕ) → has_double_space (b ∷ c ∷ s) ≡ false → (b == space) ≡ true
    → (c == space) ≡ false
double-begins b c s h e =
    at (b == space) (c == space) (or_left ((b == space) && (c == space)) (has_double_space (c ∷ s)) h) e
  where
    at : (x y : Bool) → (x && y) ≡ false → x ≡ true → y ≡ false
    at true y h e = h
    at false y h e = absurd (cc)

-- ---- UTF-8

at-space : (xs ys : List ℕ) → (length xs < length (xs ++ space ∷ ys))
    × (get_or (xs ++ space ∷ ys) (length xs) 0 < 128)
at-space xs ys =
    let count = length-append xs (space ∷ ys) in
    let is : get_or (xs ++ space ∷ ys) (length xs) 0 ≡ space = get_or_at xs space ys 0 (length xs) refl in (
      omega (arith, count),
      small (get_or (xs ++ space ∷ ys) (length xs) 0) is,
    )
  where
    small : (k : ℕ) → k ≡ space → k < 128
    small k e = omega arith

utf8-front : (xs ys : List ℕ) → IsUtf8 (xs ++ space ∷ ys) → IsUtf8 xs
utf8-front xs ys h =
    let whole = xs ++ space ∷ ys in
    let at = at-space xs ys in
    subst (λ (l : List ℕ). IsUtf8 l) (take_at xs (space ∷ ys) (length xs) refl)
    (IsUtf8-take whole (length xs) h (IsCharBoundary-before_ascii whole (length xs) at.0 at.1))

utf8-back : (xs ys : List ℕ) → IsUtf8 (xs ++ space ∷ ys) → IsUtf8 ys
utf8-back xs ys h =
    let whole = xs ++ space ∷ ys in
    let at = at-space xs ys in
    let split : whole ≡ (xs ++ space ∷ []) ++ ys = sym (append_assoc xs (space ∷ []) ys) in
    let count : length (xs ++ space ∷ []) ≡ length xs + 1 = length-append xs (space ∷ []) in
    subst (λ (l : List ℕ). IsUtf8 l)
    (ap (drop (length xs + 1)) split ∙ drop_at (xs ++ space ∷ []) ys (length xs + 1) count)
    (IsUtf8-drop whole (length xs + 1) h (IsCharBoundary-after_ascii whole (length xs) h at.0 at.1))

-- ---- normal texts

record IsNormalText (s : List ℕ) : Type 0 where
  utf8 : is_utf8 s ≡ true
  bytes : list_all is_line_byte s ≡ true
  single : has_double_space s ≡ false

text-is : (s : List ℕ) → is_text s ≡ true → IsNormalText s
text-is s h =
    let line = is_line s in
    let some = not (is_empty s) in
    let first = and_left (line && some) (not (has_double_space s)) h in
    let inside = and_left line some first in
    record {
      utf8 = and_left (is_utf8 s) (list_all is_line_byte s) inside;
      bytes = and_right (is_utf8 s) (list_all is_line_byte s) inside;
      single = not-true (has_double_space s) (and_right (line && some) (not (has_double_space s)) h);
    }

text-from : (b : ℕ) (s : List ℕ) → IsNormalText (b ∷ s) → is_text (b ∷ s) ≡ true
text-from b s h =
    let line = and_from (is_utf8 (b ∷ s)) (list_all is_line_byte (b ∷ s)) h.utf8 h.bytes in
    and_from (is_line (b ∷ s) && true) (not (has_double_space (b ∷ s)))
    (and_from (is_line (b ∷ s)) true line refl) (ap not h.single)

pub single-space : (s : List ℕ) → is_text s ≡ true → has_double_space s ≡ false
single-space s h = (text-is s h).single

pub text-front : (b : ℕ) (s t : List ℕ) → is_text ((b ∷ s) ++ space ∷ t) ≡ true
    → is_text (b ∷ s) ≡ true
text-front b s t h =
    let whole = text-is ((b ∷ s) ++ space ∷ t) h in
    text-from b s (record {
      utf8 = is_utf8-from_IsUtf8 (b ∷ s)
          (utf8-front (b ∷ s) t (IsUtf8-from_is_utf8 ((b ∷ s) ++ space ∷ t) whole.utf8));
      bytes = and_left (list_all is_line_byte (b ∷ s)) (list_all is_line_byte (space ∷ t))
          (sym (list_all-append is_line_byte (b ∷ s) (space ∷ t)) ∙ whole.bytes);
      single = double-front (b ∷ s) (space ∷ t) whole.single;
    })

pub text-back : (r : List ℕ) (c : ℕ) (t : List ℕ) → is_text (r ++ space ∷ c ∷ t) ≡ true
    → is_text (c ∷ t) ≡ true
text-back r c t h =
    let whole = text-is (r ++ space ∷ c ∷ t) h in
    text-from c t (record {
      utf8 = is_utf8-from_IsUtf8 (c ∷ t)
          (utf8-back r (c ∷ t) (IsUtf8-from_is_utf8 (r ++ space ∷ c ∷ t) whole.utf8));
      bytes = and_right (is_line_byte space) (list_all is_line_byte (c ∷ t))
          (and_right (list_all is_line_byte r) (list_all is_line_byte (space ∷ c ∷ t))
          (sym (list_all-append is_line_byte r (space ∷ c ∷ t)) ∙ whole.bytes));
      single = double-back (space ∷ []) (c ∷ t) (double-back r (space ∷ c ∷ t) whole.single);
    })

-- ---- where a text is cut

-- what is cut off first: not empty but where something shows before it
abbrev pub FirstCut : Bool → List ℕ → Type 0
FirstCut before [] = before ≡ true
FirstCut before (b ∷ s) = ends_in_space (b ∷ s) ≡ false

-- what is left: not empty but where something shows behind it
abbrev pub LastCut : Bool → List ℕ → Type 0
LastCut behind [] = behind ≡ true
LastCut behind (b ∷ s) = (b == space) ≡ false

abbrev pub InnerCut : List ℕ → Type 0
InnerCut [] = ⊥
InnerCut (b ∷ s) = ((b == space) ≡ false) × (ends_in_space (b ∷ s) ≡ false)

abbrev pub LaterCuts : Bool → List (List ℕ) → Type 0
LaterCuts behind [] = Unit {0}
LaterCuts behind (q ∷ []) = LastCut behind q
LaterCuts behind (q ∷ r ∷ parts) = InnerCut q × LaterCuts behind (r ∷ parts)

abbrev pub AllCuts : Bool → Bool → List (List ℕ) → Type 0
AllCuts before behind [] = Unit {0}
AllCuts before behind (p ∷ []) = Unit {0}
AllCuts before behind (p ∷ q ∷ parts) = FirstCut before p × LaterCuts behind (q ∷ parts)

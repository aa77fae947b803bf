-- A text with fewer backslashes takes no more, nor do texts with a space between them.
use Rattle.std.proofs.Common.{◌≡◌, ℕ, suc, ◌+◌, ◌≤◌, Bool, true, false, not, cond, List, [], ◌∷◌, ◌++◌, length}
use Rattle.std.proofs.Common.{refl, sym, ap, ◌∙◌, subst, arith, length-append, eqb-true, le_refl, zero-mul}
use Rattle.std.specs.Prelude.{◌==◌}
use Rattle.std.specs.List.{count_by, onto_first}
use Rattle.std.proofs.lemmas.List.Sums.{sum_by-cons}
use Rattle.htmd_lexical.specs.CharacterClasses.{is_empty}
use Rattle.htmd_lexical.specs.Characters.{line_feed, space, backslash}
use Rattle.htmd_chunks.specs.Sizes.{plus, text_size, cost}
use Rattle.htmd_chunks.specs.declared.size.Margin.{Margin}
use Rattle.htmd_chunks.specs.declared.size.Size.{Size}
use Rattle.htmd_chunks.proofs.CostsLemmas.{cost-plus}
use Rattle.htmd_chunks.proofs.FlatSizesLemmas.{most-cost}
use Rattle.htmd_chunks.proofs.RunsLemmas.{IsSomething, something}
use Rattle.htmd_chunks.proofs.SizesLemmas.{Line, lines, some-lines, begins_well}

-- the first has what the second has, but for some backslashes before others than line feeds
pub data Sparser : List ℕ → List ℕ → Type 0 where
  at_end : Sparser [] []
  alike : (c : ℕ) (a b : List ℕ) → Sparser a b → Sparser (c ∷ a) (c ∷ b)
  fewer : (c : ℕ) (a b : List ℕ) → (c == line_feed) ≡ false → Sparser a b
      → Sparser (c ∷ a) (backslash ∷ c ∷ b)

pub sparser-same : (a : List ℕ) → Sparser a a
sparser-same [] = at_end
sparser-same (c ∷ a) = alike c a a (sparser-same a)

pub sparser-append : (a b c d : List ℕ) → Sparser a b → Sparser c d → Sparser (a ++ c) (b ++ d)
sparser-append a b c d at_end more = more
sparser-append a b c d (alike x u v rest) more = alike x (u ++ c) (v ++ d) (sparser-append u v c d rest more)
sparser-append a b c d (fewer x u v other rest) more =
    fewer x (u ++ c) (v ++ d) other (sparser-append u v c d rest more)

-- ---- one byte more

abbrev one_if : Bool → ℕ
one_if e = cond e 1 0

abbrev one_byte : Size
one_byte = record { bytes = 1; full = 0; empty = 0 }

abbrev full-of : List Line → ℕ
full-of ls = count_by (λ line. not (is_empty line)) ls

abbrev empty-of : List Line → ℕ
empty-of ls = count_by is_empty ls

full-cons : (l : Line) (ls : List Line) → full-of (l ∷ ls) ≡ one_if (not (is_empty l)) + full-of ls
full-cons l ls = sum_by-cons (λ line. cond (not (is_empty line)) 1 0) l ls

empty-cons : (l : Line) (ls : List Line) → empty-of (l ∷ ls) ≡ one_if (is_empty l) + empty-of ls
empty-cons l ls = sum_by-cons (λ line. cond (is_empty line) 1 0) l ls

-- the first of these lines isn't empty
abbrev first_full : List Line → Bool
first_full [] = false
first_full (l ∷ ls) = not (is_empty l)

onto-full : (b : ℕ) (ls : List Line) → IsSomething ls
    → (full-of (onto_first b ls) ≡ full-of ls + one_if (not (first_full ls)))
    × (empty-of (onto_first b ls) + one_if (not (first_full ls)) ≡ empty-of ls)
    × (first_full (onto_first b ls) ≡ true)
onto-full b ls (something [] rest) = (
  omega (arith, full-cons (b ∷ []) rest, full-cons [] rest),
  omega (arith, empty-cons (b ∷ []) rest, empty-cons [] rest),
  refl,
)
onto-full b ls (something (c ∷ l) rest) = (
  omega (arith, full-cons (b ∷ c ∷ l) rest, full-cons (c ∷ l) rest),
  omega (arith, empty-cons (b ∷ c ∷ l) rest, empty-cons (c ∷ l) rest),
  refl,
)

-- the lines of a text with a byte before it
record Grown (b : ℕ) (s : Line) : Type 0 where
  full : full-of (lines (b ∷ s)) ≡ full-of (lines s) + one_if (not (first_full (lines s)))
  empty : empty-of (lines (b ∷ s)) + one_if (not (first_full (lines s))) ≡ empty-of (lines s)
  first : first_full (lines (b ∷ s)) ≡ true

grown : (b : ℕ) (s : Line) → (b == line_feed) ≡ false → Grown b s
grown b s other =
    let is : lines (b ∷ s) ≡ onto_first b (lines s) =
    ap (λ e. cond e ([] ∷ lines s) (onto_first b (lines s))) other in
    let more = onto-full b (lines s) (some-lines s) in
    record {
      full = ap full-of is ∙ more.0;
      empty = ap (λ ls. empty-of ls + one_if (not (first_full (lines s)))) is ∙ more.1;
      first = ap first_full is ∙ more.2;
    }

-- or a line feed
record Broken (s : Line) : Type 0 where
  full : full-of (lines (line_feed ∷ s)) ≡ full-of (lines s)
  empty : empty-of (lines (line_feed ∷ s)) ≡ suc (empty-of (lines s))

broken : (s : Line) → Broken s
broken s = record {
  full = omega (arith, full-cons [] (lines s));
  empty = omega (arith, empty-cons [] (lines s));
}

-- ---- sparser texts

record Alike (a b : Line) : Type 0 where
  bytes : length a ≤ length b
  full : full-of (lines a) ≡ full-of (lines b)
  empty : empty-of (lines a) ≡ empty-of (lines b)
  first : first_full (lines a) ≡ first_full (lines b)

alike-more : (c : ℕ) (a b : Line) → Alike a b → (e : Bool) → (c == line_feed) ≡ e
    → Alike (c ∷ a) (c ∷ b)
alike-more c a b was true is =
    subst (λ (x : ℕ). Alike (x ∷ a) (x ∷ b)) (sym (eqb-true c line_feed is))
    (record {
      bytes = omega (arith, was.bytes);
      full = omega (arith, (broken a).full, (broken b).full, was.full);
      empty = omega (arith, (broken a).empty, (broken b).empty, was.empty);
      first = refl;
    })
alike-more c a b was false is =
    let g = grown c a is in
    let h = grown c b is in
    let same = ap (λ e. one_if (not e)) was.first in
    record {
      bytes = omega (arith, was.bytes);
      full = omega (arith, g.full, h.full, was.full, same);
      empty = omega (arith, g.empty, h.empty, was.empty, same);
      first = g.first ∙ sym h.first;
    }

sparser-alike : (a b : Line) → Sparser a b → Alike a b
sparser-alike a b at_end = record { bytes = le_refl 0; full = refl; empty = refl; first = refl }
sparser-alike a b (alike c u v rest) = alike-more c u v (sparser-alike u v rest) (c == line_feed) refl
sparser-alike a b (fewer c u v other rest) =
    let was = alike-more c u v (sparser-alike u v rest) false other in
    let g = grown backslash (c ∷ v) refl in
    let first = ap (λ e. one_if (not e)) (grown c v other).first in
    record {
      bytes = omega (arith, was.bytes);
      full = omega (arith, was.full, g.full, first);
      empty = omega (arith, was.empty, g.empty, first);
      first = was.first ∙ (grown c v other).first ∙ sym g.first;
    }

pub sparser-cost : (m : Margin) (a b : Line) → Sparser a b → cost m (text_size a) ≤ cost m (text_size b)
sparser-cost m a b sparse =
    let is = sparser-alike a b sparse in
    most-cost m (text_size a) (text_size b)
    (record {
      bytes = is.bytes;
      full = omega (arith, is.full);
      empty = omega (arith, is.empty);
    })

-- ---- with a space between

first-well : (t : Line) → begins_well t ≡ true → first_full (lines t) ≡ true
first-well [] well = absurd (cc)
first-well (b ∷ t) well =
    (grown b t (elim (b == line_feed) as (λ e. not e ≡ true → e ≡ false) [
      | true ↦ λ h. absurd (cc)
      | false ↦ λ h. refl
    ] well)).first

record Spaced (s t : Line) : Type 0 where
  full : full-of (lines (s ++ space ∷ t)) ≤ full-of (lines s) + full-of (lines t)
  empty : empty-of (lines (s ++ space ∷ t)) ≤ empty-of (lines s) + empty-of (lines t)
  same : first_full (lines s) ≡ true → first_full (lines (s ++ space ∷ t)) ≡ true
  kept : (first_full (lines s) ≡ false)
      → (full-of (lines (s ++ space ∷ t)) + 1 ≤ full-of (lines s) + full-of (lines t) + 1)
      × (first_full (lines (s ++ space ∷ t)) ≡ true → empty-of (lines (s ++ space ∷ t)) + 1
      ≤ empty-of (lines s) + empty-of (lines t))

one-before : (c : ℕ) (s t : Line) → Spaced s t → (e : Bool) → (c == line_feed) ≡ e → Spaced (c ∷ s) t
one-before c s t was true is =
    subst (λ (x : ℕ). Spaced (x ∷ s) t) (sym (eqb-true c line_feed is))
    (let g = broken s in
    let h = broken (s ++ space ∷ t) in
    record {
      full = omega (arith, g.full, h.full, was.full);
      empty = omega (arith, g.empty, h.empty, was.empty);
      same = λ h. absurd (cc);
      kept = λ k. (omega (arith, g.full, h.full, was.full), λ h. absurd (cc));
    })
one-before c s t was false is =
    let g = grown c s is in
    let h = grown c (s ++ space ∷ t) is in
    let both = counts-kept (first_full (lines s)) (first_full (lines (s ++ space ∷ t))) refl refl in
    record {
      full = omega (arith, g.full, h.full, both.0);
      empty = omega (arith, g.empty, h.empty, both.1);
      same = λ k. h.first;
      kept = λ k. absurd (let x : true ≡ false = sym g.first ∙ k in cc);
    }
  where
    -- by whether the first lines have something
    counts-kept : (x y : Bool) → first_full (lines s) ≡ x → first_full (lines (s ++ space ∷ t)) ≡ y
        → (full-of (lines (s ++ space ∷ t)) + one_if (not y) ≤ full-of (lines s) + one_if (not x) + full-of
        (lines t))
        × (empty-of (lines (s ++ space ∷ t)) + one_if (not x) ≤ empty-of (lines s) + empty-of (lines t) + one_if
        (not y))
    counts-kept true true p q = (omega (arith, was.full), omega (arith, was.empty))
    counts-kept true false p q = absurd (let z : true ≡ false = sym (was.same p) ∙ q in cc)
    counts-kept false true p q = (omega (arith, was.full), omega (arith, (was.kept p).1 q))
    counts-kept false false p q = (omega (arith, was.full), omega (arith, was.empty))

spaced : (s t : Line) → first_full (lines t) ≡ true → Spaced s t
spaced [] t well =
    let g = grown space t refl in
    let same = ap (λ e. one_if (not e)) well in
    record {
      full = omega (arith, g.full, same);
      empty = omega (arith, g.empty, same);
      same = λ h. absurd (cc);
      kept = λ h. (omega (arith, g.full, same), λ k. omega (arith, g.empty, same));
    }
spaced (c ∷ s) t well = one-before c s t (spaced s t well) (c == line_feed) refl

pub spaced-cost : (m : Margin) (s t : Line) → begins_well t ≡ true
    → cost m (text_size (s ++ space ∷ t)) ≤ cost m (text_size s) + cost m (text_size t) + 1
spaced-cost m s t well =
    let is = spaced s t (first-well t well) in
    let all = plus (plus (text_size s) (text_size t)) one_byte in
    let within = most-cost m (text_size (s ++ space ∷ t)) all
    (record {
      bytes = omega (arith, length-append s (space ∷ t));
      full = omega (arith, is.full);
      empty = omega (arith, is.empty);
    }) in
    omega (
      arith,
      within,
      cost-plus m (plus (text_size s) (text_size t)) one_byte,
      cost-plus m (text_size s) (text_size t),
      zero-mul m.full,
      zero-mul m.empty,
    )

-- How many bytes of a text pass a test, and bounds of that and of its length.
use Rattle.std.proofs.Common.{◌≡◌, ℕ, zero, suc, ◌+◌, ◌≤◌, Bool, true, false, List, [], ◌∷◌, ◌++◌, length, take, arith}
use Rattle.std.proofs.lemmas.List.{length-append, length-take}
use Rattle.std.specs.Prelude.{◌||◌, ◌==◌, if◌then◌else◌, replicate}
use Rattle.htmd_lexical.specs.Characters.{vertical_bar}
use Rattle.htmd_text.specs.Trims.{is_line_feed}

abbrev pub tally : (ℕ → Bool) → List ℕ → ℕ
tally p [] = 0
tally p (b ∷ s) = if p b then suc (tally p s) else tally p s

-- a line feed, or a bar, which a cell escapes
abbrev pub is_break : ℕ → Bool
is_break b = is_line_feed b || (b == vertical_bar)

-- at most so many bytes, of which at most so many pass
pub record Cost (p : ℕ → Bool) (s : List ℕ) (a n : ℕ) : Type 0 where
  pub long : length s ≤ a
  pub passing : tally p s ≤ n

pub tally_append : (p : ℕ → Bool) (s t : List ℕ) → tally p (s ++ t) ≡ tally p s + tally p t
tally_append p [] t = omega arith
tally_append p (b ∷ s) t = go (p b) (tally_append p s t)
  where
    go : (c : Bool) → tally p (s ++ t) ≡ tally p s + tally p t
        → (if c then suc (tally p (s ++ t)) else tally p (s ++ t))
        ≡ (if c then suc (tally p s) else tally p s) + tally p t
    go true i = omega (arith, i)
    go false i = i

pub one_more : (p : ℕ → Bool) (b : ℕ) (s : List ℕ) → tally p (b ∷ s) ≤ suc (tally p s)
one_more p b s = go (p b)
  where
    go : (c : Bool) → (if c then suc (tally p s) else tally p s) ≤ suc (tally p s)
    go true = omega arith
    go false = omega arith

pub tally_grows : (p : ℕ → Bool) (b : ℕ) (s : List ℕ) → tally p s ≤ tally p (b ∷ s)
tally_grows p b s = go (p b)
  where
    go : (c : Bool) → tally p s ≤ (if c then suc (tally p s) else tally p s)
    go true = omega arith
    go false = omega arith

pub tally_cons : (p : ℕ → Bool) (b : ℕ) (s t : List ℕ) → tally p s ≤ tally p t
    → tally p (b ∷ s) ≤ tally p (b ∷ t)
tally_cons p b s t h = go (p b)
  where
    go : (c : Bool) → (if c then suc (tally p s) else tally p s) ≤ (if c then suc (tally p t) else tally p t)
    go true = omega (arith, h)
    go false = h

pub tally_le : (p : ℕ → Bool) (s : List ℕ) → tally p s ≤ length s
tally_le p [] = omega arith
tally_le p (b ∷ s) = omega (arith, one_more p b s, tally_le p s)

pub empty : (p : ℕ → Bool) → Cost p [] 0 0
empty p = record { long = omega arith; passing = omega arith }

pub cost_append : {p : ℕ → Bool} {s t : List ℕ} {a b n m : ℕ} → Cost p s a n → Cost p t b m
    → Cost p (s ++ t) (a + b) (n + m)
cost_append {p} {s} {t} {a} {b} {n} {m} g h = record {
  long = omega (arith, length-append s t, g.long, h.long);
  passing = omega (arith, tally_append p s t, g.passing, h.passing);
}

-- less is at most more
pub within : {p : ℕ → Bool} {s : List ℕ} {a b n m : ℕ} → Cost p s a n → a ≤ b → n ≤ m → Cost p s b m
within g h i = record { long = omega (arith, g.long, h); passing = omega (arith, g.passing, i) }

pub either : {p : ℕ → Bool} {s t : List ℕ} {a n : ℕ} (c : Bool) → Cost p s a n → Cost p t a n
    → Cost p (if c then s else t) a n
either true g h = g
either false g h = h

-- the text itself
pub whole : (p : ℕ → Bool) (s : List ℕ) → Cost p s (length s) (length s)
whole p s = record { long = omega arith; passing = tally_le p s }

-- a text of this length in which nothing passes
pub fixed : (p : ℕ → Bool) (s : List ℕ) (k : ℕ) → length s ≡ k → tally p s ≡ 0 → Cost p s k 0
fixed p s k e h = record { long = omega (arith, e); passing = omega (arith, h) }

pub cost_cons : {p : ℕ → Bool} {s : List ℕ} {a n : ℕ} (b : ℕ) → Cost p s a n
    → Cost p (b ∷ s) (suc a) (suc n)
cost_cons {p} {s} b g = record {
  long = omega (arith, g.long);
  passing = omega (arith, one_more p b s, g.passing);
}

pub plain_cons : {p : ℕ → Bool} {s : List ℕ} {a n : ℕ} (b : ℕ) → p b ≡ false → Cost p s a n
    → Cost p (b ∷ s) (suc a) n
plain_cons {p} {s} {a} {n} b e g = record { long = omega (arith, g.long); passing = go (p b) e }
  where
    go : (c : Bool) → c ≡ false → (if c then suc (tally p s) else tally p s) ≤ n
    go true e = absurd (cc)
    go false e = g.passing

pub repeated : (p : ℕ → Bool) (b : ℕ) → p b ≡ false → (n : ℕ) → Cost p (replicate n b) n 0
repeated p b e zero = empty p
repeated p b e (suc n) = plain_cons b e (repeated p b e n)

pub tally_take : (p : ℕ → Bool) (n : ℕ) (s : List ℕ) → tally p (take n s) ≤ tally p s
tally_take p zero s = omega arith
tally_take p (suc n) [] = omega arith
tally_take p (suc n) (b ∷ s) = tally_cons p b (take n s) s (tally_take p n s)

pub cost_take : {p : ℕ → Bool} {s : List ℕ} {a n : ℕ} (k : ℕ) → Cost p s a n → Cost p (take k s) a n
cost_take {p} {s} k g = record {
  long = omega (arith, length-take k s, g.long);
  passing = omega (arith, tally_take p k s, g.passing);
}

-- line feeds are some of the breaks
pub feeds_le : (s : List ℕ) → tally is_line_feed s ≤ tally is_break s
feeds_le [] = omega arith
feeds_le (b ∷ s) = go (is_line_feed b) (b == vertical_bar) (feeds_le s)
  where
    go : (c d : Bool) → tally is_line_feed s ≤ tally is_break s
        → (if c then suc (tally is_line_feed s) else tally is_line_feed s)
        ≤ (if c || d then suc (tally is_break s) else tally is_break s)
    go true d i = omega (arith, i)
    go false true i = omega (arith, i)
    go false false i = i

pub feeds_of : {s : List ℕ} {a n : ℕ} → Cost is_break s a n → Cost is_line_feed s a n
feeds_of {s} g = record { long = g.long; passing = omega (arith, feeds_le s, g.passing) }

-- Lines, and the fields of a line, from where a byte was found.
use Rattle.std.proofs.Common.{◌≡◌, ◌≢◌, ◌∙◌, sym, ap, refl, ℕ, zero, suc, ◌+◌, ◌-◌, ◌<◌, ◌≤◌, ◌==◌, Bool, true, false}
use Rattle.std.proofs.Common.{if◌then◌else◌, List, [], ◌∷◌, ◌++◌, length, take, drop, get_or, All, arith}
use Rattle.std.proofs.Common.{take-append-drop}
use Rattle.std.proofs.lemmas.List.{drop_more, take_more, take_rest}
use Rattle.std.proofs.lemmas.Bool.{ne_eqb}
use Rattle.std.proofs.lemmas.List.Elements.{All-head, All-tail}
use Rattle.std.specs.Str.{bytes_eq}
use Rattle.htmd_lexical.specs.Characters.{line_feed, tab}
use Rattle.htmd_streams.specs.Lines.{lacks, lines, before_lines, rows, end_mark, other_fields, last_field}

-- ---- where a byte doesn't occur

-- if a test fails, what follows it
pub unless : {A : Type 0} (t x : Bool) (here there goal : A) → (if t then false else x) ≡ true
    → (x ≡ true → there ≡ goal) → (if t then here else there) ≡ goal
unless true x here there goal p f = absurd (cc)
unless false x here there goal p f = f p

pub lacks-append : (b : ℕ) (s t : List ℕ) → lacks b s ≡ true → lacks b t ≡ true
    → lacks b (s ++ t) ≡ true
lacks-append b [] t p q = q
lacks-append b (c ∷ s) t p q =
    unless (c == b) (lacks b s) false (lacks b (s ++ t)) true p (λ e. lacks-append b s t e q)

-- the byte is another one
abbrev pub IsNot : ℕ → ℕ → Type 0
IsNot b c = c ≢ b

pub lacks-all : (b : ℕ) (l : List ℕ) → All (IsNot b) l → lacks b l ≡ true
lacks-all b [] none = refl
lacks-all b (c ∷ l) none =
    rw (ne_eqb c b (All-head (IsNot b) c l none)) (lacks-all b l (All-tail (IsNot b) c l none))

pub lacks-before : (b : ℕ) (l : List ℕ) (n : ℕ) → ((k : ℕ) → k < n → get_or l k 0 ≢ b)
    → lacks b (take n l) ≡ true
lacks-before b l zero h = refl
lacks-before b [] (suc n) h = refl
lacks-before b (c ∷ l) (suc n) h =
    rw (ne_eqb c b (h 0 (omega arith))) (lacks-before b l n (λ k low. h (suc k) (omega arith)))

-- the same after a place
pub lacks-behind : (b : ℕ) (l : List ℕ) (n : ℕ)
    → ((k : ℕ) → n ≤ k → k < length l → get_or l k 0 ≢ b) → lacks b (drop n l) ≡ true
lacks-behind b [] zero h = refl
lacks-behind b (c ∷ l) zero h =
    rw (ne_eqb c b (h 0 (omega arith) (omega arith)))
    (lacks-behind b l zero (λ k low high. h (suc k) (omega arith) (omega arith)))
lacks-behind b [] (suc n) h = refl
lacks-behind b (c ∷ l) (suc n) h = lacks-behind b l n (λ k low high. h (suc k) (omega arith) (omega arith))

-- a text, around a byte that it holds
pub around : (l : List ℕ) (at b : ℕ) → at < length l → get_or l at 0 ≡ b
    → l ≡ take at l ++ b ∷ drop (at + 1) l
around l at b lt e =
    sym (take-append-drop at l)
    ∙ ap (λ t. take at l ++ t) (drop_more l at 0 lt ∙ ap (λ x. x ∷ drop (at + 1) l) e)

-- ---- lines

lines-line : (l s : List ℕ) → lacks line_feed l ≡ true → lines (l ++ line_feed ∷ s) ≡ l ∷ lines s
lines-line [] s p = refl
lines-line (c ∷ l) s p =
    unless (c == line_feed) (lacks line_feed l) _ _ _ p (λ e. ap (before_lines c) (lines-line l s e))

pub lines-open : (b : ℕ) (l : List ℕ) → lacks line_feed (b ∷ l) ≡ true
    → lines (b ∷ l) ≡ (b ∷ l) ∷ []
lines-open b [] p = unless (b == line_feed) true _ _ _ p (λ e. refl)
lines-open b (c ∷ l) p =
    unless (b == line_feed) (lacks line_feed (c ∷ l)) _ _ _ p (λ e. ap (before_lines b) (lines-open c l e))

-- a line that isn't the end mark is a row
pub rows-line : (l s : List ℕ) → lacks line_feed l ≡ true → bytes_eq l end_mark ≡ false
    → rows (l ++ line_feed ∷ s) ≡ l ∷ rows s
rows-line l s p e = rw (lines-line l s p, e) refl

-- the end mark ends the rows
pub rows-end : (l s : List ℕ) → lacks line_feed l ≡ true → bytes_eq l end_mark ≡ true
    → rows (l ++ line_feed ∷ s) ≡ []
rows-end l s p e = rw (lines-line l s p, e) refl

-- ---- fields

lacks-not : (a f : List ℕ) → lacks tab (a ++ tab ∷ f) ≡ false
lacks-not [] f = refl
lacks-not (c ∷ a) f = rw (lacks-not a f) (either (c == tab))
  where
    either : (t : Bool) → (if t then false else false) ≡ false
    either true = refl
    either false = refl

pub other_fields-none : (f : List ℕ) → lacks tab f ≡ true → other_fields f ≡ []
other_fields-none [] p = refl
other_fields-none (b ∷ s) p = rw p refl

other_fields-split : (a f : List ℕ) → lacks tab f ≡ true → other_fields (a ++ tab ∷ f) ≡ a ++ tab ∷ []
other_fields-split [] f p = ap (λ t. tab ∷ t) (other_fields-none f p)
other_fields-split (c ∷ a) f p = rw (lacks-not (c ∷ a) f) (ap (λ t. c ∷ t) (other_fields-split a f p))

pub last_field-whole : (f : List ℕ) → lacks tab f ≡ true → last_field f ≡ f
last_field-whole [] p = refl
last_field-whole (b ∷ s) p = rw p refl

last_field-split : (a f : List ℕ) → lacks tab f ≡ true → last_field (a ++ tab ∷ f) ≡ f
last_field-split [] f p = last_field-whole f p
last_field-split (c ∷ a) f p = rw (lacks-not (c ∷ a) f) (last_field-split a f p)

-- the fields before the last tab, and the field after it
pub others-at : (row : List ℕ) (place : ℕ) → place < length row → get_or row place 0 ≡ tab
    → lacks tab (drop (place + 1) row) ≡ true → take (place + 1) row ≡ other_fields row
others-at row place l e p =
    take_more row place 0 l
    ∙ (ap (λ x. take place row ++ x ∷ []) e
    ∙ sym (ap other_fields (around row place tab l e)
    ∙ other_fields-split (take place row) (drop (place + 1) row) p))

pub last-at : (row : List ℕ) (place : ℕ) → place < length row → get_or row place 0 ≡ tab
    → lacks tab (drop (place + 1) row) ≡ true
    → take (length row - (place + 1)) (drop (place + 1) row) ≡ last_field row
last-at row place l e p =
    take_rest row (place + 1)
    ∙ sym (ap last_field (around row place tab l e) ∙ last_field-split (take place row) (drop (place + 1) row) p)

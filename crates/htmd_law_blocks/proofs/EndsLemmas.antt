-- Texts without white space at their ends, and the characters of a line that are no white space.
use Rattle.std.proofs.Common.{◌≡◌, ◌∙◌, refl, sym, ap, ℕ, Bool, true, false, List, [], ◌∷◌, ◌++◌}
use Rattle.std.proofs.lemmas.List.{append-nil, reverse-append, reverse-reverse}
use Rattle.std.specs.Prelude.{◌&&◌, reverse}
use Rattle.std.specs.List.{list_all}
use Rattle.htmd_lexical.specs.CharacterClasses.{behind_run}
use Rattle.htmd_commonmark_reading.specs.Characters.{is_space_or_tab, stripped, stripped_end}
use Rattle.htmd_commonmark_reading.specs.Lines.{marks}
use mathlib.Core.List.{reverse-cons}

behind_snoc : (p : ℕ → Bool) (xs : List ℕ) (c : ℕ) → p c ≡ false
    → behind_run p (xs ++ (c ∷ [])) ≡ behind_run p xs ++ (c ∷ [])
behind_snoc p [] c h = rw h refl
behind_snoc p (x ∷ xs) c h = go (p x) refl (behind_snoc p xs c h)
  where
    go : (b : Bool) → p x ≡ b → behind_run p (xs ++ (c ∷ [])) ≡ behind_run p xs ++ (c ∷ [])
        → behind_run p (x ∷ (xs ++ (c ∷ []))) ≡ behind_run p (x ∷ xs) ++ (c ∷ [])
    go true e i = rw e i
    go false e i = rw e refl

pub stripped_end_black : (p : ℕ → Bool) (c : ℕ) (s : List ℕ) → p c ≡ false
    → stripped_end p (c ∷ s) ≡ c ∷ stripped_end p s
stripped_end_black p c s h =
    ap (λ (r : List ℕ). reverse (behind_run p r)) (reverse-cons c s)
    ∙ ap reverse (behind_snoc p (reverse s) c h)
    ∙ reverse-append (behind_run p (reverse s)) (c ∷ [])

pub stripped_black : (c : ℕ) (s : List ℕ) → is_space_or_tab c ≡ false
    → stripped (c ∷ s) ≡ c ∷ stripped_end is_space_or_tab s
stripped_black c s h =
    ap (stripped_end is_space_or_tab) (past c s h) ∙ stripped_end_black is_space_or_tab c s h
  where
    past : (c : ℕ) (s : List ℕ) → is_space_or_tab c ≡ false → behind_run is_space_or_tab (c ∷ s) ≡ c ∷ s
    past c s h = rw h refl

-- ---- marks

marks_append : (s t : List ℕ) → marks (s ++ t) ≡ marks s ++ marks t
marks_append [] t = refl
marks_append (c ∷ s) t = go (is_space_or_tab c) refl (marks_append s t)
  where
    go : (b : Bool) → is_space_or_tab c ≡ b → marks (s ++ t) ≡ marks s ++ marks t
        → marks (c ∷ (s ++ t)) ≡ marks (c ∷ s) ++ marks t
    go true e i = rw e i
    go false e i = rw e (ap (◌∷◌ c) i)

marks_reverse : (s : List ℕ) → marks (reverse s) ≡ reverse (marks s)
marks_reverse [] = refl
marks_reverse (c ∷ s) = ap marks (reverse-cons c s) ∙ marks_append (reverse s) (c ∷ [])
    ∙ go (is_space_or_tab c) refl (marks_reverse s)
  where
    go : (b : Bool) → is_space_or_tab c ≡ b → marks (reverse s) ≡ reverse (marks s)
        → marks (reverse s) ++ marks (c ∷ []) ≡ reverse (marks (c ∷ s))
    go true e i = rw e (append-nil (marks (reverse s)) ∙ i)
    go false e i = rw e (ap (λ (m : List ℕ). m ++ (c ∷ [])) i ∙ sym (reverse-cons c (marks s)))

marks_behind : (s : List ℕ) → marks (behind_run is_space_or_tab s) ≡ marks s
marks_behind [] = refl
marks_behind (c ∷ s) = go (is_space_or_tab c) refl (marks_behind s)
  where
    go : (b : Bool) → is_space_or_tab c ≡ b → marks (behind_run is_space_or_tab s) ≡ marks s
        → marks (behind_run is_space_or_tab (c ∷ s)) ≡ marks (c ∷ s)
    go true e i = rw e i
    go false e i =
        let w : behind_run is_space_or_tab (c ∷ s) ≡ c ∷ s = rw e refl in
        ap marks w

pub marks_stripped : (s : List ℕ) → marks (stripped_end is_space_or_tab s) ≡ marks s
marks_stripped s =
    marks_reverse (behind_run is_space_or_tab (reverse s))
    ∙ ap reverse (marks_behind (reverse s) ∙ marks_reverse s)
    ∙ reverse-reverse (marks s)

all_marks : (p : ℕ → Bool) (s : List ℕ) → list_all p s ≡ true → list_all p (marks s) ≡ true
all_marks p [] h = refl
all_marks p (c ∷ s) h =
    go (is_space_or_tab c) refl (first (p c) (list_all p s) h) (all_marks p s (second (p c) (list_all p s) h))
  where
    first : (a b : Bool) → (a && b) ≡ true → a ≡ true
    first true b h = refl
    first false b h = absurd (cc)

    second : (a b : Bool) → (a && b) ≡ true → b ≡ true
    second true b h = h
    second false b h = absurd (cc)

    go : (b : Bool) → is_space_or_tab c ≡ b → p c ≡ true → list_all p (marks s) ≡ true
        → list_all p (marks (c ∷ s)) ≡ true
    go true e f i = rw e i
    go false e f i = rw e (rw f i)

pub not_all : (p : ℕ → Bool) (s : List ℕ) → list_all p (marks s) ≡ false
    → list_all p (stripped_end is_space_or_tab s) ≡ false
not_all p s h = go (list_all p (stripped_end is_space_or_tab s)) refl
  where
    go : (b : Bool) → list_all p (stripped_end is_space_or_tab s) ≡ b → list_all p
        (stripped_end is_space_or_tab s) ≡ false
    go false e = e
    go true e =
        let w : list_all p (marks s) ≡ true =
        ap (list_all p) (sym (marks_stripped s)) ∙ all_marks p (stripped_end is_space_or_tab s) e in
        absurd (cc)

-- Bullets of which none is a thematic break.
use Rattle.std.proofs.Common.{◌≡◌, ◌∙◌, ℕ, zero, suc, ◌+◌, ◌-◌, ◌<◌, ◌==◌, ◌&&◌, ◌||◌, Bool, true, false, not, List, []}
use Rattle.std.proofs.Common.{◌∷◌, length, drop, get_or, refl, ap, sym, arith}
use Rattle.std.proofs.lemmas.Bool.{and_parts, eqb-true}
use Rattle.std.specs.List.{list_all}
use Rattle.htmd_lexical.proofs.Cases.{test}
use Rattle.htmd_commonmark_reading.specs.BlockStarts.{sign, bullet_or_rule, is_rule, is_same, behind_padding, padding}
use Rattle.htmd_commonmark_reading.specs.Characters.{is_space_or_tab, past_blanks}
use Rattle.htmd_commonmark_reading.specs.Lines.{Line, after_marker, marks, spaces}
use Rattle.htmd_commonmark_reader.specs.BulletRuns.{other_behind, is_mixed}
use Rattle.htmd_commonmark_reader.specs.LineViews.{line_of}
use Rattle.htmd_commonmark_reader.specs.declared.lines.Line as held
use Rattle.htmd_commonmark_reader.proofs.LinesLemmas.{cut_marks}
use Rattle.htmd_commonmark_reader.proofs.StartsLemmas.{marks_skip, marks_take}

-- ---- how often a sign stands

not_false : (b : Bool) → not b ≡ true → b ≡ false
not_false true e = absurd (cc)
not_false false e = refl

pub not_all : (c n : ℕ) (m : List ℕ) → other_behind c n m ≡ true → list_all (is_same c) m ≡ false
not_all c n [] e = absurd (cc)
not_all c zero (d ∷ m) e = let no : (d == c) ≡ false = not_false (d == c) e in rw no refl
not_all c (suc n) (d ∷ m) e =
    let h = and_parts (d == c) (other_behind c n m) e in
    rw (h.0, not_all c n m h.1) refl

pub other_here : (c : ℕ) (s : List ℕ) (i : ℕ) → i < length s → is_space_or_tab (get_or s i 0) ≡ false
    → (get_or s i 0 == c) ≡ false → other_behind c 0 (marks (drop i s)) ≡ true
other_here c s i l e f =
    let same = marks_take s i l e in
    ap (other_behind c 0) same ∙ ap not f

pub other_skip : (c n : ℕ) (s : List ℕ) (i : ℕ) → i < length s → is_space_or_tab (get_or s i 0) ≡ true
    → other_behind c n (marks (drop (i + 1) s)) ≡ true → other_behind c n (marks (drop i s)) ≡ true
other_skip c n s i l e h = ap (other_behind c n) (marks_skip s i l e) ∙ h

pub other_more : (c n : ℕ) (s : List ℕ) (i : ℕ) → i < length s → is_space_or_tab (get_or s i 0) ≡ false
    → (get_or s i 0 == c) ≡ true → other_behind c n (marks (drop (i + 1) s)) ≡ true
    → other_behind c (suc n) (marks (drop i s)) ≡ true
other_more c n s i l e f h =
    let same = marks_take s i l e in
    ap (other_behind c (suc n)) same ∙ (rw (f, h) refl)

-- ---- the first of the bullets

past_marks : (s : List ℕ) → marks (past_blanks s) ≡ marks s
past_marks [] = refl
past_marks (c ∷ s) = test (is_space_or_tab c) (λ e. rw e (past_marks s)) (λ e. rw (e, e) refl)

spaces_marks : (n : ℕ) (s : List ℕ) → marks (spaces n s) ≡ marks s
spaces_marks zero s = refl
spaces_marks (suc n) s = spaces_marks n s

-- the characters of a line are those of its content
pub content_marks : (l : held.Line) → l.content.now ≡ past_blanks l.text.now
    → marks ((line_of l).text) ≡ marks l.content.now
content_marks l e = spaces_marks l.spaces l.text.now ∙ sym (past_marks l.text.now) ∙ ap marks (sym e)

past_head : (x : List ℕ) (c : ℕ) (t : List ℕ) → c ∷ t ≡ past_blanks x → is_space_or_tab c ≡ false
past_head [] c t e = absurd (cc)
past_head (d ∷ x) c t e =
    test (is_space_or_tab d)
    (λ f. let g : c ∷ t ≡ past_blanks x = e ∙ (rw f refl) in past_head x c t g)
    (λ f. let g : c ∷ t ≡ d ∷ x = e ∙ (rw f refl) in ap is_space_or_tab (ap (λ s. get_or s 0 0) g) ∙ f)

either_sign : (c : ℕ) → ((c == 42) || (c == 45)) ≡ true → sign c ≡ bullet_or_rule
either_sign c e =
    test (c == 42)
    (λ f. ap sign (eqb-true c 42 f))
    (λ f. let g : (c == 45) ≡ true = sym (ap (λ b. b || (c == 45)) f) ∙ e in ap sign (eqb-true c 45 g))

-- a content that begins with bullets
pub record Bullets (s : List ℕ) : Type 0 where
  pub filled : 0 < length s
  pub either : sign (get_or s 0 0) ≡ bullet_or_rule
  pub unruled : is_rule (get_or s 0 0) s ≡ false
  pub rest : marks (drop 1 s) ≡ drop 1 (marks s)

pub bullets : (n : ℕ) (s x : List ℕ) → s ≡ past_blanks x → is_mixed n (marks s) ≡ true → Bullets s
bullets n [] x e m = absurd (cc)
bullets n (c ∷ t) x e m =
    let black = past_head x c t e in
    let first : marks (c ∷ t) ≡ c ∷ marks t = rw black refl in
    let parts = and_parts ((c == 42) || (c == 45)) (other_behind c n (c ∷ marks t))
    (sym (ap (is_mixed n) first) ∙ m) in
    let all : list_all (is_same c) (marks (c ∷ t)) ≡ false =
    ap (list_all (is_same c)) first ∙ not_all c n (c ∷ marks t) parts.1 in
    record {
      filled = omega arith;
      either = either_sign c parts.0;
      unruled = rw all refl;
      rest = ap (drop 1) (sym first);
    }

-- behind a bullet and white space
pub marks_behind : (x : Line) → marks ((behind_padding (after_marker 1 x)).text) ≡ marks (drop 1 x.text)
marks_behind x = cut_marks (x.column + 1) (padding (after_marker 1 x)) (drop 1 x.text)

-- one bullet fewer
pub fewer_bullets : (n : ℕ) (m : List ℕ) → 1 < n → is_mixed n m ≡ true
    → is_mixed (n - 1) (drop 1 m) ≡ true
fewer_bullets n [] l e = absurd (cc)
fewer_bullets zero (c ∷ m) l e = absurd (omega (arith, l))
fewer_bullets (suc zero) (c ∷ m) l e = absurd (omega (arith, l))
fewer_bullets (suc (suc n)) (c ∷ []) l e =
    let h = and_parts ((c == 42) || (c == 45)) ((c == c) && false) e in
    let k = and_parts (c == c) false h.1 in absurd (cc)
fewer_bullets (suc (suc n)) (c ∷ d ∷ m) l e =
    let h = and_parts ((c == 42) || (c == 45)) (other_behind c (suc (suc n)) (c ∷ d ∷ m)) e in
    let k = and_parts (c == c) (other_behind c (suc n) (d ∷ m)) h.1 in
    let j = and_parts (d == c) (other_behind c n m) k.1 in
    let same : d ≡ c = eqb-true d c j.0 in
    let less : suc (suc n) - 1 ≡ suc n = omega arith in
    ap (λ i. is_mixed i (d ∷ m)) less
    ∙ ap (λ x. ((x == 42) || (x == 45)) && other_behind x (suc n) (d ∷ m)) same ∙ (rw (h.0, k.1) refl)

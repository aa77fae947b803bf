-- Where a comment ends.
use Rattle.std.proofs.Common.{◌≡◌, ℕ, ◌+◌, ◌<◌, ◌≤◌, true, false, List, [], ◌∷◌, length}
use Rattle.std.proofs.Common.{take, drop, get_or, codes, ⊎_elim, None, Some, refl, ap, sym, subst, ◌∙◌, arith}
use Rattle.std.proofs.lemmas.Bool.{and_parts, and_right, cases_eq}
use Rattle.std.proofs.lemmas.Bool.Decides.{nat_tests}
use Rattle.std.proofs.lemmas.List.{get_or-drop, length-drop, drop-drop}
use Rattle.std.proofs.lemmas.Str.{IsCharBoundary-before_ascii, IsCharBoundary-after_ascii}
use Rattle.std.specs.Prelude.{◌==◌, ◌&&◌}
use Rattle.std.specs.Str.{IsUtf8, IsCharBoundary}
use Rattle.htmd_lexical.proofs.Cases.{test}
use Rattle.htmd_lexical.specs.CharacterClasses.{begins_with, up_to, onward}
use Rattle.htmd_grammar.specs.Comments.{before_comment_end}
use Rattle.htmd_lexical.proofs.CharacterClassesLemmas.{take_up_to, drop_up_to, up_to-le-length, stops_at}

abbrev ends : List ℕ → List ℕ
ends s = up_to (begins_with (codes "-->")) s

-- the three characters of an end
three : (s : List ℕ) → begins_with (codes "-->") s ≡ true
    → (3 ≤ length s) × (get_or s 0 0 ≡ 45) × (get_or s 2 0 ≡ 62)
three [] e = absurd (cc)
three (b ∷ []) e = absurd (let q = rw (and_right (b == 45) false refl) at e in cc)
three (b ∷ c ∷ []) e = absurd (let q = and_parts (b == 45) ((c == 45) && false) e in
    let r = and_parts (c == 45) false q.1 in let f = r.1 in cc)
three (b ∷ c ∷ d ∷ s) e =
    let q = and_parts (b == 45) ((c == 45) && ((d == 62) && true)) e in
    let r = and_parts (c == 45) ((d == 62) && true) q.1 in
    let t = and_parts (d == 62) true r.1 in
    (omega arith, same b 45 q.0, same d 62 t.0)
  where
    same : (x y : ℕ) → (x == y) ≡ true → x ≡ y
    same x y h = grind (arith, nat_tests)

pub no_comment_end : (s : List ℕ) → length (ends s) ≡ length s → before_comment_end s ≡ None
no_comment_end [] e = refl
no_comment_end (b ∷ s) e =
    test (begins_with (codes "-->") (b ∷ s)) (λ q. let m = rw q at e in absurd (omega arith))
    (λ q. let m = rw q at e in rw (q, no_comment_end s (omega arith)) refl)

found : (s : List ℕ) → length (ends s) < length s
    → before_comment_end s ≡ Some (ends s, drop 3 (onward (begins_with (codes "-->")) s))
found [] l = absurd (omega arith)
found (b ∷ s) l = test (begins_with (codes "-->") (b ∷ s)) (λ q. rw q refl)
    (λ q. let m = rw q at l in rw (q, found s (omega arith)) refl)

pub comment_end : (s : List ℕ) (n : ℕ) → n ≡ length (ends s) → (n ≡ length s → ⊥)
    → before_comment_end s ≡ Some (take n s, drop (n + 3) s)
comment_end s n e k =
    let w = up_to-le-length (begins_with (codes "-->")) s in
    let f = found s (omega arith) in
    let t : take n s ≡ ends s = ap (λ m. take m s) e ∙ take_up_to (begins_with (codes "-->")) s in
    let d : drop (n + 3) s ≡ drop 3 (onward (begins_with (codes "-->")) s) =
    sym (drop-drop 3 n s) ∙ ap (λ m. drop 3 (drop m s)) e
    ∙ ap (drop 3) (drop_up_to (begins_with (codes "-->")) s) in
    rw (t, d) f

at_end : (s : List ℕ) (n : ℕ) → n ≡ length (ends s) → (n ≡ length s → ⊥)
    → (n + 3 ≤ length s) × (get_or s n 0 ≡ 45) × (get_or s (n + 2) 0 ≡ 62)
at_end s n e k =
    let w = up_to-le-length (begins_with (codes "-->")) s in
    let h = stops_at (begins_with (codes "-->")) s (omega arith) in
    let g : begins_with (codes "-->") (drop n s) ≡ true = ap (λ m. begins_with (codes "-->") (drop m s)) e ∙ h in
    let t = three (drop n s) g in
    let l = length-drop n s in
    let z : n + 0 ≡ n = omega arith in (
      omega (arith, t.0),
      ap (λ m. get_or s m 0) (sym z) ∙ sym (get_or-drop n s 0 0) ∙ t.1,
      sym (get_or-drop n s 2 0) ∙ t.2,
    )

-- the text may be cut before the end of a comment, and after it
pub cut_before : (s : List ℕ) (n : ℕ) → n ≡ length (ends s) → (n ≡ length s → ⊥) → IsCharBoundary s n
cut_before s n e k = let h = at_end s n e k in IsCharBoundary-before_ascii s n (omega (arith, h.0)) (omega (arith, h.1))

pub cut_behind : (s : List ℕ) (n : ℕ) → IsUtf8 s → n ≡ length (ends s) → (n ≡ length s → ⊥)
    → IsCharBoundary s (n + 3)
cut_behind s n u e k =
    let h = at_end s n e k in
    let q : n + 2 + 1 ≡ n + 3 = omega arith in
    subst (IsCharBoundary s) q (IsCharBoundary-after_ascii s (n + 2) u (omega (arith, h.0)) (omega (arith, h.2)))

abbrev Cut : Type 0
Cut = List ℕ × List ℕ

-- what follows a comment is no longer than what held it
pub comment_within : (s body rest : List ℕ) → Some (body, rest) ≡ before_comment_end s
    → length rest ≤ length s
comment_within s body rest e =
    ⊎_elim
    (λ q. absurd (let f : Some (body, rest) ≡ None = e ∙ no_comment_end s q in cc))
    (λ k. let f = e ∙ comment_end s (length (ends s)) refl k in
    let q : ◌≡◌ {A = Cut} (body, rest) (take (length (ends s)) s, drop (length (ends s) + 3) s) = cc in
    let r : rest ≡ drop (length (ends s) + 3) s = ap (λ (x : Cut). x.1) q in
    omega (arith, ap length r, length-drop (length (ends s) + 3) s))
    (cases_eq (length (ends s)) (length s))

-- the text may be cut after the dashes of a comment
pub dashes_cut : (s : List ℕ) → IsUtf8 s → begins_with (codes "--") s ≡ true → IsCharBoundary s 2
dashes_cut [] u e = absurd (cc)
dashes_cut (b ∷ []) u e = absurd (let q = rw (and_right (b == 45) false refl) at e in cc)
dashes_cut (b ∷ c ∷ s) u e =
    let q = and_parts (b == 45) ((c == 45) && true) e in
    let r = and_parts (c == 45) true q.1 in
    IsCharBoundary-after_ascii (b ∷ c ∷ s) 1 u (omega arith) (low c r.0)
  where
    low : (x : ℕ) → (x == 45) ≡ true → x < 128
    low x h = grind (arith, nat_tests)

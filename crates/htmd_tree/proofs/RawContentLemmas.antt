-- A script with a comment and a script in it.
use Rattle.std.proofs.Common.{◌≡◌, ℕ, ◌+◌, ◌-◌, ◌<◌, Bool, true, false, ◌&&◌, ◌||◌, List}
use Rattle.std.proofs.Common.{[], ◌∷◌, length, take, drop, get_or, codes, refl, ap, sym, subst, ◌∙◌, arith}
use Rattle.std.proofs.lemmas.Bool.{and_parts}
use Rattle.std.proofs.lemmas.Bool.Decides.{nat_tests}
use Rattle.std.proofs.lemmas.List.{drop_more, get_or-drop}
use Rattle.std.proofs.lemmas.Slice.{between_to_end}
use Rattle.std.specs.Prelude.{◌==◌}
use Rattle.std.specs.Str.{IsCharBoundary}
use Rattle.htmd_lexical.specs.CharacterClasses.{begins_with, begins_in_any_case, holds_in_any_case, up_to}
use Rattle.htmd_grammar.specs.RawContent.{has_script_escape}
use Rattle.htmd_lexical.specs.EndTags.{begins_own_end, goes_on_with_name}
use Rattle.htmd_lexical.proofs.CharacterClassesLemmas.{up_to-le-length, stops_at}

-- whether the rest has what is still to come
abbrev pub goes_on : Bool → List ℕ → Bool
goes_on escaped s = (escaped && holds_in_any_case (codes "<script") s) || has_script_escape s

absorbed : (x y z : Bool) → (x || ((y && x) || z)) ≡ (x || z)
absorbed true y z = refl
absorbed false true z = refl
absorbed false false z = refl

rest_of : (s : List ℕ) (i : ℕ) → take (length s - i) (drop i s) ≡ drop i s
rest_of s i = between_to_end s i (length s) (omega arith)

-- after `<!--`, where no `<script` stands here
pub script_later : (s : List ℕ) (i : ℕ) (r : Bool) → i < length s
    → r ≡ begins_in_any_case (codes "<script") (take (length s - i) (drop i s)) → r ≡ false
    → goes_on true (drop (i + 1) s) ≡ goes_on true (drop i s)
script_later s i r l e q =
    let d = drop_more s i 0 l in
    let no : begins_in_any_case (codes "<script") (get_or s i 0 ∷ drop (i + 1) s) ≡ false =
    ap (begins_in_any_case (codes "<script")) (sym d ∙ sym (rest_of s i)) ∙ sym e ∙ q in
    rw d (rw no (sym (absorbed (holds_in_any_case (codes "<script") (drop (i + 1) s))
    (begins_with (codes "<!--") (get_or s i 0 ∷ drop (i + 1) s)) (has_script_escape (drop (i + 1) s)))))

-- before `<!--`, or at it
pub escape_more : (s : List ℕ) (i : ℕ) (r : Bool) → i < length s
    → r ≡ begins_with (codes "<!--") (take (length s - i) (drop i s))
    → goes_on r (drop (i + 1) s) ≡ goes_on false (drop i s)
escape_more s i r l e =
    let d = drop_more s i 0 l in
    let here : begins_with (codes "<!--") (get_or s i 0 ∷ drop (i + 1) s) ≡ r =
    ap (begins_with (codes "<!--")) (sym d ∙ sym (rest_of s i)) ∙ sym e in
    rw d (rw here refl)

-- ---- where raw content ends

own_first : (n s : List ℕ) → begins_own_end n s ≡ true → get_or s 0 0 < 128
own_first n [] e = absurd (cc)
own_first n (b ∷ []) e = absurd (cc)
own_first n (b ∷ c ∷ s) e =
    let q = and_parts ((b == 60) && (c == 47)) (goes_on_with_name n s) e in
    low b (and_parts (b == 60) (c == 47) q.0).0
  where
    low : (x : ℕ) → (x == 60) ≡ true → x < 128
    low x h = grind (arith, nat_tests)

-- the text may be cut there
pub raw_cut : (n s : List ℕ) (len : ℕ) → len ≡ length (up_to (begins_own_end n) s) → IsCharBoundary s len
raw_cut n s len e = (
  omega (arith, up_to-le-length (begins_own_end n) s),
  λ l high.
      let g : begins_own_end n (drop len s) ≡ true =
      ap (λ m. begins_own_end n (drop m s)) e ∙ stops_at (begins_own_end n) s (omega arith) in
      let z : len + 0 ≡ len = omega arith in
      let low : get_or s len 0 < 128 =
      subst (λ v. v < 128) (get_or-drop len s 0 0 ∙ ap (λ m. get_or s m 0) z) (own_first n (drop len s) g) in
      absurd (omega arith),
)

-- References by number and by name.
use Rattle.std.proofs.Common.{◌≡◌, ◌⊎◌, ℕ, suc, ◌+◌, ◌-◌, ◌*◌, ◌<◌, ◌≤◌, min}
use Rattle.std.proofs.Common.{Bool, true, false, cond, List, [], ◌∷◌, length}
use Rattle.std.proofs.Common.{take, drop, get_or, map, codes, None, Some, Option, refl, ap, sym, ◌∙◌}
use Rattle.std.proofs.Common.{arith, inl, inr, lit<}
use Rattle.std.proofs.lemmas.Bool.{cases_lt}
use Rattle.std.proofs.lemmas.Bool.Decides.{nat_tests}
use Rattle.std.proofs.lemmas.List.{drop_more, drop-drop, get_or-drop, length-drop}
use Rattle.std.proofs.lemmas.Slice.{between_to_end}
use Rattle.std.proofs.lemmas.Str.{encode_ascii}
use Rattle.std.proofs.Math.Nat.{mul-le-mul_left}
use Rattle.std.specs.Borrow.{Bor}
use Rattle.std.specs.Char.{encode_utf8, is_ascii_alphanumeric, is_ascii_digit, IsScalar, InScalarRange}
use Rattle.std.specs.Char.{OutOfScalarRange}
use Rattle.std.specs.Option.{MatchOption, SomeIff}
use Rattle.std.specs.Prelude.{◌==◌, ◌&&◌, not}
use Rattle.std.specs.Str.{bytes_eq}
use Rattle.htmd_lexical.proofs.Cases.{test}
use Rattle.htmd_lexical.specs.CharacterClasses.{first_is, leading_run, behind_run, begins_in_any_case}
use Rattle.htmd_grammar.specs.References.{stands, wrong, may_be_numbered}
use Rattle.htmd_lexical.specs.Numbers.{number, digit_value, is_between}
use Rattle.htmd_grammar.specs.References.{numbered, named, number_at, behind_ampersand, behind_number_sign}
use Rattle.htmd_grammar.specs.Rules.{character_named, named_characters}
use Rattle.htmd_grammar.specs.declared.fault.FaultKind.TheVariants.{UnknownReference, BadNumber}
use Rattle.htmd_tree.specs.DecodedCharacters.{entry, IsPieceEnd}
use Rattle.htmd_lexical.proofs.NumbersLemmas.{limit}
use Rattle.htmd_lexical.proofs.CharacterClassesLemmas.{take_leading_run, drop_leading_run}

-- ---- the characters that a number may name

may_zero : (n : ℕ) → n ≡ 0 → may_be_numbered n ≡ false
unfolding may_be_numbered
may_zero n e = grind (arith, nat_tests)

may_control : (n : ℕ) → is_between 0x80 0x9F n ≡ true → may_be_numbered n ≡ false
unfolding may_be_numbered
may_control n e = grind (arith, nat_tests)

may_out : (n : ℕ) → OutOfScalarRange n → may_be_numbered n ≡ false
unfolding may_be_numbered
may_out n e = grind (arith, nat_tests)

may_in : (n : ℕ) → (n ≡ 0 → ⊥) → is_between 0x80 0x9F n ≡ false → InScalarRange n
    → may_be_numbered n ≡ true
unfolding may_be_numbered
may_in n z e i = grind (arith, nat_tests)

may_limit : (n : ℕ) → limit ≤ n → may_be_numbered n ≡ false
unfolding may_be_numbered
may_limit n l = grind (arith, nat_tests)

pub no_zero : (n : ℕ) → n ≡ 0 → None ≡ cond (may_be_numbered n) (Some n) None
no_zero n e = rw (may_zero n e) refl

pub no_control : (n : ℕ) → is_between 0x80 0x9F n ≡ true → None ≡ cond (may_be_numbered n) (Some n) None
no_control n e = rw (may_control n e) refl

pub scalar_numbered : (o : Option ℕ) (n : ℕ) → (n ≡ 0 → ⊥) → is_between 0x80 0x9F n ≡ false
    → MatchOption o (OutOfScalarRange n) (λ _. InScalarRange n) → SomeIff o (IsScalar n) n
    → o ≡ cond (may_be_numbered n) (Some n) None
scalar_numbered None n z e m v = rw (may_out n m) refl
scalar_numbered (Some x) n z e m v = rw (may_in n z e m) (ap Some v.1)

below_limit : (n : ℕ) → (min n limit ≡ n) ⊎ ((min n limit ≡ limit) × (limit ≤ n))
below_limit n = go (cases_lt n limit)
  where
    go : (n < limit) ⊎ (limit ≤ n) → (min n limit ≡ n) ⊎ ((min n limit ≡ limit) × (limit ≤ n))
    go (inl q) = inl (omega arith)
    go (inr q) = inr (omega arith, q)

none_numbered : (k n m : ℕ) → m ≡ min n limit → None ≡ cond (may_be_numbered m) (Some m) None
    → wrong BadNumber ≡ numbered k n
none_numbered k n m e q = go (below_limit n)
  where
    off : may_be_numbered m ≡ false
    off = test (may_be_numbered m) (λ t. absurd (let r = rw t at q in cc)) (λ t. t)

    go : (min n limit ≡ n) ⊎ ((min n limit ≡ limit) × (limit ≤ n)) → wrong BadNumber ≡ numbered k n
    go (inl r) = let f : may_be_numbered n ≡ false = ap may_be_numbered (sym (e ∙ r)) ∙ off in rw f refl
    go (inr r) = rw (may_limit n r.1) refl

some_numbered : (k n m v : ℕ) → m ≡ min n limit → Some v ≡ cond (may_be_numbered m) (Some m) None
    → stands k (encode_utf8 v) ≡ numbered k n
some_numbered k n m v e q = go (below_limit n)
  where
    on : may_be_numbered m ≡ true
    on = test (may_be_numbered m) (λ t. t) (λ t. absurd (let r = rw t at q in cc))

    same : v ≡ m
    same = let r = rw on at q in cc

    go : (min n limit ≡ n) ⊎ ((min n limit ≡ limit) × (limit ≤ n))
        → stands k (encode_utf8 v) ≡ numbered k n
    go (inl r) =
        let f : may_be_numbered n ≡ true = ap may_be_numbered (sym (e ∙ r)) ∙ on in
        rw f (ap (λ c. stands k (encode_utf8 c)) (same ∙ e ∙ r))
    go (inr r) = let f : may_be_numbered m ≡ false =
        ap may_be_numbered (e ∙ r.0) ∙ may_limit limit (omega arith) in
        let z = rw f at on in absurd (cc)

-- ---- what comes before `;`

ends_run : (p : ℕ → Bool) (s : List ℕ) → p 59 ≡ false → 0 < length (leading_run p s)
    → first_is 59 (behind_run p s) ≡ true → (first_is 59 (behind_run p s) && not (first_is 59 s)) ≡ true
ends_run p [] o l e = absurd (omega arith)
ends_run p (b ∷ s) o l e =
    test (p b) (λ q. rw e (let d = other q in rw d refl)) (λ q. let m = rw q at l in absurd (omega arith))
  where
    other : p b ≡ true → (b == 59) ≡ false
    other q = test (b == 59) (λ t. absurd (let k = same t in let w = rw k at q in cc)) (λ t. t)
      where
        same : (b == 59) ≡ true → b ≡ 59
        same t = grind (arith, nat_tests)

no_run : (p : ℕ → Bool) (s : List ℕ) → length (leading_run p s) ≡ 0
    → (first_is 59 (behind_run p s) && not (first_is 59 s)) ≡ false
no_run p [] e = refl
no_run p (b ∷ s) e = test (p b) (λ q. let m = rw q at e in absurd (omega arith)) (λ q. rw q (both (b == 59)))
  where
    both : (x : Bool) → (x && not x) ≡ false
    both true = refl
    both false = refl

tail_of : (p : ℕ → Bool) (s : List ℕ) (from len : ℕ) → len ≡ length (leading_run p (drop from s))
    → take (length s - (from + len)) (drop (from + len) s) ≡ behind_run p (drop from s)
tail_of p s from len e =
    between_to_end s (from + len) (length s) (omega arith) ∙ sym (drop-drop len from s)
    ∙ ap (λ n. drop n (drop from s)) e ∙ drop_leading_run p (drop from s)

front_of : (p : ℕ → Bool) (s : List ℕ) (from len : ℕ) → len ≡ length (leading_run p (drop from s))
    → take (from + len - from) (drop from s) ≡ leading_run p (drop from s)
front_of p s from len e =
    let q : from + len - from ≡ length (leading_run p (drop from s)) = omega arith in
    ap (λ n. take n (drop from s)) q ∙ take_leading_run p (drop from s)

-- ---- a reference by a number

module _ (p : ℕ → Bool) (base from len : ℕ) (s : List ℕ) (off : p 59 ≡ false)
    (run : len ≡ length (leading_run p (drop from s))) where
  pub number_empty : len ≡ 0 → wrong BadNumber ≡ number_at p base from (drop from s)
  number_empty z = let q = no_run p (drop from s) (sym run ∙ z) in rw q refl

  pub number_open : first_is 59 (take (length s - (from + len)) (drop (from + len) s)) ≡ false
      → wrong BadNumber ≡ number_at p base from (drop from s)
  number_open z =
      let q : first_is 59 (behind_run p (drop from s)) ≡ false = ap (first_is 59) (sym (tail_of p s from len run))
      ∙ z in
      rw q refl

  closed : (len ≡ 0 → ⊥) → first_is 59 (take (length s - (from + len)) (drop (from + len) s)) ≡ true
      → number_at p base from (drop from s)
      ≡ numbered (from + len + 1) (number base 0 (take (from + len - from) (drop from s)))
  closed z e =
      let q : first_is 59 (behind_run p (drop from s)) ≡ true = ap (first_is 59) (sym (tail_of p s from len run))
      ∙ e in
      let r = ends_run p (drop from s) off (omega arith) q in
      let k : suc (from + length (leading_run p (drop from s))) ≡ from + len + 1 = omega arith in
      rw r (ap (λ n. numbered n (number base 0 (leading_run p (drop from s)))) k
      ∙ ap (λ x. numbered (from + len + 1) (number base 0 x)) (sym (front_of p s from len run)))

  pub number_none : (n : ℕ) → (len ≡ 0 → ⊥)
      → first_is 59 (take (length s - (from + len)) (drop (from + len) s)) ≡ true
      → n ≡ min (number base 0 (take (from + len - from) (drop from s))) limit
      → None ≡ cond (may_be_numbered n) (Some n) None → wrong BadNumber ≡ number_at p base from (drop from s)
  number_none n z e m o =
      none_numbered (from + len + 1) (number base 0 (take (from + len - from) (drop from s))) n m o ∙ sym (closed z e)

  pub number_some : (n v : ℕ) → (len ≡ 0 → ⊥)
      → first_is 59 (take (length s - (from + len)) (drop (from + len) s)) ≡ true
      → n ≡ min (number base 0 (take (from + len - from) (drop from s))) limit
      → Some v ≡ cond (may_be_numbered n) (Some n) None
      → stands (from + len + 1) (encode_utf8 v) ≡ number_at p base from (drop from s)
  number_some n v z e m o =
      some_numbered (from + len + 1) (number base 0 (take (from + len - from) (drop from s))) n v m o
      ∙ sym (closed z e)

-- ---- a reference by a name

-- one more name that it isn't
pub name_more : (names : List (Bor (List ℕ) × ℕ)) (n : List ℕ) (i : ℕ) (d : Bor (List ℕ) × ℕ)
    → i < length names
    → bytes_eq n (get_or names i d).0.now ≡ false
    → character_named (map entry (drop i names)) n ≡ character_named (map entry (drop (i + 1) names)) n
name_more names n i d l e = rw (drop_more names i d l) (rw e refl)

pub name_found : (names : List (Bor (List ℕ) × ℕ)) (n : List ℕ) (i : ℕ) (d : Bor (List ℕ) × ℕ)
    → i < length names
    → bytes_eq n (get_or names i d).0.now ≡ true
    → character_named (map entry (drop i names)) n ≡ Some (get_or names i d).1
name_found names n i d l e = rw (drop_more names i d l) (rw e refl)

head_is : (s : List ℕ) → first_is 59 s ≡ true → (0 < length s) × (get_or s 0 0 ≡ 59)
head_is [] e = absurd (cc)
head_is (b ∷ s) e = (omega arith, same b e)
  where
    same : (x : ℕ) → (x == 59) ≡ true → x ≡ 59
    same x h = grind (arith, nat_tests)

-- a piece may end after `;`
pub behind_semicolon : (s : List ℕ) (n : ℕ) → n ≤ length s
    → first_is 59 (take (length s - n) (drop n s)) ≡ true
    → IsPieceEnd s (n + 1)
behind_semicolon s n l e =
    let h = head_is (drop n s) (ap (first_is 59) (sym (between_to_end s n (length s) (omega arith))) ∙ e) in
    let k = length-drop n s in
    let at : get_or s (n + 1 - 1) 0 ≡ 59 =
    ap (λ m. get_or s m 0) (omega arith) ∙ sym (get_or-drop n s 0 0) ∙ h.1 in
    (omega (arith, h.0), λ _. omega (arith, at))

module _ (len : ℕ) (s : List ℕ) (no_number : first_is 35 s ≡ false)
    (run : len ≡ length (leading_run is_ascii_alphanumeric s)) where
  tail_here : take (length s - len) (drop len s) ≡ behind_run is_ascii_alphanumeric s
  tail_here =
      between_to_end s len (length s) (omega arith) ∙ ap (λ n. drop n s) run
      ∙ drop_leading_run is_ascii_alphanumeric s

  pub name_empty : len ≡ 0 → stands 0 (encode_utf8 38) ≡ behind_ampersand named_characters s
  name_empty z =
      let q = no_run is_ascii_alphanumeric s (sym run ∙ z) in
      rw (no_number, q) (ap (stands 0) (encode_ascii 38 (lit< tt)))

  pub name_open : first_is 59 (take (length s - len) (drop len s)) ≡ false
      → stands 0 (encode_utf8 38) ≡ behind_ampersand named_characters s
  name_open z =
      let q : first_is 59 (behind_run is_ascii_alphanumeric s) ≡ false = ap (first_is 59) (sym tail_here) ∙ z in
      rw (no_number, q) (ap (stands 0) (encode_ascii 38 (lit< tt)))

  closed_name : (len ≡ 0 → ⊥) → first_is 59 (take (length s - len) (drop len s)) ≡ true
      → behind_ampersand named_characters s ≡ named (len + 1) (character_named named_characters (take len s))
  closed_name z e =
      let q : first_is 59 (behind_run is_ascii_alphanumeric s) ≡ true = ap (first_is 59) (sym tail_here) ∙ e in
      let r = ends_run is_ascii_alphanumeric s refl (omega arith) q in
      let k : suc (length (leading_run is_ascii_alphanumeric s)) ≡ len + 1 = omega arith in
      let t : take len s ≡ leading_run is_ascii_alphanumeric s =
      ap (λ n. take n s) run ∙ take_leading_run is_ascii_alphanumeric s in
      rw (no_number, r)
      (ap (λ n. named n (character_named named_characters (leading_run is_ascii_alphanumeric s))) k
      ∙ ap (λ x. named (len + 1) (character_named named_characters x)) (sym t))

  pub name_none : (len ≡ 0 → ⊥) → first_is 59 (take (length s - len) (drop len s)) ≡ true
      → None ≡ character_named named_characters (take len s)
      → wrong UnknownReference ≡ behind_ampersand named_characters s
  name_none z e o = ap (named (len + 1)) o ∙ sym (closed_name z e)

  pub name_some : (v : ℕ) → (len ≡ 0 → ⊥) → first_is 59 (take (length s - len) (drop len s)) ≡ true
      → Some v ≡ character_named named_characters (take len s)
      → stands (len + 1) (encode_utf8 v) ≡ behind_ampersand named_characters s
  name_some v z e o = ap (named (len + 1)) o ∙ sym (closed_name z e)

-- after `&#` and no `x`
pub decimal : (s : List ℕ) → first_is 35 s ≡ true
    → begins_in_any_case (codes "x") (take (length s - 1) (drop 1 s)) ≡ false
    → number_at is_ascii_digit 10 1 (drop 1 s) ≡ behind_ampersand named_characters s
decimal [] e o = absurd (cc)
decimal (b ∷ s) e o =
    let q : begins_in_any_case (codes "x") s ≡ false =
    ap (begins_in_any_case (codes "x")) (sym (between_to_end (b ∷ s) 1 (length (b ∷ s)) (omega arith))) ∙ o in
    rw e (go s q)
  where
    go : (t : List ℕ) → begins_in_any_case (codes "x") t ≡ false
        → number_at is_ascii_digit 10 1 t ≡ behind_number_sign t
    go [] f = refl
    go (c ∷ t) f = rw f refl

-- the digits there
pub decimal_run : (s : List ℕ) (n : ℕ)
    → n ≡ length (leading_run is_ascii_digit (take (length s - 1) (drop 1 s)))
    → n ≡ length (leading_run is_ascii_digit (drop 1 s))
decimal_run s n e = e ∙ ap (λ x. length (leading_run is_ascii_digit x)) (between_to_end s 1 (length s) (omega arith))

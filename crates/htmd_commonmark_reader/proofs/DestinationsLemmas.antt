-- What is left behind bare destinations.
use Rattle.std.proofs.Common.{◌≡◌, ◌∙◌, ℕ, zero, suc, ◌+◌, ◌-◌, ◌<◌, ◌≤◌, Bool, true, false, ◌&&◌, ◌||◌, List, []}
use Rattle.std.proofs.Common.{◌∷◌, length, drop, get_or, cond, pred, refl, ap, sym, subst, arith, inl, inr}
use Rattle.std.proofs.Common.{Option, Some, None}
use Rattle.std.specs.Prelude.{◌==◌, nat_le}
use Rattle.std.proofs.lemmas.Bool.{eqb-true}
use Rattle.std.proofs.lemmas.Bool.Decides.{nat_tests}
use Rattle.std.proofs.lemmas.List.{length-append, length-drop, get_or_append_left, drop-drop, drop_all}
use Rattle.std.proofs.Math.Seq.{get_or-append_seam}
use Rattle.htmd_lexical.proofs.Cases.{test}
use Rattle.htmd_lexical.specs.CharacterClasses.{first_is, leading_run}
use Rattle.htmd_lexical.proofs.RunsLemmas.{drop_run}
use Rattle.htmd_commonmark_reading.specs.Characters.{Front, before_in_front, begins_with_punctuation}
use Rattle.htmd_commonmark_reading.specs.Characters.{is_white}
use Rattle.htmd_commonmark_reading.specs.LinkDefinitions.{bare, closed_bare, ends_bare, open_after, destination}
use Rattle.htmd_commonmark_reading.specs.LinkDefinitions.{unless_front_is_empty, past_white}
use Rattle.htmd_commonmark_reader.specs.Destinations.{left_in, left_of, lefts_of, AreKnown}
use Rattle.htmd_commonmark_reader.specs.Steps.{IsEnd}
use Rattle.htmd_commonmark_reader.proofs.RestsLemmas.{IsAtEnd, bare_end, rest_by_length, then}

-- ---- one more parenthesis is open

left_before_in : (c : ℕ) (o : Option Front) → left_in (before_in_front c o) ≡ left_in o
left_before_in c None = refl
left_before_in c (Some f) = refl

-- what is left once the parenthesis is closed
abbrev closed : Option Front → Option ℕ
closed None = None
closed (Some f) = cond (first_is 41 f.rest) (left_of (drop 1 f.rest)) None

closed_before : (c : ℕ) (o : Option Front) → closed (before_in_front c o) ≡ closed o
closed_before c None = refl
closed_before c (Some f) = refl

-- the bytes that end each bare destination
abbrev is_edge : ℕ → Bool
is_edge c = nat_le c 32 || (c == 0x7F)

never_zero : (k : ℕ) → (suc k == 0) ≡ false
never_zero k = grind (arith, nat_tests)

edge_is_no_parenthesis : (c : ℕ) → is_edge c ≡ true → (c == 41) ≡ false
edge_is_no_parenthesis c e = grind (arith, nat_tests)

one_open : (k : ℕ) (c : ℕ) (s : List ℕ) → closed_bare (suc k) (c ∷ s) ≡ None
one_open k c s = rw (never_zero k) refl

closed_edge : (k c : ℕ) (s : List ℕ) → is_edge c ≡ true → closed (closed_bare k (c ∷ s)) ≡ None
closed_edge k c s e =
    test (k == 0) (λ z. rw (z, edge_is_no_parenthesis c e) refl) (λ z. rw z refl)

opens_more : (k c : ℕ) → ((c == 41) && (k == 0)) ≡ false → open_after (suc k) c ≡ suc (open_after k c)
opens_more k c e =
    test (c == 40) (λ p. rw p refl)
    (λ p. test (c == 41)
    (λ q. let z : (k == 0) ≡ false = rw q at e in rw (p, q) (pred_more k z))
    (λ q. rw (p, q) refl))
  where
    pred_more : (k : ℕ) → (k == 0) ≡ false → pred (suc k) ≡ suc (pred k)
    pred_more zero z = absurd (cc)
    pred_more (suc k) z = refl

and_false : (b : Bool) → (b && false) ≡ false
and_false true = refl
and_false false = refl

first_closes : (s : List ℕ) → left_in (bare 1 false (41 ∷ s)) ≡ closed (bare 0 false (41 ∷ s))
first_closes s = left_before_in 41 (bare 0 false s)

both : (k c : ℕ) → ((c == 41) && (k == 0)) ≡ true → (c ≡ 41) × (k ≡ 0)
both k c e =
    test (c == 41)
    (λ p. let f : (k == 0) ≡ true = rw p at e in (eqb-true c 41 p, eqb-true k 0 f))
    (λ p. let f = rw p at e in absurd (cc))

at_parenthesis : (k c : ℕ) (s : List ℕ) → ((c == 41) && (k == 0)) ≡ true
    → left_in (bare (suc k) false (c ∷ s)) ≡ closed (bare k false (c ∷ s))
at_parenthesis k c s q =
    let is = both k c q in
    subst (λ j. left_in (bare (suc j) false (c ∷ s)) ≡ closed (bare j false (c ∷ s))) (sym is.1)
    (subst (λ d. left_in (bare 1 false (d ∷ s)) ≡ closed (bare 0 false (d ∷ s))) (sym is.0) (first_closes s))

shifted : (k : ℕ) (e : Bool) (s : List ℕ) → left_in (bare (suc k) e s) ≡ closed (bare k e s)
shifted k e [] =
    test (k == 0) (λ z. rw (never_zero k, z) refl) (λ z. rw (never_zero k, z) refl)
shifted k true (c ∷ s) =
    left_before_in c (bare (suc k) false s) ∙ shifted k false s ∙ sym (closed_before c (bare k false s))
shifted k false (c ∷ s) =
    test (is_edge c)
    (λ w. rw w (ap left_in (one_open k c s) ∙ sym (closed_edge k c s w)))
    (λ w.
    test ((c == 41) && (k == 0))
    (λ q. at_parenthesis k c s q)
    (λ q.
    let f = (c == 92) && begins_with_punctuation s in
    let none : ((c == 41) && (suc k == 0)) ≡ false =
    ap (λ b. (c == 41) && b) (never_zero k) ∙ and_false (c == 41) in
    rw (w, q, none)
    (left_before_in c (bare (open_after (suc k) c) f s) ∙ ap (λ j. left_in (bare j f s)) (opens_more k c q)
    ∙ shifted (open_after k c) f s ∙ sym (closed_before c (bare (open_after k c) f s)))))

-- ---- by the first byte

pub left_ends : (c : ℕ) (s : List ℕ) → ends_bare 0 c ≡ true → Some (suc (length s)) ≡ left_of (c ∷ s)
left_ends c s e = rw e refl

none_opens : (c : ℕ) → (c == 40) ≡ false → open_after 0 c ≡ 0
none_opens c p = test (c == 41) (λ q. rw (p, q) refl) (λ q. rw (p, q) refl)

pub left_stays : (c : ℕ) (s : List ℕ) → ends_bare 0 c ≡ false → (c == 40) ≡ false
    → ((c == 92) && begins_with_punctuation s) ≡ false → left_of s ≡ left_of (c ∷ s)
left_stays c s e p f =
    sym (rw (e, f) (left_before_in c (bare (open_after 0 c) false s)
    ∙ ap (λ j. left_in (bare j false s)) (none_opens c p)))

pub left_escapes : (c : ℕ) (s : List ℕ) → ((c == 92) && begins_with_punctuation s) ≡ true
    → left_of (drop 1 s) ≡ left_of (c ∷ s)
left_escapes c [] e = let g = and_false (c == 92) in absurd (cc)
left_escapes c (d ∷ s) e =
    test (c == 92)
    (λ p.
    let f : begins_with_punctuation (d ∷ s) ≡ true = rw p at e in
    subst (λ x. left_of s ≡ left_of (x ∷ d ∷ s)) (sym (eqb-true c 92 p))
    (sym (rw f (left_before_in 92 (bare 0 true (d ∷ s)) ∙ left_before_in d (bare 0 false s)))))
    (λ p. let f = rw p at e in absurd (cc))

left_parentheses : (s : List ℕ) → left_of (40 ∷ s) ≡ closed (bare 0 false s)
left_parentheses s = left_before_in 40 (bare 1 false s) ∙ shifted 0 false s

pub never_closed : (s : List ℕ) → left_of s ≡ None → None ≡ left_of (40 ∷ s)
never_closed s e = sym (left_parentheses s ∙ go (bare 0 false s) e)
  where
    go : (o : Option Front) → left_in o ≡ None → closed o ≡ None
    go None e = refl
    go (Some f) e = absurd (cc)

pub left_closed : (s : List ℕ) (n : ℕ) → left_of s ≡ Some n
    → cond (first_is 41 (drop (length s - n) s)) (left_of (drop 1 (drop (length s - n) s))) None
    ≡ left_of (40 ∷ s)
left_closed s n e = sym (left_parentheses s ∙ go (bare 0 false s) (bare_end 0 false s) e)
  where
    go : (o : Option Front) → IsAtEnd s o → left_in o ≡ Some n
        → closed o ≡ cond (first_is 41 (drop (length s - n) s)) (left_of (drop 1 (drop (length s - n) s))) None
    go None h f = absurd (cc)
    go (Some g) h f =
        let size : length g.rest ≡ n = cc in
        let is : g.rest ≡ drop (length s - n) s =
        (rest_by_length s g.rest (h g refl)).1 ∙ ap (λ k. drop (length s - k) s) size in
        ap (λ r. cond (first_is 41 r) (left_of (drop 1 r)) None) is

-- ---- the table

pub lefts_size : (s : List ℕ) → length (lefts_of s) ≡ suc (length s)
lefts_size [] = refl
lefts_size (c ∷ s) = omega (arith, lefts_size s, length-append (lefts_of s) (left_of (c ∷ s) ∷ []))

pub left_at : (s : List ℕ) (n : ℕ) (d : Option ℕ)
    → get_or (lefts_of s) (length (drop n s)) d ≡ left_of (drop n s)
left_at [] zero d = refl
left_at [] (suc n) d = refl
left_at (c ∷ s) zero d =
    ap (λ k. get_or (lefts_of (c ∷ s)) k d) (sym (lefts_size s))
    ∙ get_or-append_seam (lefts_of s) (left_of (c ∷ s)) [] d
left_at (c ∷ s) (suc n) d =
    get_or_append_left (lefts_of s) (left_of (c ∷ s) ∷ []) d (length (drop n s))
    (omega (arith, lefts_size s, length-drop n s)) ∙ left_at s n d

pub left_at_end : (s e : List ℕ) (d : Option ℕ) → IsEnd s e → get_or (lefts_of s) (length e) d ≡ left_of e
left_at_end s e d h =
    ap (λ x. get_or (lefts_of s) (length x) d) h.1 ∙ left_at s h.0 d ∙ ap left_of (sym h.1)

pub left_when : (s : List ℕ) (ls : List (Option ℕ)) (n : ℕ) (d : Option ℕ) → ls ≡ lefts_of s
    → n ≤ length s → get_or ls n d ≡ left_of (drop (length s - n) s)
left_when s ls n d e l =
    let size : length (drop (length s - n) s) ≡ n = omega (arith, length-drop (length s - n) s) in
    ap (λ x. get_or x n d) e ∙ ap (λ k. get_or (lefts_of s) k d) (sym size) ∙ left_at s (length s - n) d

pub bounded : (s : List ℕ) (ls : List (Option ℕ)) (n : ℕ) → ls ≡ lefts_of s → n ≤ length s
    → n < length ls
bounded s ls n e l = omega (arith, ap length e, lefts_size s)

pub all_left : (s : List ℕ) → left_of (drop (length s - length s) s) ≡ left_of s
all_left s = ap (λ k. left_of (drop k s)) (none s)
  where
    none : (s : List ℕ) → length s - length s ≡ 0
    none s = omega arith

pub left_within : (s : List ℕ) (n : ℕ) → left_of s ≡ Some n → n ≤ length s
left_within s n e = go (bare 0 false s) (bare_end 0 false s) e
  where
    go : (o : Option Front) → IsAtEnd s o → left_in o ≡ Some n → n ≤ length s
    go None h f = absurd (cc)
    go (Some g) h f =
        let size : length g.rest ≡ n = cc in
        let within = (rest_by_length s g.rest (h g refl)).0 in
        omega (arith, size, within)

pub some_left : (s : List ℕ) (n : ℕ) → first_is 41 (drop (length s - n) s) ≡ true → n ≤ length s → 0 < n
some_left s zero f l =
    let e : drop (length s - 0) s ≡ [] = drop_all (length s - 0) s (omega arith) in
    let g = ap (first_is 41) e in absurd (cc)
some_left s (suc n) f l = omega arith

pub open_none : (s : List ℕ) (n : ℕ) → left_of s ≡ Some n → first_is 41 (drop (length s - n) s) ≡ false
    → None ≡ left_of (40 ∷ s)
open_none s n e f =
    sym (ap (λ b. cond b (left_of (drop 1 (drop (length s - n) s))) None) f) ∙ left_closed s n e

pub open_some : (s : List ℕ) (n : ℕ) → left_of s ≡ Some n → first_is 41 (drop (length s - n) s) ≡ true
    → left_of (drop (length s - (n - 1)) s) ≡ left_of (40 ∷ s)
open_some s n e f =
    let some = some_left s n f (left_within s n e) in
    let within = left_within s n e in
    let k : length s - n + 1 ≡ length s - (n - 1) = omega (arith, some, within) in
    sym (ap left_of (drop-drop 1 (length s - n) s ∙ ap (λ j. drop j s) k))
    ∙ sym (ap (λ b. cond b (left_of (drop 1 (drop (length s - n) s))) None) f) ∙ left_closed s n e

pub next_left : (s : List ℕ) → 0 < length s → left_of (drop (length s - (length s - 1)) s) ≡ left_of (drop 1 s)
next_left s l =
    let k : length s - (length s - 1) ≡ 1 = omega arith in
    ap (λ j. left_of (drop j s)) k

pub some_escaped : (c : ℕ) (s : List ℕ) → ((c == 92) && begins_with_punctuation s) ≡ true → 0 < length s
some_escaped c [] e = let g = and_false (c == 92) in absurd (cc)
some_escaped c (d ∷ s) e = omega arith

-- ---- no destination

nothing_left : (o : Option Front) → left_in o ≡ None → o ≡ None
nothing_left None e = refl
nothing_left (Some f) e = absurd (cc)

pub no_destination : (s : List ℕ) → first_is 60 s ≡ false → left_of s ≡ None → None ≡ destination s
no_destination [] f e = refl
no_destination (c ∷ s) f e =
    let none : bare 0 false (c ∷ s) ≡ None = nothing_left (bare 0 false (c ∷ s)) e in
    sym (rw f (ap unless_front_is_empty none))

pub known_missing : (known : List (Option ℕ)) (s : List ℕ) (d : Option ℕ) → AreKnown known s
    → length s < length known → get_or known (length s) d ≡ None → left_of s ≡ None
known_missing known s d (inl e) l n = absurd (omega (arith, ap length e))
known_missing known s d (inr (t, h, e)) l n =
    sym (ap (λ k. get_or k (length s) d) e ∙ left_at_end t s d h) ∙ n

pub known_behind : (known : List (Option ℕ)) (s e : List ℕ) → IsEnd s e → AreKnown known s → AreKnown known e
known_behind known s e h (inl k) = inl k
known_behind known s e h (inr (t, k, l)) = inr (t, then t s e k h, l)

pub known_past_white : (known : List (Option ℕ)) (s r : List ℕ) → r ≡ past_white s → AreKnown known s
    → AreKnown known r
known_past_white known s r e k =
    known_behind known s r (length (leading_run is_white s), e ∙ sym (drop_run is_white s)) k

-- behind a character
pub known_next : (known : List (Option ℕ)) (here next : List ℕ) → AreKnown known (drop 1 here) → IsEnd here next
    → length next < length here → AreKnown known next
known_next known [] next k h l = absurd (omega arith)
known_next known (c ∷ s) next k h l = known_behind known s next (end_of c s next h l) k
  where
    end_of : (c : ℕ) (s next : List ℕ) → IsEnd (c ∷ s) next → length next < length (c ∷ s) → IsEnd s next
    end_of c s next (zero, e) l = absurd (omega (arith, ap length e))
    end_of c s next (suc n, e) l = (n, e)

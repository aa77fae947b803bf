-- A piece looks no further than the next `<`, and holds none.
use Rattle.std.proofs.Common.{Bool, List, None, Option, Some, [], ap, append_assoc, arith, codes, drop, false, inl, inr}
use Rattle.std.proofs.Common.{length, length-append, not, refl, subst, suc, sym, take, true, zero, ℕ, ◌&&◌, ◌++◌, ◌+◌}
use Rattle.std.proofs.Common.{◌∙◌, ◌∷◌, ◌≡◌}
use Rattle.std.proofs.lemmas.Bool.Decides.{nat_tests}
use Rattle.std.specs.Char.{is_ascii_alphanumeric, is_ascii_digit, is_ascii_hexdigit, to_ascii_lowercase}
use Rattle.std.specs.Prelude.{◌==◌}
use Rattle.std.proofs.lemmas.Bool.{not-true, and_parts, eqb-true}
use Rattle.htmd_lexical.specs.CharacterClasses.{begins_in_any_case, behind_run, first_is, lacks, leading_run}
use Rattle.htmd_grammar.specs.References.{Names, Piece, behind, behind_ampersand, behind_number_sign, decode}
use Rattle.htmd_grammar.specs.References.{may_be_numbered, named, number_at, numbered, piece_at, put, stands}
use Rattle.htmd_lexical.specs.Numbers.{number}
use Rattle.htmd_grammar.specs.References.{wrong}
use Rattle.htmd_grammar.specs.Rules.{character_named}
use Rattle.htmd_grammar.specs.ReaderSteps.{has_unknown_reference, is_unknown}
use Rattle.htmd_lexical.proofs.BooleanLemmas.{if_then, lacks-append}
use Rattle.htmd_lexical.proofs.LeadingRunsLemmas.{back_split}
use Rattle.htmd_grammar.proofs.TagSpellingLemmas.{at_head}
use Rattle.htmd_lexical.proofs.Cases.{test}

-- what is in no piece after its first byte
pub record IsBound (c : ℕ) : Type 0 where
  no_letter : is_ascii_alphanumeric c ≡ false
  no_digit : is_ascii_digit c ≡ false
  no_hexdigit : is_ascii_hexdigit c ≡ false
  no_x : (to_ascii_lowercase c == 120) ≡ false
  no_semicolon : (c == 59) ≡ false
  no_sharp : (c == 35) ≡ false
  no_line_feed : (c == 10) ≡ false

pub less_bounds : IsBound 60
less_bounds = record {
  no_letter = refl;
  no_digit = refl;
  no_hexdigit = refl;
  no_x = refl;
  no_semicolon = refl;
  no_sharp = refl;
  no_line_feed = refl;
}

pub and_bounds : IsBound 38
and_bounds = record {
  no_letter = refl;
  no_digit = refl;
  no_hexdigit = refl;
  no_x = refl;
  no_semicolon = refl;
  no_sharp = refl;
  no_line_feed = refl;
}

module _ (c : ℕ) (k : IsBound c) where
  front_over : (p : ℕ → Bool) (s t : List ℕ) → p c ≡ false
      → leading_run p (s ++ (c ∷ t)) ≡ leading_run p s
  front_over p [] t e = rw e refl
  front_over p (b ∷ s) t e = rw (front_over p s t e) refl

  back_over : (p : ℕ → Bool) (s t : List ℕ) → p c ≡ false
      → first_is 59 (behind_run p (s ++ (c ∷ t))) ≡ first_is 59 (behind_run p s)
  back_over p [] t e = rw (e, k.no_semicolon) refl
  back_over p (b ∷ s) t e = test (p b) (λ q. rw q (back_over p s t e)) (λ q. rw q refl)

  semicolon_over : (s t : List ℕ) → first_is 59 (s ++ (c ∷ t)) ≡ first_is 59 s
  semicolon_over [] t = k.no_semicolon
  semicolon_over (b ∷ s) t = refl

  number_over : (p : ℕ → Bool) (base n : ℕ) (s t : List ℕ) → p c ≡ false
      → number_at p base n (s ++ (c ∷ t)) ≡ number_at p base n s
  number_over p base n s t e = rw (front_over p s t e, back_over p s t e, semicolon_over s t) refl

  sharp_over : (s t : List ℕ) → behind_number_sign (s ++ (c ∷ t)) ≡ behind_number_sign s
  sharp_over [] t = rw (k.no_x, k.no_digit, k.no_semicolon) refl
  sharp_over (b ∷ s) t =
      rw (number_over is_ascii_hexdigit 16 2 s t k.no_hexdigit, number_over is_ascii_digit 10 1 (b ∷ s) t k.no_digit)
      refl

  and_over : (names : Names) (s t : List ℕ) → behind_ampersand names (s ++ (c ∷ t)) ≡ behind_ampersand names s
  and_over names [] t = rw (k.no_sharp, k.no_letter, k.no_semicolon) refl
  and_over names (b ∷ s) t = rw (
    sharp_over s t,
    front_over is_ascii_alphanumeric (b ∷ s) t k.no_letter,
    back_over is_ascii_alphanumeric (b ∷ s) t k.no_letter,
  ) refl

  pub piece_bound : (names : Names) (b : ℕ) (s t : List ℕ)
      → piece_at names b (s ++ (c ∷ t)) ≡ piece_at names b s
  piece_bound names b [] t = rw (and_over names [] t, k.no_line_feed) refl
  piece_bound names b (d ∷ s) t = rw (and_over names (d ∷ s) t) refl

pub piece_over : (names : Names) (b : ℕ) (s t : List ℕ)
    → piece_at names b (s ++ (60 ∷ t)) ≡ piece_at names b s
piece_over names b s t = piece_bound 60 less_bounds names b s t

pub stands_same : (n m : ℕ) (v w : List ℕ) → stands n v ≡ stands m w → (n ≡ m) × (v ≡ w)
stands_same n m v w e = (cc, cc)

-- the bytes of the piece after its first one
abbrev pub Fits : ℕ → List ℕ → Type 0
Fits n s = (w r : List ℕ) × (s ≡ w ++ r) × (length w ≡ n) × (lacks 60 w ≡ true) × (lacks 38 w ≡ true)

none_fits : (s : List ℕ) → Fits 0 s
none_fits s = ([], s, refl, refl, refl, refl)

lacks_front : (c : ℕ) (p : ℕ → Bool) (s : List ℕ) → p c ≡ false → lacks c (leading_run p s) ≡ true
lacks_front c p [] e = refl
lacks_front c p (b ∷ s) e = test (p b) (λ q. rw q (rw (other q, lacks_front c p s e) refl)) (λ q. rw q refl)
  where
    other : p b ≡ true → (b == c) ≡ false
    other q = test (b == c) (λ t. absurd (let k = eqb-true b c t in let w = rw k at q in cc)) (λ t. t)

fits_ended : (p : ℕ → Bool) (s : List ℕ) → p 60 ≡ false → p 38 ≡ false
    → first_is 59 (behind_run p s) ≡ true
    → Fits (suc (length (leading_run p s))) s
fits_ended p s e g a =
    let h = at_head 59 (behind_run p s) a in
    let k = length-append (leading_run p s) (59 ∷ []) in (
      leading_run p s ++ 59 ∷ [],
      drop 1 (behind_run p s),
      back_split p s ∙ (ap (λ (y : List ℕ). leading_run p s ++ y) h
          ∙ sym (Rattle.std.proofs.Common.append_assoc (leading_run p s) (59 ∷ []) (drop 1 (behind_run p s)))),
      (omega arith),
      lacks-append 60 (leading_run p s) (59 ∷ []) (lacks_front 60 p s e) refl,
      lacks-append 38 (leading_run p s) (59 ∷ []) (lacks_front 38 p s g) refl,
    )

fits_more : (b n m : ℕ) (s : List ℕ) → (b == 60) ≡ false → (b == 38) ≡ false → Fits n s → suc n ≡ m
    → Fits m (b ∷ s)
fits_more b n m s e g f q = (
  b ∷ f.0,
  f.1,
  ap (λ (y : List ℕ). b ∷ y) f.2,
  (let k = f.3 in omega arith),
  rw (e, f.4) refl,
  rw (g, f.5) refl,
)

number_fits : (p : ℕ → Bool) (base k m : ℕ) (s v : List ℕ) → p 60 ≡ false → p 38 ≡ false
    → number_at p base k s ≡ stands m v → Fits (suc (length (leading_run p s))) s
    × (m ≡ suc (k + length (leading_run p s)))
number_fits p base k m s v e g h =
    elim (if_then (first_is 59 (behind_run p s) && not (first_is 59 s))
    (numbered (suc (k + length (leading_run p s))) (number base 0 (leading_run p s))) _ (stands m v) h) [
      | inl w ↦ elim (if_then (may_be_numbered (number base 0 (leading_run p s)))
          (stands (suc (k + length (leading_run p s))) _) _ (stands m v) w.1) [
            | inl u ↦ (
              fits_ended p s e g (and_parts (first_is 59 (behind_run p s)) (not (first_is 59 s)) w.0).0,
              sym (stands_same (suc (k + length (leading_run p s))) m _ v u.1).0,
            )
            | inr u ↦ absurd (let z = u.1 in cc)
          ]
      | inr w ↦ absurd (let z = w.1 in cc)
    ]

sharp_fits : (s v : List ℕ) (m : ℕ) → behind_number_sign s ≡ stands m v
    → (n : ℕ) × Fits n s × (m ≡ suc n)
sharp_fits [] v m e = absurd (cc)
sharp_fits (b ∷ s) v m e =
    elim (if_then (begins_in_any_case (codes "x") (b ∷ s)) (number_at is_ascii_hexdigit 16 2 s)
    (number_at is_ascii_digit 10 1 (b ∷ s)) (stands m v) e) [
      | inl w ↦
          let f = number_fits is_ascii_hexdigit 16 2 m s v refl refl w.1 in
          let n : ((b == 60) ≡ false) × ((b == 38) ≡ false) = letter_x b w.0 in (
            suc (suc (length (leading_run is_ascii_hexdigit s))),
            fits_more b (suc (length (leading_run is_ascii_hexdigit s)))
                (suc (suc (length (leading_run is_ascii_hexdigit s)))) s (n.0) (n.1) f.0 refl,
            (let k = f.1 in omega arith),
          )
      | inr w ↦ let f = number_fits is_ascii_digit 10 1 m (b ∷ s) v refl refl w.1 in
          (suc (length (leading_run is_ascii_digit (b ∷ s))), f.0, (let k = f.1 in omega arith))
    ]
  where
    letter_x : (b : ℕ) → ((to_ascii_lowercase b == 120) && true) ≡ true
        → ((b == 60) ≡ false) × ((b == 38) ≡ false)
    letter_x b e = (grind (arith, nat_tests), grind (arith, nat_tests))

pub named_fits : (n m : ℕ) (o : Option ℕ) (v : List ℕ) → named n o ≡ stands m v → n ≡ m
named_fits n m None v e = absurd (cc)
named_fits n m (Some c) v e = (stands_same n m _ v e).0

and_fits : (names : Names) (s v : List ℕ) (m : ℕ) → behind_ampersand names s ≡ stands m v → Fits m s
and_fits names s v m e = elim (if_then (first_is 35 s) (behind_number_sign (drop 1 s)) _ (stands m v) e) [
  | inl w ↦
      let f = sharp_fits (drop 1 s) v m w.1 in
      let h = at_head 35 s w.0 in
      subst (Fits m) (sym h) (fits_more 35 f.0 m (drop 1 s) refl refl f.1 (sym f.2))
  | inr w ↦ elim (if_then (first_is 59 (behind_run is_ascii_alphanumeric s) && not (first_is 59 s))
      (named (suc (length (leading_run is_ascii_alphanumeric s)))
      (character_named names (leading_run is_ascii_alphanumeric s))) _ (stands m v) w.1) [
        | inl u ↦ subst (λ (k : ℕ). Fits k s) (named_fits (suc (length (leading_run is_ascii_alphanumeric s))) m
            (character_named names (leading_run is_ascii_alphanumeric s)) v u.1)
            (fits_ended is_ascii_alphanumeric s refl refl (and_parts (first_is 59 (behind_run is_ascii_alphanumeric s))
            (not (first_is 59 s)) u.0).0)
        | inr u ↦ subst (λ (k : ℕ). Fits k s) (stands_same 0 m (38 ∷ []) v u.1).0 (none_fits s)
      ]
]

pub piece_fits : (names : Names) (b : ℕ) (s v : List ℕ) (m : ℕ) → piece_at names b s ≡ stands m v → Fits m s
piece_fits names b s v m e = elim (if_then (b == 38) (behind_ampersand names s) _ (stands m v) e) [
  | inl w ↦ and_fits names s v m w.1
  | inr w ↦ elim (if_then (b == 13) _ (stands 0 (b ∷ [])) (stands m v) w.1) [
    | inl u ↦ elim (if_then (first_is 10 s) (stands 1 (10 ∷ [])) (stands 0 (10 ∷ [])) (stands m v) u.1) [
      | inl y ↦ subst (λ (k : ℕ). Fits k s) (stands_same 1 m (10 ∷ []) v y.1).0
          (subst (Fits 1) (sym (at_head 10 s y.0)) (fits_more 10 0 1 (drop 1 s) refl refl (none_fits (drop 1 s)) refl))
      | inr y ↦ subst (λ (k : ℕ). Fits k s) (stands_same 0 m (10 ∷ []) v y.1).0 (none_fits s)
    ]
    | inr u ↦ subst (λ (k : ℕ). Fits k s) (stands_same 0 m (b ∷ []) v u.1).0 (none_fits s)
  ]
]

-- a list cut where the first part ends
pub drop_cut : (w r x : List ℕ) (n : ℕ) → length w ≡ n
    → (drop n (w ++ r) ≡ r) × (drop n ((w ++ r) ++ x) ≡ r ++ x)
drop_cut [] r x n e = rw (sym e) (refl, refl)
drop_cut (b ∷ w) r x n e = let i = drop_cut w r x (length w) refl in rw (sym e) (i.0, i.1)

pub drop_over : (n : ℕ) (s x : List ℕ) → Fits n s → drop n (s ++ x) ≡ drop n s ++ x
drop_over n s x f =
    let c = drop_cut f.0 f.1 x n f.3 in
    ap (λ (y : List ℕ). drop n (y ++ x)) f.2
    ∙ (c.1 ∙ ap (λ (y : List ℕ). y ++ x) (sym (ap (drop n) f.2 ∙ c.0)))

-- ---- references by unknown names

-- only `&` begins a reference
pub no_reference : (names : Names) (b : ℕ) (s : List ℕ) → (b == 38) ≡ false
    → is_unknown (piece_at names b s) ≡ false
no_reference names b s e =
    test (b == 13) (λ t. test (first_is 10 s) (λ q. rw (e, t, q) refl) (λ q. rw (e, t, q) refl))
    (λ t. rw (e, t) refl)

pub put_parts : (p : Piece) (go : ℕ → Option (List ℕ)) (u : List ℕ) → put p go ≡ Some u
    → (m : ℕ) × (v w : List ℕ) × (p ≡ stands m v) × (go m ≡ Some w) × (u ≡ v ++ w)
put_parts (wrong k) go u e = absurd (cc)
put_parts (stands n v) go u e = parts (go n) refl e
  where
    parts : (o : Option (List ℕ)) → go n ≡ o → behind v o ≡ Some u
        → (m : ℕ) × (y w : List ℕ) × (stands n v ≡ stands m y) × (go m ≡ Some w) × (u ≡ y ++ w)
    parts None q e = absurd (cc)
    parts (Some w) q e = (n, v, w, refl, q, cc)

-- no `&` among the first bytes
abbrev pub Skips : ℕ → List ℕ → Type 0
Skips n s = lacks 38 (take n s) ≡ true

pub skips_fit : (n : ℕ) (s : List ℕ) → Fits n s → Skips n s
skips_fit n s f = rw (f.2, first_bytes f.0 f.1 n f.3) f.5
  where
    first_bytes : (w r : List ℕ) (n : ℕ) → length w ≡ n → take n (w ++ r) ≡ w
    first_bytes [] r n e = rw (sym e) refl
    first_bytes (b ∷ w) r n e = rw (sym e) (ap (λ (y : List ℕ). b ∷ y) (first_bytes w r (length w) refl))

known_from : (names : Names) (s : List ℕ) (n : ℕ) (u : List ℕ) → decode names n s ≡ Some u → Skips n s
    → has_unknown_reference names s ≡ false
known_from names [] n u d k = refl
known_from names (b ∷ s) zero u d k =
    let p = put_parts (piece_at names b s) (λ n. decode names n s) u d in
    rw (p.3, known_from names s p.0 p.2 p.4 (skips_fit p.0 s (piece_fits names b s p.1 p.0 p.3))) refl
known_from names (b ∷ s) (suc n) u d k =
    let q = and_parts (not (b == 38)) (lacks 38 (take n s)) k in
    rw (no_reference names b s (not-true (b == 38) q.0), known_from names s n u d q.1) refl

-- what is decoded has no reference by an unknown name
pub known : (names : Names) (s u : List ℕ) → decode names 0 s ≡ Some u → has_unknown_reference names s ≡ false
known names s u d = known_from names s 0 u d refl

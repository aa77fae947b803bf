-- A piece is the same where the text is cut off after it, and a line feed is one whatever follows it.
use Rattle.std.proofs.Common.{Bool, List, [], ap, append_assoc, arith, codes, cond, drop, false}
use Rattle.std.proofs.Common.{inl, inr, length, length-append, not, refl, subst, suc, sym, true, zero, ℕ, ◌&&◌, ◌++◌}
use Rattle.std.proofs.Common.{◌+◌, ◌∙◌, ◌∷◌, ◌≡◌, ◌≤◌, ◌⊎◌}
use Rattle.std.specs.Char.{is_ascii_alphanumeric, is_ascii_digit, is_ascii_hexdigit, to_ascii_lowercase}
use Rattle.std.specs.List.{list_all}
use Rattle.std.specs.Prelude.{◌==◌}
use Rattle.std.specs.Str.{bytes_eq}
use Rattle.std.proofs.lemmas.Bool.{not-true, and_parts}
use Rattle.htmd_lexical.specs.WhiteSpace.{is_ascii_white_space}
use Rattle.htmd_lexical.proofs.Cases.{test}
use Rattle.htmd_lexical.specs.CharacterClasses.{begins_in_any_case, behind_run, first_is, leading_run}
use Rattle.htmd_grammar.specs.Fronts.{IsKept}
use Rattle.htmd_grammar.specs.RawContent.{content_of, drops_line_feed}
use Rattle.htmd_grammar.specs.References.{Names, Piece, after_line_feed, behind_ampersand, behind_number_sign}
use Rattle.htmd_grammar.specs.References.{less_line_feed, may_be_numbered, named, number_at, numbered, piece_at}
use Rattle.htmd_lexical.specs.Numbers.{number}
use Rattle.htmd_grammar.specs.References.{stands, wrong}
use Rattle.htmd_grammar.specs.Rules.{character_named}
use Rattle.htmd_grammar.specs.declared.fault.FaultKind.TheVariants.{BadNumber}
use Rattle.htmd_lexical.proofs.BooleanLemmas.{if_then}
use Rattle.htmd_lexical.proofs.BytesLemmas.{same_bytes}
use Rattle.htmd_grammar.proofs.ReferencesLemmas.{Fits, drop_cut, piece_fits, stands_same, named_fits}
use Rattle.htmd_lexical.proofs.LeadingRunsLemmas.{back_split, front_all, front_cut}
use Rattle.htmd_grammar.proofs.TagSpellingLemmas.{at_head}

-- a run that `;` ends, and what follows it
abbrev Ended : (ℕ → Bool) → List ℕ → Type 0
Ended p s = (s ≡ (leading_run p s ++ 59 ∷ []) ++ drop 1 (behind_run p s))
    × ((x : List ℕ) → (leading_run p ((leading_run p s ++ 59 ∷ []) ++ x) ≡ leading_run p s)
    × (first_is 59 (behind_run p ((leading_run p s ++ 59 ∷ []) ++ x)) ≡ true)
    × (first_is 59 ((leading_run p s ++ 59 ∷ []) ++ x) ≡ first_is 59 s))

ended : (p : ℕ → Bool) (s : List ℕ) → p 59 ≡ false → first_is 59 (behind_run p s) ≡ true → Ended p s
ended p s e a = (
  back_split p s ∙ (ap (λ (y : List ℕ). leading_run p s ++ y) (at_head 59 (behind_run p s) a)
      ∙ sym (append_assoc (leading_run p s) (59 ∷ []) (drop 1 (behind_run p s)))),
  λ x.
      let h : (leading_run p s ++ 59 ∷ []) ++ x ≡ leading_run p s ++ (59 ∷ x) =
      append_assoc (leading_run p s) (59 ∷ []) x in
      let c = front_cut p (leading_run p s) (59 ∷ x) (front_all p s) (rw e refl) in (
        ap (leading_run p) h ∙ c.0,
        ap (λ (y : List ℕ). first_is 59 y) (ap (behind_run p) h ∙ c.1),
        ap (first_is 59) h
            ∙ first s x a,
      ),
)
  where
    first : (s x : List ℕ) → first_is 59 (behind_run p s) ≡ true → first_is 59 (leading_run p s ++ (59 ∷ x))
        ≡ first_is 59 s
    first [] x a = absurd (cc)
    first (b ∷ s) x a = test (p b) (λ q. rw q refl) (λ q. let w = rw q at a in rw (q, w) refl)

-- what a number stands for, whatever follows its `;`
number_cut : (p : ℕ → Bool) (base k m : ℕ) (s v : List ℕ) → p 59 ≡ false
    → number_at p base k s ≡ stands m v
    → (first_is 59 (behind_run p s) ≡ true) × (first_is 59 s ≡ false)
    × (m ≡ suc (k + length (leading_run p s)))
    × ((x : List ℕ) → number_at p base k ((leading_run p s ++ 59 ∷ []) ++ x) ≡ stands m v)
number_cut p base k m s v e h =
    elim (if_then (first_is 59 (behind_run p s) && not (first_is 59 s))
    (numbered (suc (k + length (leading_run p s))) (number base 0 (leading_run p s))) _ (stands m v) h) [
      | inl w ↦
          let a = and_parts (first_is 59 (behind_run p s)) (not (first_is 59 s)) w.0 in
          let n = not-true (first_is 59 s) a.1 in
          let c = ended p s e a.0 in (
            a.0,
            n,
            size (may_be_numbered (number base 0 (leading_run p s))) _ w.1,
            λ x. let d = c.1 x in
                rw (d.0, d.1, d.2, n) w.1,
          )
      | inr w ↦ absurd (let z = w.1 in cc)
    ]
  where
    size : (b : Bool) (u : List ℕ) → (cond b (stands (suc (k + length (leading_run p s))) u) (wrong BadNumber))
        ≡ stands m v → m ≡ suc (k + length (leading_run p s))
    size true u q = sym (stands_same (suc (k + length (leading_run p s))) m u v q).0
    size false u q = absurd (cc)

-- the bytes after the first one, what is left, and that nothing else matters
abbrev pub Cuts : (List ℕ → Piece) → ℕ → List ℕ → List ℕ → Type 0
Cuts read m v s = (w r : List ℕ) × (s ≡ w ++ r) × (length w ≡ m) × ((x z : List ℕ) → r ≡ x ++ z
    → read (w ++ x) ≡ stands m v)

pub sharp_cut : (s v : List ℕ) (m : ℕ) → behind_number_sign s ≡ stands m v
    → (w r : List ℕ) × (s ≡ w ++ r) × (suc (length w) ≡ m)
    × ((x : List ℕ) → behind_number_sign (w ++ x) ≡ stands m v)
sharp_cut [] v m e = absurd (cc)
sharp_cut (b ∷ s) v m e =
    elim (if_then (begins_in_any_case (codes "x") (b ∷ s)) (number_at is_ascii_hexdigit 16 2 s)
    (number_at is_ascii_digit 10 1 (b ∷ s)) (stands m v) e) [
      | inl w ↦
          let c = number_cut is_ascii_hexdigit 16 2 m s v refl w.1 in
          let k = length-append (leading_run is_ascii_hexdigit s) (59 ∷ []) in (
            b ∷ (leading_run is_ascii_hexdigit s ++ 59 ∷ []),
            drop 1 (behind_run is_ascii_hexdigit s),
            ap (λ (y : List ℕ). b ∷ y) (ended is_ascii_hexdigit s refl c.0).0,
            (let q = c.2 in omega arith),
            λ x. rw w.0 (c.3 x),
          )
      | inr w ↦
          let c = number_cut is_ascii_digit 10 1 m (b ∷ s) v refl w.1 in
          let k = length-append (leading_run is_ascii_digit (b ∷ s)) (59 ∷ []) in (
            leading_run is_ascii_digit (b ∷ s) ++ 59 ∷ [],
            drop 1 (behind_run is_ascii_digit (b ∷ s)),
            (ended is_ascii_digit (b ∷ s) refl c.0).0,
            (let q = c.2 in omega arith),
            λ x. sharp_digit b s x c.0 c.1 w.0
                (c.3 x),
          )
    ]
  where
    sharp_digit : (b : ℕ) (s x : List ℕ) → first_is 59 (behind_run is_ascii_digit (b ∷ s)) ≡ true
        → (b == 59) ≡ false
        → (begins_in_any_case (codes "x") (b ∷ s)) ≡ false
        → number_at is_ascii_digit 10 1 ((leading_run is_ascii_digit (b ∷ s) ++ 59 ∷ []) ++ x) ≡ stands m v
        → behind_number_sign ((leading_run is_ascii_digit (b ∷ s) ++ 59 ∷ []) ++ x) ≡ stands m v
    sharp_digit b s x a n t h = test (is_ascii_digit b)
        (λ d.
        let q : (leading_run is_ascii_digit (b ∷ s) ++ 59 ∷ []) ++ x ≡ b
        ∷ ((leading_run is_ascii_digit s ++ 59 ∷ []) ++ x) = rw d refl in
        ap behind_number_sign q ∙ (plain b ((leading_run is_ascii_digit s ++ 59 ∷ []) ++ x) t
        ∙ (ap (number_at is_ascii_digit 10 1) (sym q) ∙ h)))
        (λ d. absurd (let w = rw d at a in cc))
      where
        plain : (b : ℕ) (y : List ℕ) → ((to_ascii_lowercase b == 120) && true) ≡ false
            → behind_number_sign (b ∷ y) ≡ number_at is_ascii_digit 10 1 (b ∷ y)
        plain b y t = rw t refl

-- a run that nothing ends is ended by nothing if it is cut off
no_end : (p : ℕ → Bool) (x z : List ℕ)
    → (first_is 59 (behind_run p (x ++ z)) && not (first_is 59 (x ++ z))) ≡ false
    → (first_is 59 (behind_run p x) && not (first_is 59 x)) ≡ false
no_end p [] z e = refl
no_end p (b ∷ x) z e =
    test (first_is 59 (behind_run p (b ∷ x))) (λ q. let k = longer (b ∷ x) q in let w = rw k at e in
    rw q w) (λ q. rw q refl)
  where
    longer : (x : List ℕ) → first_is 59 (behind_run p x) ≡ true → first_is 59 (behind_run p (x ++ z)) ≡ true
    longer [] q = absurd (cc)
    longer (b ∷ x) q = test (p b) (λ t. let w = rw t at q in rw t (longer x w)) (λ t. let w = rw t at q in rw t w)

sharp_over : (s x z : List ℕ) → s ≡ x ++ z → first_is 35 s ≡ false → first_is 35 x ≡ false
sharp_over s [] z e h = refl
sharp_over s (b ∷ x) z e h = ap (first_is 35) (sym e) ∙ h

-- a name and its `;` are the same, whatever follows
name_same : (names : Names) (v : List ℕ) (m : ℕ) (s x : List ℕ) → first_is 35 s ≡ false
    → first_is 59 (behind_run is_ascii_alphanumeric s) ≡ true
    → first_is 59 s ≡ false
    → (leading_run is_ascii_alphanumeric ((leading_run is_ascii_alphanumeric s ++ 59 ∷ []) ++ x)
    ≡ leading_run is_ascii_alphanumeric s)
    × (first_is 59 (behind_run is_ascii_alphanumeric ((leading_run is_ascii_alphanumeric s ++ 59 ∷ []) ++ x))
    ≡ true) × (first_is 59 ((leading_run is_ascii_alphanumeric s ++ 59 ∷ []) ++ x) ≡ first_is 59 s)
    → named (suc (length (leading_run is_ascii_alphanumeric s)))
    (character_named names (leading_run is_ascii_alphanumeric s)) ≡ stands m v
    → behind_ampersand names ((leading_run is_ascii_alphanumeric s ++ 59 ∷ []) ++ x) ≡ stands m v
name_same names v m s x h a n c u = rw (c.0, c.1, c.2, n, no_sharp s x h a) u
  where
    no_sharp : (s x : List ℕ) → first_is 35 s ≡ false
        → first_is 59 (behind_run is_ascii_alphanumeric s) ≡ true
        → first_is 35 ((leading_run is_ascii_alphanumeric s ++ 59 ∷ []) ++ x) ≡ false
    no_sharp [] x h a = absurd (cc)
    no_sharp (b ∷ s) x h a = test (is_ascii_alphanumeric b) (λ q. rw q h) (λ q. rw q refl)

and_cut : (names : Names) (s v : List ℕ) (m : ℕ) → behind_ampersand names s ≡ stands m v
    → Cuts (behind_ampersand names) m v s
and_cut names s v m e = elim (if_then (first_is 35 s) (behind_number_sign (drop 1 s)) _ (stands m v) e) [
  | inl w ↦
      let f = sharp_cut (drop 1 s) v m w.1 in
      (35 ∷ f.0, f.1, at_head 35 s w.0 ∙ ap (λ (y : List ℕ). 35 ∷ y) f.2, f.3, λ x z q. f.4 x)
  | inr w ↦ elim (if_then (first_is 59 (behind_run is_ascii_alphanumeric s) && not (first_is 59 s))
      (named (suc (length (leading_run is_ascii_alphanumeric s)))
      (character_named names (leading_run is_ascii_alphanumeric s))) _ (stands m v) w.1) [
        | inl u ↦
            let a = and_parts (first_is 59 (behind_run is_ascii_alphanumeric s)) (not (first_is 59 s)) u.0 in
            let n = not-true (first_is 59 s) a.1 in
            let c = ended is_ascii_alphanumeric s refl a.0 in
            let k = length-append (leading_run is_ascii_alphanumeric s) (59 ∷ []) in
            let g = named_fits (suc (length (leading_run is_ascii_alphanumeric s))) m
            (character_named names (leading_run is_ascii_alphanumeric s)) v u.1 in (
              leading_run is_ascii_alphanumeric s ++ 59 ∷ [],
              drop 1 (behind_run is_ascii_alphanumeric s),
              c.0,
              (omega arith),
              λ x z q. name_same names v m s x w.0 a.0 n (c.1 x) u.1,
            )
        | inr u ↦ (let g =
            stands_same 0 m (38 ∷ []) v u.1 in ([], s, refl, g.0, λ x z q. plain_same x z q w.0 u.0 u.1))
      ]
]
  where
    plain_same : (x z : List ℕ) → s ≡ x ++ z → first_is 35 s ≡ false
        → (first_is 59 (behind_run is_ascii_alphanumeric s) && not (first_is 59 s)) ≡ false
        → stands 0 (38 ∷ []) ≡ stands m v → behind_ampersand names x ≡ stands m v
    plain_same x z q h n u =
        let n2 = no_end is_ascii_alphanumeric x z
        (ap (λ (y : List ℕ). first_is 59 (behind_run is_ascii_alphanumeric y) && not (first_is 59 y)) (sym q)
        ∙ n) in
        rw (sharp_over s x z q h, n2) u

pub piece_cut : (names : Names) (b : ℕ) (s v : List ℕ) (m : ℕ) → piece_at names b s ≡ stands m v
    → Cuts (piece_at names b) m v s
piece_cut names b s v m e = elim (if_then (b == 38) (behind_ampersand names s) _ (stands m v) e) [
  | inl w ↦ (let c = and_cut names s v m w.1 in (c.0, c.1, c.2, c.3, λ x z q. rw w.0 (c.4 x z q)))
  | inr w ↦ elim (if_then (b == 13) _ (stands 0 (b ∷ [])) (stands m v) w.1) [
    | inl u ↦ elim (if_then (first_is 10 s) (stands 1 (10 ∷ [])) (stands 0 (10 ∷ [])) (stands m v) u.1) [
      | inl y ↦ (let g = stands_same 1 m (10 ∷ []) v y.1 in
          (10 ∷ [], drop 1 s, at_head 10 s y.0, g.0, λ x z q. rw (w.0, u.0) y.1))
      | inr y ↦ (let g =
          stands_same 0 m (10 ∷ []) v y.1 in ([], s, refl, g.0, λ x z q. alone x z w.0 u.0 q y.0 y.1))
    ]
    | inr u ↦ (let g = stands_same 0 m (b ∷ []) v u.1 in ([], s, refl, g.0, λ x z q. rw (w.0, u.0) u.1))
  ]
]
  where
    alone : (x z : List ℕ) → (b == 38) ≡ false → (b == 13) ≡ true → s ≡ x ++ z → first_is 10 s ≡ false
        → stands 0 (10 ∷ []) ≡ stands m v → piece_at names b x ≡ stands m v
    alone [] z h t q n u = rw (h, t) u
    alone (c ∷ x) z h t q n u = let k : (c == 10) ≡ false = ap (first_is 10) (sym q) ∙ n in rw (h, t, k) u

-- ---- white space

-- a reference that stands for white space is the same, whatever follows
and_white : (names : Names) (s v after : List ℕ) (m : ℕ) → behind_ampersand names s ≡ stands m v
    → list_all is_ascii_white_space v ≡ true → behind_ampersand names (s ++ after) ≡ stands m v
and_white names s v after m e l = elim (if_then (first_is 35 s) (behind_number_sign (drop 1 s)) _ (stands m v) e) [
  | inl w ↦
      let c = sharp_cut (drop 1 s) v m w.1 in
      let h : s ++ after ≡ 35 ∷ (c.0 ++ (c.1 ++ after)) =
      ap (λ (y : List ℕ). y ++ after) (at_head 35 s w.0 ∙ ap (λ (y : List ℕ). 35 ∷ y) c.2)
      ∙ ap (λ (y : List ℕ). 35 ∷ y) (append_assoc c.0 c.1 after) in
      rw h (c.4 (c.1 ++ after))
  | inr w ↦ elim (if_then (first_is 59 (behind_run is_ascii_alphanumeric s) && not (first_is 59 s))
      (named (suc (length (leading_run is_ascii_alphanumeric s)))
      (character_named names (leading_run is_ascii_alphanumeric s))) _ (stands m v) w.1) [
        | inl u ↦
            let a = and_parts (first_is 59 (behind_run is_ascii_alphanumeric s)) (not (first_is 59 s)) u.0 in
            let n = not-true (first_is 59 s) a.1 in
            let c = ended is_ascii_alphanumeric s refl a.0 in
            let x : List ℕ = drop 1 (behind_run is_ascii_alphanumeric s) ++ after in
            ap (behind_ampersand names) (ap (λ (y : List ℕ). y ++ after) c.0
            ∙ append_assoc (leading_run is_ascii_alphanumeric s ++ 59 ∷ [])
            (drop 1 (behind_run is_ascii_alphanumeric s)) after)
            ∙ name_same names v m s x w.0 a.0 n (c.1 x) u.1
        | inr u ↦
            let q = (stands_same 0 m (38 ∷ []) v u.1).1 in
            absurd (let z = rw (sym q) at l in cc)
      ]
]

pub piece_white : (names : Names) (b : ℕ) (s v after : List ℕ) (m : ℕ) → piece_at names b s ≡ stands m v
    → list_all is_ascii_white_space v ≡ true → first_is 10 after ≡ false
    → piece_at names b (s ++ after) ≡ stands m v
piece_white names b s v after m e l n = elim (if_then (b == 38) (behind_ampersand names s) _ (stands m v) e) [
  | inl w ↦ rw w.0 (and_white names s v after m w.1 l)
  | inr w ↦ elim (if_then (b == 13) _ (stands 0 (b ∷ [])) (stands m v) w.1) [
    | inl u ↦ return s w.0 u.0 u.1
    | inr u ↦ rw (w.0, u.0) u.1
  ]
]
  where
    return : (s : List ℕ) → (b == 38) ≡ false → (b == 13) ≡ true
        → cond (first_is 10 s) (stands 1 (10 ∷ [])) (stands 0 (10 ∷ [])) ≡ stands m v
        → piece_at names b (s ++ after) ≡ stands m v
    return [] h t q = rw (h, t, n) q
    return (c ∷ s) h t q = rw (h, t) q

-- ---- line feeds

-- the piece that begins there stands for a line feed
abbrev pub IsLineFeedPiece : ℕ → List ℕ → ℕ → Type 0
IsLineFeedPiece b s m = piece_at [] b s ≡ stands m (10 ∷ [])

-- what stands for a line feed does so with more after it, and is not shorter then
line_feed_over : (b : ℕ) (s x : List ℕ) (m : ℕ) → IsLineFeedPiece b s m
    → (n : ℕ) × IsLineFeedPiece b (s ++ x) n
    × (m ≤ n)
line_feed_over b s x m e = test (b == 38) (λ t. reference t (rw t at e))
    (λ t. test (b == 13) (λ r. return t r s (rw (t, r) at e)) (λ r. (m, rw (t, r) (rw (t, r) at e), omega arith)))
  where
    return : (b == 38) ≡ false → (b == 13) ≡ true → (s : List ℕ)
        → cond (first_is 10 s) (stands 1 (10 ∷ [])) (stands 0 (10 ∷ [])) ≡ stands m (10 ∷ [])
        → (n : ℕ) × IsLineFeedPiece b (s ++ x) n × (m ≤ n)
    return t r [] q = let z : 0 ≡ m = (stands_same 0 m (10 ∷ []) (10 ∷ []) q).0 in
        test (first_is 10 x) (λ y. (1, rw (t, r, y) refl, omega arith)) (λ y. (0, rw (t, r, y) refl, omega arith))
    return t r (c ∷ s) q = (m, rw (t, r) q, omega arith)

    reference : (b == 38) ≡ true → behind_ampersand [] s ≡ stands m (10 ∷ [])
        → (n : ℕ) × IsLineFeedPiece b (s ++ x) n
        × (m ≤ n)
    reference t q = elim (if_then (first_is 35 s) (behind_number_sign (drop 1 s)) _ (stands m (10 ∷ [])) q) [
      | inl w ↦
          let c = sharp_cut (drop 1 s) (10 ∷ []) m w.1 in
          let h : s ++ x ≡ 35 ∷ (c.0 ++ (c.1 ++ x)) =
          ap (λ (y : List ℕ). y ++ x) (at_head 35 s w.0 ∙ ap (λ (y : List ℕ). 35 ∷ y) c.2)
          ∙ ap (λ (y : List ℕ). 35 ∷ y) (append_assoc c.0 c.1 x) in
          (m, rw (t, h) (c.4 (c.1 ++ x)), omega arith)
      | inr w ↦ elim (if_then (first_is 59 (behind_run is_ascii_alphanumeric s) && not (first_is 59 s)) _
          (stands 0 (38 ∷ [])) (stands m (10 ∷ [])) w.1) [
            | inl u ↦ absurd (let z = u.1 in cc)
            | inr u ↦ absurd (let z = (stands_same 0 m (38 ∷ []) (10 ∷ []) u.1).1 in cc)
          ]
    ]

-- what is a piece for a line feed, or begins with none
line_feed_or_not : (b : ℕ) (s : List ℕ) → ((m : ℕ) × IsLineFeedPiece b s m)
    ⊎ (after_line_feed [] (b ∷ s) ≡ b ∷ s)
line_feed_or_not b s = go (piece_at [] b s) refl
  where
    go : (p : Piece) → piece_at [] b s ≡ p → ((m : ℕ) × IsLineFeedPiece b s m)
        ⊎ (after_line_feed [] (b ∷ s) ≡ b ∷ s)
    go (wrong k) e = inr (ap (λ (p : Piece). less_line_feed p b s) e)
    go (stands m v) e = test (bytes_eq v (10 ∷ []))
        (λ t. inl (m, e ∙ ap (stands m) (same_bytes v (10 ∷ []) t)))
        (λ t. inr (ap (λ (p : Piece). less_line_feed p b s) e ∙ rw t refl))

drop_length : (n : ℕ) (s : List ℕ) → length (drop n s) ≤ length s
drop_length zero s = omega arith
drop_length (suc n) [] = omega arith
drop_length (suc n) (b ∷ s) = let i = drop_length n s in omega arith

dropped_is : (b : ℕ) (s : List ℕ) (m : ℕ) → IsLineFeedPiece b s m → after_line_feed [] (b ∷ s) ≡ drop m s
dropped_is b s m e = ap (λ (p : Piece). less_line_feed p b s) e

-- if nothing is dropped, nothing is where the text is cut off
kept_front : (x z : List ℕ) → after_line_feed [] (x ++ z) ≡ x ++ z → after_line_feed [] x ≡ x
kept_front [] z e = refl
kept_front (b ∷ x) z e = elim (line_feed_or_not b x) [
  | inl w ↦
      let o = line_feed_over b x z w.0 w.1 in
      let q : drop o.0 (x ++ z) ≡ b ∷ (x ++ z) = sym (dropped_is b (x ++ z) o.0 o.1) ∙ e in
      let l = drop_length o.0 (x ++ z) in
      let k = ap length q in
      absurd (omega arith)
  | inr w ↦ w
]

fit_length : (m : ℕ) (s : List ℕ) → Fits m s → drop m s ≡ [] → length s ≡ m
fit_length m s f e =
    let d = (drop_cut f.0 f.1 [] m f.3).0 in
    let r : f.1 ≡ [] = sym d ∙ (sym (ap (drop m) f.2) ∙ e) in
    let k = length-append f.0 f.1 in
    let l = ap length f.2 in
    let z = ap length r in
    let y = f.3 in
    omega arith

fit_behind : (m : ℕ) (s t : List ℕ) → Fits m (s ++ t) → drop m (s ++ t) ≡ t → length s ≡ m
fit_behind m s t f e =
    let d = (drop_cut f.0 f.1 [] m f.3).0 in
    let r : f.1 ≡ t = sym d ∙ (sym (ap (drop m) f.2) ∙ e) in
    let k = length-append f.0 f.1 in
    let l = ap length f.2 in
    let j = length-append s t in
    let z = ap length r in
    let y = f.3 in
    omega arith

drop_whole : (s t : List ℕ) (m : ℕ) → length s ≡ m → drop m (s ++ t) ≡ t
drop_whole s t m e = (drop_cut s t [] m e).0

-- what was dropped before is dropped where the text is cut off, and no more
kept_whole : (i x z : List ℕ) → after_line_feed [] i ≡ [] → after_line_feed [] (i ++ (x ++ z)) ≡ x ++ z
    → after_line_feed [] (i ++ x) ≡ x
kept_whole [] x z n e = kept_front x z e
kept_whole (b ∷ i) x z n e = elim (line_feed_or_not b i) [
  | inl w ↦
      let l = fit_length w.0 i (piece_fits [] b i (10 ∷ []) w.0 w.1) (sym (dropped_is b i w.0 w.1) ∙ n) in
      let o = line_feed_over b i x w.0 w.1 in
      let p = line_feed_over b (i ++ x) z o.0 o.1 in
      let a : (i ++ x) ++ z ≡ i ++ (x ++ z) = append_assoc i x z in
      let q : IsLineFeedPiece b (i ++ (x ++ z)) p.0 = subst (λ (y : List ℕ). IsLineFeedPiece b y p.0) a p.1 in
      let k = fit_behind p.0 i (x ++ z) (piece_fits [] b (i ++ (x ++ z)) (10 ∷ []) p.0 q)
      (sym (dropped_is b (i ++ (x ++ z)) p.0 q) ∙ e) in
      let u = o.2 in let v = p.2 in
      dropped_is b (i ++ x) o.0 o.1 ∙ drop_whole i x o.0 (omega arith)
  | inr w ↦ absurd (let q = sym w ∙ n in cc)
]

-- what follows keeps the line feed that was dropped, if the text is cut off too
pub kept_cut : (n i x z : List ℕ) → content_of n i ≡ [] → IsKept n i (x ++ z) → IsKept n i x
kept_cut n i x z e k = test (drops_line_feed n)
    (λ d.
    let e2 : after_line_feed [] i ≡ [] = rw d at e in
    let k2 : after_line_feed [] (i ++ (x ++ z)) ≡ after_line_feed [] i ++ (x ++ z) = rw d at k in
    rw d (kept_whole i x z e2 (k2 ∙ ap (λ (y : List ℕ). y ++ (x ++ z)) e2)
    ∙ ap (λ (y : List ℕ). y ++ x) (sym e2)))
    (λ d. rw d refl)

-- No reference stands for nothing.
use Rattle.std.proofs.Common.{Bool, List, None, Option, Some, [], codes, drop, inl, inr, length, ltb, not, refl, subst}
use Rattle.std.proofs.Common.{suc, ℕ, ◌&&◌, ◌+◌, ◌∙◌, ◌∷◌, ◌≡◌, ◌≢◌}
use Rattle.std.specs.Char.{is_ascii_alphanumeric, is_ascii_digit, is_ascii_hexdigit}
use Rattle.std.specs.Prelude.{◌==◌}
use Rattle.htmd_lexical.specs.CharacterClasses.{begins_in_any_case, behind_run, first_is, is_among, leading_run}
use Rattle.htmd_lexical.specs.LineEnds.{normalized}
use Rattle.htmd_grammar.specs.RawContent.{has_script_escape, raw_text_of}
use Rattle.htmd_grammar.specs.References.{Names, Piece, behind, behind_ampersand, behind_number_sign, decode}
use Rattle.htmd_grammar.specs.References.{may_be_numbered, named, number_at, numbered, piece_at, put, stands}
use Rattle.htmd_lexical.specs.Numbers.{number}
use Rattle.htmd_grammar.specs.References.{wrong}
use Rattle.htmd_grammar.specs.Rules.{character_named}
use Rattle.htmd_lexical.proofs.BooleanLemmas.{and_false, if_then}
use Rattle.htmd_grammar.proofs.ReferencesLemmas.{stands_same}
use Rattle.htmd_lexical.proofs.Cases.{test}
use lib.Utf8.{encode}

encode_full : (c : ℕ) → encode c ≢ []
unfolding encode
encode_full c e =
    test (ltb c 0x80) (λ a. let w = rw a at e in cc) (λ a. test (ltb c 0x800) (λ b. let w = rw (a, b) at e in cc)
    (λ b. test (ltb c 0x1_0000) (λ d. let w = rw (a, b, d) at e in cc) (λ d. let w = rw (a, b, d) at e in cc)))

numbered_full : (n c m : ℕ) (v : List ℕ) → numbered n c ≡ stands m v → v ≢ []
numbered_full n c m v e q = elim (if_then (may_be_numbered c) (stands n (encode c)) _ (stands m v) e) [
  | inl w ↦ encode_full c ((stands_same n m (encode c) v w.1).1 ∙ q)
  | inr w ↦ (let z = w.1 in cc)
]

number_full : (p : ℕ → Bool) (base n m : ℕ) (s v : List ℕ) → number_at p base n s ≡ stands m v → v ≢ []
number_full p base n m s v e q =
    elim (if_then (first_is 59 (behind_run p s) && not (first_is 59 s))
    (numbered (suc (n + length (leading_run p s))) (number base 0 (leading_run p s))) _ (stands m v) e) [
      | inl w ↦ numbered_full _ (number base 0 (leading_run p s)) m v w.1 q
      | inr w ↦ (let z = w.1 in cc)
    ]

sharp_full : (s v : List ℕ) (m : ℕ) → behind_number_sign s ≡ stands m v → v ≢ []
sharp_full [] v m e q = cc
sharp_full (b ∷ s) v m e q =
    elim (if_then (begins_in_any_case (codes "x") (b ∷ s)) (number_at is_ascii_hexdigit 16 2 s)
    (number_at is_ascii_digit 10 1 (b ∷ s)) (stands m v) e) [
      | inl w ↦ number_full is_ascii_hexdigit 16 2 m s v w.1 q
      | inr w ↦
          number_full is_ascii_digit 10 1 m (b ∷ s) v w.1 q
    ]

named_full : (n m : ℕ) (o : Option ℕ) (v : List ℕ) → named n o ≡ stands m v → v ≢ []
named_full n m None v e q = cc
named_full n m (Some c) v e q = encode_full c ((stands_same n m (encode c) v e).1 ∙ q)

module _ (names : Names) where
  and_full : (s v : List ℕ) (m : ℕ) → behind_ampersand names s ≡ stands m v → v ≢ []
  and_full s v m e q = elim (if_then (first_is 35 s) (behind_number_sign (drop 1 s)) _ (stands m v) e) [
    | inl w ↦ sharp_full (drop 1 s) v m w.1 q
    | inr w ↦ elim (if_then (first_is 59 (behind_run is_ascii_alphanumeric s) && not (first_is 59 s))
        (named (suc (length (leading_run is_ascii_alphanumeric s)))
        (character_named names (leading_run is_ascii_alphanumeric s))) _ (stands m v) w.1) [
          | inl u ↦ named_full _ m (character_named names (leading_run is_ascii_alphanumeric s)) v u.1 q
          | inr u ↦ (let z = u.1 in let k = (stands_same 0 m (38 ∷ []) v z).1 in cc)
        ]
  ]

  pub piece_full : (b : ℕ) (s v : List ℕ) (m : ℕ) → piece_at names b s ≡ stands m v → v ≢ []
  piece_full b s v m e q = elim (if_then (b == 38) (behind_ampersand names s) _ (stands m v) e) [
    | inl w ↦ and_full s v m w.1 q
    | inr w ↦ elim (if_then (b == 13) _ (stands 0 (b ∷ [])) (stands m v) w.1) [
      | inl u ↦ elim (if_then (first_is 10 s) (stands 1 (10 ∷ [])) (stands 0 (10 ∷ [])) (stands m v) u.1) [
        | inl y ↦ (let k = (stands_same 1 m (10 ∷ []) v y.1).1 in cc)
        | inr y ↦
            (let k = (stands_same 0 m (10 ∷ []) v y.1).1 in cc)
      ]
      | inr u ↦ (let k = (stands_same 0 m (b ∷ []) v u.1).1 in cc)
    ]
  ]

  put_full : (p : Piece) (go : ℕ → Option (List ℕ)) (u : List ℕ)
      → ((m : ℕ) (v : List ℕ) → p ≡ stands m v → v ≢ [])
      → put p go ≡ Some u → u ≢ []
  put_full (wrong k) go u h e q = cc
  put_full (stands n v) go u h e q = behind_full v (go n) u (h n v refl) e q
    where
      behind_full : (v : List ℕ) (o : Option (List ℕ)) (u : List ℕ) → v ≢ [] → behind v o ≡ Some u
          → u ≢ []
      behind_full v None u h e q = cc
      behind_full [] (Some w) u h e q = h refl
      behind_full (b ∷ v) (Some w) u h e q = cc

  pub decode_full : (s u : List ℕ) → decode names 0 s ≡ Some u → s ≢ [] → u ≢ []
  decode_full [] u d n = absurd (n refl)
  decode_full (b ∷ s) u d n =
      put_full (piece_at names b s) (λ n. decode names n s) u (λ m v e. piece_full b s v m e) d

normal_full : (s : List ℕ) → s ≢ [] → normalized s ≢ []
normal_full [] n q = n refl
normal_full (b ∷ []) n q = let w = rw (and_false (b == 13)) at q in cc
normal_full (b ∷ c ∷ s) n q = test (b == 13 && c == 10) (λ t. let w = rw t at q in
    normal_full (c ∷ s) (λ z. let y = z in cc) w) (λ t. let w = rw t at q in cc)

-- a raw text that isn't empty denotes one that isn't
pub raw_text_full : (n s u : List ℕ) → raw_text_of n s ≡ Some u → s ≢ [] → u ≢ []
raw_text_full n s u d m =
    elim (if_then (is_among (codes "script" ∷ []) n && has_script_escape s) None (Some (normalized s)) (Some u) d) [
      | inl w ↦ absurd (let z = w.1 in cc)
      | inr w ↦ let e : normalized s ≡ u = same w.1 in subst (λ (y : List ℕ). y ≢ []) e (normal_full s m)
    ]
  where
    same : {a b : List ℕ} → ◌≡◌ {A = Option (List ℕ)} (Some a) (Some b) → a ≡ b
    same q = cc

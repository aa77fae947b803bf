-- What is written of a text denotes the text, and has no sign in it that would end it.
use Rattle.std.proofs.Common.{◌≡◌, ℕ, true, false, List, [], ◌∷◌, ◌++◌, refl, sym, codes, Some, not, subst}
use Rattle.std.specs.List.{flat_map}
use Rattle.std.specs.Prelude.{◌==◌, ◌||◌}
use Rattle.std.specs.Str.{bytes_eq}
use Rattle.std.proofs.lemmas.Bool.{and_parts, eqb-true, not-true}
use Rattle.htmd_lexical.proofs.Cases.{test}
use Rattle.htmd_lexical.proofs.BooleanLemmas.{lacks-append}
use Rattle.htmd_lexical.specs.CharacterClasses.{lacks, is_among}
use Rattle.htmd_document.specs.Tags.{in_value, in_text, escaped_text}
use Rattle.htmd_grammar.specs.References.{decode, may_be_numbered}
use Rattle.htmd_grammar.specs.Rules.{named_characters}
use Rattle.htmd_commonmark_reading.specs.Rendering.{escaped_byte, escaped}
use Rattle.htmd_law_rendering.specs.SpelledTrees.{document_keys, value_in}
use lib.Utf8.{encode}

-- whatever follows, the first bytes denote these
abbrev Decodes : List ℕ → List ℕ → Type 0
Decodes y v = (z u : List ℕ) → decode named_characters 0 z ≡ Some u
    → decode named_characters 0 (y ++ z) ≡ Some (v ++ u)

-- and neither begin markup nor end a value
abbrev IsGood : List ℕ → List ℕ → Type 0
IsGood y v = Decodes y v × (lacks 60 y ≡ true) × (lacks 34 y ≡ true)

amp : IsGood (codes "&amp;") (38 ∷ [])
unfolding encode
amp = ((λ z u h. rw h refl), refl, refl)

lt : IsGood (codes "&lt;") (60 ∷ [])
unfolding encode
lt = ((λ z u h. rw h refl), refl, refl)

gt : IsGood (codes "&gt;") (62 ∷ [])
unfolding encode
gt = ((λ z u h. rw h refl), refl, refl)

quot : IsGood (codes "&quot;") (34 ∷ [])
unfolding encode
quot = ((λ z u h. rw h refl), refl, refl)

bar : IsGood (codes "&#124;") (124 ∷ [])
unfolding may_be_numbered encode
bar = ((λ z u h. rw h refl), refl, refl)

bracket : IsGood (codes "&#93;") (93 ∷ [])
unfolding may_be_numbered encode
bracket = ((λ z u h. rw h refl), refl, refl)

itself : (b : ℕ) → (b == 38) ≡ false → (b == 13) ≡ false → (b == 60) ≡ false → (b == 34) ≡ false
    → IsGood (b ∷ []) (b ∷ [])
itself b e f g h = ((λ z u k. rw (e, f, k) refl), rw g refl, rw h refl)

-- at a byte that is this one
moved : (b c : ℕ) (y : List ℕ) → (b == c) ≡ true → IsGood y (c ∷ []) → IsGood y (b ∷ [])
moved b c y e g = subst (λ (n : ℕ). IsGood y (n ∷ [])) (sym (eqb-true b c e)) g

byte-good : (b : ℕ) → (b == 13) ≡ false → IsGood (escaped_byte b) (b ∷ [])
byte-good b f =
    test (b == 38) (λ t. rw t (moved b 38 (codes "&amp;") t amp)) (λ t.
    test (b == 60) (λ p. rw (t, p) (moved b 60 (codes "&lt;") p lt)) (λ p.
    test (b == 62) (λ q. rw (t, p, q) (moved b 62 (codes "&gt;") q gt)) (λ q.
    test (b == 34) (λ r. rw (t, p, q, r) (moved b 34 (codes "&quot;") r quot)) (λ r.
    rw (t, p, q, r) (itself b t f p r)))))

value-good : (b : ℕ) → (b == 13) ≡ false → IsGood (in_value b) (b ∷ [])
value-good b f =
    test (b == 38) (λ t. rw t (moved b 38 (codes "&amp;") t amp)) (λ t.
    test (b == 60) (λ p. rw (t, p) (moved b 60 (codes "&lt;") p lt)) (λ p.
    test (b == 62) (λ q. rw (t, p, q) (moved b 62 (codes "&gt;") q gt)) (λ q.
    test (b == 34) (λ r. rw (t, p, q, r) (moved b 34 (codes "&quot;") r quot)) (λ r.
    test (b == 124) (λ v. rw (t, p, q, r, v) (moved b 124 (codes "&#124;") v bar)) (λ v.
    test (b == 93) (λ w. rw (t, p, q, r, v, w) (moved b 93 (codes "&#93;") w bracket)) (λ w.
    rw (t, p, q, r, v, w) (itself b t f p r)))))))

-- a whole text that is written so
abbrev pub Denotes : List ℕ → List ℕ → Type 0
Denotes y s = (decode named_characters 0 y ≡ Some s) × (lacks 60 y ≡ true) × (lacks 34 y ≡ true)

module _ (byte : ℕ → List ℕ) (good : (b : ℕ) → (b == 13) ≡ false → IsGood (byte b) (b ∷ [])) where
  denotes : (s : List ℕ) → lacks 13 s ≡ true → Denotes (flat_map byte s) s
  denotes [] l = (refl, refl, refl)
  denotes (b ∷ s) l =
      let p = and_parts (not (b == 13)) (lacks 13 s) l in
      let g = good b (not-true (b == 13) p.0) in
      let h = denotes s p.1 in (
        g.0 (flat_map byte s) s h.0,
        lacks-append 60 (byte b) (flat_map byte s) g.1 h.1,
        lacks-append 34 (byte b) (flat_map byte s) g.2 h.2,
      )

pub text-denotes : (s : List ℕ) → lacks 13 s ≡ true → Denotes (escaped s) s
text-denotes s l = denotes escaped_byte byte-good s l

pub value-denotes : (n k s : List ℕ) → lacks 13 s ≡ true → Denotes (value_in n k s) s
value-denotes n k s l =
    test (bytes_eq n (codes "abbr") || is_among document_keys k)
    (λ e. rw e (denotes in_value value-good s l))
    (λ e. rw e (text-denotes s l))

-- a text beside tags, which has quotation marks
pub written-denotes : (s : List ℕ) → lacks 13 s ≡ true
    → (decode named_characters 0 (escaped_text s) ≡ Some s) × (lacks 60 (escaped_text s) ≡ true)
written-denotes [] l = (refl, refl)
written-denotes (b ∷ s) l =
    let p = and_parts (not (b == 13)) (lacks 13 s) l in
    let g = byte b (not-true (b == 13) p.0) in
    let h = written-denotes s p.1 in
    (g.0 (escaped_text s) s h.0, lacks-append 60 (in_text b) (escaped_text s) g.1 h.1)
  where
    byte : (b : ℕ) → (b == 13) ≡ false → Decodes (in_text b) (b ∷ []) × (lacks 60 (in_text b) ≡ true)
    byte b f =
        test (b == 38) (λ t. let m = moved b 38 (codes "&amp;") t amp in rw t (m.0, m.1)) (λ t.
        test (b == 60) (λ p. let m = moved b 60 (codes "&lt;") p lt in rw (t, p) (m.0, m.1)) (λ p.
        rw (t, p) ((λ z u k. rw (t, f, k) refl), rw p refl)))

-- ---- carriage returns

pub lacks-parts : (b : ℕ) (s t : List ℕ) → lacks b (s ++ t) ≡ true
    → (lacks b s ≡ true) × (lacks b t ≡ true)
lacks-parts b [] t l = (refl, l)
lacks-parts b (c ∷ s) t l =
    let p = and_parts (not (c == b)) (lacks b (s ++ t)) l in
    let q = lacks-parts b s t p.1 in
    (rw (p.0, q.0) refl, q.1)

module _ (byte : ℕ → List ℕ) (stays : lacks 13 (byte 13) ≡ false) where
  bytes-lack : (s : List ℕ) → lacks 13 (flat_map byte s) ≡ true → lacks 13 s ≡ true
  bytes-lack [] l = refl
  bytes-lack (b ∷ s) l =
      let p = lacks-parts 13 (byte b) (flat_map byte s) l in
      test (b == 13)
      (λ e. let w = subst (λ n. lacks 13 (byte n) ≡ true) (eqb-true b 13 e) p.0 in absurd (cc))
      (λ e. rw (e, bytes-lack s p.1) refl)

pub text-lacks : (s : List ℕ) → lacks 13 (escaped s) ≡ true → lacks 13 s ≡ true
text-lacks s l = bytes-lack escaped_byte refl s l

pub value-lacks : (n k s : List ℕ) → lacks 13 (value_in n k s) ≡ true → lacks 13 s ≡ true
value-lacks n k s l =
    test (bytes_eq n (codes "abbr") || is_among document_keys k)
    (λ e. let w = rw e at l in bytes-lack in_value refl s w)
    (λ e. let w = rw e at l in text-lacks s w)

pub written-lacks : (s : List ℕ) → lacks 13 (escaped_text s) ≡ true → lacks 13 s ≡ true
written-lacks s l = bytes-lack in_text refl s l

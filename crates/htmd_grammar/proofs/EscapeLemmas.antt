-- A text escaped for HTML denotes the text, also with references in place of line feeds.
use Rattle.std.proofs.Common.{List, Some, [], ap, codes, false, inl, inr, not, refl, subst, sym, true, ℕ, ◌++◌, ◌∙◌}
use Rattle.std.proofs.Common.{◌∷◌, ◌≡◌}
use Rattle.std.proofs.lemmas.List.{append-nil}
use Rattle.std.specs.Prelude.{◌==◌}
use Rattle.std.proofs.lemmas.Bool.{not-true, and_parts, eqb-true}
use Rattle.htmd_lexical.specs.CharacterClasses.{lacks}
use Rattle.htmd_values.specs.RawBlocks.{RefersToLineFeeds, line_feed_reference}
use Rattle.htmd_grammar.specs.References.{Names, decode, may_be_numbered}
use Rattle.htmd_grammar.specs.Rules.{character_named}
use Rattle.htmd_values.specs.Serialisation.{escaped_html, is_no_break_space, text_byte, value_byte}
use Rattle.htmd_lexical.proofs.BooleanLemmas.{lacks-append}
use Rattle.htmd_grammar.proofs.ReferencedLineFeeds.{refers_first, refers_nothing, refers_plain, refers_split}
use Rattle.htmd_lexical.proofs.Cases.{test}
use lib.Utf8.{encode}

-- the names that the serialiser writes
pub record HasEscapes (names : Names) : Type 0 where
  pub amp : character_named names (codes "amp") ≡ Some 0x26
  pub lt : character_named names (codes "lt") ≡ Some 0x3C
  pub gt : character_named names (codes "gt") ≡ Some 0x3E
  pub quot : character_named names (codes "quot") ≡ Some 0x22
  pub nbsp : character_named names (codes "nbsp") ≡ Some 0xA0

module _ (names : Names) (has : HasEscapes names) where
  -- whatever follows, the first bytes denote these
  abbrev pub Decodes : List ℕ → List ℕ → Type 0
  Decodes y v = (z u : List ℕ) → decode names 0 z ≡ Some u → decode names 0 (y ++ z) ≡ Some (v ++ u)

  amp_decodes : Decodes (codes "&amp;") (38 ∷ [])
  unfolding encode
  amp_decodes z u h = rw (has.amp, h) refl

  lt_decodes : Decodes (codes "&lt;") (60 ∷ [])
  unfolding encode
  lt_decodes z u h = rw (has.lt, h) refl

  gt_decodes : Decodes (codes "&gt;") (62 ∷ [])
  unfolding encode
  gt_decodes z u h = rw (has.gt, h) refl

  quot_decodes : Decodes (codes "&quot;") (34 ∷ [])
  unfolding encode
  quot_decodes z u h = rw (has.quot, h) refl

  nbsp_decodes : Decodes (codes "&nbsp;") (0xC2 ∷ 0xA0 ∷ [])
  unfolding encode
  nbsp_decodes z u h = rw (has.nbsp, h) refl

  line_feed_decodes : Decodes line_feed_reference (10 ∷ [])
  unfolding may_be_numbered encode
  line_feed_decodes z u h = rw h refl

  byte_decodes : (b : ℕ) → (b == 38) ≡ false → (b == 13) ≡ false → Decodes (b ∷ []) (b ∷ [])
  byte_decodes b e f z u h = rw (e, f, h) refl

  -- one byte that is written as it is
  byte_back : (stop b : ℕ) (y : List ℕ) → (b == 38) ≡ false → (b == 13) ≡ false → (b == stop) ≡ false
      → lacks stop line_feed_reference ≡ true → RefersToLineFeeds (b ∷ []) y
      → Decodes y (b ∷ []) × (lacks stop y ≡ true)
  byte_back stop b y e f g k r = elim (refers_first b [] y r) [
    | inl w ↦
        let q : y ≡ b ∷ [] = w.1 ∙ ap (λ (t : List ℕ). b ∷ t) (refers_nothing w.0 w.2) in
        subst (λ (t : List ℕ). Decodes t (b ∷ []) × (lacks stop t ≡ true)) (sym q)
        (byte_decodes b e f, rw g refl)
    | inr w ↦
        let q : y ≡ line_feed_reference = w.2 ∙ ap (λ (t : List ℕ). line_feed_reference ++ t)
        (refers_nothing w.0 w.3) in
        subst (λ (t : List ℕ). Decodes t (b ∷ []) × (lacks stop t ≡ true)) (sym q)
        (subst (λ (n : ℕ). Decodes line_feed_reference (n ∷ [])) (sym w.1) line_feed_decodes, k)
  ]

  -- one byte that is written as a reference
  escape_back : (stop b c : ℕ) (s y : List ℕ) → lacks 10 s ≡ true → lacks stop s ≡ true → b ≡ c
      → Decodes s (c ∷ [])
      → RefersToLineFeeds s y → Decodes y (b ∷ []) × (lacks stop y ≡ true)
  escape_back stop b c s y l k e d r =
      subst (λ (t : List ℕ). Decodes t (b ∷ []) × (lacks stop t ≡ true)) (sym (refers_plain s y l r))
      (subst (λ (n : ℕ). Decodes s (n ∷ [])) (sym e) d, k)

  text_byte_back : (b : ℕ) (y : List ℕ) → (b == 13) ≡ false → RefersToLineFeeds (text_byte b) y
      → Decodes y (b ∷ []) × (lacks 60 y ≡ true)
  text_byte_back b y f r =
      test (b == 38) (λ t. escape_back 60 b 38 (codes "&amp;") y refl refl (eqb-true b 38 t) amp_decodes (rw t at r))
      (λ t.
      test (b == 60) (λ p. escape_back 60 b 60 (codes "&lt;") y refl refl (eqb-true b 60 p) lt_decodes
      (rw (t, p) at r)) (λ p.
      test (b == 62) (λ q. escape_back 60 b 62 (codes "&gt;") y refl refl (eqb-true b 62 q) gt_decodes
      (rw (t, p, q) at r)) (λ q.
      byte_back 60 b y t f p refl (rw (t, p, q) at r))))

  value_byte_back : (b : ℕ) (y : List ℕ) → (b == 13) ≡ false → RefersToLineFeeds (value_byte b) y
      → Decodes y (b ∷ []) × (lacks 34 y ≡ true)
  value_byte_back b y f r =
      test (b == 38) (λ t. escape_back 34 b 38 (codes "&amp;") y refl refl (eqb-true b 38 t) amp_decodes (rw t at r))
      (λ t.
      test (b == 34) (λ p. escape_back 34 b 34 (codes "&quot;") y refl refl (eqb-true b 34 p) quot_decodes
      (rw (t, p) at r)) (λ p.
      byte_back 34 b y t f p refl (rw (t, p) at r)))

  module _ (stop : ℕ) (byte : ℕ → List ℕ) (clean : lacks stop (codes "&nbsp;") ≡ true)
      (byte_ok : (b : ℕ) (y : List ℕ) → (b == 13) ≡ false → RefersToLineFeeds (byte b) y
      → Decodes y (b ∷ []) × (lacks stop y ≡ true)) where
    abbrev Back : List ℕ → List ℕ → Type 0
    Back x s = (decode names 0 x ≡ Some s) × (lacks stop x ≡ true)

    -- a piece and what follows it
    joined : (x y z v s : List ℕ) → x ≡ y ++ z → Decodes y v → lacks stop y ≡ true → Back z s
        → Back x (v ++ s)
    joined x y z v s e d k h = rw e (d z s h.0, lacks-append stop y z k h.1)

    escaped_back : (s x : List ℕ) → lacks 13 s ≡ true → RefersToLineFeeds (escaped_html byte s) x → Back x s
    escaped_back [] x l r = rw (refers_nothing x r) (refl, refl)
    escaped_back (b ∷ []) x l r =
        let p = and_parts (not (b == 13)) true l in
        let o = byte_ok b x (not-true (b == 13) p.0) r in
        joined x x [] (b ∷ []) [] (sym (append-nil x)) o.0 o.1 (refl, refl)
    escaped_back (b ∷ c ∷ s) x l r =
        let p = and_parts (not (b == 13)) (lacks 13 (c ∷ s)) l in
        let q = and_parts (not (c == 13)) (lacks 13 s) p.1 in
        test (is_no_break_space b c)
        (λ t.
        let i = refers_split (codes "&nbsp;") (escaped_html byte s) x (rw t at r) in
        let k : i.0 ≡ codes "&nbsp;" = refers_plain (codes "&nbsp;") i.0 refl i.3 in
        let m = and_parts (b == 0xC2) (c == 0xA0) t in
        subst (λ (v : List ℕ). Back x (v ++ s)) (two b c (eqb-true b 0xC2 m.0) (eqb-true c 0xA0 m.1))
        (joined x (codes "&nbsp;") i.1 (0xC2 ∷ 0xA0 ∷ []) s (i.2 ∙ ap (λ (y : List ℕ). y ++ i.1) k)
        nbsp_decodes clean
        (escaped_back s i.1 q.1 i.4)))
        (λ t.
        let i = refers_split (byte b) (escaped_html byte (c ∷ s)) x (rw t at r) in
        let o = byte_ok b i.0 (not-true (b == 13) p.0) i.3 in
        joined x i.0 i.1 (b ∷ []) (c ∷ s) i.2 o.0 o.1 (escaped_back (c ∷ s) i.1 p.1 i.4))
      where
        two : (b c : ℕ) → b ≡ 0xC2 → c ≡ 0xA0
            → ◌≡◌ {A = List ℕ} (0xC2 ∷ 0xA0 ∷ []) (b ∷ c ∷ [])
        two b c e f = rw (e, f) refl

  pub text_back : (s x : List ℕ) → lacks 13 s ≡ true → RefersToLineFeeds (escaped_html text_byte s) x
      → (decode names 0 x ≡ Some s) × (lacks 60 x ≡ true)
  text_back = escaped_back 60 text_byte refl text_byte_back

  pub value_back : (s x : List ℕ) → lacks 13 s ≡ true → RefersToLineFeeds (escaped_html value_byte s) x
      → (decode names 0 x ≡ Some s) × (lacks 34 x ≡ true)
  value_back = escaped_back 34 value_byte refl value_byte_back

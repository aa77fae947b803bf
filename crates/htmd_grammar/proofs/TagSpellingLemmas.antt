-- What the reader takes apart is a tag as the grammar spells it.
use Rattle.std.proofs.Common.{Bool, List, [], ap, append_assoc, cond, drop, false, inl, inr, map, not, refl, subst, suc}
use Rattle.std.proofs.Common.{sym, true, zero, ℕ, ◌&&◌, ◌++◌, ◌∙◌, ◌∷◌, ◌≡◌, ◌≢◌, ◌⊎◌}
use Rattle.std.specs.Char.{to_ascii_lowercase}
use Rattle.std.specs.List.{list_all}
use Rattle.std.specs.Prelude.{◌==◌}
use Rattle.std.proofs.lemmas.Bool.{not-true, and_parts, eqb-true}
use Rattle.htmd_lexical.specs.Characters.{slash}
use Rattle.htmd_lexical.specs.WhiteSpace.{is_ascii_white_space}
use Rattle.htmd_lexical.proofs.Cases.{test}
use Rattle.htmd_lexical.specs.CharacterClasses.{behind_run, first_is, is_attribute_name, is_attribute_name_byte}
use Rattle.htmd_lexical.specs.CharacterClasses.{is_empty, is_unquoted_byte, lacks, leading_run}
use Rattle.htmd_grammar.specs.ReaderSteps.{body}
use Rattle.htmd_lexical.specs.TagReading.{TagForm, TagPart, attribute, behind_attribute_name, behind_gap, behind_slash}
use Rattle.htmd_lexical.specs.TagReading.{form, form_behind, form_within, is_other, malformed, next_part, no_form}
use Rattle.htmd_lexical.specs.TagReading.{quoted_value, tag_end, unquoted_value, value_part, with_attribute}
use Rattle.htmd_grammar.specs.Tags.{IsEqualsSign, IsTagRest, IsValue, optional_slash}
use Rattle.htmd_lexical.specs.AttributePairs.{AttributePair}
use Rattle.htmd_lexical.proofs.BooleanLemmas.{if_then}
use Rattle.htmd_lexical.proofs.LeadingRunsLemmas.{back_halts, back_split, front_all, front_cut, halts, halts_cut}

pub at_head : (b : ℕ) (s : List ℕ) → first_is b s ≡ true → s ≡ b ∷ drop 1 s
at_head b [] e = absurd (cc)
at_head b (c ∷ s) e = ap (λ (x : ℕ). x ∷ s) (eqb-true c b e)

-- what is a value, whatever stands before the end of the tag
abbrev pub Spelt : List ℕ → List ℕ → List ℕ → Type 0
Spelt value body rest =
    ((value ≡ []) × (body ≡ []))
    ⊎ ((eq : List ℕ) × (q : ℕ) × (value ≡ eq ++ (q ∷ (body ++ q ∷ []))) × IsEqualsSign eq
    × ((q ≡ 34) ⊎ (q ≡ 39))
    × (lacks q body ≡ true))
    ⊎ ((eq : List ℕ) × (value ≡ eq ++ body) × IsEqualsSign eq × (body ≢ [])
    × (list_all is_unquoted_byte body ≡ true)
    × (halts is_unquoted_byte rest ≡ true))

more_same : (k b r k2 b2 r2 : List ℕ) → attribute k b r ≡ attribute k2 b2 r2
    → (k ≡ k2) × (b ≡ b2) × (r ≡ r2)
more_same k b r k2 b2 r2 e = (cc, cc, cc)

not_empty : (s : List ℕ) → is_empty s ≡ false → s ≢ []
not_empty [] e q = absurd (cc)
not_empty (b ∷ s) e q = cc

-- a value in quotes
quoted_spelled : (q : ℕ) (key s key2 body rest : List ℕ) → quoted_value q key s ≡ attribute key2 body rest
    → (key ≡ key2) × (s ≡ body ++ (q ∷ rest)) × (lacks q body ≡ true)
quoted_spelled q key s key2 body rest e =
    elim (if_then (is_empty (behind_run (is_other q) s)) malformed
    (attribute key (leading_run (is_other q) s) (drop 1 (behind_run (is_other q) s))) (attribute key2 body rest) e) [
      | inl w ↦ absurd (let z = w.1 in cc)
      | inr w ↦
          let m = more_same key (leading_run (is_other q) s) (drop 1 (behind_run (is_other q) s)) key2 body rest w.1 in
          let h : first_is q (behind_run (is_other q) s) ≡ true =
          head (behind_run (is_other q) s) (back_halts (is_other q) s) w.0 in
          let t = at_head q (behind_run (is_other q) s) h in (
            m.0,
            back_split (is_other q) s ∙ (ap (λ (y : List ℕ). y ++ behind_run (is_other q) s) m.1
                ∙ ap (λ (y : List ℕ). body ++ y) (t ∙ ap (λ (y : List ℕ). q ∷ y) m.2)),
            ap (lacks q) (sym m.1) ∙ front_all (is_other q) s,
          )
    ]
  where
    head : (s : List ℕ) → halts (is_other q) s ≡ true → is_empty s ≡ false → first_is q s ≡ true
    head [] h n = absurd (cc)
    head (c ∷ s) h n = test (c == q) (λ t. t) (λ t. let w = rw t at h in absurd (cc))

bare_spelled : (key s key2 body rest : List ℕ) → unquoted_value key s ≡ attribute key2 body rest
    → (key ≡ key2) × (s ≡ body ++ rest) × (body ≢ []) × (list_all is_unquoted_byte body ≡ true)
    × (halts is_unquoted_byte rest ≡ true)
bare_spelled key s key2 body rest e =
    elim (if_then (is_empty (leading_run is_unquoted_byte s)) malformed
    (attribute key (leading_run is_unquoted_byte s) (behind_run is_unquoted_byte s)) (attribute key2 body rest) e) [
      | inl w ↦ absurd (let z = w.1 in cc)
      | inr w ↦
          let m = more_same key (leading_run is_unquoted_byte s) (behind_run is_unquoted_byte s) key2 body rest w.1 in (
            m.0,
            back_split is_unquoted_byte s ∙ (ap (λ (y : List ℕ). y ++ behind_run is_unquoted_byte s) m.1
                ∙ ap (λ (y : List ℕ). body ++ y) m.2),
            subst (λ (y : List ℕ). y ≢ []) m.1 (not_empty (leading_run is_unquoted_byte s) w.0),
            ap (list_all is_unquoted_byte) (sym m.1) ∙ front_all is_unquoted_byte s,
            ap (halts is_unquoted_byte) (sym m.2) ∙ back_halts is_unquoted_byte s,
          )
    ]

abbrev Value : List ℕ → List ℕ → List ℕ → List ℕ → List ℕ → Type 0
Value key s key2 body rest = (key ≡ key2) × (value : List ℕ) × (s ≡ value ++ rest) × Spelt value body rest

-- after `=` and white space
valued_spelled : (key s t key2 body rest eq : List ℕ) → s ≡ eq ++ t → IsEqualsSign eq
    → value_part key t ≡ attribute key2 body rest → Value key s key2 body rest
valued_spelled key s t key2 body rest eq e q h =
    elim (if_then (first_is 34 t) (quoted_value 34 key (drop 1 t)) (if_else t) (attribute key2 body rest) h) [
      | inl w ↦ in_quotes 34 (inl refl) w.0 w.1
      | inr w ↦ elim (if_then (first_is 39 t) (quoted_value 39 key (drop 1 t)) (unquoted_value key t)
          (attribute key2 body rest) w.1) [
            | inl v ↦ in_quotes 39 (inr refl) v.0 v.1
            | inr v ↦
                let b = bare_spelled key t key2 body rest v.1 in (
                  b.0,
                  eq ++ body,
                  e ∙ (ap (λ (y : List ℕ). eq ++ y) b.1 ∙ sym (append_assoc eq body rest)),
                  inr (inr (eq, refl, q, b.2, b.3, b.4)),
                )
          ]
    ]
  where
    if_else : List ℕ → TagPart
    if_else t = cond (first_is 39 t) (quoted_value 39 key (drop 1 t)) (unquoted_value key t)

    in_quotes : (m : ℕ) → (m ≡ 34) ⊎ (m ≡ 39) → first_is m t ≡ true
        → quoted_value m key (drop 1 t) ≡ attribute key2 body rest → Value key s key2 body rest
    in_quotes m k a z =
        let b = quoted_spelled m key (drop 1 t) key2 body rest z in
        let f : t ≡ m ∷ (body ++ (m ∷ rest)) = at_head m t a ∙ ap (λ (y : List ℕ). m ∷ y) b.1 in
        let g : s ≡ (eq ++ (m ∷ (body ++ m ∷ []))) ++ rest =
        e ∙ (ap (λ (y : List ℕ). eq ++ y)
        (f ∙ ap (λ (y : List ℕ). m ∷ y) (sym (append_assoc body (m ∷ []) rest)))
        ∙ sym (append_assoc eq (m ∷ (body ++ m ∷ [])) rest)) in
        (b.0, eq ++ (m ∷ (body ++ m ∷ [])), g, inr (inl (eq, m, refl, q, k, b.2)))

key_spelled : (key s key2 body rest : List ℕ) → behind_attribute_name key s ≡ attribute key2 body rest
    → Value key s key2 body rest
key_spelled key s key2 body rest h =
    elim (if_then (first_is 61 (behind_run is_ascii_white_space s))
    (value_part key (behind_run is_ascii_white_space (drop 1 (behind_run is_ascii_white_space s)))) (attribute key [] s)
    (attribute key2 body rest) h) [
      | inl w ↦
          let one : List ℕ = leading_run is_ascii_white_space s in
          let x : List ℕ = drop 1 (behind_run is_ascii_white_space s) in
          let e : s ≡ (one ++ (61 ∷ leading_run is_ascii_white_space x)) ++ behind_run is_ascii_white_space x =
          back_split is_ascii_white_space s
          ∙ (ap (λ (y : List ℕ). one ++ y) (at_head 61 (behind_run is_ascii_white_space s) w.0
          ∙ ap (λ (y : List ℕ). 61 ∷ y) (back_split is_ascii_white_space x))
          ∙ sym (append_assoc one (61 ∷ leading_run is_ascii_white_space x) (behind_run is_ascii_white_space x))) in
          valued_spelled key s (behind_run is_ascii_white_space x) key2 body rest
          (one ++ (61 ∷ leading_run is_ascii_white_space x)) e (
            one,
            leading_run is_ascii_white_space x,
            refl,
            front_all is_ascii_white_space s,
            front_all is_ascii_white_space x,
          ) w.1
      | inr w ↦
          let m = more_same key [] s key2 body rest w.1 in
          (m.0, [], m.2, inl (refl, sym m.1))
    ]

-- what is read of an attribute
abbrev pub Attribute : List ℕ → List ℕ → List ℕ → List ℕ → Type 0
Attribute s key body rest = (gap value : List ℕ) × (s ≡ gap ++ (key ++ (value ++ rest))) × (gap ≢ [])
    × (list_all is_ascii_white_space gap ≡ true) × (is_attribute_name key ≡ true) × Spelt value body rest

-- and of the end of a tag
abbrev pub Ending : List ℕ → Bool → List ℕ → Type 0
Ending s present x = (gap : List ℕ) × (s ≡ (gap ++ (optional_slash present ++ 62 ∷ [])) ++ x)
    × (list_all is_ascii_white_space gap ≡ true)

-- neither `>` nor `/`
abbrev KeyCase : Bool → List ℕ → TagPart
KeyCase white t = cond (white && is_attribute_name (leading_run is_attribute_name_byte t))
    (behind_attribute_name (leading_run is_attribute_name_byte t) (behind_run is_attribute_name_byte t)) malformed

slashed_no : (t key body rest : List ℕ) → behind_slash t ≡ attribute key body rest → ⊥
slashed_no [] key body rest e = cc
slashed_no (c ∷ t) key body rest e = test (c == 62) (λ p. let w = rw p at e in cc) (λ p. let w = rw p at e in cc)

gap_attribute : (white : Bool) (t key body rest : List ℕ) → behind_gap white t ≡ attribute key body rest
    → (white ≡ true) × (is_attribute_name key ≡ true) × (value : List ℕ) × (t ≡ key ++ (value ++ rest))
    × Spelt value body rest
gap_attribute white [] key body rest e = absurd (cc)
gap_attribute white (b ∷ t) key body rest e =
    elim (if_then (b == 62) (tag_end false t) (cond (b == 47) (behind_slash t) (KeyCase white (b ∷ t)))
    (attribute key body rest) e) [
      | inl w ↦ absurd (let z = w.1 in cc)
      | inr w ↦ elim (if_then (b == 47) (behind_slash t) (KeyCase white (b ∷ t)) (attribute key body rest) w.1) [
        | inl u ↦ absurd (slashed_no t key body rest u.1)
        | inr u ↦ elim (if_then (white && is_attribute_name (leading_run is_attribute_name_byte (b ∷ t)))
            (behind_attribute_name (leading_run is_attribute_name_byte (b ∷ t))
            (behind_run is_attribute_name_byte (b ∷ t)))
            malformed (attribute key body rest) u.1) [
              | inl v ↦
                  let k = and_parts white (is_attribute_name (leading_run is_attribute_name_byte (b ∷ t))) v.0 in
                  let m =
                  key_spelled (leading_run is_attribute_name_byte (b ∷ t))
                  (behind_run is_attribute_name_byte (b ∷ t))
                  key body rest v.1 in (
                    k.0,
                    subst (λ (y : List ℕ). is_attribute_name y ≡ true) m.0 k.1,
                    m.1,
                    back_split is_attribute_name_byte
                        (b ∷ t) ∙ (ap (λ (y : List ℕ). y ++ behind_run is_attribute_name_byte (b ∷ t)) m.0
                        ∙ ap (λ (y : List ℕ). key ++ y) m.2),
                    m.3,
                  )
              | inr v ↦ absurd (let z = v.1 in cc)
            ]
      ]
    ]

not_made : (s : List ℕ) → not (is_empty s) ≡ true → s ≢ []
not_made s e = not_empty s (not-true (is_empty s) e)

pub lex_attribute : (s key body rest : List ℕ) → next_part s ≡ attribute key body rest
    → Attribute s key body rest
lex_attribute s key body rest e =
    let g = gap_attribute (not (is_empty (leading_run is_ascii_white_space s))) (behind_run is_ascii_white_space s) key
    body rest e in (
      leading_run is_ascii_white_space s,
      g.2,
      back_split is_ascii_white_space s
          ∙ ap (λ (y : List ℕ). leading_run is_ascii_white_space s ++ y) g.3,
      not_made (leading_run is_ascii_white_space s) g.0,
      front_all is_ascii_white_space s,
      g.1,
      g.4,
    )

done_same : (b c : Bool) (s t : List ℕ) → tag_end b s ≡ tag_end c t → (b ≡ c) × (s ≡ t)
done_same b c s t e = (cc, cc)

valued_no : (key s x : List ℕ) (b : Bool) → value_part key s ≡ tag_end b x → ⊥
valued_no key s x b e = test (first_is 34 s)
    (λ p. let w = rw p at e in quoted_no 34 (drop 1 s) w)
    (λ p. test (first_is 39 s) (λ q. let w = rw (p, q) at e in quoted_no 39 (drop 1 s) w)
    (λ q. let w = rw (p, q) at e in test (is_empty (leading_run is_unquoted_byte s)) (λ r. let v = rw r at w in cc)
    (λ r. let v = rw r at w in cc)))
  where
    quoted_no : (q : ℕ) (s : List ℕ) → quoted_value q key s ≡ tag_end b x → ⊥
    quoted_no q s e = test (is_empty (behind_run (is_other q) s)) (λ r. let w = rw r at e in cc)
        (λ r. let w = rw r at e in cc)

key_no_end : (key s x : List ℕ) (b : Bool) → behind_attribute_name key s ≡ tag_end b x → ⊥
key_no_end key s x b e = test (first_is 61 (behind_run is_ascii_white_space s)) (λ p. let w = rw p at e in
    valued_no key (behind_run is_ascii_white_space (drop 1 (behind_run is_ascii_white_space s))) x b w) (λ p. let w =
    rw p at e in cc)

slash_end : (t x : List ℕ) (slash : Bool) → behind_slash t ≡ tag_end slash x
    → (t ≡ 62 ∷ x) × (slash ≡ true)
slash_end [] x slash e = absurd (cc)
slash_end (c ∷ t) x slash e = test (c == 62)
    (λ p. let w = rw p at e in let m = done_same true slash t x w in (rw (eqb-true c 62 p, m.1) refl, sym m.0))
    (λ p. let w = rw p at e in absurd (cc))

gap_ending : (white : Bool) (t x : List ℕ) (slash : Bool) → behind_gap white t ≡ tag_end slash x
    → t ≡ (optional_slash slash ++ 62 ∷ []) ++ x
gap_ending white [] x slash e = absurd (cc)
gap_ending white (b ∷ t) x slash e =
    elim (if_then (b == 62) (tag_end false t) (cond (b == 47) (behind_slash t) (KeyCase white (b ∷ t)))
    (tag_end slash x) e) [
      | inl w ↦ let m = done_same false slash t x w.1 in rw (← m.0, eqb-true b 62 w.0, m.1) refl
      | inr w ↦ elim (if_then (b == 47) (behind_slash t) (KeyCase white (b ∷ t)) (tag_end slash x) w.1) [
        | inl u ↦ let z =
            slash_end t x slash u.1 in rw (z.1, eqb-true b 47 u.0) (ap (λ (y : List ℕ). 47 ∷ y) z.0)
        | inr u ↦ elim (if_then (white && is_attribute_name (leading_run is_attribute_name_byte (b ∷ t)))
            (behind_attribute_name (leading_run is_attribute_name_byte (b ∷ t))
            (behind_run is_attribute_name_byte (b ∷ t)))
            malformed (tag_end slash x) u.1) [
              | inl v ↦ absurd (key_no_end (leading_run is_attribute_name_byte (b ∷ t))
                  (behind_run is_attribute_name_byte (b ∷ t)) x slash v.1)
              | inr v ↦ absurd (let z = v.1 in cc)
            ]
      ]
    ]

pub lex_ending : (s x : List ℕ) (slash : Bool) → next_part s ≡ tag_end slash x → Ending s slash x
lex_ending s x slash e =
    let g = gap_ending (not (is_empty (leading_run is_ascii_white_space s))) (behind_run is_ascii_white_space s) x slash
    e in (
      leading_run is_ascii_white_space s,
      back_split is_ascii_white_space s ∙ (ap (λ (y : List ℕ). leading_run is_ascii_white_space s ++ y) g
          ∙ sym (append_assoc (leading_run is_ascii_white_space s) (optional_slash slash ++ 62 ∷ []) x)),
      front_all is_ascii_white_space s,
    )

form_same : (a b : List AttributePair) (c d : Bool) (s t : List ℕ) → form a c s ≡ form b d t
    → (a ≡ b) × (c ≡ d) × (s ≡ t)
form_same a b c d s t e = (cc, cc, cc)

with_attribute_form : (key body x : List ℕ) (t : TagForm) (attributes : List AttributePair) (slash : Bool)
    → with_attribute key body t ≡ form attributes slash x
    → (others : List AttributePair) × (t ≡ form others slash x)
    × (attributes ≡ record { name = map to_ascii_lowercase key; value = body } ∷ others)
with_attribute_form key body x no_form attributes slash e = absurd (cc)
with_attribute_form key body x (form others present s) attributes slash e =
    let m =
    form_same (record { name = map to_ascii_lowercase key; value = body } ∷ others) attributes present slash s x
    e in
    (others, rw (m.1, m.2) refl, sym m.0)

value_of : (value spelled rest r y : List ℕ) → Spelt value spelled rest → rest ≡ r ++ y
    → IsValue value r spelled
value_of value spelled rest r y (inl h) q = inl h
value_of value spelled rest r y (inr (inl h)) q = inr (inl h)
value_of value spelled rest r y (inr (inr h)) q =
    let b = halts_cut is_unquoted_byte r y (ap (halts is_unquoted_byte) (sym q) ∙ h.5) in
    inr (inr (h.0, h.1, h.2, h.3, (front_cut is_unquoted_byte spelled r h.4 b).0))

-- what is read as the tag after its name, is that
pub tag_spelled : (k : ℕ) (s x : List ℕ) (attributes : List AttributePair) (slash : Bool)
    → form_within k s ≡ form attributes slash x
    → (r : List ℕ) × (s ≡ r ++ x) × IsTagRest attributes slash r
tag_spelled zero s x attributes slash e = absurd (cc)
tag_spelled (suc k) s x attributes slash e =
    go (next_part s) refl e (λ rest others q. tag_spelled k rest x others slash q)
  where
    go : (l : TagPart) → next_part s ≡ l → form_behind l (form_within k) ≡ form attributes slash x
        → ((rest : List ℕ) (others : List AttributePair) → form_within k rest ≡ form others slash x
        → (r : List ℕ) × (rest ≡ r ++ x) × IsTagRest others slash r)
        → (r : List ℕ) × (s ≡ r ++ x) × IsTagRest attributes slash r
    go malformed q h ih = absurd (cc)
    go (tag_end present t) q h ih =
        let m = form_same [] attributes present slash t x h in
        let w = lex_ending s t present q in
        let end : List ℕ = w.0 ++ (optional_slash present ++ 62 ∷ []) in (
          end,
          w.1 ∙ ap (λ (y : List ℕ). end ++ y) m.2,
          subst (λ (z : Bool). IsTagRest attributes z end) m.1
              (subst (λ (z : List AttributePair). IsTagRest z present end) m.0 (w.0, refl, w.2)),
        )
    go (attribute key body rest) q h ih =
        let m = with_attribute_form key body x (form_within k rest) attributes slash h in
        let i = ih rest m.0 m.1 in
        let a = lex_attribute s key body rest q in
        let e : s ≡ (a.0 ++ (key ++ (a.1 ++ i.0))) ++ x =
        a.2 ∙ (ap (λ (y : List ℕ). a.0 ++ (key ++ (a.1 ++ y))) i.1
        ∙ simp append_assoc) in (
          a.0 ++ (key ++ (a.1 ++ i.0)),
          e,
          subst (λ (z : List AttributePair). IsTagRest z slash (a.0 ++ (key ++ (a.1 ++ i.0)))) (sym m.2)
              (a.0, key, a.1, i.0, refl, a.3, a.4, a.5, refl, value_of a.1 body rest i.0 x a.6 i.1, i.2),
        )

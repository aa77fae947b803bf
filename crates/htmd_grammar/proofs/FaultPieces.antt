-- What the places of a text begin with: tags as they are read, references that are wrong.
use Rattle.std.proofs.Common.{Bool, List, None, Option, Some, [], ap, append_assoc, codes, drop, false, inl, inr}
use Rattle.std.proofs.Common.{length, map, not, refl, suc, sym, take, true, zero, ℕ, ◌&&◌, ◌++◌, ◌+◌, ◌==◌, ◌||◌, ◌∙◌}
use Rattle.std.proofs.Common.{◌∷◌, ◌≡◌, ◌⊎◌}
use Rattle.std.specs.Char.{is_ascii_alphabetic, is_ascii_alphanumeric, is_ascii_digit, is_ascii_hexdigit}
use Rattle.std.specs.Char.{to_ascii_lowercase}
use Rattle.std.specs.List.{list_any}
use Rattle.std.proofs.lemmas.Bool.{not-true, and_parts, or_parts}
use Rattle.std.proofs.Math.Bool.{or-true}
use Rattle.htmd_lexical.specs.Characters.{ampersand, carriage_return, exclamation_mark, greater_than_sign, hyphen}
use Rattle.htmd_lexical.specs.Characters.{less_than_sign, line_feed, number_sign, semicolon, slash}
use Rattle.htmd_lexical.specs.WhiteSpace.{is_ascii_white_space}
use Rattle.htmd_lexical.proofs.Cases.{test}
use Rattle.htmd_lexical.specs.CharacterClasses.{begins_in_any_case, begins_with, behind_run, first_is, is_tag_name}
use Rattle.htmd_lexical.specs.CharacterClasses.{is_tag_name_byte, lacks, leading_run}
use Rattle.htmd_grammar.specs.Comments.{before_comment_end, is_comment_text}
use Rattle.htmd_grammar.specs.Faults.{HasComment, HasEndTag, HasTagForm, has_bad_number, is_bad_number}
use Rattle.htmd_grammar.specs.RawContent.{ends_text, holds_text_alone}
use Rattle.htmd_grammar.specs.References.{Names, Piece, behind, behind_ampersand, behind_number_sign, decode}
use Rattle.htmd_grammar.specs.References.{may_be_numbered, named, number_at, numbered, piece_at, put, stands}
use Rattle.htmd_lexical.specs.Numbers.{number}
use Rattle.htmd_grammar.specs.References.{wrong}
use Rattle.htmd_grammar.specs.Rules.{character_named}
use Rattle.htmd_grammar.specs.ReaderSteps.{has_unknown_reference, is_unknown}
use Rattle.htmd_lexical.specs.TagReading.{TagForm, form, form_within}
use Rattle.htmd_grammar.specs.Tags.{decode_values, with_value}
use Rattle.htmd_lexical.specs.AttributePairs.{AttributePair}
use Rattle.htmd_grammar.specs.declared.fault.FaultKind.{FaultKind}
use Rattle.htmd_grammar.specs.declared.fault.FaultKind.TheVariants.{BadNumber, UnknownReference}
use Rattle.htmd_lexical.proofs.BooleanLemmas.{if_then}
use Rattle.htmd_grammar.proofs.CommentsLemmas.{before_close-append, cut}
use Rattle.htmd_grammar.proofs.ReferencesLemmas.{Skips, piece_fits, put_parts, skips_fit}
use Rattle.htmd_grammar.proofs.Soundness.{end_tag_at}
use Rattle.htmd_lexical.proofs.LeadingRunsLemmas.{back_split}
use Rattle.htmd_grammar.proofs.TagReadingLemmas.{form_read, halts_name, rest_halts, white_back}
use Rattle.htmd_grammar.proofs.TagsLemmas.{values_parts}
use Rattle.htmd_grammar.proofs.TextLemmas.{gap_no_name, name_cut, name_head, stop_head}

-- ---- references

-- only `&` begins a reference
pub no_number : (names : Names) (b : ℕ) (s : List ℕ) → (b == ampersand) ≡ false
    → is_bad_number (piece_at names b s) ≡ false
no_number names b s e = test (b == carriage_return) (λ t. test (first_is line_feed s) (λ q. rw (e, t, q) refl)
    (λ q. rw (e, t, q) refl))
    (λ t. rw (e, t) refl)

numbers_right_from : (names : Names) (s : List ℕ) (n : ℕ) (u : List ℕ) → decode names n s ≡ Some u
    → Skips n s
    → has_bad_number names s ≡ false
numbers_right_from names [] n u d k = refl
numbers_right_from names (b ∷ s) zero u d k =
    let p = put_parts (piece_at names b s) (λ n. decode names n s) u d in
    rw (p.3, numbers_right_from names s p.0 p.2 p.4 (skips_fit p.0 s (piece_fits names b s p.1 p.0 p.3))) refl
numbers_right_from names (b ∷ s) (suc n) u d k =
    let q = and_parts (not (b == ampersand)) (lacks ampersand (take n s)) k in
    rw (no_number names b s (not-true (b == ampersand) q.0), numbers_right_from names s n u d q.1) refl

-- what is decoded has no wrong number
pub numbers_right : (names : Names) (s u : List ℕ) → decode names 0 s ≡ Some u
    → has_bad_number names s ≡ false
numbers_right names s u d = numbers_right_from names s 0 u d refl

-- a piece that is wrong is a reference of one of two kinds
abbrev pub IsWrongReference : FaultKind → Type 0
IsWrongReference kind = (kind ≡ UnknownReference) ⊎ (kind ≡ BadNumber)

wrong_same : (k l : FaultKind) → wrong k ≡ wrong l → k ≡ l
wrong_same k l e = cc

number_wrong : (p : ℕ → Bool) (base n : ℕ) (s : List ℕ) (k : FaultKind) → number_at p base n s ≡ wrong k
    → BadNumber ≡ k
number_wrong p base n s k e =
    elim (if_then (first_is semicolon (behind_run p s) && not (first_is semicolon s))
    (numbered (suc (n + length (leading_run p s))) (number base 0 (leading_run p s))) (wrong BadNumber) (wrong k) e) [
      | inl w ↦ elim (if_then (may_be_numbered (number base 0 (leading_run p s))) (stands _ _) (wrong BadNumber)
          (wrong k) w.1) [ inl u ↦ absurd (let z = u.1 in cc) | inr u ↦ wrong_same BadNumber k u.1 ]
      | inr w ↦ wrong_same BadNumber k w.1
    ]

sign_wrong : (s : List ℕ) (k : FaultKind) → behind_number_sign s ≡ wrong k → BadNumber ≡ k
sign_wrong [] k e = wrong_same BadNumber k e
sign_wrong (b ∷ s) k e = elim (if_then (begins_in_any_case (codes "x") (b ∷ s)) (number_at is_ascii_hexdigit 16 2 s)
    (number_at is_ascii_digit 10 1 (b ∷ s)) (wrong k) e) [
      | inl w ↦ number_wrong is_ascii_hexdigit 16 2 s k w.1
      | inr w ↦ number_wrong is_ascii_digit 10 1 (b ∷ s) k w.1
    ]

named_wrong : (n : ℕ) (o : Option ℕ) (k : FaultKind) → named n o ≡ wrong k → UnknownReference ≡ k
named_wrong n None k e = wrong_same UnknownReference k e
named_wrong n (Some c) k e = absurd (cc)

pub piece_wrong : (names : Names) (b : ℕ) (s : List ℕ) (k : FaultKind) → piece_at names b s ≡ wrong k
    → IsWrongReference k
piece_wrong names b s k e = elim (if_then (b == ampersand) (behind_ampersand names s) _ (wrong k) e) [
  | inl w ↦ elim (if_then (first_is number_sign s) (behind_number_sign (drop 1 s)) _ (wrong k) w.1) [
    | inl u ↦ inr (sym (sign_wrong (drop 1 s) k u.1))
    | inr u ↦ elim (if_then (first_is semicolon (behind_run is_ascii_alphanumeric s) && not (first_is semicolon s))
        (named (suc (length (leading_run is_ascii_alphanumeric s)))
        (character_named names (leading_run is_ascii_alphanumeric s))) _ (wrong k) u.1) [
          | inl y ↦ inl (sym (named_wrong (suc (length (leading_run is_ascii_alphanumeric s)))
              (character_named names (leading_run is_ascii_alphanumeric s)) k y.1))
          | inr y ↦ absurd (let z = y.1 in cc)
        ]
  ]
  | inr w ↦ elim (if_then (b == carriage_return) _ (stands 0 (b ∷ [])) (wrong k) w.1) [
    | inl u ↦ elim (if_then (first_is line_feed s) (stands 1 (line_feed ∷ [])) (stands 0 (line_feed ∷ []))
        (wrong k) u.1) [
          | inl y ↦
              absurd (let z = y.1 in cc)
          | inr y ↦ absurd (let z = y.1 in cc)
        ]
    | inr u ↦ absurd (let z = u.1 in cc)
  ]
]

-- what isn't decoded has one of the two
wrong_from : (names : Names) (s : List ℕ) (n : ℕ) → decode names n s ≡ None
    → has_unknown_reference names s ≡ false
    → has_bad_number names s ≡ true
wrong_from names [] n d k = absurd (cc)
wrong_from names (b ∷ s) (suc n) d k =
    let q = or_parts (is_unknown (piece_at names b s)) (has_unknown_reference names s) k in
    rw (wrong_from names s n d q.1) (or-true (is_bad_number (piece_at names b s)))
wrong_from names (b ∷ s) zero d k =
    let q = or_parts (is_unknown (piece_at names b s)) (has_unknown_reference names s) k in
    go (piece_at names b s) refl d q.0 (λ m j. wrong_from names s m j q.1)
  where
    nothing_behind : (v : List ℕ) (o : Option (List ℕ)) → behind v o ≡ None → o ≡ None
    nothing_behind v None e = refl
    nothing_behind v (Some u) e = absurd (cc)

    go : (p : Piece) → piece_at names b s ≡ p → put p (λ n. decode names n s) ≡ None → is_unknown p ≡ false
        → ((m : ℕ) → decode names m s ≡ None → has_bad_number names s ≡ true)
        → (is_bad_number p || has_bad_number names s) ≡ true
    go (stands m v) e d u ih = ih m (nothing_behind v (decode names m s) d)
    go (wrong k) e d u ih = elim (piece_wrong names b s k e) [
      | inl w ↦ absurd (let z = rw w at u in cc)
      | inr w ↦ rw w refl
    ]

-- the values of attributes
pub values_right : (names : Names) (spelled attributes : List AttributePair)
    → decode_values names spelled ≡ Some attributes
    → list_any (λ a. has_bad_number names a.value) spelled ≡ false
values_right names [] attributes d = refl
values_right names (a ∷ spelled) attributes d =
    let p = values_parts a.name (decode names 0 a.value) (decode_values names spelled) attributes d in
    rw (numbers_right names a.value p.0 p.2, values_right names spelled p.1 p.3) refl

pub values_wrong : (names : Names) (spelled : List AttributePair) → decode_values names spelled ≡ None
    → list_any (λ a. has_unknown_reference names a.value) spelled ≡ false
    → list_any (λ a. has_bad_number names a.value) spelled ≡ true
values_wrong names [] d k = absurd (cc)
values_wrong names (a ∷ spelled) d k =
    let q =
    or_parts (has_unknown_reference names a.value) (list_any (λ a. has_unknown_reference names a.value) spelled)
    k in
    go (decode names 0 a.value) refl (decode_values names spelled) refl d q.0 (λ e. values_wrong names spelled e q.1)
  where
    go : (o : Option (List ℕ)) → decode names 0 a.value ≡ o → (r : Option (List AttributePair))
        → decode_values names spelled ≡ r → with_value a.name o r ≡ None
        → has_unknown_reference names a.value ≡ false
        → (decode_values names spelled ≡ None → list_any (λ a. has_bad_number names a.value) spelled ≡ true)
        → (has_bad_number names a.value || list_any (λ a. has_bad_number names a.value) spelled) ≡ true
    go None e r f w u ih = rw (wrong_from names a.value 0 e u) refl
    go (Some v) e None f w u ih = rw (ih f) (or-true (has_bad_number names a.value))
    go (Some v) e (Some r) f w u ih = absurd (cc)

-- ---- tags

-- the name of the tag whose text after `<` is given, and what is read after it
abbrev pub name_read : List ℕ → List ℕ
name_read w = map to_ascii_lowercase (leading_run is_tag_name_byte w)

abbrev pub form_read_behind : List ℕ → TagForm
form_read_behind w = form_within (suc (length (behind_run is_tag_name_byte w))) (behind_run is_tag_name_byte w)

-- a start tag that stands there is the one that is read
pub form_is_read : (w n : List ℕ) (spelled : List AttributePair) (present : Bool)
    → HasTagForm (less_than_sign ∷ w) n spelled present
    → (is_tag_name (leading_run is_tag_name_byte w) ≡ true) × (name_read w ≡ n) × (x : List ℕ)
    × (form_read_behind w ≡ form spelled present x)
form_is_read w n spelled present h =
    let t = h.3 in
    let e : w ≡ t.0 ++ (t.1 ++ h.1) =
    tail_same (h.2 ∙ (ap (λ (y : List ℕ). y ++ h.1) t.2
    ∙ ap (λ (y : List ℕ). less_than_sign ∷ y) (append_assoc t.0 t.1 h.1)))
    in
    let c = name_cut t.0 (t.1 ++ h.1) t.3 (halts_name (t.1 ++ h.1) (rest_halts spelled present t.1 h.1 t.5).0) in
    let l : leading_run is_tag_name_byte w ≡ t.0 = ap (leading_run is_tag_name_byte) e ∙ c.0 in
    let b : behind_run is_tag_name_byte w ≡ t.1 ++ h.1 = ap (behind_run is_tag_name_byte) e ∙ c.1 in (
      ap is_tag_name l ∙ t.3,
      ap (map to_ascii_lowercase) l
          ∙ t.4,
      h.1,
      ap (λ (y : List ℕ). form_within (suc (length y)) y) b ∙ form_read spelled present t.1 h.1 t.5,
    )
  where
    tail_same : {u : List ℕ} → less_than_sign ∷ w ≡ less_than_sign ∷ u → w ≡ u
    tail_same q = cc

form_parts : (a b : List AttributePair) (c d : Bool) (s t : List ℕ) → form a c s ≡ form b d t
    → (a ≡ b) × (c ≡ d)
form_parts a b c d s t e = (cc, cc)

-- so there is no other
pub same_form : (w n x : List ℕ) (spelled : List AttributePair) (present : Bool) (m : List ℕ)
    (others : List AttributePair) (slashed : Bool) → name_read w ≡ n
    → form_read_behind w ≡ form spelled present x
    → HasTagForm (less_than_sign ∷ w) m others slashed
    → (m ≡ n) × (others ≡ spelled) × (slashed ≡ present)
same_form w n x spelled present m others slashed e f h =
    let r = form_is_read w m others slashed h in
    let p = form_parts others spelled slashed present r.2 x (sym r.3 ∙ f) in
    (sym r.1 ∙ e, p.0, p.1)

-- it begins with `<` and a letter
pub form_letter : (d : ℕ) (w n : List ℕ) (spelled : List AttributePair) (present : Bool)
    → HasTagForm (less_than_sign ∷ d ∷ w) n spelled present → is_ascii_alphabetic d ≡ true
form_letter d w n spelled present h =
    let t = h.3 in
    let k = name_head t.0 t.3 in
    let e : less_than_sign ∷ d ∷ w ≡ less_than_sign ∷ k.0 ∷ (k.1 ++ (t.1 ++ h.1)) = h.2
    ∙ (ap (λ (y : List ℕ). y ++ h.1) (t.2 ∙ ap (λ (y : List ℕ). less_than_sign ∷ (y ++ t.1)) k.2)
    ∙ ap (λ (y : List ℕ). less_than_sign ∷ k.0 ∷ y) (append_assoc k.1 t.1 h.1)) in
    ap is_ascii_alphabetic (second e) ∙ k.3
  where
    second : {b : ℕ} {u : List ℕ} → less_than_sign ∷ d ∷ w ≡ less_than_sign ∷ b ∷ u → d ≡ b
    second q = cc

-- an end tag that stands there is the one that is read
pub end_is_read : (d : ℕ) (w n : List ℕ) → HasEndTag (less_than_sign ∷ d ∷ w) n
    → (d ≡ slash) × (is_tag_name (leading_run is_tag_name_byte w) ≡ true)
    × (first_is greater_than_sign (behind_run is_ascii_white_space (behind_run is_tag_name_byte w)) ≡ true)
    × (name_read w ≡ n)
end_is_read d w n h =
    let t = h.3 in
    let e : less_than_sign ∷ d ∷ w ≡ less_than_sign ∷ slash ∷ (t.0 ++ (t.1 ++ (greater_than_sign ∷ h.1))) =
    h.2 ∙ (ap (λ (y : List ℕ). y ++ h.1) t.2 ∙ ap (λ (y : List ℕ). less_than_sign ∷ slash ∷ y)
    (append_assoc t.0 (t.1 ++ greater_than_sign ∷ []) h.1
    ∙ ap (λ (y : List ℕ). t.0 ++ y) (append_assoc t.1 (greater_than_sign ∷ []) h.1))) in
    let q = parts e in
    let c = name_cut t.0 (t.1 ++ (greater_than_sign ∷ h.1)) t.3 (gap_no_name t.1 h.1 t.4) in
    let l : leading_run is_tag_name_byte w ≡ t.0 = ap (leading_run is_tag_name_byte) q.1 ∙ c.0 in
    let b : behind_run is_tag_name_byte w ≡ t.1 ++ (greater_than_sign ∷ h.1) = ap (behind_run is_tag_name_byte) q.1
    ∙ c.1 in (
      q.0,
      ap is_tag_name l ∙ t.3,
      ap (λ (y : List ℕ). first_is greater_than_sign (behind_run is_ascii_white_space y)) b
          ∙ ap (first_is greater_than_sign) (white_back t.1 (greater_than_sign ∷ h.1) t.4 refl),
      ap (map to_ascii_lowercase) l ∙ t.5,
    )
  where
    parts : {u : List ℕ} → less_than_sign ∷ d ∷ w ≡ less_than_sign ∷ slash ∷ u
        → (d ≡ slash) × (w ≡ u)
    parts q = (cc, cc)

-- a comment begins with `<!`, and is the one that is read
pub comment_is_read : (d : ℕ) (w : List ℕ) → HasComment (less_than_sign ∷ d ∷ w)
    → (d ≡ exclamation_mark) × (begins_with (codes "--") w ≡ true) × (inner rest : List ℕ)
    × (before_comment_end (drop 2 w) ≡ cut inner rest) × (is_comment_text inner ≡ true)
comment_is_read d w h =
    let i = h.4 in
    let e : less_than_sign ∷ d ∷ w ≡ less_than_sign ∷ exclamation_mark ∷ hyphen ∷ hyphen ∷ (i.0 ++ h.1) =
    h.3
    ∙ ap (λ (y : List ℕ). y ++ h.1) i.2 in
    let q = parts e in (
      q.0,
      ap (begins_with (codes "--")) q.1,
      i.1,
      h.1,
      ap (λ (y : List ℕ). before_comment_end (drop 2 y)) q.1
          ∙ before_close-append i.0 h.1 i.1 [] i.3,
      i.4,
    )
  where
    parts : {u : List ℕ} → less_than_sign ∷ d ∷ w ≡ less_than_sign ∷ exclamation_mark ∷ u
        → (d ≡ exclamation_mark) × (w ≡ u)
    parts q = (cc, cc)

-- what is read as an end tag is one
pub end_tag_there : (w : List ℕ) → is_tag_name (leading_run is_tag_name_byte w) ≡ true
    → first_is greater_than_sign (behind_run is_ascii_white_space (behind_run is_tag_name_byte w)) ≡ true
    → HasEndTag (less_than_sign ∷ slash ∷ w) (name_read w)
end_tag_there w i j =
    let t = end_tag_at (leading_run is_tag_name_byte w) (behind_run is_tag_name_byte w) i j in (
      t.0,
      drop 1 (behind_run is_ascii_white_space (behind_run is_tag_name_byte w)),
      ap (λ (y : List ℕ). less_than_sign ∷ slash ∷ y)
          (back_split is_tag_name_byte w) ∙ t.1,
      t.2,
    )

-- what ends a text has two characters, the first is `<`
pub two_bytes : (z : Bool) (n s : List ℕ) → ends_text z n s ≡ true
    → (d : ℕ) × (x : List ℕ) × (s ≡ less_than_sign ∷ d ∷ x)
two_bytes z n [] e = let h = stop_head z n [] e in absurd (let k = h.1 in cc)
two_bytes z n (b ∷ []) e = absurd (no_one (test (holds_text_alone z n) (λ t. rw t at e) (λ t. rw t at e)))
  where
    no_one : false ≡ true → ⊥
    no_one q = cc
two_bytes z n (b ∷ d ∷ x) e = let h = (stop_head z n (b ∷ d ∷ x) e).1 in
    (d, x, let i : b ≡ less_than_sign = cc in rw i refl)

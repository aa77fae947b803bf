-- The parts of a tag, and that each is shorter than what it stands in.
use Rattle.std.proofs.Common.{◌≡◌, ℕ, zero, suc, ◌+◌, ◌-◌, ◌<◌, ◌≤◌, Bool, true, false, List, [], ◌∷◌, ◌++◌, length}
use Rattle.std.proofs.Common.{take}
use Rattle.std.proofs.Common.{drop, get_or, refl, sym, ◌∙◌, ap, subst, arith, append_assoc}
use Rattle.std.proofs.lemmas.Bool.{eqb-true}
use Rattle.std.proofs.lemmas.List.{drop_more}
use Rattle.std.proofs.lemmas.Slice.{between_to_end}
use Rattle.std.proofs.lemmas.Str.{IsCharBoundary-from_rest}
use Rattle.std.specs.Prelude.{◌==◌}
use Rattle.std.specs.Str.{IsCharBoundary}
use Rattle.htmd_lexical.proofs.Cases.{test}
use Rattle.htmd_lexical.specs.AttributePairs.{AttributePair}
use Rattle.htmd_lexical.specs.Characters.{greater_than_sign}
use Rattle.htmd_lexical.specs.CharacterClasses.{first_is, leading_run, behind_run}
use Rattle.htmd_lexical.specs.TagReading.{TagPart, malformed, tag_end, attribute}
use Rattle.htmd_lexical.proofs.CharacterClassesLemmas.{take_leading_run, drop_leading_run}
use Rattle.htmd_lexical.proofs.RunsLemmas.{behind_within}
use Rattle.htmd_html5_tokens.specs.Tags.{is_attribute_name_byte, is_unquoted_byte, is_gap_byte, ends_in_slash}
use Rattle.htmd_html5_tokens.specs.Tags.{value_part, after_attribute_name, after_gap, next_part}
use Rattle.htmd_html5_tokens.specs.Contents.{name_of}
use Rattle.htmd_html5_tokens.specs.Tags.{TagForm, unended, ended, with_attribute, form_after, form_within, tag_form}
use Rattle.htmd_html5_tokens.specs.Tags.{attribute_of, firsts, tag_token}
use Rattle.htmd_html5_tokens.specs.Tokens.{TagValue, TokenValue, end_of_file, Read}
use Rattle.htmd_html5_tokens.specs.TagViews.{with_attributes, attribute_part, denoted}
use Rattle.htmd_scanning.proofs.RunCuts.{cut_before_ascii}
use Rattle.htmd_scanning.proofs.PartSizesLemmas as parts
use Rattle.htmd_scanning.proofs.PartSizesLemmas.{size_of, rest_shorter}
use Rattle.htmd_html5_tokens.proofs.RunCuts.{outside_attribute_name}

-- ---- the name of an attribute

module _ (s : List ℕ) (n : ℕ) (filled : 0 < length s)
    (run : n ≡ length (leading_run is_attribute_name_byte (take (length s - 1) (drop 1 s)))) where
  here : n ≡ length (leading_run is_attribute_name_byte (drop 1 s))
  here =
      run ∙ ap (λ t. length (leading_run is_attribute_name_byte t)) (between_to_end s 1 (length s) (omega arith))

  pub attribute_cut : IsCharBoundary s (1 + n)
  attribute_cut =
      IsCharBoundary-from_rest s 1 n (omega arith)
      (subst (IsCharBoundary (drop 1 s)) (sym here)
      (cut_before_ascii is_attribute_name_byte (drop 1 s) outside_attribute_name))

  whole : s ≡ get_or s 0 0 ∷ drop 1 s
  whole = drop_more s 0 0 filled

  pub attribute_split : (name rest : List ℕ) → name ≡ take (1 + n) s → rest ≡ drop (1 + n) s
      → after_attribute_name name rest ≡ attribute_part s
  attribute_split name rest e f = go s n filled here whole e f
    where
      go : (s : List ℕ) (n : ℕ) → 0 < length s → n ≡ length (leading_run is_attribute_name_byte (drop 1 s))
          → s ≡ get_or s 0 0 ∷ drop 1 s
          → name ≡ take (1 + n) s → rest ≡ drop (1 + n) s
          → after_attribute_name name rest ≡ attribute_part s
      go [] n l h w e f = absurd (omega arith)
      go (b ∷ t) n l h w e f =
          let k : 1 + n ≡ suc n = omega arith in
          let front : name ≡ b ∷ leading_run is_attribute_name_byte t =
          e ∙ ap (λ m. take m (b ∷ t)) k ∙ ap (λ m. b ∷ take m t) h
          ∙ ap (λ u. b ∷ u) (take_leading_run is_attribute_name_byte t) in
          let back : rest ≡ behind_run is_attribute_name_byte t =
          f ∙ ap (λ m. drop m (b ∷ t)) k ∙ ap (λ m. drop m t) h ∙ drop_leading_run is_attribute_name_byte t in
          rw (front, back) refl

-- ---- the gap

pub ends_last : (s : List ℕ) → 0 < length s → ends_in_slash s ≡ (get_or s (length s - 1) 0 == 47)
ends_last [] l = absurd (omega arith)
ends_last (b ∷ []) l = refl
ends_last (b ∷ c ∷ t) l =
    let k : suc (suc (length t)) - 1 ≡ suc (suc (length t) - 1) = omega arith in
    ends_last (c ∷ t) (omega arith) ∙ ap (λ n. get_or (b ∷ c ∷ t) n 0 == 47) (sym k)

-- after a gap
pub gap_nothing : (ends : Bool) (s : List ℕ) → length s ≡ 0 → malformed ≡ after_gap ends s
gap_nothing ends [] e = refl
gap_nothing ends (b ∷ s) e = absurd (omega arith)

pub gap_end : (ends : Bool) (s rest : List ℕ) → first_is 62 s ≡ true → rest ≡ drop 1 s
    → tag_end ends rest ≡ after_gap ends s
gap_end ends [] rest e f = absurd (cc)
gap_end ends (b ∷ s) rest e f = rw (e, f) refl

pub gap_attribute : (ends : Bool) (s : List ℕ) → (length s ≡ 0 → ⊥) → first_is 62 s ≡ false
    → attribute_part s ≡ after_gap ends s
gap_attribute ends [] l e = absurd (l refl)
gap_attribute ends (b ∷ s) l e = rw e refl

-- ---- each part takes at least one character

value_size : (name s : List ℕ) → size_of (value_part name s) ≤ suc (length s)
value_size name s = parts.value_size name s _ (let k = behind_within is_unquoted_byte s in omega arith)

name_size : (name s : List ℕ) → size_of (after_attribute_name name s) ≤ suc (length s)
name_size name s = parts.name_size name s (value_part name) (value_size name)

gap_size : (ends : Bool) (s : List ℕ) → size_of (after_gap ends s) ≤ length s
gap_size ends [] = omega arith
gap_size ends (b ∷ s) =
    let n = name_size (b ∷ leading_run is_attribute_name_byte s) (behind_run is_attribute_name_byte s) in
    let k = behind_within is_attribute_name_byte s in
    test (b == 62) (λ e. rw e (omega arith)) (λ e. rw e (omega arith))

part_size : (s : List ℕ) → size_of (next_part s) ≤ length s
part_size s =
    let b = gap_size (ends_in_slash (leading_run is_gap_byte s)) (behind_run is_gap_byte s) in
    let c = behind_within is_gap_byte s in
    omega arith

pub part_shorter : (s name value rest : List ℕ) → attribute name value rest ≡ next_part s
    → length rest < length s
part_shorter s name value rest = rest_shorter (next_part s) s name value rest (part_size s)

-- ---- the form of a tag

abbrev pair : List ℕ → List ℕ → AttributePair
pair name value = record { name = name; value = value }

-- the number of attributes that may be read doesn't matter, once it is no less than that of characters
form_same : (j k : ℕ) (s : List ℕ) → length s < j → length s < k → form_within j s ≡ form_within k s
form_same zero k s a b = absurd (omega arith)
form_same (suc j) zero s a b = absurd (omega arith)
form_same (suc j) (suc k) s a b =
    by_part (next_part s) refl (λ rest l. form_same j k rest (omega arith) (omega arith))
  where
    by_part : (p : TagPart) → p ≡ next_part s
        → ((rest : List ℕ) → length rest < length s → form_within j rest ≡ form_within k rest)
        → form_after p (form_within j) ≡ form_after p (form_within k)
    by_part malformed e go = refl
    by_part (tag_end slash t) e go = refl
    by_part (attribute name value t) e go =
        ap (with_attribute (pair name value)) (go t (part_shorter s name value t e))

with_one_more : (pairs : List AttributePair) (a : AttributePair) (f : TagForm)
    → with_attributes (pairs ++ (a ∷ [])) f ≡ with_attributes pairs (with_attribute a f)
with_one_more pairs a unended = refl
with_one_more pairs a (ended more slash s) =
    ap (λ (x : List AttributePair). ended x slash s) (append_assoc pairs (a ∷ []) more)

denoted_with : (a : AttributePair) (f : TagForm)
    → denoted (with_attribute a f) ≡ with_attribute (attribute_of a) (denoted f)
denoted_with a unended = refl
denoted_with a (ended more slash s) = refl

-- what one more attribute denotes
pub denoted_more : (s name value rest : List ℕ) (pairs : List AttributePair) (whole : TagForm)
    → attribute name value rest ≡ next_part s
    → with_attributes pairs (denoted (form_within (suc (length s)) s)) ≡ whole
    → with_attributes (pairs ++ (attribute_of (pair name value) ∷ []))
    (denoted (form_within (suc (length rest)) rest))
    ≡ whole
denoted_more s name value rest pairs whole e h =
    let l = part_shorter s name value rest e in
    let g : form_within (suc (length s)) s ≡ with_attribute (pair name value) (form_within (length s) rest) =
    sym (ap (λ (p : TagPart). form_after p (form_within (length s))) e) in
    let f : form_within (suc (length rest)) rest ≡ form_within (length s) rest =
    form_same (suc (length rest)) (length s) rest (omega arith) l in
    with_one_more pairs (attribute_of (pair name value)) _
    ∙ (ap (λ (x : TagForm). with_attributes pairs (with_attribute (attribute_of (pair name value)) (denoted x))) f
    ∙ (ap (with_attributes pairs) (sym (denoted_with (pair name value) (form_within (length s) rest)))
    ∙ (ap (λ (x : TagForm). with_attributes pairs (denoted x)) (sym g) ∙ h)))

-- the token of a tag, by what its attributes denote
pub token_denoted : (kind : TagValue → TokenValue) (name rest : List ℕ) (f : TagForm) (pairs : List AttributePair)
    (slash : Bool) → denoted f ≡ ended pairs slash rest
    → tag_token kind name f
    ≡ record {
      token = kind (record { name = name_of name; attributes = firsts [] pairs; self_closing = slash });
      rest = rest;
    }
token_denoted kind name rest unended pairs slash e = absurd (cc)
token_denoted kind name rest (ended spelled closing s) pairs slash e =
    ap (λ (x : TagForm). tag_with kind name x) e
  where
    tag_with : (TagValue → TokenValue) → List ℕ → TagForm → Read
    tag_with kind name unended = record { token = end_of_file; rest = [] }
    tag_with kind name (ended pairs slash s) = record {
      token = kind (record { name = name_of name; attributes = firsts [] pairs; self_closing = slash });
      rest = s;
    }

pub unended_denoted : (kind : TagValue → TokenValue) (name : List ℕ) (f : TagForm) → denoted f ≡ unended
    → tag_token kind name f ≡ record { token = end_of_file; rest = [] }
unended_denoted kind name unended e = refl
unended_denoted kind name (ended spelled closing s) e = absurd (cc)

-- a tag with nothing but a name
pub plain_form : (s rest : List ℕ) → first_is greater_than_sign s ≡ true → rest ≡ drop 1 s
    → ended [] false rest ≡ tag_form s
plain_form [] rest e f = absurd (cc)
plain_form (b ∷ s) rest e f = by_byte b (eqb-true b 62 e)
  where
    by_byte : (b : ℕ) → b ≡ 62 → ended [] false rest ≡ tag_form (b ∷ s)
    by_byte b at = rw (at, f) refl

-- what follows a tag
abbrev pub size_of_rest : TagForm → ℕ
size_of_rest unended = 0
size_of_rest (ended spelled slash s) = length s

rest_with : (a : AttributePair) (f : TagForm) → size_of_rest (with_attribute a f) ≡ size_of_rest f
rest_with a unended = refl
rest_with a (ended spelled slash s) = refl

-- what follows a tag is no longer than what follows its name
pub form_size : (k : ℕ) (s : List ℕ) → size_of_rest (form_within k s) ≤ length s
form_size zero s = omega arith
form_size (suc k) s = by_part (next_part s) (part_size s) (λ rest. form_size k rest)
  where
    by_part : (p : TagPart) → size_of p ≤ length s
        → ((rest : List ℕ) → size_of_rest (form_within k rest) ≤ length rest)
        → size_of_rest (form_after p (form_within k)) ≤ length s
    by_part malformed l go = omega arith
    by_part (tag_end slash t) l go = omega arith
    by_part (attribute name value t) l go =
        let e = rest_with (pair name value) (form_within k t) in let g = go t in omega arith

-- The parts of a tag, and that each is shorter than what it stands in.
use Rattle.std.proofs.Common.{◌≡◌, ℕ, zero, suc, ◌+◌, ◌-◌, ◌<◌, ◌≤◌, true, false, List, [], ◌∷◌, length, take}
use Rattle.std.proofs.Common.{drop, refl, sym, ◌∙◌, ap, arith, Some, None}
use Rattle.std.specs.Prelude.{◌==◌}
use Rattle.htmd_lexical.proofs.Cases.{test}
use Rattle.htmd_lexical.specs.CharacterClasses.{first_is, leading_run, behind_run}
use Rattle.htmd_lexical.specs.TagReading.{TagPart, malformed, tag_end, attribute}
use Rattle.htmd_lexical.proofs.RunsLemmas.{behind_within, run_within, take_run, drop_run}
use Rattle.htmd_scanning.proofs.PartSizesLemmas as parts
use Rattle.htmd_scanning.proofs.PartSizesLemmas.{size_of, rest_shorter}
use Rattle.htmd_encodings.specs.declared.attributes.Attributes.{Attributes}
use Rattle.htmd_encodings.specs.Attributes.{is_gap_byte, is_name_byte, is_unquoted_byte}
use Rattle.htmd_encodings.specs.Attributes.{value_part, after_name, after_gap, next_part}
use Rattle.htmd_encodings.specs.Attributes.{Tag, no_attributes, with_attribute, tag, tag_after, tag_within}
use Rattle.htmd_encodings.specs.Views.{attribute_part}

-- ---- an attribute, whose name is its first byte and more

pub attribute_split : (s more name rest : List ℕ) → 0 < length s → more ≡ leading_run is_name_byte (drop 1 s)
    → name ≡ take (1 + length more) s → rest ≡ drop (1 + length more) s
    → after_name name rest ≡ attribute_part s
attribute_split [] more name rest l h e f = absurd (omega arith)
attribute_split (b ∷ t) more name rest l h e f =
    let k : 1 + length more ≡ suc (length (leading_run is_name_byte t)) =
    ap (λ (u : List ℕ). 1 + length u) h ∙ omega arith in
    let front : name ≡ b ∷ leading_run is_name_byte t =
    e ∙ ap (λ m. take m (b ∷ t)) k ∙ ap (λ u. b ∷ u) (take_run is_name_byte t) in
    let back : rest ≡ behind_run is_name_byte t = f ∙ ap (λ m. drop m (b ∷ t)) k ∙ drop_run is_name_byte t in
    rw (front, back) refl

pub attribute_cut : (s more : List ℕ) → 0 < length s → more ≡ leading_run is_name_byte (drop 1 s)
    → 1 + length more ≤ length s
attribute_cut [] more l h = absurd (omega arith)
attribute_cut (b ∷ t) more l h = let k = run_within is_name_byte t in rw h (omega arith)

-- ---- after a gap

pub gap_end : (s rest : List ℕ) → first_is 62 s ≡ true → rest ≡ drop 1 s
    → tag_end false rest ≡ after_gap s
gap_end [] rest e f = absurd (cc)
gap_end (b ∷ s) rest e f = rw (e, f) refl

pub gap_attribute : (s : List ℕ) → first_is 62 s ≡ false → attribute_part s ≡ after_gap s
gap_attribute [] e = refl
gap_attribute (b ∷ s) e = rw e refl

-- ---- each part takes at least one byte

value_size : (name s : List ℕ) → size_of (value_part name s) ≤ suc (length s)
value_size name s = parts.value_size name s _ (let k = behind_within is_unquoted_byte s in omega arith)

name_size : (name s : List ℕ) → size_of (after_name name s) ≤ suc (length s)
name_size name s = parts.name_size name s (value_part name) (value_size name)

gap_size : (s : List ℕ) → size_of (after_gap s) ≤ length s
gap_size [] = omega arith
gap_size (b ∷ s) =
    let n = name_size (b ∷ leading_run is_name_byte s) (behind_run is_name_byte s) in
    let k = behind_within is_name_byte s in
    test (b == 62) (λ e. rw e (omega arith)) (λ e. rw e (omega arith))

part_size : (s : List ℕ) → size_of (next_part s) ≤ length s
part_size s =
    let b = gap_size (behind_run is_gap_byte s) in
    let c = behind_within is_gap_byte s in
    omega arith

pub part_shorter : (s name value rest : List ℕ) → attribute name value rest ≡ next_part s
    → length rest < length s
part_shorter s name value rest = rest_shorter (next_part s) s name value rest (part_size s)

-- ---- a tag

-- the number of attributes that may be read doesn't matter, once it is more than that of bytes
tag_same : (j k : ℕ) (a : Attributes) (s : List ℕ) → length s < j → length s < k
    → tag_within j a s ≡ tag_within k a s
tag_same zero k a s l m = absurd (omega arith)
tag_same (suc j) zero a s l m = absurd (omega arith)
tag_same (suc j) (suc k) a s l m =
    by_part (next_part s) refl (λ b rest o. tag_same j k b rest (omega arith) (omega arith))
  where
    by_part : (p : TagPart) → p ≡ next_part s
        → ((b : Attributes) (rest : List ℕ) → length rest < length s
        → tag_within j b rest ≡ tag_within k b rest)
        → tag_after p a (tag_within j) ≡ tag_after p a (tag_within k)
    by_part malformed e go = refl
    by_part (tag_end slash t) e go = refl
    by_part (attribute name value t) e go = go (with_attribute a name value) t (part_shorter s name value t e)

-- one more attribute
pub tag_more : (s name value rest : List ℕ) (a b : Attributes) (whole : Tag)
    → attribute name value rest ≡ next_part s → b ≡ with_attribute a name value
    → tag_within (suc (length s)) a s ≡ whole → tag_within (suc (length rest)) b rest ≡ whole
tag_more s name value rest a b whole e f h =
    let l = part_shorter s name value rest e in
    let g : tag_within (suc (length s)) a s ≡ tag_within (length s) (with_attribute a name value) rest =
    sym (ap (λ (p : TagPart). tag_after p a (tag_within (length s))) e) in
    let same = tag_same (suc (length rest)) (length s) (with_attribute a name value) rest (omega arith) l in
    ap (λ (x : Attributes). tag_within (suc (length rest)) x rest) f ∙ (same ∙ (sym g ∙ h))

-- what follows a tag is no longer than what follows its name
abbrev pub size_of_rest : Tag → ℕ
size_of_rest None = 0
size_of_rest (Some (a, s)) = length s

within_size : (k : ℕ) (a : Attributes) (s : List ℕ) → size_of_rest (tag_within k a s) ≤ length s
within_size zero a s = omega arith
within_size (suc k) a s = by_part (next_part s) (part_size s) (λ b rest. within_size k b rest)
  where
    by_part : (p : TagPart) → size_of p ≤ length s
        → ((b : Attributes) (rest : List ℕ) → size_of_rest (tag_within k b rest) ≤ length rest)
        → size_of_rest (tag_after p a (tag_within k)) ≤ length s
    by_part malformed l go = omega arith
    by_part (tag_end slash t) l go = omega arith
    by_part (attribute name value t) l go = let g = go (with_attribute a name value) t in omega arith

pub tag_size : (s : List ℕ) → size_of_rest (tag s) ≤ length s
tag_size s = within_size (suc (length s)) no_attributes s

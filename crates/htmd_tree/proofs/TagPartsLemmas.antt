-- How the parts of a start tag follow from the runs that are found.
use Rattle.std.proofs.Common.{◌≡◌, ℕ, zero, suc, ◌<◌, ◌≤◌, Bool, true, false, not, ◌&&◌, List, [], ◌∷◌, ◌++◌, length}
use Rattle.std.proofs.Common.{map, get_or, refl, sym, ◌∙◌, ap, arith, eqb, append_assoc}
use Rattle.std.specs.Prelude.{◌==◌, if◌then◌else◌}
use Rattle.std.proofs.lemmas.Bool.{and_parts, eqb-true}
use Rattle.std.proofs.lemmas.Bool.Decides.{nat_tests}
use Rattle.std.specs.List.{list_all}
use Rattle.std.specs.Char.{is_ascii_alphabetic, to_ascii_lowercase}
use Rattle.htmd_lexical.specs.WhiteSpace.{is_ascii_white_space}
use Rattle.htmd_lexical.proofs.Cases.{test}
use Rattle.htmd_lexical.specs.AttributePairs.{AttributePair}
use Rattle.htmd_lexical.specs.CharacterClasses.{is_empty, leading_run, behind_run, is_tag_name}
use Rattle.htmd_lexical.specs.CharacterClasses.{is_tag_name_byte}
use Rattle.htmd_lexical.specs.CharacterClasses.{is_attribute_name, is_attribute_name_byte, holds_control}
use Rattle.htmd_lexical.specs.CharacterClasses.{is_unquoted_byte}
use Rattle.htmd_lexical.specs.TagReading.{TagPart, malformed, tag_end, attribute, value_part}
use Rattle.htmd_lexical.specs.TagReading.{unquoted_value, behind_attribute_name, behind_slash, behind_gap, next_part}
use Rattle.htmd_lexical.specs.TagReading.{TagForm, no_form, form, with_attribute, form_behind, form_within}
use Rattle.htmd_lexical.proofs.RunsLemmas.{behind_within}
use Rattle.htmd_lexical.proofs.LeadingRunsLemmas.{front_all}
use Rattle.htmd_scanning.proofs.PartSizesLemmas as parts
use Rattle.htmd_scanning.proofs.PartSizesLemmas.{size_of, choice_size, rest_shorter}
use Rattle.htmd_tree.specs.TagParts.{attribute_part, with_attributes}

-- ---- names

letter_in_name : (b : ℕ) → is_ascii_alphabetic b ≡ true → is_tag_name_byte b ≡ true
letter_in_name b e = grind (arith, nat_tests)

-- a letter begins the name of a tag
pub name_begins : (s : List ℕ) → 0 < length s → is_ascii_alphabetic (get_or s 0 0) ≡ true
    → is_tag_name (leading_run is_tag_name_byte s) ≡ true
name_begins [] l e = absurd (omega arith)
name_begins (b ∷ s) l e = let k = letter_in_name b e in rw (k, e, front_all is_tag_name_byte s) refl

-- lower case changes nothing of a name that is in lower case
pub lower_case_stays : (s : List ℕ) → list_all (λ b. to_ascii_lowercase b == b) s ≡ true
    → map to_ascii_lowercase s ≡ s
lower_case_stays [] all = refl
lower_case_stays (b ∷ s) all =
    let parts = and_parts (to_ascii_lowercase b == b) (list_all (λ c. to_ascii_lowercase c == c) s) all in
    let same : to_ascii_lowercase b ≡ b = eqb-true (to_ascii_lowercase b) b parts.0 in
    rw (same, lower_case_stays s parts.1) refl

empty_length : (s : List ℕ) → eqb (length s) 0 ≡ is_empty s
empty_length [] = refl
empty_length (b ∷ s) = grind (arith, nat_tests)

-- ---- attributes

pub attribute_is_named : (s name rest : List ℕ) → name ≡ leading_run is_attribute_name_byte s
    → rest ≡ behind_run is_attribute_name_byte s → eqb (length name) 0 ≡ false → holds_control name ≡ false
    → behind_attribute_name name rest ≡ attribute_part s
attribute_is_named s name rest d e f g =
    let m : is_empty (leading_run is_attribute_name_byte s) ≡ false = sym (empty_length _) ∙ rw d at f in
    let h : holds_control (leading_run is_attribute_name_byte s) ≡ false = rw d at g in
    let r = front_all is_attribute_name_byte s in
    rw (d, e, m, r, h) refl

-- ---- each part takes at least one character

unquoted_size : (name s : List ℕ) → size_of (unquoted_value name s) ≤ suc (length s)
unquoted_size name s =
    let k = behind_within is_unquoted_byte s in
    test (is_empty (leading_run is_unquoted_byte s)) (λ e. rw e (omega arith)) (λ e. rw e (omega arith))

value_size : (name s : List ℕ) → size_of (value_part name s) ≤ suc (length s)
value_size name s = parts.value_size name s _ (unquoted_size name s)

name_size : (name s : List ℕ) → size_of (behind_attribute_name name s) ≤ suc (length s)
name_size name s = parts.name_size name s (value_part name) (value_size name)

run_behind : (p : ℕ → Bool) (s : List ℕ) → is_empty (leading_run p s) ≡ false
    → length (behind_run p s) < length s
run_behind p [] e = absurd (cc)
run_behind p (b ∷ s) e =
    test (p b) (λ f. let k = behind_within p s in rw f (omega arith)) (λ f. let g = rw f at e in absurd (cc))

attribute_size : (s : List ℕ) → size_of (attribute_part s) ≤ length s
attribute_size s =
    let name : List ℕ = leading_run is_attribute_name_byte s in
    let v = name_size name (behind_run is_attribute_name_byte s) in
    test (is_empty name) (λ e. rw e (omega arith))
    (λ e. let l = run_behind is_attribute_name_byte s e in
    test (is_attribute_name name) (λ f. rw f (omega arith)) (λ f. rw f (omega arith)))

gap_size : (w : Bool) (s : List ℕ) → size_of (behind_gap w s) ≤ length s
gap_size w [] = omega arith
gap_size w (b ∷ s) =
    choice_size (eqb b 62) (tag_end false s) _ (suc (length s)) (omega arith)
    (choice_size (eqb b 47) (behind_slash s) _ (suc (length s)) (slash_size s) (white w))
  where
    slash_size : (s : List ℕ) → size_of (behind_slash s) ≤ suc (length s)
    slash_size [] = omega arith
    slash_size (c ∷ t) = test (eqb c 62) (λ e. rw e (omega arith)) (λ e. rw e (omega arith))

    white : (w : Bool) → size_of (if w && is_attribute_name (leading_run is_attribute_name_byte (b ∷ s))
        then behind_attribute_name (leading_run is_attribute_name_byte (b ∷ s))
        (behind_run is_attribute_name_byte (b ∷ s)) else malformed) ≤ length (b ∷ s)
    white true = attribute_size (b ∷ s)
    white false = omega arith

part_size : (s : List ℕ) → size_of (next_part s) ≤ length s
part_size s =
    let b = gap_size (not (is_empty (leading_run is_ascii_white_space s))) (behind_run is_ascii_white_space s) in
    let c = behind_within is_ascii_white_space s in
    omega arith

pub part_shorter : (s name value rest : List ℕ) → attribute name value rest ≡ next_part s
    → length rest < length s
part_shorter s name value rest = rest_shorter (next_part s) s name value rest (part_size s)

-- ---- the form of a tag

-- the number of attributes that may be read doesn't matter, once it is no less than that of characters
pub form_same : (j k : ℕ) (s : List ℕ) → length s < j → length s < k → form_within j s ≡ form_within k s
form_same zero k s a b = absurd (omega arith)
form_same (suc j) zero s a b = absurd (omega arith)
form_same (suc j) (suc k) s a b =
    by_part (next_part s) refl (λ rest l. form_same j k rest (omega arith) (omega arith))
  where
    by_part : (p : TagPart) → p ≡ next_part s
        → ((rest : List ℕ) → length rest < length s → form_within j rest ≡ form_within k rest)
        → form_behind p (form_within j) ≡ form_behind p (form_within k)
    by_part malformed e go = refl
    by_part (tag_end present t) e go = refl
    by_part (attribute name value t) e go = ap (with_attribute name value) (go t (part_shorter s name value t e))

with_one_more : (spelled : List AttributePair) (name value : List ℕ) (f : TagForm)
    → with_attributes (spelled ++ (record { name = map to_ascii_lowercase name; value = value } ∷ [])) f
    ≡ with_attributes spelled (with_attribute name value f)
with_one_more spelled name value no_form = refl
with_one_more spelled name value (form more present s) =
    ap (λ (x : List AttributePair). form x present s) (append_assoc spelled _ more)

-- one more attribute
pub form_more : (s name value rest : List ℕ) (spelled : List AttributePair) (whole : TagForm)
    → attribute name value rest ≡ next_part s
    → with_attributes spelled (form_within (suc (length s)) s) ≡ whole
    → with_attributes (spelled ++ (record { name = map to_ascii_lowercase name; value = value } ∷ []))
    (form_within (suc (length rest)) rest) ≡ whole
form_more s name value rest spelled whole e h =
    let l = part_shorter s name value rest e in
    let g : form_within (suc (length s)) s ≡ with_attribute name value (form_within (length s) rest) =
    sym (ap (λ (p : TagPart). form_behind p (form_within (length s))) e) in
    let f : form_within (suc (length rest)) rest ≡ form_within (length s) rest =
    form_same (suc (length rest)) (length s) rest (omega arith) l in
    with_one_more spelled name value _
    ∙ (ap (λ (x : TagForm). with_attributes spelled (with_attribute name value x)) f
    ∙ (ap (with_attributes spelled) (sym g) ∙ h))

-- what follows a tag
abbrev pub size_of_rest : TagForm → ℕ
size_of_rest no_form = 0
size_of_rest (form spelled present s) = length s

rest_with : (name value : List ℕ) (f : TagForm) → size_of_rest (with_attribute name value f) ≡ size_of_rest f
rest_with name value no_form = refl
rest_with name value (form spelled present s) = refl

-- what follows a tag is no longer than what follows its name
pub form_size : (k : ℕ) (s : List ℕ) → size_of_rest (form_within k s) ≤ length s
form_size zero s = omega arith
form_size (suc k) s = by_part (next_part s) (part_size s) (λ rest. form_size k rest)
  where
    by_part : (p : TagPart) → size_of p ≤ length s
        → ((rest : List ℕ) → size_of_rest (form_within k rest) ≤ length rest)
        → size_of_rest (form_behind p (form_within k)) ≤ length s
    by_part malformed l go = omega arith
    by_part (tag_end present t) l go = omega arith
    by_part (attribute name value t) l go =
        let e = rest_with name value (form_within k t) in let g = go t in omega arith

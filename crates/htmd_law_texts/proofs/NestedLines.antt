-- A line of tags is read as the tags that were written in it.
use Rattle.std.proofs.Common.{◌≡◌, ◌∙◌, ◌≤◌, ◌+◌, refl, ap, sym, ℕ, zero, suc, Bool, true, false, List, [], ◌∷◌, ◌++◌}
use Rattle.std.proofs.Common.{Some, codes, length, drop, append_assoc, arith}
use Rattle.std.specs.Prelude.{◌==◌, if◌then◌else◌}
use Rattle.std.specs.Char.{is_ascii_alphabetic}
use Rattle.std.specs.List.{list_all, flat_map}
use Rattle.std.specs.Str.{bytes_eq}
use Rattle.std.proofs.lemmas.Bool.Decides.{nat_tests}
use Rattle.std.proofs.lemmas.Bool.{and_parts, eqb-true}
use Rattle.std.proofs.lemmas.List.{append-nil, length-append}
use Rattle.htmd_lexical.proofs.BytesLemmas.{bytes_same}
use Rattle.htmd_lexical.specs.Characters.{slash}
use Rattle.htmd_lexical.specs.CharacterClasses.{first_is, begins_with, leading_run, behind_run}
use Rattle.htmd_document.specs.declared.document.AttributeName.{AttributeName}
use Rattle.htmd_document.specs.declared.document.AttributeName.TheVariants.{Open, Border, ColumnSpan, RowSpan, Align}
use Rattle.htmd_document.specs.declared.document.BlockElement.{BlockElement}
use Rattle.htmd_document.specs.declared.document.BlockElement.TheVariants as an
use Rattle.htmd_document.specs.Documents.{BlockAttribute}
use Rattle.htmd_document.specs.Tags.{in_text, escaped_text, escaped_value, element_name, attribute_name, attribute_text}
use Rattle.htmd_document.specs.Tags.{element_tag, end_of_element, element_line}
use Rattle.htmd_commonmark_reading.specs.Anchors.{value}
use Rattle.htmd_commonmark_reading.specs.Elements.{elements, element_among, attribute_names, attribute_among, first_name}
use Rattle.htmd_commonmark_reading.specs.Elements.{behind_name, is_in_value, value_after_name, behind_value}
use Rattle.htmd_commonmark_reading.specs.Elements.{with_attribute, attributes_in, text_before_tag, opening, closing}
use Rattle.htmd_commonmark_reading.specs.Elements.{whole, unknown, line_behind, line_with_tag, line_with_name, line_of}
use Rattle.htmd_commonmark_reading.specs.Elements.{line_with_end}
use Rattle.htmd_law_inlines.proofs.AnchorValues.{value_read, unquoted}
use Rattle.htmd_law_inlines.proofs.TextPieces.{test}

-- ---- runs and beginnings

run_all : (p : ℕ → Bool) (s : List ℕ) (c : ℕ) (t : List ℕ) → list_all p s ≡ true → p c ≡ false
    → (leading_run p (s ++ (c ∷ t)) ≡ s) × (behind_run p (s ++ (c ∷ t)) ≡ c ∷ t)
run_all p [] c t h n = (rw n refl, rw n refl)
run_all p (b ∷ s) c t h n =
    let q = and_parts (p b) (list_all p s) h in
    let r = run_all p s c t q.1 n in
    (rw q.0 (ap (λ l. b ∷ l) r.0), rw q.0 r.1)

itself : (c : ℕ) → (c == c) ≡ true
itself c = grind (arith, nat_tests)

begins_itself : (s t : List ℕ) → begins_with s (s ++ t) ≡ true
begins_itself [] t = refl
begins_itself (c ∷ s) t = rw (itself c) (begins_itself s t)

drop_front : (s t : List ℕ) → drop (length s) (s ++ t) ≡ t
drop_front [] t = refl
drop_front (c ∷ s) t = drop_front s t

-- ---- names

name_letters : (e : BlockElement) → list_all is_ascii_alphabetic (element_name e) ≡ true
name_letters an.Details = refl
name_letters an.Summary = refl
name_letters an.Terms = refl
name_letters an.Term = refl
name_letters an.Meaning = refl
name_letters an.Figure = refl
name_letters an.FigureCaption = refl
name_letters an.Table = refl
name_letters an.Caption = refl
name_letters an.Row = refl
name_letters an.Cell = refl
name_letters an.HeaderCell = refl

element_found : (e : BlockElement) → element_among elements (element_name e) ≡ Some e
element_found an.Details = refl
element_found an.Summary = refl
element_found an.Terms = refl
element_found an.Term = refl
element_found an.Meaning = refl
element_found an.Figure = refl
element_found an.FigureCaption = refl
element_found an.Table = refl
element_found an.Caption = refl
element_found an.Row = refl
element_found an.Cell = refl
element_found an.HeaderCell = refl

no_slash : (e : BlockElement) (t : List ℕ) → first_is slash (element_name e ++ t) ≡ false
no_slash an.Details t = refl
no_slash an.Summary t = refl
no_slash an.Terms t = refl
no_slash an.Term t = refl
no_slash an.Meaning t = refl
no_slash an.Figure t = refl
no_slash an.FigureCaption t = refl
no_slash an.Table t = refl
no_slash an.Caption t = refl
no_slash an.Row t = refl
no_slash an.Cell t = refl
no_slash an.HeaderCell t = refl

attribute_letters : (a : AttributeName) → list_all is_ascii_alphabetic (attribute_name a) ≡ true
attribute_letters Open = refl
attribute_letters Border = refl
attribute_letters ColumnSpan = refl
attribute_letters RowSpan = refl
attribute_letters Align = refl

attribute_found : (a : AttributeName) → attribute_among attribute_names (attribute_name a) ≡ Some a
attribute_found Open = refl
attribute_found Border = refl
attribute_found ColumnSpan = refl
attribute_found RowSpan = refl
attribute_found Align = refl

-- ---- attributes

-- behind a space, the name of an attribute, and before what follows it
abbrev named : BlockAttribute → List ℕ → List ℕ
named a u = attribute_name a.name ++ (61 ∷ 34 ∷ (escaped_value a.value ++ (34 ∷ u)))

attribute_shape : (a : BlockAttribute) (u : List ℕ) → attribute_text a ++ u ≡ 32 ∷ named a u
attribute_shape a u =
    let n = codes " " ++ attribute_name a.name in
    let v = escaped_value a.value in
    append_assoc (n ++ codes "=\"" ++ v) (codes "\"") u ∙ append_assoc (n ++ codes "=\"") v (34 ∷ u)
    ∙ append_assoc n (codes "=\"") (v ++ (34 ∷ u))

-- attributes, and what ends the tag
abbrev attributes_before : List BlockAttribute → List ℕ → List ℕ
attributes_before attributes t = flat_map attribute_text attributes ++ (62 ∷ t)

attributes_shape : (a : BlockAttribute) (rest : List BlockAttribute) (t : List ℕ)
    → attributes_before (a ∷ rest) t ≡ 32 ∷ named a (attributes_before rest t)
attributes_shape a rest t =
    append_assoc (attribute_text a) (flat_map attribute_text rest) (62 ∷ t)
    ∙ attribute_shape a (attributes_before rest t)

value_behind : (v u : List ℕ) → behind_value (escaped_value v ++ (34 ∷ u)) ≡ u
value_behind v u = ap (drop 1) (run_all is_in_value (escaped_value v) 34 u (unquoted v) refl).1

attribute_read : (n : ℕ) (a : BlockAttribute) (u : List ℕ)
    → attributes_in (suc n) (32 ∷ named a u) ≡ a ∷ attributes_in n u
attribute_read n a u =
    let v = escaped_value a.value ++ (34 ∷ u) in
    let r = run_all is_ascii_alphabetic (attribute_name a.name) 61 (34 ∷ v) (attribute_letters a.name) refl in
    let after : value_after_name (named a u) ≡ v = ap (drop 2) r.1 in
    ap (λ s. with_attribute (attribute_among attribute_names s) (value_after_name (named a u))
    (attributes_in n (behind_value (value_after_name (named a u))))) r.0
    ∙ ap (λ o. with_attribute o (value_after_name (named a u))
    (attributes_in n (behind_value (value_after_name (named a u))))) (attribute_found a.name)
    ∙ ap (λ s. with_attribute (Some a.name) s (attributes_in n (behind_value s))) after
    ∙ ap (λ s. record { name = a.name; value = s } ∷ attributes_in n (behind_value v)) (value_read a.value u)
    ∙ ap (λ s. a ∷ attributes_in n s) (value_behind a.value u)

attributes_read : (attributes : List BlockAttribute) (n : ℕ) (t : List ℕ) → length attributes ≤ n
    → attributes_in n (attributes_before attributes t) ≡ attributes
attributes_read [] zero t h = refl
attributes_read [] (suc n) t h = refl
attributes_read (a ∷ rest) zero t h = absurd (omega arith)
attributes_read (a ∷ rest) (suc n) t h =
    ap (attributes_in (suc n)) (attributes_shape a rest t) ∙ attribute_read n a (attributes_before rest t)
    ∙ ap (λ l. a ∷ l) (attributes_read rest n t (omega (arith, h)))

no_more : (attributes : List BlockAttribute) (t : List ℕ)
    → length attributes ≤ length (attributes_before attributes t)
no_more [] t = omega arith
no_more (a ∷ rest) t =
    let e : length (attributes_before (a ∷ rest) t) ≡ suc (length (named a (attributes_before rest t))) =
    ap length (attributes_shape a rest t) in
    let v = escaped_value a.value in
    let u = attributes_before rest t in
    let f : length (named a u) ≡ length (attribute_name a.name) + length (61 ∷ 34 ∷ (v ++ (34 ∷ u))) =
    length-append (attribute_name a.name) (61 ∷ 34 ∷ (v ++ (34 ∷ u))) in
    let g : length (v ++ (34 ∷ u)) ≡ length v + length (34 ∷ u) = length-append v (34 ∷ u) in
    omega (arith, e, f, g, no_more rest t)

-- no letter follows a name
ends_name : (attributes : List BlockAttribute) (t : List ℕ)
    → (c : ℕ) × ((u : List ℕ)
    × ((attributes_before attributes t ≡ c ∷ u) × (is_ascii_alphabetic c ≡ false)))
ends_name [] t = (62, (t, (refl, refl)))
ends_name (a ∷ rest) t = (32, (named a (attributes_before rest t), (attributes_shape a rest t, refl)))

-- ---- opening tags

tag_shape : (name : BlockElement) (attributes : List BlockAttribute) (t : List ℕ)
    → element_tag name attributes ++ t ≡ 60 ∷ (element_name name ++ attributes_before attributes t)
tag_shape name attributes t =
    let n = codes "<" ++ element_name name in
    let xs = flat_map attribute_text attributes in
    append_assoc (n ++ xs) (codes ">") t ∙ append_assoc n xs (62 ∷ t)

name_run : (name : BlockElement) (attributes : List BlockAttribute) (t : List ℕ)
    → (first_name (element_name name ++ attributes_before attributes t) ≡ element_name name)
    × (behind_name (element_name name ++ attributes_before attributes t) ≡ attributes_before attributes t)
name_run name attributes t =
    let (c, (u, (is, other))) = ends_name attributes t in
    let r = run_all is_ascii_alphabetic (element_name name) c u (name_letters name) other in (
      ap (λ l. first_name (element_name name ++ l)) is ∙ r.0,
      ap (λ l. behind_name (element_name name ++ l)) is ∙ r.1 ∙ sym is,
    )

-- what stands behind a tag decides
pub tag_read : (name : BlockElement) (attributes : List BlockAttribute) (t : List ℕ)
    → line_of (element_tag name attributes ++ t) ≡ line_behind name attributes t
tag_read name attributes t =
    let tag = element_tag name attributes in
    let w = element_name name ++ attributes_before attributes t in
    let s = 60 ∷ w in
    let r = name_run name attributes t in
    let shape : tag ++ t ≡ s = tag_shape name attributes t in
    let size : length attributes ≤ length s =
    (let l = length-append (element_name name) (attributes_before attributes t) in
    omega (arith, l, no_more attributes t)) in
    ap line_of shape
    ∙ ap (λ b. if b then line_with_end (element_among elements (first_name (drop 2 s))) s
    else line_with_name (element_among elements (first_name w)) s) (no_slash name (attributes_before attributes t))
    ∙ ap (λ n. line_with_name (element_among elements n) s) r.0
    ∙ ap (λ o. line_with_name o s) (element_found name)
    ∙ ap (λ l. line_with_tag name (attributes_in (length s) l) s) r.1
    ∙ ap (λ l. line_with_tag name l s) (attributes_read attributes (length s) t size)
    ∙ ap (line_with_tag name attributes) (sym shape)
    ∙ ap (λ b. if b then line_behind name attributes (drop (length tag) (tag ++ t)) else unknown)
    (begins_itself tag t)
    ∙ ap (line_behind name attributes) (drop_front tag t)

pub opening_read : (name : BlockElement) (attributes : List BlockAttribute)
    → line_of (element_tag name attributes) ≡ opening name attributes
opening_read name attributes =
    ap line_of (sym (append-nil (element_tag name attributes))) ∙ tag_read name attributes []

-- ---- closing tags

pub closing_read : (name : BlockElement) → line_of (end_of_element name) ≡ closing name
closing_read an.Details = refl
closing_read an.Summary = refl
closing_read an.Terms = refl
closing_read an.Term = refl
closing_read an.Meaning = refl
closing_read an.Figure = refl
closing_read an.FigureCaption = refl
closing_read an.Table = refl
closing_read an.Caption = refl
closing_read an.Row = refl
closing_read an.Cell = refl
closing_read an.HeaderCell = refl

-- ---- elements in one line

byte_read : (b : ℕ) (s : List ℕ) → text_before_tag (in_text b ++ s) ≡ b ∷ text_before_tag s
byte_read b s =
    test (b == 38) (λ e. rw e (ap (λ c. c ∷ text_before_tag s) (sym (eqb-true b 38 e))))
    (λ n. test (b == 60) (λ e. rw (n, e) (ap (λ c. c ∷ text_before_tag s) (sym (eqb-true b 60 e))))
    (λ m. let is : in_text b ≡ b ∷ [] = rw (n, m) refl in
    ap (λ l. text_before_tag (l ++ s)) is ∙ rw (m, n) refl))

text_read : (s t : List ℕ) → text_before_tag (escaped_text s ++ (60 ∷ t)) ≡ s
text_read [] t = refl
text_read (b ∷ s) t =
    ap text_before_tag (append_assoc (in_text b) (escaped_text s) (60 ∷ t))
    ∙ byte_read b (escaped_text s ++ (60 ∷ t)) ∙ ap (λ l. b ∷ l) (text_read s t)

some_behind : (s t : List ℕ) (c : ℕ) → s ++ (c ∷ t) ≡ [] → ⊥
some_behind [] t c e = absurd (cc)
some_behind (b ∷ s) t c e = absurd (cc)

behind_whole : (name : BlockElement) (attributes : List BlockAttribute) (s l : List ℕ)
    → text_before_tag l ≡ s → escaped_text s ++ end_of_element name ≡ l → (l ≡ [] → ⊥)
    → line_behind name attributes l ≡ whole name attributes s
behind_whole name attributes s [] e f some = absurd (some refl)
behind_whole name attributes s (c ∷ l) e f some =
    ap (λ x. if bytes_eq (escaped_text x ++ end_of_element name) (c ∷ l) then whole name attributes x else unknown) e
    ∙ ap (λ b. if b then whole name attributes s else unknown)
    (ap (λ x. bytes_eq x (c ∷ l)) f ∙ bytes_same (c ∷ l))

pub whole_read : (name : BlockElement) (attributes : List BlockAttribute) (s : List ℕ)
    → line_of (element_line name attributes s) ≡ whole name attributes s
whole_read name attributes s =
    let last = end_of_element name in
    ap line_of (append_assoc (element_tag name attributes) (escaped_text s) last)
    ∙ tag_read name attributes (escaped_text s ++ last)
    ∙ behind_whole name attributes s (escaped_text s ++ last) (text_read s (drop 1 last)) refl
    (some_behind (escaped_text s) (drop 1 last) 60)

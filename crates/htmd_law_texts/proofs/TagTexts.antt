-- What is written of tags is a line of tags.
use Rattle.std.proofs.Common.{◌≡◌, ◌∙◌, refl, ap, sym, ℕ, zero, suc, Bool, true, false, List, [], ◌∷◌, ◌++◌, codes}
use Rattle.std.proofs.Common.{append_assoc, length, get_or, drop, arith}
use Rattle.std.specs.Prelude.{◌==◌, ◌||◌, nat_lt}
use Rattle.std.specs.List.{list_all, list_any, flat_map}
use Rattle.std.specs.Str.{is_utf8}
use Rattle.std.proofs.lemmas.Bool.{and_parts, and_from, ltb-true}
use Rattle.std.proofs.lemmas.Bool.Decides.{nat_tests}
use Rattle.std.proofs.lemmas.List.{append-nil}
use Rattle.std.proofs.lemmas.List.Folds.{list_all-append}
use Rattle.htmd_lexical.specs.CharacterClasses.{begins_with}
use Rattle.htmd_document.specs.declared.document.AttributeName.{AttributeName}
use Rattle.htmd_document.specs.declared.document.AttributeName.TheVariants.{Open, Border, ColumnSpan, RowSpan, Align}
use Rattle.htmd_document.specs.declared.document.BlockElement.{BlockElement}
use Rattle.htmd_document.specs.declared.document.BlockElement.TheVariants as an
use Rattle.htmd_document.specs.Documents.{BlockAttribute}
use Rattle.htmd_document.specs.NormalInlines.{is_kept, is_attribute}
use Rattle.htmd_document.specs.NormalDocuments.{names, begins_with_tag_of, is_tag_line}
use Rattle.htmd_document.specs.Tags.{in_value, in_text, escaped_text, escaped_value, element_name, attribute_name}
use Rattle.htmd_document.specs.Tags.{attribute_text, element_tag, end_of_element, element_line}
use Rattle.htmd_law_inlines.proofs.AnchorValues.{plain_byte}
use Rattle.htmd_law_inlines.proofs.TextPieces.{test, differs}
use Rattle.htmd_law_blocks.proofs.TextsLemmas.{IsClean}

-- ---- no line ends in a tag

abbrev AreKept : List ℕ → Type 0
AreKept s = list_all is_kept s ≡ true

kept_append : (s t : List ℕ) → AreKept s → AreKept t → AreKept (s ++ t)
kept_append s t h k = list_all-append is_kept s t ∙ and_from (list_all is_kept s) (list_all is_kept t) h k

value_byte : (b : ℕ) → is_kept b ≡ true → AreKept (in_value b)
value_byte b h =
    test (b == 38) (λ e. rw e refl)
    (λ n1. test (b == 60) (λ e. rw (n1, e) refl)
    (λ n2. test (b == 62) (λ e. rw (n1, n2, e) refl)
    (λ n3. test (b == 34) (λ e. rw (n1, n2, n3, e) refl)
    (λ n4. test (b == 124) (λ e. rw (n1, n2, n3, n4, e) refl)
    (λ n5. test (b == 93) (λ e. rw (n1, n2, n3, n4, n5, e) refl)
    (λ n6. ap (list_all is_kept) (plain_byte b n1 n2 n3 n4 n5 n6) ∙ rw h refl))))))

value_kept : (s : List ℕ) → AreKept s → AreKept (escaped_value s)
value_kept [] h = refl
value_kept (b ∷ s) h =
    let p = and_parts (is_kept b) (list_all is_kept s) h in
    kept_append (in_value b) (escaped_value s) (value_byte b p.0) (value_kept s p.1)

text_byte : (b : ℕ) → is_kept b ≡ true → AreKept (in_text b)
text_byte b h =
    test (b == 38) (λ e. rw e refl)
    (λ n. test (b == 60) (λ e. rw (n, e) refl)
    (λ m. let is : in_text b ≡ b ∷ [] = rw (n, m) refl in ap (list_all is_kept) is ∙ rw h refl))

text_kept : (s : List ℕ) → AreKept s → AreKept (escaped_text s)
text_kept [] h = refl
text_kept (b ∷ s) h =
    let p = and_parts (is_kept b) (list_all is_kept s) h in
    kept_append (in_text b) (escaped_text s) (text_byte b p.0) (text_kept s p.1)

name_kept : (e : BlockElement) → AreKept (element_name e)
name_kept an.Details = refl
name_kept an.Summary = refl
name_kept an.Terms = refl
name_kept an.Term = refl
name_kept an.Meaning = refl
name_kept an.Figure = refl
name_kept an.FigureCaption = refl
name_kept an.Table = refl
name_kept an.Caption = refl
name_kept an.Row = refl
name_kept an.Cell = refl
name_kept an.HeaderCell = refl

attribute_kept : (a : AttributeName) → AreKept (attribute_name a)
attribute_kept Open = refl
attribute_kept Border = refl
attribute_kept ColumnSpan = refl
attribute_kept RowSpan = refl
attribute_kept Align = refl

one_kept : (a : BlockAttribute) → is_attribute a.value ≡ true → AreKept (attribute_text a)
one_kept a h =
    let v = (and_parts (is_utf8 a.value) (list_all is_kept a.value) h).1 in
    let n = codes " " ++ attribute_name a.name in
    kept_append (n ++ codes "=\"" ++ escaped_value a.value) (codes "\"")
    (kept_append (n ++ codes "=\"") (escaped_value a.value)
    (kept_append n (codes "=\"") (kept_append (codes " ") (attribute_name a.name) refl (attribute_kept a.name)) refl)
    (value_kept a.value v)) refl

attributes_kept : (attributes : List BlockAttribute) → list_all (λ a. is_attribute a.value) attributes ≡ true
    → AreKept (flat_map attribute_text attributes)
attributes_kept [] h = refl
attributes_kept (a ∷ rest) h =
    let p = and_parts (is_attribute a.value) (list_all (λ a. is_attribute a.value) rest) h in
    kept_append (attribute_text a) (flat_map attribute_text rest) (one_kept a p.0) (attributes_kept rest p.1)

tag_kept : (name : BlockElement) (attributes : List BlockAttribute)
    → list_all (λ a. is_attribute a.value) attributes ≡ true → AreKept (element_tag name attributes)
tag_kept name attributes h =
    let n = codes "<" ++ element_name name in
    kept_append (n ++ flat_map attribute_text attributes) (codes ">")
    (kept_append n (flat_map attribute_text attributes) (kept_append (codes "<") (element_name name) refl
    (name_kept name)) (attributes_kept attributes h)) refl

end_kept : (name : BlockElement) → AreKept (end_of_element name)
end_kept name =
    kept_append (codes "</" ++ element_name name) (codes ">")
    (kept_append (codes "</") (element_name name) refl (name_kept name)) refl

-- ---- a tag begins it

-- one of the names
abbrev Has : List ℕ → List ℕ → Type 0
Has line name = begins_with_tag_of line name ≡ true

less : (n m : ℕ) → nat_lt (suc n) (suc m) ≡ true → nat_lt n m ≡ true
less n m l = grind (arith, nat_tests)

any_at : (p : List ℕ → Bool) (n : ℕ) (xs : List (List ℕ)) → nat_lt n (length xs) ≡ true
    → p (get_or xs n []) ≡ true
    → list_any p xs ≡ true
any_at p n [] l h = let w = ltb-true n 0 l in absurd (omega (arith, w))
any_at p zero (x ∷ xs) l h = rw h refl
any_at p (suc n) (x ∷ xs) l h = later (p x) (any_at p n xs (less n (length xs) l) h)
  where
    later : (b : Bool) → list_any p xs ≡ true → (b || list_any p xs) ≡ true
    later true h = refl
    later false h = h

any_of_names : (line : List ℕ) (name : BlockElement) → Has line (element_name name)
    → list_any (begins_with_tag_of line) names ≡ true
any_of_names line an.Details h = any_at (begins_with_tag_of line) 0 names refl h
any_of_names line an.Summary h = any_at (begins_with_tag_of line) 1 names refl h
any_of_names line an.Terms h = any_at (begins_with_tag_of line) 2 names refl h
any_of_names line an.Term h = any_at (begins_with_tag_of line) 3 names refl h
any_of_names line an.Meaning h = any_at (begins_with_tag_of line) 4 names refl h
any_of_names line an.Figure h = any_at (begins_with_tag_of line) 5 names refl h
any_of_names line an.FigureCaption h = any_at (begins_with_tag_of line) 6 names refl h
any_of_names line an.Table h = any_at (begins_with_tag_of line) 7 names refl h
any_of_names line an.Caption h = any_at (begins_with_tag_of line) 8 names refl h
any_of_names line an.Row h = any_at (begins_with_tag_of line) 9 names refl h
any_of_names line an.Cell h = any_at (begins_with_tag_of line) 10 names refl h
any_of_names line an.HeaderCell h = any_at (begins_with_tag_of line) 11 names refl h

-- the first two of three
first_of : (a b c : Bool) → a ≡ true → (a || b || c) ≡ true
first_of a b c h = rw h refl

second_of : (a b c : Bool) → b ≡ true → (a || b || c) ≡ true
second_of true b c h = refl
second_of false b c h = rw h refl

third_of : (a b c : Bool) → c ≡ true → (a || b || c) ≡ true
third_of true b c h = refl
third_of false true c h = refl
third_of false false c h = h

begins_itself : (s t : List ℕ) → begins_with s (s ++ t) ≡ true
begins_itself [] t = refl
begins_itself (c ∷ s) t = rw (itself c) (begins_itself s t)
  where
    itself : (c : ℕ) → (c == c) ≡ true
    itself c = grind (arith, nat_tests)

-- with what follows the tag
tag_begins : (name : BlockElement) (attributes : List BlockAttribute) (t : List ℕ)
    → Has (element_tag name attributes ++ t) (element_name name)
tag_begins name [] t =
    let n = codes "<" ++ element_name name in
    let l = element_tag name [] ++ t in
    let is : element_tag name [] ≡ n ++ codes ">" = ap (λ s. s ++ codes ">") (append-nil n) in
    first_of (begins_with (n ++ codes ">") l) (begins_with (n ++ codes " ") l)
    (begins_with (codes "</" ++ element_name name ++ codes ">") l)
    (ap (λ s. begins_with (n ++ codes ">") (s ++ t)) is ∙ begins_itself (n ++ codes ">") t)
tag_begins name (a ∷ rest) t =
    let n = codes "<" ++ element_name name in
    let l = element_tag name (a ∷ rest) ++ t in
    let xs = flat_map attribute_text (a ∷ rest) in
    let behind = drop 1 xs ++ (62 ∷ t) in
    let is : l ≡ (n ++ codes " ") ++ behind =
    append_assoc (n ++ xs) (codes ">") t ∙ append_assoc n xs (62 ∷ t)
    ∙ sym (append_assoc n (codes " ") behind) in
    second_of (begins_with (n ++ codes ">") l) (begins_with (n ++ codes " ") l)
    (begins_with (codes "</" ++ element_name name ++ codes ">") l)
    (ap (begins_with (n ++ codes " ")) is ∙ begins_itself (n ++ codes " ") behind)

end_begins : (name : BlockElement) → Has (end_of_element name) (element_name name)
end_begins name =
    let l = end_of_element name in
    let n = codes "<" ++ element_name name in
    third_of (begins_with (n ++ codes ">") l) (begins_with (n ++ codes " ") l) (begins_with l l)
    (ap (begins_with l) (sym (append-nil l)) ∙ begins_itself l [])

-- ---- lines of tags

pub tag_line : (name : BlockElement) (attributes : List BlockAttribute)
    → list_all (λ a. is_attribute a.value) attributes ≡ true → is_tag_line (element_tag name attributes) ≡ true
tag_line name attributes h =
    let l = element_tag name attributes in
    and_from (list_all is_kept l) (list_any (begins_with_tag_of l) names) (tag_kept name attributes h)
    (any_of_names l name
    (ap (λ s. begins_with_tag_of s (element_name name)) (sym (append-nil l)) ∙ tag_begins name attributes []))

pub end_line : (name : BlockElement) → is_tag_line (end_of_element name) ≡ true
end_line name =
    let l = end_of_element name in
    and_from (list_all is_kept l) (list_any (begins_with_tag_of l) names) (end_kept name)
    (any_of_names l name (end_begins name))

pub whole_line : (name : BlockElement) (attributes : List BlockAttribute) (s : List ℕ)
    → list_all (λ a. is_attribute a.value) attributes ≡ true → list_all is_kept s ≡ true
    → is_tag_line (element_line name attributes s) ≡ true
whole_line name attributes s h k =
    let tag = element_tag name attributes in
    let behind = escaped_text s ++ end_of_element name in
    let l = element_line name attributes s in
    and_from (list_all is_kept l) (list_any (begins_with_tag_of l) names)
    (kept_append (tag ++ escaped_text s) (end_of_element name)
    (kept_append tag (escaped_text s) (tag_kept name attributes h) (text_kept s k)) (end_kept name))
    (any_of_names l name
    (ap (λ x. begins_with_tag_of x (element_name name)) (append_assoc tag (escaped_text s) (end_of_element name))
    ∙ tag_begins name attributes behind))

-- a line of tags has no end of a line in it
pub tag_clean : (l : List ℕ) → is_tag_line l ≡ true → IsClean l
tag_clean l h = clean l (and_parts (list_all is_kept l) (list_any (begins_with_tag_of l) names) h).0
  where
    clean : (l : List ℕ) → AreKept l → IsClean l
    clean [] h = tt
    clean (c ∷ l) h =
        let p = and_parts (is_kept c) (list_all is_kept l) h in
        (differs is_kept c 10 p.0 refl, differs is_kept c 13 p.0 refl, differs is_kept c 0 p.0 refl, clean l p.1)

-- What lines of tags are spelled as, and how they pair.
use Rattle.std.proofs.Common.{◌≡◌, ℕ, true, false, List, [], ◌∷◌, ◌++◌, refl, sym, ap, ◌∙◌, codes, Option, Some}
use Rattle.std.proofs.Common.{None, drop, length, subst}
use Rattle.std.specs.List.{flat_map, onto_first}
use Rattle.std.specs.Prelude.{⊤, ◌==◌, ◌&&◌}
use Rattle.std.specs.Str.{bytes_eq}
use Rattle.std.proofs.lemmas.Bool.{and_parts, eqb-true}
use Rattle.std.proofs.lemmas.List.{append_assoc, append-nil}
use Rattle.htmd_lexical.proofs.BytesLemmas.{same_bytes}
use Rattle.htmd_lexical.proofs.Cases.{test}
use Rattle.htmd_lexical.specs.Characters.{slash}
use Rattle.htmd_lexical.specs.CharacterClasses.{begins_with, first_is, is_among}
use Rattle.htmd_values.specs.Serialisation.{is_void, end_tag}
use Rattle.htmd_document.specs.Documents.{BlockAttribute}
use Rattle.htmd_document.specs.FlatDocuments.{is_line_end, lines_of}
use Rattle.htmd_document.specs.Tags.{element_name, attribute_name, element_tag, end_of_element, escaped_text}
use Rattle.htmd_document.specs.Tags.{attribute_text}
use Rattle.htmd_document.specs.declared.document.AttributeName.{AttributeName}
use Rattle.htmd_document.specs.declared.document.AttributeName.TheVariants.{Open, Border, ColumnSpan, RowSpan, Align}
use Rattle.htmd_document.specs.declared.document.BlockElement.{BlockElement}
use Rattle.htmd_document.specs.declared.document.BlockElement.TheVariants as an
use Rattle.htmd_commonmark_reading.specs.Elements as lines
use Rattle.htmd_commonmark_reading.specs.Elements.{Line, elements, element_among, first_name, behind_name}
use Rattle.htmd_commonmark_reading.specs.Elements.{attributes_in}
use Rattle.htmd_commonmark_reading.specs.Elements.{line_with_end, line_behind, line_with_tag, line_with_name, line_of}
use Rattle.htmd_commonmark_reading.specs.Elements.{text_before_tag}
use Rattle.htmd_law_rendering.specs.RawTags.{opening, closing}
use Rattle.htmd_law_rendering.specs.RenderedTrees as trees
use Rattle.htmd_law_rendering.specs.RenderedTrees.{line_end, onto, pairs_of_element, with_line, with_lines, Behind}
use Rattle.htmd_law_rendering.specs.RenderedTrees.{left_of_section, bounds_section, outside_section, ends_of}
use Rattle.htmd_law_rendering.specs.RenderedTrees.{section_name, is_caption, in_table, before_caption}
use Rattle.htmd_grammar.specs.Nesting.{is_table, is_tbody, parent_name}
use Rattle.htmd_law_rendering.specs.SpelledTrees.{spaced, SpelledForest, attribute_in, document_keys, lone, more}
use Rattle.htmd_law_rendering.specs.SpelledTrees.{spelled, tag}
use Rattle.htmd_law_rendering.specs.SpelledTrees.{all_spelled}
use Rattle.htmd_law_rendering.specs.PlainReadings.{names_with_line, names_with_lines, names_left, names_outside}
use Rattle.htmd_law_rendering.specs.PlainReadings.{names_with_ends, names_with, names_before}
use Rattle.htmd_law_rendering.proofs.RawLemmas.{end_of_open, behind_spelled, open_spelled, names_of, IsOpen, raw-ok}
use Rattle.htmd_law_rendering.proofs.SpellingLemmas.{text-spelled, sectioned-spelled}

-- ---- tags

pub not-void : (e : BlockElement) → is_void (element_name e) ≡ false
unfolding is_void
not-void an.Details = refl
not-void an.Summary = refl
not-void an.Terms = refl
not-void an.Term = refl
not-void an.Meaning = refl
not-void an.Figure = refl
not-void an.FigureCaption = refl
not-void an.Table = refl
not-void an.Caption = refl
not-void an.Row = refl
not-void an.Cell = refl
not-void an.HeaderCell = refl

key-known : (a : AttributeName) → is_among document_keys (attribute_name a) ≡ true
key-known Open = refl
key-known Border = refl
key-known ColumnSpan = refl
key-known RowSpan = refl
key-known Align = refl

attribute-same : (n : List ℕ) (a : BlockAttribute)
    → attribute_in n (trees.pair (attribute_name a.name) a.value) ≡ attribute_text a
attribute-same n a =
    test (bytes_eq n (codes "abbr")) (λ e. rw e refl) (λ e. rw (e, key-known a.name) refl)

attributes-same : (n : List ℕ) (attributes : List BlockAttribute)
    → flat_map (attribute_in n) (pairs_of_element attributes) ≡ flat_map attribute_text attributes
attributes-same n [] = refl
attributes-same n (a ∷ rest) =
    ap (λ s. s ++ flat_map (attribute_in n) (pairs_of_element rest)) (attribute-same n a)
    ∙ ap (λ s. attribute_text a ++ s) (attributes-same n rest)

pub tag-same : (e : BlockElement) (attributes : List BlockAttribute)
    → element_tag e attributes ≡ tag spaced (element_name e) (pairs_of_element attributes)
tag-same e attributes =
    rw (not-void e)
    (ap (λ s. (codes "<" ++ element_name e ++ s) ++ codes ">") (sym (attributes-same (element_name e) attributes)))

-- ---- lines

-- what a line is spelled as
abbrev pub IsLine : List ℕ → Line → Type 0
IsLine s (lines.opening e attributes) = s ≡ tag spaced (element_name e) (pairs_of_element attributes)
IsLine s (lines.closing e) = s ≡ end_tag (element_name e)
IsLine s (lines.whole e attributes t) = s ≡ spelled (lone (element_name e) (pairs_of_element attributes) t)
IsLine s lines.unknown = ⊤

end-is : (o : Option BlockElement) (s : List ℕ) → IsLine s (line_with_end o s)
end-is None s = tt
end-is (Some e) s =
    test (bytes_eq (end_of_element e) s) (λ t. rw t (sym (same_bytes (end_of_element e) s t))) (λ t. rw t tt)

-- behind its tag
behind-is : (e : BlockElement) (attributes : List BlockAttribute) (s rest : List ℕ)
    → s ≡ element_tag e attributes ++ rest → IsLine s (line_behind e attributes rest)
behind-is e attributes s [] h =
    h ∙ (append-nil (element_tag e attributes) ∙ tag-same e attributes)
behind-is e attributes s (c ∷ rest) h =
    let t = text_before_tag (c ∷ rest) in
    test (bytes_eq (escaped_text t ++ end_of_element e) (c ∷ rest))
    (λ x. rw x (h ∙ (ap (λ u. element_tag e attributes ++ u)
    (sym (same_bytes (escaped_text t ++ end_of_element e) (c ∷ rest) x))
    ∙ (sym (append_assoc (element_tag e attributes) (escaped_text t) (end_of_element e))
    ∙ ap (λ u. (u ++ escaped_text t) ++ end_of_element e) (tag-same e attributes)))))
    (λ x. rw x tt)

front-is : (p s : List ℕ) → begins_with p s ≡ true → s ≡ p ++ drop (length p) s
front-is [] s h = refl
front-is (c ∷ p) [] h = absurd (cc)
front-is (c ∷ p) (b ∷ s) h =
    let q = and_parts (b == c) (begins_with p s) h in
    ap (λ x. x ∷ s) (eqb-true b c q.0) ∙ ap (λ t. c ∷ t) (front-is p s q.1)

tag-is : (e : BlockElement) (attributes : List BlockAttribute) (s : List ℕ)
    → IsLine s (line_with_tag e attributes s)
tag-is e attributes s =
    let t = element_tag e attributes in
    test (begins_with t s) (λ x. rw x (behind-is e attributes s (drop (length t) s) (front-is t s x))) (λ x. rw x tt)

name-is : (o : Option BlockElement) (s : List ℕ) → IsLine s (line_with_name o s)
name-is None s = tt
name-is (Some e) s = tag-is e (attributes_in (length s) (behind_name (drop 1 s))) s

pub line-is : (s : List ℕ) → IsLine s (line_of s)
line-is s =
    test (first_is slash (drop 1 s)) (λ x. rw x (end-is (element_among elements (first_name (drop 2 s))) s))
    (λ x. rw x (name-is (element_among elements (first_name (drop 1 s))) s))

-- ---- lines before what is open

-- a line's end before what is open
ended : (o : trees.Open) (ns : List (List ℕ)) (html : List ℕ) → IsOpen o ns html
    → IsOpen (onto line_end o) ns (10 ∷ html)
ended o ns html h = (
  h.0,
  ap (λ s. s ++ behind_spelled o.behind) (text-spelled (codes "\n") o.first) ∙ ap (λ s. 10 ∷ s) h.1,
)

none-behind : (s html : List ℕ) → (s ++ html) ++ [] ≡ s ++ html
none-behind s html = append-nil (s ++ html)

pub not-section : (e : BlockElement) → is_tbody (element_name e) ≡ false
not-section an.Details = refl
not-section an.Summary = refl
not-section an.Terms = refl
not-section an.Term = refl
not-section an.Meaning = refl
not-section an.Figure = refl
not-section an.FigureCaption = refl
not-section an.Table = refl
not-section an.Caption = refl
not-section an.Row = refl
not-section an.Cell = refl
not-section an.HeaderCell = refl

pub in-table-named : (behind : List Behind) → in_table behind ≡ is_table (parent_name (names_of behind))
in-table-named [] = refl
in-table-named (b ∷ behind) = refl

-- left of a section the same is written
left-open : (first : SpelledForest) (behind : List Behind) (ns : List (List ℕ)) (html : List ℕ)
    → IsOpen (record { first = first; behind = behind }) ns html
    → IsOpen (left_of_section first behind) (names_left ns) html
left-open first [] [] html h = h
left-open first [] (n ∷ ns) html h = let w = h.0 in absurd (cc)
left-open first (b ∷ behind) [] html h = let w = h.0 in absurd (cc)
left-open first (b ∷ behind) (n ∷ ns) html h =
    let name : b.name ≡ n = (let w = h.0 in cc) in
    let names : names_of behind ≡ ns = (let w = h.0 in cc) in
    test (is_tbody b.name)
    (λ t. let k = rw t at h in
    let same : is_tbody n ≡ true = sym (ap is_tbody name) ∙ t in
    rw (t, same) (
      names,
      ap (λ x. x ++ behind_spelled behind) (sectioned-spelled first b.trees)
          ∙ (append_assoc (all_spelled first) (all_spelled b.trees) (behind_spelled behind) ∙ k.1),
    ))
    (λ t. let same : is_tbody n ≡ false = sym (ap is_tbody name) ∙ t in rw (t, same) h)

outside-open : (n : List ℕ) (o : trees.Open) (left : Option (List (List ℕ))) (html : List ℕ)
    (ns : List (List ℕ))
    → names_outside n left ≡ Some ns → ((ms : List (List ℕ)) → left ≡ Some ms → IsOpen o ms html)
    → IsOpen (outside_section n o) ns html
outside-open n o None html ns e h = absurd (cc)
outside-open n o (Some ms) html ns e h =
    test (bounds_section n)
    (λ t. let w = rw t at e in
    let x : names_left ms ≡ ns = cc in
    rw t (subst (λ ks. IsOpen (left_of_section o.first o.behind) ks html) x (left-open o.first o.behind ms html
    (h ms refl))))
    (λ t. let w = rw t at e in
    let x : ms ≡ ns = cc in rw t (subst (λ ks. IsOpen o ks html) x (h ms refl)))

pub outside-named : (n : List ℕ) (o : trees.Open) (ns : List (List ℕ))
    → names_outside n (Some (names_of o.behind)) ≡ Some ns → names_of (outside_section n o).behind ≡ ns
outside-named n o ns h =
    (outside-open n o (Some (names_of o.behind)) (open_spelled o) ns h
    (λ ms f. let x : names_of o.behind ≡ ms = cc in
    (x, refl))).0

-- the end of an element, and of a section if it is a table's
ends-open : (e : BlockElement) (s html : List ℕ) (o : trees.Open) (left : Option (List (List ℕ)))
    (ns : List (List ℕ)) → s ≡ end_tag (element_name e) → names_with_ends (element_name e) left ≡ Some ns
    → ((ms : List (List ℕ)) → left ≡ Some ms → IsOpen o ms html)
    → IsOpen (ends_of (element_name e) o) ns (s ++ html)
ends-open e s html o None ns k h i = absurd (cc)
ends-open e s html o (Some ms) ns k h i =
    let n = element_name e in
    let ends : s ≡ end_of_open n = rw (not-section e) k in
    let one = subst (IsOpen (trees.with_raw (closing n) o) (n ∷ ms)) (none-behind s html)
    (raw-ok (closing n) s html [] o (Some ms) (n ∷ ms) ends refl
    (λ ks f. subst (IsOpen o ks) (sym (append-nil html)) (i ks f))) in
    test (is_table n)
    (λ t. let w = rw t at h in
    let x : section_name ∷ n ∷ ms ≡ ns = cc in
    rw t (subst (λ ks. IsOpen (trees.with_raw (closing section_name) (trees.with_raw (closing n) o)) ks (s ++ html)) x
    (ap (λ ks. section_name ∷ ks) one.0, one.1)))
    (λ t. let w = rw t at h in
    let x : n ∷ ms ≡ ns = cc in
    rw t (subst (λ ks. IsOpen (trees.with_raw (closing n) o) ks (s ++ html)) x one))

pub before-some : (n : List ℕ) (left : Option (List (List ℕ))) (ns : List (List ℕ))
    → names_before n left ≡ Some ns
    → (ks : List (List ℕ)) × (left ≡ Some ks)
before-some n None ns e = absurd (cc)
before-some n (Some ks) ns e = (ks, refl)

-- a section has no tags
before-open : (n : List ℕ) (o : trees.Open) (left : Option (List (List ℕ))) (html : List ℕ)
    (ns : List (List ℕ))
    → names_before n left ≡ Some ns → ((ms : List (List ℕ)) → left ≡ Some ms → IsOpen o ms html)
    → IsOpen (before_caption n o) ns html
before-open n o None html ns e h = absurd (cc)
before-open n o (Some ms) html ns e h =
    let i = h ms refl in
    let same : (is_caption n && in_table o.behind) ≡ (is_caption n && is_table (parent_name ms)) =
    ap (λ b. is_caption n && b) (in-table-named o.behind ∙ ap (λ ks. is_table (parent_name ks)) i.0) in
    test (is_caption n && is_table (parent_name ms))
    (λ t. let w = rw t at e in
    let x : section_name ∷ ms ≡ ns = cc in
    rw (same ∙ t) (ap (λ ks. section_name ∷ ks) i.0 ∙ x, i.1))
    (λ t. let w = rw t at e in
    let x : ms ≡ ns = cc in rw (same ∙ t) (subst (λ ks. IsOpen o ks html) x i))

line-ok : (l : Line) (s html : List ℕ) (o : trees.Open) (left : Option (List (List ℕ))) (ns : List (List ℕ))
    → IsLine s l → names_with_line l left ≡ Some ns
    → ((ms : List (List ℕ)) → left ≡ Some ms → IsOpen o ms html)
    → IsOpen (with_line l o) ns (s ++ 10 ∷ html)
line-ok (lines.opening e attributes) s html o left ns k h i =
    let n = element_name e in
    let r = opening n (pairs_of_element attributes) in
    let here = outside_section n o in
    before-open n (trees.with_raw r (onto line_end here)) (names_with r (names_outside n left)) (s ++ 10 ∷ html) ns h
    (λ ks g. subst (IsOpen (trees.with_raw r (onto line_end here)) ks) (none-behind s (10 ∷ html))
    (raw-ok r s (10 ∷ html) [] (onto line_end here) (names_outside n left) ks (k, not-void e, not-section e) g
    (λ ms f. subst (IsOpen (onto line_end here) ms) (sym (append-nil (10 ∷ html)))
    (ended here ms html (outside-open n o left html ms f i)))))
line-ok (lines.closing e) s html o left ns k h i =
    let n = element_name e in
    let here = outside_section n o in
    ends-open e s (10 ∷ html) (onto line_end here) (names_outside n left) ns k h
    (λ ms f. ended here ms html (outside-open n o left html ms f i))
line-ok (lines.whole e attributes t) s html o left ns k h i =
    let n = element_name e in
    let here = outside_section n o in
    let one = onto (λ ts. more (lone n (pairs_of_element attributes) t) (line_end ts)) here in
    before-open n one (names_outside n left) (s ++ 10 ∷ html) ns h
    (λ ms f. let j = ended here ms html (outside-open n o left html ms f i) in
    let whole = spelled (lone n (pairs_of_element attributes) t) in (
      j.0,
      append_assoc whole (all_spelled (line_end here.first)) (behind_spelled here.behind)
          ∙ (ap (λ x. whole ++ x) j.1 ∙ ap (λ x. x ++ 10 ∷ html) (sym k)),
    ))
line-ok lines.unknown s html o left ns k h i = absurd (cc)

-- lines as they are written
abbrev pub ended_lines : List (List ℕ) → List ℕ
ended_lines [] = []
ended_lines (s ∷ rest) = s ++ 10 ∷ ended_lines rest

pub lines-ok : (ls : List (List ℕ)) (html : List ℕ) (o : trees.Open) (left : Option (List (List ℕ)))
    (ns : List (List ℕ)) → names_with_lines ls left ≡ Some ns
    → ((ms : List (List ℕ)) → left ≡ Some ms → IsOpen o ms html)
    → IsOpen (with_lines ls o) ns (ended_lines ls ++ html)
lines-ok [] html o left ns h i = i ns h
lines-ok (s ∷ rest) html o left ns h i =
    subst (IsOpen (with_lines (s ∷ rest) o) ns) (sym (append_assoc s (10 ∷ ended_lines rest) html))
    (line-ok (line_of s) s (ended_lines rest ++ html) (with_lines rest o) (names_with_lines rest left) ns (line-is s) h
    (λ ms f. lines-ok rest html o left ms f i))

-- the names of the end tags that are left
pub lines-named : (ls : List (List ℕ)) (o : trees.Open) (left : Option (List (List ℕ))) (ns : List (List ℕ))
    → names_with_lines ls left ≡ Some ns
    → ((ms : List (List ℕ)) → left ≡ Some ms → names_of o.behind ≡ ms)
    → names_of (with_lines ls o).behind ≡ ns
lines-named ls o left ns h i = (lines-ok ls (open_spelled o) o left ns h (λ ms f. (i ms f, refl))).0

onto-ended : (b : ℕ) (ls : List (List ℕ)) (c : ℕ) (s : List ℕ) → ended_lines ls ≡ s ++ c ∷ []
    → ended_lines (onto_first b ls) ≡ b ∷ ended_lines ls
onto-ended b [] c [] h = absurd (cc)
onto-ended b [] c (d ∷ s) h = absurd (cc)
onto-ended b (l ∷ ls) c s h = refl

pub split-ended : (s : List ℕ) → ended_lines (lines_of s) ≡ s ++ codes "\n"
split-ended [] = refl
split-ended (b ∷ s) =
    let i = split-ended s in
    test (is_line_end b)
    (λ t. rw t (ap (λ x. 10 ∷ x) i ∙ ap (λ x. x ∷ (s ++ codes "\n")) (sym (eqb-true b 10 t))))
    (λ t. rw t (onto-ended b (lines_of s) 10 s i ∙ ap (λ x. b ∷ x) i))

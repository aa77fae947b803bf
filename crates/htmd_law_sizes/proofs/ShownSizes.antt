-- How big the simpler tree of a page is.
use Rattle.std.proofs.Common.{◌≡◌, refl, ℕ, suc, ◌+◌, ◌*◌, ◌≤◌, Bool, true, false, List, [], ◌∷◌, length, arith}
use Rattle.std.proofs.lemmas.List.{length-append}
use Rattle.std.specs.Prelude.{◌||◌, ◌&&◌, if◌then◌else◌, codes, Option, Some, None}
use Rattle.std.specs.Option.{option_or}
use Rattle.std.specs.Str.{bytes_eq}
use Rattle.htmd_lexical.specs.AttributePairs.{AttributePair}
use Rattle.htmd_text.specs.Trims.{trimmed_text}
use Rattle.htmd_document.specs.declared.document.InlineElement.{InlineElement}
use Rattle.htmd_document.specs.declared.document.InlineElement.TheVariants as format
use Rattle.htmd_nodes.specs.NumberedTrees.{NumberedTree, NumberedForest}
use Rattle.htmd_nodes.specs.NumberedTrees as page
use Rattle.htmd_shown.specs.declared.role.Role.{Role}
use Rattle.htmd_shown.specs.declared.role.Role.TheVariants as role
use Rattle.htmd_shown.specs.Attributes.{value_of, has_attribute, text_of, words, in_line, address, is_filled}
use Rattle.htmd_shown.specs.Embeds.{is_place, place_of, address_name, source_place, has_sources, embedded_address}
use Rattle.htmd_shown.specs.Embeds.{is_unseen, text_or, embedded_title, embedding, embedding_of}
use Rattle.htmd_shown.specs.Embeds.{embedding_names}
use Rattle.htmd_shown.specs.Facts.{made}
use Rattle.htmd_shown.specs.Formulas.{raw_text, raw_text_among, text_if_shown, is_tex, annotated, squeezed}
use Rattle.htmd_shown.specs.Formulas.{annotated_among, annotated_in, annotation_at, annotation, tex_of_math, is_semicolon}
use Rattle.htmd_shown.specs.Formulas.{tex_of}
use Rattle.htmd_shown.specs.Images.{is_file, file_in, is_comma, candidate_in, candidate_among}
use Rattle.htmd_shown.specs.Images.{candidate_at, source_of, first_source, picture_source, file_of_attributes}
use Rattle.htmd_shown.specs.Images.{file_of_sets, image_address, is_image}
use Rattle.htmd_shown.specs.Kinds.{are_blank}
use Rattle.htmd_shown.specs.LineNumbers.{has_numbered_rows}
use Rattle.htmd_shown.specs.Permalinks.{is_permalink}
use Rattle.htmd_shown.specs.Repeats.{is_repeat, last_element, leads_to_script}
use Rattle.htmd_shown.specs.Roles.{is_emphasis, is_strong, is_deleted, is_typed, is_apart, inline_role, element_role, is_verbatim_name}
use Rattle.htmd_shown.specs.Roles.{is_bullet_list, is_table_body, block_names, block_role, heading_or_block, table_role}
use Rattle.htmd_shown.specs.Roles.{role_of, is_among}
use Rattle.htmd_shown.specs.Shown.{Sight, Surroundings, nowhere, inside, is_for_layout, plain_element, role_by, role_at, raised_by}
use Rattle.htmd_shown.specs.Shown.{raised_one, raised, with_one, followed_by, marks, marked}
use Rattle.htmd_shown.specs.Shown.{is_led_to, with_content, embed, object, is_skipped, is_hidden, is_emptied}
use Rattle.htmd_shown.specs.Shown.{by_content, formula_or, is_img, source_for, source_after, shown, shown_all}
use Rattle.htmd_shown.specs.ShownTexts.{shown_text}
use Rattle.htmd_shown.specs.SimpleTrees.{Simple, Simples, none, more, is_text}
use Rattle.htmd_shown.specs.SimpleTrees as simple
use Rattle.htmd_shown.specs.Spaces.{is_blank_text}
use Rattle.std.specs.List.{before_first}
use Rattle.htmd_law_sizes.specs.DocumentSizes.{size_of_option}
use Rattle.htmd_law_sizes.specs.SimpleSizes.{level_of, size_of_simple, size_of_simples}
use Rattle.htmd_law_sizes.specs.SizeLaws.{ShownIsBounded}
use Rattle.htmd_law_sizes.specs.TreeSizes.{size_of_values, size_of_tree, size_of_forest}
use Rattle.htmd_document_of_tree.proofs.TextLengths.{total}
use Rattle.htmd_document_of_tree.proofs.TextLengths.{shown_le, words_le, line_le, trimmed_le, address_le}
use Rattle.htmd_law_sizes.proofs.TextCosts.{value_le, text_le}

-- ---- levels of headings

record Leveled (x : Role) : Type 0 where
  has : level_of x ≤ 6

choose : (t : Bool) {x y : Role} → Leveled x → Leveled y → Leveled (if t then x else y)
choose true h i = h
choose false h i = i

element_role_level : (name : List ℕ) → Leveled (element_role name)
unfolding element_role
element_role_level name =
    choose (bytes_eq name (codes "sup")) (record { has = omega arith })
    (choose (bytes_eq name (codes "sub")) (record { has = omega arith })
    (choose (bytes_eq name (codes "ins")) (record { has = omega arith })
    (choose (bytes_eq name (codes "u")) (record { has = omega arith })
    (choose (bytes_eq name (codes "mark")) (record { has = omega arith })
    (choose (bytes_eq name (codes "small")) (record { has = omega arith })
    (choose (bytes_eq name (codes "kbd")) (record { has = omega arith })
    (choose (bytes_eq name (codes "abbr")) (record { has = omega arith })
    (record { has = omega arith }))))))))

inline_role_level : (name : List ℕ) → Leveled (inline_role name)
unfolding inline_role
inline_role_level name =
    choose (is_emphasis name) (record { has = omega arith })
    (choose (is_strong name) (record { has = omega arith })
    (choose (is_deleted name) (record { has = omega arith })
    (choose (bytes_eq name (codes "code")) (record { has = omega arith })
    (choose (is_typed name) (record { has = omega arith })
    (choose (bytes_eq name (codes "a")) (record { has = omega arith })
    (choose (is_apart name) (record { has = omega arith })
    (choose (bytes_eq name (codes "br")) (record { has = omega arith })
    (choose (bytes_eq name (codes "input")) (record { has = omega arith })
    (element_role_level name)))))))))

block_role_level : (name : List ℕ) → Leveled (block_role name)
unfolding block_role
block_role_level name =
    choose (bytes_eq name (codes "dl")) (record { has = omega arith })
    (choose (bytes_eq name (codes "dt")) (record { has = omega arith })
    (choose (bytes_eq name (codes "dd")) (record { has = omega arith })
    (choose (bytes_eq name (codes "div")) (record { has = omega arith })
    (choose (bytes_eq name (codes "figure")) (record { has = omega arith })
    (choose (bytes_eq name (codes "figcaption")) (record { has = omega arith })
    (choose (bytes_eq name (codes "details")) (record { has = omega arith })
    (choose (bytes_eq name (codes "summary")) (record { has = omega arith })
    (choose (bytes_eq name (codes "legend")) (record { has = omega arith })
    (choose (is_among block_names name) (record { has = omega arith })
    (inline_role_level name))))))))))

heading_or_block_level : (name : List ℕ) → Leveled (heading_or_block name)
unfolding heading_or_block
heading_or_block_level name =
    choose (bytes_eq name (codes "h1")) (record { has = omega arith })
    (choose (bytes_eq name (codes "h2")) (record { has = omega arith })
    (choose (bytes_eq name (codes "h3")) (record { has = omega arith })
    (choose (bytes_eq name (codes "h4")) (record { has = omega arith })
    (choose (bytes_eq name (codes "h5")) (record { has = omega arith })
    (choose (bytes_eq name (codes "h6")) (record { has = omega arith })
    (block_role_level name))))))

table_role_level : (name : List ℕ) → Leveled (table_role name)
unfolding table_role
table_role_level name =
    choose (bytes_eq name (codes "table")) (record { has = omega arith })
    (choose (bytes_eq name (codes "caption")) (record { has = omega arith })
    (choose (bytes_eq name (codes "thead")) (record { has = omega arith })
    (choose (is_table_body name) (record { has = omega arith })
    (choose (bytes_eq name (codes "tr")) (record { has = omega arith })
    (choose (bytes_eq name (codes "td")) (record { has = omega arith })
    (choose (bytes_eq name (codes "th")) (record { has = omega arith })
    (heading_or_block_level name)))))))

role_of_level : (name : List ℕ) → Leveled (role_of name)
unfolding role_of
role_of_level name =
    choose (bytes_eq name (codes "p")) (record { has = omega arith })
    (choose (bytes_eq name (codes "li")) (record { has = omega arith })
    (choose (is_bullet_list name) (record { has = omega arith })
    (choose (bytes_eq name (codes "ol")) (record { has = omega arith })
    (choose (bytes_eq name (codes "pre")) (record { has = omega arith })
    (choose (is_verbatim_name name) (record { has = omega arith })
    (choose (bytes_eq name (codes "blockquote")) (record { has = omega arith })
    (choose (bytes_eq name (codes "hr")) (record { has = omega arith })
    (table_role_level name))))))))

plain_element_level : (f : InlineElement) → Leveled (plain_element f)
plain_element_level format.Superscript = record { has = omega arith }
plain_element_level format.Subscript = record { has = omega arith }
plain_element_level format.Inserted = record { has = omega arith }
plain_element_level format.Underlined = record { has = omega arith }
plain_element_level format.Marked = record { has = omega arith }
plain_element_level format.Small = record { has = omega arith }
plain_element_level format.Keyboard = record { has = omega arith }

by_level : (t : Bool) (r : Role) (attributes : List AttributePair) (children : NumberedForest) → Leveled r
    → Leveled (role_by t r attributes children)
by_level t (role.Format f) attributes children h = h
by_level t (role.Element f) attributes children h = choose t h (plain_element_level f)
by_level t role.Abbreviation attributes children h = choose t h (record { has = omega arith })
by_level t role.Code attributes children h = h
by_level t role.Typed attributes children h = h
by_level t role.Link attributes children h =
    choose (has_attribute (codes "href") attributes) (record { has = omega arith }) (record { has = omega arith })
by_level t role.Target attributes children h = h
by_level t role.Apart attributes children h = h
by_level t role.LineBreak attributes children h = h
by_level t role.Input attributes children h = h
by_level t (role.Heading level) attributes children h = h
by_level t role.Paragraph attributes children h = h
by_level t role.Preformatted attributes children h = h
by_level t role.Verbatim attributes children h = h
by_level t role.BlockQuote attributes children h = h
by_level t role.ThematicBreak attributes children h = h
by_level t role.BulletList attributes children h = h
by_level t role.NumberedList attributes children h = h
by_level t role.Item attributes children h = h
by_level t role.Terms attributes children h = h
by_level t role.Term attributes children h = h
by_level t role.Meaning attributes children h = h
by_level t role.Table attributes children h =
    choose (is_for_layout attributes || has_numbered_rows children) (record { has = omega arith })
    (record { has = omega arith })
by_level t role.LayoutTable attributes children h = h
by_level t role.Caption attributes children h = h
by_level t role.TableHead attributes children h = h
by_level t role.TableBody attributes children h = h
by_level t role.Row attributes children h = h
by_level t role.Cell attributes children h = h
by_level t role.HeaderCell attributes children h = h
by_level t role.Division attributes children h = h
by_level t role.Figure attributes children h = h
by_level t role.FigureCaption attributes children h = h
by_level t role.Details attributes children h = h
by_level t role.Summary attributes children h = h
by_level t role.Legend attributes children h = h
by_level t role.Block attributes children h = h
by_level t role.Plain attributes children h = h
by_level t role.Anchors attributes children h = h
by_level t role.Unlinked attributes children h = h

-- ---- values

pub or_le : (a b : Option (List ℕ)) (k : ℕ) → size_of_option a ≤ k → size_of_option b ≤ k
    → size_of_option (option_or a b) ≤ k
or_le None b k h i = i
or_le (Some s) b k h i = h

-- of what an option gives, if it passes
if_le : (t : Bool) (s : List ℕ) (k : ℕ) → length s ≤ k → size_of_option (if t then Some s else None) ≤ k
if_le true s k h = h
if_le false s k h = omega arith

unless_le : (t : Bool) (s : List ℕ) (k : ℕ) → length s ≤ k → size_of_option (if t then None else Some s) ≤ k
unless_le true s k h = omega arith
unless_le false s k h = h

file_le : (o : Option (List ℕ)) → size_of_option (file_in o) ≤ size_of_option o
file_le None = omega arith
file_le (Some s) = if_le (is_file s) s (length s) (omega arith)

among_le : (ws : List (List ℕ)) → size_of_option (candidate_among ws) ≤ total ws
among_le [] = omega arith
among_le (w ∷ ws) =
    or_le (candidate_in w) (candidate_among ws) (length w + total ws)
    (if_le (is_filled (trimmed_text is_comma w)) (trimmed_text is_comma w) (length w + total ws)
    (omega (arith, trimmed_le is_comma w)))
    (omega (arith, among_le ws))

candidate_le : (name : List ℕ) (attributes : List AttributePair)
    → size_of_option (candidate_at name attributes) ≤ suc (size_of_values attributes)
candidate_le name attributes =
    let s = text_of name attributes in
    omega (arith, among_le (words s), words_le s, text_le name attributes)

source_le : (attributes : List AttributePair)
    → size_of_option (source_of attributes) ≤ suc (size_of_values attributes)
source_le attributes =
    or_le (candidate_at (codes "data-srcset") attributes) (candidate_at (codes "srcset") attributes)
    (suc (size_of_values attributes)) (candidate_le (codes "data-srcset") attributes)
    (candidate_le (codes "srcset") attributes)

-- what the elements among nodes say themselves
abbrev own : NumberedTree → ℕ
own (page.element id name attributes children) = suc (size_of_values attributes)
own (page.document id children) = 0
own (page.doctype id) = 0
own (page.text id s) = 0
own (page.comment id s) = 0

abbrev own_among : NumberedForest → ℕ
own_among page.none = 0
own_among (page.more t ts) = own t + own_among ts

own_le : (ts : NumberedForest) → own_among ts ≤ size_of_forest ts
own_le page.none = omega arith
own_le (page.more (page.element id name attributes children) ts) = omega (arith, own_le ts)
own_le (page.more (page.document id children) ts) = omega (arith, own_le ts)
own_le (page.more (page.doctype id) ts) = omega (arith, own_le ts)
own_le (page.more (page.text id s) ts) = omega (arith, own_le ts)
own_le (page.more (page.comment id s) ts) = omega (arith, own_le ts)

first_le : (ts : NumberedForest) → size_of_option (first_source ts) ≤ own_among ts
first_le page.none = omega arith
first_le (page.more (page.element id name attributes children) ts) = go (bytes_eq name (codes "source")) (first_le ts)
  where
    go : (t : Bool) → size_of_option (first_source ts) ≤ own_among ts
        → size_of_option (if t then source_of attributes else first_source ts)
        ≤ suc (size_of_values attributes) + own_among ts
    go true i = omega (arith, source_le attributes)
    go false i = omega (arith, i)
first_le (page.more (page.document id children) ts) = omega (arith, first_le ts)
first_le (page.more (page.doctype id) ts) = omega (arith, first_le ts)
first_le (page.more (page.text id s) ts) = omega (arith, first_le ts)
first_le (page.more (page.comment id s) ts) = omega (arith, first_le ts)

picture_le : (name : List ℕ) (ts : NumberedForest) → size_of_option (picture_source name ts) ≤ own_among ts
picture_le name ts = go (bytes_eq name (codes "picture"))
  where
    go : (t : Bool) → size_of_option (if t then first_source ts else None) ≤ own_among ts
    go true = first_le ts
    go false = omega arith

at_le : (name : List ℕ) (attributes : List AttributePair) (k : ℕ) → size_of_values attributes ≤ k
    → size_of_option (file_in (value_of name attributes)) ≤ k
at_le name attributes k h =
    omega (arith, file_le (value_of name attributes), value_le name attributes, h)

set_le : (name : List ℕ) (attributes : List AttributePair) (k : ℕ) → suc (size_of_values attributes) ≤ k
    → size_of_option (file_in (candidate_at name attributes)) ≤ k
set_le name attributes k h =
    omega (arith, file_le (candidate_at name attributes), candidate_le name attributes, h)

image_le : (attributes : List AttributePair) (source : Option (List ℕ))
    → size_of_option (image_address attributes source) ≤ suc (size_of_values attributes) + size_of_option source
image_le attributes source =
    let k = suc (size_of_values attributes) + size_of_option source in
    let h : size_of_values attributes ≤ k = omega arith in
    let i : suc (size_of_values attributes) ≤ k = omega arith in
    or_le (file_of_attributes attributes)
    (option_or (file_of_sets attributes) (option_or (file_in source) (value_of (codes "src") attributes))) k
    (or_le (file_in (value_of (codes "src") attributes))
    (option_or (file_in (value_of (codes "data-src") attributes))
    (option_or (file_in (value_of (codes "data-original") attributes))
    (file_in (value_of (codes "data-lazy-src") attributes)))) k (at_le (codes "src") attributes k h)
    (or_le (file_in (value_of (codes "data-src") attributes))
    (option_or (file_in (value_of (codes "data-original") attributes))
    (file_in (value_of (codes "data-lazy-src") attributes))) k (at_le (codes "data-src") attributes k h)
    (or_le (file_in (value_of (codes "data-original") attributes))
    (file_in (value_of (codes "data-lazy-src") attributes)) k (at_le (codes "data-original") attributes k h)
    (at_le (codes "data-lazy-src") attributes k h))))
    (or_le (file_of_sets attributes) (option_or (file_in source) (value_of (codes "src") attributes)) k
    (or_le (file_in (candidate_at (codes "data-srcset") attributes))
    (file_in (candidate_at (codes "srcset") attributes))
    k (set_le (codes "data-srcset") attributes k i) (set_le (codes "srcset") attributes k i))
    (or_le (file_in source) (value_of (codes "src") attributes) k (omega (arith, file_le source))
    (omega (arith, value_le (codes "src") attributes))))

-- ---- formulas

mutual
  raw_le : (t : NumberedTree) → length (raw_text t) ≤ size_of_tree t
  raw_le (page.text id s) = omega arith
  raw_le (page.element id name attributes children) = omega (arith, raw_among_le children)
  raw_le (page.document id children) = omega arith
  raw_le (page.doctype id) = omega arith
  raw_le (page.comment id s) = omega arith

  raw_among_le : (ts : NumberedForest) → length (raw_text_among ts) ≤ size_of_forest ts
  raw_among_le page.none = omega arith
  raw_among_le (page.more t ts) =
      omega (arith, raw_le t, raw_among_le ts, length-append (raw_text t) (raw_text_among ts))

seen_le : (s : List ℕ) → size_of_option (text_if_shown s) ≤ 2 * length s
seen_le s = unless_le (is_blank_text (shown_text s)) (shown_text s) (2 * length s) (shown_le s)

annotated_le : (t : NumberedTree) → size_of_option (annotated t) ≤ 2 * size_of_tree t
annotated_le (page.element id name attributes children) = go (bytes_eq name (codes "annotation") && is_tex attributes)
  where
    go : (b : Bool)
        → size_of_option (if b then text_if_shown (raw_text_among children) else None)
        ≤ 2 * suc (size_of_values attributes + size_of_forest children)
    go true = omega (arith, seen_le (raw_text_among children), raw_among_le children)
    go false = omega arith
annotated_le (page.text id s) = omega arith
annotated_le (page.document id children) = omega arith
annotated_le (page.doctype id) = omega arith
annotated_le (page.comment id s) = omega arith

annotations_le : (ts : NumberedForest) → size_of_option (annotated_among ts) ≤ 2 * size_of_forest ts
annotations_le page.none = omega arith
annotations_le (page.more t ts) =
    or_le (annotated t) (annotated_among ts) (2 * (size_of_tree t + size_of_forest ts)) (omega (arith, annotated_le t))
    (omega (arith, annotations_le ts))

semantics_le : (t : NumberedTree) → size_of_option (annotated_in t) ≤ 2 * size_of_tree t
semantics_le (page.element id name attributes children) = go (bytes_eq name (codes "semantics"))
  where
    go : (b : Bool)
        → size_of_option (if b then annotated_among children else None)
        ≤ 2 * suc (size_of_values attributes + size_of_forest children)
    go true = omega (arith, annotations_le children)
    go false = omega arith
semantics_le (page.text id s) = omega arith
semantics_le (page.document id children) = omega arith
semantics_le (page.doctype id) = omega arith
semantics_le (page.comment id s) = omega arith

annotation_le : (ts : NumberedForest) → size_of_option (annotation ts) ≤ 2 * size_of_forest ts
annotation_le page.none = omega arith
annotation_le (page.more t ts) =
    or_le (annotation_at t) (annotation ts) (2 * (size_of_tree t + size_of_forest ts))
    (or_le (annotated t) (annotated_in t) (2 * (size_of_tree t + size_of_forest ts)) (omega (arith, annotated_le t))
    (omega (arith, semantics_le t)))
    (omega (arith, annotation_le ts))

tex_le : (name : List ℕ) (attributes : List AttributePair) (ts : NumberedForest)
    → size_of_option (tex_of name attributes ts) ≤ 2 * (size_of_values attributes + size_of_forest ts)
tex_le name attributes ts =
    go (bytes_eq name (codes "math")) (bytes_eq name (codes "script"))
    (bytes_eq (squeezed (before_first is_semicolon (text_of (codes "type") attributes))) (codes "math/tex"))
  where
    k : ℕ
    k = 2 * (size_of_values attributes + size_of_forest ts)

    go : (a b c : Bool)
        → size_of_option
        (if a then tex_of_math attributes ts
        else (if b then (if c then text_if_shown (raw_text_among ts) else None) else None))
        ≤ 2 * (size_of_values attributes + size_of_forest ts)
    go true b c =
        or_le (annotation ts) (text_if_shown (text_of (codes "alttext") attributes)) k
        (omega (arith, annotation_le ts))
        (omega (
          arith,
          seen_le (text_of (codes "alttext") attributes),
          text_le (codes "alttext") attributes,
        ))
    go false true true = omega (arith, seen_le (raw_text_among ts), raw_among_le ts)
    go false true false = omega arith
    go false false c = omega arith

-- ---- what is embedded

place_le : (s : List ℕ) → size_of_option (place_of s) ≤ 2 * length s
place_le s = if_le (is_place (address s)) (address s) (2 * length s) (address_le s)

source_place_le : (ts : NumberedForest) → size_of_option (source_place ts) ≤ 2 * size_of_forest ts
source_place_le page.none = omega arith
source_place_le (page.more (page.element id name attributes children) ts) =
    go (bytes_eq name (codes "source")) (source_place_le ts)
  where
    go : (t : Bool) → size_of_option (source_place ts) ≤ 2 * size_of_forest ts
        → size_of_option (if t then place_of (text_of (codes "src") attributes) else source_place ts)
        ≤ 2 * (suc (size_of_values attributes + size_of_forest children) + size_of_forest ts)
    go true i =
        omega (arith, place_le (text_of (codes "src") attributes), text_le (codes "src") attributes)
    go false i = omega (arith, i)
source_place_le (page.more (page.document id children) ts) = omega (arith, source_place_le ts)
source_place_le (page.more (page.doctype id) ts) = omega (arith, source_place_le ts)
source_place_le (page.more (page.text id s) ts) = omega (arith, source_place_le ts)
source_place_le (page.more (page.comment id s) ts) = omega (arith, source_place_le ts)

place_at_le : (name : List ℕ) (attributes : List AttributePair) (ts : NumberedForest)
    → size_of_option (embedded_address name attributes ts) ≤ 2 * (size_of_values attributes + size_of_forest ts)
place_at_le name attributes ts =
    or_le (place_of s) (if has_sources name then source_place ts else None)
    (2 * (size_of_values attributes + size_of_forest ts))
    (omega (arith, place_le s, text_le (address_name name) attributes)) (go (has_sources name))
  where
    s : List ℕ
    s = text_of (address_name name) attributes

    go : (t : Bool)
        → size_of_option (if t then source_place ts else None) ≤ 2 * (size_of_values attributes + size_of_forest ts)
    go true = omega (arith, source_place_le ts)
    go false = omega arith

text_or_le : (s other : List ℕ) (k : ℕ) → length s ≤ k → length other ≤ k → length (text_or s other) ≤ k
text_or_le s other k h i = go (is_blank_text s)
  where
    go : (t : Bool) → length (if t then other else s) ≤ k
    go true = i
    go false = h

embedded_title_le : (attributes : List AttributePair) (place : List ℕ)
    → length (embedded_title attributes place) ≤ 1 + 2 * size_of_values attributes + 2 * length place
embedded_title_le attributes place =
    let k = 1 + 2 * size_of_values attributes + 2 * length place in
    text_or_le (in_line (text_of (codes "title") attributes))
    (text_or (in_line (text_of (codes "aria-label") attributes)) (in_line place)) k
    (omega (arith, line_le (text_of (codes "title") attributes), text_le (codes "title") attributes))
    (text_or_le (in_line (text_of (codes "aria-label") attributes)) (in_line place) k
    (omega (arith, line_le (text_of (codes "aria-label") attributes), text_le (codes "aria-label") attributes))
    (omega (arith, line_le place)))

-- what shows of a node, if something does
abbrev size_if : Option Simple → ℕ
size_if None = 0
size_if (Some t) = size_of_simple t

embedding_le : (id : ℕ) (attributes : List AttributePair) (o : Option (List ℕ)) (k : ℕ) → size_of_option o ≤ k
    → size_if (embed id attributes (embedding attributes o)) ≤ 2 + 3 * size_of_values attributes + 3 * k
embedding_le id attributes None k h = omega arith
embedding_le id attributes (Some place) k h = go (is_unseen attributes)
  where
    go : (t : Bool)
        → size_if
        (embed id attributes
        (if t then None else Some (record { address = place; title = embedded_title attributes place })))
        ≤ 2 + 3 * size_of_values attributes + 3 * k
    go true = omega arith
    go false = omega (arith, embedded_title_le attributes place, h)

embed_le : (id : ℕ) (name : List ℕ) (attributes : List AttributePair) (ts : NumberedForest)
    → size_if (embed id attributes (embedding_of name attributes ts))
    ≤ 2 + 9 * size_of_values attributes + 6 * size_of_forest ts
embed_le id name attributes ts =
    omega (
      arith,
      embedding_le id attributes (embedded_address name attributes ts)
          (2 * (size_of_values attributes + size_of_forest ts)) (place_at_le name attributes ts),
    )

-- ---- elements

followed_size : (a b : Simples) → size_of_simples (followed_by a b) ≡ size_of_simples a + size_of_simples b
followed_size none b = omega arith
followed_size (more t a) b = omega (arith, followed_size a b)

marked_le : (t : Bool) (content : Simples) → size_of_simples (marked t content) ≤ 4 + size_of_simples content
marked_le true content =
    omega (
      arith,
      followed_size (followed_by (marks true) content) (marks true),
      followed_size (marks true) content,
    )
marked_le false content =
    omega (
      arith,
      followed_size (followed_by (marks false) content) (marks false),
      followed_size (marks false) content,
    )

one_le : (f : Option InlineElement) (id : ℕ) (t : Simple)
    → size_of_simple (raised_one f id t) ≤ 1 + size_of_simple t
one_le None id t = omega arith
one_le (Some f) id t = go (is_text t)
  where
    go : (b : Bool)
        → size_of_simple (if b then t else made id (role.Element f) [] (more t none)) ≤ 1 + size_of_simple t
    go true = omega arith
    go false = omega arith

-- what no format is left for stays
plain_le : (id : ℕ) (ts : Simples) → size_of_simples (raised [] id ts) ≤ size_of_simples ts
plain_le id none = omega arith
plain_le id (more t ts) = omega (arith, plain_le id ts)

first_raised : (f : Option InlineElement) (fs : List (Option InlineElement)) (id : ℕ) (t : Simple) (ts : Simples)
    (b : Bool)
    → is_text t ≡ b
    → size_of_simples (raised (f ∷ fs) id ts) ≤ suc (length fs) + size_of_simples ts
    → size_of_simples (raised fs id ts) ≤ length fs + size_of_simples ts
    → size_of_simple (raised_one f id t) + size_of_simples (raised (if b then f ∷ fs else fs) id ts)
    ≤ suc (length fs) + (size_of_simple t + size_of_simples ts)
first_raised None fs id t ts true e h i = omega (arith, h)
first_raised (Some f) fs id t ts true e h i = rw e (omega (arith, h))
first_raised f fs id t ts false e h i = omega (arith, one_le f id t, i)

raised_le : (fs : List (Option InlineElement)) (id : ℕ) (ts : Simples)
    → size_of_simples (raised fs id ts) ≤ length fs + size_of_simples ts
raised_le fs id none = omega arith
raised_le [] id (more t ts) = omega (arith, plain_le id (more t ts))
raised_le (f ∷ fs) id (more t ts) =
    first_raised f fs id t ts (is_text t) refl (raised_le (f ∷ fs) id ts) (raised_le fs id ts)

formats_le : (name : List ℕ) → length (raised_by name) ≤ 3
formats_le name =
    go (bytes_eq name (codes "msup")) (bytes_eq name (codes "msub")) (bytes_eq name (codes "msubsup"))
  where
    go : (a b c : Bool)
        → length
        (if a then None ∷ Some format.Superscript ∷ []
        else (if b then None ∷ Some format.Subscript ∷ []
        else (if c then None ∷ Some format.Subscript ∷ Some format.Superscript ∷ [] else [])))
        ≤ 3
    go true b c = omega arith
    go false true c = omega arith
    go false false true = omega arith
    go false false false = omega arith

made_le : (t : Bool) (id : ℕ) (name : List ℕ) (attributes : List AttributePair) (ts : NumberedForest)
    (content : Simples)
    → size_of_simple (made id (role_at t name attributes ts) attributes content)
    ≤ 7 + size_of_values attributes + size_of_simples content
made_le t id name attributes ts content =
    let l = by_level t (role_of name) attributes ts (role_of_level name) in
    omega (arith, l.has)

object_le : (id : ℕ) (name : List ℕ) (attributes : List AttributePair) (ts : NumberedForest) (content : Simples)
    (k : ℕ)
    → size_of_simples content ≤ k → 6 * size_of_forest ts ≤ k
    → size_if (object id attributes content (embedding_of name attributes ts)) ≤ 2 + 9 * size_of_values attributes
    + k
object_le id name attributes ts content k h l =
    go (are_blank content) (embed id attributes (embedding_of name attributes ts))
    (omega (arith, embed_le id name attributes ts, l))
  where
    go : (b : Bool) (o : Option Simple) → size_if o ≤ 2 + 9 * size_of_values attributes + k
        → size_if
        (if b then option_or o (Some (made id role.Plain attributes content))
        else Some (made id role.Plain attributes content))
        ≤ 2 + 9 * size_of_values attributes + k
    go true None i = omega (arith, h)
    go true (Some t) i = i
    go false o i = omega (arith, h)

content_le : (t in_head : Bool) (id : ℕ) (name : List ℕ) (attributes : List AttributePair) (ts : NumberedForest)
    (content : Simples)
    → size_if (with_content t in_head id name attributes ts content)
    ≤ 7 + size_of_values attributes + size_of_simples content
content_le t in_head id name attributes ts content =
    go (bytes_eq name (codes "a") && is_permalink in_head attributes content) (is_led_to attributes)
  where
    go : (a b : Bool)
        → size_if
        (if a then (if b then Some (made id role.Target attributes none) else None)
        else Some (made id (role_at t name attributes ts) attributes content))
        ≤ 7 + size_of_values attributes + size_of_simples content
    go true true = omega arith
    go true false = omega arith
    go false b = made_le t id name attributes ts content

by_le : (t : Bool) (around : Surroundings) (source : Option (List ℕ)) (id : ℕ) (name : List ℕ)
    (attributes : List AttributePair)
    (ts : NumberedForest) (content : Simples) (k : ℕ) → size_of_simples content ≤ k
    → 6 * size_of_forest ts ≤ k
    → size_if (by_content t around source id name attributes ts content)
    ≤ 7 + 9 * size_of_values attributes + size_of_option source + k
by_le t around source id name attributes ts content k h l =
    go (is_hidden around name attributes) (is_image name attributes) (is_among embedding_names name)
    (bytes_eq name (codes "object"))
  where
    go : (a b c d : Bool)
        → size_if
        (if a then None
        else (if b then Some (simple.image (image_address attributes source) attributes)
        else (if c then embed id attributes (embedding_of name attributes ts)
        else (if d then object id attributes content (embedding_of name attributes ts)
        else with_content t around.in_head id name attributes ts content))))
        ≤ 7 + 9 * size_of_values attributes + size_of_option source + k
    go true b c d = omega arith
    go false true c d = omega (arith, image_le attributes source)
    go false false true d = omega (arith, embed_le id name attributes ts, l)
    go false false false true = omega (arith, object_le id name attributes ts content k h l)
    go false false false false = omega (arith, content_le t around.in_head id name attributes ts content, h)

or_formula_le : (name : List ℕ) (attributes : List AttributePair) (other : Option Simple) (tex : Option (List ℕ))
    (f k : ℕ) → size_of_option tex ≤ 2 * (size_of_values attributes + f) → size_if other ≤ k
    → 1 + 3 * size_of_values attributes + 2 * f ≤ k → size_if (formula_or name attributes other tex) ≤ k
or_formula_le name attributes other None f k h i l = i
or_formula_le name attributes other (Some tex) f k h i l = omega (arith, h, l)

emptied_le : (b : Bool) (content : Simples) (k : ℕ) → size_of_simples content ≤ k
    → size_of_simples (if b then none else content) ≤ k
emptied_le true content k h = omega arith
emptied_le false content k h = h

skipped_le : (b : Bool) (o : Option Simple) (k : ℕ) → size_if o ≤ k → size_if (if b then None else o) ≤ k
skipped_le true o k h = omega arith
skipped_le false o k h = h

with_le : (o : Option Simple) (ts : Simples) → size_of_simples (with_one o ts) ≡ size_if o + size_of_simples ts
with_le None ts = omega arith
with_le (Some t) ts = omega arith

-- the first image takes what a picture gives
source_once : (source : Option (List ℕ)) (t : NumberedTree)
    → size_of_option (source_for source t) + size_of_option (source_after source t) ≤ size_of_option source
source_once source t = go (is_img t)
  where
    go : (b : Bool)
        → size_of_option (if b then source else None) + size_of_option (if b then None else source)
        ≤ size_of_option source
    go true = omega arith
    go false = omega arith

-- ---- nodes

mutual
  unfolding shown shown_all

  node_le : (sight : Sight) (around : Surroundings) (source : Option (List ℕ)) (t : NumberedTree)
      → size_if (shown sight around source t) + own t ≤ 16 * size_of_tree t + size_of_option source
  node_le sight around source (page.document id children) = omega arith
  node_le sight around source (page.doctype id) = omega arith
  node_le sight around source (page.text id s) = omega (arith, shown_le s)
  node_le sight around source (page.comment id s) = omega arith
  node_le sight around source (page.element id name attributes children) =
      let a = size_of_values attributes in
      let f = size_of_forest children in
      let inner = shown_all sight (inside name children around) (picture_source name children) None children in
      let r = raised (raised_by name) id inner in
      let m = marked (bytes_eq name (codes "q")) r in
      let content = if is_emptied around name attributes then none else m in
      let h : size_of_simples inner ≤ 16 * f =
      omega (
        arith,
        nodes_le sight (inside name children around) (picture_source name children) None children,
        picture_le name children,
      ) in
      let i : size_of_simples m ≤ 16 * f + 7 =
      omega (arith, h, marked_le (bytes_eq name (codes "q")) r, raised_le (raised_by name) id inner, formats_le name) in
      let j : size_of_simples content ≤ 16 * f + 7 =
      emptied_le (is_emptied around name attributes) m (16 * f + 7) i in
      let k = 14 + 9 * a + size_of_option source + 16 * f in
      let b = by_content sight.is_rich around source id name attributes children content in
      let e : size_if b ≤ k =
      omega (
        arith,
        by_le sight.is_rich around source id name attributes children content (16 * f + 7) j (omega arith),
      ) in
      let g : size_if (formula_or name attributes b (tex_of name attributes children)) ≤ k =
      or_formula_le name attributes b (tex_of name attributes children) f k (tex_le name attributes children) e
      (omega arith) in
      omega (
        arith,
        skipped_le (is_skipped sight name) (formula_or name attributes b (tex_of name attributes children)) k g,
      )

  nodes_le : (sight : Sight) (around : Surroundings) (source : Option (List ℕ)) (before : Option (List AttributePair))
      (ts : NumberedForest)
      → size_of_simples (shown_all sight around source before ts) + own_among ts
      ≤ 16 * size_of_forest ts + size_of_option source
  nodes_le sight around source before page.none = omega arith
  nodes_le sight around source before (page.more t ts) =
      let o = shown sight around (source_for source t) t in
      let b = is_repeat before t (leads_to_script sight.skip ts) in
      let x = shown_all sight around (source_after source t) (last_element before t) ts in
      omega (
        arith,
        with_le (if b then None else o) x,
        skipped_le b o (size_if o) (omega arith),
        node_le sight around (source_for source t) t,
        nodes_le sight around (source_after source t) (last_element before t) ts,
        source_once source t,
      )

pub shown_is_bounded : ShownIsBounded
shown_is_bounded sight (page.document id children) = omega (arith, nodes_le sight nowhere None None children)
shown_is_bounded sight (page.doctype id) = omega arith
shown_is_bounded sight (page.text id s) = omega arith
shown_is_bounded sight (page.comment id s) = omega arith
shown_is_bounded sight (page.element id name attributes children) = omega arith

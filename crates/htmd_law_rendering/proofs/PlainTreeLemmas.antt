-- The trees of what is read are plain, and begin a body.
use Rattle.std.proofs.Common.{◌≡◌, ℕ, Bool, true, false, ◌&&◌, List, [], ◌∷◌, ◌++◌, drop, refl, sym, ap, ◌∙◌}
use Rattle.std.proofs.Common.{codes, Option, Some, None, subst}
use Rattle.std.specs.Prelude.{nat_le, ⊤, ◌||◌}
use Rattle.std.proofs.lemmas.Bool.{and_parts, and_from, true≢false}
use Rattle.htmd_lexical.proofs.Cases.{test}
use Rattle.htmd_lexical.specs.AttributePairs.{AttributePair}
use Rattle.htmd_lexical.specs.CharacterClasses.{is_among}
use Rattle.htmd_document.specs.FlatDocuments.{lines_of}
use Rattle.htmd_document.specs.Tags.{element_name}
use Rattle.htmd_document.specs.declared.document.BlockElement.{BlockElement}
use Rattle.htmd_document.specs.Formats.{Format, Emphasis, Strong, Deleted, Superscript, Subscript, Inserted}
use Rattle.htmd_document.specs.Formats.{Underlined}
use Rattle.htmd_document.specs.Formats.{Marked, Small, Keyboard, Abbreviation}
use Rattle.htmd_law_rendering.specs.SpelledTrees.{TagForm, spaced, short, SpelledForest, text, element, lone, none}
use Rattle.htmd_law_rendering.specs.SpelledTrees.{more}
use Rattle.htmd_law_rendering.specs.SpelledTrees.{value_forest}
use Rattle.htmd_values.specs.Serialisation.{is_void}
use Rattle.htmd_grammar.proofs.NestingLemmas.{among_passes}
use Rattle.htmd_law_html5.specs.StrictTrees.{is_plain_element, is_plain_tree, are_plain, are_plain_table, table_names}
use Rattle.htmd_law_html5.specs.StrictTrees.{are_plain_rows}
use Rattle.htmd_grammar.specs.HtmlDocuments.{below_body}
use Rattle.htmd_grammar.specs.Nesting.{Context, parent_name, is_table, is_tbody}
use Rattle.htmd_values.specs.ValueTrees as value
use Rattle.htmd_values.specs.ValueTrees.{ValueTree, ValueForest}
use Rattle.htmd_commonmark_reading.specs.Elements as lines
use Rattle.htmd_commonmark_reading.specs.Elements.{Line, line_of}
use Rattle.htmd_commonmark_reading.specs.Markup.{Inlines, no_inlines, letter, code, formatted, link, image}
use Rattle.htmd_commonmark_reading.specs.Markup.{line_break}
use Rattle.htmd_commonmark_reading.specs.Markup.{task, raw, Block, paragraph, heading, code_block, quote}
use Rattle.htmd_commonmark_reading.specs.Markup.{thematic_break, list, table, html_block, Blocks, no_blocks, block}
use Rattle.htmd_commonmark_reading.specs.Markup.{Items, no_items, item, plain_text}
use Rattle.htmd_commonmark_reading.specs.Rendering.{first_alignment, is_bare}
use Rattle.htmd_document.specs.declared.document.Alignment.{Alignment}
use Rattle.htmd_law_rendering.specs.RawTags.{RawTag, opening, closing, breaking, unknown, raw_tag}
use Rattle.htmd_law_rendering.specs.RenderedTrees.{text_before, line_end, format_name}
use Rattle.htmd_law_rendering.specs.RenderedTrees.{pairs_of_format}
use Rattle.htmd_law_rendering.specs.RenderedTrees.{pairs_of_link, pairs_of_image, pairs_of_box, Behind, Open, opened}
use Rattle.htmd_law_rendering.specs.RenderedTrees.{with_raw, inlines_open, inlines_trees, heading_name}
use Rattle.htmd_law_rendering.specs.RenderedTrees.{pairs_of_language, code_trees, code_block_tree, list_name}
use Rattle.htmd_law_rendering.specs.RenderedTrees.{pairs_of_start, begun_line, block_trees, blocks_trees, items_trees}
use Rattle.htmd_law_rendering.specs.RenderedTrees.{pairs_of_element, with_line, with_lines, with_html, blocks_open}
use Rattle.htmd_law_rendering.specs.RenderedTrees.{spelled_of, pairs_of_alignment, cells_trees, lines_before}
use Rattle.htmd_law_rendering.specs.RenderedTrees.{row_trees, rows_trees, body_trees, table_trees}
use Rattle.htmd_grammar.specs.Grammar.{begins_with_row}
use Rattle.htmd_law_rendering.specs.PlainReadings.{are_strict, block_is_strict, blocks_are_strict, items_are_strict}
use Rattle.htmd_law_rendering.specs.PlainReadings.{opened_names, names_with, names_with_line, names_with_lines}
use Rattle.htmd_law_rendering.specs.PlainReadings.{names_with_html, names_left, names_outside, names_with_ends}
use Rattle.htmd_law_rendering.specs.PlainReadings.{names_before}
use Rattle.htmd_law_rendering.specs.PlainReadings.{blocks_unopened, block_is_paired, each_is_paired, items_are_paired}
use Rattle.htmd_law_rendering.specs.PlainReadings.{blocks_are_paired, takes_blocks, below_open, stands_right}
use Rattle.htmd_law_rendering.specs.RenderedTrees.{sectioned, section_name, left_of_section, bounds_section}
use Rattle.htmd_law_rendering.specs.RenderedTrees.{outside_section, ends_of, onto, is_caption, in_table, before_caption}
use Rattle.htmd_law_rendering.specs.SpelledTrees.{Spelled, section, value_tree}
use Rattle.htmd_law_rendering.proofs.FlowLemmas.{flow-named, AreFlow}
use Rattle.htmd_law_rendering.proofs.LineLemmas.{not-section}
use Rattle.htmd_law_rendering.proofs.LineLemmas.{in-table-named}
use Rattle.htmd_law_rendering.proofs.PlaceLemmas.{by_level}
use Rattle.htmd_law_rendering.proofs.RawLemmas.{IsRaw, raw-is, names_of}
use Rattle.htmd_law_rendering.proofs.RawNames.{raw_names, flow_names}
use Rattle.htmd_law_rendering.proofs.RenderedLemmas.{pairs-end}
use Rattle.htmd_lexical.proofs.BytesLemmas.{same_bytes}
use Rattle.htmd_document.specs.declared.document.BlockElement.TheVariants as an
use Rattle.htmd_grammar.proofs.NestingLemmas.{one_name}
use Rattle.std.specs.Bool.{MatchBool}
use Rattle.std.specs.Str.{bytes_eq}

abbrev ArePlain : SpelledForest → Type 0
ArePlain ts = are_plain (value_forest ts) ≡ true

text-plain : (s : List ℕ) (ts : SpelledForest) → ArePlain ts → ArePlain (text_before s ts)
text-plain [] ts h = h
text-plain (b ∷ s) none h = refl
text-plain (b ∷ s) (more (text u) ts) h = h
text-plain (b ∷ s) (more (element k n attributes ks) ts) h = h
text-plain (b ∷ s) (more (lone n attributes u) ts) h = h
text-plain (b ∷ s) (more (section rows) ts) h = h

line-plain : (ts : SpelledForest) → ArePlain ts → ArePlain (line_end ts)
line-plain ts h = text-plain (codes "\n") ts h

-- what is plain is so in a table
plain-in-table : (ts : ValueForest) → are_plain ts ≡ true → are_plain_table ts ≡ true
plain-in-table value.none h = refl
plain-in-table (value.more t ts) h =
    let p = and_parts (is_plain_tree t) (are_plain ts) h in
    and_from (is_plain_tree t || are_plain_rows t) (are_plain_table ts) (rw (p.0) refl) (plain-in-table ts p.1)

element-plain : (k : TagForm) (n : List ℕ) (attributes : List AttributePair) (ks ts : SpelledForest)
    → is_plain_element n ≡ true → ArePlain ks → ArePlain ts → ArePlain (more (element k n attributes ks) ts)
element-plain k n attributes ks ts e h f =
    test (is_table n) (λ t. rw (e, t, plain-in-table (value_forest ks) h, f) refl) (λ t. rw (e, t, h, f) refl)

-- ---- names

format-plain : (f : Format) → is_plain_element (format_name f) ≡ true
unfolding is_void
format-plain Emphasis = refl
format-plain Strong = refl
format-plain Deleted = refl
format-plain Superscript = refl
format-plain Subscript = refl
format-plain Inserted = refl
format-plain Underlined = refl
format-plain Marked = refl
format-plain Small = refl
format-plain Keyboard = refl
format-plain (Abbreviation title) = refl

code-plain : is_plain_element (codes "code") ≡ true
unfolding is_void
code-plain = refl

a-plain : is_plain_element (codes "a") ≡ true
unfolding is_void
a-plain = refl

img-plain : is_plain_element (codes "img") ≡ true
unfolding is_void
img-plain = refl

br-plain : is_plain_element (codes "br") ≡ true
unfolding is_void
br-plain = refl

input-plain : is_plain_element (codes "input") ≡ true
unfolding is_void
input-plain = refl

p-plain : is_plain_element (codes "p") ≡ true
unfolding is_void
p-plain = refl

pre-plain : is_plain_element (codes "pre") ≡ true
unfolding is_void
pre-plain = refl

quote-plain : is_plain_element (codes "blockquote") ≡ true
unfolding is_void
quote-plain = refl

hr-plain : is_plain_element (codes "hr") ≡ true
unfolding is_void
hr-plain = refl

li-plain : is_plain_element (codes "li") ≡ true
unfolding is_void
li-plain = refl

list-plain : (start : Option ℕ) → is_plain_element (list_name start) ≡ true
unfolding is_void
list-plain None = refl
list-plain (Some n) = refl

heading-plain : (level : ℕ) → nat_le 1 level ≡ true → nat_le level 6 ≡ true
    → is_plain_element (heading_name level) ≡ true
unfolding is_void
heading-plain level l m = by_level (λ n. is_plain_element n ≡ true) level l m refl refl refl refl refl refl

raw-plain : (n : List ℕ) → is_among raw_names n ≡ true → is_plain_element n ≡ true
unfolding is_void
raw-plain n e = among_passes is_plain_element raw_names n e refl

flow-plain : (e : BlockElement) → is_plain_element (element_name e) ≡ true
unfolding is_void
flow-plain an.Details = refl
flow-plain an.Summary = refl
flow-plain an.Terms = refl
flow-plain an.Term = refl
flow-plain an.Meaning = refl
flow-plain an.Figure = refl
flow-plain an.FigureCaption = refl
flow-plain an.Table = refl
flow-plain an.Caption = refl
flow-plain an.Row = refl
flow-plain an.Cell = refl
flow-plain an.HeaderCell = refl

-- ---- what is read

abbrev PlainBehind : List Behind → Type 0
PlainBehind [] = ⊤
PlainBehind (b ∷ bs) = ArePlain b.trees × PlainBehind bs

abbrev PlainOpen : Open → Type 0
PlainOpen o = ArePlain o.first × PlainBehind o.behind

opened-plain : (n : List ℕ) (attributes : List AttributePair) (first : SpelledForest) (behind : List Behind)
    → is_plain_element n ≡ true → ArePlain first → PlainBehind behind
    → PlainOpen (opened n attributes first behind)
opened-plain n attributes first [] e h f = (h, tt)
opened-plain n attributes first (b ∷ bs) e h f =
    (element-plain spaced n attributes first b.trees e h f.0, f.1)

with_raw-plain : (r : RawTag) (s : List ℕ) (o : Open) → IsRaw s r → PlainOpen o → PlainOpen (with_raw r o)
with_raw-plain (opening n attributes) s o w h = opened-plain n attributes o.first o.behind (raw-plain n w.2) h.0 h.1
with_raw-plain (closing n) s o w h = (refl, h)
with_raw-plain (breaking form) s o w h = (element-plain form (codes "br") [] none o.first br-plain refl h.0, h.1)
with_raw-plain unknown s o w h = h

open-plain : (xs : Inlines) (rest : SpelledForest) → ArePlain rest → PlainOpen (inlines_open xs rest)
open-plain no_inlines rest h = (h, tt)
open-plain (letter c xs) rest h =
    let i = open-plain xs rest h in (text-plain (c ∷ []) (inlines_open xs rest).first i.0, i.1)
open-plain (code s xs) rest h =
    let i = open-plain xs rest h in (
      element-plain spaced (codes "code") [] (text_before s none) (inlines_open xs rest).first code-plain
          (text-plain s none refl) i.0,
      i.1,
    )
open-plain (formatted f content xs) rest h =
    let i = open-plain xs rest h in (
      element-plain spaced (format_name f) (pairs_of_format f) (inlines_open content none).first
          (inlines_open xs rest).first (format-plain f) (open-plain content none refl).0 i.0,
      i.1,
    )
open-plain (link a t content xs) rest h =
    let i = open-plain xs rest h in (
      element-plain spaced (codes "a") (pairs_of_link a t) (inlines_open content none).first
          (inlines_open xs rest).first a-plain (open-plain content none refl).0 i.0,
      i.1,
    )
open-plain (image a t content xs) rest h =
    let i = open-plain xs rest h in (
      element-plain spaced (codes "img") (pairs_of_image a t (plain_text content)) none (inlines_open xs rest).first
          img-plain refl i.0,
      i.1,
    )
open-plain (line_break xs) rest h =
    let i = open-plain xs rest h in
    let o = inlines_open xs rest in
    (element-plain spaced (codes "br") [] none (line_end o.first) br-plain refl (line-plain o.first i.0), i.1)
open-plain (task d xs) rest h =
    let i = open-plain xs rest h in
    let o = inlines_open xs rest in (
      element-plain short (codes "input") (pairs_of_box d) none (text_before (codes " ") o.first) input-plain refl
          (text-plain (codes " ") o.first i.0),
      i.1,
    )
open-plain (raw s xs) rest h =
    with_raw-plain (raw_tag s) s (inlines_open xs rest) (raw-is s) (open-plain xs rest h)

inlines-plain : (xs : Inlines) (rest : SpelledForest) → ArePlain rest → ArePlain (inlines_trees xs rest)
inlines-plain xs rest h = (open-plain xs rest h).0

-- ---- lines of tags

abbrev TablePlain : SpelledForest → Type 0
TablePlain ts = are_plain_table (value_forest ts) ≡ true

-- what the innermost of these elements holds
abbrev HoldsPlain : List (List ℕ) → SpelledForest → Type 0
HoldsPlain [] ts = ArePlain ts
HoldsPlain (n ∷ ns) ts = MatchBool (is_table n) (TablePlain ts) (ArePlain ts)

abbrev BehindHold : List Behind → Type 0
BehindHold [] = ⊤
BehindHold (b ∷ bs) = HoldsPlain (names_of bs) b.trees × BehindHold bs

record TagsPlain (o : Open) (ns : List (List ℕ)) : Type 0 where
  first : HoldsPlain (names_of o.behind) o.first
  behind : BehindHold o.behind
  named : names_of o.behind ≡ ns
  flow : AreFlow ns

cons-table : (t : ValueTree) (ts : ValueForest) → is_plain_tree t ≡ true → are_plain_table ts ≡ true
    → are_plain_table (value.more t ts) ≡ true
cons-table t ts h k = and_from (is_plain_tree t || are_plain_rows t) (are_plain_table ts) (rw h refl) k

cons-holds : (ns : List (List ℕ)) (t : Spelled) (ts : SpelledForest) → is_plain_tree (value_tree t) ≡ true
    → HoldsPlain ns ts → HoldsPlain ns (more t ts)
cons-holds [] t ts h k = and_from (is_plain_tree (value_tree t)) (are_plain (value_forest ts)) h k
cons-holds (n ∷ ns) t ts h k =
    test (is_table n) (λ q. let w = rw q at k in rw q (cons-table (value_tree t) (value_forest ts) h w))
    (λ q. let w = rw q at k in
    rw q (and_from (is_plain_tree (value_tree t)) (are_plain (value_forest ts)) h w))

line-in-table : (ts : SpelledForest) → TablePlain ts → TablePlain (line_end ts)
line-in-table none h = refl
line-in-table (more (text u) ts) h = h
line-in-table (more (element k n attributes ks) ts) h = h
line-in-table (more (lone n attributes u) ts) h = h
line-in-table (more (section rows) ts) h = h

line-held : (ns : List (List ℕ)) (ts : SpelledForest) → HoldsPlain ns ts → HoldsPlain ns (line_end ts)
line-held [] ts h = line-plain ts h
line-held (n ∷ ns) ts h =
    test (is_table n) (λ q. let w = rw q at h in rw q (line-in-table ts w))
    (λ q. let w = rw q at h in rw q (line-plain ts w))

ended-tags : (o : Open) (ns : List (List ℕ)) → TagsPlain o ns → TagsPlain (onto line_end o) ns
ended-tags o ns t = record {
  first = line-held (names_of o.behind) o.first t.first;
  behind = t.behind;
  named = t.named;
  flow = t.flow;
}

-- a section is plain in a table, whatever it begins with
section-plain : (rows rest : SpelledForest) → ArePlain rows → TablePlain rest
    → TablePlain (more (section rows) rest)
unfolding is_void
section-plain rows rest h k =
    test (begins_with_row (value_forest rows)) (λ b. rw (b, h, k) refl) (λ b. rw (b, h, k) refl)

sectioned-plain : (ts rest : SpelledForest) → ArePlain ts → TablePlain rest → TablePlain (sectioned ts rest)
sectioned-plain none rest h k = k
sectioned-plain (more (text s) ts) rest h k =
    cons-table (value.text s) (value_forest (sectioned ts rest)) refl (sectioned-plain ts rest h k)
sectioned-plain (more (element x n attributes ks) ts) rest h k =
    section-plain (more (element x n attributes ks) ts) rest h k
sectioned-plain (more (lone n attributes u) ts) rest h k = section-plain (more (lone n attributes u) ts) rest h k
sectioned-plain (more (section rows) ts) rest h k = section-plain (more (section rows) ts) rest h k

in-a-table : (ns : List (List ℕ)) (ts : SpelledForest) → is_table (parent_name ns) ≡ true → TablePlain ts
    → HoldsPlain ns ts
in-a-table [] ts h k = absurd (cc)
in-a-table (n ∷ ns) ts h k = rw h k

out-of-a-table : (ns : List (List ℕ)) (ts : SpelledForest) → is_table (parent_name ns) ≡ true → HoldsPlain ns ts
    → TablePlain ts
out-of-a-table [] ts h k = absurd (cc)
out-of-a-table (n ∷ ns) ts h k = rw h at k

left-tags : (first : SpelledForest) (behind : List Behind) (ns : List (List ℕ))
    → TagsPlain (record { first = first; behind = behind }) ns
    → TagsPlain (left_of_section first behind) (names_left ns)
left-tags first [] [] t = t
left-tags first [] (n ∷ ns) t = let w = t.named in absurd (cc)
left-tags first (x ∷ xs) [] t = let w = t.named in absurd (cc)
left-tags first (x ∷ xs) (n ∷ ns) t =
    let name : x.name ≡ n = (let w = t.named in cc) in
    let names : names_of xs ≡ ns = (let w = t.named in cc) in
    test (is_tbody x.name)
    (λ q.
    let same : is_tbody n ≡ true = sym (ap is_tbody name) ∙ q in
    let parent : is_table (parent_name (names_of xs)) ≡ true =
    subst (λ ks. is_table (parent_name ks) ≡ true) (sym names) (t.flow.1 same) in
    let inner : ArePlain first =
    subst (λ m. HoldsPlain (m ∷ names_of xs) first) (one_name (codes "tbody") x.name q) t.first in
    rw (q, same) (record {
      first = in-a-table (names_of xs) (sectioned first x.trees) parent
          (sectioned-plain first x.trees inner (out-of-a-table (names_of xs) x.trees parent t.behind.0));
      behind = t.behind.1;
      named = names;
      flow = t.flow.2;
    }))
    (λ q. let same : is_tbody n ≡ false = sym (ap is_tbody name) ∙ q in rw (q, same) t)

outside-tags : (n : List ℕ) (o : Open) (left : Option (List (List ℕ))) (ns : List (List ℕ))
    → names_outside n left ≡ Some ns → ((ms : List (List ℕ)) → left ≡ Some ms → TagsPlain o ms)
    → TagsPlain (outside_section n o) ns
outside-tags n o None ns e t = absurd (cc)
outside-tags n o (Some ms) ns e t =
    test (bounds_section n)
    (λ q. let w = rw q at e in
    let x : names_left ms ≡ ns = cc in
    rw q (subst (TagsPlain (left_of_section o.first o.behind)) x (left-tags o.first o.behind ms (t ms refl))))
    (λ q. let w = rw q at e in
    let x : ms ≡ ns = cc in rw q (subst (TagsPlain o) x (t ms refl)))

holding-plain : (k : TagForm) (n : List ℕ) (ns : List (List ℕ)) (attributes : List AttributePair)
    (ks : SpelledForest)
    → is_plain_element n ≡ true → HoldsPlain (n ∷ ns) ks
    → is_plain_tree (value_tree (element k n attributes ks)) ≡ true
holding-plain k n ns attributes ks e h =
    test (is_table n) (λ q. let w = rw q at h in rw (e, q, w) refl) (λ q. let w = rw q at h in rw (e, q, w) refl)

opened-tags : (e : BlockElement) (attributes : List AttributePair) (first : SpelledForest) (behind : List Behind)
    (ms ns : List (List ℕ)) → opened_names (element_name e) ms ≡ Some ns
    → TagsPlain (record { first = first; behind = behind }) ms
    → TagsPlain (opened (element_name e) attributes first behind) ns
opened-tags e attributes first [] [] ns h t = absurd (cc)
opened-tags e attributes first [] (m ∷ ms) ns h t = let w = t.named in absurd (cc)
opened-tags e attributes first (x ∷ xs) [] ns h t = let w = t.named in absurd (cc)
opened-tags e attributes first (x ∷ xs) (m ∷ ms) ns h t =
    test (bytes_eq m (element_name e))
    (λ q.
    let f = rw q at h in
    let n = element_name e in
    let left : ms ≡ ns = cc in
    let same : names_of xs ≡ ms = (let w = t.named in cc) in
    let name : x.name ≡ n = (let y : x.name ≡ m = (let w = t.named in cc) in y ∙ same_bytes m n q) in
    record {
      first = cons-holds (names_of xs) (element spaced n attributes first) x.trees
          (holding-plain spaced n (names_of xs) attributes first (flow-plain e)
          (subst (λ y. HoldsPlain (y ∷ names_of xs) first) name t.first)) t.behind.0;
      behind = t.behind.1;
      named = same ∙ left;
      flow = subst AreFlow left t.flow.2;
    })
    (λ q. let f = rw q at h in absurd (cc))

nothing-held : (ns : List (List ℕ)) → HoldsPlain ns none
nothing-held [] = refl
nothing-held (n ∷ ns) = test (is_table n) (λ q. rw q refl) (λ q. rw q refl)

closed-tags : (n : List ℕ) (o : Open) (ms : List (List ℕ)) → is_among flow_names n ≡ true
    → (is_tbody n ≡ true → is_table (parent_name ms) ≡ true) → TagsPlain o ms
    → TagsPlain (with_raw (closing n) o) (n ∷ ms)
closed-tags n o ms e p t = record {
  first = nothing-held (n ∷ names_of o.behind);
  behind = (t.first, t.behind);
  named = ap (λ ks. n ∷ ks) t.named;
  flow = (e, p, t.flow);
}

ends-tags : (e : BlockElement) (o : Open) (left : Option (List (List ℕ))) (ns : List (List ℕ))
    → names_with_ends (element_name e) left ≡ Some ns
    → ((ms : List (List ℕ)) → left ≡ Some ms → TagsPlain o ms) → TagsPlain (ends_of (element_name e) o) ns
ends-tags e o None ns h t = absurd (cc)
ends-tags e o (Some ms) ns h t =
    let n = element_name e in
    let none_here = λ (q : is_tbody n ≡ true). true≢false (sym q ∙ not-section e) in
    let one = closed-tags n o ms (flow-named e) (λ q. absurd (none_here q)) (t ms refl) in
    test (is_table n)
    (λ q. let w = rw q at h in
    let x : section_name ∷ n ∷ ms ≡ ns = cc in
    rw q (subst (TagsPlain (with_raw (closing section_name) (with_raw (closing n) o))) x
    (closed-tags section_name (with_raw (closing n) o) (n ∷ ms) refl (λ u. q) one)))
    (λ q. let w = rw q at h in
    let x : n ∷ ms ≡ ns = cc in
    rw q (subst (TagsPlain (with_raw (closing n) o)) x one))

-- the section that is left of a caption again
before-tags : (n : List ℕ) (o : Open) (left : Option (List (List ℕ))) (ns : List (List ℕ))
    → names_before n left ≡ Some ns → ((ms : List (List ℕ)) → left ≡ Some ms → TagsPlain o ms)
    → TagsPlain (before_caption n o) ns
before-tags n o None ns h t = absurd (cc)
before-tags n o (Some ms) ns h t =
    let k = t ms refl in
    let same : (is_caption n && in_table o.behind) ≡ (is_caption n && is_table (parent_name ms)) =
    ap (λ b. is_caption n && b) (in-table-named o.behind ∙ ap (λ ks. is_table (parent_name ks)) k.named) in
    test (is_caption n && is_table (parent_name ms))
    (λ q. let w = rw q at h in
    let x : section_name ∷ ms ≡ ns = cc in
    let p = and_parts (is_caption n) (is_table (parent_name ms)) q in
    rw (same ∙ q) (subst (TagsPlain (with_raw (closing section_name) o)) x
    (closed-tags section_name o ms refl (λ u. p.1) k)))
    (λ q. let w = rw q at h in
    let x : ms ≡ ns = cc in rw (same ∙ q) (subst (TagsPlain o) x k))

alone-plain : (n : List ℕ) (attributes : List AttributePair) (s : List ℕ) → is_plain_element n ≡ true
    → is_plain_tree (value_tree (lone n attributes s)) ≡ true
alone-plain n attributes [] e = test (is_table n) (λ q. rw (e, q) refl) (λ q. rw (e, q) refl)
alone-plain n attributes (b ∷ s) e = test (is_table n) (λ q. rw (e, q) refl) (λ q. rw (e, q) refl)

line-of-tags-plain : (l : Line) (o : Open) (left : Option (List (List ℕ))) (ns : List (List ℕ))
    → names_with_line l left ≡ Some ns → ((ms : List (List ℕ)) → left ≡ Some ms → TagsPlain o ms)
    → TagsPlain (with_line l o) ns
line-of-tags-plain (lines.opening e attributes) o left ns h t = by_names (names_outside (element_name e) left) refl h
  where
    by_names : (k : Option (List (List ℕ))) → names_outside (element_name e) left ≡ k
        → names_before (element_name e) (names_with (opening (element_name e) (pairs_of_element attributes)) k)
        ≡ Some ns
        → TagsPlain (with_line (lines.opening e attributes) o) ns
    by_names None q h = absurd (cc)
    by_names (Some ms) q h =
        let n = element_name e in
        let d = outside_section n o in
        let pairs = pairs_of_element attributes in
        before-tags n (opened n pairs (line_end d.first) d.behind) (opened_names n ms) ns h
        (λ ks f. opened-tags e pairs (line_end d.first) d.behind ms ks f
        (ended-tags d ms (outside-tags n o left ms q t)))
line-of-tags-plain (lines.closing e) o left ns h t =
    let d = outside_section (element_name e) o in
    ends-tags e (onto line_end d) (names_outside (element_name e) left) ns h
    (λ ms q. ended-tags d ms (outside-tags (element_name e) o left ms q t))
line-of-tags-plain (lines.whole e attributes u) o left ns h t =
    let n = element_name e in
    let d = outside_section n o in
    before-tags n (onto (λ ts. more (lone n (pairs_of_element attributes) u) (line_end ts)) d) (names_outside n left)
    ns h
    (λ ms f. let k = ended-tags d ms (outside-tags n o left ms f t) in
    record {
      first = cons-holds (names_of d.behind) (lone n (pairs_of_element attributes) u) (line_end d.first)
          (alone-plain n (pairs_of_element attributes) u (flow-plain e)) k.first;
      behind = k.behind;
      named = k.named;
      flow = k.flow;
    })
line-of-tags-plain lines.unknown o left ns h t = absurd (cc)

tags-plain : (ls : List (List ℕ)) (o : Open) (left : Option (List (List ℕ))) (ns : List (List ℕ))
    → names_with_lines ls left ≡ Some ns → ((ms : List (List ℕ)) → left ≡ Some ms → TagsPlain o ms)
    → TagsPlain (with_lines ls o) ns
tags-plain [] o left ns h t = t ns h
tags-plain (x ∷ rest) o left ns h t =
    line-of-tags-plain (line_of x) (with_lines rest o) (names_with_lines rest left) ns h
    (λ ms f. tags-plain rest o left ms f t)

html-plain : (b : Block) (o : Open) (left : Option (List (List ℕ))) (ns : List (List ℕ))
    → names_with_html b left ≡ Some ns → ((ms : List (List ℕ)) → left ≡ Some ms → TagsPlain o ms)
    → TagsPlain (with_html b o) ns
html-plain (paragraph xs) o left ns h t = t ns h
html-plain (heading level xs) o left ns h t = t ns h
html-plain (code_block language u) o left ns h t = t ns h
html-plain (quote bs) o left ns h t = t ns h
html-plain thematic_break o left ns h t = t ns h
html-plain (list start is_tight items) o left ns h t = t ns h
html-plain (table alignments header rows) o left ns h t = t ns h
html-plain (html_block u) o left ns h t = tags-plain (lines_of u) o left ns h t

-- where a block stands that is no part of a table, what is held is plain
takes-plain : (c : Context) (ns : List (List ℕ)) (ts : SpelledForest) → takes_blocks (ns ++ c) ≡ true
    → HoldsPlain ns ts → ArePlain ts
takes-plain c [] ts h k = k
takes-plain c (n ∷ ns) ts h k =
    test (is_table n) (λ q. let w = rw (one_name (codes "table") n q) at h in absurd (cc))
    (λ q. let w = rw q at k in w)

plain-holds : (c : Context) (ns : List (List ℕ)) (ts : SpelledForest) → takes_blocks (ns ++ c) ≡ true
    → ArePlain ts
    → HoldsPlain ns ts
plain-holds c [] ts h k = k
plain-holds c (n ∷ ns) ts h k =
    test (is_table n) (λ q. let w = rw (one_name (codes "table") n q) at h in absurd (cc)) (λ q. rw q k)

begun-held : (l bare : Bool) (ns : List (List ℕ)) (ts : SpelledForest) → HoldsPlain ns ts
    → HoldsPlain ns (begun_line l bare ts)
begun-held true true ns ts h = h
begun-held true false ns ts h = line-held ns ts h
begun-held false true ns ts h = h
begun-held false false ns ts h = h

code_text-plain : (s : List ℕ) → ArePlain (code_trees s)
code_text-plain [] = refl
code_text-plain (b ∷ s) = text-plain (b ∷ s) (line_end none) refl

-- ---- tables

-- each cell, row and section of a table, and the table
table-name : (n : List ℕ) → is_among table_names n ≡ true → is_plain_element n ≡ true
unfolding is_void
table-name n e = among_passes is_plain_element table_names n e refl

lines-plain : (n : List ℕ) (content rest : SpelledForest) → is_plain_element n ≡ true → ArePlain content
    → ArePlain rest → ArePlain (lines_before n [] content rest)
lines-plain n content rest e h f =
    element-plain spaced n [] (line_end content) (line_end rest) e (line-plain content h) (line-plain rest f)

cells-plain : (n : List ℕ) (alignments : List Alignment) (cs : List Inlines) → is_plain_element n ≡ true
    → ArePlain (cells_trees n alignments cs)
cells-plain n alignments [] e = refl
cells-plain n alignments (c ∷ cs) e =
    let others = cells_trees n (drop 1 alignments) cs in
    element-plain spaced n (pairs_of_alignment (first_alignment alignments)) (inlines_trees c none) (line_end others) e
    (inlines-plain c none refl) (line-plain others (cells-plain n (drop 1 alignments) cs e))

row-plain : (n : List ℕ) (alignments : List Alignment) (cs : List Inlines) (rest : SpelledForest)
    → is_plain_element n ≡ true → ArePlain rest → ArePlain (row_trees n alignments cs rest)
row-plain n alignments cs rest e h =
    lines-plain (codes "tr") (cells_trees n alignments cs) rest (table-name (codes "tr") refl)
    (cells-plain n alignments cs e) h

rows-plain : (alignments : List Alignment) (rows : List (List Inlines)) → ArePlain (rows_trees alignments rows)
rows-plain alignments [] = refl
rows-plain alignments (r ∷ rs) =
    row-plain (codes "td") alignments r (rows_trees alignments rs) (table-name (codes "td") refl)
    (rows-plain alignments rs)

-- a `tbody` that begins with a line feed
body_lines-plain : (ks : SpelledForest) → ArePlain ks → ArePlain (lines_before (codes "tbody") [] ks none)
unfolding is_void
body_lines-plain ks h = rw (no_row ks, line-plain ks h) refl
  where
    no_row : (ks : SpelledForest) → begins_with_row (value_forest (line_end ks)) ≡ false
    no_row none = refl
    no_row (more (text u) ts) = refl
    no_row (more (element k n attributes kk) ts) = refl
    no_row (more (lone n attributes u) ts) = refl
    no_row (more (section rows) ts) = refl

body-plain : (alignments : List Alignment) (rows : List (List Inlines)) → ArePlain (body_trees alignments rows)
body-plain alignments [] = refl
body-plain alignments (r ∷ rs) =
    body_lines-plain (rows_trees alignments (r ∷ rs)) (rows-plain alignments (r ∷ rs))

table-plain : (alignments : List Alignment) (header : List Inlines) (rows : List (List Inlines))
    (rest : SpelledForest) → ArePlain rest → ArePlain (table_trees alignments header rows rest)
table-plain alignments header rows rest h =
    let head = row_trees (codes "th") alignments header none in
    let body = body_trees alignments rows in
    lines-plain (codes "table") (lines_before (codes "thead") [] head body) rest (table-name (codes "table") refl)
    (lines-plain (codes "thead") head body (table-name (codes "thead") refl)
    (row-plain (codes "th") alignments header none (table-name (codes "th") refl) refl) (body-plain alignments rows)) h

-- ---- blocks

-- where a block stands that is no HTML block
abbrev StandsThere : Context → Block → List (List ℕ) → Type 0
StandsThere c (html_block s) ns = ⊤
StandsThere c b ns = takes_blocks (ns ++ c) ≡ true

stands-there : (c : Context) (b : Block) (left : Option (List (List ℕ))) (ns ms : List (List ℕ))
    → names_with_html b left ≡ Some ns → ns ≡ ms → stands_right c left b ≡ true → StandsThere c b ms
stands-there c (paragraph xs) left ns ms u e s =
    subst (λ k. takes_blocks (below_open c k) ≡ true) (u ∙ ap Some e) s
stands-there c (heading level xs) left ns ms u e s =
    subst (λ k. takes_blocks (below_open c k) ≡ true) (u ∙ ap Some e) s
stands-there c (code_block language t) left ns ms u e s =
    subst (λ k. takes_blocks (below_open c k) ≡ true) (u ∙ ap Some e) s
stands-there c (quote bs) left ns ms u e s = subst (λ k. takes_blocks (below_open c k) ≡ true) (u ∙ ap Some e) s
stands-there c thematic_break left ns ms u e s =
    subst (λ k. takes_blocks (below_open c k) ≡ true) (u ∙ ap Some e) s
stands-there c (list start is_tight items) left ns ms u e s =
    subst (λ k. takes_blocks (below_open c k) ≡ true) (u ∙ ap Some e) s
stands-there c (table alignments header rows) left ns ms u e s =
    subst (λ k. takes_blocks (below_open c k) ≡ true) (u ∙ ap Some e) s
stands-there c (html_block t) left ns ms u e s = tt

nothing-open : (o : Open) → TagsPlain o [] → ArePlain o.first
nothing-open o t = subst (λ ns. HoldsPlain ns o.first) t.named t.first

mutual
  -- below these names
  block-plain : (tight : Bool) (b : Block) (rest : SpelledForest) (c : Context) (left : Option (List (List ℕ)))
      (ns : List (List ℕ)) → block_is_paired b ≡ true → block_is_strict c left b ≡ true → StandsThere c b ns
      → HoldsPlain ns rest → HoldsPlain ns (block_trees tight b rest)
  block-plain tight (html_block u) rest c left ns e s t h = h
  block-plain true (paragraph xs) rest c left ns e s t k =
      let h = takes-plain c ns rest t k in
      plain-holds c ns (block_trees true (paragraph xs) rest) t (
      inlines-plain xs rest h)
  block-plain false (paragraph xs) rest c left ns e s t k =
      let h = takes-plain c ns rest t k in
      plain-holds c ns (block_trees false (paragraph xs) rest) t (
      element-plain spaced (codes "p") [] (inlines_trees xs none) (line_end rest) p-plain (inlines-plain xs none refl)
      (line-plain rest h))
  block-plain tight (heading level xs) rest c left ns e s t k =
      let h = takes-plain c ns rest t k in
      plain-holds c ns (block_trees tight (heading level xs) rest) t (
      let p = and_parts (nat_le 1 level && nat_le level 6) (are_strict false xs) s in
      let q = and_parts (nat_le 1 level) (nat_le level 6) p.0 in
      element-plain spaced (heading_name level) [] (inlines_trees xs none) (line_end rest) (heading-plain level q.0 q.1)
      (inlines-plain xs none refl) (line-plain rest h))
  block-plain tight (code_block language u) rest c left ns e s t k =
      let h = takes-plain c ns rest t k in
      plain-holds c ns (block_trees tight (code_block language u) rest) t (
      element-plain spaced (codes "pre") [] (code_block_tree language u) (line_end rest) pre-plain
      (element-plain spaced (codes "code") (pairs_of_language language) (code_trees u) none code-plain
      (code_text-plain u) refl) (line-plain rest h))
  block-plain tight (quote bs) rest c left ns e s t k =
      let h = takes-plain c ns rest t k in
      plain-holds c ns (block_trees tight (quote bs) rest) t (
      element-plain spaced (codes "blockquote") [] (line_end (blocks_trees false false bs)) (line_end rest) quote-plain
      (line-plain (blocks_trees false false bs)
      (let d = pairs-end bs e in
      nothing-open (blocks_open false false bs)
      (open_blocks-plain false false bs (codes "blockquote" ∷ below_open c left) [] d.0 d.1 s))) (line-plain rest h))
  block-plain tight thematic_break rest c left ns e s t k =
      let h = takes-plain c ns rest t k in
      plain-holds c ns (block_trees tight thematic_break rest) t (
      element-plain spaced (codes "hr") [] none (line_end rest) hr-plain refl (line-plain rest h))
  block-plain tight (list start is_tight items) rest c left ns e s t k =
      let h = takes-plain c ns rest t k in
      plain-holds c ns (block_trees tight (list start is_tight items) rest) t (
      element-plain spaced (list_name start) (pairs_of_start start) (line_end (items_trees is_tight items))
      (line_end rest) (list-plain start) (line-plain (items_trees is_tight items) (items-plain is_tight items
      (codes "li" ∷ list_name start ∷ below_open c left) e s))
      (line-plain rest h))
  block-plain tight (table alignments header rows) rest c left ns e s t k =
      let h = takes-plain c ns rest t k in
      plain-holds c ns (block_trees tight (table alignments header rows) rest) t (
      table-plain alignments header rows rest h)

  open_blocks-plain : (tight l : Bool) (bs : Blocks) (c : Context) (ns : List (List ℕ))
      → blocks_unopened bs ≡ Some ns → each_is_paired bs ≡ true → blocks_are_strict c bs ≡ true
      → TagsPlain (blocks_open tight l bs) ns
  open_blocks-plain tight l no_blocks c ns u e s =
      let x : [] ≡ ns = cc in
      record { first = refl; behind = tt; named = x; flow = subst AreFlow x tt }
  open_blocks-plain tight l (block b bs) c ns u e s =
      let left = blocks_unopened bs in
      let r = and_parts (block_is_paired b) (each_is_paired bs) e in
      let p = and_parts (stands_right c left b && block_is_strict c left b) (blocks_are_strict c bs) s in
      let q = and_parts (stands_right c left b) (block_is_strict c left b) p.0 in
      let bare = is_bare tight b in
      let behind = blocks_open tight bare bs in
      let o = with_html b behind in
      let t = html-plain b behind left ns u (λ ms f. open_blocks-plain tight bare bs c ms f r.1 p.1) in
      let own = block-plain tight b o.first c left (names_of o.behind) r.0 q.1
      (stands-there c b left ns (names_of o.behind) u (sym t.named) q.0) t.first in
      record {
        first = begun-held l bare (names_of o.behind) (block_trees tight b o.first) own;
        behind = t.behind;
        named = t.named;
        flow = t.flow;
      }

  items-plain : (tight : Bool) (items : Items) (c : Context) → items_are_paired items ≡ true
      → items_are_strict c items ≡ true → ArePlain (items_trees tight items)
  items-plain tight no_items c e s = refl
  items-plain tight (item bs rest) c e s =
      let r = and_parts (blocks_are_paired bs) (items_are_paired rest) e in
      let d = pairs-end bs r.0 in
      let p = and_parts (blocks_are_strict c bs) (items_are_strict c rest) s in
      let t = open_blocks-plain tight true bs c [] d.0 d.1 p.0 in
      element-plain spaced (codes "li") [] (blocks_trees tight true bs) (line_end (items_trees tight rest)) li-plain
      (nothing-open (blocks_open tight true bs) t)
      (line-plain (items_trees tight rest) (items-plain tight rest c r.1 p.1))

pub trees-plain : (bs : Blocks) → blocks_are_paired bs ≡ true → blocks_are_strict below_body bs ≡ true
    → ArePlain (spelled_of bs)
trees-plain bs e s =
    let d = pairs-end bs e in
    nothing-open (blocks_open false false bs) (open_blocks-plain false false bs below_body [] d.0 d.1 s)

-- What is read begins a body: with an element that belongs in no head.
use Rattle.std.proofs.Common.{◌≡◌, ℕ, true, false, not, ◌&&◌, List, [], ◌∷◌, ◌++◌, refl, sym, ap, ◌∙◌}
use Rattle.std.proofs.Common.{codes, Option, Some, None, subst}
use Rattle.std.specs.Prelude.{nat_le}
use Rattle.std.proofs.lemmas.Bool.{and_parts}
use Rattle.htmd_lexical.proofs.Cases.{test}
use Rattle.htmd_lexical.specs.AttributePairs.{AttributePair}
use Rattle.htmd_lexical.specs.ByteOrderMarks.{behind_mark}
use Rattle.htmd_lexical.specs.CharacterClasses.{is_among}
use Rattle.htmd_document.specs.Documents.{BlockAttribute}
use Rattle.htmd_document.specs.FlatDocuments.{lines_of}
use Rattle.htmd_document.specs.Tags.{element_name}
use Rattle.htmd_document.specs.declared.document.BlockElement.{BlockElement}
use Rattle.htmd_law_rendering.specs.SpelledTrees.{SpelledForest, lone, none}
use Rattle.htmd_law_rendering.specs.SpelledTrees.{more}
use Rattle.htmd_law_rendering.specs.SpelledTrees.{value_forest}
use Rattle.htmd_values.specs.Serialisation.{is_void}
use Rattle.htmd_grammar.proofs.NestingLemmas.{among_passes}
use Rattle.htmd_law_html5.specs.StrictTrees.{head_names, begins_body}
use Rattle.htmd_grammar.specs.Nesting.{Context, parent_name, is_table}
use Rattle.htmd_commonmark_reading.specs.Elements as lines
use Rattle.htmd_commonmark_reading.specs.Elements.{Line, line_of}
use Rattle.htmd_commonmark_reading.specs.Markup.{Block, paragraph, heading, code_block, quote}
use Rattle.htmd_commonmark_reading.specs.Markup.{thematic_break, list, table, html_block}
use Rattle.htmd_law_rendering.specs.SpelledTrees.{all_spelled}
use Rattle.htmd_law_rendering.specs.RawTags.{opening, closing, unknown}
use Rattle.htmd_law_rendering.specs.RenderedTrees.{element_before, line_end}
use Rattle.htmd_law_rendering.specs.RenderedTrees.{Behind, Open, opened}
use Rattle.htmd_law_rendering.specs.RenderedTrees.{inlines_trees, heading_name}
use Rattle.htmd_law_rendering.specs.RenderedTrees.{code_block_tree, list_name}
use Rattle.htmd_law_rendering.specs.RenderedTrees.{pairs_of_start, block_trees, blocks_trees, items_trees}
use Rattle.htmd_law_rendering.specs.RenderedTrees.{pairs_of_element, with_line, with_lines, with_html}
use Rattle.htmd_law_rendering.specs.RenderedTrees.{lines_before}
use Rattle.htmd_law_rendering.specs.RenderedTrees.{row_trees, body_trees}
use Rattle.htmd_law_rendering.specs.PlainReadings.{are_strict, block_is_strict}
use Rattle.htmd_law_rendering.specs.PlainReadings.{opened_names, names_with, names_with_line, names_with_lines}
use Rattle.htmd_law_rendering.specs.PlainReadings.{names_with_html, names_outside, names_with_ends}
use Rattle.htmd_law_rendering.specs.PlainReadings.{names_before}
use Rattle.htmd_law_rendering.specs.RenderedTrees.{outside_section, onto, is_caption, in_table, before_caption}
use Rattle.htmd_law_rendering.proofs.FlowLemmas.{flow-named}
use Rattle.htmd_law_rendering.proofs.LineLemmas.{ended_lines, split-ended, lines-named, outside-named}
use Rattle.htmd_law_rendering.proofs.LineLemmas.{in-table-named}
use Rattle.htmd_law_rendering.proofs.PlaceLemmas.{by_level}
use Rattle.htmd_law_rendering.proofs.RawLemmas.{names_of}
use Rattle.htmd_law_rendering.proofs.RawNames.{flow_names}
use Rattle.std.specs.Str.{bytes_eq}

-- an element that belongs in no head comes first, and no byte order mark
pub record BeginsBody (ts : SpelledForest) : Type 0 where
  pub unmarked : behind_mark (all_spelled ts) ≡ all_spelled ts
  pub belongs : begins_body (value_forest ts) ≡ true

begins : (n : List ℕ) (attributes : List AttributePair) (ks ts : SpelledForest)
    → not (is_among head_names n) ≡ true → BeginsBody (element_before n attributes ks ts)
begins n attributes ks ts e = record {
  unmarked = test (is_void n) (λ v. rw v refl) (λ v. rw v refl);
  belongs = e;
}

flow-belongs : (e : BlockElement) → not (is_among head_names (element_name e)) ≡ true
flow-belongs e =
    among_passes (λ n. not (is_among head_names n)) flow_names (element_name e) (flow-named e) refl

heading-belongs : (level : ℕ) → nat_le 1 level ≡ true → nat_le level 6 ≡ true
    → not (is_among head_names (heading_name level)) ≡ true
heading-belongs level l m =
    by_level (λ n. not (is_among head_names n) ≡ true) level l m refl refl refl refl refl refl

list-belongs : (start : Option ℕ) → not (is_among head_names (list_name start)) ≡ true
list-belongs None = refl
list-belongs (Some n) = refl

-- an opening tag in a line begins the first of the elements that are closed behind it
opened-begins : (e : BlockElement) (attributes : List BlockAttribute) (first : SpelledForest) (behind : List Behind)
    (ms ns : List (List ℕ)) → names_of behind ≡ ms → opened_names (element_name e) ms ≡ Some ns
    → BeginsBody (opened (element_name e) (pairs_of_element attributes) first behind).first
opened-begins e attributes first [] [] ns k h = absurd (cc)
opened-begins e attributes first [] (m ∷ ms) ns k h = absurd (cc)
opened-begins e attributes first (b ∷ bs) ms ns k h =
    begins (element_name e) (pairs_of_element attributes) first b.trees (flow-belongs e)

-- where nothing is left over no section is
none-before : (n : List ℕ) (left : Option (List (List ℕ))) → names_before n left ≡ Some [] → left ≡ Some []
none-before n None e = absurd (cc)
none-before n (Some ks) e =
    test (is_caption n && is_table (parent_name ks)) (λ t. let w = rw t at e in absurd (cc)) (λ t. rw t at e)

same-before : (n : List ℕ) (o : Open) → names_of o.behind ≡ [] → before_caption n o ≡ o
same-before n o e =
    let outside : in_table o.behind ≡ false = in-table-named o.behind ∙ ap (λ ks. is_table (parent_name ks)) e in
    test (is_caption n) (λ q. rw (q, outside) refl) (λ q. rw q refl)

none-opened : (n : List ℕ) (attributes : List AttributePair) (first : SpelledForest) (behind : List Behind)
    → opened_names n (names_of behind) ≡ Some [] → names_of (opened n attributes first behind).behind ≡ []
none-opened n attributes first [] h = absurd (cc)
none-opened n attributes first (b ∷ bs) h =
    test (bytes_eq b.name n) (λ t. let w = rw t at h in cc) (λ t. let w = rw t at h in absurd (cc))

-- the first line, where all tags pair
line-begins : (l : Line) (o : Open) → names_with_line l (Some (names_of o.behind)) ≡ Some []
    → BeginsBody (with_line l o).first
line-begins (lines.opening e attributes) o h =
    by_names (names_outside (element_name e) (Some (names_of o.behind))) refl h
  where
    by_names : (k : Option (List (List ℕ))) → names_outside (element_name e) (Some (names_of o.behind)) ≡ k
        → names_before (element_name e) (names_with (opening (element_name e) (pairs_of_element attributes)) k)
        ≡ Some []
        → BeginsBody (with_line (lines.opening e attributes) o).first
    by_names None q h = absurd (cc)
    by_names (Some ms) q h =
        let n = element_name e in
        let d = outside_section n o in
        let pairs = pairs_of_element attributes in
        let named = outside-named n o ms q in
        let k = none-before n (opened_names n ms) h in
        let o = opened n pairs (line_end d.first) d.behind in
        let same = same-before n o (none-opened n pairs (line_end d.first) d.behind
        (ap (opened_names n) named ∙ k)) in
        subst (λ (y : Open). BeginsBody y.first) (sym same)
        (opened-begins e attributes (line_end d.first) d.behind ms [] named k)
line-begins (lines.closing e) o h =
    absurd (closes-some (element_name e) (names_outside (element_name e) (Some (names_of o.behind))) h)
  where
    closes-some : (n : List ℕ) (left : Option (List (List ℕ))) → names_with_ends n left ≡ Some [] → ⊥
    closes-some n None h = cc
    closes-some n (Some ms) h = test (is_table n) (λ q. let w = rw q at h in cc) (λ q. let w = rw q at h in cc)
line-begins (lines.whole e attributes t) o h =
    let n = element_name e in
    let d = outside_section n o in
    let k = none-before n (names_outside n (Some (names_of o.behind))) h in
    subst (λ (y : Open). BeginsBody y.first)
    (sym (same-before n (onto (λ ts. more (lone n (pairs_of_element attributes) t) (line_end ts)) d)
    (outside-named n o [] k))) (record { unmarked = refl; belongs = flow-belongs e })
line-begins lines.unknown o h = absurd (cc)

no-name : (l : Line) → names_with_line l None ≡ None
no-name (lines.opening e attributes) = refl
no-name (lines.closing e) = refl
no-name (lines.whole e attributes t) = refl
no-name lines.unknown = refl

tags-begin : (ls : List (List ℕ)) (s : List ℕ) (o : Open) (left : Option (List (List ℕ)))
    → ended_lines ls ≡ s ++ codes "\n" → names_with_lines ls left ≡ Some []
    → ((ms : List (List ℕ)) → left ≡ Some ms → names_of o.behind ≡ ms)
    → BeginsBody (with_lines ls o).first
tags-begin [] [] o left e h i = absurd (cc)
tags-begin [] (b ∷ s) o left e h i = absurd (cc)
tags-begin (x ∷ rest) s o left e h i = by_rest (names_with_lines rest left) refl h
  where
    by_rest : (n : Option (List (List ℕ))) → names_with_lines rest left ≡ n
        → names_with_line (line_of x) n ≡ Some []
        → BeginsBody (with_lines (x ∷ rest) o).first
    by_rest None f h = let w : None ≡ Some [] = sym (no-name (line_of x)) ∙ h in absurd (cc)
    by_rest (Some ms) f h =
        let named = lines-named rest o left ms f i in
        line-begins (line_of x) (with_lines rest o) (ap (λ n. names_with_line (line_of x) (Some n)) named ∙ h)

pub block-begins : (b : Block) (o : Open) (left : Option (List (List ℕ))) (c : Context)
    → names_with_html b left ≡ Some [] → block_is_strict c left b ≡ true
    → ((ms : List (List ℕ)) → left ≡ Some ms → names_of o.behind ≡ ms)
    → BeginsBody (block_trees false b (with_html b o).first)
block-begins (paragraph xs) o left c r s i = begins (codes "p") [] (inlines_trees xs none) (line_end o.first) refl
block-begins (heading level xs) o left c r s i =
    let p = and_parts (nat_le 1 level && nat_le level 6) (are_strict false xs) s in
    let q = and_parts (nat_le 1 level) (nat_le level 6) p.0 in
    begins (heading_name level) [] (inlines_trees xs none) (line_end o.first) (heading-belongs level q.0 q.1)
block-begins (code_block language u) o left c r s i =
    begins (codes "pre") [] (code_block_tree language u) (line_end o.first) refl
block-begins (quote bs) o left c r s i =
    begins (codes "blockquote") [] (line_end (blocks_trees false false bs)) (line_end o.first) refl
block-begins thematic_break o left c r s i = begins (codes "hr") [] none (line_end o.first) refl
block-begins (list start is_tight items) o left c r s i =
    begins (list_name start) (pairs_of_start start) (line_end (items_trees is_tight items)) (line_end o.first)
    (list-belongs start)
block-begins (table alignments header rows) o left c r s i =
    begins (codes "table") [] (line_end (lines_before (codes "thead") []
    (row_trees (codes "th") alignments header none) (body_trees alignments rows))) (line_end o.first) refl
block-begins (html_block u) o left c r s i = tags-begin (lines_of u) u o left (split-ended u) r i

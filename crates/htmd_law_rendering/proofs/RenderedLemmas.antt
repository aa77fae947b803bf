-- The HTML of what is read is what its trees are spelled as: by its structure.
use Rattle.std.proofs.Common.{◌≡◌, ℕ, Bool, true, false, List, [], ◌∷◌, ◌++◌, drop, refl, sym, ap, ◌∙◌, codes, Option}
use Rattle.std.proofs.Common.{Some, None, subst}
use Rattle.std.specs.Fmt.{decimal}
use Rattle.std.specs.List.{flat_map}
use Rattle.std.specs.Prelude.{◌==◌}
use Rattle.std.proofs.lemmas.Bool.{and_parts}
use Rattle.std.proofs.lemmas.List.{append_assoc, append-nil}
use Rattle.htmd_lexical.proofs.Cases.{test}
use Rattle.htmd_values.specs.Serialisation.{is_void, end_tag}
use Rattle.htmd_document.specs.FlatDocuments.{lines_of}
use Rattle.htmd_document.specs.declared.document.Alignment.{Alignment}
use Rattle.htmd_document.specs.declared.document.Alignment.TheVariants as aligned
use Rattle.htmd_commonmark_reading.specs.Markup.{Inlines, no_inlines, letter, code, formatted, link, image}
use Rattle.htmd_commonmark_reading.specs.Markup.{line_break}
use Rattle.htmd_commonmark_reading.specs.Markup.{task, raw, Block, paragraph, heading, code_block, quote}
use Rattle.htmd_commonmark_reading.specs.Markup.{thematic_break, list, table, html_block, Blocks, no_blocks, block}
use Rattle.htmd_commonmark_reading.specs.Markup.{Items, no_items, item, plain_text}
use Rattle.htmd_commonmark_reading.specs.Rendering.{escaped_byte, escaped, code_html, formatted_html, link_html}
use Rattle.htmd_commonmark_reading.specs.Rendering.{image_html}
use Rattle.htmd_commonmark_reading.specs.Rendering.{box_html, inlines_html, first_alignment, cell_tag}
use Rattle.htmd_commonmark_reading.specs.Rendering.{end_of_cell, cell_html, cells_html, row_html, rows_html}
use Rattle.htmd_commonmark_reading.specs.Rendering.{body_html}
use Rattle.htmd_commonmark_reading.specs.Rendering.{head_html, table_html, heading_html, heading_tag, end_of_heading}
use Rattle.htmd_commonmark_reading.specs.Rendering.{language_attribute, code_lines, list_tag}
use Rattle.htmd_commonmark_reading.specs.Rendering.{end_of_list, item_html, is_bare, line_end_before}
use Rattle.htmd_commonmark_reading.specs.Rendering.{block_html, blocks_html, items_html}
use Rattle.htmd_law_rendering.specs.RenderedTrees.{text_before, line_end, format_name, pairs_of_format, pairs_of_link}
use Rattle.htmd_law_rendering.specs.RenderedTrees.{pairs_of_image, inlines_trees, pairs_of_alignment, cells_trees}
use Rattle.htmd_law_rendering.specs.RenderedTrees.{row_trees, rows_trees, body_trees, table_trees, lines_before}
use Rattle.htmd_law_rendering.specs.RenderedTrees.{heading_name, pairs_of_language, code_trees, code_block_tree}
use Rattle.htmd_law_rendering.specs.RenderedTrees.{list_name, pairs_of_start, begun_line, block_trees, blocks_trees}
use Rattle.htmd_law_rendering.specs.RenderedTrees.{items_trees}
use Rattle.htmd_law_rendering.specs.SpelledTrees.{spaced, SpelledForest, none, more, element, attribute_in, tag}
use Rattle.htmd_law_rendering.specs.SpelledTrees.{spelled}
use Rattle.htmd_law_rendering.specs.SpelledTrees.{all_spelled}
use Rattle.htmd_law_rendering.specs.PlainReadings.{if_all_opened, unopened, is_nothing_left, are_paired}
use Rattle.htmd_law_rendering.specs.PlainReadings.{cells_are_paired, rows_are_paired, block_is_paired}
use Rattle.htmd_law_rendering.specs.PlainReadings.{names_with_html, blocks_unopened, each_is_paired}
use Rattle.htmd_law_rendering.specs.PlainReadings.{blocks_are_paired}
use Rattle.htmd_law_rendering.specs.PlainReadings.{items_are_paired}
use Rattle.htmd_law_rendering.specs.RawTags.{raw_tag}
use Rattle.htmd_law_rendering.specs.RenderedTrees.{Open, Behind, inlines_open, onto, with_lines, with_html}
use Rattle.htmd_law_rendering.specs.RenderedTrees.{blocks_open}
use Rattle.htmd_law_rendering.specs.RenderingLaws.{RenderedIsSpelled}
use Rattle.htmd_law_rendering.proofs.ByteLemmas.{decimal-stays}
use Rattle.htmd_law_rendering.proofs.LineLemmas.{lines-ok, split-ended}
use Rattle.htmd_law_rendering.proofs.RawLemmas.{raw-is, raw-tagged, behind_spelled, names_of, IsOpen, raw-ok}
use Rattle.htmd_law_rendering.proofs.SpellingLemmas.{text-spelled, lines-spelled, line-spelled}
use Rattle.htmd_law_rendering.proofs.SpellingLemmas.{code-spelled, format-spelled, link-spelled, image-spelled}
use Rattle.htmd_law_rendering.proofs.SpellingLemmas.{box-spelled, heading-not-void}

-- ---- inlines

-- before what is open
front : (a b f behind html rest : List ℕ) → a ≡ b → f ++ behind ≡ html ++ rest
    → (a ++ f) ++ behind ≡ (b ++ html) ++ rest
front a b f behind html rest e h =
    append_assoc a f behind
    ∙ (ap (λ s. s ++ (f ++ behind)) e ∙ (ap (λ s. b ++ s) h ∙ sym (append_assoc b html rest)))

pub nothing-left : (ns : Option (List (List ℕ))) → is_nothing_left ns ≡ true → ns ≡ Some []
nothing-left None h = absurd (cc)
nothing-left (Some []) h = refl
nothing-left (Some (n ∷ ns)) h = absurd (cc)

pub all-opened : (content ns : Option (List (List ℕ))) (ms : List (List ℕ)) → if_all_opened content ns ≡ Some ms
    → (content ≡ Some []) × (ns ≡ Some ms)
all-opened None ns ms h = absurd (cc)
all-opened (Some []) ns ms h = (refl, h)
all-opened (Some (n ∷ rest)) ns ms h = absurd (cc)

-- nothing is open at the end
closed-with : (o : Open) (s : List ℕ) → IsOpen o [] s → all_spelled o.first ≡ s
closed-with o s h =
    sym (append-nil (all_spelled o.first))
    ∙ (ap (λ bs. all_spelled o.first ++ bs) (sym (no-names o.behind h.0)) ∙ h.1)
  where
    no-names : (bs : List Behind) → names_of bs ≡ [] → behind_spelled bs ≡ []
    no-names [] e = refl
    no-names (b ∷ bs) e = absurd (cc)

closed-all : (o : Open) (html : List ℕ) → IsOpen o [] (html ++ []) → all_spelled o.first ≡ html
closed-all o html h = closed-with o (html ++ []) h ∙ append-nil html

pub inlines-open : (xs : Inlines) (rest : SpelledForest) (ns : List (List ℕ)) → unopened xs ≡ Some ns
    → IsOpen (inlines_open xs rest) ns (inlines_html xs ++ all_spelled rest)
unfolding is_void
inlines-open no_inlines rest ns h = (let x : [] ≡ ns = cc in x, append-nil (all_spelled rest))
inlines-open (letter c xs) rest ns h =
    let i = inlines-open xs rest ns h in
    let o = inlines_open xs rest in (
      i.0,
      ap (λ s. s ++ behind_spelled o.behind) (text-spelled (c ∷ []) o.first)
          ∙ front (escaped (c ∷ [])) (escaped_byte c) (all_spelled o.first) (behind_spelled o.behind)
          (inlines_html xs) (all_spelled rest) (append-nil (escaped_byte c)) i.1,
    )
inlines-open (code s xs) rest ns h =
    let i = inlines-open xs rest ns h in
    let o = inlines_open xs rest in (
      i.0,
      front (spelled (element spaced (codes "code") [] (text_before s none))) (code_html s) (all_spelled o.first)
          (behind_spelled o.behind) (inlines_html xs) (all_spelled rest) (code-spelled s) i.1,
    )
inlines-open (formatted f content xs) rest ns h =
    let p = all-opened (unopened content) (unopened xs) ns h in
    let i = inlines-open xs rest ns p.1 in
    let o = inlines_open xs rest in
    let inner = inlines_open content none in (
      i.0,
      front (spelled (element spaced (format_name f) (pairs_of_format f) inner.first))
          (formatted_html f (inlines_html content)) (all_spelled o.first) (behind_spelled o.behind)
          (inlines_html xs) (all_spelled rest)
          (format-spelled f inner.first
          ∙ ap (formatted_html f) (closed-all inner (inlines_html content) (inlines-open content none [] p.0)))
          i.1,
    )
inlines-open (link a t content xs) rest ns h =
    let p = all-opened (unopened content) (unopened xs) ns h in
    let i = inlines-open xs rest ns p.1 in
    let o = inlines_open xs rest in
    let inner = inlines_open content none in (
      i.0,
      front (spelled (element spaced (codes "a") (pairs_of_link a t) inner.first))
          (link_html a t (inlines_html content)) (all_spelled o.first) (behind_spelled o.behind)
          (inlines_html xs) (all_spelled rest)
          (link-spelled a t inner.first
          ∙ ap (link_html a t) (closed-all inner (inlines_html content) (inlines-open content none [] p.0)))
          i.1,
    )
inlines-open (image a t content xs) rest ns h =
    let i = inlines-open xs rest ns h in
    let o = inlines_open xs rest in (
      i.0,
      front (spelled (element spaced (codes "img") (pairs_of_image a t (plain_text content)) none))
          (image_html a t (plain_text content)) (all_spelled o.first) (behind_spelled o.behind) (inlines_html xs)
          (all_spelled rest) (image-spelled a t (plain_text content)) i.1,
    )
inlines-open (line_break xs) rest ns h =
    let i = inlines-open xs rest ns h in
    let o = inlines_open xs rest in (
      i.0,
      ap (λ s. (codes "<br />" ++ s) ++ behind_spelled o.behind) (text-spelled (codes "\n") o.first)
          ∙ ap (λ s. codes "<br />\n" ++ s) i.1,
    )
inlines-open (task d xs) rest ns h =
    let i = inlines-open xs rest ns h in
    let o = inlines_open xs rest in (
      i.0,
      ap (λ s. s ++ behind_spelled o.behind) (box-spelled d o.first (all_spelled o.first) refl)
          ∙ front (box_html d) (box_html d) (all_spelled o.first) (behind_spelled o.behind) (inlines_html xs)
          (all_spelled rest) refl i.1,
    )
inlines-open (raw s xs) rest ns h =
    raw-ok (raw_tag s) s (inlines_html xs) (all_spelled rest) (inlines_open xs rest) (unopened xs) ns
    (raw-tagged (raw_tag s) s (raw-is s)) h (λ ms e. inlines-open xs rest ms e)

pub inlines : (xs : Inlines) (rest : SpelledForest) → are_paired xs ≡ true
    → all_spelled (inlines_trees xs rest) ≡ inlines_html xs ++ all_spelled rest
inlines xs rest h =
    closed-with (inlines_open xs rest) (inlines_html xs ++ all_spelled rest)
    (inlines-open xs rest [] (nothing-left (unopened xs) h))

-- inlines alone
pub inlines-alone : (xs : Inlines) → are_paired xs ≡ true
    → all_spelled (inlines_trees xs none) ≡ inlines_html xs
inlines-alone xs h = inlines xs none h ∙ append-nil (inlines_html xs)

-- ---- tables

module _ (name : List ℕ) (void : is_void name ≡ false)
    (begins : (a : Alignment) → tag spaced name (pairs_of_alignment a) ≡ cell_tag name a)
    (ends : end_tag name ++ codes "\n" ≡ end_of_cell name) where
  cells : (alignments : List Alignment) (cs : List Inlines) → cells_are_paired cs ≡ true
      → all_spelled (cells_trees name alignments cs) ≡ cells_html name alignments cs
  cells alignments [] h = refl
  cells alignments (c ∷ cs) h =
      let p = and_parts (are_paired c) (cells_are_paired cs) h in
      let a = first_alignment alignments in
      let behind = cells_trees name (drop 1 alignments) cs in
      line-spelled name (pairs_of_alignment a) (inlines_trees c none) behind (inlines_html c) (end_of_cell name)
      void (sym ends) (inlines-alone c p.0)
      ∙ (ap (λ s. (s ++ inlines_html c ++ end_of_cell name) ++ all_spelled behind) (begins a)
      ∙ ap (λ s. cell_html name a c ++ s) (cells (drop 1 alignments) cs p.1))

  row : (alignments : List Alignment) (cs : List Inlines) (rest : SpelledForest) → cells_are_paired cs ≡ true
      → all_spelled (row_trees name alignments cs rest) ≡ row_html name alignments cs ++ all_spelled rest
  unfolding is_void
  row alignments cs rest h =
      lines-spelled (codes "tr") [] (cells_trees name alignments cs) rest (codes "<tr>\n")
      (cells_html name alignments cs) (codes "</tr>\n") refl refl refl (cells alignments cs h)

cell_tags : (a : Alignment) → tag spaced (codes "td") (pairs_of_alignment a) ≡ cell_tag (codes "td") a
unfolding is_void
cell_tags aligned.None = refl
cell_tags aligned.Left = refl
cell_tags aligned.Center = refl
cell_tags aligned.Right = refl

header_tags : (a : Alignment) → tag spaced (codes "th") (pairs_of_alignment a) ≡ cell_tag (codes "th") a
unfolding is_void
header_tags aligned.None = refl
header_tags aligned.Left = refl
header_tags aligned.Center = refl
header_tags aligned.Right = refl

body_row : (alignments : List Alignment) (cs : List Inlines) (rest : SpelledForest) → cells_are_paired cs ≡ true
    → all_spelled (row_trees (codes "td") alignments cs rest)
    ≡ row_html (codes "td") alignments cs ++ all_spelled rest
unfolding is_void
body_row = row (codes "td") refl cell_tags refl

header_row : (alignments : List Alignment) (cs : List Inlines) (rest : SpelledForest) → cells_are_paired cs ≡ true
    → all_spelled (row_trees (codes "th") alignments cs rest)
    ≡ row_html (codes "th") alignments cs ++ all_spelled rest
unfolding is_void
header_row = row (codes "th") refl header_tags refl

rows : (alignments : List Alignment) (rs : List (List Inlines)) → rows_are_paired rs ≡ true
    → all_spelled (rows_trees alignments rs) ≡ rows_html alignments rs
rows alignments [] h = refl
rows alignments (r ∷ rs) h =
    let p = and_parts (cells_are_paired r) (rows_are_paired rs) h in
    body_row alignments r (rows_trees alignments rs) p.0
    ∙ ap (λ s. row_html (codes "td") alignments r ++ s) (rows alignments rs p.1)

body : (alignments : List Alignment) (rs : List (List Inlines)) → rows_are_paired rs ≡ true
    → all_spelled (body_trees alignments rs) ≡ body_html alignments rs
unfolding is_void
body alignments [] h = refl
body alignments (r ∷ rs) h =
    lines-spelled (codes "tbody") [] (rows_trees alignments (r ∷ rs)) none (codes "<tbody>\n")
    (rows_html alignments (r ∷ rs)) (codes "</tbody>\n") refl refl refl (rows alignments (r ∷ rs) h)
    ∙ append-nil (body_html alignments (r ∷ rs))

a_table : (alignments : List Alignment) (header : List Inlines) (rs : List (List Inlines)) (rest : SpelledForest)
    → cells_are_paired header ≡ true → rows_are_paired rs ≡ true
    → all_spelled (table_trees alignments header rs rest)
    ≡ table_html alignments header rs ++ all_spelled rest
unfolding is_void
a_table alignments header rs rest h k =
    lines-spelled (codes "table") []
    (lines_before (codes "thead") [] (row_trees (codes "th") alignments header none) (body_trees alignments rs)) rest
    (codes "<table>\n") (head_html alignments header ++ body_html alignments rs) (codes "</table>\n")
    refl refl refl
    (lines-spelled (codes "thead") [] (row_trees (codes "th") alignments header none) (body_trees alignments rs)
    (codes "<thead>\n") (row_html (codes "th") alignments header) (codes "</thead>\n") refl refl refl
    (header_row alignments header none h ∙ append-nil (row_html (codes "th") alignments header))
    ∙ ap (λ s. head_html alignments header ++ s) (body alignments rs k))

-- ---- blocks

code-lines : (s : List ℕ) → all_spelled (code_trees s) ≡ code_lines s
code-lines [] = refl
code-lines (b ∷ s) = text-spelled (b ∷ s) (line_end none)

language : (l : Option (List ℕ))
    → flat_map (attribute_in (codes "code")) (pairs_of_language l) ≡ language_attribute l
language None = refl
language (Some s) = append-nil (codes " class=\"language-" ++ escaped s ++ codes "\"")

fence_end : (l s : List ℕ)
    → codes "<pre>" ++ (codes "<code" ++ l ++ codes ">" ++ s ++ codes "</code>") ++ codes "</pre>\n"
    ≡ codes "<pre><code" ++ l ++ codes ">" ++ s ++ codes "</code></pre>\n"
fence_end l s = simp append_assoc

code_block-spelled : (l : Option (List ℕ)) (s : List ℕ)
    → all_spelled (code_block_tree l s)
    ≡ codes "<code" ++ language_attribute l ++ codes ">" ++ code_lines s ++ codes "</code>"
unfolding is_void
code_block-spelled l s =
    rw (language l, code-lines s)
    (append-nil (codes "<code" ++ language_attribute l ++ codes ">" ++ code_lines s ++ codes "</code>"))

list-not-void : (start : Option ℕ) → is_void (list_name start) ≡ false
unfolding is_void
list-not-void None = refl
list-not-void (Some n) = refl

numbered : (v : List ℕ) → (codes "<ol start=\"" ++ (((v ++ codes "\"") ++ []) ++ codes ">")) ++ codes "\n"
    ≡ codes "<ol start=\"" ++ v ++ codes "\">\n"
numbered v = simp (append_assoc, append-nil)

list-begins : (start : Option ℕ)
    → list_tag start ≡ tag spaced (list_name start) (pairs_of_start start) ++ codes "\n"
unfolding is_void
list-begins None = refl
list-begins (Some n) =
    test (n == 1) (λ e. rw e refl) (λ e. rw (e, decimal-stays n) (sym (numbered (decimal n))))

list-ends : (start : Option ℕ) → end_of_list start ≡ end_tag (list_name start) ++ codes "\n"
list-ends None = refl
list-ends (Some n) = refl

begun : (l bare : Bool) (ts : SpelledForest)
    → all_spelled (begun_line l bare ts) ≡ line_end_before l bare ++ all_spelled ts
begun true true ts = refl
begun true false ts = text-spelled (codes "\n") ts
begun false true ts = refl
begun false false ts = refl

a_heading : (level : ℕ) (xs : Inlines) (rest : SpelledForest) → are_paired xs ≡ true
    → all_spelled (more (element spaced (heading_name level) [] (inlines_trees xs none)) (line_end rest))
    ≡ heading_html level (inlines_html xs) ++ all_spelled rest
a_heading level xs rest h =
    line-spelled (heading_name level) [] (inlines_trees xs none) rest (inlines_html xs) (end_of_heading level)
    (heading-not-void level) (sym (heading-end (decimal level))) (inlines-alone xs h)
    ∙ ap (λ s. (s ++ inlines_html xs ++ end_of_heading level) ++ all_spelled rest) tags
  where
    heading-end : (d : List ℕ) → (codes "</h" ++ d ++ codes ">") ++ codes "\n" ≡ codes "</h" ++ d ++ codes ">\n"
    heading-end d = simp append_assoc

    tags : tag spaced (heading_name level) [] ≡ heading_tag level
    tags =
        rw (heading-not-void level) (ap (λ s. s ++ codes ">") (append-nil (codes "<h" ++ decimal level)))

-- the HTML of a block that isn't an HTML block, and that of one that is
abbrev own_html : Bool → Block → List ℕ
own_html tight (html_block s) = []
own_html tight b = block_html tight b

abbrev tag_html : Block → List ℕ
tag_html (html_block s) = s ++ codes "\n"
tag_html b = []

together : (tight : Bool) (b : Block) (begin rest : List ℕ)
    → (begin ++ own_html tight b) ++ (tag_html b ++ rest) ≡ begin ++ block_html tight b ++ rest
together tight (paragraph xs) begin rest = refl
together tight (heading level xs) begin rest = refl
together tight (code_block l s) begin rest = refl
together tight (quote bs) begin rest = refl
together tight thematic_break begin rest = refl
together tight (list start is_tight items) begin rest = refl
together tight (table alignments header rs) begin rest = refl
together tight (html_block s) begin rest = simp (append_assoc, append-nil)

with-html : (b : Block) (html : List ℕ) (o : Open) (left : Option (List (List ℕ))) (ns : List (List ℕ))
    → names_with_html b left ≡ Some ns → ((ms : List (List ℕ)) → left ≡ Some ms → IsOpen o ms html)
    → IsOpen (with_html b o) ns (tag_html b ++ html)
with-html (paragraph xs) html o left ns e h = h ns e
with-html (heading level xs) html o left ns e h = h ns e
with-html (code_block l s) html o left ns e h = h ns e
with-html (quote bs) html o left ns e h = h ns e
with-html thematic_break html o left ns e h = h ns e
with-html (list start is_tight items) html o left ns e h = h ns e
with-html (table alignments header rs) html o left ns e h = h ns e
with-html (html_block s) html o left ns e h =
    subst (λ x. IsOpen (with_lines (lines_of s) o) ns (x ++ html)) (split-ended s)
    (lines-ok (lines_of s) html o left ns e h)

-- before what is open, something that is spelled so before trees
before-open : (f : SpelledForest → SpelledForest) (s html : List ℕ) (o : Open) (ns : List (List ℕ))
    → all_spelled (f o.first) ≡ s ++ all_spelled o.first → IsOpen o ns html → IsOpen (onto f o) ns (s ++ html)
before-open f s html o ns h i = (
  i.0,
  ap (λ x. x ++ behind_spelled o.behind) h
      ∙ (append_assoc s (all_spelled o.first) (behind_spelled o.behind) ∙ ap (λ x. s ++ x) i.1),
)

-- nothing is left open
pub pairs-end : (bs : Blocks) → blocks_are_paired bs ≡ true
    → (blocks_unopened bs ≡ Some []) × (each_is_paired bs ≡ true)
pairs-end bs h =
    let p = and_parts (is_nothing_left (blocks_unopened bs)) (each_is_paired bs) h in
    (nothing-left (blocks_unopened bs) p.0, p.1)

mutual
  unfolding is_void

  one_block : (tight : Bool) (b : Block) (rest : SpelledForest) → block_is_paired b ≡ true
      → all_spelled (block_trees tight b rest) ≡ own_html tight b ++ all_spelled rest
  one_block true (paragraph xs) rest h = inlines xs rest h
  one_block false (paragraph xs) rest h =
      line-spelled (codes "p") [] (inlines_trees xs none) rest (inlines_html xs) (codes "</p>\n") refl refl
      (inlines-alone xs h)
  one_block tight (heading level xs) rest h = a_heading level xs rest h
  one_block tight (code_block l s) rest h =
      line-spelled (codes "pre") [] (code_block_tree l s) rest
      (codes "<code" ++ language_attribute l ++ codes ">" ++ code_lines s ++ codes "</code>") (codes "</pre>\n")
      refl refl (code_block-spelled l s)
      ∙ ap (λ x. x ++ all_spelled rest) (fence_end (language_attribute l) (code_lines s))
  one_block tight (quote bs) rest h =
      lines-spelled (codes "blockquote") [] (blocks_trees false false bs) rest (codes "<blockquote>\n")
      (blocks_html false false bs) (codes "</blockquote>\n") refl refl refl
      (let p = pairs-end bs h in
      closed-with (blocks_open false false bs) (blocks_html false false bs) (open_blocks false false bs [] p.0 p.1))
  one_block tight thematic_break rest h = ap (λ s. codes "<hr />" ++ s) (text-spelled (codes "\n") rest)
  one_block tight (list start is_tight items) rest h =
      lines-spelled (list_name start) (pairs_of_start start) (items_trees is_tight items) rest (list_tag start)
      (items_html is_tight items) (end_of_list start) (list-not-void start) (list-begins start) (list-ends start)
      (all_items is_tight items h)
  one_block tight (table alignments header rs) rest h =
      let p = and_parts (cells_are_paired header) (rows_are_paired rs) h in
      a_table alignments header rs rest p.0 p.1
  one_block tight (html_block s) rest h = refl

  pub open_blocks : (tight l : Bool) (bs : Blocks) (ns : List (List ℕ)) → blocks_unopened bs ≡ Some ns
      → each_is_paired bs ≡ true → IsOpen (blocks_open tight l bs) ns (blocks_html tight l bs)
  open_blocks tight l no_blocks ns e h = (let x : [] ≡ ns = cc in x, refl)
  open_blocks tight l (block b bs) ns e h =
      let p = and_parts (block_is_paired b) (each_is_paired bs) h in
      let bare = is_bare tight b in
      let behind = blocks_open tight bare bs in
      let html = blocks_html tight bare bs in
      let tags = with-html b html behind (blocks_unopened bs) ns e (λ ms f. open_blocks tight bare bs ms f p.1) in
      let o = with_html b behind in
      let all = before-open (λ ts. begun_line l bare (block_trees tight b ts))
      (line_end_before l bare ++ own_html tight b) (tag_html b ++ html) o ns
      (begun l bare (block_trees tight b o.first)
      ∙ (ap (λ s. line_end_before l bare ++ s) (one_block tight b o.first p.0)
      ∙ sym (append_assoc (line_end_before l bare) (own_html tight b) (all_spelled o.first)))) tags in
      subst (IsOpen (blocks_open tight l (block b bs)) ns) (together tight b (line_end_before l bare) html) all

  all_items : (tight : Bool) (items : Items) → items_are_paired items ≡ true
      → all_spelled (items_trees tight items) ≡ items_html tight items
  all_items tight no_items h = refl
  all_items tight (item bs rest) h =
      let p = and_parts (blocks_are_paired bs) (items_are_paired rest) h in
      let q = pairs-end bs p.0 in
      line-spelled (codes "li") [] (blocks_trees tight true bs) (items_trees tight rest) (blocks_html tight true bs)
      (codes "</li>\n") refl refl
      (closed-with (blocks_open tight true bs) (blocks_html tight true bs) (open_blocks tight true bs [] q.0 q.1))
      ∙ ap (λ s. item_html (blocks_html tight true bs) ++ s) (all_items tight rest p.1)

all_blocks : (tight l : Bool) (bs : Blocks) → blocks_are_paired bs ≡ true
    → all_spelled (blocks_trees tight l bs) ≡ blocks_html tight l bs
all_blocks tight l bs h =
    let p = pairs-end bs h in
    closed-with (blocks_open tight l bs) (blocks_html tight l bs) (open_blocks tight l bs [] p.0 p.1)

pub rendered : RenderedIsSpelled
rendered bs h = sym (all_blocks false false bs h)

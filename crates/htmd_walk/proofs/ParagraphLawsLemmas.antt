-- A document of paragraphs reads back.
use Rattle.std.proofs.Common.{◌≡◌, ℕ, zero, suc, ◌≤◌, Bool, true, false, not, ◌&&◌, cond, List, [], ◌∷◌, ◌++◌, map}
use Rattle.std.proofs.Common.{length, drop, Option, Some, None, codes, refl, sym, ap, ◌∙◌, arith, nat_lt}
use Rattle.std.specs.Option.{unwrap_or}
use Rattle.std.proofs.lemmas.Bool.{and_right}
use Rattle.std.proofs.lemmas.List.{append-nil}
use Rattle.htmd_text.specs.Blocks.{is_block}
use Rattle.htmd_lexical.specs.BlankLines.{with_blank_lines}
use Rattle.htmd_text.specs.EscapedPlaces.{escaped_markdown}
use Rattle.htmd_text.specs.Trims.{trimmed_end, trimmed_text, is_space, is_line_feed}
use Rattle.htmd_lexical.specs.WhiteSpace.{is_document_white_space}
use Rattle.htmd_values.specs.ValueTrees as value
use Rattle.htmd_nodes.specs.Items.{Data, document_node, doctype_node, text_node, comment_node, element_node, Item}
use Rattle.htmd_nodes.specs.Items.{IsTree, data_at, children_of}
use Rattle.htmd_nodes.specs.NumberedTrees.{NumberedTree, document, doctype, text, comment, element, NumberedForest}
use Rattle.htmd_nodes.specs.NumberedTrees.{none, more, with_children, forest_from, forest_of, tree_of, height, tallest}
use Rattle.htmd_nodes.specs.NumberedTrees.{value_tree, value_forest}
use Rattle.htmd_nodes.specs.Ancestors.{Ancestor, ancestor_of, ancestors_up, ancestors_of}
use Rattle.htmd_nodes.proofs.NumberedTreesLemmas.{tree-open}
use Rattle.htmd_walk.specs.declared.options.Options.{Options}
use Rattle.htmd_walk.specs.Handling.{HandlerMeaning, PlanView, raw_html, content_of_children}
use Rattle.htmd_walk.specs.Choice.{Config, indexes, handlers_at}
use Rattle.htmd_walk.specs.Seams.{joined_at_seam}
use Rattle.htmd_walk.specs.Groups.{Joint, joint_with, joint_of, both_join, is_joinable, only_text, with_text, text_of}
use Rattle.htmd_walk.specs.Groups.{in_front, groups_of}
use Rattle.htmd_walk.specs.Outputs.{Conversion, conversion_of, Output, context_of, empty_output, is_markdown_alone}
use Rattle.htmd_walk.specs.Children.{trim_after, write_children, content_inside}
use Rattle.htmd_walk.specs.ElementPlans.{children_plan}
use Rattle.htmd_walk.specs.Elements.{Occurrence, Answer, content_of, answer_after, first_answer, plan_answer}
use Rattle.htmd_walk.specs.Elements.{with_finish}
use Rattle.htmd_walk.specs.Elements.{without_handler, view_at, occurrence_at}
use Rattle.htmd_walk.specs.Rendering.{with_answer, end_of_document, written_within}
use Rattle.htmd_walk.specs.Paragraphs.{paragraphs}
use Rattle.htmd_walk.specs.BuiltIn.{built_in}
use Rattle.htmd_walk.specs.Markdown.{append_texts, walked_node, markdown}
use Rattle.htmd_walk.specs.ParagraphLaws as law
use Rattle.htmd_walk.specs.ParagraphLaws.{text_shown, ParagraphsReadBack}
use Rattle.htmd_walk.proofs.ShownTexts.{shown_is}
use Rattle.htmd_walk.proofs.ParagraphSeams.{put_behind, all_put, put_read}

-- ---- the trees

-- the children of a paragraph
Holds : NumberedForest → Option (List ℕ) → Type 0
Holds kids None = kids ≡ none
Holds kids (Some s) = (id : ℕ) × (kids ≡ more (text id s) none)

holds : (kids : NumberedForest) (held : Option (List ℕ)) → value_forest kids ≡ law.text_alone held
    → Holds kids held
unfolding Holds
holds none None e = refl
holds none (Some s) e = cc
holds (more tree trees) None e = cc
holds (more (document id c) trees) (Some s) e = cc
holds (more (doctype id) trees) (Some s) e = cc
holds (more (text id t) none) (Some s) e =
    let same : t ≡ s = cc in
    (id, ap (λ (l : List ℕ). more (text id l) none) same)
holds (more (text id t) (more tree trees)) (Some s) e = cc
holds (more (comment id t) trees) (Some s) e = cc
holds (more (element id name attributes c) trees) (Some s) e = cc

-- the numbered tree of a paragraph
record IsParagraph (items : List Item) (held : Option (List ℕ)) (tree : NumberedTree) : Type 0 where
  id : ℕ
  kids : NumberedForest
  data_is : data_at items id ≡ element_node (codes "p") []
  is : tree ≡ element id (codes "p") [] kids
  holds : Holds kids held

made : (items : List Item) (id : ℕ) (d : Data) (kids : NumberedForest) (held : Option (List ℕ))
    → data_at items id ≡ d
    → value_tree (with_children id d kids) ≡ law.paragraph held → IsParagraph items held (with_children id d kids)
made items id document_node kids held here e = cc
made items id doctype_node kids held here e = cc
made items id (text_node s) kids held here e = cc
made items id (comment_node s) kids held here e = cc
made items id (element_node name attributes) kids held here e =
    let named : name ≡ codes "p" = cc in
    let bare : attributes ≡ [] = cc in
    let inside : value_forest kids ≡ law.text_alone held = cc in
    record {
      id = id;
      kids = kids;
      data_is = here ∙ ap (λ n. element_node n attributes) named ∙ ap (element_node (codes "p")) bare;
      is = ap (λ n. element id n attributes kids) named ∙ ap (λ a. element id (codes "p") a kids) bare;
      holds = holds kids held inside;
    }

made_of : (items : List Item) (id : ℕ) (held : Option (List ℕ)) → value_tree (tree_of items id)
    ≡ law.paragraph held
    → IsParagraph items held (tree_of items id)
unfolding tree_of
made_of items id held e = made items id (data_at items id) (forest_from 0 items id) held refl e

AreParagraphs : List Item → List (Option (List ℕ)) → NumberedForest → Type 0
AreParagraphs items [] none = Unit {0}
AreParagraphs items [] (more tree trees) = ⊥
AreParagraphs items (held ∷ texts) none = ⊥
AreParagraphs items (held ∷ texts) (more tree trees) = IsParagraph items held tree × AreParagraphs items texts trees

all_made : (items : List Item) (ids : List ℕ) (texts : List (Option (List ℕ)))
    → value_forest (forest_of (tree_of items) ids) ≡ law.paragraphs texts
    → AreParagraphs items texts (forest_of (tree_of items) ids)
unfolding AreParagraphs
all_made items [] [] e = tt
all_made items [] (held ∷ texts) e = cc
all_made items (id ∷ ids) [] e = cc
all_made items (id ∷ ids) (held ∷ texts) e =
    let first : value_tree (tree_of items id) ≡ law.paragraph held = cc in
    let rest : value_forest (forest_of (tree_of items) ids) ≡ law.paragraphs texts = cc in
    (made_of items id held first, all_made items ids texts rest)

-- ---- they do not join

joins_never : (o : Option (List ℕ)) (next : Option Joint) → both_join (joint_with (codes "p") [] o) next ≡ false
unfolding is_block
joins_never None next = refl
joins_never (Some s) None = refl
joins_never (Some s) (Some next) = refl

stays_in_front : (items : List Item) (held : Option (List ℕ)) (tree : NumberedTree) (trees : NumberedForest)
    → IsParagraph items held tree → in_front tree trees ≡ more tree trees
stays_in_front items held tree none is = refl
stays_in_front items held tree (more next trees) is =
    let apart : is_joinable tree next ≡ false =
    ap (λ (t : NumberedTree). is_joinable t next) is.is ∙ joins_never (only_text is.kids) (joint_of next) in
    ap (λ b. cond b (more (with_text (text_of tree ++ text_of next) tree) trees) (more tree (more next trees))) apart

groups_are : (items : List Item) (texts : List (Option (List ℕ))) (trees : NumberedForest)
    → AreParagraphs items texts trees → groups_of trees ≡ trees
unfolding AreParagraphs
groups_are items [] none are = refl
groups_are items [] (more tree trees) are = absurd are
groups_are items (held ∷ texts) none are = absurd are
groups_are items (held ∷ texts) (more tree trees) are =
    ap (in_front tree) (groups_are items texts trees are.1) ∙ stays_in_front items held tree trees are.0

-- ---- how they are written

-- Markdown so far, without definitions
abbrev so_far : List ℕ → Output
so_far s = record { text = s; markdown_translated = true; definitions = [] }

abbrev root : Ancestor
root = record { tag = codes "html"; attributes = [] }

abbrev inside : List Ancestor
inside = record { tag = codes "p"; attributes = [] } ∷ root ∷ []

abbrev read_of : Option (List ℕ) → List ℕ
read_of held = unwrap_or held []

p_alone : (o : Options)
    → handlers_at (built_in o).handlers (drop 0 (indexes (codes "p") (built_in o).registered)) ≡ paragraphs ∷ []
p_alone o = refl

-- what the handler of `p` gives, of what is in it
abbrev wrapped : List ℕ → Answer
wrapped s = record {
  result = Some (record { content = with_blank_lines (trimmed_text is_line_feed s); markdown_translated = true });
  definitions = [];
}

module _ (options : Options) (items : List Item) where
  abbrev conversion : Conversion
  conversion = conversion_of (built_in options) items

  content_is : (n : ℕ) (kids : NumberedForest) (held : Option (List ℕ)) → Holds kids held → tallest kids ≤ n
      → content_inside (written_within n conversion) inside kids []
      ≡ so_far (escaped_markdown (text_shown (read_of held)))
  unfolding Holds is_block written_within
  content_is n kids None h low =
      ap (λ (f : NumberedForest). content_inside (written_within n conversion) inside f []) h
  content_is zero kids (Some s) h low = absurd (omega (arith, low, ap tallest h.1))
  content_is (suc n) kids (Some s) h low =
      ap (λ (f : NumberedForest). content_inside (written_within (suc n) conversion) inside f []) h.1
      ∙ ap (λ (l : List ℕ). so_far (escaped_markdown l)) (shown_is s)

  abbrev at : ℕ → ℕ → NumberedForest → Occurrence
  at n id kids = occurrence_at (written_within n conversion) conversion id inside kids

  plan_is : (id : ℕ) (kids : NumberedForest) → data_at items id ≡ element_node (codes "p") []
      → children_plan (view_at conversion id true kids) ≡ content_of_children
  plan_is id kids e =
      ap (λ d. cond (not (is_markdown_alone options) && nat_lt 0 (length (ancestor_of d).attributes)) raw_html
      content_of_children) e
      ∙ ap (λ b. cond b raw_html content_of_children) (and_right (not (is_markdown_alone options)) false refl)

  answer_is : (n id : ℕ) (kids : NumberedForest) (e : List ℕ) → data_at items id ≡ element_node (codes "p") []
      → content_of (at n id kids) [] ≡ so_far e
      → answer_after 0 (codes "p") (at n id kids) [] ≡ wrapped e
  answer_is n id kids e here content =
      ap (λ (hs : List HandlerMeaning). first_answer hs (at n id kids) []) (p_alone options)
      ∙ ap (λ (p : PlanView). plan_answer paragraphs (at n id kids) [] p (without_handler (at n id kids) []))
      (plan_is id kids here)
      ∙ ap (λ (o : Output). with_finish paragraphs (view_at conversion id true kids) o) content

  element_is : (n id : ℕ) (kids : NumberedForest) (held : Option (List ℕ)) (trim : Bool) (out : List ℕ)
      → data_at items id ≡ element_node (codes "p") [] → Holds kids held
      → height (element id (codes "p") [] kids) ≤ n
      → written_within n conversion (element id (codes "p") [] kids) (context_of (root ∷ []) false trim)
      (so_far out)
      ≡ so_far (joined_at_seam out
      (with_blank_lines (trimmed_text is_line_feed (escaped_markdown (text_shown (read_of held))))) false)
  unfolding written_within
  element_is zero id kids held trim out here h low = absurd (omega (arith, low))
  element_is (suc n) id kids held trim out here h low =
      ap (λ (a : Answer). with_answer (so_far out) false a)
      (answer_is n id kids (escaped_markdown (text_shown (read_of held))) here
      (content_is n kids held h (omega (arith, low))))

  -- one paragraph more
  first_is : (n : ℕ) (held : Option (List ℕ)) (tree : NumberedTree) (trees : NumberedForest) (trim : Bool)
      (out : List ℕ) → IsParagraph items held tree → height tree ≤ n
      → (next : Bool) × (write_children (written_within n conversion) (root ∷ []) (more tree trees) trim
      (so_far out)
      ≡ write_children (written_within n conversion) (root ∷ []) trees next
      (so_far (put_behind out (text_shown (read_of held)))))
  unfolding is_block
  first_is n held tree trees trim out is low =
      let before = so_far (trimmed_end is_space out) in
      let after = so_far (put_behind out (text_shown (read_of held))) in
      let here : height (element is.id (codes "p") [] is.kids) ≤ n = omega (arith, low, ap height is.is) in (
        trim_after true before after trim,
        ap (λ (t : NumberedTree). write_children (written_within n conversion) (root ∷ []) (more t trees) trim
            (so_far out)) is.is
            ∙ ap (λ (o : Output). write_children (written_within n conversion) (root ∷ []) trees
            (trim_after true before o trim) o)
            (element_is n is.id is.kids held trim (trimmed_end is_space out) is.data_is is.holds here),
      )

  all_are : (n : ℕ) (texts : List (Option (List ℕ))) (trees : NumberedForest) (trim : Bool) (out : List ℕ)
      → AreParagraphs items texts trees → tallest trees ≤ n
      → write_children (written_within n conversion) (root ∷ []) trees trim (so_far out)
      ≡ so_far (all_put out (map text_shown (map read_of texts)))
  unfolding AreParagraphs
  all_are n [] none trim out are low = refl
  all_are n [] (more tree trees) trim out are low = absurd are
  all_are n (held ∷ texts) none trim out are low = absurd are
  all_are n (held ∷ texts) (more tree trees) trim out are low =
      let first = first_is n held tree trees trim out are.0 (omega (arith, low)) in
      first.1
      ∙ all_are n texts trees first.0 (put_behind out (text_shown (read_of held))) are.1 (omega (arith, low))

  -- the Document
  document_is : (texts : List (Option (List ℕ))) (trees : NumberedForest) → AreParagraphs items texts trees
      → written_within (height (document 0 trees)) conversion (document 0 trees) (context_of [] false true)
      (empty_output [])
      ≡ so_far (trimmed_end is_document_white_space (all_put [] (map text_shown (map read_of texts))))
  unfolding written_within is_block
  document_is texts trees are =
      ap (λ (f : NumberedForest). end_of_document true
      (write_children (written_within (tallest trees) conversion) (root ∷ []) f true (so_far [])))
      (groups_are items texts trees are)
      ∙ ap (end_of_document true) (all_are (tallest trees) texts trees true [] are (omega arith))

  node_is : (texts : List (Option (List ℕ))) (tree : NumberedTree) (above : List Ancestor) (trees : NumberedForest)
      → tree ≡ document 0 trees → above ≡ [] → AreParagraphs items texts trees
      → written_within (height tree) conversion tree (context_of above false true) (empty_output [])
      ≡ so_far (trimmed_end is_document_white_space (all_put [] (map text_shown (map read_of texts))))
  node_is texts tree above trees is no_above are =
      ap (λ (t : NumberedTree). written_within (height t) conversion t (context_of above false true)
      (empty_output [])) is
      ∙ ap (λ (a : List Ancestor). written_within (height (document 0 trees)) conversion (document 0 trees)
      (context_of a false true) (empty_output [])) no_above
      ∙ document_is texts trees are

  none_above : IsTree items → ancestors_of items 0 ≡ []
  unfolding ancestors_of ancestors_up
  none_above t = ap (λ (i : Item). ancestors_up i.depth items 0) t.first

  markdown_is : (s : List ℕ) → walked_node (built_in options) items 0 ≡ so_far s
      → markdown (built_in options) items 0 ≡ trimmed_text is_line_feed s
  unfolding markdown
  markdown_is s e =
      ap (λ (o : Output). trimmed_text is_line_feed o.text
      ++ trimmed_end is_line_feed (append_texts (built_in options).handlers o.definitions)) e
      ∙ append-nil (trimmed_text is_line_feed s)

root_reads_back : (options : Options) (items : List Item) (texts : List (Option (List ℕ)))
    → IsTree items
    → value_tree (tree_of items 0) ≡ value.document (law.paragraphs texts)
    → law.texts_read (markdown (built_in options) items 0) ≡ law.texts_shown (map read_of texts)
root_reads_back options items texts t e =
    let trees = forest_of (tree_of items) (children_of items 0) in
    let is : tree_of items 0 ≡ document 0 trees =
    tree-open items 0 t t.not_empty ∙ ap (λ (i : Item). with_children 0 i.node_data trees) t.first in
    let value : value.document (value_forest trees) ≡ value.document (law.paragraphs texts) =
    ap value_tree (sym is) ∙ e in
    let values : value_forest trees ≡ law.paragraphs texts = cc in
    let are = all_made items (children_of items 0) texts values in
    let walked = node_is options items texts (tree_of items 0) (ancestors_of items 0) trees is
    (none_above options items t) are in
    ap law.texts_read (markdown_is options items
    (trimmed_end is_document_white_space (all_put [] (map text_shown (map read_of texts)))) walked)
    ∙ put_read (map read_of texts)

pub paragraphs_read_back : (config : Config) (items : List Item) (node : ℕ) → IsTree items
    → ParagraphsReadBack config items node (markdown config items node)
paragraphs_read_back config items node t options texts built first e =
    let read : Config → ℕ → List (List ℕ) = λ c n. law.texts_read (markdown c items n) in
    ap (λ c. read c node) built ∙ ap (read (built_in options)) first
    ∙ root_reads_back options items texts t (sym (ap (λ n. value_tree (tree_of items n)) first) ∙ e)

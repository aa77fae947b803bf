-- The reader that takes the visible characters, each with what stands around it.
use Rattle.std.proofs.Common.{◌≡◌, ℕ, Bool, true, false, List, [], ◌∷◌, ◌++◌, map, refl, ap, ◌∙◌}
use Rattle.std.proofs.Common.{cond}
use Rattle.std.specs.Prelude.{not, ◌&&◌, codes, Some, None}
use Rattle.std.specs.List.{flat_map}
use Rattle.std.specs.Str.{IsUtf8}
use Rattle.std.proofs.lemmas.List.{map-append}
use Rattle.htmd_lexical.specs.AttributePairs.{AttributePair}
use Rattle.htmd_document.specs.Documents.{Inline, text, code, formatted, link, image, line_break, task, Inlines}
use Rattle.htmd_document.specs.Documents.{anchor}
use Rattle.htmd_document.specs.Documents.{no_inlines, inline, Block, paragraph, heading, code_block, quote}
use Rattle.htmd_document.specs.Documents.{element, tags}
use Rattle.htmd_document.specs.Documents.{thematic_break, list, table, Blocks, no_blocks, block, Items, no_items, item}
use Rattle.htmd_shown.specs.declared.facts.Facts.{Facts}
use Rattle.htmd_shown.specs.declared.role.Role.{Role}
use Rattle.htmd_shown.specs.declared.role.Role.TheVariants as role
use Rattle.htmd_shown.specs.AllTexts.{all_text_among, dollar_sign}
use Rattle.htmd_shown.specs.Attributes.{text_of}
use Rattle.htmd_shown.specs.SimpleTrees as simple
use Rattle.htmd_shown.specs.SimpleTrees.{Simple, Simples, none, more}
use Rattle.htmd_flow.specs.Contexts.{Context, inside_link, in_code}
use Rattle.htmd_flow.specs.Flows.{around_node, is_grid_of}
use Rattle.htmd_flow.specs.Parts as part
use Rattle.htmd_law_documents.specs.DocumentTexts.{visible}
use Rattle.htmd_law_documents.specs.DocumentWrappers.{Wrapper, of_format, of_link, Wrapped, in_wrappers}
use Rattle.htmd_law_documents.specs.DocumentWrappers.{wrappers_of_inline}
use Rattle.htmd_law_documents.specs.DocumentWrappers.{wrappers_of_line, wrappers_of_cells, wrappers_of_block}
use Rattle.htmd_law_documents.specs.DocumentWrappers.{wrappers_of_blocks, wrappers_of_items}
use Rattle.htmd_law_documents.specs.TreeWrappers.{wrapper_of, wrapped_in, wrapped_formula, inside_verbatim, wrappers_by}
use Rattle.htmd_law_documents.specs.TreeWrappers.{wrappers_of_tree, wrappers_of_trees}
use Rattle.htmd_law_documents.proofs.VisibleLemmas.{shows-nil, visible-append}
use Rattle.htmd_law_documents.proofs.Readers.{Reader, read_inline, read_line, read_cells, read_block, read_blocks}
use Rattle.htmd_law_documents.proofs.Readers.{read_items, read_around, read_in, read_in_line, read_formula, read_by}
use Rattle.htmd_law_documents.proofs.Readers.{read_tree, read_trees, no-marks}

abbrev pub as_wrapped : List Wrapper → Bool → ℕ → Wrapped
as_wrapped wrappers is_code c = record { character = c; wrappers = wrappers; is_code = is_code }

pub in_wrappers-append : (wrappers : List Wrapper) (is_code : Bool) (s t : List ℕ) → IsUtf8 s → IsUtf8 t
    → in_wrappers wrappers is_code (s ++ t) ≡ in_wrappers wrappers is_code s ++ in_wrappers wrappers is_code t
in_wrappers-append wrappers is_code s t u v =
    ap (map (as_wrapped wrappers is_code)) (visible-append s t u)
    ∙ map-append (as_wrapped wrappers is_code) (visible s) (visible t)

abbrev pub wrapped : Reader
wrapped = record {
  Wrap = Wrapper;
  Seen = Wrapped;
  as_format = of_format;
  as_link = of_link;
  read = in_wrappers;
  mark = λ id. [];
  picture = [];
  nothing = λ wrappers is_code. ap (map (as_wrapped wrappers is_code)) shows-nil.is;
  joins = in_wrappers-append;
  same = λ wrappers is_code s t u v e. ap (map (as_wrapped wrappers is_code)) e;
}

-- ---- documents

mutual
  inline-wrappers : (wrappers : List Wrapper) (x : Inline)
      → read_inline wrapped wrappers x ≡ wrappers_of_inline wrappers x
  inline-wrappers wrappers (text s) = refl
  inline-wrappers wrappers (code s) = refl
  inline-wrappers wrappers (formatted format content) = line-wrappers (wrappers ++ of_format format ∷ []) content
  inline-wrappers wrappers (link address title content) = line-wrappers (wrappers ++ of_link address ∷ []) content
  inline-wrappers wrappers (image address title description) = refl
  inline-wrappers wrappers (anchor i) = refl
  inline-wrappers wrappers line_break = refl
  inline-wrappers wrappers (task is_checked) = refl

  line-wrappers : (wrappers : List Wrapper) (xs : Inlines)
      → read_line wrapped wrappers xs ≡ wrappers_of_line wrappers xs
  line-wrappers wrappers no_inlines = refl
  line-wrappers wrappers (inline x xs) =
      ap (λ t. t ++ read_line wrapped wrappers xs) (inline-wrappers wrappers x)
      ∙ ap (λ t. wrappers_of_inline wrappers x ++ t) (line-wrappers wrappers xs)

cells-wrappers : (cells : List Inlines) → read_cells wrapped cells ≡ wrappers_of_cells cells
cells-wrappers [] = refl
cells-wrappers (cell ∷ cells) =
    ap (λ t. t ++ read_cells wrapped cells) (line-wrappers [] cell)
    ∙ ap (λ t. wrappers_of_line [] cell ++ t) (cells-wrappers cells)

rows-wrappers : (rows : List (List Inlines))
    → flat_map (read_cells wrapped) rows ≡ flat_map wrappers_of_cells rows
rows-wrappers [] = refl
rows-wrappers (row ∷ rows) =
    ap (λ t. t ++ flat_map (read_cells wrapped) rows) (cells-wrappers row)
    ∙ ap (λ t. wrappers_of_cells row ++ t) (rows-wrappers rows)

mutual
  block-wrappers : (b : Block) → read_block wrapped b ≡ wrappers_of_block b
  block-wrappers (paragraph content) = line-wrappers [] content
  block-wrappers (heading level content) = line-wrappers [] content
  block-wrappers (code_block language s) = refl
  block-wrappers (quote content) = blocks-wrappers content
  block-wrappers thematic_break = refl
  block-wrappers (element name attributes content) = blocks-wrappers content
  block-wrappers (tags s) = refl
  block-wrappers (list start is_tight items) = items-wrappers items
  block-wrappers (table alignments header rows) =
      ap (λ t. t ++ flat_map (read_cells wrapped) rows) (cells-wrappers header)
      ∙ ap (λ t. wrappers_of_cells header ++ t) (rows-wrappers rows)

  pub blocks-wrappers : (bs : Blocks) → read_blocks wrapped bs ≡ wrappers_of_blocks bs
  blocks-wrappers no_blocks = refl
  blocks-wrappers (block b bs) =
      ap (λ t. t ++ read_blocks wrapped bs) (block-wrappers b)
      ∙ ap (λ t. wrappers_of_block b ++ t) (blocks-wrappers bs)

  items-wrappers : (items : Items) → read_items wrapped items ≡ wrappers_of_items items
  items-wrappers no_items = refl
  items-wrappers (item bs items) =
      ap (λ t. t ++ read_items wrapped items) (blocks-wrappers bs)
      ∙ ap (λ t. wrappers_of_blocks bs ++ t) (items-wrappers items)

-- ---- the simpler tree

around-wrapper : (a : part.Around) → read_around wrapped a ≡ wrapper_of a
around-wrapper (part.formatted format) = refl
around-wrapper (part.linked id address title) = refl

around-wrappers : (around : List part.Around) → map (read_around wrapped) around ≡ map wrapper_of around
around-wrappers [] = refl
around-wrappers (a ∷ around) =
    ap (λ m. m ∷ map (read_around wrapped) around) (around-wrapper a)
    ∙ ap (λ ms. wrapper_of a ∷ ms) (around-wrappers around)

same-around : (around : List part.Around) (is_code : Bool) (s : List ℕ)
    → in_wrappers (map (read_around wrapped) around) is_code s ≡ in_wrappers (map wrapper_of around) is_code s
same-around around is_code s = ap (λ ms. in_wrappers ms is_code s) (around-wrappers around)

formula-wrappers : (c : Context) (is_alone : Bool) (tex : List ℕ)
    → read_formula wrapped c is_alone tex ≡ wrapped_formula c is_alone tex
formula-wrappers c is_alone tex = either (is_alone && not c.is_flat)
  where
    mark : List ℕ
    mark = dollar_sign ∷ []

    either : (b : Bool) → cond b (in_wrappers [] true tex) (read_in_line wrapped c tex)
        ≡ cond b (in_wrappers [] true tex)
        ((wrapped_in c mark ++ wrapped_in (in_code c) tex) ++ wrapped_in c mark)
    either true = refl
    either false =
        ap (λ s. (s ++ read_in wrapped (in_code c) tex) ++ s) (same-around c.around c.is_code mark)
        ∙ ap (λ s. (wrapped_in c mark ++ s) ++ wrapped_in c mark) (same-around c.around true tex)

by-wrappers : (id : ℕ) (facts : Facts) (attributes : List AttributePair) (all : List ℕ) (holds_grid : Bool)
    (f g : Context → Bool → List Wrapped) → ((c : Context) (b : Bool) → f c b ≡ g c b) → (c : Context)
    (b : Bool) (r : Role)
    → read_by wrapped r id facts attributes all holds_grid f c b
    ≡ wrappers_by r id facts attributes all holds_grid g c b
by-wrappers id facts attributes all holds_grid f g e c b role.LineBreak = refl
by-wrappers id facts attributes all holds_grid f g e c b role.ThematicBreak = refl
by-wrappers id facts attributes all holds_grid f g e c b role.Preformatted =
    same-around (inside_verbatim c).around true all
by-wrappers id facts attributes all holds_grid f g e c b role.Verbatim =
    same-around (inside_verbatim c).around true all
by-wrappers id facts attributes all holds_grid f g e c b r = e _ _

mutual
  tree-wrappers : (t : Simple) (c : Context) (b : Bool) → read_tree wrapped t c b ≡ wrappers_of_tree t c b
  tree-wrappers (simple.text s) c b = same-around c.around c.is_code s
  tree-wrappers (simple.image None attributes) c b =
      same-around c.around (c.is_code && true) (text_of (codes "alt") attributes)
  tree-wrappers (simple.image (Some address) attributes) c b =
      same-around c.around (c.is_code && false) (text_of (codes "alt") attributes)
  tree-wrappers (simple.formula tex is_alone attributes) c b = formula-wrappers c is_alone tex
  tree-wrappers (simple.embedded id address title attributes anchors) c b =
      ap (λ xs. xs ++ read_in wrapped (inside_link id address None c) title) (no-marks wrapped (λ i. refl) anchors)
      ∙ same-around (inside_link id address None c).around (inside_link id address None c).is_code title
  tree-wrappers (simple.anchor id) c b = refl
  tree-wrappers (simple.element id r facts attributes content) c b =
      by-wrappers id facts attributes (all_text_among content) (is_grid_of content) (read_trees wrapped content)
      (wrappers_of_trees content) (trees-wrappers content)
      (around_node (simple.element id r facts attributes content) c) b r

  pub trees-wrappers : (ts : Simples) (c : Context) (b : Bool)
      → read_trees wrapped ts c b ≡ wrappers_of_trees ts c b
  trees-wrappers none c b = refl
  trees-wrappers (more t ts) c b =
      ap (λ x. x ++ read_trees wrapped ts c b) (tree-wrappers t c b)
      ∙ ap (λ x. wrappers_of_tree t c b ++ x) (trees-wrappers ts c b)

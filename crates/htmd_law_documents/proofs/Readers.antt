-- What a reader takes from the texts of documents and of trees, by what stands around them.
use Rattle.std.proofs.Common.{◌≡◌, ℕ, Bool, true, false, List, [], ◌∷◌, ◌++◌, map, refl, sym, ap, ◌∙◌}
use Rattle.std.specs.Prelude.{not, ◌&&◌, ◌||◌, if◌then◌else◌, codes, Option, Some, None, is_some}
use Rattle.std.specs.List.{flat_map}
use Rattle.std.specs.Str.{IsUtf8}
use Rattle.std.proofs.lemmas.Str.{IsUtf8-nil}
use Rattle.htmd_lexical.specs.AttributePairs.{AttributePair}
use Rattle.htmd_shown.specs.declared.facts.Facts.{Facts}
use Rattle.htmd_shown.specs.declared.role.Role.{Role}
use Rattle.htmd_shown.specs.declared.role.Role.TheVariants as role
use Rattle.htmd_shown.specs.AllTexts.{all_text_among, dollar_sign}
use Rattle.htmd_shown.specs.Attributes.{text_of}
use Rattle.htmd_shown.specs.Showings.{show}
use Rattle.htmd_shown.specs.SimpleTrees as simple
use Rattle.htmd_shown.specs.SimpleTrees.{Simple, Simples, none, more}
use Rattle.htmd_flow.specs.Contexts.{Context, inside_link, in_code, has_elements}
use Rattle.htmd_document.specs.Formats.{Format}
use Rattle.htmd_document.specs.Documents.{Inline, text, code, formatted, link, image, line_break, task}
use Rattle.htmd_document.specs.Documents.{anchor}
use Rattle.htmd_document.specs.Documents.{Inlines, no_inlines, inline, Block, paragraph, heading, code_block, quote}
use Rattle.htmd_document.specs.Documents.{element, tags}
use Rattle.htmd_document.specs.Documents.{thematic_break, list, table, Blocks, no_blocks, block, Items, no_items, item}
use Rattle.htmd_flow.specs.Flows.{around_node, is_grid_of}
use Rattle.htmd_flow.specs.Parts as part
use Rattle.htmd_law_documents.specs.DocumentTexts.{visible}
use Rattle.htmd_law_documents.specs.SimpleForms.{IsMade, IsSound, AreSound}
use Rattle.htmd_law_documents.specs.TreeWrappers.{inside, inside_verbatim, inside_cell}
use Rattle.htmd_law_documents.proofs.VisibleLemmas.{Shows, shows-nil, and-false}
use Rattle.htmd_law_documents.proofs.ElementLemmas.{false-true}

-- what is taken from a text in these wrappers: piece by piece, and the same from the same visible characters; and what
-- of an anchor, and of an image beside its description
pub record Reader : Type 1 where
  pub Wrap : Type 0
  pub Seen : Type 0
  pub as_format : Format → Wrap
  pub as_link : List ℕ → Wrap
  pub read : List Wrap → Bool → List ℕ → List Seen
  pub mark : List ℕ → List Seen
  pub picture : List Seen
  pub nothing : (wrappers : List Wrap) (is_code : Bool) → read wrappers is_code [] ≡ []
  pub joins : (wrappers : List Wrap) (is_code : Bool) (s t : List ℕ) → IsUtf8 s → IsUtf8 t
      → read wrappers is_code (s ++ t) ≡ read wrappers is_code s ++ read wrappers is_code t
  pub same : (wrappers : List Wrap) (is_code : Bool) (s t : List ℕ) → IsUtf8 s → IsUtf8 t → visible s
      ≡ visible t
      → read wrappers is_code s ≡ read wrappers is_code t

-- a table, a part of one, or a row
abbrev pub is_of_table : Role → Bool
is_of_table role.Table = true
is_of_table role.TableHead = true
is_of_table role.TableBody = true
is_of_table role.Row = true
is_of_table _ = false

-- an element for anchors alone
abbrev pub is_for_anchors : Role → Bool
is_for_anchors role.Anchors = true
is_for_anchors _ = false

-- Anchors stand right in an element that isn't blank, in which something shows, and no table, part or row of one; and
-- in one for anchors alone if they may stand where it does.
abbrev pub holds_anchors : Bool → Role → Facts → Simples → Bool
holds_anchors here r facts content =
    (is_for_anchors r && here) || (not (is_of_table r) && (not facts.is_blank && show true content))

-- where none may stand, none does in what is blank, or shows nothing
pub none-held : (r : Role) (facts : Facts) (content : Simples) → (not facts.is_blank && show true content) ≡ false
    → holds_anchors false r facts content ≡ false
none-held r facts content e =
    let other : Bool = not (is_of_table r) && (not facts.is_blank && show true content) in
    ap (λ b. b || other) (and-false (is_for_anchors r))
    ∙ (ap (λ b. not (is_of_table r) && b) e ∙ and-false (not (is_of_table r)))

-- nor right in a table, a part of one, or a row
pub none-in-table : (here : Bool) (r : Role) (facts : Facts) (content : Simples) → is_of_table r ≡ true
    → holds_anchors here r facts content ≡ false
none-in-table here r facts content e =
    ap (λ b. (is_for_anchors r && here) || (not b && (not facts.is_blank && show true content))) e ∙ other r e
  where
    other : (r : Role) → is_of_table r ≡ true → ((is_for_anchors r && here) || false) ≡ false
    other role.Anchors e = false-true e
    other r e = refl

module _ (R : Reader) where
  -- nothing is taken from what doesn't show
  pub unseen : (wrappers : List R.Wrap) (is_code : Bool) (s : List ℕ) → Shows s [] → R.read wrappers is_code s
      ≡ []
  unseen wrappers is_code s h =
      R.same wrappers is_code s [] h.utf8 IsUtf8-nil (h.is ∙ sym shows-nil.is) ∙ R.nothing wrappers is_code

  -- ---- documents

  abbrev mutual
    pub read_inline : List R.Wrap → Inline → List R.Seen
    read_inline wrappers (text s) = R.read wrappers false s
    read_inline wrappers (code s) = R.read wrappers true s
    read_inline wrappers (formatted format content) = read_line (wrappers ++ R.as_format format ∷ []) content
    read_inline wrappers (link address title content) = read_line (wrappers ++ R.as_link address ∷ []) content
    read_inline wrappers (image address title description) = R.picture ++ R.read wrappers false description
    read_inline wrappers (anchor id) = R.mark id
    read_inline wrappers line_break = []
    read_inline wrappers (task is_checked) = []

    pub read_line : List R.Wrap → Inlines → List R.Seen
    read_line wrappers no_inlines = []
    read_line wrappers (inline x xs) = read_inline wrappers x ++ read_line wrappers xs

  abbrev pub read_cells : List Inlines → List R.Seen
  read_cells cells = flat_map (read_line []) cells

  abbrev mutual
    pub read_block : Block → List R.Seen
    read_block (paragraph content) = read_line [] content
    read_block (heading level content) = read_line [] content
    read_block (code_block language s) = R.read [] true s
    read_block (quote content) = read_blocks content
    read_block thematic_break = []
    read_block (element name attributes content) = read_blocks content
    read_block (tags s) = []
    read_block (list start is_tight items) = read_items items
    read_block (table alignments header rows) = read_cells header ++ flat_map read_cells rows

    pub read_blocks : Blocks → List R.Seen
    read_blocks no_blocks = []
    read_blocks (block b bs) = read_block b ++ read_blocks bs

    pub read_items : Items → List R.Seen
    read_items no_items = []
    read_items (item bs items) = read_blocks bs ++ read_items items

  -- ---- trees

  abbrev pub read_around : part.Around → R.Wrap
  read_around (part.formatted format) = R.as_format format
  read_around (part.linked id address title) = R.as_link address

  abbrev pub read_in : Context → List ℕ → List R.Seen
  read_in context s = R.read (map read_around context.around) context.is_code s

  -- an image without an address is its description alone
  abbrev pub read_picture : Option (List ℕ) → List R.Seen
  read_picture None = []
  read_picture (Some address) = R.picture

  abbrev pub read_image : Context → Option (List ℕ) → List AttributePair → List R.Seen
  read_image context address attributes =
      read_picture address
      ++ R.read (map read_around context.around) (context.is_code && not (is_some address))
      (text_of (codes "alt") attributes)

  -- in a line, and as it is
  abbrev pub read_in_line : Context → List ℕ → List R.Seen
  read_in_line context tex =
      (read_in context (dollar_sign ∷ []) ++ read_in (in_code context) tex) ++ read_in context (dollar_sign ∷ [])

  abbrev pub read_formula : Context → Bool → List ℕ → List R.Seen
  read_formula context is_alone tex =
      if is_alone && not context.is_flat then R.read [] true tex else read_in_line context tex

  abbrev pub read_by : Role → ℕ → Facts → List AttributePair → List ℕ → Bool
      → (Context → Bool → List R.Seen)
      → Context → Bool
      → List R.Seen
  read_by role.LineBreak id facts attributes all holds_grid inner context in_grid = []
  read_by role.ThematicBreak id facts attributes all holds_grid inner context in_grid = []
  read_by role.Preformatted id facts attributes all holds_grid inner context in_grid =
      read_in (inside_verbatim context) all
  read_by role.Verbatim id facts attributes all holds_grid inner context in_grid =
      read_in (inside_verbatim context) all
  read_by role.Table id facts attributes all holds_grid inner context in_grid =
      inner context (holds_grid && not (has_elements context))
  read_by role.TableHead id facts attributes all holds_grid inner context in_grid = inner context in_grid
  read_by role.TableBody id facts attributes all holds_grid inner context in_grid = inner context in_grid
  read_by role.Row id facts attributes all holds_grid inner context in_grid = inner context in_grid
  read_by role.Cell id facts attributes all holds_grid inner context in_grid =
      inner (inside_cell in_grid context) false
  read_by role.HeaderCell id facts attributes all holds_grid inner context in_grid =
      inner (inside_cell in_grid context) false
  read_by r id facts attributes all holds_grid inner context in_grid =
      inner (inside r id facts attributes context) false

  abbrev mutual
    pub read_tree : Simple → Context → Bool → List R.Seen
    read_tree (simple.text s) context in_grid = read_in context s
    read_tree (simple.image address attributes) context in_grid = read_image context address attributes
    read_tree (simple.formula tex is_alone attributes) context in_grid = read_formula context is_alone tex
    read_tree (simple.embedded id address title attributes anchors) context in_grid =
        flat_map R.mark anchors ++ read_in (inside_link id address None context) title
    read_tree (simple.anchor id) context in_grid = R.mark id
    read_tree (simple.element id r facts attributes content) context in_grid =
        read_by r id facts attributes (all_text_among content) (is_grid_of content) (read_trees content)
        (around_node (simple.element id r facts attributes content) context) in_grid

    pub read_trees : Simples → Context → Bool → List R.Seen
    read_trees none context in_grid = []
    read_trees (more tree trees) context in_grid =
        read_tree tree context in_grid ++ read_trees trees context in_grid

  -- ---- where anchors stand

  abbrev mutual
    -- a node of texts as it is made, in which anchors stand so, or nothing is taken of them; here: one may stand here
    pub IsFit : Bool → Simple → Type 0
    IsFit here (simple.text s) = IsUtf8 s
    IsFit here (simple.image address attributes) = IsUtf8 (text_of (codes "alt") attributes)
    IsFit here (simple.formula tex is_alone attributes) = IsUtf8 tex
    IsFit here (simple.embedded id address title attributes anchors) = IsUtf8 title
    IsFit here (simple.anchor id) = here ≡ false → R.mark id ≡ []
    IsFit here (simple.element id r facts attributes content) =
        IsMade r facts content × AreFit (holds_anchors here r facts content) content

    pub AreFit : Bool → Simples → Type 0
    AreFit here none = Unit {0}
    AreFit here (more tree trees) = IsFit here tree × AreFit here trees

  mutual
    pub fit-sound : (here : Bool) (t : Simple) → IsFit here t → IsSound t
    fit-sound here (simple.text s) u = u
    fit-sound here (simple.image address attributes) u = u
    fit-sound here (simple.formula tex is_alone attributes) u = u
    fit-sound here (simple.embedded id address title attributes anchors) u = u
    fit-sound here (simple.anchor id) u = tt
    fit-sound here (simple.element id r facts attributes content) u =
        (u.0, all-fit-sound (holds_anchors here r facts content) content u.1)

    pub all-fit-sound : (here : Bool) (ts : Simples) → AreFit here ts → AreSound ts
    all-fit-sound here none u = tt
    all-fit-sound here (more t ts) u = (fit-sound here t u.0, all-fit-sound here ts u.1)

  -- where nothing is taken of anchors
  module _ (silent : (id : List ℕ) → R.mark id ≡ []) where
    pub no-marks : (ids : List (List ℕ)) → flat_map R.mark ids ≡ []
    no-marks [] = refl
    no-marks (id ∷ ids) = ap (λ xs. xs ++ flat_map R.mark ids) (silent id) ∙ no-marks ids

    mutual
      pub sound-fit : (here : Bool) (t : Simple) → IsSound t → IsFit here t
      sound-fit here (simple.text s) u = u
      sound-fit here (simple.image address attributes) u = u
      sound-fit here (simple.formula tex is_alone attributes) u = u
      sound-fit here (simple.embedded id address title attributes anchors) u = u
      sound-fit here (simple.anchor id) u = λ e. silent id
      sound-fit here (simple.element id r facts attributes content) u =
          (u.0, all-sound-fit (holds_anchors here r facts content) content u.1)

      pub all-sound-fit : (here : Bool) (ts : Simples) → AreSound ts → AreFit here ts
      all-sound-fit here none u = tt
      all-sound-fit here (more t ts) u = (sound-fit here t u.0, all-sound-fit here ts u.1)

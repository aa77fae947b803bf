-- What is seen of the simpler tree, in order, whichever of its tables are of rows and columns.
use Rattle.std.proofs.Common.{◌≡◌, ℕ, Bool, true, false, cond, not, ◌&&◌, List, [], ◌∷◌, ◌++◌, map, refl, sym, ap, ◌∙◌}
use Rattle.std.proofs.Common.{subst}
use Rattle.std.specs.Prelude.{codes, Some, None}
use Rattle.std.specs.List.{flat_map}
use Rattle.std.specs.Str.{IsUtf8}
use Rattle.std.proofs.lemmas.Str.{IsUtf8-append}
use Rattle.htmd_lexical.specs.AttributePairs.{AttributePair}
use Rattle.htmd_document.specs.Formats.{of_format, of_element}
use Rattle.htmd_shown.specs.declared.facts.Facts.{Facts}
use Rattle.htmd_shown.specs.declared.role.Role.{Role}
use Rattle.htmd_shown.specs.declared.role.Role.TheVariants as role
use Rattle.htmd_shown.specs.AllTexts.{all_text_among, dollar_sign}
use Rattle.htmd_shown.specs.Attributes.{text_of, title_of, address}
use Rattle.htmd_shown.specs.SimpleTrees.{Simple, text, image, formula, embedded, anchor, element, Simples, none, more}
use Rattle.htmd_flow.specs.Contexts.{Context, inside_format, inside_title, in_one_line, has_elements}
use Rattle.htmd_flow.specs.Flows.{linked_by, around_heading, around_node, is_grid_of}
use Rattle.htmd_law_documents.specs.DocumentTexts.{visible}
use Rattle.htmd_law_documents.specs.SaidTexts.{SayAll}
use Rattle.htmd_law_documents.specs.SimpleForms.{IsSound, AreSound}
use Rattle.htmd_law_documents.specs.SimpleTexts.{formula_said, flat_in, grid_in, text_of_simples}
use Rattle.htmd_law_documents.specs.TreeWrappers.{inside_heading}
use Rattle.htmd_law_documents.proofs.ElementLemmas.{dollar-shows, all-texts-show}
use Rattle.htmd_law_documents.proofs.Readers.{read_formula, read_by, read_tree, read_trees}
use Rattle.htmd_law_documents.proofs.SaidLemmas.{say-actual}
use Rattle.htmd_law_documents.proofs.WrapperElementLemmas.{format-change, title-change, link-change}
use Rattle.htmd_law_documents.proofs.WrapperNodesLemmas.{around-flat}
use Rattle.htmd_law_anchors.specs.DocumentMarks.{Mark, letter, place, letters}
use Rattle.htmd_law_anchors.specs.ShownThings.{ByRole}
use Rattle.htmd_law_anchors.proofs.MarkReader.{marks, letters-append}

-- a code block has the letters that it says
abbrev pub CodeMarks : Simples → List Mark → Type 0
CodeMarks content ms = (cs : List ℕ) × SayAll true false content cs × (ms ≡ map letter cs)

abbrev mutual
  -- a node that stands in one line or not, and in a table of rows and columns or not, has these marks
  pub Marks : Bool → Bool → Simple → List Mark → Type 0
  Marks flat in_grid (text s) ms = ms ≡ letters s
  Marks flat in_grid (image address attributes) ms = ms ≡ letters (text_of (codes "alt") attributes)
  Marks flat in_grid (formula tex is_alone attributes) ms = ms ≡ letters (formula_said (is_alone && not flat) tex)
  Marks flat in_grid (embedded id address title attributes anchors) ms = ms ≡ map place anchors ++ letters title
  Marks flat in_grid (anchor id) ms = ms ≡ place id ∷ []
  Marks flat in_grid (element id r facts attributes content) ms =
      (holds_grid : Bool)
      × ByRole r (CodeMarks content ms) (ms ≡ [])
      (MarkAll (flat_in r flat in_grid) (grid_in r holds_grid in_grid) content ms)

  pub MarkAll : Bool → Bool → Simples → List Mark → Type 0
  MarkAll flat in_grid none ms = ms ≡ []
  MarkAll flat in_grid (more tree trees) ms =
      (front : List Mark) × (rest : List Mark) × (ms ≡ front ++ rest)
      × Marks flat in_grid tree front × MarkAll flat in_grid trees rest

-- ---- what is read has these marks

formula-read : (tex : List ℕ) → IsUtf8 tex → (is_alone : Bool) (c : Context)
    → read_formula marks c is_alone tex ≡ letters (formula_said (is_alone && not c.is_flat) tex)
formula-read tex u is_alone c = either (is_alone && not c.is_flat)
  where
    sign : List ℕ
    sign = dollar_sign ∷ []

    either : (b : Bool)
        → cond b (letters tex) ((letters sign ++ letters tex) ++ letters sign) ≡ letters (formula_said b tex)
    either true = refl
    either false =
        sym (letters-append (dollar_sign ∷ tex) sign (IsUtf8-append sign tex dollar-shows.utf8 u)
        ∙ ap (λ x. x ++ letters sign) (letters-append sign tex dollar-shows.utf8))

places-read : (ids : List (List ℕ)) → flat_map (λ (id : List ℕ). place id ∷ []) ids ≡ map place ids
places-read [] = refl
places-read (id ∷ ids) = ap (λ xs. place id ∷ xs) (places-read ids)

module _ (id : ℕ) (facts : Facts) (attributes : List AttributePair) (content : Simples) (u : AreSound content)
    (holds_grid : Bool) (inner : Context → Bool → List Mark)
    (h : (c : Context) (g : Bool) → MarkAll c.is_flat g content (inner c g)) (c : Context) where
  abbrev by : Role → Bool → List Mark
  by r g = read_by marks r id facts attributes (all_text_among content) holds_grid inner c g

  abbrev Has : Role → Bool → Type 0
  Has r g = ByRole r (CodeMarks content (by r g)) (by r g ≡ [])
      (MarkAll (flat_in r c.is_flat g) (grid_in r (holds_grid && not (has_elements c)) g) content (by r g))

  -- in another context in which as much is one line
  as-flat : (d : Context) (flat : Bool) → d.is_flat ≡ flat → MarkAll flat false content (inner d false)
  as-flat d flat f = subst (λ (b : Bool). MarkAll b false content (inner d false)) f (h d false)

  code-read : CodeMarks content (letters (all_text_among content))
  code-read = (
    visible (text_of_simples true false content),
    say-actual content u true false,
    ap (map letter) (all-texts-show content u false).is,
  )

  heading-flat : (b : Bool) → c.is_flat ≡ b → (cond b c (in_one_line (around_heading facts c))).is_flat ≡ true
  heading-flat true f = f
  heading-flat false f = refl

  by-has : (r : Role) (g : Bool) → Has r g
  by-has role.LineBreak g = refl
  by-has role.ThematicBreak g = refl
  by-has role.Preformatted g = code-read
  by-has role.Verbatim g = code-read
  by-has (role.Heading level) g = as-flat (inside_heading facts c) true (heading-flat c.is_flat refl)
  by-has (role.Format f) g =
      as-flat (inside_format (of_format f) c) c.is_flat (format-change (of_format f) c).flat
  by-has (role.Element f) g =
      as-flat (inside_format (of_element f) c) c.is_flat (format-change (of_element f) c).flat
  by-has role.Abbreviation g =
      as-flat (inside_title (title_of attributes) c) c.is_flat (title-change (title_of attributes) c).flat
  by-has role.Link g =
      as-flat (linked_by id attributes c) c.is_flat
      (link-change id (address (text_of (codes "href") attributes)) (title_of attributes) c).flat
  by-has role.Cell true = h _ _
  by-has role.Cell false = h _ _
  by-has role.HeaderCell true = h _ _
  by-has role.HeaderCell false = h _ _
  by-has r g = h _ _

mutual
  tree-read : (t : Simple) → IsSound t → (c : Context) (g : Bool) → Marks c.is_flat g t (read_tree marks t c g)
  tree-read (text s) u c g = refl
  tree-read (image None attributes) u c g = refl
  tree-read (image (Some address) attributes) u c g = refl
  tree-read (formula tex is_alone attributes) u c g = formula-read tex u is_alone c
  tree-read (embedded id address title attributes anchors) u c g =
      ap (λ xs. xs ++ letters title) (places-read anchors)
  tree-read (anchor id) u c g = refl
  tree-read (element id r facts attributes content) u c g =
      let t : Simple = element id r facts attributes content in
      let d : Context = around_node t c in
      let holds : Bool = is_grid_of content && not (has_elements d) in
      let ms : List Mark = read_tree marks t c g in (
        holds,
        subst (λ (b : Bool). ByRole r (CodeMarks content ms) (ms ≡ [])
            (MarkAll (flat_in r b g) (grid_in r holds g) content ms)) (around-flat t c)
            (by-has id facts attributes content u.1 (is_grid_of content) (read_trees marks content)
            (λ d k. trees-read content u.1 d k) d r g),
      )

  pub trees-read : (ts : Simples) → AreSound ts → (c : Context) (g : Bool)
      → MarkAll c.is_flat g ts (read_trees marks ts c g)
  trees-read none u c g = refl
  trees-read (more t ts) u c g = (
    read_tree marks t c g,
    read_trees marks ts c g,
    refl,
    tree-read t u.0 c g,
    trees-read ts u.1 c g,
  )

-- What a page says: its texts that aren't hidden, the descriptions of images, the marks of quotations, the TeX of
-- formulas, and the titles of what is embedded.
use Rattle.std.specs.Prelude.{ℕ, Bool, true, false, not, ◌&&◌, ◌||◌, if◌then◌else◌, List, [], ◌∷◌, ◌++◌, codes}
use Rattle.std.specs.Prelude.{Option, Some, None}
use Rattle.std.specs.Str.{bytes_eq}
use Rattle.htmd_lexical.specs.Characters.{quotation_mark}
use Rattle.htmd_lexical.specs.AttributePairs.{AttributePair}
use Rattle.htmd_nodes.specs.NumberedTrees.{NumberedTree, document, doctype, text, comment, element, NumberedForest}
use Rattle.htmd_nodes.specs.NumberedTrees.{none, more}
use Rattle.htmd_shown.specs.Attributes.{text_of}
use Rattle.htmd_shown.specs.Embeds.{Embedding, embedding_of, embedding_names}
use Rattle.htmd_shown.specs.Formulas.{tex_of}
use Rattle.htmd_shown.specs.Images.{is_image, picture_source}
use Rattle.htmd_shown.specs.Kinds.{are_blank}
use Rattle.htmd_shown.specs.LineNumbers.{is_number_in_code, is_number_cell}
use Rattle.htmd_shown.specs.Permalinks.{is_permalink}
use Rattle.htmd_shown.specs.Repeats.{is_repeat, last_element, leads_to_script}
use Rattle.htmd_shown.specs.Roles.{is_among, hidden_names, is_void, role_of}
use Rattle.htmd_shown.specs.Shown.{Sight, Surroundings, nowhere, inside, is_skipped, is_emptied, raised_by, raised}
use Rattle.htmd_shown.specs.Shown.{marked, shown_all}
use Rattle.htmd_shown.specs.SimpleTrees.{Simples}
use Rattle.htmd_shown.specs.SimpleTrees as simple
use Rattle.htmd_law_documents.specs.SimpleTexts.{formula_said}

-- ---- elements

-- the marks of a quotation
abbrev pub in_marks : Bool → List ℕ → List ℕ
in_marks is_quoted s = if is_quoted then (quotation_mark ∷ s) ++ quotation_mark ∷ [] else s

abbrev pub text_of_embedding : Option Embedding → List ℕ
text_of_embedding None = []
text_of_embedding (Some found) = found.title

-- an object says what is in it, but what it embeds where nothing shows of that
abbrev pub text_of_object : Bool → List ℕ → Option Embedding → List ℕ
text_of_object is_blank inner None = inner
text_of_object is_blank inner (Some found) = if is_blank then found.title else inner

-- an element that is no formula; inner: what its content says; is_blank: nothing shows of that
abbrev pub text_by_name : List ℕ → List AttributePair → NumberedForest → Bool → List ℕ → List ℕ
text_by_name name attributes children is_blank inner =
    if is_among hidden_names name then []
    else (if is_image name attributes then text_of (codes "alt") attributes
    else (if is_among embedding_names name then text_of_embedding (embedding_of name attributes children)
    else (if bytes_eq name (codes "object")
    then text_of_object is_blank inner (embedding_of name attributes children)
    else inner)))

-- a formula says its TeX between dollar signs
abbrev pub formula_or_text : List ℕ → Option (List ℕ) → List ℕ
formula_or_text other None = other
formula_or_text other (Some tex) = formula_said false tex

-- what shows of the content of an element
abbrev pub content_shown : Sight → Surroundings → ℕ → List ℕ → List AttributePair → NumberedForest
    → Simples
content_shown sight around id name attributes children =
    if is_emptied around name attributes then simple.none
    else marked (bytes_eq name (codes "q")) (raised (raised_by name) id
    (shown_all sight (inside name children around) (picture_source name children) None children))

abbrev mutual
  -- a node says
  pub text_of_node : Sight → Surroundings → NumberedTree → List ℕ
  text_of_node sight around (document id children) = []
  text_of_node sight around (doctype id) = []
  text_of_node sight around (text id s) = s
  text_of_node sight around (comment id s) = []
  text_of_node sight around (element id name attributes children) =
      if is_skipped sight name then []
      else formula_or_text
      (text_by_name name attributes children (are_blank (content_shown sight around id name attributes children))
      (if is_void (role_of name) then []
      else in_marks (bytes_eq name (codes "q")) (text_of_nodes sight (inside name children around) children)))
      (tex_of name attributes children)

  pub text_of_nodes : Sight → Surroundings → NumberedForest → List ℕ
  text_of_nodes sight around none = []
  text_of_nodes sight around (more tree trees) = text_of_node sight around tree ++ text_of_nodes sight around trees

abbrev pub text_of_page : Sight → NumberedTree → List ℕ
text_of_page sight (document id children) = text_of_nodes sight nowhere children
text_of_page sight _ = []

-- ---- what is taken away of a page

-- a line number in code, or the content of a cell of line numbers
abbrev pub is_number : Surroundings → List ℕ → List AttributePair → Bool
is_number around name attributes =
    (around.in_pre && is_number_in_code name attributes) || (around.in_numbered_row && is_number_cell name attributes)

-- a link of one sign to the place that it stands in
abbrev pub is_sign_link : Surroundings → List ℕ → List AttributePair → Simples → Bool
is_sign_link around name attributes content =
    bytes_eq name (codes "a") && is_permalink around.in_head attributes content

abbrev mutual
  -- nothing of a node is a line number, a permalink, or a second copy of a formula
  pub is_whole : Sight → Surroundings → NumberedTree → Bool
  is_whole sight around (document id children) = true
  is_whole sight around (doctype id) = true
  is_whole sight around (text id s) = true
  is_whole sight around (comment id s) = true
  is_whole sight around (element id name attributes children) =
      not (is_number around name attributes)
      && not (is_sign_link around name attributes (content_shown sight around id name attributes children))
      && are_whole sight (inside name children around) None children

  -- before: the last element's attributes
  pub are_whole : Sight → Surroundings → Option (List AttributePair) → NumberedForest → Bool
  are_whole sight around before none = true
  are_whole sight around before (more tree trees) =
      not (is_repeat before tree (leads_to_script sight.skip trees)) && is_whole sight around tree
      && are_whole sight around (last_element before tree) trees

abbrev pub is_whole_page : Sight → NumberedTree → Bool
is_whole_page sight (document id children) = are_whole sight nowhere None children
is_whole_page sight _ = true

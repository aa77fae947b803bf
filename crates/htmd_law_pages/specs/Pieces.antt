-- The texts of a page and of its document, one by one: those that stand in both, and those that stand in one of them.
use Rattle.std.specs.Prelude.{ℕ, if◌then◌else◌, Bool, false, List, [], ◌∷◌, ◌++◌, map, codes, Option, Some, None}
use Rattle.std.specs.Str.{bytes_eq}
use Rattle.htmd_lexical.specs.Characters.{quotation_mark}
use Rattle.htmd_lexical.specs.AttributePairs.{AttributePair}
use Rattle.htmd_nodes.specs.NumberedTrees.{NumberedTree, document, doctype, text, comment, element, NumberedForest}
use Rattle.htmd_nodes.specs.NumberedTrees.{none, more}
use Rattle.htmd_shown.specs.Attributes.{text_of}
use Rattle.htmd_shown.specs.Embeds.{Embedding, embedding_of, embedding_names}
use Rattle.htmd_shown.specs.Formulas.{tex_of}
use Rattle.htmd_shown.specs.Images.{is_image}
use Rattle.htmd_shown.specs.Kinds.{are_blank}
use Rattle.htmd_shown.specs.Repeats.{is_repeat, last_element, leads_to_script}
use Rattle.htmd_shown.specs.Roles.{is_among}
use Rattle.htmd_shown.specs.Shown.{Sight, Surroundings, nowhere, inside, is_skipped, is_hidden, is_emptied}
use Rattle.htmd_shown.specs.SimpleTrees.{Simples}
use Rattle.htmd_law_documents.specs.PageTexts.{content_shown, is_sign_link}
use Rattle.htmd_law_documents.specs.SimpleTexts.{formula_said}

pub data Piece : Type 0 where
  -- a text of the page that shows
  shown : (s : List ℕ) → Piece
  -- a text of the page that doesn't
  hidden : (s : List ℕ) → Piece
  -- no text of the page: the description of an image, a mark of a quotation, the TeX of a formula, and the title of
  -- what is embedded
  said : (s : List ℕ) → Piece

-- ---- the pieces of a tree

abbrev mutual
  -- all texts in a tree, in document order
  pub texts_in : NumberedTree → List (List ℕ)
  texts_in (document id children) = texts_among children
  texts_in (doctype id) = []
  texts_in (text id s) = s ∷ []
  texts_in (comment id s) = []
  texts_in (element id name attributes children) = texts_among children

  pub texts_among : NumberedForest → List (List ℕ)
  texts_among none = []
  texts_among (more tree trees) = texts_in tree ++ texts_among trees

abbrev pub all_hidden : List (List ℕ) → List Piece
all_hidden texts = map hidden texts

abbrev pub in_quotation_marks : Bool → List Piece → List Piece
in_quotation_marks is_quoted inner =
    if is_quoted then (said (quotation_mark ∷ []) ∷ inner) ++ said (quotation_mark ∷ []) ∷ [] else inner

-- said in place of the texts in an element
abbrev pub instead : List ℕ → List (List ℕ) → List Piece
instead s texts = said s ∷ all_hidden texts

-- what is embedded says its title
abbrev pub pieces_of_embedding : List (List ℕ) → Option Embedding → List Piece
pieces_of_embedding texts None = all_hidden texts
pieces_of_embedding texts (Some found) = instead found.title texts

-- an object says what is in it, but what it embeds where nothing shows of that
abbrev pub pieces_of_object : Bool → List (List ℕ) → List Piece → Option Embedding → List Piece
pieces_of_object is_blank texts inner None = inner
pieces_of_object is_blank texts inner (Some found) = if is_blank then instead found.title texts else inner

-- An element that is no formula, by its name. Of what a browser hides, of line numbers in code and of a permalink
-- nothing shows. content: what shows of its content; inner: the pieces of that.
abbrev pub pieces_by_name : Surroundings → List ℕ → List AttributePair → NumberedForest → Simples
    → List Piece
    → List Piece
pieces_by_name around name attributes children content inner =
    if is_hidden around name attributes then all_hidden (texts_among children)
    else (if is_image name attributes then instead (text_of (codes "alt") attributes) (texts_among children)
    else (if is_among embedding_names name
    then pieces_of_embedding (texts_among children) (embedding_of name attributes children)
    else (if bytes_eq name (codes "object")
    then pieces_of_object (are_blank content) (texts_among children) inner (embedding_of name attributes children)
    else (if is_sign_link around name attributes content then all_hidden (texts_among children) else inner))))

-- a formula says its TeX between dollar signs
abbrev pub pieces_of_formula : List (List ℕ) → List Piece → Option (List ℕ) → List Piece
pieces_of_formula texts other None = other
pieces_of_formula texts other (Some tex) = instead (formula_said false tex) texts

abbrev mutual
  -- those of a node, in document order; what is in a `br`, an `hr` or a cell of line numbers doesn't show
  pub pieces : Sight → Surroundings → NumberedTree → List Piece
  pieces sight around (document id children) = all_hidden (texts_among children)
  pieces sight around (doctype id) = []
  pieces sight around (text id s) = shown s ∷ []
  pieces sight around (comment id s) = []
  pieces sight around (element id name attributes children) =
      if is_skipped sight name then all_hidden (texts_among children)
      else pieces_of_formula (texts_among children)
      (pieces_by_name around name attributes children (content_shown sight around id name attributes children)
      (if is_emptied around name attributes then all_hidden (texts_among children)
      else in_quotation_marks (bytes_eq name (codes "q"))
      (pieces_among sight (inside name children around) None children)))
      (tex_of name attributes children)

  -- those of nodes beside each other; a second copy of a formula doesn't show; before: the last element's attributes
  pub pieces_among : Sight → Surroundings → Option (List AttributePair) → NumberedForest → List Piece
  pieces_among sight around before none = []
  pieces_among sight around before (more tree trees) =
      (if is_repeat before tree (leads_to_script sight.skip trees) then all_hidden (texts_in tree)
      else pieces sight around tree) ++ pieces_among sight around (last_element before tree) trees

-- those of a page
abbrev pub pieces_in : Sight → NumberedTree → List Piece
pieces_in sight (document id children) = pieces_among sight nowhere None children
pieces_in sight tree = all_hidden (texts_in tree)

-- ---- where they stand

-- the texts that stand in the page
abbrev pub texts_of_page : List Piece → List (List ℕ)
texts_of_page [] = []
texts_of_page (shown s ∷ ps) = s ∷ texts_of_page ps
texts_of_page (hidden s ∷ ps) = s ∷ texts_of_page ps
texts_of_page (said s ∷ ps) = texts_of_page ps

-- those that stand in the document
abbrev pub texts_of_document : List Piece → List (List ℕ)
texts_of_document [] = []
texts_of_document (shown s ∷ ps) = s ∷ texts_of_document ps
texts_of_document (hidden s ∷ ps) = texts_of_document ps
texts_of_document (said s ∷ ps) = s ∷ texts_of_document ps

-- those that stand in the page alone
abbrev pub hidden_texts : List Piece → List (List ℕ)
hidden_texts [] = []
hidden_texts (shown s ∷ ps) = hidden_texts ps
hidden_texts (hidden s ∷ ps) = s ∷ hidden_texts ps
hidden_texts (said s ∷ ps) = hidden_texts ps

-- those that stand in the document alone
abbrev pub said_texts : List Piece → List (List ℕ)
said_texts [] = []
said_texts (shown s ∷ ps) = said_texts ps
said_texts (hidden s ∷ ps) = said_texts ps
said_texts (said s ∷ ps) = s ∷ said_texts ps

-- What the source knows of terms and what they mean in rich documents.
use Rattle.std.specs.Prelude.{◌≡◌, Bool, false, List, [], ◌∷◌, ◌++◌, map, fold, Option, Some, None}
use Rattle.htmd_document.specs.Documents.{Block, element}
use Rattle.htmd_document.specs.TightItems.{is_filled}
use Rattle.htmd_flow.specs.declared.descriptions.Description as source
use Rattle.htmd_flow.specs.declared.descriptions.Descriptions as sources
use Rattle.htmd_flow.specs.Flows.{Description, Descriptions, TermPart, before_more}
use Rattle.htmd_flow.specs.Flows.{with_description}
use Rattle.htmd_flow.specs.Contexts.{Context}
use Rattle.htmd_flow.specs.Paragraphs.{Writing, fed_all}
use Rattle.htmd_flow.specs.ParagraphViews.{writing_in}

abbrev pub description_of : source.Description → Description
description_of d = record { is_term = d.is_term; content = writing_in d.content }

abbrev pub begun_in : sources.Descriptions → List Description
begun_in ds = map description_of ds.begun.items

-- the last one is taken out, or one that was put behind it
abbrev pub AreTaken : Bool → List Description → List Description → Option source.Description → Type 0
AreTaken shows old new None = (old ≡ []) × (new ≡ [])
AreTaken shows old new (Some last) =
    before_more shows old ≡ new ++ description_of last ∷ []

abbrev pub is_filled_element : Block → Bool
is_filled_element (element name attributes content) = is_filled content
is_filled_element _ = false

-- those are begun, and what comes before them was written after this
pub record AreSo (before : Writing) (d : Descriptions) (after : Writing) (found : sources.Descriptions) : Type 0 where
  pub out : after ≡ fed_all before d.before
  pub begun : begun_in found ≡ d.begun

-- parts of a list of terms were added
abbrev pub AreDescribed : Context → List TermPart → Writing → sources.Descriptions → Writing
    → sources.Descriptions
    → Type 0
AreDescribed context parts before old after new =
    (w : Writing) (d : Descriptions) → AreSo w d before old
    → AreSo w (fold (with_description context) d parts) after new

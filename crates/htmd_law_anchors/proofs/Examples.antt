-- Worked rows of the laws.
use Rattle.std.proofs.Common.{◌≡◌, ℕ, true, false, List, [], ◌∷◌, None, refl}
use Rattle.htmd_document.specs.Documents.{formatted, link, no_inlines, inline, Inlines, paragraph, heading, list, table}
use Rattle.htmd_document.specs.Documents.{no_blocks, block, no_items, item}
use Rattle.htmd_document.specs.Formats.{Strong}
use Rattle.htmd_document_of_tree.specs.Targets.{Target}
use Rattle.htmd_law_anchors.specs.DocumentLinks.{LinksInBlocks}
use Rattle.htmd_law_anchors.specs.DocumentMarks.{letter, place}
use Rattle.htmd_law_anchors.specs.AnchorLaws.{with_places, characters_of, said_before}

abbrev x : Target
x = record { value = 120 ∷ []; is_name = false; seen = 1 }

abbrev y : Target
y = record { value = 121 ∷ []; is_name = false; seen = 2 }

-- the anchor x stands before the second thing to see, and y, which nothing follows, at the end
pub places-between : with_places 0 (x ∷ y ∷ []) ((97 ∷ []) ∷ (98 ∷ 99 ∷ []) ∷ [])
    ≡ letter 97 ∷ place (120 ∷ []) ∷ letter 98 ∷ letter 99 ∷ place (121 ∷ []) ∷ []
places-between = refl

-- before x stands what the first thing says
pub before-x : characters_of (letter 97 ∷ []) ≡ said_before 1 ((97 ∷ []) ∷ (98 ∷ 99 ∷ []) ∷ [])
before-x = refl

-- links in a format of a heading, in an item and in a cell
abbrev to_x : Inlines
to_x = inline (link (35 ∷ 120 ∷ []) None no_inlines) no_inlines

pub each-link : LinksInBlocks (λ (s : List ℕ). s ≡ 35 ∷ 120 ∷ [])
    (block (heading 1 (inline (formatted Strong to_x) no_inlines))
    (block (list None true (item (block (paragraph to_x) no_blocks) no_items))
    (block (table [] [] ((to_x ∷ []) ∷ [])) no_blocks)))
each-link = (
  (((refl, tt), tt), tt),
  (((((refl, tt), tt), tt), tt), ((tt, ((((refl, tt), tt), tt), tt)), tt)),
)

-- Laws of the part of a page that is converted.
use Rattle.std.specs.Prelude.{◌≡◌, ◌≢◌, ◌↔◌, ℕ, ◌+◌, Bool, true, false, List, [], ◌++◌, length, Some, None, codes}
use Rattle.htmd_lexical.specs.AttributePairs.{AttributePair}
use Rattle.htmd_grammar.specs.Tags.{IsTagForm}
use Rattle.htmd_grammar.specs.Faults.{HasEndTag}
use Rattle.htmd_tree.specs.Bodies.{behind_start_tag, begins_end_tag, holds_end_tag, body_part, body_place}

-- what is taken for a start tag named `body` has the grammar's form of one
abbrev pub StartTagsAreForms : Type 0
StartTagsAreForms =
    (s rest : List ℕ) → behind_start_tag s ≡ Some rest
    → (tag : List ℕ) × (spelled : List AttributePair) × (present : Bool) × (s ≡ tag ++ rest)
    × IsTagForm tag (codes "body") spelled present

-- what has that form is taken for one, whatever follows it
abbrev pub FormsAreStartTags : Type 0
FormsAreStartTags =
    (tag rest : List ℕ) (spelled : List AttributePair) (present : Bool)
    → IsTagForm tag (codes "body") spelled present
    → behind_start_tag (tag ++ rest) ≡ Some rest

-- an end tag named `body` is the grammar's
abbrev pub EndTagsAreForms : Type 0
EndTagsAreForms = (s : List ℕ) → (begins_end_tag s ≡ true) ↔ HasEndTag s (codes "body")

-- no start tag of a body begins in the first text, which the second one follows
abbrev pub LacksStartTag : List ℕ → List ℕ → Type 0
LacksStartTag before rest =
    (front back : List ℕ) → before ≡ front ++ back → back ≢ [] → behind_start_tag (back ++ rest) ≡ None

-- this part of the page is converted, and it begins there
pub record IsPart (page part : List ℕ) (place : ℕ) : Type 0 where
  pub part_is : body_part page ≡ part
  pub place_is : body_place page ≡ place

-- Any text between the tags of a body is the part, if no start tag of a body begins before it, nor an end tag after it.
abbrev pub BodyStandsBetween : Type 0
BodyStandsBetween =
    (before text behind : List ℕ) → LacksStartTag before (codes "<body>" ++ (text ++ (codes "</body>" ++ behind)))
    → holds_end_tag behind ≡ false
    → IsPart (before ++ (codes "<body>" ++ (text ++ (codes "</body>" ++ behind)))) text (length before + 6)

-- Any text without an end tag of a body is the part after such a start tag.
abbrev pub BodyRunsToTheEnd : Type 0
BodyRunsToTheEnd =
    (before text : List ℕ) → LacksStartTag before (codes "<body>" ++ text) → holds_end_tag text ≡ false
    → IsPart (before ++ (codes "<body>" ++ text)) text (length before + 6)

-- A text in which no start tag of a body begins is the part itself.
abbrev pub NoBodyIsAll : Type 0
NoBodyIsAll = (html : List ℕ) → LacksStartTag html [] → IsPart html html 0

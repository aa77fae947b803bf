-- Whether there is something to see in nodes: then, and only then, they give blocks.
use Rattle.std.specs.Prelude.{ℕ, Bool, true, false, not, ◌||◌, if◌then◌else◌, List, Option, is_some}
use Rattle.std.specs.List.{list_any}
use Rattle.htmd_lexical.specs.AttributePairs.{AttributePair}
use Rattle.htmd_shown.specs.AllTexts.{image_text}
use Rattle.htmd_shown.specs.Attributes.{is_filled}
use Rattle.htmd_shown.specs.declared.role.Role.{Role}
use Rattle.htmd_shown.specs.Marks.{is_usual_sign, letters_among}
use Rattle.htmd_shown.specs.Roles.{is_heading, is_thematic_break, is_verbatim}
use Rattle.htmd_shown.specs.SimpleTrees.{Simple, text, image, formula, embedded, anchor, element, Simples, none, more}
use Rattle.htmd_shown.specs.Spaces.{is_blank_text}

-- an image with an address, or that says something
abbrev pub image_shows : Option (List ℕ) → List AttributePair → Bool
image_shows address attributes = is_some address || not (is_blank_text (image_text attributes))

-- something of all text in a code block is no white space
abbrev pub code_shows : Simples → Bool
code_shows content = is_filled (letters_among content)

abbrev mutual
  -- a node, in a heading or not: there a thematic break is none
  pub shows : Bool → Simple → Bool
  shows in_heading (text s) = not (is_blank_text s)
  shows in_heading (image address attributes) = image_shows address attributes
  shows in_heading (formula tex is_alone attributes) = true
  shows in_heading (embedded id address title attributes anchors) = true
  shows in_heading (anchor id) = false
  shows in_heading (element id role facts attributes content) =
      if is_verbatim role then code_shows content
      else (if is_thematic_break role then not in_heading
      else show (in_heading || is_heading role) content)

  pub show : Bool → Simples → Bool
  show in_heading none = false
  show in_heading (more tree trees) = shows in_heading tree || show in_heading trees

-- the same of an element
abbrev pub element_shows : Bool → Role → Simples → Bool
element_shows in_heading role content =
    if is_verbatim role then code_shows content
    else (if is_thematic_break role then not in_heading else show (in_heading || is_heading role) content)

-- a usual sign is among what shows
abbrev pub show_usual_sign : Simples → Bool
show_usual_sign content = list_any is_usual_sign (letters_among content)

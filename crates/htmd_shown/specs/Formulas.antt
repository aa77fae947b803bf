-- Formulas: the TeX of a `math` or of a script of MathJax, and where it stands alone.
use Rattle.std.specs.Prelude.{ℕ, Bool, not, ◌==◌, ◌&&◌, if◌then◌else◌, List, [], ◌++◌, codes}
use Rattle.std.specs.Prelude.{filter, Option, Some, None}
use Rattle.std.specs.Option.{option_or}
use Rattle.std.specs.List.{list_any, slice_split, before_first, after_first}
use Rattle.std.specs.Str.{bytes_eq}
use Rattle.htmd_lexical.specs.Characters.{semicolon}
use Rattle.htmd_lexical.specs.WhiteSpace.{is_ascii_white_space}
use Rattle.htmd_lexical.specs.AttributePairs.{AttributePair}
use Rattle.htmd_nodes.specs.NumberedTrees.{NumberedTree, text, element, NumberedForest}
use Rattle.htmd_nodes.specs.NumberedTrees.{none, more}
use Rattle.htmd_shown.specs.Spaces.{is_blank_text}
use Rattle.htmd_shown.specs.Attributes.{text_of, is_any_case, lower, trimmed}
use Rattle.htmd_shown.specs.ShownTexts.{shown_text}

abbrev mutual
  -- a text, or all texts in an element
  pub raw_text : NumberedTree → List ℕ
  raw_text (text id s) = s
  raw_text (element id name attributes children) = raw_text_among children
  raw_text _ = []

  pub raw_text_among : NumberedForest → List ℕ
  raw_text_among none = []
  raw_text_among (more tree trees) = raw_text tree ++ raw_text_among trees

-- a text, if something of it shows
abbrev pub if_seen : List ℕ → Option (List ℕ)
if_seen s = if is_blank_text s then None else Some s

abbrev pub text_if_shown : List ℕ → Option (List ℕ)
text_if_shown s = if_seen (shown_text s)

-- ---- in a `math`

abbrev pub is_tex : List AttributePair → Bool
is_tex attributes = is_any_case (codes "application/x-tex") (trimmed (text_of (codes "encoding") attributes))

-- the text of an annotation in TeX, if something of it shows
abbrev pub annotated : NumberedTree → Option (List ℕ)
annotated (element id name attributes children) =
    if bytes_eq name (codes "annotation") && is_tex attributes then text_if_shown (raw_text_among children) else None
annotated _ = None

-- the first such text among nodes
abbrev pub annotated_among : NumberedForest → Option (List ℕ)
annotated_among none = None
annotated_among (more tree trees) = option_or (annotated tree) (annotated_among trees)

-- among the children of `semantics`
abbrev pub annotated_in : NumberedTree → Option (List ℕ)
annotated_in (element id name attributes children) =
    if bytes_eq name (codes "semantics") then annotated_among children else None
annotated_in _ = None

abbrev pub annotation_at : NumberedTree → Option (List ℕ)
annotation_at tree = option_or (annotated tree) (annotated_in tree)

-- among the children of a `math`, and of `semantics` among these
abbrev pub annotation : NumberedForest → Option (List ℕ)
annotation none = None
annotation (more tree trees) = option_or (annotation_at tree) (annotation trees)

-- an annotation's text, else `alttext`
abbrev pub tex_of_math : List AttributePair → NumberedForest → Option (List ℕ)
tex_of_math attributes children =
    option_or (annotation children) (text_if_shown (text_of (codes "alttext") attributes))

-- ---- in a script

-- in lower case, without white space
abbrev pub squeezed : List ℕ → List ℕ
squeezed s = lower (filter (λ b. not (is_ascii_white_space b)) s)

abbrev pub is_semicolon : ℕ → Bool
is_semicolon b = b == semicolon

-- the type of a script says that it has TeX
abbrev pub is_tex_type : List AttributePair → Bool
is_tex_type attributes =
    bytes_eq (squeezed (before_first is_semicolon (text_of (codes "type") attributes))) (codes "math/tex")

abbrev pub tex_of_script : List AttributePair → NumberedForest → Option (List ℕ)
tex_of_script attributes children =
    if is_tex_type attributes then text_if_shown (raw_text_among children) else None

abbrev pub says_display : List ℕ → Bool
says_display part = bytes_eq (squeezed part) (codes "mode=display")

-- a part of a type after the first is `mode=display`
abbrev pub is_displayed_type : List ℕ → Bool
is_displayed_type s = list_any says_display (slice_split is_semicolon (after_first is_semicolon s))

-- ---- of an element

-- the TeX of an element that is a formula
abbrev pub tex_of : List ℕ → List AttributePair → NumberedForest → Option (List ℕ)
tex_of name attributes children =
    if bytes_eq name (codes "math") then tex_of_math attributes children
    else (if bytes_eq name (codes "script") then tex_of_script attributes children else None)

-- it stands alone, and not in a line
abbrev pub is_display : List ℕ → List AttributePair → Bool
is_display name attributes =
    if bytes_eq name (codes "script") then is_displayed_type (text_of (codes "type") attributes)
    else is_any_case (codes "block") (trimmed (text_of (codes "display") attributes))

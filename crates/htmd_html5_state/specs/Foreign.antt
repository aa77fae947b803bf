-- Elements of foreign content (HTML Standard, 13.2.6.1 and 13.2.6.5).
use Rattle.std.specs.Prelude.{ℕ, Bool, true, false, ◌||◌, ◌&&◌, if◌then◌else◌, List, [], ◌∷◌, codes, map, find}
use Rattle.std.specs.Prelude.{Option, Some, None, unwrap_or}
use Rattle.std.specs.Char.{to_ascii_lowercase}
use Rattle.std.specs.Str.{bytes_eq}
use Rattle.htmd_lexical.specs.AttributePairs.{AttributePair}
use Rattle.htmd_html5_state.specs.Names.{ElementNameValue, html, svg, math}
use Rattle.htmd_html5_state.specs.Sets.{is_math_text, is_svg_point}
use Rattle.htmd_html5_state.specs.Nodes.{NodeValue, attributes_at, value_of}
use Rattle.htmd_html5_state.specs.OpenElements.{OpenValue, pop}
use Rattle.htmd_html5_state.specs.State.{StateValue, on_stack}
use Rattle.htmd_html5_state.specs.Insertion.{current, insert_named}
use Rattle.htmd_html5_state.specs.declared.names.Namespace.{Namespace}
use Rattle.htmd_html5_state.specs.declared.names.Namespace.TheVariants.{Svg, MathMl}

-- ---- names that are written with capitals

abbrev pub svg_names : List (List ℕ)
svg_names =
    codes "altGlyph"
    ∷ codes "altGlyphDef"
    ∷ codes "altGlyphItem"
    ∷ codes "animateColor"
    ∷ codes "animateMotion"
    ∷ codes "animateTransform"
    ∷ codes "clipPath"
    ∷ codes "feBlend"
    ∷ codes "feColorMatrix"
    ∷ codes "feComponentTransfer"
    ∷ codes "feComposite"
    ∷ codes "feConvolveMatrix"
    ∷ codes "feDiffuseLighting"
    ∷ codes "feDisplacementMap"
    ∷ codes "feDistantLight"
    ∷ codes "feDropShadow"
    ∷ codes "feFlood"
    ∷ codes "feFuncA"
    ∷ codes "feFuncB"
    ∷ codes "feFuncG"
    ∷ codes "feFuncR"
    ∷ codes "feGaussianBlur"
    ∷ codes "feImage"
    ∷ codes "feMerge"
    ∷ codes "feMergeNode"
    ∷ codes "feMorphology"
    ∷ codes "feOffset"
    ∷ codes "fePointLight"
    ∷ codes "feSpecularLighting"
    ∷ codes "feSpotLight"
    ∷ codes "feTile"
    ∷ codes "feTurbulence"
    ∷ codes "foreignObject"
    ∷ codes "glyphRef"
    ∷ codes "linearGradient"
    ∷ codes "radialGradient"
    ∷ codes "textPath"
    ∷ []

abbrev pub svg_attribute_names : List (List ℕ)
svg_attribute_names =
    codes "attributeName"
    ∷ codes "attributeType"
    ∷ codes "baseFrequency"
    ∷ codes "baseProfile"
    ∷ codes "calcMode"
    ∷ codes "clipPathUnits"
    ∷ codes "diffuseConstant"
    ∷ codes "edgeMode"
    ∷ codes "filterUnits"
    ∷ codes "glyphRef"
    ∷ codes "gradientTransform"
    ∷ codes "gradientUnits"
    ∷ codes "kernelMatrix"
    ∷ codes "kernelUnitLength"
    ∷ codes "keyPoints"
    ∷ codes "keySplines"
    ∷ codes "keyTimes"
    ∷ codes "lengthAdjust"
    ∷ codes "limitingConeAngle"
    ∷ codes "markerHeight"
    ∷ codes "markerUnits"
    ∷ codes "markerWidth"
    ∷ codes "maskContentUnits"
    ∷ codes "maskUnits"
    ∷ codes "numOctaves"
    ∷ codes "pathLength"
    ∷ codes "patternContentUnits"
    ∷ codes "patternTransform"
    ∷ codes "patternUnits"
    ∷ codes "pointsAtX"
    ∷ codes "pointsAtY"
    ∷ codes "pointsAtZ"
    ∷ codes "preserveAlpha"
    ∷ codes "preserveAspectRatio"
    ∷ codes "primitiveUnits"
    ∷ codes "refX"
    ∷ codes "refY"
    ∷ codes "repeatCount"
    ∷ codes "repeatDur"
    ∷ codes "requiredExtensions"
    ∷ codes "requiredFeatures"
    ∷ codes "specularConstant"
    ∷ codes "specularExponent"
    ∷ codes "spreadMethod"
    ∷ codes "startOffset"
    ∷ codes "stdDeviation"
    ∷ codes "stitchTiles"
    ∷ codes "surfaceScale"
    ∷ codes "systemLanguage"
    ∷ codes "tableValues"
    ∷ codes "targetX"
    ∷ codes "targetY"
    ∷ codes "textLength"
    ∷ codes "viewBox"
    ∷ codes "viewTarget"
    ∷ codes "xChannelSelector"
    ∷ codes "yChannelSelector"
    ∷ codes "zoomAndPan"
    ∷ []

abbrev pub math_attribute_names : List (List ℕ)
math_attribute_names = codes "definitionURL" ∷ []

-- the same letters, in any case
abbrev pub is_in_any_case : List ℕ → List ℕ → Bool
is_in_any_case s t = bytes_eq (map to_ascii_lowercase s) (map to_ascii_lowercase t)

-- as it is written in the list
abbrev pub capitalised : List (List ℕ) → List ℕ → List ℕ
capitalised names name = unwrap_or (find (λ known. is_in_any_case known name) names) name

abbrev pub with_capitals : List (List ℕ) → AttributePair → AttributePair
with_capitals names a = record { name = capitalised names a.name; value = a.value }

-- ---- an element is inserted

abbrev pub foreign_name : Namespace → List ℕ → ElementNameValue
foreign_name Svg name = svg (capitalised svg_names name)
foreign_name MathMl name = math name

abbrev pub attribute_names : Namespace → List (List ℕ)
attribute_names Svg = svg_attribute_names
attribute_names MathMl = math_attribute_names

abbrev pub foreign_attributes : Namespace → List AttributePair → List AttributePair
foreign_attributes space attributes = map (with_capitals (attribute_names space)) attributes

abbrev pub pop_if : Bool → List OpenValue → List OpenValue
pop_if true stack = pop stack
pop_if false stack = stack

-- a foreign element, which is closed at once if its tag ends in `/>`
abbrev pub insert_foreign : Namespace → List ℕ → List AttributePair → Bool → StateValue → StateValue
insert_foreign space name attributes self_closing s =
    on_stack (pop_if self_closing)
    (insert_named (foreign_name space name) (foreign_attributes space attributes) s)

-- ---- what the current node is

abbrev pub is_html_name : ElementNameValue → Bool
is_html_name (html name) = true
is_html_name (svg name) = false
is_html_name (math name) = false

abbrev pub is_html : OpenValue → Bool
is_html e = is_html_name e.name

abbrev pub current_is_html : List OpenValue → Bool
current_is_html stack = is_html (current stack)

-- the namespace of an element that isn't HTML's
abbrev pub namespace_of : ElementNameValue → Option Namespace
namespace_of (html name) = None
namespace_of (svg name) = Some Svg
namespace_of (math name) = Some MathMl

abbrev pub is_math_text_name : ElementNameValue → Bool
is_math_text_name (math name) = is_math_text name
is_math_text_name _ = false

-- MathML text integration points
abbrev pub is_math_text_point : OpenValue → Bool
is_math_text_point e = is_math_text_name e.name

abbrev pub is_annotation_name : ElementNameValue → Bool
is_annotation_name (math name) = bytes_eq name (codes "annotation-xml")
is_annotation_name _ = false

-- `annotation-xml`
abbrev pub is_annotation : OpenValue → Bool
is_annotation e = is_annotation_name e.name

abbrev pub is_html_encoding : List ℕ → Bool
is_html_encoding value =
    is_in_any_case (codes "text/html") value || is_in_any_case (codes "application/xhtml+xml") value

abbrev pub has_html_value : Option (List ℕ) → Bool
has_html_value None = false
has_html_value (Some value) = is_html_encoding value

abbrev pub has_html_encoding : List AttributePair → Bool
has_html_encoding attributes = has_html_value (value_of (codes "encoding") attributes)

abbrev pub is_point_name : List NodeValue → ℕ → ElementNameValue → Bool
is_point_name nodes n (html name) = false
is_point_name nodes n (svg name) = is_svg_point name
is_point_name nodes n (math name) =
    bytes_eq name (codes "annotation-xml") && has_html_encoding (attributes_at nodes n)

-- HTML integration points
abbrev pub is_html_point : List NodeValue → OpenValue → Bool
is_html_point nodes e = is_point_name nodes e.node e.name

-- ---- foreign elements are closed (13.2.6.5)

abbrev pub ends_foreign : List NodeValue → OpenValue → Bool
ends_foreign nodes e = is_html e || is_math_text_point e || is_html_point nodes e

-- until the current node is an HTML element or an integration point
abbrev pub leave_foreign : List NodeValue → List OpenValue → List OpenValue
leave_foreign nodes [] = []
leave_foreign nodes (e ∷ es) = if ends_foreign nodes e then e ∷ es else leave_foreign nodes es

abbrev pub is_spelled_so : List ℕ → ElementNameValue → Bool
is_spelled_so s (html name) = false
is_spelled_so s (svg name) = is_in_any_case name s
is_spelled_so s (math name) = is_in_any_case name s

-- what an end tag does: the mode's rules apply, an element is closed with all inside it, or nothing
pub data ForeignEnd : Type 0 where
  by_mode : ForeignEnd
  closed_to : List OpenValue → ForeignEnd
  nothing : ForeignEnd

abbrev pub foreign_end : List ℕ → List OpenValue → ForeignEnd
foreign_end s [] = nothing
foreign_end s (e ∷ []) = nothing
foreign_end s (e ∷ f ∷ es) =
    if is_html e then by_mode
    else if is_spelled_so s e.name then closed_to (f ∷ es)
    else foreign_end s (f ∷ es)

abbrev pub goes_by_mode : ForeignEnd → Bool
goes_by_mode by_mode = true
goes_by_mode _ = false

abbrev pub after_foreign_end : ForeignEnd → StateValue → StateValue
after_foreign_end (closed_to stack) s = record s { stack = stack }
after_foreign_end _ s = s

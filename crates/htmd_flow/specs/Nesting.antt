-- Leaves with what stands around them, as inlines in each other.
use Rattle.std.specs.Prelude.{ℕ, zero, suc, Bool, true, false, ◌==◌, if◌then◌else◌, List, [], ◌∷◌, ◌++◌}
use Rattle.htmd_document.specs.Documents.{Inline, text, code, link, Inlines, no_inlines, inline}
use Rattle.htmd_document.specs.Documents as value
use Rattle.htmd_document.specs.Formats.{Format, is_same_format}
use Rattle.htmd_flow.specs.Parts.{Around, formatted, linked}

-- which format stands around a leaf, or which link: the number of its node
pub data Wrapper : Type 0 where
  of_format : (format : Format) → Wrapper
  of_link : (node : ℕ) → Wrapper

abbrev pub wrapper_of : Around → Wrapper
wrapper_of (formatted format) = of_format format
wrapper_of (linked node address title) = of_link node

abbrev pub is_same : Wrapper → Wrapper → Bool
is_same (of_format f) (of_format g) = is_same_format f g
is_same (of_link m) (of_link n) = m == n
is_same (of_format f) (of_link n) = false
is_same (of_link m) (of_format g) = false

-- how many wrappers two leaves share, from the outermost in
abbrev pub shared : List Wrapper → List Wrapper → ℕ
shared [] ns = 0
shared (m ∷ ms) [] = 0
shared (m ∷ ms) (n ∷ ns) = if is_same m n then suc (shared ms ns) else 0

-- without the link that is open, and what is open in it
abbrev pub before_link : List Wrapper → List Wrapper
before_link [] = []
before_link (of_format f ∷ ms) = of_format f ∷ before_link ms
before_link (of_link node ∷ ms) = []

-- what stands around, around inlines
abbrev pub wrapped_by : Around → Inlines → Inline
wrapped_by (formatted format) content = value.formatted format content
wrapped_by (linked node address title) content = link address title content

abbrev pub one_inline : Inline → Inlines
one_inline x = inline x no_inlines

-- a leaf in all that stands around it
abbrev pub wrapped : List Around → Inline → Inline
wrapped [] x = x
wrapped (a ∷ around) x = wrapped_by a (one_inline (wrapped around x))

-- a text, or code
abbrev pub text_or_code : Bool → List ℕ → Inline
text_or_code is_code s = if is_code then code s else text s

-- neither a text nor code
abbrev pub is_apart : Inline → Bool
is_apart (text s) = false
is_apart (code s) = false
is_apart x = true

-- two texts that meet are one, and two codes
abbrev pub met : Inline → Inline → Inlines
met (text s) (text t) = one_inline (text (s ++ t))
met (code s) (code t) = one_inline (code (s ++ t))
met x y = inline x (one_inline y)

-- an inline after others
abbrev pub joined : Inlines → Inline → Inlines
joined no_inlines y = one_inline y
joined (inline x no_inlines) y = met x y
joined (inline x (inline x' xs)) y = inline x (joined (inline x' xs) y)

-- a change of what stands in a format or a link
abbrev pub with_content : (Inlines → Inlines) → Inline → Inline
with_content change (value.formatted format content) = value.formatted format (change content)
with_content change (link address title content) = link address title (change content)
with_content change x = x

-- a change of what stands in the last of the inlines
abbrev pub in_last : (Inlines → Inlines) → Inlines → Inlines
in_last change no_inlines = no_inlines
in_last change (inline x no_inlines) = inline (with_content change x) no_inlines
in_last change (inline x (inline x' xs)) = inline x (in_last change (inline x' xs))

-- A leaf after others, in the last format as deep as it shares its wrappers with the leaf before; what else stands
-- around
-- it begins anew.
abbrev pub behind : ℕ → Inlines → List Around → Inline → Inlines
behind zero xs around y = joined xs (wrapped around y)
behind (suc n) xs [] y = joined xs y
behind (suc n) xs (a ∷ around) y = in_last (λ content. behind n content around y) xs

-- Names that lead to no state that drops text: those of frames, templates and columns are left out.
use Rattle.std.proofs.Common.{◌≡◌, ℕ, Bool, true, false, List, [], ◌∷◌, refl, sym}
use Rattle.std.proofs.lemmas.Bool.{true≢false}
use Rattle.htmd_html5_state.specs.Names.{NameValue, ElementNameValue, known, other, html, svg, math}
use Rattle.htmd_html5_state.specs.Sets.{is_of}
use Rattle.htmd_html5_state.specs.Nodes.{KindValue}
use Rattle.htmd_html5_state.specs.OpenElements.{OpenValue, is_open}
use Rattle.htmd_html5_state.specs.Foreign.{foreign_name}
use Rattle.htmd_html5_state.specs.declared.names.TagName.{TagName}
use Rattle.htmd_html5_state.specs.declared.names.Namespace.{Namespace}
use Rattle.htmd_html5_state.specs.declared.names.Namespace.TheVariants.{Svg, MathMl}
use Rattle.htmd_html5_state.specs.declared.sets.NameSet.TheVariants.{Only}
use Rattle.htmd_law_html5.proofs.NamedKinds.{is_named}
use Rattle.htmd_law_html5.proofs.OpenNodes.{EachOpen}
use Rattle.htmd_html5_state.specs.declared.names.TagName.TheVariants as tags

-- ---- names

abbrev pub is_plain : TagName → Bool
is_plain tags.FrameSet = false
is_plain tags.Template = false
is_plain tags.Col = false
is_plain tags.ColGroup = false
is_plain _ = true

abbrev pub is_plain_name : NameValue → Bool
is_plain_name (known tag) = is_plain tag
is_plain_name (other s) = true

abbrev pub is_plain_element : ElementNameValue → Bool
is_plain_element (html name) = is_plain_name name
is_plain_element (svg s) = true
is_plain_element (math s) = true

abbrev pub is_plain_kind : KindValue → Bool
is_plain_kind k = is_named is_plain_element k

pub foreign_is_plain : (space : Namespace) (name : List ℕ) → is_plain_element (foreign_name space name) ≡ true
foreign_is_plain Svg name = refl
foreign_is_plain MathMl name = refl

-- ---- what is open

abbrev pub is_plain_open : OpenValue → Bool
is_plain_open e = is_plain_element e.name

abbrev pub PlainOpen : OpenValue → Type 0
PlainOpen e = is_plain_open e ≡ true

abbrev pub PlainStack : List OpenValue → Type 0
PlainStack stack = EachOpen PlainOpen stack

no_template_name : (name : ElementNameValue) → is_plain_element name ≡ true → is_of (Only tags.Template) name
    ≡ false
no_template_name (html (known tags.Template)) p = absurd (true≢false (sym p))
no_template_name _ p = refl

pub no_template_open : (stack : List OpenValue) → PlainStack stack → is_open (Only tags.Template) stack ≡ false
no_template_open [] h = refl
no_template_open (e ∷ es) h = rw (no_template_name e.name h.0) (no_template_open es h.1)

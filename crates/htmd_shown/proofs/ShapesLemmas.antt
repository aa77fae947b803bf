-- What a node of the source stands for.
use Rattle.std.proofs.Common.{◌≡◌, ℕ, Bool, List, sym, ap, ◌∙◌, string_bytes}
use Rattle.std.specs.Prelude.{Option, option_map, String, Vec}
use Rattle.std.specs.Borrow.{Bor}
use Rattle.std.specs.declared.alloc.Global.{Global}
use Rattle.htmd_lexical.specs.Attributes.{pairs_of}
use Rattle.htmd_lexical.specs.declared.attribute.Attribute.{Attribute}
use Rattle.htmd_shown.specs.declared.facts.Facts.{Facts}
use Rattle.htmd_shown.specs.declared.role.Role.{Role}
use Rattle.htmd_shown.specs.declared.simple.Simple.{Simple, fold-roll-Simple}
use Rattle.htmd_shown.specs.declared.simple.Simple.TheOpen.{Simple-F}
use Rattle.htmd_shown.specs.declared.simple.Simple.TheVariants as source
use Rattle.htmd_shown.specs.ShownTexts.{shown_text}
use Rattle.htmd_shown.specs.SimpleTrees as value
use Rattle.htmd_shown.specs.SimpleViews.{simple_step, simple_of, simples_of}

pub text_shape : (s : Bor (List ℕ)) → simple_of (source.Text s) ≡ value.text (shown_text s.now)
text_shape s = ap simple_of (sym (source.rolls-Text s)) ∙ fold-roll-Simple value.Simple simple_step (Simple-F.Text s)

pub image_shape : (address : Option (Bor (List ℕ))) (attrs : Bor (List Attribute))
    → simple_of (source.Image address attrs) ≡ value.image (option_map (λ s. s.now) address) (pairs_of attrs.now)
image_shape address attrs =
    ap simple_of (sym (source.rolls-Image address attrs))
    ∙ fold-roll-Simple value.Simple simple_step (Simple-F.Image address attrs)

pub formula_shape : (tex : String Global) (is_alone : Bool) (attrs : Bor (List Attribute))
    → simple_of (source.Formula tex is_alone attrs) ≡ value.formula (string_bytes tex) is_alone (pairs_of attrs.now)
formula_shape tex is_alone attrs =
    ap simple_of (sym (source.rolls-Formula tex is_alone attrs))
    ∙ fold-roll-Simple value.Simple simple_step (Simple-F.Formula tex is_alone attrs)

pub element_shape : (id : ℕ) (role : Role) (facts : Facts) (attrs : Bor (List Attribute))
    (content : Vec Simple Global)
    → simple_of (source.Element id role facts attrs content)
    ≡ value.element id role facts (pairs_of attrs.now) (simples_of content.items)
element_shape id role facts attrs content =
    ap simple_of (sym (source.rolls-Element id role facts attrs content))
    ∙ fold-roll-Simple value.Simple simple_step (Simple-F.Element id role facts attrs content)

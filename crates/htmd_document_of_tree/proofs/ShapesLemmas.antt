-- What a node of the source is.
use Rattle.std.proofs.Common.{◌≡◌, ℕ, List, sym, ap, ◌∙◌, string_bytes}
use Rattle.std.specs.Borrow.{Bor}
use Rattle.std.specs.Prelude.{String, Vec}
use Rattle.std.specs.declared.alloc.Global.{Global}
use Rattle.htmd_lexical.specs.Attributes.{pairs_of}
use Rattle.htmd_lexical.specs.declared.attribute.Attribute.{Attribute}
use Rattle.htmd_shown.specs.declared.facts.Facts.{Facts}
use Rattle.htmd_shown.specs.declared.role.Role.{Role}
use Rattle.htmd_shown.specs.declared.simple.Simple.{Simple, fold-roll-Simple}
use Rattle.htmd_shown.specs.declared.simple.Simple.TheOpen.{Simple-F}
use Rattle.htmd_shown.specs.declared.simple.Simple.TheVariants as source
use Rattle.htmd_shown.specs.ShownTexts.{shown_text}
use Rattle.htmd_shown.specs.SimpleTrees as value
use Rattle.htmd_shown.specs.SimpleViews.{simple_of, simple_step, simples_of}

pub text-made : (s : Bor (List ℕ)) → simple_of (source.Text s) ≡ value.text (shown_text s.now)
text-made s = ap simple_of (sym (source.rolls-Text s)) ∙ fold-roll-Simple value.Simple simple_step (Simple-F.Text s)

pub anchor-made : (id : String Global) → simple_of (source.Anchor id) ≡ value.anchor (string_bytes id)
anchor-made id =
    ap simple_of (sym (source.rolls-Anchor id)) ∙ fold-roll-Simple value.Simple simple_step (Simple-F.Anchor id)

pub element-made : (id : ℕ) (role : Role) (facts : Facts) (attrs : Bor (List Attribute)) (content : Vec Simple Global)
    → simple_of (source.Element id role facts attrs content)
    ≡ value.element id role facts (pairs_of attrs.now) (simples_of content.items)
element-made id role facts attrs content =
    ap simple_of (sym (source.rolls-Element id role facts attrs content))
    ∙ fold-roll-Simple value.Simple simple_step (Simple-F.Element id role facts attrs content)

-- What the simpler trees of the source stand for.
use Rattle.std.specs.Prelude.{List, map, option_map, string_bytes}
use Rattle.htmd_lexical.specs.Attributes.{pairs_of}
use Rattle.htmd_shown.specs.declared.simple.Simple.{Simple, fold-Simple}
use Rattle.htmd_shown.specs.declared.simple.Simple.TheOpen.{Simple-F}
use Rattle.htmd_shown.specs.ShownTexts.{shown_text}
use Rattle.htmd_shown.specs.SimpleTrees as value

-- one level, with the nodes in it already seen
abbrev pub simple_step : Simple-F value.Simple → value.Simple
simple_step (Simple-F.Text s) = value.text (shown_text s.now)
simple_step (Simple-F.Image address attrs) = value.image (option_map (λ s. s.now) address) (pairs_of attrs.now)
simple_step (Simple-F.Formula tex is_alone attrs) = value.formula (string_bytes tex) is_alone (pairs_of attrs.now)
simple_step (Simple-F.Embedded found) =
    value.embedded found.value.node (string_bytes found.value.address) (string_bytes found.value.title)
    (pairs_of found.value.attrs.now) (map string_bytes found.value.anchors.items)
simple_step (Simple-F.Anchor id) = value.anchor (string_bytes id)
simple_step (Simple-F.Element node role facts attrs content) =
    value.element node role facts (pairs_of attrs.now) (value.simples_of content.items)

abbrev pub simple_of : Simple → value.Simple
simple_of = fold-Simple value.Simple simple_step

abbrev pub simples_of : List Simple → value.Simples
simples_of trees = value.simples_of (map simple_of trees)

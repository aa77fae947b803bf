-- Anchors and nothing else.
use Rattle.std.proofs.Common.{◌≡◌, List, [], ◌∷◌, refl, ap}
use Rattle.std.specs.Prelude.{◌&&◌}
use Rattle.std.specs.List.{list_all}
use Rattle.htmd_document.specs.DocumentViews.{inline_of, inlines_of}
use Rattle.htmd_document.specs.NormalInlines.{is_anchor, are_anchors}
use Rattle.htmd_document.specs.declared.document.Inline.{Inline}

pub all-anchors : (xs : List Inline) → list_all (λ x. is_anchor (inline_of x)) xs ≡ are_anchors (inlines_of xs)
all-anchors [] = refl
all-anchors (x ∷ xs) = ap (λ b. is_anchor (inline_of x) && b) (all-anchors xs)

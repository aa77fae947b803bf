-- All inlines are.
use Rattle.std.proofs.Common.{◌∙◌, rules, tests}
use Rattle.std.proofs.lemmas.Iterator.{YieldsList-from_slice}
use Rattle.std.proofs.lemmas.Iterator.Search.{all_from_yields_List}
use Rattle.htmd_document.specs.DocumentViews.{inline_of}
use Rattle.htmd_document.specs.NormalInlines.{is_anchor}
use Rattle.htmd_document.specs.declared.document.Inline.{Inline}
use Rattle.htmd_chunks.proofs.KindsLemmas.{all-anchors}
use Rattle.htmd_chunks.proofs.kinds.are_anchors.Goals as goal

pub returns : goal.returns
returns c =
    all_from_yields_List (λ (x : Inline). is_anchor (inline_of x)) _ _ c.all.result c.all.ensures.ran
    (YieldsList-from_slice c.args.content.now cc)
    (λ x b q k. search (rules, tests))
    ∙ all-anchors c.args.content.now

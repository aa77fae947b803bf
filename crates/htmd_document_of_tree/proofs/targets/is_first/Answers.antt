use Rattle.std.proofs.Common.{◌∙◌, ◌||◌, true, cond, ap, sym}
use Rattle.std.specs.Str.{bytes_eq}
use Rattle.htmd_lexical.proofs.BytesLemmas.{same_bytes}
use Rattle.htmd_document_of_tree.specs.TargetViews.{holds}
use Rattle.htmd_document_of_tree.proofs.TargetsLemmas.{first-held, held-after}
use Rattle.htmd_document_of_tree.proofs.targets.is_first.Goals as goal

pub returns-clause-known : goal.returns-clause-known
returns-clause-known c = λ s.
    let key = c.as_str.result.now in
    let old = c.args.known.now in
    let first = c.in_ok-is_first.is_first in
    held-after key old c.insert.new.self true c.in_ok-is_first.ensures.updates s
    ∙ (first-held first (bytes_eq key s) (holds old s) (holds old key) c.in_ok-is_first.ensures.added
    (λ y. ap (λ k. holds old k) (sym (same_bytes key s y)))
    ∙ ap (λ k. cond first (bytes_eq k s || holds old s) (holds old s)) c.as_str.ensures.value)

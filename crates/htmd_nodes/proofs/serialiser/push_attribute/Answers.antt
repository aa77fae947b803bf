-- The refusal of memory for each part.
use Rattle.htmd_text.proofs.BeginningsLemmas.{begins-same, begins-pushed, begins-trans}
use Rattle.htmd_lexical.proofs.Cases.{OnErr-always}
use Rattle.htmd_nodes.proofs.serialiser.push_attribute.Goals as goal

pub returns-in_err-push_str-clause-err : goal.returns-in_err-push_str-clause-err
returns-in_err-push_str-clause-err c = OnErr-always _ (begins-same c.in_err-push_str.ensures.bytes)

pub returns-in_err-push_str-2-clause-err : goal.returns-in_err-push_str-2-clause-err
returns-in_err-push_str-2-clause-err c =
    OnErr-always _ (begins-trans (begins-pushed _ c.in_ok-push_str.ensures.bytes)
    (begins-same c.in_err-push_str-2.ensures.bytes))

pub returns-in_err-push_str-3-clause-err : goal.returns-in_err-push_str-3-clause-err
returns-in_err-push_str-3-clause-err c =
    let name = begins-trans (begins-pushed _ c.in_ok-push_str.ensures.bytes)
    (begins-pushed _ c.in_ok-push_str-2.ensures.bytes) in
    OnErr-always _ (begins-trans name (begins-same c.in_err-push_str-3.ensures.bytes))

pub returns-in_err-push_value-clause-err : goal.returns-in_err-push_value-clause-err
returns-in_err-push_value-clause-err c =
    let name = begins-trans (begins-pushed _ c.in_ok-push_str.ensures.bytes)
    (begins-pushed _ c.in_ok-push_str-2.ensures.bytes) in
    let mark = begins-trans name (begins-pushed _ c.in_ok-push_str-3.ensures.bytes) in
    OnErr-always _ (begins-trans mark c.in_err-push_value.ensures.err)

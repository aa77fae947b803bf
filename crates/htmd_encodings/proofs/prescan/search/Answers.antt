-- The next place.
use Rattle.std.proofs.lemmas.List.{take_rest}
use Rattle.htmd_encodings.proofs.PrescanLemmas.{search_more, search_smaller}
use Rattle.htmd_encodings.proofs.prescan.search.Goals as goal

pub loop-sign-smaller : goal.loop-sign-smaller
loop-sign-smaller c =
    let sign = c.split_run.result.1.now in
    search_smaller c.loop-sign.rest.now sign _ c.in-Onward.next.now c.split_run.ensures.rest c.in-len1-up.len_at_least
    (take_rest sign 1) c.in-Onward.ensures

pub loop-sign-preserved : goal.loop-sign-preserved
loop-sign-preserved c =
    let sign = c.split_run.result.1.now in
    search_more c.loop-sign.rest.now sign _ c.in-Onward.next.now _ c.split_run.ensures.rest c.in-len1-up.len_at_least
    (take_rest sign 1) c.in-Onward.ensures c.loop-sign.invariant

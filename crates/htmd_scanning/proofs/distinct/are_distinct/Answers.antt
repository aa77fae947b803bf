-- The last name of those that are left, in the set or not.
use Rattle.std.proofs.Common.{sym, ◌∙◌}
use Rattle.std.proofs.lemmas.Bool.{not-true, not-false}
use Rattle.htmd_lexical.proofs.NamesLemmas.{met_again, met_first}
use Rattle.htmd_scanning.proofs.distinct.are_distinct.Goals as goal

pub returns-then-not-is_new : goal.returns-then-not-is_new
returns-then-not-is_new c =
    met_again c.args.attributes.now c.loop-rest.rest.now c.loop-rest.invariant.0 c.last-item.result c.loop-rest.names
    c.as_str.result c.loop-rest.invariant.1 c.in-len1-up.len_at_least c.last-item.is c.as_str.ensures.value
    c.loop-rest.invariant.3 (not-false _ (sym c.in_ok-is_new.ensures.added ∙ c.if-not-is_new.true))

pub loop-rest-preserved : goal.loop-rest-preserved
loop-rest-preserved c =
    met_first c.args.attributes.now c.loop-rest.rest.now c.loop-rest.invariant.0 c.last-item.result c.loop-rest.names
    c.insert.new.self c.as_str.result c.loop-rest.invariant.1 c.in-len1-up.len_at_least c.last-item.is
    c.as_str.ensures.value c.loop-rest.invariant.2 c.loop-rest.invariant.3
    (not-true _ (sym c.in_ok-is_new.ensures.added ∙ c.if-not-is_new.false)) c.in_ok-is_new.ensures.updates

use Rattle.std.proofs.Common.{◌∙◌, sym, ap, length, lit<, arith}
use Rattle.std.specs.List.{list_any, slice_split}
use Rattle.std.proofs.lemmas.List.{length_push, take_all}
use Rattle.std.proofs.lemmas.Iterator.Splits.{YieldsList-from_str_split}
use Rattle.std.proofs.lemmas.Iterator.Consumers.{YieldsList-turn, YieldsList-end}
use Rattle.htmd_lexical.specs.Characters.{semicolon}
use Rattle.htmd_shown.specs.Formulas.{is_semicolon, says_display}
use Rattle.htmd_shown.proofs.AnyLemmas.{any_found, any_more}
use Rattle.htmd_shown.proofs.formula.has_display.Goals as goal

pub returns : goal.returns
returns c =
    let parts = slice_split is_semicolon c.args.parts.now in
    let all = YieldsList-end (YieldsList-from_str_split semicolon c.args.parts.now (lit< tt) (cc) (cc) (cc))
    c.loop-part.yielded _ c.loop-part.yielded_by _ _ c.in-None.is c.next.ensures.steps in
    sym c.loop-part.invariant
    ∙ ap (list_any says_display) (take_all (length c.loop-part.yielded) parts (omega (arith, all.1)))

pub returns-then-says_display : goal.returns-then-says_display
returns-then-says_display c =
    let parts = slice_split is_semicolon c.args.parts.now in
    let turn = YieldsList-turn (YieldsList-from_str_split semicolon c.args.parts.now (lit< tt) (cc) (cc) (cc))
    c.loop-part.yielded _ c.loop-part.yielded_by _ _ c.in-Some.part c.in-Some.is c.next.ensures.steps in
    sym (any_found says_display parts (length c.loop-part.yielded) c.in-Some.part.now turn
    (sym c.says_display.ensures ∙ c.if-says_display.true))

pub loop-part-preserved : goal.loop-part-preserved
loop-part-preserved c =
    let parts = slice_split is_semicolon c.args.parts.now in
    let turn = YieldsList-turn (YieldsList-from_str_split semicolon c.args.parts.now (lit< tt) (cc) (cc) (cc))
    c.loop-part.yielded _ c.loop-part.yielded_by _ _ c.in-Some.part c.in-Some.is c.next.ensures.steps in
    rw (length_push c.loop-part.yielded c.in-Some.part)
    (any_more says_display parts (length c.loop-part.yielded) c.in-Some.part.now turn c.loop-part.invariant
    (sym c.says_display.ensures ∙ c.if-says_display.false))

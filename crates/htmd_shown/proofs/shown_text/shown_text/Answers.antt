-- What is left to prove of `shown_text`.
use Rattle.std.proofs.Common.{◌∙◌, sym, ap, map-id, encode_utf8_all, filter}
use Rattle.std.proofs.lemmas.Iterator.{YieldsList-from_chars}
use Rattle.std.proofs.lemmas.Iterator.Consumers.{YieldsList-end}
use Rattle.htmd_shown.specs.ShownTexts.{is_shown}
use Rattle.htmd_shown.proofs.ShownTextsLemmas.{shown-push}
use Rattle.htmd_shown.proofs.shown_text.shown_text.Goals as goal

pub loop-c-preserved-in-Continue-branch-2 : goal.loop-c-preserved-in-Continue-branch-2
loop-c-preserved-in-Continue-branch-2 c =
    shown-push c.loop-c.yielded c.in-Some.c _ _ c.if-is_shown.ensures c.in_ok-push.ensures.bytes c.loop-c.invariant

pub returns : goal.returns
returns c =
    let all = YieldsList-end (YieldsList-from_chars c.args.text.now c.utf8.text cc) c.loop-c.yielded _
    c.loop-c.yielded_by _ _ c.in-None.is c.next.ensures.steps in
    c.loop-c.invariant ∙ ap (λ cs. encode_utf8_all (filter is_shown cs)) (sym (map-id c.loop-c.yielded) ∙ all.0)

use Rattle.std.proofs.Common.{◌∙◌, sym, ap, map-id, encode_utf8_all, filter}
use Rattle.std.proofs.lemmas.Iterator.{YieldsList-from_chars}
use Rattle.std.proofs.lemmas.Iterator.Consumers.{YieldsList-end}
use Rattle.htmd_shown.specs.Attributes.{is_in_address}
use Rattle.htmd_shown.proofs.WordsLemmas.{kept-push}
use Rattle.htmd_shown.proofs.attributes.kept_in_address.Goals as goal

pub loop-c-preserved-in-Continue-branch-2 : goal.loop-c-preserved-in-Continue-branch-2
loop-c-preserved-in-Continue-branch-2 c =
    kept-push is_in_address c.loop-c.yielded c.in-Some.c _ _
    (sym c.if-is_in_address.true ∙ c.is_in_address.ensures) c.in_ok-push.ensures.bytes c.loop-c.invariant

pub returns : goal.returns
returns c =
    let all = YieldsList-end (YieldsList-from_chars c.args.text.now c.utf8.text cc) c.loop-c.yielded _
    c.loop-c.yielded_by _ _ c.in-None.is c.next.ensures.steps in
    c.loop-c.invariant ∙ ap (λ cs. encode_utf8_all (filter is_in_address cs))
    (sym (map-id c.loop-c.yielded) ∙ all.0)

use Rattle.std.proofs.Common.{◌∙◌, sym, ap, map-id, filter}
use Rattle.std.specs.Str.{chars}
use Rattle.std.proofs.lemmas.Iterator.{YieldsList-from_chars}
use Rattle.std.proofs.lemmas.Iterator.Consumers.{YieldsList-end, YieldsList-so_far, YieldsList-turn}
use Rattle.htmd_shown.specs.Belows.{is_nothing, sign_of}
use Rattle.htmd_shown.specs.Marks.{is_seen}
use Rattle.htmd_shown.proofs.AnyLemmas.{seen_if, two_seen}
use Rattle.htmd_shown.proofs.sign.Sign.of_characters.Goals as goal

pub returns : goal.returns
returns c =
    let all = YieldsList-end (YieldsList-from_chars c.args.text.now c.utf8.text cc) c.loop-c.yielded _
    c.loop-c.yielded_by _ _ c.in-None.is c.next.ensures.steps in
    c.loop-c.invariant ∙ ap (λ cs. sign_of (filter is_seen cs)) (sym (map-id c.loop-c.yielded) ∙ all.0)

pub returns-then-not-is_nothing : goal.returns-then-not-is_nothing
returns-then-not-is_nothing c =
    let road = YieldsList-from_chars c.args.text.now c.utf8.text cc in
    let so_far = YieldsList-so_far road c.loop-c.yielded _ c.loop-c.yielded_by in
    let turn = YieldsList-turn road c.loop-c.yielded _ c.loop-c.yielded_by _ _ c.in-Some.c c.in-Some.is
    c.next.ensures.steps in
    two_seen (chars c.args.text.now) c.loop-c.yielded c.in-Some.c (sym (map-id c.loop-c.yielded) ∙ so_far) turn
    (ap is_nothing (sym c.loop-c.invariant) ∙ sym c.is_nothing.ensures ∙ c.if-not-is_nothing.true)
    (seen_if c.in-Some.c (sym c.is_blank_character.ensures ∙ c.if-is_blank_character.false))

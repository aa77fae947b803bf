use Rattle.std.proofs.Common.{◌≡◌, ◌∙◌, sym, ap, length, lit<, arith, true, false}
use Rattle.std.specs.Prelude.{◌==◌}
use Rattle.std.specs.List.{slice_split}
use Rattle.std.proofs.lemmas.List.{length_push}
use Rattle.std.proofs.lemmas.Iterator.Splits.{YieldsList-from_str_split}
use Rattle.std.proofs.lemmas.Iterator.Consumers.{YieldsList-turn, YieldsList-end}
use Rattle.htmd_lexical.specs.Characters.{semicolon}
use Rattle.htmd_trimming.specs.Hidden.{is_hiding, style_hides}
use Rattle.htmd_trimming.proofs.HiddenLemmas.{any_here, any_after, any_nowhere}
use Rattle.htmd_trimming.proofs.hidden.style_hides.Goals as goal

pub returns-then-is_hiding : goal.returns-then-is_hiding
returns-then-is_hiding c =
    let parts = slice_split (λ b. b == semicolon) c.args.style.now in
    let turn = YieldsList-turn (YieldsList-from_str_split semicolon c.args.style.now (lit< tt) (cc) (cc) (cc))
    c.loop-declaration.yielded _ c.loop-declaration.yielded_by _ _ c.in-Some.declaration c.in-Some.is
    c.next.ensures.steps in
    let found : is_hiding c.in-Some.declaration.now ≡ true =
    ap is_hiding (sym c.as_bytes.ensures.value) ∙ sym c.is_hiding.ensures ∙ c.if-is_hiding.true in
    any_here is_hiding parts (length c.loop-declaration.yielded) (style_hides c.args.style.now)
    c.loop-declaration.invariant c.in-Some.declaration.now turn found

pub loop-declaration-preserved : goal.loop-declaration-preserved
loop-declaration-preserved c =
    let parts = slice_split (λ b. b == semicolon) c.args.style.now in
    let turn = YieldsList-turn (YieldsList-from_str_split semicolon c.args.style.now (lit< tt) (cc) (cc) (cc))
    c.loop-declaration.yielded _ c.loop-declaration.yielded_by _ _ c.in-Some.declaration c.in-Some.is
    c.next.ensures.steps in
    let other : is_hiding c.in-Some.declaration.now ≡ false =
    ap is_hiding (sym c.as_bytes.ensures.value) ∙ sym c.is_hiding.ensures ∙ c.if-is_hiding.false in
    rw (length_push c.loop-declaration.yielded c.in-Some.declaration)
    (any_after is_hiding parts (length c.loop-declaration.yielded) (style_hides c.args.style.now)
    c.loop-declaration.invariant c.in-Some.declaration.now turn other)

pub returns : goal.returns
returns c =
    let parts = slice_split (λ b. b == semicolon) c.args.style.now in
    let all = YieldsList-end (YieldsList-from_str_split semicolon c.args.style.now (lit< tt) (cc) (cc) (cc))
    c.loop-declaration.yielded _ c.loop-declaration.yielded_by _ _ c.in-None.is c.next.ensures.steps in
    any_nowhere is_hiding parts (length c.loop-declaration.yielded) (style_hides c.args.style.now)
    c.loop-declaration.invariant (omega (arith, all.1))

use Rattle.std.proofs.Common.{◌≡◌, ◌∙◌, sym, ap, length, lit<, arith, Some, None}
use Rattle.std.specs.Prelude.{◌==◌}
use Rattle.std.specs.List.{slice_split}
use Rattle.std.specs.Option.{option_or}
use Rattle.std.proofs.lemmas.List.{length_push, take_all}
use Rattle.std.proofs.lemmas.Iterator.Splits.{YieldsList-from_str_split}
use Rattle.std.proofs.lemmas.Iterator.Consumers.{YieldsList-turn, YieldsList-end}
use Rattle.htmd_lexical.specs.Characters.{semicolon}
use Rattle.htmd_shown.specs.Attributes.{alignment_of_declarations, alignment_of_declaration}
use Rattle.htmd_shown.proofs.WordsLemmas.{style_more}
use Rattle.htmd_shown.proofs.attributes.alignment_of_style.Goals as goal

pub returns : goal.returns
returns c =
    let parts = slice_split (λ b. b == semicolon) c.args.style.now in
    let all = YieldsList-end (YieldsList-from_str_split semicolon c.args.style.now (lit< tt) (cc) (cc) (cc))
    c.loop-declaration.yielded _ c.loop-declaration.yielded_by _ _ c.in-None.is c.next.ensures.steps in
    c.loop-declaration.invariant ∙ ap alignment_of_declarations
    (take_all (length c.loop-declaration.yielded) parts (omega (arith, all.1)))

pub loop-declaration-preserved : goal.loop-declaration-preserved
loop-declaration-preserved c =
    let parts = slice_split (λ b. b == semicolon) c.args.style.now in
    let turn = YieldsList-turn (YieldsList-from_str_split semicolon c.args.style.now (lit< tt) (cc) (cc) (cc))
    c.loop-declaration.yielded _ c.loop-declaration.yielded_by _ _ c.in-Some.declaration c.in-Some.is
    c.next.ensures.steps in
    let step = style_more parts (length c.loop-declaration.yielded) c.in-Some.declaration.now c.loop-declaration.last
    turn c.loop-declaration.invariant in
    let found : alignment_of_declaration c.in-Some.declaration.now ≡ None =
    sym c.alignment_of_declaration.ensures ∙ c.in-None-alignment_of_declaration.is in
    rw (length_push c.loop-declaration.yielded c.in-Some.declaration)
    (ap (λ a. option_or a c.loop-declaration.last) (sym found) ∙ step)

pub loop-declaration-preserved-in-Some-alignment_of_declaration :
    goal.loop-declaration-preserved-in-Some-alignment_of_declaration
loop-declaration-preserved-in-Some-alignment_of_declaration c =
    let parts = slice_split (λ b. b == semicolon) c.args.style.now in
    let turn = YieldsList-turn (YieldsList-from_str_split semicolon c.args.style.now (lit< tt) (cc) (cc) (cc))
    c.loop-declaration.yielded _ c.loop-declaration.yielded_by _ _ c.in-Some.declaration c.in-Some.is
    c.next.ensures.steps in
    let step = style_more parts (length c.loop-declaration.yielded) c.in-Some.declaration.now c.loop-declaration.last
    turn c.loop-declaration.invariant in
    let found : alignment_of_declaration c.in-Some.declaration.now
    ≡ Some c.in-Some-alignment_of_declaration.alignment =
    sym c.alignment_of_declaration.ensures ∙ c.in-Some-alignment_of_declaration.is in
    rw (length_push c.loop-declaration.yielded c.in-Some.declaration)
    (ap (λ a. option_or a c.loop-declaration.last) (sym found) ∙ step)

-- One class more.
use Rattle.std.proofs.Common.{length, drop, lit<, ap, sym, ◌∙◌, arith}
use Rattle.std.specs.Option.{option_copied}
use Rattle.std.proofs.lemmas.List.{length_push, drop_all}
use Rattle.std.proofs.lemmas.Iterator.Splits.{YieldsList-from_str_split}
use Rattle.std.proofs.lemmas.Iterator.Consumers.{YieldsList-turn, YieldsList-end}
use Rattle.htmd_lexical.specs.Characters.{space}
use Rattle.htmd_walk.specs.Code.{first_language, classes_of}
use Rattle.htmd_walk.proofs.CodeLemmas.{language-here, language-later}
use Rattle.htmd_walk.proofs.element_handler.code.first_language.Goals as goal

pub returns-in-Some-language_of_class : goal.returns-in-Some-language_of_class
returns-in-Some-language_of_class c =
    let turn =
    YieldsList-turn
    (YieldsList-from_str_split space c.args.classes.now (lit< tt) (cc) (cc)
    (cc)) c.loop-class.yielded _ c.loop-class.yielded_by _ _ c.in-Some.class c.in-Some.is c.next.ensures.steps in
    sym (language-here (classes_of c.args.classes.now) (length c.loop-class.yielded) c.in-Some.class.now
    c.in-Some-language_of_class.language.now turn.0 turn.1
    (ap option_copied (sym c.in-Some-language_of_class.is) ∙ c.language_of_class.ensures))
    ∙ c.loop-class.invariant

pub loop-class-preserved : goal.loop-class-preserved
loop-class-preserved c =
    let turn =
    YieldsList-turn
    (YieldsList-from_str_split space c.args.classes.now (lit< tt) (cc) (cc)
    (cc)) c.loop-class.yielded _ c.loop-class.yielded_by _ _ c.in-Some.class c.in-Some.is c.next.ensures.steps in
    ap (λ n. first_language (drop n (classes_of c.args.classes.now)))
    (length_push c.loop-class.yielded c.in-Some.class)
    ∙ sym (language-later (classes_of c.args.classes.now) (length c.loop-class.yielded) c.in-Some.class.now
    turn.0 turn.1 (ap option_copied (sym c.in_default.is) ∙ c.language_of_class.ensures))
    ∙ c.loop-class.invariant

pub returns : goal.returns
returns c =
    let all =
    YieldsList-end
    (YieldsList-from_str_split space c.args.classes.now (lit< tt) (cc) (cc)
    (cc)) c.loop-class.yielded _ c.loop-class.yielded_by _ _ c.in-None.is c.next.ensures.steps in
    sym (ap first_language (drop_all (length c.loop-class.yielded) (classes_of c.args.classes.now)
    (omega (arith, all.1)))) ∙ c.loop-class.invariant

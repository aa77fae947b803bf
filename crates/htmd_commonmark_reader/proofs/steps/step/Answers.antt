-- One step further.
use Rattle.std.proofs.Common.{◌≡◌, drop, get_or, subst, refl, rules, arith}
use Rattle.std.specs.Prelude.{reverse}
use Rattle.std.proofs.lemmas.Result.{IfOk-weaker}
use Rattle.std.proofs.lemmas.Str.{IsCharBoundary-after_ascii}
use Rattle.htmd_commonmark_reading.specs.Brackets.{kind, step_of}
use Rattle.htmd_commonmark_reading.specs.Brackets as spec
use Rattle.htmd_commonmark_reading.specs.InlineTokens as token
use Rattle.htmd_commonmark_reader.specs.Destinations.{AreKnown}
use Rattle.htmd_commonmark_reader.specs.References.{references_of}
use Rattle.htmd_commonmark_reader.specs.Steps.{IsStep}
use Rattle.htmd_commonmark_reader.proofs.DestinationsLemmas.{known_behind}
use Rattle.htmd_commonmark_reader.proofs.MissingLemmas.{all_behind}
use Rattle.htmd_commonmark_reader.proofs.StepsLemmas.{at_first, at_sign}
use Rattle.htmd_commonmark_reader.proofs.steps.step.Goals as goal

pub returns-then-has-clause-known : goal.returns-then-has-clause-known
returns-then-has-clause-known c =
    known_behind c.args.known.now.items c.args.here.now (drop 1 c.args.here.now) (1, refl) c.requires.known

pub returns-then-has-clause-missing : goal.returns-then-has-clause-missing
returns-then-has-clause-missing c =
    all_behind c.args.here.now (drop 1 c.args.here.now) c.args.missing.now c.requires.missing (1, refl)

pub returns-then-has-clause-goes : goal.returns-then-has-clause-goes
returns-then-has-clause-goes c =
    IfOk-weaker c.letter_steps.result _ _
    (λ rest h. λ b k e. h (references_of c.args.references.now) c.args.text.now b k e c.requires.end)
    c.letter_steps.ensures

pub returns-then-is_space_or_tab-clause-known : goal.returns-then-is_space_or_tab-clause-known
returns-then-is_space_or_tab-clause-known c =
    known_behind c.args.known.now.items c.args.here.now (drop 1 c.args.here.now) (1, refl) c.requires.known

pub returns-then-is_space_or_tab-clause-missing : goal.returns-then-is_space_or_tab-clause-missing
returns-then-is_space_or_tab-clause-missing c =
    all_behind c.args.here.now (drop 1 c.args.here.now) c.args.missing.now c.requires.missing (1, refl)

pub returns-then-is_space_or_tab-clause-goes : goal.returns-then-is_space_or_tab-clause-goes
returns-then-is_space_or_tab-clause-goes c =
    IfOk-weaker c.blank_steps.result _ _
    (λ rest h. λ b k e. h (references_of c.args.references.now) c.args.text.now b k e c.requires.end)
    c.blank_steps.ensures

pub range_from-requires : goal.range_from-requires
range_from-requires c = λ _.
    let first : get_or c.args.here.now 0 0 ≡ 60 = search rules in
    IsCharBoundary-after_ascii c.args.here.now 0 c.utf8.here c.requires.some (omega (arith, first))

pub angle_step-requires-clause-missing : goal.angle_step-requires-clause-missing
angle_step-requires-clause-missing c =
    all_behind c.args.here.now _ c.args.missing.now c.requires.missing (1, c.range_from.ensures.value)

pub returns-then-sign-eq60-clause-known : goal.returns-then-sign-eq60-clause-known
returns-then-sign-eq60-clause-known c =
    known_behind c.args.known.now.items c.args.here.now (drop 1 c.args.here.now) (1, refl) c.requires.known

pub returns-then-sign-eq60-clause-goes : goal.returns-then-sign-eq60-clause-goes
returns-then-sign-eq60-clause-goes c =
    let refs = references_of c.args.references.now in
    let here = c.args.here.now in
    let first : get_or here 0 0 ≡ 60 = search rules in
    IfOk-weaker c.angle_step.result _ _
    (λ rest h. λ b k e.
    at_sign refs c.args.text.now here rest.now b c.angle_step.new.scan 60 c.requires.some first c.requires.end e
    (subst (λ t. IsStep (spec.angle_step b (token.angle t)) t rest.now c.angle_step.new.scan)
    c.range_from.ensures.value (h b k)))
    c.angle_step.ensures.step

pub range_from-requires-then-sign-eq93 : goal.range_from-requires-then-sign-eq93
range_from-requires-then-sign-eq93 c = λ _.
    let first : get_or c.args.here.now 0 0 ≡ 93 = search rules in
    IsCharBoundary-after_ascii c.args.here.now 0 c.utf8.here c.requires.some (omega (arith, first))

pub closing_step-requires-clause-known : goal.closing_step-requires-clause-known
closing_step-requires-clause-known c =
    known_behind c.args.known.now.items c.args.here.now _ (1, c.range_from-then-sign-eq93.ensures.value)
    c.requires.known

pub returns-then-sign-eq93-clause-known : goal.returns-then-sign-eq93-clause-known
returns-then-sign-eq93-clause-known c =
    subst (AreKnown c.closing_step.new.known.items) c.range_from-then-sign-eq93.ensures.value
    c.closing_step.ensures.known

pub returns-then-sign-eq93-clause-missing : goal.returns-then-sign-eq93-clause-missing
returns-then-sign-eq93-clause-missing c =
    all_behind c.args.here.now (drop 1 c.args.here.now) c.args.missing.now c.requires.missing (1, refl)

pub returns-then-sign-eq93-clause-goes : goal.returns-then-sign-eq93-clause-goes
returns-then-sign-eq93-clause-goes c =
    let refs = references_of c.args.references.now in
    let here = c.args.here.now in
    let first : get_or here 0 0 ≡ 93 = search rules in
    IfOk-weaker c.closing_step.result _ _
    (λ rest h. λ b k e.
    at_sign refs c.args.text.now here rest.now b c.closing_step.new.scan 93 c.requires.some first c.requires.end e
    (subst (λ t. IsStep (spec.closing_step refs b t) t rest.now c.closing_step.new.scan)
    c.range_from-then-sign-eq93.ensures.value (h b k e)))
    c.closing_step.ensures.step

pub returns-else-sign-eq93-clause-known : goal.returns-else-sign-eq93-clause-known
returns-else-sign-eq93-clause-known c =
    known_behind c.args.known.now.items c.args.here.now (drop 1 c.args.here.now) (1, refl) c.requires.known

pub returns-else-sign-eq93-clause-missing : goal.returns-else-sign-eq93-clause-missing
returns-else-sign-eq93-clause-missing c =
    all_behind c.args.here.now (drop 1 c.args.here.now) c.args.missing.now c.requires.missing (1, refl)

pub returns-else-sign-eq93-clause-goes : goal.returns-else-sign-eq93-clause-goes
returns-else-sign-eq93-clause-goes c =
    let refs = references_of c.args.references.now in
    let here = c.args.here.now in
    IfOk-weaker c.one_step.result _ _
    (λ rest h. λ b k e.
    at_first refs c.args.text.now here rest.now b c.one_step.new.scan c.requires.some c.requires.end e
    (subst (λ t. IsStep (step_of (kind (get_or here 0 0)) refs b (reverse t) (get_or here 0 0) (drop 1 here))
    (drop 1 here) rest.now c.one_step.new.scan) c.before_end.ensures (h b k refs)))
    c.one_step.ensures

-- Nothing closes, or the last bracket.
use Rattle.std.proofs.Common.{◌≡◌, ◌∙◌, [], ◌∷◌, Some, None, refl, ap, subst, rules}
use Rattle.htmd_commonmark_reading.specs.Brackets.{target, before_end}
use Rattle.htmd_commonmark_reading.specs.DelimiterRuns.{finished}
use Rattle.htmd_commonmark_reading.specs.Markup.{no_inlines, letter}
use Rattle.htmd_commonmark_reader.specs.References.{references_of, found_of}
use Rattle.htmd_commonmark_reader.specs.Scans.{IsScan}
use Rattle.htmd_commonmark_reader.specs.Steps.{IsLastOf}
use Rattle.htmd_commonmark_reader.proofs.ClosingLemmas.{last_of, last_ends, outer_closed, text_step, none_step}
use Rattle.htmd_commonmark_reader.proofs.ClosingLemmas.{link_step}
use Rattle.htmd_commonmark_reader.proofs.steps.closing_step.Goals as goal

pub returns-in_default-clause-step : goal.returns-in_default-clause-step
returns-in_default-clause-step c = λ b h k.
    let x = letter 93 no_inlines in
    let none : c.args.scan.now.brackets.items ≡ [] = search rules in
    outer_closed (references_of c.args.references.now) b c.args.after.now c.args.scan.now c.push_slot.new.scan h none
    (c.in_ok-push_slot.ensures b (finished x ∷ []) x h (λ t. refl) refl)

pub returns-then-not-is_active-clause-step : goal.returns-then-not-is_active-clause-step
returns-then-not-is_active-clause-step c = λ b h k.
    let o = c.args.scan.now in
    let last : IsLastOf o.brackets.items c.in-Some.bracket = search rules in
    let l = last_of b o c.in-Some.bracket c.is_active.result h last c.is_active.ensures in
    text_step (references_of c.args.references.now) b c.args.after.now c.in-Some.bracket c.is_active.result
    c.close_as_text.new.scan l c.if-not-is_active.true
    (c.in_ok-close_as_text.ensures c.in-Some.bracket.is_image c.is_active.result c.in-Some.bracket.text.now l.tokens
    l.below (subst (λ x. IsScan x o) l.is h))

pub before_end-content-requires : goal.before_end-content-requires
before_end-content-requires c =
    let o = c.args.scan.now in
    let last : IsLastOf o.brackets.items c.in-Some.bracket = search rules in
    let s = c.requires.state in
    last_ends c.args.here.now s.0 c.in-Some.bracket c.is_active.result
    (last_of s.0 o c.in-Some.bracket c.is_active.result s.1 last c.is_active.ensures) s.2

pub close_link-requires : goal.close_link-requires
close_link-requires c =
    let o = c.args.scan.now in
    let last : IsLastOf o.brackets.items c.in-Some.bracket = search rules in
    let s = c.requires.state in
    let l = last_of s.0 o c.in-Some.bracket c.is_active.result s.1 last c.is_active.ensures in (
      c.in-Some.bracket.is_image,
      c.is_active.result,
      c.in-Some.bracket.text.now,
      l.tokens,
      l.below,
      subst (λ x. IsScan x o) l.is s.1,
    )

pub returns-in_ok-close_link-in-Some-found-clause-step : goal.returns-in_ok-close_link-in-Some-found-clause-step
returns-in_ok-close_link-in-Some-found-clause-step c = λ b h k.
    let o = c.args.scan.now in
    let refs = references_of c.args.references.now in
    let after = c.args.after.now in
    let last : IsLastOf o.brackets.items c.in-Some.bracket = search rules in
    let l = last_of b o c.in-Some.bracket c.is_active.result h last c.is_active.ensures in
    let there : Some (found_of c.in-Some-found.link) ≡ target refs c.before_end-content.result.now after =
    search rules in
    link_step refs b after c.in-Some.bracket c.is_active.result c.in-Some-found.link c.close_link.new.scan l
    c.if-not-is_active.false
    (there ∙ ap (λ t. target refs t after)
    (c.before_end-content.ensures ∙ ap (before_end c.in-Some.bracket.text.now) c.requires.first))
    (c.in_ok-close_link-in-Some-found.ensures c.in-Some.bracket.is_image c.is_active.result c.in-Some.bracket.text.now
    l.tokens l.below (subst (λ x. IsScan x o) l.is h))

pub returns-in_ok-close_as_text-in-None-clause-step : goal.returns-in_ok-close_as_text-in-None-clause-step
returns-in_ok-close_as_text-in-None-clause-step c = λ b h k.
    let o = c.args.scan.now in
    let refs = references_of c.args.references.now in
    let after = c.args.after.now in
    let last : IsLastOf o.brackets.items c.in-Some.bracket = search rules in
    let l = last_of b o c.in-Some.bracket c.is_active.result h last c.is_active.ensures in
    let nowhere : None ≡ target refs c.before_end-content.result.now after = search rules in
    none_step refs b after c.in-Some.bracket c.is_active.result c.close_as_text-in-None.new.scan l
    c.if-not-is_active.false
    (nowhere ∙ ap (λ t. target refs t after)
    (c.before_end-content.ensures ∙ ap (before_end c.in-Some.bracket.text.now) c.requires.first))
    (c.in_ok-close_as_text-in-None.ensures c.in-Some.bracket.is_image c.is_active.result c.in-Some.bracket.text.now
    l.tokens l.below (subst (λ x. IsScan x o) l.is h))

-- The next `<`, and what begins there.
use Rattle.std.proofs.Common.{◌∙◌, ap, sym, rules}
use Rattle.htmd_lexical.specs.CharacterClasses.{first_is}
use Rattle.htmd_tree.specs.Bodies.{first_of, behind_first_start_tag}
use Rattle.htmd_tree.proofs.BodiesLemmas.{without_sign, next_sign, sign_shorter}
use Rattle.htmd_tree.proofs.reader.body.behind_first_start_tag.Goals as goal

pub returns-in_default : goal.returns-in_default
returns-in_default c =
    sym (without_sign c.loop-behind.rest.now (ap (first_is 60) (sym c.split_run.ensures.rest) ∙ c.in_default.ensures))
    ∙ c.loop-behind.invariant.same

pub returns-in-Some-behind_start_tag : goal.returns-in-Some-behind_start_tag
returns-in-Some-behind_start_tag c =
    let behind = c.in-Some.behind.now in
    ap (λ o. first_of o (behind_first_start_tag behind)) c.in-Some-behind_start_tag.ensures
    ∙ (sym (next_sign c.loop-behind.rest.now c.split_run.result.1.now behind
    (c.split_run.ensures.rest, c.in-Some.ensures.0, c.in-Some.ensures.1))
    ∙ c.loop-behind.invariant.same)

pub loop-behind-smaller : goal.loop-behind-smaller
loop-behind-smaller c =
    sign_shorter c.loop-behind.rest.now c.split_run.result.1.now c.in-Some.behind.now
    (c.split_run.ensures.rest, c.in-Some.ensures.0, c.in-Some.ensures.1)

pub loop-behind-preserved : goal.loop-behind-preserved
loop-behind-preserved c =
    let behind = c.in-Some.behind.now in
    record {
      is_text = search rules;
      same = ap (λ o. first_of o (behind_first_start_tag behind)) c.in_default-behind_start_tag.ensures
          ∙ (sym (next_sign c.loop-behind.rest.now c.split_run.result.1.now behind
          (c.split_run.ensures.rest, c.in-Some.ensures.0, c.in-Some.ensures.1))
          ∙ c.loop-behind.invariant.same);
    }

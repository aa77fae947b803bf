-- The name before the next comma, and the last one.
use Rattle.std.proofs.Common.{◌∙◌, Some, None, arith, refl, rules}
use Rattle.std.proofs.lemmas.Str.Pattern.{split_once_first}
use Rattle.htmd.proofs.PageValuesLemmas.{one_more_name, last_name}
use Rattle.htmd.proofs.page_values.push_names.Goals as goal

pub loop-name-preserved : goal.loop-name-preserved
loop-name-preserved c =
    let rest = c.loop-name.rest.now in
    record {
      is_text = search rules;
      so_far = one_more_name c.loop-name.names.items c.push.new.self.items c.in-Some.name rest c.in-Some.behind.now
          c.in_ok-push.ensures.items
          (split_once_first 44 rest (Some (c.in-Some.name, c.in-Some.behind)) c.in-Some.ensures.cases (omega arith))
          ∙ c.loop-name.invariant.so_far;
    }

pub returns : goal.returns
returns c =
    let rest = c.loop-name.rest.now in
    last_name c.loop-name.names.items c.push-2.new.self.items c.loop-name.rest rest c.in_ok-push-2.ensures.items refl
    (split_once_first 44 rest None c.in_default.ensures.cases (omega arith))
    ∙ c.loop-name.invariant.so_far

-- The last `<` of the front, and whether an end tag begins there.
use Rattle.std.proofs.Common.{◌≡◌, ◌∙◌, ap, sym, arith, length, take, drop, Some, None, rules}
use Rattle.std.proofs.lemmas.Slice.{between_from_start}
use Rattle.std.proofs.lemmas.List.{length-take-le}
use Rattle.std.proofs.lemmas.Str.Pattern.{rfind_char}
use Rattle.htmd_tree.specs.Bodies as spec
use Rattle.htmd_tree.proofs.BodiesLemmas.{IsClearBehind, IsLastSign, cut_at_last, passed_over, nothing_cut}
use Rattle.htmd_tree.proofs.reader.body.before_last_end_tag.Goals as goal

pub returns-then-begins_end_tag : goal.returns-then-begins_end_tag
returns-then-begins_end_tag c =
    let text = c.args.text.now in
    let front = c.loop-place.front.now in
    let place = c.in-Some.place in
    let i = c.loop-place.invariant in
    let clear : IsClearBehind text front =
    record { within = i.within; is_front = i.is_front; none_behind = i.none_behind } in
    let last : IsLastSign front place = rfind_char 60 front (Some place) c.in-Some.ensures.cases (omega arith) in
    c.range.ensures.value ∙ (between_from_start text place
    ∙ sym (cut_at_last text front place clear last
    (ap spec.begins_end_tag (sym c.range_from.ensures.value)
    ∙ (sym c.begins_end_tag.ensures ∙ c.if-begins_end_tag.true))))

pub loop-place-preserved : goal.loop-place-preserved
loop-place-preserved c =
    let text = c.args.text.now in
    let front = c.loop-place.front.now in
    let place = c.in-Some.place in
    let i = c.loop-place.invariant in
    let clear : IsClearBehind text front =
    record { within = i.within; is_front = i.is_front; none_behind = i.none_behind } in
    let last : IsLastSign front place = rfind_char 60 front (Some place) c.in-Some.ensures.cases (omega arith) in
    let cut : c.range-front.result.now ≡ take place text =
    c.range-front.ensures.value ∙ between_from_start text place in
    let l = last.0 in
    let w = i.within in
    let size : length c.range-front.result.now ≡ place = ap length cut ∙ length-take-le place text (omega arith) in
    record {
      is_text = search rules;
      within = omega arith;
      is_front = cut ∙ ap (λ k. take k text) (sym size);
      none_behind = ap (λ k. spec.holds_end_tag (drop k text)) size
          ∙ passed_over text front place clear last
          (ap spec.begins_end_tag (sym c.range_from.ensures.value)
          ∙ (sym c.begins_end_tag.ensures ∙ c.if-begins_end_tag.false));
    }

pub returns : goal.returns
returns c =
    let i = c.loop-place.invariant in
    sym (nothing_cut c.args.text.now c.loop-place.front.now
    (record { within = i.within; is_front = i.is_front; none_behind = i.none_behind })
    (rfind_char 60 c.loop-place.front.now None c.in_default.ensures.cases (omega arith)))

-- What is left to prove of `without_white_end`.
use Rattle.std.proofs.Common.{◌≡◌, ◌-◌, ◌∙◌, ap, sym, refl, rules, subst, length, take, arith, encode_utf8_all}
use Rattle.std.specs.Str.{IsUtf8}
use Rattle.htmd_shown.specs.Spaces.{is_white}
use Rattle.htmd_shown.proofs.WhiteEndsLemmas.{last-cut, trim-white, trim-plain, trim-none}
use Rattle.htmd_shown.proofs.spaces.without_white_end.Goals as goal

pub returns-then-not-is_white : goal.returns-then-not-is_white
returns-then-not-is_white c =
    let cut = last-cut c.loop-c.front.now c.next_back.new.self.rest.now c.in-Some.c _ c.loop-c.invariant.utf8
    (search rules) (sym c.chars.ensures.rest ∙ c.in-Some.ensures.steps) refl (search rules) in
    trim-plain is_white c.loop-c.front.now c.in-Some.c _ c.loop-c.invariant.utf8 cut (search rules)
    ∙ ap encode_utf8_all c.loop-c.invariant.value

pub range-front-requires-clause-end_boundary : goal.range-front-requires-clause-end_boundary
range-front-requires-clause-end_boundary c =
    (last-cut c.loop-c.front.now c.next_back.new.self.rest.now c.in-Some.c _ c.loop-c.invariant.utf8
    (search rules) (sym c.chars.ensures.rest ∙ c.in-Some.ensures.steps)
    (ap (λ n. length c.loop-c.front.now - n) c.len_utf8.ensures.value) (search rules)).boundary

pub loop-c-preserved : goal.loop-c-preserved
loop-c-preserved c =
    let cut = last-cut c.loop-c.front.now c.next_back.new.self.rest.now c.in-Some.c _ c.loop-c.invariant.utf8
    (search rules) (sym c.chars.ensures.rest ∙ c.in-Some.ensures.steps)
    (ap (λ n. length c.loop-c.front.now - n) c.len_utf8.ensures.value) (search rules) in
    let none : (length c.loop-c.front.now - c.len_utf8.result) - 0 ≡ length c.loop-c.front.now - c.len_utf8.result =
    omega arith in
    let front : c.range-front.result.now ≡ take (length c.loop-c.front.now - c.len_utf8.result) c.loop-c.front.now =
    c.range-front.ensures.value ∙ ap (λ n. take n c.loop-c.front.now) none in
    record {
      utf8 = subst IsUtf8 (sym front) cut.utf8;
      value = trim-white is_white c.loop-c.front.now c.range-front.result.now c.in-Some.c _ cut (search rules) front
          ∙ c.loop-c.invariant.value;
    }

pub returns : goal.returns
returns c = trim-none is_white c.loop-c.front.now c.chars.result.rest.now c.chars.ensures.rest
    c.in_default.ensures.steps.0 ∙ ap encode_utf8_all c.loop-c.invariant.value

-- One more character.
use Rattle.std.proofs.Common.{◌+◌, ap, ◌∙◌, arith}
use Rattle.std.specs.List.{sum_by}
use Rattle.std.specs.Str.{chars}
use Rattle.std.specs.Str.Iter.{chars_rest}
use Rattle.std.proofs.lemmas.List.{nil_from_length}
use Rattle.std.proofs.lemmas.Str.{IsUtf8-past_char, chars-nil}
use Rattle.htmd_commonmark.specs.Columns.{columns_of}
use Rattle.htmd_commonmark.proofs.ColumnsLemmas.{width-turn, width-le}
use Rattle.htmd_commonmark.proofs.columns.width_of_characters.Goals as goal

pub overflow_add-width : goal.overflow_add-width
overflow_add-width c =
    let more = width-turn (chars_rest c.loop-c.c-iterator) (chars_rest c.next.new.self) c.in-Some.c c.loop-c.width _
    c.loop-c.invariant.utf8 c.in-Some.ensures.steps.0 c.loop-c.invariant.whole in
    omega (arith, more, width-le c.args.text.now c.utf8.text, c.columns_of-width.ensures)

pub loop-c-preserved : goal.loop-c-preserved
loop-c-preserved c =
    let rest = chars_rest c.loop-c.c-iterator in
    let next = chars_rest c.next.new.self in
    record {
      utf8 = IsUtf8-past_char rest next c.in-Some.c c.loop-c.invariant.utf8 c.in-Some.ensures.steps.0;
      whole =
          ap (λ n. (c.loop-c.width + n) + sum_by columns_of (chars next)) c.columns_of-width.ensures
          ∙ width-turn rest next c.in-Some.c c.loop-c.width _ c.loop-c.invariant.utf8 c.in-Some.ensures.steps.0
          c.loop-c.invariant.whole;
    }

pub returns : goal.returns
returns c =
    let none_left = nil_from_length (chars_rest c.loop-c.c-iterator) c.in-None.ensures.steps.0.0 in
    omega (arith, c.loop-c.invariant.whole, ap (sum_by columns_of) (ap chars none_left ∙ chars-nil))

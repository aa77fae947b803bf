-- What is left to prove of `push_block`.
use Rattle.std.proofs.Common.{◌∷◌, ◌++◌, ap, sym, ◌∙◌, string_bytes}
use Rattle.std.specs.Str.{chars, encode_utf8_all}
use Rattle.std.specs.Str.Iter.{chars_rest}
use Rattle.std.proofs.lemmas.List.{append-nil, nil_from_length}
use Rattle.std.proofs.lemmas.Str.{IsUtf8-past_char, chars_past_char, chars-nil}
use Rattle.htmd_values.specs.RawBlocks.{without_blank_lines}
use Rattle.htmd_nodes.proofs.serialiser.push_block.Goals as goal

pub loop-c-preserved : goal.loop-c-preserved
loop-c-preserved c =
    let out = string_bytes c.loop-c.out in
    let here = c.in-Some.ensures.steps.0 in
    let text = chars_past_char (chars_rest c.loop-c.chars) (chars_rest c.next.new.self) c.in-Some.c
    c.loop-c.invariant.utf8 here in
    record {
      utf8 = IsUtf8-past_char (chars_rest c.loop-c.chars) (chars_rest c.next.new.self) c.in-Some.c
          c.loop-c.invariant.utf8 here;
      rest =
          ap (λ x. string_bytes c.push_block_char.new.out ++ encode_utf8_all
          (without_blank_lines c.in_ok-after.after (chars x))) (sym c.as_str.ensures)
          ∙ (c.in_ok-after.ensures ∙
          (ap (λ x. out ++ encode_utf8_all (without_blank_lines c.loop-c.after (c.in-Some.c ∷ chars x)))
          c.as_str.ensures
          ∙ (ap (λ x. out ++ encode_utf8_all (without_blank_lines c.loop-c.after x)) (sym text)
          ∙ c.loop-c.invariant.rest)));
    }

pub returns : goal.returns
returns c =
    let out = string_bytes c.loop-c.out in
    let none_left = nil_from_length (chars_rest c.loop-c.chars) c.in_default.ensures.steps.0.0 in
    sym (append-nil out) ∙ (ap (λ x. out ++ encode_utf8_all (without_blank_lines c.loop-c.after x))
    (sym (ap chars none_left ∙ chars-nil)) ∙ c.loop-c.invariant.rest)

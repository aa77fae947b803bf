-- One more character.
use Rattle.std.proofs.Common.{string_bytes}
use Rattle.std.specs.Str.Iter.{chars_rest}
use Rattle.htmd_parts.proofs.TextLemmas.{text-turn}
use Rattle.htmd_parts.proofs.texts.push_text.Goals as goal

pub loop-c-preserved : goal.loop-c-preserved
loop-c-preserved c =
    text-turn (string_bytes c.loop-c.out) (string_bytes c.push_text_char.new.out) (chars_rest c.loop-c.c-iterator)
    (chars_rest c.next.new.self) _ c.in-Some.c c.in_ok-push_text_char.ensures c.in-Some.ensures.steps.0
    c.loop-c.invariant

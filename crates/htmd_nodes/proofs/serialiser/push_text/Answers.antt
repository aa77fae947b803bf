-- What is left to prove of `push_text`.
use Rattle.std.proofs.Common.{string_bytes}
use Rattle.std.specs.Str.Iter.{chars_rest}
use Rattle.htmd_values.specs.Serialisation.{text_byte}
use Rattle.htmd_values.proofs.SerialisationLemmas.{text_byte-high, escaped_html-turn}
use Rattle.htmd_nodes.proofs.serialiser.push_text.Goals as goal

pub loop-c-preserved : goal.loop-c-preserved
loop-c-preserved c =
    escaped_html-turn text_byte text_byte-high (string_bytes c.loop-c.out) (string_bytes c.push_text_char.new.out)
    (chars_rest c.loop-c.c-iterator) (chars_rest c.next.new.self) _ c.in-Some.c c.in_ok-push_text_char.ensures
    c.in-Some.ensures.steps.0 c.loop-c.invariant

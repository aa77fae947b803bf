-- One more character of a value, or the refusal of its memory.
use Rattle.std.proofs.Common.{string_bytes, refl, rules}
use Rattle.htmd_lexical.proofs.Cases.{OnErr-always}
use Rattle.std.specs.Str.Iter.{chars_rest}
use Rattle.htmd_text.proofs.BeginningsLemmas.{begins-same, begins-pushed, begins-trans}
use Rattle.htmd_values.specs.Serialisation.{value_byte}
use Rattle.htmd_values.proofs.SerialisationLemmas.{value_byte-high, escaped_html-turn}
use Rattle.htmd_nodes.proofs.serialiser.push_value.Goals as goal

pub loop-c-init : goal.loop-c-init
loop-c-init c = record {
  whole = search rules;
  kept = begins-same refl;
}

pub loop-c-preserved : goal.loop-c-preserved
loop-c-preserved c = record {
  whole =
      escaped_html-turn value_byte value_byte-high (string_bytes c.loop-c.out) (string_bytes c.push_value_char.new.out)
      (chars_rest c.loop-c.c-iterator) (chars_rest c.next.new.self) _ c.in-Some.c c.in_ok-push_value_char.ensures.ok
      c.in-Some.ensures.steps.0 c.loop-c.invariant.whole;
  kept = begins-trans c.loop-c.invariant.kept (begins-pushed _ c.in_ok-push_value_char.ensures.ok);
}

pub returns-in_err-push_value_char-clause-err : goal.returns-in_err-push_value_char-clause-err
returns-in_err-push_value_char-clause-err c =
    OnErr-always _ (begins-trans c.loop-c.invariant.kept (begins-same c.in_err-push_value_char.ensures.err))

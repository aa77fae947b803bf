-- What was put so far and what is to come, and that nothing before it has changed.
use Rattle.std.proofs.Common.{◌≡◌, ◌++◌, drop, string_bytes}
use Rattle.std.specs.List.{flat_map}
use Rattle.htmd_text.specs.Beginnings.{IsBeginning}
use Rattle.htmd_values.specs.Serialisation.{attribute_text}
use Rattle.htmd_lexical.specs.Attributes.{pairs_of}
use Rattle.htmd_nodes.proofs.serialiser.push_start_tag.Given as goal

abbrev pub invariant-loop-attribute : goal.invariant-loop-attribute
invariant-loop-attribute l = record {
  whole : string_bytes l.out ++ flat_map attribute_text (pairs_of (drop l.attribute-index l.attrs))
      ≡ string_bytes l.initial.out ++ flat_map attribute_text (pairs_of l.attrs);
  kept : IsBeginning (string_bytes l.initial.out) (string_bytes l.out);
}

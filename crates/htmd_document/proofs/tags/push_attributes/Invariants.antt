-- What was put so far and what is to come.
use Rattle.std.proofs.Common.{◌≡◌, ◌++◌, string_bytes, map, drop}
use Rattle.std.specs.List.{flat_map}
use Rattle.htmd_document.specs.DocumentViews.{attribute_of}
use Rattle.htmd_document.specs.Tags.{attribute_text}
use Rattle.htmd_document.proofs.tags.push_attributes.Given as goal

abbrev pub invariant-loop-attribute : goal.invariant-loop-attribute
invariant-loop-attribute l =
    string_bytes l.out ++ flat_map attribute_text (map attribute_of (drop l.attribute-index l.attributes))
    ≡ string_bytes l.fn.out ++ flat_map attribute_text (map attribute_of l.attributes)

-- What the parts of a tag, as readers hold them, are in the grammar's terms.
use Rattle.htmd_lexical.specs.TagReading.{TagPart, malformed, tag_end, attribute}
use Rattle.htmd_scanning.specs.declared.tag_parts.Part.{Part}
use Rattle.htmd_scanning.specs.declared.tag_parts.Part.TheVariants.{Malformed, End, Attribute}

abbrev pub part_of : Part → TagPart
part_of Malformed = malformed
part_of (End slash rest) = tag_end slash rest.now
part_of (Attribute spelled rest) = attribute spelled.name.now spelled.value.now rest.now

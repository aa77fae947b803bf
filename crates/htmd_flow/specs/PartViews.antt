-- What stands around a leaf, as the source keeps it.
use Rattle.std.specs.Prelude.{string_bytes}
use Rattle.htmd_flow.specs.Parts as part
use Rattle.htmd_flow.specs.declared.around.Around.{Around}
use Rattle.htmd_flow.specs.declared.around.Around.TheVariants as around
use Rattle.htmd_document.specs.DocumentViews.{bytes_of_title}
use Rattle.htmd_document.specs.Formats.{Abbreviation, of_format, of_element}

abbrev pub around_of : Around → part.Around
around_of (around.Format f) = part.formatted (of_format f)
around_of (around.Element e) = part.formatted (of_element e)
around_of (around.Abbreviation title) = part.formatted (Abbreviation (string_bytes title))
around_of (around.Link node address title) =
    part.linked node (string_bytes address) (bytes_of_title title)

-- The text of an element's name, as it is kept.
use Rattle.std.specs.Prelude.{ℕ, List, string_bytes}
use Rattle.htmd_nodes.specs.declared.names.Kept.{Kept}
use Rattle.htmd_nodes.specs.declared.names.Kept.TheVariants as kept
use Rattle.htmd_nodes.specs.Tags.{tag_text, HasNoTag}

abbrev pub text_of : Kept → List ℕ
text_of (kept.Frequent tag) = tag_text tag
text_of (kept.Other text) = string_bytes text.value

-- a frequent name is kept as its tag
abbrev pub IsKeptShort : Kept → Type 0
IsKeptShort (kept.Frequent tag) = Unit {0}
IsKeptShort (kept.Other text) = HasNoTag (string_bytes text.value)

-- What is embedded, as the source keeps it.
use Rattle.std.specs.Prelude.{string_bytes}
use Rattle.htmd_shown.specs.declared.embedded.Embedding as code
use Rattle.htmd_shown.specs.Embeds.{Embedding}

abbrev pub embedding_in : code.Embedding → Embedding
embedding_in found = record { address = string_bytes found.address; title = string_bytes found.title }

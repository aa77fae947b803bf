-- What a converter and a builder hold: their handlers, whether scripting is on, which places of links documents have,
-- whether they are rich, and the tags that are skipped.
use Rattle.std.specs.Prelude.{ℕ, Bool, List, map, string_bytes}
use Rattle.htmd_document_of_tree.specs.declared.anchors.Anchors.{Anchors}
use Rattle.htmd.specs.declared.converter.HtmlToMarkdown.{HtmlToMarkdown}
use Rattle.htmd.specs.declared.converter.HtmlToMarkdownBuilder.{HtmlToMarkdownBuilder}
use Rattle.htmd.specs.declared.skipped_tags.SkippedTags.{SkippedTags}

abbrev pub handlers_of : {R : Type 0} → HtmlToMarkdown R → R
handlers_of converter = converter.handlers

abbrev pub handlers_built : {R : Type 0} → HtmlToMarkdownBuilder R → R
handlers_built builder = builder.handlers

abbrev pub scripting_of : {R : Type 0} → HtmlToMarkdown R → Bool
scripting_of converter = converter.scripting

abbrev pub scripting_built : {R : Type 0} → HtmlToMarkdownBuilder R → Bool
scripting_built builder = builder.scripting

abbrev pub anchors_of : {R : Type 0} → HtmlToMarkdown R → Anchors
anchors_of converter = converter.anchors

abbrev pub anchors_built : {R : Type 0} → HtmlToMarkdownBuilder R → Anchors
anchors_built builder = builder.anchors

abbrev pub rich_of : {R : Type 0} → HtmlToMarkdown R → Bool
rich_of converter = converter.rich

abbrev pub rich_built : {R : Type 0} → HtmlToMarkdownBuilder R → Bool
rich_built builder = builder.rich

abbrev pub names_in : SkippedTags → List (List ℕ)
names_in tags = map string_bytes tags.names.items

abbrev pub skipped_of : {R : Type 0} → HtmlToMarkdown R → List (List ℕ)
skipped_of converter = names_in converter.skipped

abbrev pub skipped_built : {R : Type 0} → HtmlToMarkdownBuilder R → List (List ℕ)
skipped_built builder = names_in builder.skipped

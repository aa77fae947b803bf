-- What the parts of the source stand for.
use Rattle.std.specs.Prelude.{List, [], ◌∷◌, map, string_bytes}
use Rattle.std.specs.List.{flat_map}
use Rattle.htmd_document.specs.DocumentViews.{bytes_of_title}
use Rattle.htmd_document.specs.Formats.{of_format}
use Rattle.htmd_parts.specs.Parts as value
use Rattle.htmd_parts.specs.declared.parts.Part as declared_part
use Rattle.htmd_parts.specs.declared.parts.Part.TheVariants as part
use Rattle.htmd_parts.specs.declared.parts.Tag as declared_tag
use Rattle.htmd_parts.specs.declared.parts.Tag.TheVariants as tag
use Rattle.htmd_parts.specs.declared.parts.TagEnd as declared_end
use Rattle.htmd_parts.specs.declared.parts.TagEnd.TheVariants as tag_end

abbrev pub tag_of : declared_tag.Tag → value.Tag
tag_of (tag.Paragraph is_tight) = value.paragraph is_tight
tag_of (tag.Heading level) = value.heading level
tag_of tag.Quote = value.quote
tag_of (tag.List start is_tight) = value.list start is_tight
tag_of tag.Item = value.item
tag_of tag.Table = value.table
tag_of tag.Head = value.head
tag_of tag.Body = value.body
tag_of tag.Row = value.row
tag_of (tag.HeaderCell a) = value.header_cell a
tag_of (tag.Cell a) = value.cell a
tag_of (tag.Formatted format) = value.formatted (of_format format)
tag_of (tag.Link address title) = value.link (string_bytes address) (bytes_of_title title)
tag_of (tag.Image address) = value.image (string_bytes address)

abbrev pub end_of : declared_end.TagEnd → value.TagEnd
end_of (tag_end.Paragraph is_tight) = value.paragraph_end is_tight
end_of (tag_end.Heading level) = value.heading_end level
end_of tag_end.Quote = value.quote_end
end_of (tag_end.List is_numbered) = value.list_end is_numbered
end_of tag_end.Item = value.item_end
end_of tag_end.Table = value.table_end
end_of tag_end.Head = value.head_end
end_of tag_end.Body = value.body_end
end_of tag_end.Row = value.row_end
end_of tag_end.HeaderCell = value.header_cell_end
end_of tag_end.Cell = value.cell_end
end_of (tag_end.Formatted format) = value.formatted_end (of_format format)
end_of tag_end.Link = value.link_end
end_of (tag_end.Image title) = value.image_end (bytes_of_title title)

-- a text is its bytes
abbrev pub part_of : declared_part.Part → List value.Part
part_of (part.Start t) = value.begun (tag_of t) ∷ []
part_of (part.End t) = value.ended (end_of t) ∷ []
part_of (part.Text s) = map value.letter (string_bytes s)
part_of (part.Code s) = value.code (string_bytes s) ∷ []
part_of (part.Html s) = value.raw (string_bytes s) ∷ []
part_of part.LineBreak = value.line_break ∷ []
part_of (part.Task is_checked) = value.task is_checked ∷ []
part_of (part.CodeBlock language s) = value.code_block (bytes_of_title language) (string_bytes s) ∷ []
part_of (part.HtmlBlock s) = value.html_block (string_bytes s) ∷ []
part_of part.ThematicBreak = value.thematic_break ∷ []

abbrev pub all_parts_of : List declared_part.Part → List value.Part
all_parts_of parts = flat_map part_of parts

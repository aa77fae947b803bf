-- Worked rows of the law: documents, what is written of them, and what is read. Each holds by computing.
use Rattle.std.proofs.Common.{◌≡◌, ℕ, true, false, refl, codes, List, [], ◌∷◌, None, Some}
use Rattle.std.specs.Fmt.{digits}
use Rattle.std.specs.Str.{is_utf8, chars}
use Rattle.unicode.proofs.CategoryComputing.{ucd_category}
use Rattle.htmd_markdown.specs.declared.fence.CodeBlockFence.TheVariants.{Backticks}
use Rattle.htmd_markdown.specs.declared.heading.HeadingStyle.TheVariants.{Atx}
use Rattle.htmd_markdown.specs.declared.line_break.BrStyle.TheVariants.{TwoSpaces}
use Rattle.htmd_markdown.specs.declared.link.LinkStyle.TheVariants.{Referenced}
use Rattle.htmd_markdown.specs.declared.list.BulletListMarker.TheVariants.{Dash}
use Rattle.htmd_markdown.specs.declared.thematic_break.HrStyle.TheVariants.{Dashes}
use Rattle.htmd_document.specs.Formats.{Strong, Superscript}
use Rattle.htmd_document.specs.Documents.{Inlines, Block, Blocks, text, code, formatted, link, line_break, task}
use Rattle.htmd_document.specs.Documents.{inline, no_inlines, paragraph, heading, list, no_blocks, block, no_items}
use Rattle.htmd_document.specs.Documents.{item, element}
use Rattle.htmd_document.specs.declared.document.AttributeName.TheVariants.{ColumnSpan}
use Rattle.htmd_document.specs.declared.document.BlockElement.TheVariants.{Table, Row, Cell}
use Rattle.htmd_document.specs.NormalDocuments.{is_normal_document}
use Rattle.htmd_commonmark.specs.declared.options.DocumentOptions.{DocumentOptions}
use Rattle.htmd_commonmark.specs.DocumentMarkdown.{markdown_of}
use Rattle.htmd_commonmark_reading.specs.Reading.{document}
use lib.Utf8.{encode}

abbrev options : DocumentOptions
options = record {
  heading_style = Atx;
  hr_style = Dashes;
  br_style = TwoSpaces;
  link_style = Referenced;
  code_block_fence = Backticks;
  bullet_list_marker = Dash;
  ul_bullet_spacing = 1;
  ol_number_spacing = 1;
}

abbrev letters : List ℕ → Inlines
letters s = inline (text s) no_inlines

abbrev one : Block → Blocks
one b = block b no_blocks

-- a heading with code, a list of a task, and a link in a format
abbrev page : Blocks
page =
    block (heading 2 (inline (text (codes "a ")) (inline (code (codes "b*")) no_inlines)))
    (block (list None true (item (one (paragraph (inline (task true) (letters (codes " c"))))) no_items))
    (one (paragraph (inline (formatted Strong (inline (link (codes "/d") None (letters (codes "e_")))
    no_inlines)) no_inlines))))

pub page_is_normal : is_normal_document page ≡ true
unfolding is_utf8 chars encode
page_is_normal = refl

pub page_is_written : markdown_of options page ≡ codes "## a `b*`\n\n- [x] c\n\n**[e\\_][1]**\n\n[1]: /d"
unfolding chars encode ucd_category digits
page_is_written = refl

pub page_is_read : document (markdown_of options page) ≡ Some page
unfolding chars encode ucd_category digits
page_is_read = refl

-- a space at a paragraph's beginning is gone, so no normal paragraph has one
pub space_is_lost : document (markdown_of options (one (paragraph (letters (codes " a"))))) ≡ Some
    (one (paragraph (letters (codes "a"))))
unfolding chars encode ucd_category digits
space_is_lost = refl

-- nor does a format begin with a break: after the break its tag would be alone in its line, and HTML
abbrev begins_with_break : Blocks
begins_with_break =
    one (paragraph (inline (formatted Superscript (inline line_break (letters (codes "a")))) no_inlines))

pub no_break_first : is_normal_document begins_with_break ≡ false
unfolding is_utf8 chars encode
no_break_first = refl

pub break_is_not_read : document (markdown_of options begins_with_break) ≡ None
unfolding chars encode ucd_category digits
break_is_not_read = refl

-- a table in an item: a cell that holds a list, and one with a text alone; the blank lines in it make the list loose
abbrev rich : Blocks
rich = one (list None false (item (one (element Table [] (one (element Row []
    (block (element Cell (record { name = ColumnSpan; value = codes "2" } ∷ [])
    (one (list None true (item (one (paragraph (letters (codes "a")))) no_items))))
    (one (element Cell [] (one (paragraph (letters (codes "b < c"))))))))))) no_items))

pub rich_is_normal : is_normal_document rich ≡ true
unfolding is_utf8 chars encode
rich_is_normal = refl

pub rich_is_written : markdown_of options rich
    ≡ codes "- <table>\n  <tr>\n  <td colspan=\"2\">\n\n  - a\n\n  </td>\n  <td>b &lt; c</td>\n  </tr>\n  </table>"
unfolding chars encode ucd_category digits
rich_is_written = refl

pub rich_is_read : document (markdown_of options rich) ≡ Some rich
unfolding chars encode ucd_category digits
rich_is_read = refl

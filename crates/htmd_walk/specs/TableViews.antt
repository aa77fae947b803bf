-- What the parts of a table stand for; only private clauses use this.
use Rattle.std.specs.Prelude.{List, map}
use Rattle.htmd_markdown.specs.Tables.{texts, row_texts}
use Rattle.htmd_walk.specs.declared.element_handler.table.TableTexts as written
use Rattle.htmd_walk.specs.declared.element_handler.table_layout.Part as code
use Rattle.htmd_walk.specs.declared.element_handler.table_layout.Layout as codes
use Rattle.htmd_walk.specs.TableLayouts.{Part, Layout, part}
use Rattle.htmd_walk.specs.Tables.{TableTexts}

abbrev pub part_view : code.Part → Part
part_view p = part p.kind p.nodes.items

abbrev pub parts_view : List code.Part → List Part
parts_view parts = map part_view parts

abbrev pub layout_view : codes.Layout → Layout
layout_view layout = record {
  parts = parts_view layout.parts.items;
  head_seen = layout.head_seen;
  has_headers = layout.has_headers;
  has_rows = layout.has_rows;
}

abbrev pub texts_view : written.TableTexts → TableTexts
texts_view t = record {
  captions = texts t.captions.items;
  headers = texts t.headers.items;
  rows = map row_texts t.rows.items;
  markdown_translated = t.markdown_translated;
}

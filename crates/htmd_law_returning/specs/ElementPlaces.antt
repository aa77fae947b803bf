-- Where elements of HTML stand in a document.
use Rattle.std.specs.Prelude.{Bool, true, false, ◌&&◌, ◌||◌}
use Rattle.htmd_document.specs.declared.document.BlockElement.{BlockElement}
use Rattle.htmd_document.specs.declared.document.BlockElement.TheVariants as an

-- what blocks stand in: a `details`, a figure, a list of terms, a table, a row, or anything else
pub data Holder : Type 0 where
  in_flow : Holder
  in_details : Holder
  in_figure : Holder
  in_terms : Holder
  in_table : Holder
  in_row : Holder

-- which of these an element is
abbrev pub inside : BlockElement → Holder
inside an.Details = in_details
inside an.Figure = in_figure
inside an.Terms = in_terms
inside an.Table = in_table
inside an.Row = in_row
inside n = in_flow

-- the parts of each stand nowhere else
abbrev pub stands_in : Holder → BlockElement → Bool
stands_in in_details an.Summary = true
stands_in in_figure an.FigureCaption = true
stands_in in_terms an.Term = true
stands_in in_terms an.Meaning = true
stands_in in_table an.Caption = true
stands_in in_table an.Row = true
stands_in in_row an.Cell = true
stands_in in_row an.HeaderCell = true
stands_in in_flow an.Details = true
stands_in in_flow an.Terms = true
stands_in in_flow an.Figure = true
stands_in in_flow an.Table = true
stands_in h n = false

-- blocks of all kinds stand there too
abbrev pub is_mixed : Holder → Bool
is_mixed in_flow = true
is_mixed in_details = true
is_mixed in_figure = true
is_mixed h = false

-- an element stands there as a part, or as any block
abbrev pub stands_here : Holder → BlockElement → Bool
stands_here o name = stands_in o name || (is_mixed o && stands_in in_flow name)

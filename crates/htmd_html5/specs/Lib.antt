-- The parsing of any page by the HTML Standard (13.2.6), in reading order: tokens and runs of text; what a mode
-- answers; rules that many modes share; the modes in the standard's order; foreign content; what a token does; the
-- document; the tree that it is laid out as. `AtOnce` only says where the program puts a text at once.
pub mod Tokens
pub mod Runs
pub mod Outcomes
pub mod SharedRules
pub mod Initial
pub mod BeforeHtml
pub mod BeforeHead
pub mod InHead
pub mod InHeadNoscript
pub mod AfterHead
pub mod BodyStarts
pub mod BodyEnds
pub mod InBody
pub mod InTable
pub mod InCaption
pub mod InColumnGroup
pub mod InTableBody
pub mod InRow
pub mod InCell
pub mod InSelect
pub mod InTemplate
pub mod AfterBody
pub mod InFrameset
pub mod Modes
pub mod ForeignContent
pub mod Processing
pub mod Texts
pub mod Feeding
pub mod Layout
pub mod LayoutViews
pub mod AtOnce
pub mod Html5Documents

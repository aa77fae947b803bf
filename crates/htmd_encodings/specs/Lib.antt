-- How the text of a page's bytes is found, in reading order: labels, the indexes of single-byte encodings, UTF-16, the
-- encodings with characters of several bytes, the label in a text, a tag's attributes, what they say, the search, the
-- encoding and the text. The last two modules serve private functions alone.
pub mod Labels
pub mod Indexes
pub mod Utf16
pub mod Sequences
pub mod Gb18030
pub mod Big5
pub mod EucJp
pub mod ShiftJis
pub mod EucKr
pub mod MultiByte
pub mod Iso2022Jp
pub mod ContentLabels
pub mod Attributes
pub mod Declarations
pub mod Prescan
pub mod Decoding
pub mod Views
pub mod PrescanViews

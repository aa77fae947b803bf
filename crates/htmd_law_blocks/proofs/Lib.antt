pub mod LinesLemmas
pub mod EndsLemmas
pub mod ChainsLemmas
pub mod PiecesLemmas
pub mod MarkersLemmas
pub mod LeavesLemmas
pub mod TextsLemmas
pub mod RunsLemmas
pub mod CellsLemmas
pub mod RowsLemmas
pub mod TablesLemmas
pub mod FlatLemmas
pub mod PieceTextsLemmas
pub mod DocumentPieces
pub mod DocumentMarkers
pub mod DocumentReadBack
pub mod GroupsLemmas
pub mod CollectedLemmas
pub mod DefinitionsLemmas
mod NormalExamples
mod LawExamples

-- The laws of documents.
pub mod DocumentTexts
pub mod SimpleTexts
pub mod SimpleForms
pub mod TreeForms
pub mod SaidTexts
pub mod PageTexts
pub mod TextLaws
pub mod DocumentWrappers
pub mod TreeWrappers
pub mod WrapperLaws
pub mod TableLengths
pub mod NormalLaws

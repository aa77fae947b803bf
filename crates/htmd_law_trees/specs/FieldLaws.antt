-- The law of the fields of a row.
use Rattle.std.specs.Prelude.{◌≡◌, ℕ, List}
use Rattle.htmd_streams.specs.Fields.{read_field, written_field}

-- A text that is written as a field is read as that text.
abbrev pub FieldsReadBack : Type 0
FieldsReadBack = (text : List ℕ) → read_field (written_field text) ≡ text

-- Worked examples of rows and their fields.
use Rattle.std.proofs.Common.{◌≡◌, [], ◌∷◌, ◌++◌, codes, refl}
use Rattle.htmd_streams.specs.Fields.{read_field, written_field}
use Rattle.htmd_streams.specs.Lines.{rows, other_fields, last_field}

-- escapes by letters, by octal and by hexadecimal digits, and of any other character
fields_read : (read_field (codes "a\\tb") ≡ codes "a\tb")
    × (read_field (codes "\\x4A\\112J\\x4\\x") ≡ codes "JJJ" ++ 4 ∷ codes "x")
    × (read_field (codes "\\q\\\\\\") ≡ codes "q\\\\")
fields_read = (refl, refl, refl)

-- a backslash, a line feed and a tab are escaped, and a quotation mark isn't
fields_written : written_field (codes "a\tb\\\n'") ≡ codes "a\\tb\\\\\\n'"
fields_written = refl

-- a last line without a line feed is a row, an empty line is one, and after the end mark there is none
rows_split : (rows (codes "a\n\nb") ≡ codes "a" ∷ [] ∷ codes "b" ∷ [])
    × (rows (codes "a\n\\.\nb\n") ≡ codes "a" ∷ []) × (rows [] ≡ [])
rows_split = (refl, refl, refl)

-- the last field begins after the last tab
row_parts : (other_fields (codes "1\ten\tx") ≡ codes "1\ten\t") × (last_field (codes "1\ten\tx") ≡ codes "x")
row_parts = (refl, refl)

-- Worked rows of tables (GFM 0.29, 4.10). Each holds by computing.
use Rattle.std.proofs.Common.{◌≡◌, refl, [], ◌∷◌, codes}
use Rattle.htmd_document.specs.declared.document.Alignment.{Alignment}
use Rattle.htmd_commonmark_reading.specs.Markup.{no_inlines, heading, quote, table, block, code}
use Rattle.htmd_commonmark_reading.specs.Reading.{read}
use Rattle.htmd_commonmark_reading.proofs.ExampleTexts.{plain, text, one, two}

-- rows have as many cells as the header
pub table_rows : read (codes "| a | b |\n|:--|--:|\n| c\n| d | e | f |\n")
    ≡ one (table (Alignment.Left ∷ Alignment.Right ∷ []) (plain (codes "a") ∷ plain (codes "b") ∷ [])
    ((plain (codes "c") ∷ no_inlines ∷ []) ∷ (plain (codes "d") ∷ plain (codes "e") ∷ []) ∷ []))
table_rows = refl

-- a bar with a backslash parts no cells, in code neither
pub bars : read (codes "a\\|b|`\\|`\n-|:-:\n")
    ≡ one (table (Alignment.None ∷ Alignment.Center ∷ []) (plain (codes "a|b") ∷ code (codes "|") no_inlines
    ∷ []) [])
bars = refl

-- the header is a paragraph's last line, and a block ends a table
pub between_blocks : read (codes "a\n|b|\n|-|\n> c\n")
    ≡ block (text (codes "a"))
    (two (table (Alignment.None ∷ []) (plain (codes "b") ∷ []) []) (quote (one (text (codes "c")))))
between_blocks = refl

pub other_count : read (codes "|a|b|\n|-|\n") ≡ one (text (codes "|a|b| |-|"))
other_count = refl

pub no_delimiters : read (codes "a|b\n---\n") ≡ one (heading 2 (plain (codes "a|b")))
no_delimiters = refl

-- With the rows that are left, all are written.
use Rattle.std.proofs.Common.{◌≡◌, ◌++◌, [], ◌∷◌}
use Rattle.htmd_commonmark_reading.specs.Lists.{row_inlines}
use Rattle.htmd_commonmark_reader.specs.References.{references_of}
use Rattle.htmd_commonmark_reader.proofs.TablePartsLemmas.{rows_from, texts_of}
use Rattle.htmd_commonmark_reader.proofs.table_parts.push_body.Given as goal
use Rattle.htmd_parts.specs.PartViews.{all_parts_of}
use Rattle.htmd_parts.specs.Parts.{begun, ended, body, body_end, rows_parts}

abbrev pub invariant-loop-row : goal.invariant-loop-row
invariant-loop-row l =
    rows_from (references_of l.references) l.alignments l.row-index l.rows (all_parts_of l.parts.items)
    (ended body_end ∷ [])
    ≡ all_parts_of l.fn.parts.items ++ (begun body
    ∷ rows_parts l.alignments (row_inlines (references_of l.references) (texts_of l.rows)) (ended body_end ∷ []))

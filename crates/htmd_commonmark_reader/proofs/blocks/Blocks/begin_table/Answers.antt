-- A table without rows.
use Rattle.std.proofs.Common.{◌∙◌, [], ap, map, refl}
use Rattle.htmd_commonmark_reading.specs.Tables.{cells}
use Rattle.htmd_commonmark_reader.specs.Rows.{strings}
use Rattle.htmd_commonmark_reader.specs.declared.blocks.Blocks.{Blocks}
use Rattle.htmd_commonmark_reader.specs.declared.leaves.Leaf.TheVariants.{Table}
use Rattle.htmd_commonmark_reader.proofs.BlockStepsLemmas.{table_set}
use Rattle.htmd_commonmark_reader.proofs.blocks.Blocks.begin_table.Goals as goal

pub returns : goal.returns
returns c = λ p done g ls s h i.
    let mid = c.close_earlier.new.self in
    let a = c.args.alignments in
    let n : Blocks = record {
      closed = mid.closed;
      definitions = mid.definitions;
      boxes = mid.boxes;
      is_empty = mid.is_empty;
      gap = mid.gap;
      leaf = Table (record { alignments = a; header = c.in_ok-header.header; rows = c.new.result });
    } in
    table_set p done g ls s a.items mid n (c.in_ok-close_earlier.ensures p done g ls h i.earlier)
    (record { closed_is = refl; definitions_are = refl; boxes_are = refl; none = refl; gap_is = refl }) (
      a.items,
      cells s,
      [],
      refl,
      record {
        alignments_are = refl;
        header_is = c.in_ok-header.ensures ∙ ap cells i.last;
        rows = ap (map (λ r. strings r.items)) c.new.ensures.items;
      },
    )

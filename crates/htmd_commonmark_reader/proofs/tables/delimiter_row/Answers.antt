-- A cell of another form, or one more alignment.
use Rattle.std.proofs.Common.{◌∙◌, ap, sym, rules}
use Rattle.htmd_commonmark_reading.specs.Tables.{is_delimiter, alignment_of}
use Rattle.htmd_commonmark_reader.specs.Rows.{raw_cells}
use Rattle.htmd_commonmark_reader.proofs.DelimitersLemmas.{delimiter_none, delimiter_more}
use Rattle.htmd_commonmark_reader.proofs.tables.delimiter_row.Goals as goal

pub returns-then-not-is_delimiter : goal.returns-then-not-is_delimiter
returns-then-not-is_delimiter c =
    let raw = c.in-Some.raw in
    let same = c.as_bytes.ensures.value ∙ c.stripped-cell.ensures in
    sym (delimiter_none c.loop-raw.alignments.items raw.cell.now (raw_cells c.loop-raw.more c.loop-raw.rest.now)
    (raw_cells raw.more raw.rest.now) c.in-Some.ensures.cells
    (ap is_delimiter (sym same) ∙ sym c.is_delimiter.ensures ∙ c.if-not-is_delimiter.true))
    ∙ c.loop-raw.invariant.reads

pub loop-raw-preserved : goal.loop-raw-preserved
loop-raw-preserved c =
    let raw = c.in-Some.raw in
    let same = c.as_bytes.ensures.value ∙ c.stripped-cell.ensures in
    let again = c.as_bytes-in-Some.ensures.value ∙ c.stripped-cell.ensures in
    record {
      text = search rules;
      reads = delimiter_more c.loop-raw.alignments.items raw.cell.now (raw_cells c.loop-raw.more c.loop-raw.rest.now)
          (raw_cells raw.more raw.rest.now) c.in-Some.ensures.cells c.push.new.self.items c.alignment_of.result
          (ap is_delimiter (sym same) ∙ sym c.is_delimiter.ensures ∙ c.if-not-is_delimiter.false)
          c.in_ok-push.ensures.items (c.alignment_of.ensures ∙ ap alignment_of again)
          ∙ c.loop-raw.invariant.reads;
    }

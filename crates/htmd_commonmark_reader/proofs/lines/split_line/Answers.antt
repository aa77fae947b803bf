-- The first line ends where a line end stands.
use Rattle.htmd_commonmark_reader.specs.LineViews.{is_in_line}
use Rattle.htmd_commonmark_reader.proofs.LineSizesLemmas.{run_within}
use Rattle.htmd_commonmark_reader.proofs.LinesLemmas.{first_line, first_shorter}
use Rattle.htmd_commonmark_reader.proofs.lines.split_line.Goals as goal

pub returns-clause-lines : goal.returns-clause-lines
returns-clause-lines c =
    rw (c.past_line_end.ensures, c.split_run.ensures.run, c.split_run.ensures.rest)
    (first_line c.args.text.now c.requires)

pub returns-clause-shorter : goal.returns-clause-shorter
returns-clause-shorter c =
    rw (c.past_line_end.ensures, c.split_run.ensures.rest) (first_shorter c.args.text.now c.requires)

pub returns-clause-within : goal.returns-clause-within
returns-clause-within c = rw c.split_run.ensures.run (run_within is_in_line c.args.text.now)

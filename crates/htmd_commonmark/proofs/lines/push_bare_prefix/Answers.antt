-- Nothing is due.
use Rattle.std.proofs.Common.{sym, ◌∙◌, string_bytes}
use Rattle.htmd_commonmark.proofs.PagesLemmas.{written_at_end}
use Rattle.htmd_commonmark.proofs.lines.push_bare_prefix.Goals as goal

pub returns-then-is_written : goal.returns-then-is_written
returns-then-is_written c = written_at_end (string_bytes c.args.out.now) c.args.prefix.now c.args.written c.args.gap
    (sym c.is_written.ensures ∙ c.if-is_written.true)

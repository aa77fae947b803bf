-- Nothing is due, or spaces and the rest of the prefix.
use Rattle.std.proofs.Common.{◌∙◌, sym, ap, replicate, ◌++◌, append_assoc, string_bytes}
use Rattle.htmd_lexical.proofs.Cases.{pushed}
use Rattle.htmd_lexical.specs.Characters.{space}
use Rattle.htmd_commonmark.proofs.PagesLemmas.{written_due}
use Rattle.htmd_commonmark.proofs.lines.push_due.Goals as goal

pub returns : goal.returns
returns c =
    pushed c.push_str.result (string_bytes c.push_str.new.self) (string_bytes c.push_repeated.new.text
    ++ c.range_from.result.now) (string_bytes c.push_repeated.new.text) c.push_str.ensures.bytes
    (ap (λ l. l ++ c.range_from.result.now) c.in_ok-push_repeated.ensures.ok
    ∙ ap (λ l. (string_bytes c.args.out.now ++ replicate c.args.gap space) ++ l) c.range_from.ensures.value
    ∙ append_assoc (string_bytes c.args.out.now) (replicate c.args.gap space) _)

pub returns-then-is_written : goal.returns-then-is_written
returns-then-is_written c = written_due (string_bytes c.args.out.now) c.args.prefix.now c.args.written c.args.gap
    (sym c.is_written.ensures ∙ c.if-is_written.true)

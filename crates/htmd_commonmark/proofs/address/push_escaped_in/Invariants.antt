-- What was written, and the piece that waits.
use Rattle.std.specs.String.{string_bytes}
use Rattle.htmd_markdown.proofs.RewritingLemmas.{Rewriting}
use Rattle.htmd_commonmark.specs.Addresses.{escaped_in}
use Rattle.htmd_commonmark.proofs.address.push_escaped_in.Given as goal

abbrev pub invariant-loop-i : goal.invariant-loop-i
invariant-loop-i l = Rewriting (escaped_in l.signs) l.text (string_bytes l.fn.out) (string_bytes l.out) l.from l.i

-- The stack so far, and the tokens that are left.
use Rattle.std.proofs.Common.{List, drop}
use Rattle.htmd_commonmark_reading.specs.Markup.{no_inlines}
use Rattle.htmd_commonmark_reading.specs.DelimiterRuns.{Token, base, with_tokens}
use Rattle.htmd_commonmark_reader.specs.ReadingRuns.{AreTokens}
use Rattle.htmd_commonmark_reader.proofs.TokensLemmas.{AtToken}
use Rattle.htmd_commonmark_reader.proofs.emphasis.process.Given as goal

abbrev pub invariant-loop-run : goal.invariant-loop-run
invariant-loop-run l =
    (ts : List Token) → AreTokens ts l.runs l.offset l.fn.slots
    → AtToken (with_tokens (base no_inlines) ts) l.openers l.offset (drop l.run-index l.runs) l.slots

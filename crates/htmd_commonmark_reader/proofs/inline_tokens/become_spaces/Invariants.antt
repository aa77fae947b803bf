-- All were spaces so far.
use Rattle.std.proofs.Common.{◌≡◌, drop}
use Rattle.std.specs.List.{list_all}
use Rattle.htmd_commonmark_reading.specs.InlineTokens as spec
use Rattle.htmd_commonmark_reader.proofs.inline_tokens.become_spaces.Given as goal

abbrev pub invariant-loop-byte : goal.invariant-loop-byte
invariant-loop-byte l =
    list_all spec.is_space (spec.in_one_line (drop l.byte-index l.text))
    ≡ list_all spec.is_space (spec.in_one_line l.text)

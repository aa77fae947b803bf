-- The literal bytes from the front, and what is left.
use Rattle.std.proofs.Common.{◌≡◌, ◌+◌, length, drop}
use Rattle.htmd_lexical.specs.CharacterClasses.{leading_run}
use Rattle.htmd_html5_tokens.specs.AppendedCharacters.{is_literal}
use Rattle.htmd_html5_tokens.proofs.contents.literal_len.Given as goal

abbrev pub invariant-loop-len : goal.invariant-loop-len
invariant-loop-len l =
    l.len + length (leading_run (is_literal l.reading) (drop l.len l.bytes))
    ≡ length (leading_run (is_literal l.reading) l.bytes)

-- What the loop of `text_len` keeps.
use Rattle.std.proofs.Common.{◌≡◌, ◌+◌, length, drop}
use Rattle.htmd_lexical.specs.CharacterClasses.{up_to}
use Rattle.htmd_html5_tokens.specs.NextToken.{begins_markup}
use Rattle.htmd_html5_tokens.proofs.markup.text_len.Given as goal

abbrev pub invariant-loop-len : goal.invariant-loop-len
invariant-loop-len l =
    l.len + length (up_to begins_markup (drop l.len l.bytes)) ≡ length (up_to begins_markup l.bytes)

-- What the loop of `shown_text` keeps.
use Rattle.std.proofs.Common.{◌≡◌, encode_utf8_all, filter, string_bytes}
use Rattle.htmd_shown.specs.ShownTexts.{is_shown}
use Rattle.htmd_shown.proofs.shown_text.shown_text.Given as goal

abbrev pub invariant-loop-c : goal.invariant-loop-c
invariant-loop-c l = string_bytes l.shown ≡ encode_utf8_all (filter is_shown l.yielded)

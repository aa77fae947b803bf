use Rattle.std.proofs.Common.{◌≡◌, encode_utf8_all, fold, string_bytes}
use Rattle.htmd_shown.specs.AllTexts.{with_character, no_lines}
use Rattle.htmd_shown.proofs.texts.with_line_feeds.Given as goal

abbrev pub invariant-loop-c : goal.invariant-loop-c
invariant-loop-c l = record {
  written : string_bytes l.out ≡ encode_utf8_all (fold with_character no_lines l.yielded).written;
  after_return : l.after_return ≡ (fold with_character no_lines l.yielded).after_return;
}

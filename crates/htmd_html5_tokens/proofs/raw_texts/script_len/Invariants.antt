-- How the script is escaped so far.
use Rattle.std.proofs.Common.{◌≡◌, ◌+◌, drop}
use Rattle.htmd_html5_tokens.specs.RawTexts.{script_len}
use Rattle.htmd_html5_tokens.specs.declared.raw_texts.Escape.TheVariants.{Unescaped}
use Rattle.htmd_html5_tokens.proofs.raw_texts.script_len.Given as goal

abbrev pub invariant-loop-i : goal.invariant-loop-i
invariant-loop-i l = l.i + script_len l.escape (drop l.i l.bytes) ≡ script_len Unescaped l.bytes

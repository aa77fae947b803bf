-- A text without a blank line stays as it is.
use Rattle.std.proofs.Common.{◌≡◌, ◌∙◌, ap, false, string_bytes, sym}
use Rattle.std.specs.Str.{chars}
use Rattle.std.proofs.lemmas.Str.{IsUtf8-string_bytes}
use Rattle.htmd_values.specs.SerialiserSteps.{has_blank_line}
use Rattle.htmd_values.proofs.RawBlocksLemmas.{without_blank_lines-none}
use Rattle.htmd_nodes.proofs.serialiser.without_blank_lines.Goals as goal

pub returns-then-not-has_blank_line : goal.returns-then-not-has_blank_line
returns-then-not-has_blank_line c =
    let s = string_bytes c.args.text in
    let none : has_blank_line (chars s) ≡ false = ap (λ x. has_blank_line (chars x)) (sym c.as_str.ensures.value)
    ∙ sym c.has_blank_line.ensures ∙ c.if-not-has_blank_line.true in
    without_blank_lines-none s (IsUtf8-string_bytes c.args.text) none

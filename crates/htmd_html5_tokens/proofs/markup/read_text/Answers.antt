-- Plain characters up to markup or the end.
use Rattle.std.proofs.Common.{◌∙◌, ap, sym}
use Rattle.htmd_html5_tokens.specs.AppendedCharacters.{ends_text}
use Rattle.htmd_html5_tokens.proofs.NextTokenLemmas.{plain_text}
use Rattle.htmd_html5_tokens.proofs.markup.read_text.Goals as goal

pub returns : goal.returns
returns c =
    plain_text c.args.text.now _ _ _ c.split_literals.ensures.front c.split_literals.ensures.rest
    (ap ends_text (sym c.as_bytes.ensures.value) ∙ sym c.ends_text.ensures ∙ c.if-not-ends_text.false)
    c.in_ok-read.ensures.ok

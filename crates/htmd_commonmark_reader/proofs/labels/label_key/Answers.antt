-- Too long, or folded.
use Rattle.std.proofs.Common.{◌∙◌, ap, sym}
use Rattle.std.specs.Prelude.{encode_utf8_all}
use Rattle.htmd_commonmark_reading.specs.Characters.{is_white, stripped_end}
use Rattle.htmd_commonmark_reading.specs.LinkDefinitions.{single_spaced}
use Rattle.htmd_commonmark_reader.proofs.LabelsLemmas.{long_key, folded_key}
use Rattle.htmd_commonmark_reader.proofs.labels.label_key.Goals as goal

pub returns-then-is_long : goal.returns-then-is_long
returns-then-is_long c =
    c.new.ensures.bytes
    ∙ sym (ap encode_utf8_all (long_key c.args.label.now (sym c.is_long.ensures ∙ c.if-is_long.true)))

pub returns : goal.returns
returns c =
    let text = c.as_str.ensures.value ∙ c.in_ok-text.ensures ∙ ap single_spaced c.stripped_end.ensures
    ∙ ap (λ t. single_spaced (stripped_end is_white t)) c.past_white.ensures in
    c.in_ok-key.ensures
    ∙ ap encode_utf8_all (folded_key c.args.label.now c.as_str.result.now
    (sym c.is_long.ensures ∙ c.if-is_long.false) text)

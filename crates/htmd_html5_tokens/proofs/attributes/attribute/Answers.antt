-- The name ends before an ASCII character.
use Rattle.std.proofs.Common.{◌∙◌}
use Rattle.htmd_html5_tokens.proofs.TagsLemmas.{attribute_cut, attribute_split}
use Rattle.htmd_html5_tokens.proofs.attributes.attribute.Goals as goal

pub split_at-requires : goal.split_at-requires
split_at-requires c =
    let run = rw c.as_bytes.ensures.value at c.run_len-len.ensures.value in
    attribute_cut c.args.text.now c.run_len-len.result c.requires run

pub returns : goal.returns
returns c =
    let run = rw c.as_bytes.ensures.value at c.run_len-len.ensures.value in
    c.after_name.ensures
    ∙ attribute_split c.args.text.now c.run_len-len.result c.requires run c.split_at.result.0.now
    c.split_at.result.1.now c.split_at.ensures.front c.split_at.ensures.back

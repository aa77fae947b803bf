-- A raw text ends before `<`, or at the end.
use Rattle.htmd_html5_tokens.proofs.RawTextsLemmas.{raw_cut}
use Rattle.htmd_html5_tokens.proofs.tokenizer.split_raw.Goals as goal

pub split_at-requires : goal.split_at-requires
split_at-requires c =
    let same = rw c.as_bytes.ensures.value at c.raw_text_len.ensures.value in
    raw_cut c.args.element c.args.text.now c.raw_text_len.result same

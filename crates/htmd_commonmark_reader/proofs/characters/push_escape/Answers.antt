-- Punctuation is ASCII.
use Rattle.std.proofs.Common.{◌∙◌, ap, sym}
use Rattle.htmd_commonmark_reading.specs.Characters.{begins_with_punctuation}
use Rattle.htmd_commonmark_reader.proofs.PiecesLemmas.{punctuation_cut}
use Rattle.htmd_commonmark_reader.proofs.characters.push_escape.Goals as goal

pub split_at-requires : goal.split_at-requires
split_at-requires c =
    punctuation_cut c.args.after.now c.utf8.after
    (ap begins_with_punctuation (sym c.as_bytes.ensures.value) ∙ sym c.begins_with_punctuation.ensures
    ∙ c.if-not-begins_with_punctuation.false)

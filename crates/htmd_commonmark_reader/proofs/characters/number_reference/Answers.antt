-- Digits of either base.
use Rattle.std.proofs.Common.{◌∙◌, option_map, sym}
use Rattle.htmd_commonmark_reader.specs.Pieces.{piece_of}
use Rattle.htmd_commonmark_reader.proofs.PiecesLemmas.{number_hex, number_decimal}
use Rattle.htmd_commonmark_reader.proofs.characters.number_reference.Goals as goal

pub returns-then-is_x : goal.returns-then-is_x
returns-then-is_x c =
    number_hex c.args.bytes.now c.hexdigits_len.result (option_map piece_of c.numbered.result)
    c.if-bytes-lt2.false (sym c.is_x.ensures ∙ c.if-is_x.true) c.hexdigits_len.ensures.value c.numbered.ensures

pub returns : goal.returns
returns c =
    number_decimal c.args.bytes.now c.digits_len.result (option_map piece_of c.numbered-2.result)
    c.if-bytes-lt2.false (sym c.is_x.ensures ∙ c.if-is_x.false) c.digits_len.ensures.value c.numbered-2.ensures

-- The first character is ASCII.
use Rattle.htmd_commonmark_reader.proofs.PiecesLemmas.{special_cut}
use Rattle.htmd_commonmark_reader.proofs.characters.push_special.Goals as goal

pub range_from-after-requires : goal.range_from-after-requires
range_from-after-requires c = λ _.
    special_cut c.args.escapes c.args.text.now c.utf8.text c.requires.more c.requires.special

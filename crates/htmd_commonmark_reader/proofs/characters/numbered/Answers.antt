-- Digits, and the `;` after them.
use Rattle.htmd_commonmark_reader.proofs.PiecesLemmas.{numbered_known}
use Rattle.htmd_commonmark_reader.proofs.characters.numbered.Goals as goal

pub returns : goal.returns
returns c =
    numbered_known c.args.base c.args.before c.args.len c.args.most c.number.result
    c.character_numbered-character.result c.args.bytes.now c.first_is.result c.if-len-eq0.false c.if-len-most.false
    c.requires.within c.first_is.ensures c.if-not-first_is.false c.number.ensures
    c.character_numbered-character.ensures

-- A name that ends in `;`, and one that doesn't.
use Rattle.htmd_commonmark_reader.proofs.PiecesLemmas.{no_semicolon, name_missing, name_known}
use Rattle.htmd_commonmark_reader.proofs.characters.name_reference.Goals as goal

pub returns-then-not-first_is : goal.returns-then-not-first_is
returns-then-not-first_is c =
    no_semicolon c.args.bytes.now c.alphanumeric_len-len.result c.alphanumeric_len-len.ensures.value
    c.first_is.result c.first_is.ensures c.if-not-first_is.true

pub returns-in-Some : goal.returns-in-Some
returns-in-Some c =
    name_known c.args.bytes.now c.alphanumeric_len-len.result c.alphanumeric_len-len.ensures.value
    c.first_is.result c.in-Some.characters.now c.first_is.ensures c.if-not-first_is.false c.in-Some.ensures

pub returns-in-None : goal.returns-in-None
returns-in-None c =
    name_missing c.args.bytes.now c.alphanumeric_len-len.result c.alphanumeric_len-len.ensures.value
    c.first_is.result c.first_is.ensures c.if-not-first_is.false c.in-None.ensures

-- Digits, and what ends them.
use Rattle.std.proofs.lemmas.Str.{IsCharBoundary-start}
use Rattle.htmd_html5_tokens.proofs.ReferencesLemmas.{number_piece, number_cut}
use Rattle.htmd_html5_tokens.proofs.references.reference_by_number.Goals as goal

pub returns-then-len-eq0-clause-end : goal.returns-then-len-eq0-clause-end
returns-then-len-eq0-clause-end c = λ p run a. IsCharBoundary-start c.args.after.now c.utf8.after

pub returns-clause-piece : goal.returns-clause-piece
returns-clause-piece c = λ p run.
    let closed = rw c.as_bytes-bytes.ensures.value at c.semicolon_len.ensures in
    let digits = rw c.as_bytes-bytes.ensures.value at c.number.ensures in
    number_piece p c.args.base c.args.from c.args.len c.args.after.now run c.number.result
    c.character_numbered-value.result c.semicolon_len.result c.if-len-eq0.false closed digits
    c.character_numbered-value.ensures

pub returns-clause-end : goal.returns-clause-end
returns-clause-end c = λ p run a.
    let closed = rw c.as_bytes-bytes.ensures.value at c.semicolon_len.ensures in
    number_cut p c.args.base c.args.from c.args.len c.args.after.now run c.semicolon_len.result c.utf8.after a
    c.if-len-eq0.false closed

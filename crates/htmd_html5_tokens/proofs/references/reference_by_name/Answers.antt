-- A name that ends in `;`, and one that doesn't.
use Rattle.htmd_html5_tokens.proofs.ReferencesLemmas.{no_semicolon, name_missing, name_known, name_cut}
use Rattle.htmd_html5_tokens.proofs.references.reference_by_name.Goals as goal

pub returns-then-not-first_is-clause-piece : goal.returns-then-not-first_is-clause-piece
returns-then-not-first_is-clause-piece c =
    let run = rw c.as_bytes-bytes.ensures.value at c.alphanumeric_len-len.ensures.value in
    let semicolon = rw c.as_bytes-bytes.ensures.value at c.first_is.ensures in
    no_semicolon c.args.in_value c.args.after.now c.alphanumeric_len-len.result run c.first_is.result _ semicolon
    c.if-not-first_is.true c.old_reference.ensures.piece

pub returns-in-Some-clause-piece : goal.returns-in-Some-clause-piece
returns-in-Some-clause-piece c =
    let run = rw c.as_bytes-bytes.ensures.value at c.alphanumeric_len-len.ensures.value in
    let semicolon = rw c.as_bytes-bytes.ensures.value at c.first_is.ensures in
    let found = rw c.as_bytes-bytes.ensures.value at c.in-Some.ensures in
    name_known c.args.in_value c.args.after.now c.alphanumeric_len-len.result run c.first_is.result _ semicolon
    c.if-not-first_is.false found

pub returns-in-Some-clause-end : goal.returns-in-Some-clause-end
returns-in-Some-clause-end c =
    let run = rw c.as_bytes-bytes.ensures.value at c.alphanumeric_len-len.ensures.value in
    let bound = rw c.as_bytes-bytes.ensures.value at c.alphanumeric_len-len.ensures.bound in
    let semicolon = rw c.as_bytes-bytes.ensures.value at c.first_is.ensures in
    name_cut c.args.in_value c.args.after.now c.alphanumeric_len-len.result run c.first_is.result semicolon
    c.if-not-first_is.false c.utf8.after bound

pub returns-in-None-clause-piece : goal.returns-in-None-clause-piece
returns-in-None-clause-piece c =
    let run = rw c.as_bytes-bytes.ensures.value at c.alphanumeric_len-len.ensures.value in
    let semicolon = rw c.as_bytes-bytes.ensures.value at c.first_is.ensures in
    let missing = rw c.as_bytes-bytes.ensures.value at c.in-None.ensures in
    name_missing c.args.in_value c.args.after.now c.alphanumeric_len-len.result run c.first_is.result _ semicolon
    c.if-not-first_is.false missing c.old_reference-in-None.ensures.piece

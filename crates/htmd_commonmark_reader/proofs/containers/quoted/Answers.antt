-- After `>` a line may be cut.
use Rattle.std.proofs.Common.{◌≡◌, true, rules}
use Rattle.htmd_commonmark_reader.proofs.ContainersLemmas.{quote_cut}
use Rattle.htmd_commonmark_reader.proofs.containers.quoted.Goals as goal

pub after_marker-requires-clause-marker : goal.after_marker-requires-clause-marker
after_marker-requires-clause-marker c =
    let first : c.first_is.result ≡ true = search rules in
    quote_cut c.args.line.text.now c.as_bytes.result.now c.first_is.result c.as_bytes.ensures.utf8
    c.as_bytes.ensures.value c.first_is.ensures first

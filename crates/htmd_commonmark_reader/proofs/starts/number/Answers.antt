-- After the sign of a number a line may be cut.
use Rattle.htmd_commonmark_reader.proofs.LineStartsLemmas.{number_cut}
use Rattle.htmd_commonmark_reader.proofs.starts.number.Goals as goal

pub after_marker-requires-clause-marker : goal.after_marker-requires-clause-marker
after_marker-requires-clause-marker c =
    number_cut c.args.content.text.now c.as_bytes.result.now c.in-Some.marker.len c.as_bytes.ensures.utf8
    c.as_bytes.ensures.value c.in-Some.ensures.place.0 c.in-Some.ensures.place.1 c.in-Some.ensures.ascii

-- What is left to prove of `strip_leading_whitespace`.
use Rattle.htmd_text.proofs.TrimsLemmas.{rest_boundary}
use Rattle.htmd_text.proofs.trim.StripWhitespace.strip_leading_whitespace.Goals as goal

pub range-requires-clause-end_boundary : goal.range-requires-clause-end_boundary
range-requires-clause-end_boundary g c =
    let cut = c.trim_start-rest.ensures.value in
    rest_boundary c.as_str-text.result.now c.trim_start-rest.result.now cut.0 c.trim_start-rest.utf8 cut.4 cut.1

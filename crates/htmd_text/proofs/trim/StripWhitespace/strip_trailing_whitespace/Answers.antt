-- What is left to prove of `strip_trailing_whitespace`.
use Rattle.htmd_text.proofs.TrimsLemmas.{front_boundary}
use Rattle.htmd_text.proofs.trim.StripWhitespace.strip_trailing_whitespace.Goals as goal

pub range_from-requires : goal.range_from-requires
range_from-requires g c =
    let cut = c.trim_end-rest.ensures.value in
    λ _. front_boundary c.as_str-text.result.now c.trim_end-rest.result.now cut.0 c.as_str-text.utf8
    c.trim_end-rest.utf8 cut.5 cut.4 cut.1

-- A `String` may be cut in front of the spaces at its end.
use Rattle.std.proofs.Common.{◌∙◌, sym}
use Rattle.std.specs.String.{string_bytes}
use Rattle.htmd_text.specs.Trims.{is_space}
use Rattle.htmd_text.proofs.TrimsLemmas.{counted_may_cut, space_of_ascii}
use Rattle.htmd_text.proofs.trim.trim_end_spaces.Goals as goal

pub truncate-requires : goal.truncate-requires
truncate-requires c =
    let s = string_bytes c.args.text.now in
    λ _. counted_may_cut is_space s c.as_bytes.result.now c.len.result c.trailing_len.result space_of_ascii
    c.as_bytes.ensures.value (c.len.ensures ∙ sym c.as_bytes.ensures.len) c.trailing_len.ensures.value

-- A `String` may be cut after the line feeds at its start.
use Rattle.std.proofs.Common.{ap, ◌∙◌}
use Rattle.std.specs.List.{prefix_len}
use Rattle.std.specs.String.{string_bytes}
use Rattle.std.proofs.lemmas.Str.{IsUtf8-string_bytes}
use Rattle.htmd_text.specs.Trims.{is_line_feed}
use Rattle.htmd_text.proofs.TrimsLemmas.{start_may_cut}
use Rattle.htmd_text.proofs.trim.trim_newlines.Goals as goal

pub replace_range-removed-requires-clause-end_boundary : goal.replace_range-removed-requires-clause-end_boundary
replace_range-removed-requires-clause-end_boundary c =
    let s = string_bytes c.args.text.now in
    let counted = c.leading_len-start.ensures.value ∙ ap (prefix_len is_line_feed) c.as_bytes.ensures.value in
    start_may_cut s c.leading_len-start.result (IsUtf8-string_bytes c.args.text.now) counted

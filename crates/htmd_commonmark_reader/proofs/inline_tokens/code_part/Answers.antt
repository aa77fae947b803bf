-- Spaces at both ends go, unless all are spaces.
use Rattle.std.proofs.Common.{◌≡◌, true, false, length, get_or, arith}
use Rattle.std.proofs.lemmas.Grind.{common_steps}
use Rattle.std.proofs.lemmas.Str.{lead_after_ascii}
use Rattle.std.specs.Prelude.{◌==◌, ◌-◌, if◌then◌else◌}
use Rattle.std.specs.List.{list_all}
use Rattle.htmd_commonmark_reading.specs.InlineTokens.{is_space, in_one_line}
use Rattle.htmd_commonmark_reader.proofs.InlineTokensLemmas.{short_code, whole_code, cut_code, space_is_ascii}
use Rattle.htmd_commonmark_reader.proofs.inline_tokens.code_part.Goals as goal

pub range-requires-clause-start_boundary : goal.range-requires-clause-start_boundary
range-requires-clause-start_boundary c =
    let s = c.args.content.now in
    let first : is_space (if get_or s 0 0 == 10 then 32 else get_or s 0 0) ≡ true =
    grind (arith, common_steps, c.as_bytes-bytes.ensures.value) in
    λ _. (
      grind (arith, common_steps, c.as_bytes-bytes.ensures.value),
      lead_after_ascii s 0 c.utf8.content (space_is_ascii (get_or s 0 0) first),
    )

pub returns-in-len2-up : goal.returns-in-len2-up
returns-in-len2-up c =
    let s = c.args.content.now in
    let first : is_space (if get_or s 0 0 == 10 then 32 else get_or s 0 0) ≡ true =
    grind (arith, common_steps, c.as_bytes-bytes.ensures.value) in
    let last : is_space (if get_or s (length s - 1) 0 == 10 then 32 else get_or s (length s - 1) 0) ≡ true =
    grind (arith, common_steps, c.as_bytes-bytes.ensures.value) in
    let other : list_all is_space (in_one_line s) ≡ false =
    grind (arith, common_steps, c.as_bytes-bytes.ensures.value) in
    cut_code s c.range.result.now (grind (arith, common_steps, c.as_bytes-bytes.ensures.value))
    (grind (arith, common_steps, c.range.ensures.value)) first last other

pub returns-in_default : goal.returns-in_default
returns-in_default c =
    short_code c.args.content.now (grind (arith, common_steps, c.as_bytes-bytes.ensures.value))

pub returns-in_default-3 : goal.returns-in_default-3
returns-in_default-3 c =
    let s = c.args.content.now in
    let last : is_space (if get_or s (length s - 1) 0 == 10 then 32 else get_or s (length s - 1) 0) ≡ false =
    grind (arith, common_steps, c.as_bytes-bytes.ensures.value) in
    whole_code s (grind (arith, common_steps, c.as_bytes-bytes.ensures.value)) last

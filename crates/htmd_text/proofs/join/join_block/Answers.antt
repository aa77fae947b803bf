-- What is left to prove of `join_block`.
use Rattle.std.proofs.Common.{◌≡◌, ◌-◌, ◌<◌, [], ◌∷◌, ◌++◌, length, take, drop, min, max, arith, sym, ap, ◌∙◌}
use Rattle.std.specs.Prelude.{replicate}
use Rattle.std.proofs.lemmas.Bool.Decides.{nat_tests}
use Rattle.std.proofs.lemmas.Slice.{between_from_start}
use Rattle.htmd_lexical.specs.Characters.{line_feed}
use Rattle.std.specs.List.{prefix_len, suffix_len}
use Rattle.std.specs.String.{string_bytes}
use Rattle.htmd_text.specs.Trims.{is_line_feed, trimmed_start, trimmed_end}
use Rattle.htmd_text.specs.Joins.{block_separator}
use Rattle.htmd_text.proofs.JoinsLemmas.{block_joined, seam_is}
use Rattle.htmd_text.proofs.TrimsLemmas.{start_may_cut, counted_may_cut, line_feed_of_ascii}
use Rattle.htmd_text.proofs.join.join_block.Goals as goal

pub truncate-requires : goal.truncate-requires
truncate-requires c =
    let s = string_bytes c.args.joined.now in
    λ _. counted_may_cut is_line_feed s c.as_bytes.result.now c.len.result c.trailing_len-before.result
    line_feed_of_ascii c.as_bytes.ensures.value (c.len.ensures ∙ sym c.as_bytes.ensures.len)
    c.trailing_len-before.ensures.value

pub range_from-requires : goal.range_from-requires
range_from-requires c =
    let cut = start_may_cut c.args.block.now c.leading_len-behind.result c.utf8.block
    (c.leading_len-behind.ensures.value ∙ ap (prefix_len is_line_feed) c.as_bytes-2.ensures.value) in
    λ some. (cut.0, cut.1 some)

pub returns : goal.returns
returns c =
    let out = string_bytes c.args.joined.now in
    let block = c.args.block.now in
    let size : length c.as_bytes.result.now ≡ length out = ap length c.as_bytes.ensures.value in
    let before : c.trailing_len-before.result ≡ suffix_len is_line_feed out = c.trailing_len-before.ensures.value
    ∙ ap (suffix_len is_line_feed) c.as_bytes.ensures.value in
    let behind : c.leading_len-behind.result ≡ prefix_len is_line_feed block = c.leading_len-behind.ensures.value
    ∙ ap (prefix_len is_line_feed) c.as_bytes-2.ensures.value in
    let kept : c.len.result - c.trailing_len-before.result ≡ length out - suffix_len is_line_feed out =
    omega (arith, size, before, c.as_bytes.ensures.len) in
    let front : string_bytes c.truncate.new.self ≡ trimmed_end is_line_feed out = c.truncate.ensures.bytes
    ∙ ap (λ n. take n out) kept in
    let count : c.min.result ≡ min (max (suffix_len is_line_feed out) (prefix_len is_line_feed block)) 2 =
    omega (arith, before, behind, c.max.ensures, c.min.ensures) in
    let between : c.range.result.now ≡ block_separator out block = c.range.ensures.value
    ∙ between_from_start (line_feed ∷ line_feed ∷ []) c.min.result
    ∙ seam_is c.min.result (omega (arith, c.min.ensures)) ∙ ap (λ n. replicate n line_feed) count in
    let back : c.range_from.result.now ≡ trimmed_start is_line_feed block = c.range_from.ensures.value
    ∙ ap (λ n. drop n block) behind in
    let some : 0 < length block = grind (arith, nat_tests) in
    c.in_ok-push_str-2.ensures.bytes
    ∙ ap (λ l. l ++ c.range_from.result.now)
    (c.in_ok-push_str.ensures.bytes ∙ ap (λ l. l ++ c.range.result.now) front)
    ∙ ap (λ l. (trimmed_end is_line_feed out ++ l) ++ c.range_from.result.now) between
    ∙ ap (λ l. (trimmed_end is_line_feed out ++ block_separator out block) ++ l) back
    ∙ sym (block_joined out block some)

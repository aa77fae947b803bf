use Rattle.std.proofs.Common.{◌≡◌, ◌++◌, ◌∙◌, ◌∷◌, [], ap, arith, drop, take}
use Rattle.std.specs.Prelude.{replicate}
use Rattle.std.specs.List.{prefix_len}
use Rattle.std.specs.String.{string_bytes}
use Rattle.std.proofs.lemmas.Slice.{between_from_start}
use Rattle.std.proofs.lemmas.Str.{IsUtf8-string_bytes}
use Rattle.htmd_lexical.specs.Characters.{line_feed}
use Rattle.htmd_text.specs.Trims.{is_line_feed, trimmed_start}
use Rattle.htmd_text.proofs.JoinsLemmas.{seam_is}
use Rattle.htmd_text.proofs.TrimsLemmas.{start_may_cut}
use Rattle.htmd_markdown.proofs.ListBlocksLemmas.{begins_with}
use Rattle.htmd_markdown.proofs.list.begin_with_line_feeds.Goals as goal

pub replace_range-requires-clause-end_boundary : goal.replace_range-requires-clause-end_boundary
replace_range-requires-clause-end_boundary c =
    let s = string_bytes c.args.text.now in
    let counted = c.leading_len-start.ensures.value ∙ ap (prefix_len is_line_feed) c.as_bytes.ensures.value in
    start_may_cut s c.leading_len-start.result (IsUtf8-string_bytes c.args.text.now) counted

pub returns-then-start-count : goal.returns-then-start-count
returns-then-start-count c =
    let s = string_bytes c.args.text.now in
    let counted : c.leading_len-start.result ≡ prefix_len is_line_feed s =
    c.leading_len-start.ensures.value ∙ ap (prefix_len is_line_feed) c.as_bytes.ensures.value in
    begins_with s c.args.count (omega (arith, counted, c.if-start-count.true))

pub returns : goal.returns
returns c =
    let s = string_bytes c.args.text.now in
    let counted : c.leading_len-start.result ≡ prefix_len is_line_feed s =
    c.leading_len-start.ensures.value ∙ ap (prefix_len is_line_feed) c.as_bytes.ensures.value in
    let put : c.range.result.now ≡ replicate c.args.count line_feed = c.range.ensures.value
    ∙ between_from_start (line_feed ∷ line_feed ∷ []) c.args.count
    ∙ seam_is c.args.count (omega (arith, c.requires)) in
    c.in_ok-replace_range.ensures.bytes
    ∙ ap (λ n. c.range.result.now ++ drop n s) counted
    ∙ ap (λ l. l ++ trimmed_start is_line_feed s) put

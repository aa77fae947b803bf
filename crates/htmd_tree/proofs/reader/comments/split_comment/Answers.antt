-- What is left to prove of `split_comment`.
use Rattle.std.proofs.Common.{◌≡◌, ◌+◌, ◌∙◌, length, codes, drop, take, sym}
use Rattle.std.proofs.Common.{ap}
use Rattle.std.proofs.lemmas.Slice.{between_from_start}
use Rattle.htmd_lexical.specs.CharacterClasses.{begins_with, up_to}
use Rattle.htmd_tree.proofs.CommentTextsLemmas.{no_comment_end, comment_end, cut_before, cut_behind}
use Rattle.htmd_tree.proofs.reader.comments.split_comment.Goals as goal

pub returns-then-len-text : goal.returns-then-len-text
returns-then-len-text c =
    let e = c.comment_len-len.ensures.value
    ∙ ap (λ s. length (up_to (begins_with (codes "-->")) s)) c.as_bytes.ensures.value in
    sym (no_comment_end c.args.text.now (sym e ∙ c.if-len-text.true))

pub range-requires-clause-end_boundary : goal.range-requires-clause-end_boundary
range-requires-clause-end_boundary c =
    let e = c.comment_len-len.ensures.value
    ∙ ap (λ s. length (up_to (begins_with (codes "-->")) s)) c.as_bytes.ensures.value in
    cut_before c.args.text.now c.comment_len-len.result e c.if-len-text.false

pub range_from-requires : goal.range_from-requires
range_from-requires c =
    let e = c.comment_len-len.ensures.value
    ∙ ap (λ s. length (up_to (begins_with (codes "-->")) s)) c.as_bytes.ensures.value in
    λ _. cut_behind c.args.text.now c.comment_len-len.result c.utf8.text e c.if-len-text.false

pub returns : goal.returns
returns c =
    let s = c.args.text.now in
    let n = c.comment_len-len.result in
    let e = c.comment_len-len.ensures.value
    ∙ ap (λ s. length (up_to (begins_with (codes "-->")) s)) c.as_bytes.ensures.value in
    let front : c.range.result.now ≡ take n s = c.range.ensures.value ∙ between_from_start s n in
    let rest : c.range_from.result.now ≡ drop (n + 3) s = c.range_from.ensures.value in
    rw (front, rest) (sym (comment_end s n e c.if-len-text.false))

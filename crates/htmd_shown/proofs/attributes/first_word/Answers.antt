use Rattle.std.proofs.Common.{◌≡◌, ℕ, ◌-◌, ◌∷◌, take, drop, subst, sym, ap, ◌∙◌, not, arith}
use Rattle.std.specs.Char.{is_ascii_whitespace}
use Rattle.std.specs.List.{prefix_len}
use Rattle.std.specs.Str.{IsCharBoundary}
use Rattle.htmd_text.proofs.TrimsLemmas.{start_boundary}
use Rattle.htmd_shown.specs.Attributes.{words}
use Rattle.htmd_shown.proofs.WordsLemmas.{white_of_ascii, words_after, words_first, word_boundary, no_words}
use Rattle.htmd_shown.proofs.WordsLemmas.{word_filled, shorter}
use Rattle.htmd_shown.proofs.attributes.first_word.Goals as goal

from_start : (n : ℕ) → n ≡ n - 0
from_start n = omega arith

pub range_from-text-requires : goal.range_from-text-requires
range_from-text-requires c =
    let s = c.args.text.now in
    let counted = c.white_len.ensures.value ∙ ap (prefix_len is_ascii_whitespace) c.as_bytes.ensures.value in
    λ _. subst (λ (k : ℕ). IsCharBoundary s k) (sym counted)
    (start_boundary is_ascii_whitespace s c.utf8.text white_of_ascii)

pub returns-then-is_empty-clause-value : goal.returns-then-is_empty-clause-value
returns-then-is_empty-clause-value c =
    let s = c.args.text.now in
    let counted = c.white_len.ensures.value ∙ ap (prefix_len is_ascii_whitespace) c.as_bytes.ensures.value in
    no_words s c.range_from-text.result.now
    (c.range_from-text.ensures.value ∙ ap (λ k. drop k s) counted) (sym c.is_empty.ensures ∙ c.if-is_empty.true)

pub range-requires-clause-end_boundary : goal.range-requires-clause-end_boundary
range-requires-clause-end_boundary c =
    let s = c.range_from-text.result.now in
    let counted = c.word_len-len.ensures.value
    ∙ ap (prefix_len (λ (b : ℕ). not (is_ascii_whitespace b))) c.as_bytes-2.ensures.value in
    subst (λ (k : ℕ). IsCharBoundary s k) (sym counted) (word_boundary s)

pub range_from-requires : goal.range_from-requires
range_from-requires c =
    let s = c.range_from-text.result.now in
    let counted = c.word_len-len.ensures.value
    ∙ ap (prefix_len (λ (b : ℕ). not (is_ascii_whitespace b))) c.as_bytes-2.ensures.value in
    λ _. subst (λ (k : ℕ). IsCharBoundary s k) (sym counted) (word_boundary s)

pub returns-clause-value : goal.returns-clause-value
returns-clause-value c =
    let s = c.args.text.now in
    let rest = c.range_from-text.result.now in
    let white = c.white_len.ensures.value ∙ ap (prefix_len is_ascii_whitespace) c.as_bytes.ensures.value in
    let counted = c.word_len-len.ensures.value
    ∙ ap (prefix_len (λ (b : ℕ). not (is_ascii_whitespace b))) c.as_bytes-2.ensures.value in
    let from = c.range_from-text.ensures.value ∙ ap (λ k. drop k s) white in
    sym (ap words from ∙ words_after s)
    ∙ words_first rest (word_filled s rest from (sym c.is_empty.ensures ∙ c.if-is_empty.false))
    ∙ sym (ap (λ k. take k rest ∷ words (drop k rest)) counted)
    ∙ ap (λ k. take k rest ∷ words (drop c.word_len-len.result rest)) (from_start c.word_len-len.result)
    ∙ ap (λ w. w ∷ words (drop c.word_len-len.result rest)) (sym c.range.ensures.value)
    ∙ ap (λ r. c.range.result.now ∷ words r) (sym c.range_from.ensures.value)

pub returns-clause-shorter : goal.returns-clause-shorter
returns-clause-shorter c =
    let s = c.args.text.now in
    let rest = c.range_from-text.result.now in
    let white = c.white_len.ensures.value ∙ ap (prefix_len is_ascii_whitespace) c.as_bytes.ensures.value in
    let counted = c.word_len-len.ensures.value
    ∙ ap (prefix_len (λ (b : ℕ). not (is_ascii_whitespace b))) c.as_bytes-2.ensures.value in
    let from = c.range_from-text.ensures.value ∙ ap (λ k. drop k s) white in
    shorter s rest c.range_from.result.now (prefix_len is_ascii_whitespace s) from
    (c.range_from.ensures.value ∙ ap (λ k. drop k rest) counted)
    (word_filled s rest from (sym c.is_empty.ensures ∙ c.if-is_empty.false))

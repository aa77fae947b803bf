-- The text may be cut in front of underscores.
use Rattle.std.proofs.Common.{ℕ, ◌-◌, length, subst, sym, ap, ◌∙◌}
use Rattle.std.specs.List.{suffix_len}
use Rattle.std.specs.Str.{IsCharBoundary}
use Rattle.htmd_text.proofs.TrimsLemmas.{end_boundary}
use Rattle.htmd_commonmark.specs.TextEscapes.{is_underscore}
use Rattle.htmd_commonmark.proofs.TextEscapesLemmas.{underscore_of_ascii}
use Rattle.htmd_commonmark.proofs.text_escape.character_before.Goals as goal

pub range-front-requires-clause-end_boundary : goal.range-front-requires-clause-end_boundary
range-front-requires-clause-end_boundary c =
    let s = c.args.front.now in
    let counted = c.trailing_len.ensures.value ∙ ap (suffix_len is_underscore) c.as_bytes.ensures.value in
    subst (λ (k : ℕ). IsCharBoundary s (length s - k)) (sym counted)
    (end_boundary is_underscore s underscore_of_ascii)

-- The text may be cut after underscores.
use Rattle.std.proofs.Common.{ℕ, subst, sym, ap, ◌∙◌}
use Rattle.std.specs.List.{prefix_len}
use Rattle.std.specs.Str.{IsCharBoundary}
use Rattle.htmd_text.proofs.TrimsLemmas.{start_boundary}
use Rattle.htmd_commonmark.specs.TextEscapes.{is_underscore}
use Rattle.htmd_commonmark.proofs.TextEscapesLemmas.{underscore_of_ascii}
use Rattle.htmd_commonmark.proofs.text_escape.character_after.Goals as goal

pub range_from-rest-requires : goal.range_from-rest-requires
range_from-rest-requires c =
    let s = c.args.rest.now in
    let counted = c.leading_len.ensures.value ∙ ap (prefix_len is_underscore) c.as_bytes.ensures.value in
    λ _. subst (λ (k : ℕ). IsCharBoundary s k) (sym counted)
    (start_boundary is_underscore s c.utf8.rest underscore_of_ascii)

-- The text may be cut after controls, and in front of them.
use Rattle.std.proofs.Common.{ℕ, ◌-◌, length, subst, sym, ap, ◌∙◌}
use Rattle.std.specs.List.{prefix_len, suffix_len}
use Rattle.std.specs.Str.{IsCharBoundary}
use Rattle.htmd_shown.specs.Attributes.{is_space_or_control}
use Rattle.htmd_text.proofs.TrimsLemmas.{start_boundary, end_boundary}
use Rattle.htmd_shown.proofs.WordsLemmas.{control_of_ascii}
use Rattle.htmd_shown.proofs.attributes.without_controls_around.Goals as goal

pub range_from-text-requires : goal.range_from-text-requires
range_from-text-requires c =
    let s = c.args.text.now in
    let counted = c.controls_len.ensures.value ∙ ap (prefix_len is_space_or_control) c.as_bytes.ensures.value in
    λ _. subst (λ (k : ℕ). IsCharBoundary s k) (sym counted)
    (start_boundary is_space_or_control s c.utf8.text control_of_ascii)

pub range-requires-clause-end_boundary : goal.range-requires-clause-end_boundary
range-requires-clause-end_boundary c =
    let s = c.range_from-text.result.now in
    let counted = c.last_controls_len.ensures.value
    ∙ ap (suffix_len is_space_or_control) c.as_bytes-2.ensures.value in
    subst (λ (k : ℕ). IsCharBoundary s (length s - k)) (sym counted)
    (end_boundary is_space_or_control s control_of_ascii)

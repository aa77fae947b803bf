-- The blank line after the last definition.
use Rattle.std.proofs.Common.{◌++◌, ap, sym, ◌∙◌, map, string_bytes}
use Rattle.std.specs.Prelude.{◌==◌}
use Rattle.htmd_lexical.specs.BlankLines.{blank_line}
use Rattle.htmd_walk.specs.Anchors.{definitions_block}
use Rattle.htmd_walk.specs.Markdown.{append_text}
use Rattle.htmd_walk.proofs.AnchorsLemmas.{definitions-all}
use Rattle.htmd_walk.proofs.element_handler.anchor.push_definitions.Goals as goal

pub returns : goal.returns
returns c =
    c.in_ok-push_str-2.ensures.bytes
    ∙ ap (λ l. l ++ blank_line) c.loop-line.invariant
    ∙ definitions-all (string_bytes c.args.out.now) c.deref-line-items.result.now c.loop-line.line-index
    (ap (λ n. n == 0) c.deref-line-items.ensures.len ∙ sym c.is_empty.ensures ∙ c.if-is_empty.false)
    c.loop-line-test.false
    ∙ ap (λ lines. string_bytes c.args.out.now ++ append_text (definitions_block lines))
    (ap (map string_bytes) c.deref-line-items.ensures.value ∙ c.links.view_is)

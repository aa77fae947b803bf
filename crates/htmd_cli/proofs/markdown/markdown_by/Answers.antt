-- The Markdown of the paragraph, or of the tree.
use Rattle.std.proofs.Common.{◌∙◌, subst, string_bytes}
use Rattle.htmd.specs.Conversions.{IsRefused}
use Rattle.htmd_cli.proofs.ModeRunsLemmas.{takes_options, of_text, of_html}
use Rattle.htmd_cli.proofs.markdown.markdown_by.Goals as goal

pub returns-then-mode-clause-ok : goal.returns-then-mode-clause-ok
returns-then-mode-clause-ok c =
    of_text _ c.in_ok-tree.tree c.root.result c.args.mode.text c.args.mode.faithful c.args.input.now
    (string_bytes c.in_ok-tree_to_markdown.field-0) c.if-mode.true
    (c.build-converter.ensures.config ∙ takes_options _ _ _ c.args.mode.faithful c.options-2.ensures.config
    c.in_ok-builder.ensures.handlers c.options.ensures)
    c.in_ok-tree.ensures c.root.ensures.value c.in_ok-tree_to_markdown.ensures.markdown

pub returns-clause-ok : goal.returns-clause-ok
returns-clause-ok c =
    of_html c.convert.result _ _ c.args.mode.text c.args.mode.faithful c.args.input.now c.if-mode.false
    (c.build-converter.ensures.config ∙ takes_options _ _ _ c.args.mode.faithful c.options-2.ensures.config
    c.in_ok-builder.ensures.handlers c.options.ensures)
    (c.build-converter.ensures.scripting ∙ (c.options-2.ensures.scripting ∙ c.in_ok-builder.ensures.scripting))
    c.convert.ensures.ok

pub returns-clause-refused : goal.returns-clause-refused
returns-clause-refused c =
    λ place kind e. subst (λ scripting. IsRefused scripting c.args.input.now place kind)
    (c.build-converter.ensures.scripting ∙ (c.options-2.ensures.scripting ∙ c.in_ok-builder.ensures.scripting))
    (c.convert.ensures.refused place kind e)

-- The handlers, and those that skip; and the tags that are skipped.
use Rattle.std.proofs.Common.{◌∙◌, ◌++◌, ap, sym, rules}
use Rattle.htmd_walk.specs.BuiltIn.{built_in}
use Rattle.htmd_walk.specs.Defaults.{default_options}
use Rattle.htmd_walk.specs.Choice.{no_handler, with_handler, with_options}
use Rattle.htmd.specs.PageOutputs.{skipping}
use Rattle.htmd.proofs.PageOutputsLemmas.{texts, then_same, skips_nothing, skips_some, no_names}
use Rattle.htmd.proofs.page_output.converter_by.Goals.{then-not-is_empty+in-Ok, else-not-is_empty}
use Rattle.htmd.proofs.page_output.converter_by.Goals as goal

pub returns : goal.returns
returns g c =
    let options = c.args.settings.now.options in
    let names = c.as_slice-skipped.result.now in (
      c.build-converter.ensures.ready,
      then_same _ _ _ c.build-converter.ensures.config (then_same _ _ _ (elim c.if-not-is_empty.branch [
        | then-not-is_empty+in-Ok w ↦ rw w.builder-is (w.in-Ok.ensures.ok
            ∙ (ap (λ k. with_handler k (texts names) no_handler) (c.rich-builder.ensures.config
            ∙ (c.anchors.ensures.config ∙ (c.scripting_enabled.ensures.config ∙ c.options.ensures.config)))
            ∙ skips_some names _ (sym c.is_empty.ensures ∙ w.if-not-is_empty.true)))
        | else-not-is_empty w ↦ rw w.builder-is ((c.rich-builder.ensures.config
            ∙ (c.anchors.ensures.config ∙ (c.scripting_enabled.ensures.config ∙ c.options.ensures.config)))
            ∙ skips_nothing names _ (sym c.is_empty.ensures ∙ w.if-not-is_empty.false))
      ])
          (ap (λ k. skipping (texts names) (with_options k options)) c.requires.default
          ∙ ap (λ l. skipping (texts l) (with_options (built_in default_options) options))
          c.as_slice-skipped.ensures.value)),
      search rules,
      c.build-converter.ensures.skipped ∙ (elim c.if-not-is_empty.branch [
        | then-not-is_empty+in-Ok w ↦ rw w.builder-is (w.in-Ok.ensures.skipped
            ∙ ap (λ l. l ++ texts names) (c.rich-builder.ensures.skipped ∙ (c.anchors.ensures.skipped
            ∙ (c.scripting_enabled.ensures.skipped ∙ (c.options.ensures.skipped ∙ c.requires.none_skipped)))))
        | else-not-is_empty w ↦ rw w.builder-is
            (c.rich-builder.ensures.skipped ∙ (c.anchors.ensures.skipped ∙ (c.scripting_enabled.ensures.skipped
            ∙ (c.options.ensures.skipped ∙ (c.requires.none_skipped
            ∙ no_names names (sym c.is_empty.ensures ∙ w.if-not-is_empty.false))))))
      ] ∙ ap texts c.as_slice-skipped.ensures.value),
      search rules,
      search rules,
    )

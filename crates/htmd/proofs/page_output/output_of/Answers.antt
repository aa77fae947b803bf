-- What is written of the part of the tree that the input's text has, or that nothing of it is selected.
use Rattle.std.proofs.Common.{◌∙◌, ap, sym, string_bytes}
use Rattle.std.specs.Cow.{cow_str_bytes}
use Rattle.htmd.specs.PageOutputs.{tree_output}
use Rattle.htmd.specs.PageSettings.{page_in, settings_for, settings_in}
use Rattle.htmd.proofs.PageOutputsLemmas.{of_html, of_readable, of_unselected}
use Rattle.htmd.proofs.PageSightsLemmas.{html_written, seen_of}
use Rattle.htmd.proofs.page_output.output_of.Goals as goal

pub returns-clause-ok : goal.returns-clause-ok
returns-clause-ok g c =
    let settings = settings_for (page_in c.args.in_run.now) (settings_in c.args.settings.now) in
    let part = c.in-Some.part in
    of_readable settings c.args.input.now (cow_str_bytes c.in_ok-text.text) c.deref.result.now
    (string_bytes c.in_ok-tree_output.field-0) c.in_ok-text.ensures.ok
    (sym c.writes_html.ensures ∙ c.if-writes_html.false)
    c.deref.ensures.value (
      c.in_ok-page.page,
      c.in_ok-page.ensures.ok,
      part,
      sym c.in_ok-part.ensures ∙ c.in-Some.is,
      c.in_ok-tree_output.ensures.ok ∙ ap (λ head. tree_output settings head part)
          (c.deref-2.ensures ∙ c.in_ok-head.ensures.value),
    )

pub returns-clause-seen : goal.returns-clause-seen
returns-clause-seen g c =
    seen_of (settings_for (page_in c.args.in_run.now) (settings_in c.args.settings.now)) c.args.input.now
    (cow_str_bytes c.in_ok-text.text) c.deref.result.now
    c.in_ok-page.page c.in-Some.part c.deref-2.result.now (string_bytes c.in_ok-tree_output.field-0)
    c.in_ok-text.ensures.ok.1 (sym c.writes_html.ensures ∙ c.if-writes_html.false) c.deref.ensures.value
    c.in_ok-page.ensures.ok (sym c.in_ok-part.ensures ∙ c.in-Some.is)
    (c.deref-2.ensures ∙ c.in_ok-head.ensures.value) c.in_ok-tree_output.ensures.seen

pub returns-in_default-clause-fault : goal.returns-in_default-clause-fault
returns-in_default-clause-fault g c =
    of_unselected (settings_for (page_in c.args.in_run.now) (settings_in c.args.settings.now)) c.args.input.now
    (cow_str_bytes c.in_ok-text.text)
    c.deref.result.now c.in_ok-text.ensures.ok c.deref.ensures.value
    (c.in_ok-page.page, c.in_ok-page.ensures.ok, sym c.in_ok-part.ensures ∙ c.in_default.is)

pub returns-then-writes_html-clause-ok : goal.returns-then-writes_html-clause-ok
returns-then-writes_html-clause-ok g c =
    of_html (settings_for (page_in c.args.in_run.now) (settings_in c.args.settings.now)) c.args.input.now
    (cow_str_bytes c.in_ok-text.text) (string_bytes c.in_ok-into_owned.field-0) c.in_ok-text.ensures.ok
    (sym c.writes_html.ensures ∙ c.if-writes_html.true) c.in_ok-into_owned.ensures.ok

pub returns-then-writes_html-clause-seen : goal.returns-then-writes_html-clause-seen
returns-then-writes_html-clause-seen g c =
    html_written (settings_for (page_in c.args.in_run.now) (settings_in c.args.settings.now)) c.args.input.now
    (string_bytes c.in_ok-into_owned.field-0) (sym c.writes_html.ensures ∙ c.if-writes_html.true)

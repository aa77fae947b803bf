-- A reader sees the tree in the Markdown of its document.
use Rattle.std.proofs.Common.{◌<◌, ◌^◌, ◌∙◌, ap, length, rules, string_bytes}
use Rattle.htmd.specs.Converters.{anchors_of, rich_of, skipped_of}
use Rattle.htmd_commonmark.specs.DocumentMarkdown.{markdown_of}
use Rattle.htmd_document.specs.DocumentViews.{document_of}
use Rattle.htmd.specs.PageDocuments.{document_of_items, document_options}
use Rattle.htmd.specs.PageSettings.{settings_in}
use Rattle.htmd.proofs.PageSightsLemmas.{seen_in}
use Rattle.htmd.proofs.page_output.tree_markdown.Goals as goal

pub returns-then-settings-clause-seen : goal.returns-then-settings-clause-seen
returns-then-settings-clause-seen g c = λ guarded.
    let settings = settings_in c.args.settings.now in
    let tree = c.args.tree.now in
    let skipped = skipped_of c.args.converter.now in
    let anchors = anchors_of c.args.converter.now in
    let rich = rich_of c.args.converter.now in
    let goes_by = c.requires.goes_by in
    let read = c.in_ok-document.ensures.ok
    ∙ (ap (λ b. document_of_items b skipped anchors rich tree) goes_by.2
    ∙ (ap (λ l. document_of_items settings.scripting l anchors rich tree) goes_by.3
    ∙ (ap (λ a. document_of_items settings.scripting settings.skipped a rich tree) goes_by.4
    ∙ ap (λ b. document_of_items settings.scripting settings.skipped settings.anchors b tree) goes_by.5))) in
    let is = c.in_ok-markdown.ensures.ok
    ∙ (ap (λ o. markdown_of o (document_of c.in_ok-document.document)) c.document_options.ensures
    ∙ ap (markdown_of (document_options settings.options)) read) in
    let fits : length (string_bytes c.in_ok-markdown.markdown) < 2 ^ 64 = search rules in
    seen_in settings tree (string_bytes c.in_ok-markdown.markdown) c.root-root.ensures.texts is fits

use Rattle.std.proofs.Common.{List, ℕ, ◌++◌, ◌∙◌, ap, sym, subst, string_bytes, arith}
use Rattle.htmd_text.specs.Trims.{trimmed_text, trimmed_end, is_line_feed}
use Rattle.htmd_nodes.specs.Items.{Item, IsTree}
use Rattle.htmd_nodes.specs.NumberedTrees.{tree_of, height}
use Rattle.htmd_walk.specs.Choice.{Config}
use Rattle.htmd_walk.specs.Outputs.{Output, conversion_of}
use Rattle.htmd_walk.specs.Children.{content_alone}
use Rattle.htmd_walk.specs.Rendering.{written_within}
use Rattle.htmd_walk.specs.Markdown.{append_texts, markdown}
use Rattle.htmd_walk.specs.ParagraphLaws.{ParagraphsReadBack}
use Rattle.htmd_walk.proofs.ParagraphLawsLemmas.{paragraphs_read_back}
use Rattle.htmd_walk.proofs.dom_walker.tree_to_markdown.Goals as goal

pub returns-clause-markdown : goal.returns-clause-markdown
unfolding markdown
returns-clause-markdown g c =
    let config = g.R.Registry.config c.args.registry.now in
    let node = c.args.node in
    let there : Config → List Item → List (List ℕ) → Output =
    λ k t ds. content_alone (written_within (height (tree_of t node)) (conversion_of k t)) (conversion_of k t)
    (tree_of t node) node ds in
    let walked = c.in_ok-markdown.ensures (height (tree_of c.new-walk.result.tree.now node)) (omega arith)
    ∙ ap (λ r. there (g.R.Registry.config r) c.new-walk.result.tree.now c.new-links.result)
    c.new-walk.ensures.registry
    ∙ ap (λ (t : List Item). there config t c.new-links.result) c.new-walk.ensures.tree
    ∙ ap (there config c.args.tree.now) c.new-links.ensures in
    c.in_ok-push_str.ensures.bytes
    ∙ ap (λ s. s ++ c.as_str.result.now) c.trim_newlines.ensures
    ∙ ap (λ s. trimmed_text is_line_feed (string_bytes c.in_ok-markdown.field-0.content) ++ s)
    (c.as_str.ensures.value
    ∙ c.trim_end_line_feeds.ensures ∙ ap (trimmed_end is_line_feed) c.in_ok-appended.ensures)
    ∙ ap (λ (o : Output). trimmed_text is_line_feed o.text ++ trimmed_end is_line_feed
    (append_texts config.handlers o.definitions)) walked

pub returns-clause-paragraphs : goal.returns-clause-paragraphs
returns-clause-paragraphs g c =
    let config = g.R.Registry.config c.args.registry.now in
    let items = c.args.tree.now in
    subst (ParagraphsReadBack config items c.args.node) (sym (returns-clause-markdown g c))
    (paragraphs_read_back config items c.args.node (subst IsTree c.new-walk.ensures.tree c.new-walk.result.is_tree))

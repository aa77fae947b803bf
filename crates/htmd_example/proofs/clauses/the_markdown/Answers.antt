-- The law, at the documents that the text denotes by either.
use Rattle.std.proofs.Common.{◌≡◌, ◌∙◌, ℕ, true, List, sym, ap, string_bytes}
use Rattle.std.proofs.lemmas.Result.{IfOk-weaker}
use Rattle.htmd_values.specs.ValueTrees.{document}
use Rattle.htmd_grammar.specs.Rules.{project}
use Rattle.htmd_nodes.specs.Items.{Item}
use Rattle.htmd_nodes.specs.Layout.{document_items}
use Rattle.htmd_law_trees.specs.GrammarLaws.{AtMostOneDocument}
use Rattle.htmd.specs.BuiltIn.{built_in}
use Rattle.htmd.specs.Conversions.{IsMarkdownOf}
use Rattle.htmd.specs.Defaults.{default_options}
use Rattle.htmd.specs.Markdown.{markdown}
use Rattle.htmd_example.proofs.clauses.the_markdown.Goals as goal

only_one : (html text other : List ℕ) → AtMostOneDocument (project true)
    → IsMarkdownOf (built_in default_options) true html text
    → IsMarkdownOf (built_in default_options) true html other → other ≡ text
only_one html text other law (tree, (children, is, reads), e) (second, (others, also, read), f) =
    let same : document others ≡ document children = law html (document others) (document children) read reads in
    let alike : others ≡ children = cc in
    f ∙ ap (λ (t : List Item). markdown (built_in default_options) t 0) (also ∙ ap document_items alike ∙ sym is)
    ∙ sym e

pub returns : goal.returns
returns c =
    let html = c.args.html.now in
    IfOk-weaker c.convert.result _ _
    (λ text h other o. only_one html (string_bytes text) other (c.at_most_one_tree.ensures.document (project true)) h
    o)
    c.convert.ensures.ok

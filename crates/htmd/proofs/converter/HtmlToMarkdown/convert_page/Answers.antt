-- What is left to prove of `convert_page`.
use Rattle.htmd.proofs.ConversionsLemmas.{refused_before}
use Rattle.htmd.proofs.converter.HtmlToMarkdown.convert_page.Goals as goal

pub returns-in_err-tree-clause-refused : goal.returns-in_err-tree-clause-refused
returns-in_err-tree-clause-refused g c place kind q =
    c.page_to_tree.ensures.refused place kind
    (refused_before c.from_residual.result c.page_to_tree.result c.in_err-tree.field-0.0 place kind
    c.in_err-tree.was c.from_residual.ensures.1 q)

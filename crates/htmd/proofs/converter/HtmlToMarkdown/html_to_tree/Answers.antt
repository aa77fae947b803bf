-- What is left to prove of `html_to_tree`.
use Rattle.htmd.proofs.ConversionsLemmas.{read_before}
use Rattle.htmd.proofs.converter.HtmlToMarkdown.html_to_tree.Goals as goal

pub returns-in_err-read_html-clause-refused : goal.returns-in_err-read_html-clause-refused
returns-in_err-read_html-clause-refused g c place kind q =
    let r = read_before c.from_residual.result c.read_html.result c.in_err-read_html.field-0.0 place kind
    c.in_err-read_html.was c.from_residual.ensures.1 q in
    record {
      denotes_nothing = c.read_html.ensures.refused place kind r;
      is_fault = c.read_html.ensures.right place kind r;
    }

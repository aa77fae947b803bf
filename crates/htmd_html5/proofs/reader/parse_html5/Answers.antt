-- The text without its mark, its nodes, and their tree.
use Rattle.std.proofs.Common.{◌≡◌, ◌∙◌, ℕ, List, ap, subst}
use Rattle.std.specs.Prelude.{IfOk}
use Rattle.htmd_html5_state.specs.Nodes.{NodeValue}
use Rattle.htmd_html5_state.specs.State.{initial_state}
use Rattle.htmd_nodes.specs.Items.{greatest_depth}
use Rattle.htmd_html5.specs.Html5Documents.{html5_document, read_all}
use Rattle.htmd_html5.specs.Layout.{document_of}
use Rattle.htmd_html5.proofs.reader.parse_html5.Goals as goal

pub returns : goal.returns
unfolding html5_document
returns c =
    let text = c.text_of.ensures ∙ c.in_ok-text.ensures in
    let nodes = c.in_ok-nodes.ensures
    ∙ ap (λ (t : List ℕ). (read_all t (initial_state c.args.scripting)).nodes) text in
    record {
      ok =
          subst (λ (n : List NodeValue). IfOk c.lay_out.result (λ tree. tree ≡ document_of greatest_depth n)) nodes
          c.lay_out.ensures;
    }

-- What is left to prove of `to_mdast`.
use Rattle.std.proofs.Common.{◌≡◌, ◌∙◌, ap, codes, false}
use Rattle.std.proofs.lemmas.Result.{IfOk-weaker}
use Rattle.serde_json.specs.View.{view}
use Rattle.serde_json.specs.Written.{has_float, compact_text}
use Rattle.htmd_document.specs.DocumentViews.{blocks_of, document_of}
use Rattle.htmd_document.specs.FlatDocuments.{flattened}
use Rattle.htmd_document.specs.Mdast.{parent, root_data, blocks_data}
use Rattle.htmd_document.proofs.MdastPlainLemmas.{root-plain}
use Rattle.htmd_document.proofs.document.Document.to_mdast.Goals as goal

pub returns : goal.returns
returns c =
    let e : view c.in_ok-parent.field-0 ≡ root_data (document_of c.args.self.now) =
    c.in_ok-parent.ensures ∙ ap (parent (codes "root")) (c.in_ok-children.ensures
    ∙ ap (λ bs. blocks_data false (flattened (blocks_of bs))) c.deref.ensures.value) in
    IfOk-weaker c.to_string.result _ _
    (λ s h. h (ap has_float e ∙ root-plain (document_of c.args.self.now)) ∙ ap compact_text e)
    c.to_string.ensures.text

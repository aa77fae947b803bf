-- What is left to prove of `push_value`.
use Rattle.std.proofs.Common.{◌∙◌, ap}
use Rattle.serde_json.specs.View.{items_view}
use Rattle.htmd_document.proofs.MdastLemmas.{view-push}
use Rattle.htmd_document.proofs.mdast.push_value.Goals as goal

pub returns : goal.returns
returns c = ap items_view c.in_ok-push.ensures.items ∙ view-push c.args.out.now.items c.args.value

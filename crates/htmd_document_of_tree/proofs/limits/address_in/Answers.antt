use Rattle.std.proofs.Common.{◌∙◌, [], ap, cond, sym}
use Rattle.std.specs.Str.{chars}
use Rattle.htmd_lexical.specs.Attributes.{pairs_of}
use Rattle.htmd_document_of_tree.specs.Limits as spec
use Rattle.htmd_document_of_tree.proofs.limits.address_in.Goals as goal

pub returns-else-is_link : goal.returns-else-is_link
unfolding chars
returns-else-is_link c =
    ap (λ is. cond is (spec.address_of (pairs_of c.args.attrs.now)) [])
    (sym (sym c.is_link.ensures ∙ c.if-is_link.false))

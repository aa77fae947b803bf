-- The tags are the same where their texts are.
use Rattle.std.proofs.Common.{sym, ap, ◌∙◌}
use Rattle.std.specs.Str.{bytes_eq}
use Rattle.htmd_nodes.specs.ElementNames.{text_of}
use Rattle.htmd_nodes.specs.Tags.{tag_text}
use Rattle.htmd_nodes.proofs.TagLemmas.{same_tag}
use Rattle.htmd_nodes.proofs.names.Name.is.Goals as goal

pub returns-in-Frequent : goal.returns-in-Frequent
returns-in-Frequent c =
    c.eq.ensures ∙ same_tag c.in-Frequent.found c.args.tag
    ∙ ap (λ s. bytes_eq s (tag_text c.args.tag)) (sym (ap text_of c.in-Frequent.is) ∙ c.self.view_is)

use Rattle.std.proofs.Common.{◌∙◌, ap, string_bytes}
use Rattle.std.specs.Map.{lookup}
use Rattle.std.specs.Str.{bytes_eq}
use Rattle.htmd_shown.specs.SimpleViews.{simples_of}
use Rattle.htmd_document_of_tree.specs.LeadingViews as views
use Rattle.htmd_document_of_tree.specs.Leadings as spec
use Rattle.htmd_document_of_tree.proofs.leadings.Leadings.of.Goals as goal

pub returns : goal.returns
returns c = λ s.
    c.in_ok-among.ensures.spans s
    ∙ ap (λ known. views.merged known s (spec.all_leadings c.args.is_rich (simples_of c.args.trees.now)))
    (ap (λ es. lookup (λ k. bytes_eq s (string_bytes k)) es) c.new.ensures.empty)

use Rattle.std.proofs.Common.{◌∙◌, ap, sym, map}
use Rattle.std.proofs.lemmas.Result.{IfOk-weaker}
use Rattle.htmd_shown.specs.SimpleViews.{simples_of}
use Rattle.htmd_document_of_tree.specs.TargetViews.{target_of}
use Rattle.htmd_document_of_tree.proofs.AnchorsLemmas.{linked-stay, none-led, none-linked}
use Rattle.htmd_document_of_tree.proofs.anchors.linked_targets.Goals as goal

pub returns-then-not-lead_to_part : goal.returns-then-not-lead_to_part
returns-then-not-lead_to_part c =
    ap (λ ts. map target_of ts) c.new.ensures.items
    ∙ sym (none-linked c.args.is_rich (simples_of c.args.trees.now)
    (sym c.lead_to_part.ensures ∙ c.if-not-lead_to_part.true))

pub returns-then-is_empty : goal.returns-then-is_empty
returns-then-is_empty c =
    ap (λ ts. map target_of ts) c.new-then-is_empty.ensures.items
    ∙ sym (none-led c.args.is_rich c.in_ok-leadings.leadings (simples_of c.args.trees.now) c.in_ok-leadings.ensures
    (c.is_empty.ensures c.if-is_empty.true))

pub returns : goal.returns
returns c =
    IfOk-weaker c.targets_of.result _ _
    (λ x e. e ∙ linked-stay c.args.is_rich (record { ref_ptr = (0, 0); now = c.in_ok-leadings.leadings })
    (simples_of c.args.trees.now) c.in_ok-leadings.ensures) c.targets_of.ensures

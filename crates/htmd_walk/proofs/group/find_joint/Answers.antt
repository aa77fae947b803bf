use Rattle.std.proofs.Common.{List, Option, Some, None, sym, ap, ◌∙◌}
use Rattle.htmd_lexical.specs.AttributePairs.{AttributePair}
use Rattle.htmd_lexical.specs.Attributes.{pairs_of}
use Rattle.htmd_nodes.specs.Views.{data_of}
use Rattle.htmd_walk.specs.Groups.{Joint}
use Rattle.htmd_walk.specs.Joints.{optional_joint}
use Rattle.htmd_walk.proofs.GroupsLemmas.{joint-element, joint-other}
use Rattle.htmd_walk.proofs.group.find_joint.Goals as goal

pub returns-in_default : goal.returns-in_default
returns-in_default c =
    joint-other c.args.tree.now c.data.ensures.tree c.args.node c.requires c.data.result.now c.data.ensures.value
    c.in_default.not-Element

pub returns-in_err-text : goal.returns-in_err-text
returns-in_err-text c =
    ap optional_joint c.from_residual.ensures
    ∙ joint-element c.args.tree.now c.data.ensures.tree c.args.node c.requires c.in-Element.name
    (pairs_of c.in-Element.attrs.items) None
    (sym (ap data_of c.in-Element.is) ∙ c.data.ensures.value) c.in_err-text.ensures.value

pub returns : goal.returns
returns c =
    let with_attributes : List AttributePair → Option Joint =
    λ a. Some (record { name = c.in-Element.name; attributes = a; text = c.in_ok-text.text.now }) in
    ap with_attributes (ap pairs_of c.as_slice.ensures.value)
    ∙ joint-element c.args.tree.now c.data.ensures.tree c.args.node c.requires c.in-Element.name
    (pairs_of c.in-Element.attrs.items) (Some c.in_ok-text.text.now)
    (sym (ap data_of c.in-Element.is) ∙ c.data.ensures.value) c.in_ok-text.ensures.value

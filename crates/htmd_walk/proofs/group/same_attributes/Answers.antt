use Rattle.std.proofs.Common.{sym, ◌∙◌}
use Rattle.std.specs.Cmp.Derive.Mapped.{pointwise-map}
use Rattle.htmd_lexical.specs.Attributes.{pair_of}
use Rattle.htmd_walk.specs.Groups.{same_pair}
use Rattle.htmd_walk.proofs.group.same_attributes.Goals as goal

pub returns : goal.returns
returns c = c.eq.ensures ∙ sym (pointwise-map pair_of same_pair c.args.left.now c.args.right.now)

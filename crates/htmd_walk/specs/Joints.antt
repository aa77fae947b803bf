-- What the joints of the source stand for.
use Rattle.std.specs.Prelude.{Option, Some, None}
use Rattle.htmd_lexical.specs.Attributes.{pairs_of}
use Rattle.htmd_walk.specs.declared.group.Joint as source
use Rattle.htmd_walk.specs.Groups.{Joint}

abbrev pub joint_view : source.Joint → Joint
joint_view j = record { name = j.name.now; attributes = pairs_of j.attrs.now; text = j.text.now }

abbrev pub optional_joint : Option source.Joint → Option Joint
optional_joint None = None
optional_joint (Some j) = Some (joint_view j)

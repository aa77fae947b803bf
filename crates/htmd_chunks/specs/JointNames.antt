-- What it is called how a piece goes on.
use Rattle.std.specs.Prelude.{ℕ, List, codes}
use Rattle.htmd_chunks.specs.declared.joint.Joint.{Joint}
use Rattle.htmd_chunks.specs.declared.joint.Joint.TheVariants as joint

abbrev pub name_of : Joint → List ℕ
name_of joint.List = codes "list"
name_of joint.LooseList = codes "loose list"
name_of joint.Item = codes "item"
name_of joint.Quote = codes "quote"
name_of joint.Table = codes "table"
name_of joint.Code = codes "code"
name_of joint.Paragraph = codes "paragraph"

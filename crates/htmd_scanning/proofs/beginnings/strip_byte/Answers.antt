-- After an ASCII character a text may be cut.
use Rattle.std.proofs.Common.{arith}
use Rattle.std.proofs.lemmas.Grind.{common_steps}
use Rattle.std.proofs.lemmas.Str.{lead_after_ascii}
use Rattle.htmd_scanning.proofs.beginnings.strip_byte.Goals as goal

pub range_from-requires : goal.range_from-requires
range_from-requires c =
    λ _. (
      grind (arith, common_steps, c.as_bytes.ensures.value),
      lead_after_ascii c.args.text.now 0 c.utf8.text (grind (arith, common_steps, c.as_bytes.ensures.value)),
    )

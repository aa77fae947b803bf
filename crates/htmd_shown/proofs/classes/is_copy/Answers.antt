-- An element without attributes has no class.
use Rattle.std.proofs.Common.{◌∙◌, sym}
use Rattle.htmd_shown.proofs.WalkLemmas.{none_copied}
use Rattle.htmd_shown.proofs.classes.is_copy.Goals as goal

pub returns-then-is_empty : goal.returns-then-is_empty
returns-then-is_empty c =
    none_copied c.args.before.now c.args.attrs.now (sym c.is_empty.ensures ∙ c.if-is_empty.true)

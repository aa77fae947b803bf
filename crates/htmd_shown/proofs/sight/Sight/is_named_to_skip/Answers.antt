-- Where no names are skipped, none of these is.
use Rattle.std.proofs.Common.{◌∙◌, sym}
use Rattle.htmd_shown.proofs.WalkLemmas.{none_skipped}
use Rattle.htmd_shown.proofs.sight.Sight.is_named_to_skip.Goals as goal

pub returns-then-is_empty : goal.returns-then-is_empty
returns-then-is_empty c =
    none_skipped c.args.self.now.skip.now c.args.name.now (sym c.is_empty.ensures ∙ c.if-is_empty.true)

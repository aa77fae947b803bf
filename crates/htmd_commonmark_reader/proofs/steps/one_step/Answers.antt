-- Behind an ASCII character.
use Rattle.std.proofs.lemmas.Str.{IsCharBoundary-after_ascii}
use Rattle.std.proofs.Common.{get_or}
use Rattle.htmd_commonmark_reader.proofs.StepsLemmas.{special_is_ascii}
use Rattle.htmd_commonmark_reader.proofs.steps.one_step.Goals as goal

pub range_from-after-requires : goal.range_from-after-requires
range_from-after-requires c = λ _.
    IsCharBoundary-after_ascii c.args.here.now 0 c.utf8.here c.requires.some
    (special_is_ascii (get_or c.args.here.now 0 0) c.requires.other)

-- Where the end begins.
use Rattle.std.proofs.Common.{length, ◌-◌, arith, subst}
use Rattle.std.specs.Str.{IsUtf8}
use Rattle.std.proofs.lemmas.Str.{IsCharBoundary-from_drop}
use Rattle.htmd_commonmark_reader.proofs.RestsLemmas.{rest_by_length}
use Rattle.htmd_commonmark_reader.proofs.steps.before_end.Goals as goal

pub range-requires-clause-end_boundary : goal.range-requires-clause-end_boundary
range-requires-clause-end_boundary c =
    let s = c.args.text.now in
    let e = c.args.end.now in
    let k = rest_by_length s e c.requires in
    IsCharBoundary-from_drop s (length s - length e) (omega arith) (subst IsUtf8 k.1 c.utf8.end)

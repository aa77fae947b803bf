-- The bytes are no shorter than what is searched, where they begin with it.
use Rattle.std.proofs.Common.{◌∙◌, sym}
use Rattle.htmd_scanning.proofs.BeginningsLemmas.{begins_front}
use Rattle.htmd_encodings.proofs.cuts.after_first.Goals as goal

pub split_at-requires : goal.split_at-requires
split_at-requires c =
    (begins_front c.args.searched.now c.loop-rest.rest.now (sym c.begins_with.ensures ∙ c.if-begins_with.true)).0

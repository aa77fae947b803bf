-- What the search for the end notes.
use Rattle.std.proofs.Common.{[], ◌∷◌, refl}
use Rattle.htmd_commonmark_reader.proofs.MissingLemmas.{noted_more}
use Rattle.htmd_commonmark_reader.proofs.raw_tags.declaration.Goals as goal

pub returns-in-33-clause-missing : goal.returns-in-33-clause-missing
returns-in-33-clause-missing c =
    let s = c.args.text.now in
    noted_more (62 ∷ []) s s c.args.missing.now c.through_unless.new.missing c.requires (0, refl)
    c.through_unless.ensures.noted

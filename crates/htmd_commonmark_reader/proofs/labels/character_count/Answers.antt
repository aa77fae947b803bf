-- What `count` counts are the characters.
use Rattle.std.proofs.Common.{rules}
use Rattle.std.proofs.lemmas.Str.{chars_from_encodes}
use Rattle.htmd_commonmark_reader.proofs.labels.character_count.Goals as goal

pub returns : goal.returns
returns c = search (rules, chars_from_encodes)

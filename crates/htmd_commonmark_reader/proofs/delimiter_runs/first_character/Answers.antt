-- The first of the characters.
use Rattle.std.proofs.Common.{◌≡◌, ◌∙◌, rules}
use Rattle.std.specs.Prelude.{slice_get}
use Rattle.std.specs.Str.{chars}
use Rattle.htmd_commonmark_reader.proofs.EndCharactersLemmas.{first_told}
use Rattle.htmd_commonmark_reader.proofs.delimiter_runs.first_character.Goals as goal

pub returns : goal.returns
returns c =
    let first : c.next.result ≡ slice_get (chars c.args.text.now) 0 = search rules in
    first ∙ first_told c.args.text.now c.utf8.text

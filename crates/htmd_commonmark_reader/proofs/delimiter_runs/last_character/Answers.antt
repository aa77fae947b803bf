-- The character that the iterator gives from the back.
use Rattle.std.proofs.Common.{rules}
use Rattle.htmd_commonmark_reader.proofs.EndCharactersLemmas.{last_told}
use Rattle.htmd_commonmark_reader.proofs.delimiter_runs.last_character.Goals as goal

pub returns : goal.returns
returns c = last_told _ c.args.text.now _ c.next_back.new.self.rest.now c.next_back.result c.chars.ensures.rest
    (search rules) c.next_back.ensures.steps

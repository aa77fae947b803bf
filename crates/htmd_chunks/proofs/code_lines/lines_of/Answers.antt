-- What is collected are the lines.
use Rattle.std.proofs.Common.{lit<}
use Rattle.std.proofs.lemmas.Iterator.Consumers.{map_from_collect}
use Rattle.std.proofs.lemmas.Iterator.Splits.{YieldsList-from_str_split}
use Rattle.htmd_lexical.specs.Characters.{line_feed}
use Rattle.htmd_chunks.proofs.code_lines.lines_of.Goals as goal

pub returns : goal.returns
returns c =
    map_from_collect c.collect.result c.collect.ensures.ran
    (YieldsList-from_str_split line_feed c.args.text.now (lit< tt) (cc) (cc) (cc))

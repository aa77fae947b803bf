-- The name was not met so far.
use Rattle.std.proofs.Common.{◌≡◌, drop}
use Rattle.std.specs.Str.{str_to_ascii_lowercase}
use Rattle.htmd_lexical.specs.CharacterClasses.{is_among}
use Rattle.htmd_commonmark_reader.specs.HtmlBlocks.{low_names}
use Rattle.htmd_commonmark_reader.proofs.html_blocks.is_named.Given as goal

abbrev pub invariant-loop-known : goal.invariant-loop-known
invariant-loop-known l =
    is_among (low_names (drop l.known-index l.names)) (str_to_ascii_lowercase l.name)
    ≡ is_among (low_names l.names) (str_to_ascii_lowercase l.name)

-- A line feed, spaces, and the text.
use Rattle.std.specs.String.{string_bytes}
use Rattle.htmd_commonmark_reader.specs.LeafTexts.{line_break}
use Rattle.htmd_commonmark_reader.proofs.LeafTextsLemmas.{line_pushed}
use Rattle.htmd_commonmark_reader.proofs.leaf_texts.push_line.Goals as goal

pub returns : goal.returns
returns c =
    line_pushed (string_bytes c.args.text.now) (string_bytes c.push_break.new.text)
    (string_bytes c.push_spaces.new.text) (string_bytes c.push_str.new.self) (line_break c.args.is_first)
    c.args.line.text.now c.args.line.spaces c.in_ok-push_break.ensures c.in_ok-push_spaces.ensures
    c.in_ok-push_str.ensures.bytes

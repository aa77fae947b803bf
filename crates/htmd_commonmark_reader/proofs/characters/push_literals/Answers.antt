-- Literal characters.
use Rattle.std.specs.String.{string_bytes}
use Rattle.htmd_commonmark_reader.proofs.PiecesLemmas.{literals_cut, literals_pushed}
use Rattle.htmd_commonmark_reader.proofs.characters.push_literals.Goals as goal

pub split_at-requires : goal.split_at-requires
split_at-requires c = literals_cut c.args.escapes c.args.text.now c.args.len c.requires.plain

pub returns-clause-pushed : goal.returns-clause-pushed
returns-clause-pushed c =
    literals_pushed c.args.escapes (string_bytes c.args.held.now) c.args.text.now (string_bytes c.push_str.new.self)
    c.split_at.result.0.now c.split_at.result.1.now c.args.len c.requires.plain c.split_at.ensures.front
    c.split_at.ensures.back c.in_ok-push_str.ensures.bytes

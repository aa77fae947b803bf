-- Plain characters.
use Rattle.std.proofs.Common.{sym, subst}
use Rattle.std.proofs.lemmas.Str.{IsUtf8-drop}
use Rattle.std.specs.Str.{IsUtf8}
use Rattle.std.specs.String.{string_bytes}
use Rattle.htmd_html5_tokens.proofs.ContentsLemmas.{plain_cut, plain_pushed}
use Rattle.htmd_html5_tokens.proofs.contents.push_literals.Goals as goal

pub split_at-requires : goal.split_at-requires
split_at-requires c = plain_cut c.args.reading c.args.text.now c.args.len c.requires.plain

pub returns-clause-pushed : goal.returns-clause-pushed
returns-clause-pushed c =
    plain_pushed c.args.reading (string_bytes c.args.held.now) c.args.text.now (string_bytes c.push_str.new.self)
    c.split_at.result.0.now c.split_at.result.1.now c.args.len c.requires.plain c.split_at.ensures.front
    c.split_at.ensures.back c.in_ok-push_str.ensures.bytes

pub returns-clause-text : goal.returns-clause-text
returns-clause-text c =
    subst IsUtf8 (sym c.split_at.ensures.back) (IsUtf8-drop c.args.text.now c.args.len c.utf8.text
    (plain_cut c.args.reading c.args.text.now c.args.len c.requires.plain))

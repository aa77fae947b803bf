-- What is known goes on behind the parenthesis.
use Rattle.std.proofs.Common.{◌≡◌, drop, rules}
use Rattle.htmd_commonmark_reader.proofs.DestinationsLemmas.{known_behind}
use Rattle.htmd_commonmark_reader.proofs.targets.inline_target.Goals as goal

pub resource-requires : goal.resource-requires
resource-requires c =
    let inside : c.in-Some.inside.now ≡ drop 1 c.args.text.now = search rules in
    known_behind c.args.known.now c.args.text.now c.in-Some.inside.now (1, inside) c.requires

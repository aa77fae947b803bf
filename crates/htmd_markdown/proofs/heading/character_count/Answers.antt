use Rattle.std.proofs.Common.{◌≤◌, length, rules, arith, ap}
use Rattle.std.specs.Str.{chars}
use Rattle.std.proofs.lemmas.Str.{chars_from_encodes, encodes-chars, length-le-encodes}
use Rattle.htmd_markdown.proofs.heading.character_count.Goals as goal

pub returns-clause-value : goal.returns-clause-value
returns-clause-value c = search (rules, chars_from_encodes)

pub returns-clause-bound : goal.returns-clause-bound
returns-clause-bound c =
    let s = c.args.text.now in
    let size : length (chars s) ≤ length s =
    omega (arith, length-le-encodes (chars s), ap length (encodes-chars s c.utf8.text)) in
    let same = returns-clause-value c in
    omega (arith, size, same)

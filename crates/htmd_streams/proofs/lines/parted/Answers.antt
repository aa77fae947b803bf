-- The first place of the byte, or that there is none.
use Rattle.std.proofs.Common.{◌≡◌, ◌<◌, ◌+◌, length, get_or, rules}
use Rattle.std.proofs.lemmas.List.{take_rest}
use Rattle.htmd_streams.proofs.LinesLemmas.{around, lacks-all, lacks-before}
use Rattle.htmd_streams.proofs.lines.parted.Goals as goal

pub returns-in_default : goal.returns-in_default
returns-in_default c = lacks-all c.args.byte c.args.bytes.now (search rules)

pub returns : goal.returns
returns c =
    let s = c.args.bytes.now in
    let place = c.in-Some.place in
    let inside : place < length s = search rules in
    let here : get_or s place 0 ≡ c.args.byte = search rules in (
      lacks-before c.args.byte s place (search rules),
      rw (take_rest s (place + 1)) (around s place c.args.byte inside here),
    )

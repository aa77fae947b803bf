-- The last tab, or that there is none.
use Rattle.std.proofs.Common.{◌≡◌, ◌<◌, ◌+◌, sym, length, get_or, rules}
use Rattle.htmd_lexical.specs.Characters.{tab}
use Rattle.htmd_streams.proofs.LinesLemmas.{lacks-all, lacks-behind, others-at, last-at, other_fields-none}
use Rattle.htmd_streams.proofs.LinesLemmas.{last_field-whole}
use Rattle.htmd_streams.proofs.lines.fields_of.Goals as goal

pub returns-in-Some : goal.returns-in-Some
returns-in-Some c =
    let row = c.args.row.now in
    let place = c.in-Some.place in
    let inside : place < length row = search rules in
    let here : get_or row place 0 ≡ tab = search rules in
    let behind = lacks-behind tab row (place + 1) (search rules) in
    record { others = others-at row place inside here behind; last = last-at row place inside here behind }

pub returns-in-None : goal.returns-in-None
returns-in-None c =
    let row = c.args.row.now in
    let none = lacks-all tab row (search rules) in
    record { others = sym (other_fields-none row none); last = sym (last_field-whole row none) }

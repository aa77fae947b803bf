-- All bytes are among the first.
use Rattle.std.proofs.Common.{◌<◌, ◌≤◌, ◌∙◌, ap, sym, length, arith, take_all}
use Rattle.htmd_encodings.specs.Prescan.{prescan}
use Rattle.htmd_encodings.proofs.decoding.said.Goals as goal

pub returns-in-None : goal.returns-in-None
returns-in-None c =
    let bytes = c.args.bytes.now in
    let below : length bytes < 1024 = c.in-None.ensures.cases in
    let few : length bytes ≤ 1024 = omega arith in
    c.prescan-in-None.ensures ∙ ap prescan (sym (take_all 1024 bytes few))

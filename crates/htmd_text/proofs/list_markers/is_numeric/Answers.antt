-- What is left to prove of `is_numeric`.
use Rattle.std.proofs.Common.{◌<◌, ◌∙◌, sym, arith}
use Rattle.std.proofs.lemmas.Bool.Decides.{nat_tests}
use Rattle.htmd_text.proofs.ListMarkersLemmas.{numeric-ascii}
use Rattle.htmd_text.proofs.list_markers.is_numeric.Goals as goal

-- in ASCII the digits are the numeric characters
pub returns-then-is_ascii : goal.returns-then-is_ascii
returns-then-is_ascii c =
    let small : c.args.c < 128 = grind (arith, nat_tests) in
    c.is_ascii_digit.ensures.value ∙ sym (numeric-ascii c.args.c small)

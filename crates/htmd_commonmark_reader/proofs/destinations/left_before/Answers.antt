-- By the byte.
use Rattle.std.proofs.Common.{◌≡◌, ◌∙◌, ◌-◌, ◌&&◌, true, false, length, arith, rules}
use Rattle.std.specs.Prelude.{◌==◌}
use Rattle.htmd_commonmark_reading.specs.Characters.{begins_with_punctuation}
use Rattle.htmd_commonmark_reading.specs.LinkDefinitions.{ends_bare}
use Rattle.htmd_commonmark_reader.proofs.DestinationsLemmas.{bounded, all_left, left_escapes, left_stays, next_left}
use Rattle.htmd_commonmark_reader.proofs.DestinationsLemmas.{some_escaped}
use Rattle.htmd_commonmark_reader.proofs.destinations.left_before.Goals as goal

pub returns : goal.returns
returns c =
    let s = c.args.after.now in
    let b = c.args.byte in
    let ends : ends_bare 0 b ≡ false = search rules in
    let opens : (b == 40) ≡ false = search rules in
    let escapes : ((b == 92) && begins_with_punctuation s) ≡ false = search rules in
    c.left_at-2.ensures ∙ all_left s ∙ left_stays b s ends opens escapes

pub left_at-requires-clause-bound : goal.left_at-requires-clause-bound
left_at-requires-clause-bound c =
    let s = c.args.after.now in bounded s c.args.lefts.now (length s - 1) c.requires (omega arith)

pub left_at-requires-2-clause-bound : goal.left_at-requires-2-clause-bound
left_at-requires-2-clause-bound c =
    let s = c.args.after.now in bounded s c.args.lefts.now (length s) c.requires (omega arith)

pub returns-then-escapes : goal.returns-then-escapes
returns-then-escapes c =
    let s = c.args.after.now in
    let escaped : ((c.args.byte == 92) && begins_with_punctuation s) ≡ true = search rules in
    c.left_at.ensures ∙ next_left s (some_escaped c.args.byte s escaped) ∙ left_escapes c.args.byte s escaped

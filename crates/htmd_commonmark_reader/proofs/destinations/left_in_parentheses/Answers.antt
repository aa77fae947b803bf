-- The parenthesis is closed, or not.
use Rattle.std.proofs.Common.{◌≡◌, ◌∙◌, ◌-◌, Some, None, length, drop, sym, ap, arith, rules}
use Rattle.std.proofs.lemmas.Slice.{between_to_end}
use Rattle.htmd_lexical.specs.CharacterClasses.{first_is}
use Rattle.htmd_commonmark_reader.specs.Destinations.{left_of}
use Rattle.htmd_commonmark_reader.proofs.DestinationsLemmas.{bounded, all_left, left_within, never_closed, open_none}
use Rattle.htmd_commonmark_reader.proofs.DestinationsLemmas.{open_some}
use Rattle.htmd_commonmark_reader.proofs.destinations.left_in_parentheses.Goals as goal

pub left_at-requires-clause-bound : goal.left_at-requires-clause-bound
left_at-requires-clause-bound c =
    bounded c.args.after.now c.args.lefts.now (length c.args.after.now) c.requires (omega arith)

pub returns-in_default : goal.returns-in_default
returns-in_default c =
    let s = c.args.after.now in
    let none : None ≡ left_of (drop (length s - length s) s) = search rules in
    never_closed s (sym (none ∙ all_left s))

pub overflow_sub-after : goal.overflow_sub-after
overflow_sub-after c =
    let s = c.args.after.now in
    let there : Some c.in-Some.left ≡ left_of (drop (length s - length s) s) = search rules in
    left_within s c.in-Some.left (sym (there ∙ all_left s))

pub returns-then-not-first_is : goal.returns-then-not-first_is
returns-then-not-first_is c =
    let s = c.args.after.now in
    let n = c.in-Some.left in
    let there : Some n ≡ left_of (drop (length s - length s) s) = search rules in
    let whole = between_to_end s (length s - n) (length s) (omega arith) in
    open_none s n (sym (there ∙ all_left s))
    (sym (ap (first_is 41) whole) ∙ sym c.first_is.ensures ∙ c.if-not-first_is.true)

pub left_at-requires-2-clause-bound : goal.left_at-requires-2-clause-bound
left_at-requires-2-clause-bound c =
    let s = c.args.after.now in
    let n = c.in-Some.left in
    let there : Some n ≡ left_of (drop (length s - length s) s) = search rules in
    let within = left_within s n (sym (there ∙ all_left s)) in
    bounded s c.args.lefts.now (n - 1) c.requires (omega (arith, within))

pub returns : goal.returns
returns c =
    let s = c.args.after.now in
    let n = c.in-Some.left in
    let there : Some n ≡ left_of (drop (length s - length s) s) = search rules in
    let whole = between_to_end s (length s - n) (length s) (omega arith) in
    c.left_at-2.ensures
    ∙ open_some s n (sym (there ∙ all_left s))
    (sym (ap (first_is 41) whole) ∙ sym c.first_is.ensures ∙ c.if-not-first_is.false)

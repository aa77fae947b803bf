-- The signs stand at a place, or don't.
use Rattle.std.proofs.Common.{◌≡◌, ◌∙◌, true, false, length, drop, ap, sym, arith}
use Rattle.std.proofs.lemmas.Slice.{between_to_end}
use Rattle.htmd_lexical.specs.CharacterClasses.{begins_with}
use Rattle.htmd_commonmark_reader.proofs.RawTagsLemmas.{through_found, through_later, signs_within}
use Rattle.htmd_commonmark_reader.proofs.raw_tags.through.Goals as goal

pub returns-then-begins_with-clause-bound : goal.returns-then-begins_with-clause-bound
returns-then-begins_with-clause-bound c =
    let s = c.args.text.now in
    let found : begins_with c.args.signs.now (drop c.loop-len.len s) ≡ true =
    ap (begins_with c.args.signs.now) (sym (between_to_end s c.loop-len.len (length s) (omega arith)))
    ∙ sym c.begins_with.ensures ∙ c.if-begins_with.true in
    signs_within c.args.signs.now s c.loop-len.len (omega arith) found

pub returns-then-begins_with-clause-value : goal.returns-then-begins_with-clause-value
returns-then-begins_with-clause-value c =
    let s = c.args.text.now in
    let found : begins_with c.args.signs.now (drop c.loop-len.len s) ≡ true =
    ap (begins_with c.args.signs.now) (sym (between_to_end s c.loop-len.len (length s) (omega arith)))
    ∙ sym c.begins_with.ensures ∙ c.if-begins_with.true in
    sym (through_found c.args.signs.now s c.loop-len.len (omega arith) found) ∙ c.loop-len.invariant

pub loop-len-preserved : goal.loop-len-preserved
loop-len-preserved c =
    let s = c.args.text.now in
    let missing : begins_with c.args.signs.now (drop c.loop-len.len s) ≡ false =
    ap (begins_with c.args.signs.now) (sym (between_to_end s c.loop-len.len (length s) (omega arith)))
    ∙ sym c.begins_with.ensures ∙ c.if-begins_with.false in
    sym (through_later c.args.signs.now s c.loop-len.len (omega arith) missing) ∙ c.loop-len.invariant

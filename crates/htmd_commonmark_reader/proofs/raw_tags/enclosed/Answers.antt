-- Behind the first signs.
use Rattle.std.proofs.Common.{◌≡◌, ◌∙◌, true, length, sym, arith}
use Rattle.std.proofs.lemmas.Slice.{between_to_end}
use Rattle.htmd_lexical.specs.CharacterClasses.{begins_with}
use Rattle.htmd_scanning.proofs.BeginningsLemmas.{begins_front}
use Rattle.htmd_commonmark_reader.proofs.MissingLemmas.{noted_more}
use Rattle.htmd_commonmark_reader.proofs.RawTagsLemmas.{enclosed_found}
use Rattle.htmd_commonmark_reader.proofs.raw_tags.enclosed.Goals as goal

pub slice_bounds-through_unless-count : goal.slice_bounds-through_unless-count
slice_bounds-through_unless-count c =
    (begins_front c.args.begin.now c.args.text.now (sym c.begins_with.ensures ∙ c.if-not-begins_with.false)).0

pub slice_bounds-through_unless-start : goal.slice_bounds-through_unless-start
slice_bounds-through_unless-start c =
    (begins_front c.args.begin.now c.args.text.now (sym c.begins_with.ensures ∙ c.if-not-begins_with.false)).0

pub returns-clause-value : goal.returns-clause-value
returns-clause-value c =
    let s = c.args.text.now in
    let p = c.args.begin.now in
    let found : begins_with p s ≡ true = sym c.begins_with.ensures ∙ c.if-not-begins_with.false in
    let here = between_to_end s (length p) (length s) (omega arith) in
    let more = rw here at c.in_ok-len.ensures.value in
    enclosed_found p c.args.end.now s c.in_ok-len.len found more

pub through_unless-requires : goal.through_unless-requires
through_unless-requires c =
    let s = c.args.text.now in
    let n = length c.args.begin.now in
    λ l. c.requires _ (n, between_to_end s n (length s) (omega arith)) l

pub returns-in_err-len-clause-missing : goal.returns-in_err-len-clause-missing
returns-in_err-len-clause-missing c =
    let s = c.args.text.now in
    let n = length c.args.begin.now in
    noted_more c.args.end.now s _ c.args.missing.now c.through_unless.new.missing c.requires
    (n, between_to_end s n (length s) (omega arith)) c.through_unless.ensures.noted

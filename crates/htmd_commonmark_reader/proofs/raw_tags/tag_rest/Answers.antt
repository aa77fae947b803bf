-- One more character of the tag.
use Rattle.std.proofs.Common.{◌∙◌, sym, arith}
use Rattle.htmd_commonmark_reader.proofs.RawTagsLemmas.{rest_goes_on}
use Rattle.htmd_commonmark_reader.proofs.raw_tags.tag_rest.Goals as goal

pub loop-len-preserved : goal.loop-len-preserved
loop-len-preserved c =
    sym (rest_goes_on c.args.text.now c.loop-len.len c.loop-len.place c.place_after-place.result (omega arith)
    c.place_after-place.ensures c.in_default.not-End c.in_default.not-Refused)
    ∙ c.loop-len.invariant

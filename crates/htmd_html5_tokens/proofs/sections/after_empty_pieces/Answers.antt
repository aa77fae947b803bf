-- One more piece that denotes nothing, or none.
use Rattle.std.proofs.Common.{◌∙◌, rules}
use Rattle.htmd_html5_tokens.proofs.SectionsLemmas.{piece_shorter, nothing_more, nothing_ends}
use Rattle.htmd_html5_tokens.proofs.sections.after_empty_pieces.Goals as goal

pub loop-after-smaller : goal.loop-after-smaller
loop-after-smaller c = piece_shorter c.args.foreign c.loop-after.rest.now _ c.in-Some.ensures

pub loop-after-preserved : goal.loop-after-preserved
loop-after-preserved c = record {
  text = search rules;
  same = nothing_more c.args.foreign c.loop-after.rest.now _ c.in-Some.ensures ∙ c.loop-after.invariant.same;
}

pub returns : goal.returns
returns c =
    nothing_ends c.args.foreign c.loop-after.rest.now c.in_default.ensures ∙ c.loop-after.invariant.same

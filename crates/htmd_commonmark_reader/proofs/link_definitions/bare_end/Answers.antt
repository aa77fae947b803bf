-- One more character.
use Rattle.std.proofs.Common.{◌≡◌, ◌∙◌, ◌&&◌, not, ◌+◌, length, take, drop, get_or, sym, ap, arith}
use Rattle.std.proofs.lemmas.Slice.{between_to_end}
use Rattle.std.specs.Prelude.{◌==◌}
use Rattle.htmd_commonmark_reading.specs.Characters.{begins_with_punctuation}
use Rattle.htmd_commonmark_reading.specs.LinkDefinitions.{bare}
use Rattle.htmd_commonmark_reader.specs.Fronts.{behind, depth_after}
use Rattle.htmd_commonmark_reader.proofs.FrontsLemmas.{bare_more}
use Rattle.htmd_commonmark_reader.proofs.link_definitions.bare_end.Goals as goal

pub loop-at-preserved : goal.loop-at-preserved
loop-at-preserved c =
    let s = c.args.bytes.now in
    let i = c.loop-at.at in
    let depth = c.loop-at.depth in
    let e = c.loop-at.is_escaped in
    let more = bare_more s i depth e c.loop-at-test.true (sym c.ends_bare.ensures ∙ c.if-ends_bare.false) in
    let flag : c.escapes-is_escaped.result
    ≡ (not e && ((get_or s i 0 == 92) && begins_with_punctuation (drop (i + 1) s))) =
    c.escapes-is_escaped.ensures
    ∙ ap (λ t. not e && ((get_or s i 0 == 92) && begins_with_punctuation t))
    (between_to_end s (i + 1) (length s) (omega arith)) in
    let next = ap (λ d. behind (take (i + 1) s) (bare d c.escapes-is_escaped.result (drop (i + 1) s)))
    c.depth_after-depth.ensures.value in
    let then = ap (λ f. behind (take (i + 1) s) (bare (depth_after depth e (get_or s i 0)) f (drop (i + 1) s))) flag in
    record {
      few = omega (arith, c.depth_after-depth.ensures.more, c.loop-at.invariant.few);
      same = next ∙ then ∙ sym more ∙ c.loop-at.invariant.same;
    }

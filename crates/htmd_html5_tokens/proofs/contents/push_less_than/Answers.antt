-- After `/>` the text may be cut.
use Rattle.std.proofs.Common.{◌∙◌, ap, sym, codes}
use Rattle.htmd_lexical.specs.CharacterClasses.{begins_with}
use Rattle.htmd_html5_tokens.proofs.ContentsLemmas.{cut_after_slash}
use Rattle.htmd_html5_tokens.proofs.contents.push_less_than.Goals as goal

pub range_from-requires : goal.range_from-requires
range_from-requires c = λ _.
    cut_after_slash c.args.after.now c.utf8.after
    (ap (begins_with (codes "/>")) (sym c.as_bytes.ensures.value) ∙ sym c.begins_with.ensures
    ∙ c.if-begins_with.true)

-- One more definition.
use Rattle.std.proofs.Common.{◌∙◌, ◌∷◌, ◌++◌, [], ap, append_assoc}
use Rattle.std.proofs.lemmas.List.{map-append}
use Rattle.htmd_commonmark_reader.specs.ClosedParts.{definition, part_of, parts_of}
use Rattle.htmd_commonmark_reader.specs.OpenBlocks.{definition_marks}
use Rattle.htmd_commonmark_reader.specs.declared.closed.Closed.TheVariants.{Definition}
use Rattle.htmd_commonmark_reader.proofs.ClosedTextsLemmas.{marks_push}
use Rattle.htmd_commonmark_reader.proofs.blocks.push_marks.Goals as goal

pub loop-at-preserved : goal.loop-at-preserved
loop-at-preserved c =
    let old = parts_of c.args.closed.now.items in
    let g = c.args.gap in
    let i = c.loop-at.at in
    ap parts_of c.in_ok-push.ensures.items
    ∙ map-append part_of c.loop-at.closed.items (Definition c.before_first.result ∷ [])
    ∙ ap (λ l. l ++ (definition c.before_first.result ∷ [])) c.loop-at.invariant
    ∙ append_assoc old (definition_marks g i) (definition c.before_first.result ∷ [])
    ∙ ap (λ b. old ++ (definition_marks g i ++ (definition b ∷ []))) c.before_first.ensures
    ∙ ap (λ l. old ++ l) (marks_push g i)

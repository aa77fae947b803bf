-- One more definition.
use Rattle.std.proofs.Common.{◌≡◌, true, false, cond, codes, length, get_or, sym, ap, ◌∙◌, arith}
use Rattle.std.proofs.Common.{string_bytes}
use Rattle.std.specs.Prelude.{◌==◌}
use Rattle.std.proofs.lemmas.Bool.Decides.{nat_tests}
use Rattle.std.proofs.lemmas.List.{length-map, get_or-map, take_all}
use Rattle.htmd_markdown.specs.Tables.{texts}
use Rattle.htmd_commonmark.specs.DocumentMarkdown.{written_definitions}
use Rattle.htmd_commonmark.specs.Pages.{wrote}
use Rattle.htmd_commonmark.proofs.BlocksLemmas.{definitions_more}
use Rattle.htmd_commonmark.proofs.blocks.push_definitions.Goals as goal
use Rattle.htmd_commonmark.proofs.blocks.push_definitions.Goals.{then-i-eq0, else-i-eq0}

pub loop-i-preserved : goal.loop-i-preserved
loop-i-preserved c =
    let ds = c.args.definitions.now in
    let words = texts ds in
    let i = c.loop-i.i in
    let d = string_bytes c.index-definitions-i.result in
    let size : length words ≡ length ds = length-map ds (λ s. string_bytes s) in
    let at : d ≡ get_or words i d =
    ap (λ s. string_bytes s) c.index-definitions-i.is
    ∙ sym (get_or-map (λ s. string_bytes s) ds i c.index-definitions-i.result d c.loop-i-test.true) in
    let separator : c.if-i-eq0.push.now ≡ cond (i == 0) (codes "\n\n") (codes "\n") =
    elim c.if-i-eq0.branch [
      | then-i-eq0 w ↦ let here : (i == 0) ≡ true = grind (arith, nat_tests) in rw here (ap (λ s. s.now) w.push-is)
      | else-i-eq0 w ↦
          let other : (i == 0) ≡ false = grind (arith, nat_tests) in rw other (ap (λ s. s.now) w.push-is)
    ] in
    definitions_more c.args.lines.now c.push-in-loop-i.new.self words i c.if-i-eq0.push.now d
    (omega (arith, size, c.loop-i-test.true)) separator at
    (c.in_ok-push-2.ensures ∙ ap (wrote c.push.new.self) c.deref.ensures
    ∙ ap (λ p. wrote p d) (c.in_ok-push.ensures ∙ ap (λ p. wrote p c.if-i-eq0.push.now) c.loop-i.invariant))

pub returns : goal.returns
returns c =
    let words = texts c.args.definitions.now in
    let size : length words ≡ length c.args.definitions.now =
    length-map c.args.definitions.now (λ s. string_bytes s) in
    c.loop-i.invariant
    ∙ ap (λ l. wrote c.args.lines.now (written_definitions l)) (take_all c.loop-i.i words (omega (arith, size)))

-- Line by line, and what is left open at the end.
use Rattle.std.proofs.Common.{◌≡◌, ◌∙◌, [], map, ap, sym, subst, refl, false, rules, arith}
use Rattle.htmd_commonmark_reading.specs.Boxes.{Box, box, no_closed_blocks, nothing, shut}
use Rattle.htmd_commonmark_reading.specs.Containers.{fed, fed_all}
use Rattle.htmd_commonmark_reading.specs.Lines as lines
use Rattle.htmd_commonmark_reading.specs.Lines.{placed, split_lines}
use Rattle.htmd_commonmark_reading.specs.Lists.{collected}
use Rattle.htmd_commonmark_reader.specs.ClosedParts.{closed_parts}
use Rattle.htmd_commonmark_reader.specs.Definitions.{encoded}
use Rattle.htmd_commonmark_reader.specs.OpenBlocks.{nothing_before, HoldsBox}
use Rattle.htmd_commonmark_reader.proofs.LineSizesLemmas.{no_lines}
use Rattle.htmd_commonmark_reader.proofs.blocks.closed_text.Goals as goal

pub loop-rest-init : goal.loop-rest-init
loop-rest-init c = record {
  text = search rules;
  short = c.requires;
  held = (box no_closed_blocks false nothing, c.new-blocks.ensures, refl);
}

pub loop-rest-preserved : goal.loop-rest-preserved
loop-rest-preserved c =
    let i = c.loop-rest.invariant.held in
    let b = i.0 in
    let l = lines.line 0 c.split_line.result.0.now in
    record {
      text = search rules;
      short = omega (arith, c.loop-rest.invariant.short, c.split_line.ensures.shorter);
      held = (
        fed b.done b.gap b.inner l,
        subst (λ x. HoldsBox nothing_before (fed b.done b.gap b.inner x) c.push_line.new.self) c.at.ensures.line
            (c.in_ok-push_line.ensures b i.1),
        ap (λ ls. fed_all b (placed ls)) (sym c.split_line.ensures.lines) ∙ i.2,
      );
    }

pub returns-clause-parts : goal.returns-clause-parts
returns-clause-parts c =
    let i = c.loop-rest.invariant.held in
    let none = no_lines c.loop-rest.rest.now (search rules) in
    let b = i.0 in
    let all : b ≡ fed_all (box no_closed_blocks false nothing) (placed (split_lines c.args.text.now)) =
    ap (λ ls. fed_all b (placed ls)) (sym none) ∙ i.2 in
    (c.in_ok-close_to.ensures nothing_before b.done b.gap b.inner refl i.1).parts
    ∙ ap (λ (x : Box). closed_parts (shut x) []) all

pub returns-clause-found : goal.returns-clause-found
returns-clause-found c =
    let i = c.loop-rest.invariant.held in
    let none = no_lines c.loop-rest.rest.now (search rules) in
    let b = i.0 in
    let all : b ≡ fed_all (box no_closed_blocks false nothing) (placed (split_lines c.args.text.now)) =
    ap (λ ls. fed_all b (placed ls)) (sym none) ∙ i.2 in
    (c.in_ok-close_to.ensures nothing_before b.done b.gap b.inner refl i.1).found
    ∙ ap (λ (x : Box). map encoded (collected (shut x))) all

use Rattle.std.proofs.Common.{refl, ◌∙◌, ◌+◌, true, false, not, sym, ap, drop, map, arith}
use Rattle.htmd_lexical.specs.Attributes.{pairs_of}
use Rattle.htmd_shown.specs.SimpleViews.{simple_of}
use Rattle.htmd_flow.specs.LanguageViews.{code_among}
use Rattle.htmd_flow.proofs.ListsLemmas.{map_at, map_end}
use Rattle.htmd_flow.proofs.LanguagesLemmas.{code_text, code_first, code_more, code_end}
use Rattle.htmd_flow.proofs.language.attributes_of_code.Goals as goal

pub loop-node-preserved-then-is_text : goal.loop-node-preserved-then-is_text
loop-node-preserved-then-is_text c =
    let ts = c.args.content.now in
    let i = c.loop-node.node-index in
    let found = pairs_of c.loop-node.found.now in
    record {
      value = sym (ap (code_among c.loop-node.is_first found) (map_at simple_of ts i c.node-item.result (omega arith)
          c.node-item.is)
          ∙ code_text c.loop-node.is_first found (simple_of c.node-item.result) (map simple_of (drop (i + 1) ts))
          (ap not (sym c.is_text.ensures ∙ c.if-is_text.true)))
          ∙ c.loop-node.invariant.value;
      bare = c.loop-node.invariant.bare;
    }

pub returns-then-not-is_first : goal.returns-then-not-is_first
returns-then-not-is_first c =
    let ts = c.args.content.now in
    let i = c.loop-node.node-index in
    let found = pairs_of c.loop-node.found.now in
    sym (ap (λ f. code_among f found (map simple_of (drop i ts))) c.if-not-is_first.true
    ∙ ap (code_among false found) (map_at simple_of ts i c.node-item.result (omega arith) c.node-item.is)
    ∙ code_more found (simple_of c.node-item.result) (map simple_of (drop (i + 1) ts))
    (ap not (sym c.is_text.ensures ∙ c.if-is_text.false)))
    ∙ c.loop-node.invariant.value

pub loop-node-preserved : goal.loop-node-preserved
loop-node-preserved c =
    let ts = c.args.content.now in
    let i = c.loop-node.node-index in
    let found = pairs_of c.loop-node.found.now in
    record {
      value = ap (λ xs. code_among false xs (map simple_of (drop (i + 1) ts))) c.attributes_if_code-found.ensures
          ∙ sym (ap (λ f. code_among f found (map simple_of (drop i ts))) c.if-not-is_first.false
          ∙ ap (code_among true found) (map_at simple_of ts i c.node-item.result (omega arith) c.node-item.is)
          ∙ code_first found (simple_of c.node-item.result) (map simple_of (drop (i + 1) ts))
          (ap not (sym c.is_text.ensures ∙ c.if-is_text.false)))
          ∙ c.loop-node.invariant.value;
      bare = refl;
    }

pub returns : goal.returns
returns c =
    let found = pairs_of c.loop-node.found.now in
    code_end c.loop-node.is_first found c.loop-node.invariant.bare
    ∙ sym (ap (code_among c.loop-node.is_first found)
    (map_end simple_of c.args.content.now c.loop-node.node-index (omega arith)))
    ∙ c.loop-node.invariant.value

use Rattle.std.proofs.Common.{◌≡◌, ◌+◌, ◌<◌, ◌≤◌, length, map, take, sym, ap, ◌∙◌}
use Rattle.htmd_shown.specs.SimpleViews.{simple_of}
use Rattle.std.proofs.Common.{subst}
use Rattle.std.proofs.Common.{List}
use Rattle.std.proofs.lemmas.Result.{on_ok_weaker}
use Rattle.htmd_lexical.specs.Attributes.{pairs_of}
use Rattle.htmd_shown.specs.ShownTexts.{shown_text}
use Rattle.htmd_shown.specs.SimpleTrees as value
use Rattle.htmd_shown.specs.declared.simple.Simple as code
use Rattle.htmd_document_of_tree.proofs.ShapesLemmas.{element-made, text-made}
use Rattle.htmd_shown.specs.SimpleTrees.{simples_of}
use Rattle.htmd_document_of_tree.specs.Limits as spec
use Rattle.htmd_document_of_tree.specs.WrittenViews.{Counts}
use Rattle.htmd_document_of_tree.proofs.LimitsLemmas.{written_all-gone}
use Rattle.htmd_document_of_tree.proofs.WalksLemmas.{gone, take-item, take-end}
use Rattle.htmd_document_of_tree.proofs.limits.Written.+written.Goals as goal

pub note_all-loop-tree-preserved : goal.note_all-loop-tree-preserved
note_all-loop-tree-preserved t c =
    let h : c.loop-tree.tree-index < length c.args.trees.now = c.loop-tree-test.true in
    λ w known.
    rw (take-item spec.written simple_of c.args.trees.now c.loop-tree.tree-index w c.tree-item.result h c.tree-item.is)
    (c.in_ok-note.ensures _ (c.loop-tree.invariant w known))

pub note_all-returns : goal.note_all-returns
note_all-returns t c =
    let h : length c.args.trees.now ≤ c.loop-tree.tree-index = c.loop-tree-test.false in
    let zs = map simple_of c.args.trees.now in
    λ w known.
    let e : gone spec.written w (take c.loop-tree.tree-index zs) ≡ spec.written_all w (simples_of zs) =
    ap (λ vs. gone spec.written w vs) (take-end simple_of c.args.trees.now c.loop-tree.tree-index h)
    ∙ sym (written_all-gone w zs) in
    subst (λ (v : spec.Written). Counts c.loop-tree.self v) e (c.loop-tree.invariant w known)

pub note-returns-in_ok-self-in-Text : goal.note-returns-in_ok-self-in-Text
note-returns-in_ok-self-in-Text t c = λ w known.
    let shown = shown_text c.in-Text.text.now in
    let e = ap simple_of c.in-Text.is ∙ text-made c.in-Text.text in
    let counted = record c.args.self.now { count = c.in_ok-self-in-Text.field-0 } in
    subst (λ (v : value.Simple). Counts counted (spec.written w v)) (sym e) (record {
      count = c.in_ok-self-in-Text.ensures ∙ (ap (λ n. c.args.self.now.count + n) c.shown_len.ensures
          ∙ ap (λ n. n + spec.characters shown) known.count);
      pairs = known.pairs;
    })

pub note-returns-in_ok-note_element-in-Element : goal.note-returns-in_ok-note_element-in-Element
note-returns-in_ok-note_element-in-Element t c =
    let i = c.in-Element in
    let attributes = pairs_of i.attrs.now in
    let e = ap simple_of i.is ∙ element-made i.node i.role i.facts i.attrs i.content in
    let among : List code.Simple → value.Simples = λ ts. value.simples_of (map simple_of ts) in
    on_ok_weaker c.note_all.result
    (λ f w known.
    let one = f _ (c.in_ok-note_element-in-Element.ensures w known) in
    let same = ap (λ ts. spec.written_all (spec.with_element w i.role attributes) (among ts)) c.deref.ensures.value in
    subst (λ (v : value.Simple). Counts c.note_all.new.self (spec.written w v)) (sym e)
    (subst (λ (v : spec.Written). Counts c.note_all.new.self v) same one)) c.note_all.ensures

-- The element, and the text in it unless that is empty.
use Rattle.std.proofs.Common.{◌≡◌, ◌∙◌, ap, sym}
use Rattle.htmd_lexical.specs.Attributes.{pairs_of}
use Rattle.htmd.specs.PageOutputs.{empty_paragraph}
use Rattle.htmd.proofs.PageOutputsLemmas.{element_added, none_added, text_added}
use Rattle.htmd.proofs.paragraph.tree_of.Goals.{then-not-is_empty+in_ok-add_text, else-not-is_empty}
use Rattle.htmd.proofs.paragraph.tree_of.Goals as goal

pub returns-clause-ok : goal.returns-clause-ok
returns-clause-ok c =
    let document = c.in_ok-tree.tree in
    let one : c.add_element.new.self ≡ empty_paragraph =
    element_added document c.add_element.new.self c.root-root.result (pairs_of c.new-2.result.items)
    c.in_ok-tree.ensures.ok c.root-root.ensures.value (ap pairs_of c.new-2.ensures.items)
    c.in_ok-element.ensures.ok in elim c.if-not-is_empty.branch [
      | then-not-is_empty+in_ok-add_text w ↦ rw w.tree-is (text_added document c.add_element.new.self _
          c.in_ok-element.element c.args.text.now c.in_ok-tree.ensures.ok one c.in_ok-element.ensures.id
          (sym c.is_empty.ensures ∙ w.if-not-is_empty.true) w.in_ok-add_text.ensures.ok)
      | else-not-is_empty w ↦ rw w.tree-is (none_added c.add_element.new.self c.args.text.now one
          (sym c.is_empty.ensures ∙ w.if-not-is_empty.false))
    ]

use Rattle.std.proofs.Common.{◌+◌, ◌<◌, ◌≤◌, length, map, refl, sym, ap, ◌∙◌}
use Rattle.htmd_shown.specs.SimpleTrees.{simples_of}
use Rattle.htmd_shown.specs.SimpleViews.{simple_of}
use Rattle.htmd_document_of_tree.specs.LeadingViews as views
use Rattle.std.proofs.Common.{◌&&◌, ◌||◌}
use Rattle.htmd_document_of_tree.specs.Leadings.{after, is_flat, leadings, leadings_if, shows_in_link}
use Rattle.htmd_document_of_tree.specs.Seen.{all_seen}
use Rattle.htmd_document_of_tree.proofs.LeadingsLemmas.{leadings-from, leadings-drop, leadings-end, merged-append}
use Rattle.std.proofs.lemmas.Result.{IfOk-weaker, on_ok_weaker}
use Rattle.htmd_lexical.specs.Attributes.{pairs_of}
use Rattle.htmd_document_of_tree.proofs.LeadingsLemmas.{element-led, inside-led, leaf-nowhere}
use Rattle.htmd_document_of_tree.proofs.SeenLemmas.{seen-inside, seen-leaf}
use Rattle.htmd_document_of_tree.proofs.SeenLemmas.{after_seen, all_seen-gone}
use Rattle.htmd_document_of_tree.proofs.WalksLemmas.{read-item, gone-end}
use Rattle.htmd_document_of_tree.proofs.leadings.Leadings.+leadings.Goals as goal

pub among-loop-tree-init : goal.among-loop-tree-init
among-loop-tree-init t c = record { seen = refl; spans = λ s. refl }

pub among-loop-tree-preserved : goal.among-loop-tree-preserved
among-loop-tree-preserved t c =
    let h : c.loop-tree.tree-index < length c.args.trees.now = c.loop-tree-test.true in
    let e = c.in_ok-seen.ensures in
    let v = simple_of c.tree-item.result in
    let a = record c.args.around { seen = c.loop-tree.seen } in
    let rest = leadings-from (after a v) c.args.layout c.args.trees.now (c.loop-tree.tree-index + 1) in
    let known = views.span_to c.loop-tree.self in
    record {
      seen = rw e.seen (read-item after_seen simple_of _ _ _ _ _ h c.tree-item.is c.loop-tree.invariant.seen);
      spans = λ s. rw e.seen (ap (λ k. views.merged k s rest) (rw (← c.is_flat.ensures) (e.spans s))
          ∙ (sym (merged-append (known s) s (leadings a (is_flat c.args.layout v) v) rest)
          ∙ (ap (λ found. views.merged (known s) s found)
          (sym (leadings-drop a c.args.layout c.args.trees.now c.loop-tree.tree-index c.tree-item.result h
          c.tree-item.is))
          ∙ c.loop-tree.invariant.spans s)));
    }

pub among-returns : goal.among-returns
among-returns t c =
    let h : length c.args.trees.now ≤ c.loop-tree.tree-index = c.loop-tree-test.false in
    let a = record c.args.around { seen = c.loop-tree.seen } in
    record {
      seen = gone-end after_seen simple_of _ _ _ _ h c.loop-tree.invariant.seen
          ∙ sym (all_seen-gone c.args.around.seen (map simple_of c.args.trees.now));
      spans = λ s. sym (ap (λ found. views.merged (views.span_to c.loop-tree.self s) s found)
          (leadings-end a c.args.layout c.args.trees.now c.loop-tree.tree-index h)) ∙ c.loop-tree.invariant.spans s;
    }

pub node-returns-in-Some : goal.node-returns-in-Some
node-returns-in-Some t c =
    let tree = simple_of c.args.tree.now in
    let leaf = sym c.in-Some.ensures in
    record {
      seen = IfOk-weaker c.one_more.result _ _
          (λ n e. e ∙ ap (λ k. c.args.around.seen + k) (sym (seen-leaf c.in-Some.shows tree leaf)))
          c.one_more.ensures;
      spans = IfOk-weaker c.one_more.result _ _
          (λ n e s. sym (ap (λ found. views.merged (views.span_to c.args.self.now s) s found)
          (leaf-nowhere c.args.around c.args.is_flat c.in-Some.shows tree leaf))) c.one_more.ensures;
    }

pub node-returns-in-None : goal.node-returns-in-None
node-returns-in-None t c =
    let tree = simple_of c.args.tree.now in
    let none = sym c.in-None.ensures in
    record {
      seen = IfOk-weaker c.inside.result _ _
          (λ n e. e ∙ ap (λ k. c.args.around.seen + k) (sym (seen-inside tree none))) c.inside.ensures.seen;
      spans = on_ok_weaker c.inside.result
          (λ f s. f s ∙ ap (λ found. views.merged (views.span_to c.args.self.now s) s found)
          (inside-led c.args.around c.args.is_flat tree none)) c.inside.ensures.spans;
    }

pub element-returns : goal.element-returns
element-returns t c =
    let around = c.args.around in
    let attributes = pairs_of c.args.attrs.now in
    let content = simples_of (map simple_of c.args.content.now) in
    let layout = c.in_ok-layout.layout in
    let heading = c.in_ok-heading.heading in
    let may = c.may_lead-may_lead.ensures in
    let inner = c.inside.ensures
    ∙ ap (λ a. record {
      seen = a.seen;
      heading = heading;
      is_linked = a.is_linked || c.in_ok-is_written.is_written;
      is_rich = a.is_rich;
    }) c.around_content-outer.ensures in
    record {
      seen = IfOk-weaker c.among.result _ _
          (λ n e. e ∙ ap (λ a. a.seen + all_seen content) inner) c.among.ensures.seen;
      spans = on_ok_weaker c.among.result
          (element-led around c.args.is_flat c.args.role attributes content layout heading c.in_ok-is_written.is_written
          c.inside.result c.in_ok-layout.ensures c.in_ok-heading.ensures
          (c.in_ok-is_written.ensures.written
          ∙ ap (λ b. b && shows_in_link around.is_rich layout attributes content) may)
          inner c.args.self.now c.link_if.new.self c.among.new.self
          (λ s. c.in_ok-is_written.ensures.spans s ∙ ap (λ b. views.merged (views.span_to c.args.self.now s) s
          (leadings_if (b && shows_in_link around.is_rich layout attributes content) heading attributes)) may))
          c.among.ensures.spans;
    }

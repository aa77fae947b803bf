-- A node in each turn, until no more comes.
use Rattle.std.proofs.Common.{◌≡◌, ◌≤◌, ◌∙◌, length, Some, sym, arith, rules}
use Rattle.std.proofs.lemmas.List.{length-map}
use Rattle.std.proofs.lemmas.List.Elements.{All-pop}
use Rattle.htmd_nodes.specs.Items.{greatest_depth}
use Rattle.htmd_html5_state.specs.Views.{node_of, nodes_of}
use Rattle.htmd_html5.specs.Layout.{first_layout}
use Rattle.htmd_html5.specs.LayoutViews.{coming_of, layout_of, work_of, MayHold}
use Rattle.htmd_html5.specs.declared.layout.Coming.{Coming}
use Rattle.htmd_html5.proofs.LayoutLemmas.{lays-first, lays-next, lays-none, lays-over, work_of-pop, work_of-none}
use Rattle.htmd_html5.proofs.LayoutLemmas.{whole-document}
use Rattle.htmd_html5.proofs.layout.lay_out.Goals as goal

pub loop-node-init : goal.loop-node-init
loop-node-init c = record {
  lays = lays-first greatest_depth (first_layout (nodes_of c.args.nodes.items)) (layout_of c.in_ok-layout.layout)
      c.len-count.result c.in_ok-layout.ensures.value;
  holds = c.in_ok-layout.ensures.holds;
}

pub put-requires-clause-holds : goal.put-requires-clause-holds
put-requires-clause-holds c =
    let parts = All-pop (λ (x : Coming). MayHold c.loop-node.layout.tree x.under) c.loop-node.layout.coming.items
    c.pop.new.self.items (Some c.in-Some.coming) c.in-Some.ensures.items c.loop-node.invariant.holds in
    parts.0

pub loop-node-preserved : goal.loop-node-preserved
loop-node-preserved c =
    let now = layout_of c.loop-node.layout in
    record {
      lays = lays-next greatest_depth (first_layout (nodes_of c.args.nodes.items)) now (layout_of c.put.new.self)
          c.loop-node._node c.len-count.result (coming_of c.in-Some.coming) (work_of c.pop.new.self.items)
          c.loop-node.invariant.lays
          (work_of-pop c.loop-node.layout.coming.items c.pop.new.self.items c.in-Some.coming c.in-Some.ensures.items)
          c.in_ok-put.ensures.value;
      holds = c.in_ok-put.ensures.holds;
    }

pub returns-in_default : goal.returns-in_default
returns-in_default c =
    let nodes = nodes_of c.args.nodes.items in
    let now = layout_of c.loop-node.layout in
    let count : c.len-count.result ≡ length nodes =
    c.len-count.ensures ∙ (search rules ∙ sym (length-map c.args.nodes.items node_of)) in
    let none : length c.loop-node.layout.coming.items ≡ 0 =
    (search rules ∙ c.in_default.ensures.cases.0) in
    let within : c.loop-node._node ≤ c.len-count.result = omega arith in
    whole-document greatest_depth nodes now c.len-count.result
    (lays-none greatest_depth (first_layout nodes) now c.loop-node._node c.len-count.result c.loop-node.invariant.lays
    within (work_of-none c.loop-node.layout.coming.items none)) count

pub returns : goal.returns
returns c =
    let nodes = nodes_of c.args.nodes.items in
    let now = layout_of c.loop-node.layout in
    let count : c.len-count.result ≡ length nodes =
    c.len-count.ensures ∙ (search rules ∙ sym (length-map c.args.nodes.items node_of)) in
    let over : c.loop-node._node ≡ c.len-count.result = omega arith in
    whole-document greatest_depth nodes now c.len-count.result
    (lays-over greatest_depth (first_layout nodes) now c.loop-node._node c.len-count.result
    c.loop-node.invariant.lays over)
    count

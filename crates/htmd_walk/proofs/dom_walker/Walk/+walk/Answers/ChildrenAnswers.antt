-- The children of a node, one group after another.
use Rattle.std.proofs.Common.{rules, ◌≡◌, ◌<◌, ◌≤◌, ◌+◌, ◌-◌, ◌*◌, ◌∙◌}
use Rattle.std.proofs.Common.{cond, All, sym, ap, subst, arith, length, take, drop, nat_lt}
use Rattle.std.proofs.Common.{string_bytes}
use Rattle.std.specs.Option.{option_copied}
use Rattle.std.proofs.lemmas.List.Elements.{All-drop}
use Rattle.std.proofs.Math.Nat.{mul-le-mul_right}
use Rattle.htmd_nodes.specs.NumberedTrees.{forest_of, tree_of}
use Rattle.htmd_walk.specs.OrdinaryText.{in_pre_or_code}
use Rattle.htmd_walk.specs.Groups.{groups_of, group_length, group_text, children_at}
use Rattle.htmd_walk.specs.Outputs.{conversion_of}
use Rattle.htmd_walk.specs.Children.{write_children}
use Rattle.htmd_walk.specs.Code.{language_of_pre}
use Rattle.htmd_walk.specs.Rendering.{written_within, inside_of}
use Rattle.htmd_walk.specs.Views.{output_view}
use Rattle.htmd_walk.proofs.ChildrenLemmas.{IsChild, children-all, child-first, inside-child, nonempty, if_some}
use Rattle.htmd_walk.proofs.ChildrenLemmas.{first-has_text, group_written}
use Rattle.htmd_walk.proofs.RenderingLemmas.{cut_before}
use Rattle.htmd_walk.proofs.dom_walker.Walk.+walk.Goals as goal

pub walk_children-loop-rest-init : goal.walk_children-loop-rest-init
walk_children-loop-rest-init g t c =
    let v = conversion_of (g.R.Registry.config c.args.self.now.registry.now) c.args.self.now.tree.now in
    record {
      children =
          subst (λ xs. All (IsChild c.args.self.now.tree.now c.args.node) xs) (sym c.children-rest.ensures.value)
          (children-all c.args.self.now.tree.now c.args.node c.children-rest.ensures.tree c.requires.within);
      rest = λ n h.
          ap (λ xs. write_children (written_within n v) (inside_of c.args.self.now.tree.now c.args.node)
          (groups_of (forest_of (tree_of c.args.self.now.tree.now) xs)) c.trims_first-trim.result
          (output_view c.args.out.now c.args.links.now)) c.children-rest.ensures.value
          ∙ ap (λ b. write_children (written_within n v) (inside_of c.args.self.now.tree.now c.args.node)
          (groups_of (children_at c.args.self.now.tree.now c.args.node)) b
          (output_view c.args.out.now c.args.links.now)) c.trims_first-trim.ensures;
    }

pub walk_children-walk_node-requires : goal.walk_children-walk_node-requires
walk_children-walk_node-requires g t c κs within =
    let some : 0 < length c.loop-rest.rest.now = (nonempty (length c.loop-rest.rest.now) c.loop-rest-test.ensures) in
    let child = child-first c.args.self.now.tree.now c.args.node c.index-rest-0.result c.loop-rest.rest.now some
    c.index-rest-0.is c.loop-rest.invariant.children in
    let joined : option_copied c.lent.result ≡ group_text (tree_of c.args.self.now.tree.now)
    (take (group_length (tree_of c.args.self.now.tree.now) c.loop-rest.rest.now) c.loop-rest.rest.now) =
    c.lent.ensures ∙ c.in_ok-joined.ensures ∙ ap (group_text (tree_of c.args.self.now.tree.now))
    (c.split_at.ensures.front ∙ ap (λ k. take k c.loop-rest.rest.now) c.group_length.ensures.value) in
    let behind : c.args.node + 1 ≤ c.index-rest-0.result = omega (arith, child.behind) in
    let less : (length c.args.self.now.tree.now - c.index-rest-0.result) *
    (length (g.R.Registry.config c.args.self.now.registry.now).registered + 6)
    ≤ (length c.args.self.now.tree.now - (c.args.node + 1)) *
    (length (g.R.Registry.config c.args.self.now.registry.now).registered + 6) =
    mul-le-mul_right (length (g.R.Registry.config c.args.self.now.registry.now).registered + 6) (omega arith) in
    let inside : c.index-rest-0.result < length c.args.self.now.tree.now = child.within in
    let group = if_some c.lent.result _ joined
    (λ s e. first-has_text c.args.self.now.tree.now c.loop-rest.rest.now c.index-rest-0.result s
    c.children-rest.ensures.tree child.within some c.index-rest-0.is e) in (
      search rules,
      (
        within,
        (
          search rules,
          record {
            within = inside;
            group = group;
            language = c.language_inside-pre_language.ensures
                ∙ ap (language_of_pre c.args.self.now.tree.now) (sym child.parent);
            context = λ no_text. c.requires.inside
                ∙ sym (ap in_pre_or_code (inside-child c.args.self.now.tree.now c.args.node c.index-rest-0.result
                c.children-rest.ensures.tree child));
          },
        ),
      ),
    )

pub walk_children-loop-rest-preserved-in_ok-walk_node : goal.walk_children-loop-rest-preserved-in_ok-walk_node
walk_children-loop-rest-preserved-in_ok-walk_node g t c =
    let v = conversion_of (g.R.Registry.config c.args.self.now.registry.now) c.args.self.now.tree.now in
    let some : 0 < length c.loop-rest.rest.now = (nonempty (length c.loop-rest.rest.now) c.loop-rest-test.ensures) in
    let child = child-first c.args.self.now.tree.now c.args.node c.index-rest-0.result c.loop-rest.rest.now some
    c.index-rest-0.is c.loop-rest.invariant.children in
    let joined : option_copied c.lent.result ≡ group_text (tree_of c.args.self.now.tree.now)
    (take (group_length (tree_of c.args.self.now.tree.now) c.loop-rest.rest.now) c.loop-rest.rest.now) =
    c.lent.ensures ∙ c.in_ok-joined.ensures ∙ ap (group_text (tree_of c.args.self.now.tree.now))
    (c.split_at.ensures.front ∙ ap (λ k. take k c.loop-rest.rest.now) c.group_length.ensures.value) in
    let before = (output_view c.cut_before_child.new.out c.loop-rest.links) in
    let after = (output_view c.walk_node.new.out c.walk_node.new.links) in
    let longer : nat_lt (length c.as_str-before.result.now) (length c.as_str.result.now) ≡ nat_lt (length before.text)
    (length after.text) =
    ap (λ s. nat_lt (length s) (length c.as_str.result.now)) c.as_str-before.ensures.value
    ∙ ap (λ s. nat_lt (length before.text) (length s)) c.as_str.ensures.value in
    record {
      children = subst (λ xs. All (IsChild c.args.self.now.tree.now c.args.node) xs) (sym c.split_at.ensures.back)
          (All-drop (IsChild c.args.self.now.tree.now c.args.node) c.group_length.result c.loop-rest.rest.now
          c.loop-rest.invariant.children);
      rest = λ n h.
          ap (λ xs. write_children (written_within n v) (inside_of c.args.self.now.tree.now c.args.node)
          (groups_of (forest_of (tree_of c.args.self.now.tree.now) xs)) c.trim_after-trim.result after)
          (c.split_at.ensures.back ∙ ap (λ k. drop k c.loop-rest.rest.now) c.group_length.ensures.value)
          ∙ group_written (g.R.Registry.config c.args.self.now.registry.now) c.args.self.now.tree.now c.args.node
          c.index-rest-0.result c.loop-rest.rest.now n (option_copied c.lent.result) c.is_block-is_block.result
          c.loop-rest.trim c.args.preformatted (output_view c.loop-rest.out c.loop-rest.links)
          (output_view c.cut_before_child.new.out c.loop-rest.links) c.children-rest.ensures.tree some
          c.index-rest-0.is child c.requires.inside joined c.is_block-is_block.ensures
          (cut_before c.is_block-is_block.result (output_view c.loop-rest.out c.loop-rest.links)
          (string_bytes c.cut_before_child.new.out.content) c.cut_before_child.new.out.markdown_translated
          c.cut_before_child.ensures.text c.cut_before_child.ensures.markdown_translated) after
          c.trim_after-trim.result (c.in_ok-walk_node.ensures n (omega (arith, child.lower, h)))
          (c.trim_after-trim.ensures ∙ ap (λ b. cond b c.is_block-is_block.result c.loop-rest.trim) longer)
          ∙ c.loop-rest.invariant.rest n h;
    }

pub walk_children-loop-rest-preserved : goal.walk_children-loop-rest-preserved
walk_children-loop-rest-preserved g t c =
    let v = conversion_of (g.R.Registry.config c.args.self.now.registry.now) c.args.self.now.tree.now in
    let some : 0 < length c.loop-rest.rest.now = (nonempty (length c.loop-rest.rest.now) c.loop-rest-test.ensures) in
    let child = child-first c.args.self.now.tree.now c.args.node c.index-rest-0.result c.loop-rest.rest.now some
    c.index-rest-0.is c.loop-rest.invariant.children in
    let joined : option_copied c.lent.result ≡ group_text (tree_of c.args.self.now.tree.now)
    (take (group_length (tree_of c.args.self.now.tree.now) c.loop-rest.rest.now) c.loop-rest.rest.now) =
    c.lent.ensures ∙ c.in_ok-joined.ensures ∙ ap (group_text (tree_of c.args.self.now.tree.now))
    (c.split_at.ensures.front ∙ ap (λ k. take k c.loop-rest.rest.now) c.group_length.ensures.value) in
    let before = (output_view c.cut_before_child.new.out c.loop-rest.links) in
    let after = (output_view c.walk_node.new.out c.walk_node.new.links) in
    let longer : nat_lt (length c.as_str-before.result.now) (length c.as_str.result.now) ≡ nat_lt (length before.text)
    (length after.text) =
    ap (λ s. nat_lt (length s) (length c.as_str.result.now)) c.as_str-before.ensures.value
    ∙ ap (λ s. nat_lt (length before.text) (length s)) c.as_str.ensures.value in
    record {
      children = subst (λ xs. All (IsChild c.args.self.now.tree.now c.args.node) xs) (sym c.split_at.ensures.back)
          (All-drop (IsChild c.args.self.now.tree.now c.args.node) c.group_length.result c.loop-rest.rest.now
          c.loop-rest.invariant.children);
      rest = λ n h.
          ap (λ xs. write_children (written_within n v) (inside_of c.args.self.now.tree.now c.args.node)
          (groups_of (forest_of (tree_of c.args.self.now.tree.now) xs)) c.trim_after-trim.result after)
          (c.split_at.ensures.back ∙ ap (λ k. drop k c.loop-rest.rest.now) c.group_length.ensures.value)
          ∙ group_written (g.R.Registry.config c.args.self.now.registry.now) c.args.self.now.tree.now c.args.node
          c.index-rest-0.result c.loop-rest.rest.now n (option_copied c.lent.result) c.is_block-is_block.result
          c.loop-rest.trim c.args.preformatted (output_view c.loop-rest.out c.loop-rest.links)
          (output_view c.cut_before_child.new.out c.loop-rest.links) c.children-rest.ensures.tree some
          c.index-rest-0.is child c.requires.inside joined c.is_block-is_block.ensures
          (cut_before c.is_block-is_block.result (output_view c.loop-rest.out c.loop-rest.links)
          (string_bytes c.cut_before_child.new.out.content) c.cut_before_child.new.out.markdown_translated
          c.cut_before_child.ensures.text c.cut_before_child.ensures.markdown_translated) after
          c.trim_after-trim.result (c.in_ok-walk_node.ensures n (omega (arith, child.lower, h)))
          (c.trim_after-trim.ensures ∙ ap (λ b. cond b c.is_block-is_block.result c.loop-rest.trim) longer)
          ∙ c.loop-rest.invariant.rest n h;
    }

use Rattle.std.proofs.Common.{◌≡◌, ◌∙◌, ap, map, subst, ◌≤◌, length, arith}
use Rattle.std.specs.List.{prefix_len, remove}
use Rattle.htmd_flow.specs.FlowViews.{is_no_link}
use Rattle.htmd_flow.specs.PartViews.{around_of}
use Rattle.htmd_flow.proofs.AroundLemmas.{link_kept, link_out}
use Rattle.htmd_flow.proofs.place.take_link.Goals as goal

pub returns-then-len-clause-without : goal.returns-then-len-clause-without
returns-then-len-clause-without c =
    link_kept c.args.around.now.items c.before_link_len-len.result
    (c.before_link_len-len.ensures.value ∙ ap (prefix_len is_no_link) c.deref.ensures.value) (omega arith)

pub returns-clause-without : goal.returns-clause-without
returns-clause-without c =
    let xs = c.args.around.now.items in
    let len = c.before_link_len-len.result in
    let is : len ≡ prefix_len is_no_link xs =
    c.before_link_len-len.ensures.value ∙ ap (prefix_len is_no_link) c.deref.ensures.value in
    let within : len ≤ length xs = subst (λ ys. len ≤ length ys) c.deref.ensures.value
    c.before_link_len-len.ensures.bound in
    ap (map around_of) c.remove-link.ensures.items ∙ ap (λ k. map around_of (remove xs k)) is
    ∙ link_out xs (omega (arith, is, within, c.len.ensures))

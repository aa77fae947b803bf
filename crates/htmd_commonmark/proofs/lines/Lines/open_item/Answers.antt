-- The prefix grows by spaces.
use Rattle.std.proofs.Common.{◌≡◌, length, ap, ◌∙◌, arith, rules, string_bytes, string_len}
use Rattle.htmd_commonmark.proofs.PagesLemmas.{prefix_grows, wrote-prefix}
use Rattle.htmd_commonmark.proofs.lines.Lines.open_item.Goals as goal

pub invariant_of-self-in_err-push_repeated-2 : goal.invariant_of-self-in_err-push_repeated-2
invariant_of-self-in_err-push_repeated-2 c =
    let inside = c.self.inside in
    let grown = prefix_grows (string_bytes inside.prefix) (string_bytes c.push_repeated-2.new.text) inside.written _
    (c.in_err-push_repeated-2.ensures.err ∙ c.in_ok-push_repeated.ensures.ok) c.self.invariant.within
    c.self.invariant.ascii in
    record { within = grown.0; ascii = grown.1 }

pub invariant_of-self-2 : goal.invariant_of-self-2
invariant_of-self-2 c =
    let inside = c.self.inside in
    let first = prefix_grows (string_bytes inside.prefix) (string_bytes c.push_repeated.new.text) inside.written _
    c.in_ok-push_repeated.ensures.ok c.self.invariant.within c.self.invariant.ascii in
    let second = prefix_grows (string_bytes c.push_repeated.new.text) (string_bytes c.push_repeated-2.new.text)
    inside.written _ c.in_ok-push_repeated-2.ensures.ok first.0 first.1 in
    record { within = omega (arith, c.len-self-inside.ensures); ascii = second.1 }

pub returns-clause-outside : goal.returns-clause-outside
returns-clause-outside c =
    let size : string_len c.self.inside.prefix ≡ length (string_bytes c.self.inside.prefix) = search rules in
    c.len-outside.ensures ∙ size ∙ ap (λ p. length p.prefix) (c.self.view_is ∙ c.in_ok-push.ensures)
    ∙ ap length (wrote-prefix c.args.self.now c.args.marker.now)

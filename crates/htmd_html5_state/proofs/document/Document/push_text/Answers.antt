-- One part of one node is written.
use Rattle.std.proofs.Common.{◌≡◌, ◌∙◌, length, arith, rules}
use Rattle.htmd_html5_state.proofs.DocumentLemmas.{text-joined}
use Rattle.htmd_html5_state.proofs.document.Document.push_text.Goals as goal

pub returns-in-Text : goal.returns-in-Text
returns-in-Text c =
    let ns = c.self.inside.nodes.items in
    let len : c.len.result ≡ length ns = c.len.ensures ∙ search rules in
    let old = c.index_mut-node.result.now in
    text-joined ns c.args.self.now c.args.node old c.in-Text.before c.push_str.new.self c.args.text.now c.self.view_is
    (omega arith) c.index_mut-node.ensures.value c.in-Text.is c.in_ok-push_str.ensures.bytes

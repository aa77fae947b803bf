-- The last inline is a text or another.
use Rattle.std.proofs.Common.{◌++◌, ◌∷◌, [], ap, ◌∙◌}
use Rattle.htmd_commonmark.proofs.BlocksLemmas.{on_ok}
use Rattle.htmd_chunks.proofs.WordStepsLemmas.{behind-text, behind-other, no-text}
use Rattle.htmd_chunks.proofs.words.push_behind.Goals as goal

pub returns-in_ok-push-in-Text : goal.returns-in_ok-push-in-Text
returns-in_ok-push-in-Text c =
    let rest = c.pop.new.self.items in
    behind-text c.args.line.now.items rest c.push.new.self.items c.in-Text.last c.push_str.new.self c.args.text.now
    (c.in-Some.ensures.items ∙ ap (λ x. rest ++ x ∷ []) c.in-Text.is) c.in_ok-push_str-in-Text.ensures.bytes
    c.in_ok-push-in-Text.ensures.items

pub returns-in_ok-push-in_default-last : goal.returns-in_ok-push-in_default-last
returns-in_ok-push-in_default-last c =
    on_ok c.push_text-in_default-last.result c.push_text-in_default-last.ensures (λ is.
    behind-other c.args.line.now.items c.pop.new.self.items c.push-in_default-last.new.self.items
    c.push_text-in_default-last.new.line.items c.in-Some.last c.args.text.now c.in-Some.ensures.items
    c.in_ok-push-in_default-last.ensures.items (no-text c.in-Some.last c.in_default-last.not-Text) is)

use Rattle.std.proofs.Common.{◌≡◌, ℕ, ◌≤◌, List, [], ◌∷◌, length, get_or, refl, ap, ◌∙◌, arith}
use Rattle.htmd_nodes.specs.TagLookup.{tag_beginning, tag_of}
use Rattle.htmd_nodes.proofs.TagLemmas.{no_tag}
use Rattle.htmd_nodes.proofs.tag.Tag.with_text.Goals as goal

by_first : (text : List ℕ) → 1 ≤ length text → tag_beginning (get_or text 0 0) text ≡ tag_of text
unfolding tag_of
by_first [] h = absurd (omega arith)
by_first (first ∷ rest) h = refl

pub returns-in-len1-up-clause-none : goal.returns-in-len1-up-clause-none
returns-in-len1-up-clause-none c =
    let h : 1 ≤ length c.args.text.now = rw c.as_bytes-2.ensures.value at c.in-len1-up.len_at_least in
    no_tag c.args.text.now c.beginning.result (c.beginning.ensures.value
    ∙ ap (λ read. tag_beginning (get_or read 0 0) c.args.text.now) c.as_bytes-2.ensures.value
    ∙ by_first c.args.text.now h)

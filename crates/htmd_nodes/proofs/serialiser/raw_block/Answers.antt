-- The block of a serialisation without a carriage return is raw.
use Rattle.std.proofs.Common.{◌≡◌, ◌∙◌, ap, subst, false, List, ℕ, string_bytes, chars}
use Rattle.std.specs.Str.{IsUtf8, encode_utf8_all}
use Rattle.std.proofs.lemmas.Str.{IsUtf8-string_bytes}
use Rattle.htmd_lexical.specs.BlankLines.{with_blank_lines}
use Rattle.htmd_values.specs.RawBlocks.{raw_block, without_blank_lines}
use Rattle.htmd_values.specs.Serialisation.{serialisation}
use Rattle.htmd_values.proofs.RawBlocksLemmas.{raw_block-raw_html}
use Rattle.htmd_nodes.specs.NumberedTrees.{tree_of, value_tree}
use Rattle.htmd_nodes.proofs.serialiser.raw_block.Goals as goal

pub returns-clause-raw : goal.returns-clause-raw
returns-clause-raw c =
    let s : List ℕ = serialisation (value_tree (tree_of c.args.tree.now c.args.node)) in
    let text : IsUtf8 s = subst IsUtf8 c.in_ok-text.ensures (IsUtf8-string_bytes c.in_ok-text.text) in
    let inner : string_bytes c.in_ok-block.block ≡ encode_utf8_all (without_blank_lines false (chars s)) =
    c.in_ok-block.ensures ∙ ap (λ x. encode_utf8_all (without_blank_lines false (chars x))) c.in_ok-text.ensures in
    let whole : string_bytes c.surround_with_blank_lines.new.text ≡ raw_block s =
    c.in_ok-surround_with_blank_lines.ensures.ok ∙ ap with_blank_lines inner in
    raw_block-raw_html s (string_bytes c.surround_with_blank_lines.new.text) text whole

pub returns-clause-utf8 : goal.returns-clause-utf8
returns-clause-utf8 c = subst IsUtf8 c.in_ok-text.ensures (IsUtf8-string_bytes c.in_ok-text.text)

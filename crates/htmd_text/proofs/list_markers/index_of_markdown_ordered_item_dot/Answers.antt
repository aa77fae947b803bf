-- What the three calls answer.
use Rattle.std.proofs.Common.{◌≡◌, length, drop, ap, ◌∙◌, arith}
use Rattle.std.specs.Prelude.{◌==◌}
use Rattle.std.specs.List.{between, prefix_len}
use Rattle.std.proofs.lemmas.List.{length-drop}
use Rattle.std.proofs.lemmas.Slice.{between_to_end}
use Rattle.htmd_lexical.specs.Characters.{full_stop}
use Rattle.htmd_text.specs.ListMarkers.{dots_len}
use Rattle.htmd_text.proofs.ListMarkersLemmas.{dot_told}
use Rattle.htmd_text.proofs.list_markers.index_of_markdown_ordered_item_dot.Goals as goal

pub last_dot-requires : goal.last_dot-requires
last_dot-requires c =
    let bytes = c.as_bytes-bytes.result.now in
    let from = c.numerals_len-numerals.result in
    let within = ap length c.as_bytes-bytes.ensures.value in
    let rest = between_to_end bytes from (length bytes) (omega arith) in
    omega (arith, length-drop from bytes, ap length rest, within)

pub returns : goal.returns
returns c =
    let s = c.args.text.now in
    let bytes = c.as_bytes-bytes.result.now in
    let from = c.numerals_len-numerals.result in
    let same = c.as_bytes-bytes.ensures.value in
    let rest : between from (length bytes) bytes ≡ drop from s =
    between_to_end bytes from (length bytes) (omega arith)
    ∙ ap (drop from) same in
    let dots : c.leading_len-dots.result ≡ dots_len s = c.leading_len-dots.ensures.value
    ∙ ap (prefix_len (λ b. b == full_stop)) (rest ∙ ap (λ n. drop n s) c.numerals_len-numerals.ensures.value) in
    c.last_dot.ensures ∙ dot_told s _ _ _ same c.numerals_len-numerals.ensures.value dots

use Rattle.std.proofs.Common.{◌≡◌, ◌<◌, ◌++◌, ◌∙◌, ap, arith, length, rules, sym, Some}
use Rattle.std.specs.Prelude.{replicate, if◌then◌else◌}
use Rattle.std.specs.String.{string_bytes}
use Rattle.std.proofs.lemmas.Bool.Decides.{nat_tests}
use Rattle.htmd_lexical.specs.Characters.{line_feed}
use Rattle.htmd_text.specs.Trims.{is_line_feed, trimmed_end, trimmed_start}
use Rattle.htmd_markdown.proofs.ListBlocksLemmas.{cut, no_list, some_list}
use Rattle.htmd_markdown.proofs.list.write_list_block.Goals as goal
use Rattle.htmd_markdown.proofs.list.write_list_block.Goals.{then-is_in_item, else-is_in_item}

pub returns-then-is_empty : goal.returns-then-is_empty
returns-then-is_empty c =
    let n = c.if-is_in_item.line_feeds in
    let s = string_bytes c.args.list in
    let count : n ≡ (if c.args.is_in_item then 1 else 2) = elim c.if-is_in_item.branch [
      | then-is_in_item w ↦ search rules
      | else-is_in_item w ↦ search rules
    ] in
    let is : string_bytes c.trim_end_line_feeds.new.text ≡ cut n (trimmed_start is_line_feed s) =
    c.trim_end_line_feeds.ensures ∙ ap (trimmed_end is_line_feed) c.in_ok-begin_with_line_feeds.ensures in
    let none : length (string_bytes c.trim_end_line_feeds.new.text) ≡ 0 =
    grind (arith, nat_tests, c.if-is_empty.ensures) in
    no_list c.args.is_in_item n s count (ap length (sym is) ∙ none)

pub returns : goal.returns
returns c =
    let n = c.if-is_in_item.line_feeds in
    let s = string_bytes c.args.list in
    let count : n ≡ (if c.args.is_in_item then 1 else 2) = elim c.if-is_in_item.branch [
      | then-is_in_item w ↦ search rules
      | else-is_in_item w ↦ search rules
    ] in
    let is : string_bytes c.trim_end_line_feeds.new.text ≡ cut n (trimmed_start is_line_feed s) =
    c.trim_end_line_feeds.ensures ∙ ap (trimmed_end is_line_feed) c.in_ok-begin_with_line_feeds.ensures in
    let some : 0 < length (string_bytes c.trim_end_line_feeds.new.text) =
    grind (arith, nat_tests, c.if-is_empty.ensures) in
    let same = ap length is in
    ap (λ l. Some l) (c.in_ok-push_repeated.ensures.ok ∙ ap (λ l. l ++ replicate n line_feed) is)
    ∙ some_list c.args.is_in_item n s count (omega (arith, same, some))

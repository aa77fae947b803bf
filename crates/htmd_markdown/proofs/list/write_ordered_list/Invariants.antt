-- The blocks so far, and the next number.
use Rattle.std.proofs.Common.{◌≡◌, ◌+◌, map}
use Rattle.std.specs.String.{string_bytes}
use Rattle.htmd_markdown.specs.Lists.{block_of, item_count, numbered_blocks}
use Rattle.htmd_markdown.proofs.list.write_ordered_list.Given as goal

abbrev pub invariant-loop-block : goal.invariant-loop-block
invariant-loop-block l = record {
  texts : map (λ text. string_bytes text) l.texts.items ≡ numbered_blocks l.spacing l.highest l.first
      (map block_of l.yielded);
  number : l.number ≡ l.first + item_count (map block_of l.yielded);
}

-- What the loop of `document_end` keeps.
use Rattle.std.proofs.Common.{◌≡◌, ◌+◌, ◌≤◌, length, take}
use Rattle.std.specs.List.{suffix_len}
use Rattle.htmd_lexical.specs.WhiteSpace.{is_document_white_space}
use Rattle.htmd_text.proofs.trim.document_end.Given as goal

abbrev pub invariant-loop-end : goal.invariant-loop-end
invariant-loop-end l = record {
  within : l.end ≤ length l.text;
  passed : l.end + suffix_len is_document_white_space l.text ≡ length l.text + suffix_len is_document_white_space
      (take l.end l.text);
}

abbrev pub decreases-loop-end : goal.decreases-loop-end
decreases-loop-end l = l.end

-- What was taken so far, and what is left.
use Rattle.std.proofs.Common.{◌≡◌, ◌++◌, vec_len}
use Rattle.htmd_html5_state.specs.Formatting.{closed_elements, after_closed}
use Rattle.htmd_html5_state.specs.FormattingViews.{entries_of}
use Rattle.htmd_html5_state.proofs.formatting_list.FormattingList.take_closed.Given as goal

abbrev pub invariant-loop-node : goal.invariant-loop-node
invariant-loop-node l = record {
  closed : l.closed.items ++ closed_elements l.stack (entries_of l.self-inside.entries.items)
      ≡ closed_elements l.stack l.fn.self;
  rest : after_closed l.stack (entries_of l.self-inside.entries.items) ≡ after_closed l.stack l.fn.self;
}

abbrev pub decreases-loop-node : goal.decreases-loop-node
decreases-loop-node l = vec_len l.self-inside.entries

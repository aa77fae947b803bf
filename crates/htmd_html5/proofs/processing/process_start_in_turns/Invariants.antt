-- What is left to process is the same in each turn, and so is the tag.
use Rattle.std.proofs.Common.{◌≡◌}
use Rattle.htmd_html5.specs.Tokens.{start_tag, tag_of}
use Rattle.htmd_html5.proofs.ProcessingLemmas.{Rests}
use Rattle.htmd_html5.proofs.processing.process_start_in_turns.Given as goal

abbrev pub invariant-loop-turn : goal.invariant-loop-turn
invariant-loop-turn l = record {
  same : tag_of l.tag ≡ tag_of l.fn.tag;
  rest : Rests (start_tag (tag_of l.fn.tag)) l.fn.state l.state l._turn l._turn-end;
}

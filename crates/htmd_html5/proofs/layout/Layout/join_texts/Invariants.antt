-- What was joined and what is left to join are what was left at first.
use Rattle.std.proofs.Common.{◌≡◌, length, string_bytes}
use Rattle.htmd_html5.specs.Layout.{joined, after_joined}
use Rattle.htmd_html5.specs.LayoutViews.{layout_of, AllMayHold}
use Rattle.htmd_html5.proofs.layout.Layout.join_texts.Given as goal

abbrev pub invariant-loop-next : goal.invariant-loop-next
invariant-loop-next l = record {
  text : joined (string_bytes l.text) l.under (layout_of l.self)
      ≡ joined (string_bytes l.initial.text) l.under (layout_of l.initial.self);
  value : after_joined l.under (layout_of l.self) ≡ after_joined l.under (layout_of l.initial.self);
  holds : AllMayHold l.self.tree l.self.coming.items;
}

abbrev pub decreases-loop-next : goal.decreases-loop-next
decreases-loop-next l = length l.self.coming.items

use Rattle.std.proofs.Common.{ap, not, ◌∙◌}
use Rattle.htmd_shown.proofs.ShowingsLemmas.{whole-letters, shown-letters}
use Rattle.htmd_shown.proofs.showing.has_letters.Goals as goal

pub returns : goal.returns
returns c = record {
  whole = ap not c.is_blank_when_shown.ensures ∙ whole-letters c.args.text.now c.utf8.text;
  shown = ap not c.is_blank_when_shown.ensures ∙ shown-letters c.args.text.now c.utf8.text;
}

-- One more entry that is another.
use Rattle.std.proofs.Common.{◌∙◌, sym}
use Rattle.htmd_html5_state.proofs.FormattingLemmas.{newest-more}
use Rattle.htmd_html5_state.proofs.formatting_list.position.Goals as goal

pub loop-older-preserved : goal.loop-older-preserved
loop-older-preserved c =
    newest-more c.args.node c.args.entries.now c.loop-older.rest.now c.loop-older.invariant.0 c.loop-older.invariant.1
    c.loop-older.invariant.2 c.in-Some.older.now c.in-Some.entry c.in-Some.ensures.parts
    (sym c.is_entry.ensures ∙ c.if-is_entry.false)

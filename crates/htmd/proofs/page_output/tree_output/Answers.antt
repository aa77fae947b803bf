-- What is seen in one text, or in pieces.
use Rattle.std.proofs.Common.{IfOk, string_bytes, subst, sym, Option, ℕ}
use Rattle.htmd.specs.PageSettings.{page_in, settings_for, settings_in}
use Rattle.htmd.specs.PageSights.{IsSeenBy}
use Rattle.htmd.proofs.PageSightsLemmas.{pieces_seen}
use Rattle.htmd.proofs.page_output.tree_output.Goals as goal

pub returns-in_ok-lines-in-Some-clause-seen : goal.returns-in_ok-lines-in-Some-clause-seen
returns-in_ok-lines-in-Some-clause-seen g c =
    let settings = settings_for (page_in c.args.in_run.now) (settings_in c.args.settings.now) in
    let head = c.args.head.now in
    let tree = c.args.tree.now in
    let output = string_bytes c.in_ok-lines-in-Some.lines in
    subst (λ (o : Option ℕ). IsSeenBy o settings head tree output) (sym c.in-Some.is)
    (pieces_seen settings c.in-Some.most head tree output c.root-root.ensures.texts c.in_ok-lines-in-Some.ensures)

pub returns-in-None-clause-seen : goal.returns-in-None-clause-seen
returns-in-None-clause-seen g c =
    let settings = settings_for (page_in c.args.in_run.now) (settings_in c.args.settings.now) in
    subst (λ (o : Option ℕ). IfOk c.whole_output.result (λ output.
    IsSeenBy o settings c.args.head.now c.args.tree.now (string_bytes output))) (sym c.in-None.is)
    c.whole_output.ensures.seen

-- A row says what the name stands for, or doesn't.
use Rattle.std.proofs.Common.{◌∙◌, ap, sym}
use Rattle.std.specs.Prelude.{option_map}
use Rattle.htmd_html5_tokens.proofs.NamesLemmas.{name_more, name_found}
use Rattle.htmd_html5_tokens.proofs.names.named_in.Goals as goal

pub loop-row-preserved : goal.loop-row-preserved
loop-row-preserved c =
    sym (name_more c.args.rows.now c.args.name.now c.loop-row.row-index c.loop-row-test.true
    (ap (option_map (λ t. t.now)) (sym c.in_default.is) ∙ c.named_by.ensures))
    ∙ c.loop-row.invariant

pub returns-in-Some : goal.returns-in-Some
returns-in-Some c =
    sym (name_found c.args.rows.now c.args.name.now c.loop-row.row-index c.loop-row-test.true c.in-Some.characters.now
    (ap (option_map (λ t. t.now)) (sym c.in-Some.is) ∙ c.named_by.ensures))
    ∙ c.loop-row.invariant

-- What `any` answers over the runs.
use Rattle.std.proofs.Common.{rules, length}
use Rattle.std.specs.Prelude.{not, ◌==◌}
use Rattle.std.proofs.lemmas.Iterator.Search.{any_from_yields_List}
use Rattle.std.proofs.lemmas.Iterator.Splits.{YieldsList-from_slice_split}
use Rattle.htmd_markdown.proofs.runs.has_run.Goals as goal

pub returns : goal.returns
returns c =
    any_from_yields_List (λ run. length run == c.args.len) _ _ c.any.result c.any.ensures.ran
    (YieldsList-from_slice_split _ (λ b. not (b == c.args.character)) c.args.text.now
    (cc) c.split.ensures.done c.split.ensures.closure (λ x b q k. search rules))
    (λ x b q k. search rules)

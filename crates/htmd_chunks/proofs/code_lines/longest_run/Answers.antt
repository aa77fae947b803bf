-- What `max` answers over the lengths of the runs.
use Rattle.std.proofs.Common.{◌≡◌, ℕ, List, [], ◌∷◌, rules, length, map, max, refl, sym, ap, ◌∙◌, arith}
use Rattle.std.specs.Prelude.{not, ◌==◌}
use Rattle.std.specs.List.{fold, reduce}
use Rattle.std.specs.Option.{unwrap_or}
use Rattle.std.proofs.lemmas.Iterator.{YieldsList-from_map}
use Rattle.std.proofs.lemmas.Iterator.Adapters.{option_map_id}
use Rattle.std.proofs.lemmas.Iterator.Consumers.{YieldsList-at, max_from_yields_List}
use Rattle.std.proofs.lemmas.Iterator.Splits.{YieldsList-from_slice_split}
use Rattle.htmd_markdown.specs.Runs.{runs}
use Rattle.htmd_markdown.proofs.RunsLemmas.{longest_run-le-length}
use Rattle.htmd_chunks.proofs.code_lines.longest_run.Goals as goal

-- what `max().unwrap_or(0)` gives
greatest : (ns : List ℕ) → unwrap_or (reduce max ns) 0 ≡ fold max 0 ns
greatest [] = refl
greatest (n ∷ ns) = ap (λ m. fold max m ns) (omega arith)

pub returns-clause-value : goal.returns-clause-value
returns-clause-value c =
    let made =
    max_from_yields_List c.map.result _ c.max.ensures.ran
    (YieldsList-from_map _ (λ run. length run)
    (YieldsList-at c.map.ensures.source
    (YieldsList-from_slice_split _ (λ b. not (b == c.args.symbol)) c.args.text.now
    (cc) c.split-runs.ensures.done c.split-runs.ensures.closure (λ x b q k. search rules))) c.map.ensures.closure
    (λ x r q k. search rules)) in
    c.unwrap_or.ensures ∙ ap (λ m. unwrap_or m 0) (sym (option_map_id _) ∙ made)
    ∙ greatest (map (λ run. length run) (runs c.args.symbol c.args.text.now))

pub returns-clause-bound : goal.returns-clause-bound
returns-clause-bound c = omega (arith, returns-clause-value c, longest_run-le-length c.args.symbol c.args.text.now)

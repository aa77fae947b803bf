use Rattle.std.proofs.Common.{rules, ◌≡◌, ◌+◌, ℕ, List, drop, sym, ap, ◌∙◌}
use Rattle.std.proofs.lemmas.List.{drop-drop}
use Rattle.htmd_selectors.specs.declared.matching.Counts.{Counts}
use Rattle.htmd_selectors.specs.declared.matching.StepState.{StepState}
use Rattle.htmd_selectors.specs.SelectorStates.{Known, with_element}
use Rattle.htmd_selectors.proofs.copying.name_element.Goals as goal

pub returns-clause-known : goal.returns-clause-known
returns-clause-known t c =
    let known = c.args.known.now in
    let next : ℕ = c.saturating_add-known.result in
    let all : List Counts = known.types.items in
    let named : List StepState = with_element c.in_ok-named.named.items known.beside.items in
    let beside : c.in_ok-known.field-0.items ≡ named = search rules in
    let before : next ≡ known.before + 1 = search rules in
    let types : drop next all ≡ drop 1 (drop known.before all) =
    ap (λ n. drop n all) before ∙ sym (drop-drop 1 known.before all) in
    let make : List StepState → ℕ → List Counts → Known = λ b n rest. record {
      parent = known.parent.now;
      beside = b;
      before = n;
      types = rest;
      has_no_parent = known.has_no_parent;
    } in
    ap (λ b. make b next (drop next all)) beside
    ∙ (ap (λ n. make named n (drop next all)) before ∙ ap (make named (known.before + 1)) types)

use Rattle.std.proofs.Common.{◌∙◌, ◌++◌, [], None, ap, sym, filter, length, map}
use Rattle.std.proofs.lemmas.List.{length-map}
use Rattle.htmd_shown.specs.SimpleViews.{simples_of}
use Rattle.htmd_document_of_tree.specs.TargetViews.{chosen, counts_of, firsts_of, stays, target_of}
use Rattle.htmd_document_of_tree.specs.Targets as spec
use Rattle.htmd_document_of_tree.proofs.TargetsLemmas.{chosen-firsts, length-firsts}
use Rattle.htmd_document_of_tree.proofs.targets.targets_of.Goals as goal

pub keep-requires : goal.keep-requires
keep-requires c =
    let found = c.as_slice.result.now in
    let all = map target_of found in
    ap length (c.as_slice-2.ensures.value ∙ c.in_ok-firsts.ensures)
    ∙ (length-firsts (spec.ids_among all) [] all
    ∙ (length-map found target_of ∙ ap length (c.as_slice.ensures.value ∙ sym c.from_vec-targets.ensures.items)))

pub returns : goal.returns
returns c =
    let found = c.as_slice.result.now in
    let all = map target_of found in
    let ids = spec.ids_among all in
    let counts = counts_of c.args.leadings in
    let among = spec.targets_among counts None 0 (simples_of c.args.trees.now) in
    c.in_ok-keep.ensures
    ∙ ap (λ ts. filter (stays c.args.leadings) ts)
    (ap (λ fs. chosen fs (map target_of c.from_vec-targets.result.items)) (c.as_slice-2.ensures.value
    ∙ c.in_ok-firsts.ensures)
    ∙ (ap (λ xs. chosen (firsts_of ids [] all) (map target_of xs)) (c.from_vec-targets.ensures.items
    ∙ sym c.as_slice.ensures.value)
    ∙ (chosen-firsts ids [] all
    ∙ ap spec.firsts (ap (λ xs. map target_of xs) c.as_slice.ensures.value ∙ (c.in_ok-among.ensures.found
    ∙ ap (λ xs. map target_of xs ++ among) c.new.ensures.items)))))

-- The page that writes to an input, or none.
use Rattle.std.proofs.Common.{◌≡◌, ◌∙◌, sym, ap, Option, Some, None, subst, arith, ◌+◌, drop, List, ℕ, Bor}
use Rattle.std.specs.Prelude.{find, option_map}
use Rattle.std.specs.BTreeMap.{get_by_text}
use Rattle.htmd_files.specs.declared.planning.Page.{Page}
use Rattle.htmd_files.specs.Paths.{normal}
use Rattle.htmd_files.specs.FilePlans as spec
use Rattle.htmd_files.specs.PlanViews.{page_of, pages_of, IsRefusal}
use Rattle.htmd_files.proofs.FilePlansLemmas.{next_page, overwritten_step, at}
use Rattle.htmd_files.proofs.planning.check_inputs.Goals as goal

pub returns-in-Some-clause-err : goal.returns-in-Some-clause-err
returns-in-Some-clause-err c =
    let all : List spec.Page = pages_of c.args.pages.now in
    let page : spec.Page = page_of c.page-item.result in
    let path : List ℕ = c.as_str-in-loop-page.result.now in
    let f : find (at path) all ≡ Some (page_of c.in-Some.writer.now.now) =
    sym (c.requires path) ∙ ap (option_map (λ (x : Bor Page). page_of x.now)) (sym c.in-Some.ensures.value) in
    let n = c.as_str-in-loop-page.ensures.value ∙ (c.in_ok-path.ensures ∙ ap normal c.as_str.ensures.value) in
    subst (λ (x : Option spec.Fault). IsRefusal x c.in_ok-overwritten.field-0)
    (overwritten_step all page (pages_of (drop (c.loop-page.page-index + 1) c.args.pages.now)) _ path _ _
    (next_page c.args.pages.now c.loop-page.page-index c.page-item.result (omega arith) c.page-item.is) n f
    c.loop-page.invariant)
    c.in_ok-overwritten.ensures

pub loop-page-preserved : goal.loop-page-preserved
loop-page-preserved c =
    let all : List spec.Page = pages_of c.args.pages.now in
    let page : spec.Page = page_of c.page-item.result in
    let path : List ℕ = c.as_str-in-loop-page.result.now in
    let g : get_by_text c.args.outputs.now path ≡ None = sym c.in_default.ensures.value in
    let f : find (at path) all ≡ None = sym (c.requires path)
    ∙ ap (option_map (λ (x : Bor Page). page_of x.now)) g in
    let n = c.as_str-in-loop-page.ensures.value ∙ (c.in_ok-path.ensures ∙ ap normal c.as_str.ensures.value) in
    overwritten_step all page (pages_of (drop (c.loop-page.page-index + 1) c.args.pages.now)) _ path _ _
    (next_page c.args.pages.now c.loop-page.page-index c.page-item.result (omega arith) c.page-item.is) n f
    c.loop-page.invariant

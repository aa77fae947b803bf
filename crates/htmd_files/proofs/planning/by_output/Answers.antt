-- The earlier page with this output, or none.
use Rattle.std.proofs.Common.{◌≡◌, ◌∙◌, sym, ap, Option, Some, None, subst, arith, ◌+◌, drop, take, List, ℕ}
use Rattle.std.proofs.Common.{string_bytes, Bor}
use Rattle.std.specs.Prelude.{find, option_map}
use Rattle.std.specs.BTreeMap.{get_by_text}
use Rattle.std.specs.Str.{bytes_eq}
use Rattle.std.proofs.lemmas.Map.Text.{btree_map_updates_text}
use Rattle.htmd_files.specs.declared.planning.Page.{Page}
use Rattle.htmd_files.specs.Paths.{normal}
use Rattle.htmd_files.specs.FilePlans as spec
use Rattle.htmd_files.specs.PlanViews.{page_of, pages_of, IsRefusal}
use Rattle.htmd_files.proofs.FilePlansLemmas.{next_page, page_done, shared_step, found_more, map_either, at}
use Rattle.htmd_files.proofs.planning.by_output.Goals as goal

pub returns-in-Some-clause-err : goal.returns-in-Some-clause-err
returns-in-Some-clause-err c =
    let before : List spec.Page = pages_of (take c.loop-page.page-index c.args.pages.now) in
    let page : spec.Page = page_of c.page-item.result in
    let path : List ℕ = string_bytes c.in_ok-path.path in
    let f : find (at path) before ≡ Some (page_of c.in-Some.first.now) =
    sym (c.loop-page.invariant.holds path)
    ∙ ap (option_map (λ (x : Bor Page). page_of x.now)) (sym c.in_ok-first.ensures.old ∙ c.in-Some.is) in
    let n = c.in_ok-path.ensures ∙ ap normal c.as_str.ensures.value in
    subst (λ (x : Option spec.Fault). IsRefusal x c.in_ok-shared.field-0)
    (shared_step before page (pages_of (drop (c.loop-page.page-index + 1) c.args.pages.now)) _ path _ _
    (next_page c.args.pages.now c.loop-page.page-index c.page-item.result (omega arith) c.page-item.is) n f
    c.loop-page.invariant.so_far)
    c.in_ok-shared.ensures

pub loop-page-preserved : goal.loop-page-preserved
loop-page-preserved c =
    let before : List spec.Page = pages_of (take c.loop-page.page-index c.args.pages.now) in
    let page : spec.Page = page_of c.page-item.result in
    let path : List ℕ = string_bytes c.in_ok-path.path in
    let shown : Option (Bor Page) → Option spec.Page = option_map (λ (x : Bor Page). page_of x.now) in
    let g : get_by_text c.loop-page.outputs path ≡ None = sym c.in_ok-first.ensures.old ∙ c.in_default.is in
    let f : find (at path) before ≡ None = sym (c.loop-page.invariant.holds path) ∙ ap shown g in
    let n = c.in_ok-path.ensures ∙ ap normal c.as_str.ensures.value in
    let d = page_done c.args.pages.now c.loop-page.page-index c.page-item.result (omega arith) c.page-item.is in
    record {
      holds = λ q.
          ap (option_map (λ (x : Bor Page). page_of x.now))
          (btree_map_updates_text path c.loop-page.outputs c.insert.new.self _ c.in_ok-first.ensures.updates q)
          ∙ (map_either (λ (x : Bor Page). page_of x.now) (bytes_eq path q) _ (get_by_text c.loop-page.outputs q)
          ∙ (found_more before page path (λ (x : List ℕ). shown (get_by_text c.loop-page.outputs x)) n
          c.loop-page.invariant.holds (ap shown g) q
          ∙ ap (find (at q)) (sym d)));
      so_far = rw d (shared_step before page (pages_of (drop (c.loop-page.page-index + 1) c.args.pages.now)) _ path _ _
          (next_page c.args.pages.now c.loop-page.page-index c.page-item.result (omega arith) c.page-item.is) n f
          c.loop-page.invariant.so_far);
    }

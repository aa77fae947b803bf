-- The marks go where the white space at the ends begins and ends.
use Rattle.std.proofs.Common.{◌≡◌, ◌≢◌, ◌+◌, ◌-◌, [], length, take, drop, arith, ap, sym, ◌∙◌, refl, subst}
use Rattle.std.proofs.Common.{List, ℕ}
use Rattle.std.specs.List.{insert_slice}
use Rattle.std.specs.String.{string_bytes}
use Rattle.std.specs.String.Boundary.{IsSplitPoint}
use Rattle.std.proofs.lemmas.Bool.Decides.{nat_tests}
use Rattle.htmd_markdown.specs.Emphases as spec
use Rattle.htmd_markdown.proofs.EmphasesLemmas.{marks_inside, marks_put, end_may_take, start_may_take}
use Rattle.htmd_markdown.proofs.EmphasesLemmas.{emphasised_is}
use Rattle.htmd_markdown.proofs.emphasis.write_emphasis.Goals as goal

pub insert_str-requires : goal.insert_str-requires
insert_str-requires c =
    let s = c.deref.result.now in
    let rest = c.trim_start-rest.result.now in
    let middle = c.trim_end-middle.result.now in
    let end = c.len.result - length rest + length middle in
    let same : s ≡ string_bytes c.reserve.new.self = cc c.in_ok-reserve.ensures.bytes in
    let size : c.len.result ≡ length s = cc in
    let here : IsSplitPoint s end = end_may_take s rest middle end c.trim_start-rest.utf8 c.trim_end-middle.utf8
    c.trim_start-rest.ensures.value c.trim_end-middle.ensures.value (ap (λ n. n - length rest + length middle) size) in
    subst (λ (l : List ℕ). IsSplitPoint l end) same here

pub insert_str-requires-2 : goal.insert_str-requires-2
insert_str-requires-2 c =
    let s = c.deref.result.now in
    let rest = c.trim_start-rest.result.now in
    let middle = c.trim_end-middle.result.now in
    let start = c.len.result - length rest in
    let mark = c.mark-mark.result.now in
    let filled : middle ≢ [] = grind (arith, nat_tests) in
    let same : string_bytes c.reserve.new.self ≡ s = cc c.in_ok-reserve.ensures.bytes in
    let size : c.len.result ≡ length s = cc in
    let marked = c.in_ok-insert_str.ensures.bytes ∙ ap (λ l. insert_slice l (start + length middle) mark) same in
    start_may_take s rest middle mark (string_bytes c.insert_str.new.self) start (start + length middle)
    c.trim_start-rest.utf8 filled c.trim_start-rest.ensures.value c.trim_end-middle.ensures.value
    (ap (λ n. n - length rest) size) refl marked

pub returns-clause-text : goal.returns-clause-text
returns-clause-text c =
    let s = c.deref.result.now in
    let rest = c.trim_start-rest.result.now in
    let middle = c.trim_end-middle.result.now in
    let start = c.len.result - length rest in
    let mark = c.mark-mark.result.now in
    let out = string_bytes c.insert_str-2.new.self in
    let filled : middle ≢ [] = grind (arith, nat_tests) in
    let same : string_bytes c.reserve.new.self ≡ s = cc c.in_ok-reserve.ensures.bytes in
    let size : c.len.result ≡ length s = cc in
    let once = c.in_ok-insert_str.ensures.bytes ∙ ap (λ l. insert_slice l (start + length middle) mark) same in
    let put = marks_put mark s rest middle (string_bytes c.insert_str.new.self) out start (start + length middle)
    c.trim_start-rest.ensures.value c.trim_end-middle.ensures.value (ap (λ n. n - length rest) size) refl once
    c.in_ok-insert_str-2.ensures.bytes in
    sym (ap (spec.emphasised_text c.args.emphasis) (sym c.deref.ensures)
    ∙ emphasised_is c.args.emphasis mark s rest middle out c.mark-mark.ensures c.trim_start-rest.ensures.trim
    c.trim_end-middle.ensures.trim filled put)

pub returns-clause-marks : goal.returns-clause-marks
returns-clause-marks c =
    let s = c.deref.result.now in
    let rest = c.trim_start-rest.result.now in
    let middle = c.trim_end-middle.result.now in
    let start = c.len.result - length rest in
    let mark = c.mark-mark.result.now in
    let out = string_bytes c.insert_str-2.new.self in
    let filled : middle ≢ [] = grind (arith, nat_tests) in
    let same : string_bytes c.reserve.new.self ≡ s = cc c.in_ok-reserve.ensures.bytes in
    let size : c.len.result ≡ length s = cc in
    let once = c.in_ok-insert_str.ensures.bytes ∙ ap (λ l. insert_slice l (start + length middle) mark) same in
    let put = marks_put mark s rest middle (string_bytes c.insert_str.new.self) out start (start + length middle)
    c.trim_start-rest.ensures.value c.trim_end-middle.ensures.value (ap (λ n. n - length rest) size) refl once
    c.in_ok-insert_str-2.ensures.bytes in
    let inside = marks_inside mark s rest middle (take (length s - length rest) s) (drop (length middle) rest) out
    c.trim_end-middle.utf8 filled c.trim_start-rest.ensures.value c.trim_end-middle.ensures.value refl refl put in
    subst (λ (m : List ℕ). spec.AreMarksInside m (string_bytes c.args.content) out) c.mark-mark.ensures
    (subst (λ (l : List ℕ). spec.AreMarksInside mark l out) c.deref.ensures inside)

-- One more line begins a unit or goes on with one.
use Rattle.std.proofs.Common.{◌≡◌, ◌+◌, ◌++◌, ◌∷◌, [], ℕ, List, true, false, not, get_or, drop}
use Rattle.std.proofs.Common.{map, sym, ap, ◌∙◌}
use Rattle.std.specs.Borrow.{Bor}
use Rattle.std.specs.List.{list_all}
use Rattle.std.specs.Prelude.{◌&&◌, ◌||◌}
use Rattle.std.proofs.lemmas.List.{append_assoc, drop_more}
use Rattle.htmd_chunks.specs.CodeLines.{is_blank, line_cost, units_from}
use Rattle.htmd_chunks.specs.UnitViews.{unit_of_lines}
use Rattle.htmd_chunks.specs.declared.units.Unit.{Unit}
use Rattle.htmd_chunks.proofs.LineStepsLemmas.{unit-begun, unit-on, unit-first, unit-more, begun-first, begun-more}
use Rattle.htmd_chunks.proofs.LineStepsLemmas.{on-blank, on-none}
use Rattle.htmd_chunks.proofs.code_lines.line_units.Goals.{then-is_filled+then-is_begun+in_ok-push, else-is_filled}
use Rattle.htmd_chunks.proofs.code_lines.line_units.Goals.{else-is_filled-via-then-is_filled+else-is_begun}
use Rattle.htmd_chunks.proofs.code_lines.line_units.Goals.{else-is_filled-via-else-is_filled}
use Rattle.htmd_chunks.proofs.code_lines.line_units.Goals.{then-is_begun-2, else-is_begun-2}
use Rattle.htmd_chunks.proofs.code_lines.line_units.Goals as goal

pub loop-line-preserved : goal.loop-line-preserved
loop-line-preserved c =
    let m = c.args.margin in
    let lines = c.args.lines.now in
    let i = c.loop-line.line-index in
    let none : Bor (List ℕ) = record { ref_ptr = (0, 0); now = [] } in
    let line = (get_or lines i none).now in
    let rest = map (λ (l : Bor (List ℕ)). l.now) (drop (i + 1) lines) in
    let split : map (λ (l : Bor (List ℕ)). l.now) (drop i lines) ≡ line ∷ rest =
    ap (map (λ (l : Bor (List ℕ)). l.now)) (drop_more lines i none c.loop-line-test.true) in
    let was = c.loop-line.invariant in
    let begun : List (List ℕ) = was.begun in
    let units = c.loop-line.units.items in
    let seen = map (unit_of_lines m) in
    let blank = c.is_blank-is_filled.ensures in
    let taken : c.in_ok-sum-2.field-0 ≡ c.if-is_filled.unit.bytes + line_cost m line =
    c.in_ok-sum-2.ensures ∙ ap (λ n. c.if-is_filled.unit.bytes + n) c.in_ok-line_cost.ensures in
    let is_begun : c.if-is_begun-2.is_begun ≡ (c.loop-line.is_begun || not (is_blank line)) =
    elim c.if-is_begun-2.branch [
      | then-is_begun-2 v ↦
          v.is_begun-is ∙ v.if-is_begun-2.true ∙ sym (ap (λ b. b || not (is_blank line)) v.if-is_begun-2.true)
      | else-is_begun-2 v ↦
          v.is_begun-is ∙ ap not blank ∙ sym (ap (λ b. b || not (is_blank line)) v.if-is_begun-2.false)
    ] in
    elim c.if-is_filled.branch [
      | then-is_filled+then-is_begun+in_ok-push w ↦
          let filled : is_blank line ≡ false = sym blank ∙ w.if-is_filled.true in
          let some : not (list_all is_blank begun) ≡ true = sym was.is_begun ∙ w.if-is_begun.true in
          let apart = seen (units_from (line ∷ []) rest) in
          record {
            begun = line ∷ [];
            unit =
                unit-first m line c.in_ok-sum.field-0 c.in_ok-sum-2.field-0
                (c.in_ok-sum.ensures ∙ ap (λ (u : Unit). u.count + 1) w.unit-is)
                (taken ∙ ap (λ (u : Unit). u.bytes + line_cost m line) w.unit-is);
            is_begun = is_begun ∙ begun-first c.loop-line.is_begun line w.if-is_begun.true filled;
            rest =
                ap (λ v. v.items ++ apart) w.units-is ∙ ap (λ l. l ++ apart) w.in_ok-push.ensures.items
                ∙ append_assoc units (c.loop-line.unit ∷ []) apart ∙ ap (λ u. units ++ u ∷ apart) was.unit
                ∙ ap (λ l. units ++ seen l) (sym (unit-begun begun line rest filled some))
                ∙ ap (λ l. units ++ seen (units_from begun l)) (sym split) ∙ was.rest;
          }
      | else-is_filled w ↦
          let on = elim w.else-is_filled.branch
          as (λ _. (not (is_blank line) && not (list_all is_blank begun)) ≡ false) [
            | else-is_filled-via-then-is_filled+else-is_begun v ↦
                on-none (is_blank line) (not (list_all is_blank begun)) (sym was.is_begun ∙ v.if-is_begun.false)
            | else-is_filled-via-else-is_filled v ↦
                on-blank (is_blank line) (not (list_all is_blank begun)) (sym blank ∙ v.if-is_filled.false)
          ] in
          record {
            begun = begun ++ line ∷ [];
            unit =
                unit-more m begun line c.if-is_filled.unit c.in_ok-sum.field-0 c.in_ok-sum-2.field-0
                (w.unit-is ∙ was.unit) c.in_ok-sum.ensures taken;
            is_begun = is_begun ∙ begun-more c.loop-line.is_begun begun line was.is_begun;
            rest =
                ap (λ v. v.items ++ seen (units_from (begun ++ line ∷ []) rest)) w.units-is
                ∙ ap (λ l. units ++ seen l) (sym (unit-on begun line rest on))
                ∙ ap (λ l. units ++ seen (units_from begun l)) (sym split) ∙ was.rest;
          }
    ]

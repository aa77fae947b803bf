-- The unit that is begun, and with the lines to come all units.
use Rattle.std.proofs.Common.{◌≡◌, ℕ, ◌++◌, [], List, drop, map, not}
use Rattle.std.specs.List.{list_all}
use Rattle.htmd_chunks.specs.CodeLines.{is_blank, units_from}
use Rattle.htmd_chunks.specs.UnitViews.{unit_of_lines}
use Rattle.htmd_chunks.proofs.code_lines.line_units.Given as goal

abbrev pub invariant-loop-line : goal.invariant-loop-line
invariant-loop-line l = record {
  begun : List (List ℕ);
  unit : l.unit ≡ unit_of_lines l.margin begun;
  is_begun : l.is_begun ≡ not (list_all is_blank begun);
  rest : l.units.items
      ++ map (unit_of_lines l.margin) (units_from begun (map (λ line. line.now) (drop l.line-index l.lines)))
      ≡ map (unit_of_lines l.margin) (units_from [] (map (λ line. line.now) l.lines));
}

use Rattle.std.proofs.Common.{◌≡◌, ◌≤◌, drop, length}
use Rattle.std.specs.Str.{bytes_eq}
use Rattle.htmd_shown.specs.Formulas.{squeezed}
use Rattle.htmd_shown.proofs.formula.is_squeezed.Given as goal

-- the bytes to come decide
abbrev pub invariant-loop-b : goal.invariant-loop-b
invariant-loop-b l = record {
  within : l.len ≤ length l.name;
  rest : bytes_eq (squeezed (drop l.b-index l.text)) (drop l.len l.name) ≡ bytes_eq (squeezed l.text) l.name;
}

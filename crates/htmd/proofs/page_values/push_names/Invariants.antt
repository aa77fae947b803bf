-- The names so far, and the parts that are left.
use Rattle.std.proofs.Common.{◌≡◌, ◌++◌, length, map}
use Rattle.htmd.specs.PageValues as spec
use Rattle.htmd.proofs.page_values.push_names.Given as goal
use denote.Text.{Utf8}
use denote.Shadow.{shadow}

abbrev pub invariant-loop-name : goal.invariant-loop-name
invariant-loop-name l = record {
  is_text : shadow (Utf8 l.rest);
  so_far : map (λ name. name.now) l.names.items ++ spec.parts l.rest
      ≡ map (λ name. name.now) l.fn.names.items ++ spec.parts l.text;
}

abbrev pub decreases-loop-name : goal.decreases-loop-name
decreases-loop-name l = length l.rest

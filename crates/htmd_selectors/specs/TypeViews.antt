-- What names that are borrowed stand for, and counts that are kept by names.
use Rattle.std.specs.Prelude.{ℕ, List, map, Option, Some, None}
use Rattle.std.specs.Borrow.{Bor}
use Rattle.std.specs.BTreeMap.{BTreeMap, get_by}
use Rattle.std.specs.Cmp.Lexicographic.{slice_cmp}
use Rattle.std.specs.Ordering.{nat_cmp}

abbrev pub names_of : List (Bor (List ℕ)) → List (List ℕ)
names_of names = map (λ name. name.now) names

abbrev pub count_or_none : Option ℕ → ℕ
count_or_none (Some count) = count
count_or_none None = 0

-- how often a name was seen
abbrev pub seen_of : BTreeMap (Bor (List ℕ)) ℕ → List ℕ → ℕ
seen_of seen name = count_or_none (get_by (λ key. slice_cmp nat_cmp name key.now) seen)

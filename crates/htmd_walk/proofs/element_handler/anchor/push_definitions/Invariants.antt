-- The definitions so far, each on a line of its own.
use Rattle.std.proofs.Common.{◌≡◌, [], ◌∷◌, ◌++◌, take, string_bytes}
use Rattle.std.specs.List.{flat_map}
use Rattle.htmd_lexical.specs.Characters.{line_feed}
use Rattle.htmd_walk.proofs.AnchorsLemmas.{on_its_line}
use Rattle.htmd_walk.proofs.element_handler.anchor.push_definitions.Given as goal

abbrev pub invariant-loop-line : goal.invariant-loop-line
invariant-loop-line l =
    string_bytes l.out ≡ (string_bytes l.fn.out ++ line_feed ∷ [])
    ++ flat_map on_its_line (take l.line-index l.line-items)

use Rattle.std.proofs.Common.{◌≡◌, drop, length}
use Rattle.std.specs.Prelude.{◌==◌}
use Rattle.std.specs.List.{list_any, slice_split}
use Rattle.htmd_lexical.specs.Characters.{semicolon}
use Rattle.htmd_trimming.specs.Hidden.{is_hiding, style_hides}
use Rattle.htmd_trimming.proofs.hidden.style_hides.Given as goal

-- the declarations to come decide
abbrev pub invariant-loop-declaration : goal.invariant-loop-declaration
invariant-loop-declaration l =
    list_any is_hiding (drop (length l.yielded) (slice_split (λ b. b == semicolon) l.style)) ≡ style_hides l.style

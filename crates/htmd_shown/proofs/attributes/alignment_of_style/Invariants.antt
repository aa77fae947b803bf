use Rattle.std.proofs.Common.{◌≡◌, take, length}
use Rattle.std.specs.Prelude.{◌==◌}
use Rattle.std.specs.List.{slice_split}
use Rattle.htmd_lexical.specs.Characters.{semicolon}
use Rattle.htmd_shown.specs.Attributes.{alignment_of_declarations}
use Rattle.htmd_shown.proofs.attributes.alignment_of_style.Given as goal

abbrev pub invariant-loop-declaration : goal.invariant-loop-declaration
invariant-loop-declaration l =
    l.last ≡ alignment_of_declarations (take (length l.yielded) (slice_split (λ b. b == semicolon) l.style))

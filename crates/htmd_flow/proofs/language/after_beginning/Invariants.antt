use Rattle.std.proofs.Common.{◌≡◌, drop, map}
use Rattle.htmd_flow.specs.Languages as spec
use Rattle.htmd_flow.proofs.language.after_beginning.Given as goal

abbrev pub invariant-loop-beginning : goal.invariant-loop-beginning
invariant-loop-beginning l =
    spec.first_name (spec.after_beginning (map (λ b. b.now) (drop l.beginning-index l.beginnings)) l.word)
    ≡ spec.first_name (spec.after_beginning (map (λ b. b.now) l.beginnings) l.word)

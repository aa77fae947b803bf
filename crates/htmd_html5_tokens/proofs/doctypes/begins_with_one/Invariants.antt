-- The text began with none so far.
use Rattle.std.proofs.Common.{◌≡◌, drop, map}
use Rattle.htmd_html5_tokens.specs.Doctypes.{begins_with_one}
use Rattle.htmd_html5_tokens.proofs.doctypes.begins_with_one.Given as goal

abbrev pub invariant-loop-beginning : goal.invariant-loop-beginning
invariant-loop-beginning l =
    begins_with_one (map (λ other. other.now) (drop l.beginning-index l.beginnings)) l.text
    ≡ begins_with_one (map (λ other. other.now) l.beginnings) l.text

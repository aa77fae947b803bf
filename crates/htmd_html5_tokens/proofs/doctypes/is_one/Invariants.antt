-- The text was none so far.
use Rattle.std.proofs.Common.{◌≡◌, drop, map}
use Rattle.std.specs.Char.{to_ascii_lowercase}
use Rattle.htmd_lexical.specs.CharacterClasses.{is_among}
use Rattle.htmd_html5_tokens.proofs.doctypes.is_one.Given as goal

abbrev pub invariant-loop-other : goal.invariant-loop-other
invariant-loop-other l =
    is_among (map (λ other. other.now) (drop l.other-index l.others)) (map to_ascii_lowercase l.text)
    ≡ is_among (map (λ other. other.now) l.others) (map to_ascii_lowercase l.text)

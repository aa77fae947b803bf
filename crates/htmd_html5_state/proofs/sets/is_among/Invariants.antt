-- The text was not met so far.
use Rattle.std.proofs.Common.{◌≡◌, drop, map}
use Rattle.htmd_lexical.specs.CharacterClasses.{is_among}
use Rattle.htmd_html5_state.proofs.sets.is_among.Given as goal

abbrev pub invariant-loop-known : goal.invariant-loop-known
invariant-loop-known l =
    is_among (map (λ t. t.now) (drop l.known-index l.texts)) l.text ≡ is_among (map (λ t. t.now) l.texts) l.text

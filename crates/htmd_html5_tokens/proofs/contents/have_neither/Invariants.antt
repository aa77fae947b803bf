-- What the loop of `have_neither` keeps.
use Rattle.std.proofs.Common.{◌≡◌, not, ◌&&◌, take}
use Rattle.std.specs.List.{list_all}
use Rattle.std.specs.Prelude.{◌==◌}
use Rattle.htmd_html5_tokens.proofs.contents.have_neither.Given as goal

abbrev pub invariant-loop-byte : goal.invariant-loop-byte
invariant-loop-byte l =
    l.have_neither ≡ list_all (λ b. not (b == l.first) && not (b == l.second)) (take l.byte-index l.bytes)

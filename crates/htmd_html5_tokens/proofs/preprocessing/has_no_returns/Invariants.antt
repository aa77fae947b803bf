-- What the loop of `has_no_returns` keeps.
use Rattle.std.proofs.Common.{◌≡◌, take}
use Rattle.std.specs.List.{list_all}
use Rattle.htmd_html5_tokens.specs.Preprocessing.{is_not_return}
use Rattle.htmd_html5_tokens.proofs.preprocessing.has_no_returns.Given as goal

abbrev pub invariant-loop-byte : goal.invariant-loop-byte
invariant-loop-byte l = l.has_none ≡ list_all is_not_return (take l.byte-index l.bytes)

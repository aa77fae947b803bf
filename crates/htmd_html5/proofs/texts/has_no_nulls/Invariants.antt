-- What the loop of `has_no_nulls` keeps.
use Rattle.std.proofs.Common.{◌≡◌, take}
use Rattle.std.specs.List.{list_all}
use Rattle.htmd_html5.specs.AtOnce.{is_not_null}
use Rattle.htmd_html5.proofs.texts.has_no_nulls.Given as goal

abbrev pub invariant-loop-byte : goal.invariant-loop-byte
invariant-loop-byte l = l.has_none ≡ list_all is_not_null (take l.byte-index l.bytes)

-- What is left, after the part of a name that comes before it.
use Rattle.std.proofs.Common.{◌≡◌, drop}
use Rattle.std.specs.List.{list_all}
use Rattle.htmd.specs.PageValues.{parts, is_filled}
use Rattle.htmd.proofs.PageValuesLemmas.{are_filled}
use Rattle.htmd.proofs.page_values.are_names.Given as goal

abbrev pub invariant-loop-byte : goal.invariant-loop-byte
invariant-loop-byte l =
    are_filled l.is_filled (parts (drop l.byte-index l.text)) ≡ list_all is_filled (parts l.text)

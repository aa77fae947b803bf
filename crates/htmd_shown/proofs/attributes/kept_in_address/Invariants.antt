use Rattle.std.proofs.Common.{◌≡◌, encode_utf8_all, filter, string_bytes}
use Rattle.htmd_shown.specs.Attributes.{is_in_address}
use Rattle.htmd_shown.proofs.attributes.kept_in_address.Given as goal

abbrev pub invariant-loop-c : goal.invariant-loop-c
invariant-loop-c l = string_bytes l.address ≡ encode_utf8_all (filter is_in_address l.yielded)

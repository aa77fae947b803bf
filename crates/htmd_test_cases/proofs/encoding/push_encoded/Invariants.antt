-- What was put for the characters so far.
use Rattle.std.proofs.Common.{◌≡◌, ◌++◌, string_bytes}
use Rattle.std.specs.List.{flat_map}
use Rattle.htmd_test_cases.specs.Encodings.{encoded_char}
use Rattle.htmd_test_cases.proofs.encoding.push_encoded.Given as goal

abbrev pub invariant-loop-c : goal.invariant-loop-c
invariant-loop-c l = string_bytes l.out ≡ string_bytes l.fn.out ++ flat_map encoded_char l.yielded

-- What was written, and the piece that waits.
use Rattle.std.specs.Prelude.{slice_index}
use Rattle.std.specs.String.{string_bytes}
use Rattle.htmd_lexical.specs.Characters.{is_one_of}
use Rattle.htmd_markdown.proofs.AddressesLemmas.{Escaping}
use Rattle.htmd_markdown.proofs.address.push_escaped.Given as goal

abbrev pub invariant-loop-i : goal.invariant-loop-i
invariant-loop-i l =
    Escaping (λ k. is_one_of l.characters (slice_index l.text k)) l.text (string_bytes l.fn.out)
    (string_bytes l.out) l.from l.i

-- What was written, the piece that waits, and what is known of the row of underscores.
use Rattle.std.proofs.Common.{◌≡◌, ◌+◌, ℕ, slice_index}
use Rattle.std.specs.String.{string_bytes}
use Rattle.htmd_lexical.specs.Characters.{underscore}
use Rattle.htmd_markdown.proofs.AddressesLemmas.{Escaping}
use Rattle.htmd_commonmark.specs.TextEscapes.{is_in_word, is_marked}
use Rattle.htmd_commonmark.proofs.text_escape.push_with_marks.Given as goal

abbrev pub invariant-loop-i : goal.invariant-loop-i
invariant-loop-i l = record {
  writing : Escaping (is_marked l.place l.text) l.text (string_bytes l.fn.out) (string_bytes l.out) l.from l.i;
  row : (k : ℕ) → l.i ≡ k + 1 → slice_index l.text k ≡ underscore
      → l.in_word ≡ is_in_word l.place l.text l.i;
}

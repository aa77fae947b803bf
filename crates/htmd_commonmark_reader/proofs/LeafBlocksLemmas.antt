-- Lines that underline, and delimiter rows.
use Rattle.std.proofs.Common.{◌≡◌, ℕ, ◌<◌, ◌≤◌, true, false, List, refl, ap, sym, ◌∙◌, arith, Option, None}
use Rattle.std.proofs.lemmas.Bool.Decides.{nat_tests}
use Rattle.std.specs.Prelude.{nat_le}
use Rattle.htmd_document.specs.declared.document.Alignment.{Alignment}
use Rattle.htmd_commonmark_reading.specs.Characters.{stripped}
use Rattle.htmd_commonmark_reading.specs.Lines.{line, spaces, indent_at}
use Rattle.htmd_commonmark_reading.specs.LeafBlocks.{underline, underline_of, delimiter_row_of}
use Rattle.htmd_commonmark_reading.specs.Tables.{delimiter_row}
use Rattle.htmd_commonmark_reader.proofs.StartsLemmas.{spaces_stripped}

module _ (k m i : ℕ) (s : List ℕ) (e : i ≡ indent_at k (spaces m s)) where
  pub no_underline : 3 < i → ◌≡◌ {A = Option ℕ} None (underline_of (line k (spaces m s)))
  no_underline l =
      let deep : nat_le (indent_at k (spaces m s)) 3 ≡ false = grind (arith, nat_tests) in rw deep refl

  pub some_underline : (text : List ℕ) → i ≤ 3 → text ≡ stripped s
      → underline text ≡ underline_of (line k (spaces m s))
  some_underline text l f =
      let near : nat_le (indent_at k (spaces m s)) 3 ≡ true = grind (arith, nat_tests) in
      rw near (ap underline (f ∙ sym (spaces_stripped m s)))

  pub no_row : 3 < i → ◌≡◌ {A = Option (List Alignment)} None (delimiter_row_of (line k (spaces m s)))
  no_row l =
      let deep : nat_le (indent_at k (spaces m s)) 3 ≡ false = grind (arith, nat_tests) in rw deep refl

  pub some_row : (text : List ℕ) → i ≤ 3 → text ≡ stripped s
      → delimiter_row text ≡ delimiter_row_of (line k (spaces m s))
  some_row text l f =
      let near : nat_le (indent_at k (spaces m s)) 3 ≡ true = grind (arith, nat_tests) in
      rw near (ap delimiter_row (f ∙ sym (spaces_stripped m s)))

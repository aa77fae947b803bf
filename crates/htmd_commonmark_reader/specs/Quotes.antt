-- How many containers are quotes.
use Rattle.std.specs.Prelude.{ℕ, zero, suc, List, [], ◌∷◌}
use Rattle.htmd_commonmark_reading.specs.Boxes.{Container, quoting, listing}

abbrev pub quote_count : List Container → ℕ
quote_count [] = zero
quote_count (quoting ∷ ks) = suc (quote_count ks)
quote_count (listing sign number columns ∷ ks) = quote_count ks

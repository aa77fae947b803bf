-- Bullets one behind another in a line, of which none is a thematic break.
use Rattle.std.specs.Prelude.{◌≡◌, ℕ, zero, suc, Bool, false, not, ◌&&◌, ◌||◌, ◌==◌, List, [], ◌∷◌, drop, ⊤}
use Rattle.htmd_lexical.specs.Characters.{asterisk, hyphen}
use Rattle.htmd_commonmark_reading.specs.Lines.{marks}
use Rattle.htmd_commonmark_reader.specs.LineViews.{line_of}
use Rattle.htmd_commonmark_reader.specs.declared.starts.LineStart.{LineStart}
use Rattle.htmd_commonmark_reader.specs.declared.starts.LineStart.TheVariants.{Quote, Item}

-- so many of a sign, and another one behind them
abbrev pub other_behind : ℕ → ℕ → List ℕ → Bool
other_behind c n [] = false
other_behind c zero (d ∷ m) = not (d == c)
other_behind c (suc n) (d ∷ m) = (d == c) && other_behind c n m

-- the same of a sign that makes bullets and thematic breaks
abbrev pub is_mixed : ℕ → List ℕ → Bool
is_mixed n [] = false
is_mixed n (c ∷ m) = ((c == asterisk) || (c == hyphen)) && other_behind c n (c ∷ m)

-- an item that begins has these characters, but for the first one
abbrev pub IsBehind : List ℕ → LineStart → Type 0
IsBehind m (Item sign number i) = marks ((line_of i.content).text) ≡ drop 1 m
IsBehind m (Quote r) = ⊥
IsBehind m _ = ⊤

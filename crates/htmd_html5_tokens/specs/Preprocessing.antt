-- What is read of a page (HTML Standard, 13.2.3.5): its text without a byte order mark at the start, with a line feed
-- for each CR LF and each lone CR.
use Rattle.std.specs.Prelude.{ℕ, Bool, not, ◌==◌, List}
use Rattle.htmd_lexical.specs.Characters.{carriage_return}
use Rattle.htmd_lexical.specs.LineEnds.{normalized}
use Rattle.htmd_lexical.specs.ByteOrderMarks.{behind_mark}

abbrev pub preprocessed : List ℕ → List ℕ
preprocessed s = normalized (behind_mark s)

-- a byte that stays as it is; no public clause cites this
abbrev pub is_not_return : ℕ → Bool
is_not_return b = not (b == carriage_return)

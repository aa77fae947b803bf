use Rattle.std.proofs.Common.{◌≡◌, [], ◌∷◌, ◌++◌, drop, Ok}
use Rattle.htmd_lexical.specs.Characters.{comma}
use Rattle.htmd_selectors.specs.Reading.{read_all, nothing_read}
use Rattle.htmd_selectors.specs.ReaderViews.{reading_of}
use Rattle.htmd_selectors.proofs.reader.parse_selectors.Given as goal

abbrev pub invariant-loop-place : goal.invariant-loop-place
invariant-loop-place l =
    read_all l.place (drop l.place l.text ++ comma ∷ []) (Ok (reading_of l.reader))
    ≡ read_all 0 (l.text ++ comma ∷ []) (Ok nothing_read)

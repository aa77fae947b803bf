-- Parts that were written, and a text behind them that isn't one yet.
use Rattle.std.specs.Prelude.{ℕ, List, ◌++◌, map}
use Rattle.htmd_parts.specs.Parts.{Part, letter}
use Rattle.htmd_parts.specs.PartViews.{all_parts_of}
use Rattle.htmd_parts.specs.declared.parts.Part as declared

abbrev pub written : List declared.Part → List ℕ → List Part
written parts held = all_parts_of parts ++ map letter held

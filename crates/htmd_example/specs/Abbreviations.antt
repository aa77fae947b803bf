-- What an abbreviation becomes.
use Rattle.std.specs.Prelude.{ℕ, List, ◌++◌, Option, Some, None, codes}

-- a text, and after it in parentheses what it stands for, if that is known
abbrev pub spelled_out : List ℕ → Option (List ℕ) → List ℕ
spelled_out s None = s
spelled_out s (Some meaning) = s ++ codes " (" ++ meaning ++ codes ")"

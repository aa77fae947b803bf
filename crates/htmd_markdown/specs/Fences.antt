-- Fenced code blocks as they are written (CommonMark 0.31.2, 4.5).
use Rattle.std.specs.Prelude.{ℕ, ◌+◌, Bool, not, ◌||◌, ◌==◌, max, List, [], ◌∷◌, ◌++◌, replicate, Option, Some, None}
use Rattle.std.specs.List.{list_any}
use Rattle.htmd_lexical.specs.Characters.{carriage_return, grave_accent, line_feed, tilde}
use Rattle.htmd_markdown.specs.declared.fence.CodeBlockFence.{CodeBlockFence}
use Rattle.htmd_markdown.specs.declared.fence.CodeBlockFence.TheVariants.{Tildes, Backticks}
use Rattle.htmd_markdown.specs.CodeBlocks.{code_of}
use Rattle.htmd_markdown.specs.Runs.{longest_run}

-- the character that a fence is made of
abbrev pub symbol_of : CodeBlockFence → ℕ
symbol_of Tildes = tilde
symbol_of Backticks = grave_accent

-- the language, if there is one
abbrev pub info_string : Option (List ℕ) → List ℕ
info_string None = []
info_string (Some language) = language

-- three symbols, or one more than the longest run of them in the code, the greater
abbrev pub fence_len : ℕ → List ℕ → ℕ
fence_len symbol code = max 3 (longest_run symbol code + 1)

-- the text may stand after an opening fence: it holds no line feed, no carriage return and no symbol
abbrev pub fits_fence : ℕ → List ℕ → Bool
fits_fence symbol info =
    not (list_any (λ b. (b == line_feed) || (b == carriage_return) || (b == symbol)) info)

-- the code between two fences, with the info string after the first one
abbrev pub between_fences : List ℕ → List ℕ → List ℕ → List ℕ
between_fences fence info code = ((((fence ++ info) ++ line_feed ∷ []) ++ code) ++ line_feed ∷ []) ++ fence

-- the fenced code block of a content
abbrev pub fenced_code_block : List ℕ → Option (List ℕ) → CodeBlockFence → List ℕ
fenced_code_block s language fence =
    between_fences (replicate (fence_len (symbol_of fence) (code_of s)) (symbol_of fence)) (info_string language)
    (code_of s)

-- Fenced code blocks (CommonMark 0.31.2, 4.5).
use Rattle.std.specs.Prelude.{ℕ, List, replicate, Option}
use Rattle.htmd_markdown.specs.declared.fence.CodeBlockFence.{CodeBlockFence}
use Rattle.htmd_markdown.specs.Fences.{symbol_of, info_string, fence_len, between_fences}

-- the code between two fences of a symbol, with the language after the first one
abbrev pub fence : List ℕ → Option (List ℕ) → CodeBlockFence → List ℕ
fence s language symbol =
    between_fences (replicate (fence_len (symbol_of symbol) s) (symbol_of symbol)) (info_string language) s

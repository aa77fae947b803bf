-- Texts one after another.
use Rattle.std.specs.Prelude.{ℕ, min, max, List, [], ◌∷◌, ◌++◌, fold, replicate}
use Rattle.std.specs.List.{prefix_len, suffix_len, flat_map}
use Rattle.htmd_lexical.specs.Characters.{line_feed}
use Rattle.htmd_text.specs.Trims.{trimmed_start, trimmed_end, is_line_feed}

-- the texts with the separator between each two
abbrev pub joined_texts : List ℕ → List (List ℕ) → List ℕ
joined_texts separator [] = []
joined_texts separator (text ∷ texts) = text ++ flat_map (λ next. separator ++ next) texts

-- the line feeds between two blocks: as many as end the first or begin the second, at most two
abbrev pub block_separator : List ℕ → List ℕ → List ℕ
block_separator out block = replicate (min (max (suffix_len is_line_feed out) (prefix_len is_line_feed block)) 2)
    line_feed

-- a block after the blocks so far; an empty one is left out
abbrev pub join_block : List ℕ → List ℕ → List ℕ
join_block out [] = out
join_block out (b ∷ block) = (trimmed_end is_line_feed out ++ block_separator out (b ∷ block))
    ++ trimmed_start is_line_feed (b ∷ block)

-- the blocks one after another
abbrev pub joined_blocks : List (List ℕ) → List ℕ
joined_blocks blocks = fold join_block [] blocks

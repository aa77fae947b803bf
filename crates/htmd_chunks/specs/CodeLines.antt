-- The lines of a code block, and what it is cut into.
use Rattle.std.specs.Prelude.{ℕ, ◌+◌, ◌*◌, Bool, true, not, ◌&&◌, if◌then◌else◌, List, []}
use Rattle.std.specs.Prelude.{◌∷◌, ◌++◌, length, map}
use Rattle.std.specs.Prelude.{take, Option}
use Rattle.std.specs.List.{list_all, sum_by, slice_split}
use Rattle.std.specs.Str.{chars}
use Rattle.htmd_lexical.specs.Characters.{line_feed}
use Rattle.htmd_text.specs.Joins.{joined_texts}
use Rattle.htmd_text.specs.Trims.{is_line_feed}
use Rattle.htmd_markdown.specs.Fences.{symbol_of, info_string, fence_len}
use Rattle.htmd_commonmark.specs.CharacterKinds.{is_space}
use Rattle.htmd_commonmark.specs.declared.options.DocumentOptions.{DocumentOptions}
use Rattle.htmd_chunks.specs.Runs.{runs, together}
use Rattle.htmd_chunks.specs.Sizes.{plus, text_size, gap_size, cost}
use Rattle.htmd_chunks.specs.declared.bounds.Bounds.{Bounds}
use Rattle.htmd_chunks.specs.declared.size.Margin.{Margin}
use Rattle.htmd_chunks.specs.declared.size.Size.{Size}

abbrev pub is_blank : List ℕ → Bool
is_blank line = list_all is_space (chars line)

-- ---- units

-- each a line that isn't blank with the blank ones behind it, the first with those before it too
abbrev pub units_from : List (List ℕ) → List (List ℕ) → List (List (List ℕ))
units_from unit [] = unit ∷ []
units_from unit (line ∷ lines) =
    if not (is_blank line) && not (list_all is_blank unit) then unit ∷ units_from (line ∷ []) lines
    else units_from (unit ++ line ∷ []) lines

abbrev pub line_units : List ℕ → List (List (List ℕ))
line_units s = units_from [] (slice_split is_line_feed s)

-- ---- sizes

-- the two fences of the whole block, with the language behind the first
abbrev pub fences_size : DocumentOptions → Option (List ℕ) → List ℕ → Size
fences_size options language s =
    record {
      bytes = 2 * fence_len (symbol_of options.code_block_fence) s + length (info_string language) + 1;
      full = 2;
      empty = 0;
    }

abbrev pub line_cost : Margin → List ℕ → ℕ
line_cost m line = cost m (plus (text_size line) (gap_size true))

abbrev pub lines_cost : ℕ → Margin → List (List (List ℕ)) → ℕ
lines_cost fences m units = fences + sum_by (line_cost m) (together units)

-- ---- what is cut off

abbrev pub joined_lines : List (List ℕ) → List ℕ
joined_lines lines = joined_texts (line_feed ∷ []) lines

-- the text of each part of a code block
abbrev pub code_parts : Bounds → Margin → ℕ → Option (List ℕ) → List ℕ → List (List ℕ)
code_parts c m first language s =
    let fences = cost m (fences_size c.options language s) in
    map (λ units. joined_lines (together units)) (runs (lines_cost fences m) c.most first (line_units s))

-- the least part
abbrev pub least_lines : Bounds → Margin → Option (List ℕ) → List ℕ → ℕ
least_lines c m language s = lines_cost (cost m (fences_size c.options language s)) m (take 1 (line_units s))

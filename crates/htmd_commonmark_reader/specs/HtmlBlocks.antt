-- HTML blocks, as the reader holds them.
use Rattle.std.specs.Prelude.{ℕ, Bool, true, false, ◌&&◌, List, [], ◌∷◌, map, drop, codes}
use Rattle.std.specs.Borrow.{Bor}
use Rattle.std.specs.Str.{str_to_ascii_lowercase}
use Rattle.htmd_lexical.specs.CharacterClasses.{begins_with}
use Rattle.htmd_commonmark_reading.specs.BlockStarts.{text_ends}
use Rattle.htmd_commonmark_reading.specs.RawTags.{begins_with_letter}
use Rattle.htmd_commonmark_reader.specs.declared.html_blocks.HtmlEnd.{HtmlEnd}
use Rattle.htmd_commonmark_reader.specs.declared.html_blocks.HtmlEnd.TheVariants.{TextElement, Comment, Instruction}
use Rattle.htmd_commonmark_reader.specs.declared.html_blocks.HtmlEnd.TheVariants.{Declaration, CharacterData, BlankLine}

abbrev pub ends_of : HtmlEnd → List (List ℕ)
ends_of TextElement = text_ends
ends_of Comment = codes "-->" ∷ []
ends_of Instruction = codes "?>" ∷ []
ends_of Declaration = codes ">" ∷ []
ends_of CharacterData = codes "]]>" ∷ []
ends_of BlankLine = []

-- a blank line ends the block
abbrev pub are_no_ends : List (List ℕ) → Bool
are_no_ends [] = true
are_no_ends (e ∷ es) = false

-- the names that the program has, in lower case
abbrev pub low_names : List (Bor (List ℕ)) → List (List ℕ)
low_names names = map (λ n. str_to_ascii_lowercase n.now) names

abbrev pub begins_declaration : List ℕ → Bool
begins_declaration s = begins_with (codes "!") s && begins_with_letter (drop 1 s)

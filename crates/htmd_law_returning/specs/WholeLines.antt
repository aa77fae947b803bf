-- Lines as a page has them: what white space stands at no end of, and formats that stand once.
use Rattle.std.specs.Prelude.{ℕ, Bool, true, false, not, ◌&&◌, List, [], ◌∷◌}
use Rattle.std.specs.Str.{chars}
use Rattle.htmd_document.specs.Formats.{is_same_format}
use Rattle.htmd_document.specs.Documents.{Inline, text, code, formatted, link, line_break, Inlines, no_inlines, inline}
use Rattle.htmd_shown.specs.Spaces.{is_white, is_blank_text}

abbrev pub begins_white_text : List ℕ → Bool
begins_white_text [] = false
begins_white_text (c ∷ cs) = is_white c

abbrev pub ends_white_text : List ℕ → Bool
ends_white_text [] = false
ends_white_text (c ∷ []) = is_white c
ends_white_text (c ∷ d ∷ cs) = ends_white_text (d ∷ cs)

-- it begins with white space of any kind, or a break
abbrev pub begins_white : Inlines → Bool
begins_white (inline (text s) xs) = begins_white_text (chars s)
begins_white (inline line_break xs) = true
begins_white xs = false

abbrev pub ends_white : Inlines → Bool
ends_white no_inlines = false
ends_white (inline (text s) no_inlines) = ends_white_text (chars s)
ends_white (inline line_break no_inlines) = true
ends_white (inline x no_inlines) = false
ends_white (inline x (inline y ys)) = ends_white (inline y ys)

-- white space alone, or a break
abbrev pub is_gap : Inline → Bool
is_gap (text s) = is_blank_text s
is_gap line_break = true
is_gap x = false

abbrev pub is_same_around : Inline → Inline → Bool
is_same_around (formatted f content) (formatted g other) = is_same_format f g
is_same_around x y = false

-- the second inline after this one isn't in its format with a gap alone between
abbrev pub is_apart : Inline → Inlines → Bool
is_apart x (inline y (inline z zs)) = not (is_gap y && is_same_around x z)
is_apart x ys = true

abbrev mutual
  pub is_whole_inside : Inline → Bool
  is_whole_inside (code s) = not (begins_white_text (chars s)) && not (ends_white_text (chars s))
  is_whole_inside (formatted f content) = are_whole_inside content && not (begins_white content) && not
      (ends_white content)
  is_whole_inside (link address title content) =
      are_whole_inside content && not (begins_white content) && not (ends_white content)
  is_whole_inside x = true

  pub are_whole_inside : Inlines → Bool
  are_whole_inside no_inlines = true
  are_whole_inside (inline x xs) = is_whole_inside x && is_apart x xs && are_whole_inside xs

-- So are a line, the contents of its formats and links, and its codes.
abbrev pub is_whole : Inlines → Bool
is_whole xs = are_whole_inside xs && not (begins_white xs) && not (ends_white xs)

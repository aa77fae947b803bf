-- Worked rows: a tag that is alone in a line, for which no normal format begins with a break.
use Rattle.std.proofs.Common.{◌≡◌, refl, [], ◌∷◌, codes}
use Rattle.htmd_commonmark_reading.specs.Lines.{line}
use Rattle.htmd_commonmark_reading.specs.Boxes.{raw, leaf}
use Rattle.htmd_commonmark_reading.specs.BlockStarts.{alone, under, no_start, first_line, started}

-- a complete tag alone in its line begins HTML, but not within a paragraph
pub lone_tag : started alone (line 0 (codes "<sup>  ")) ≡ first_line (leaf (raw [] (codes "<sup>  " ∷ [])))
lone_tag = refl

pub tag_in_paragraph : started under (line 0 (codes "<sup>  ")) ≡ no_start
tag_in_paragraph = refl

-- with something after it, it begins none
pub tag_before_text : started alone (line 0 (codes "<sup>a</sup>")) ≡ no_start
tag_before_text = refl

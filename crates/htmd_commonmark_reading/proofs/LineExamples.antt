-- Worked rows of lines, tabs, escapes and references (CommonMark 0.31.2, 2). Each holds by computing.
use Rattle.std.proofs.Common.{◌≡◌, ℕ, refl, false, List, [], ◌∷◌, ◌++◌, codes, None}
use Rattle.htmd_html5_tokens.specs.NamedReferences.{small_names}
use Rattle.htmd_commonmark_reading.specs.Markup.{code_block, quote, list}
use Rattle.htmd_commonmark_reading.specs.Reading.{read}
use Rattle.htmd_commonmark_reading.proofs.ExampleTexts.{text, one, two, one_item}
use lib.Utf8.{encode}

-- U+FFFD
abbrev replacement : List ℕ
replacement = 0xEF ∷ 0xBF ∷ 0xBD ∷ []

-- LF, CR and the two together end a line
pub line_ends : read (codes "a\r\nb\rc\n") ≡ one (text (codes "a b c"))
line_ends = refl

pub null : read (codes "a" ++ (0 ∷ codes "b")) ≡ one (text (codes "a" ++ replacement ++ codes "b"))
unfolding encode
null = refl

pub blank_lines : read (codes "\n \na\n\t\nb\n") ≡ two (text (codes "a")) (text (codes "b"))
blank_lines = refl

-- a tab reaches to the next of the stops that are four columns apart
pub tab_of_code : read (codes "  \tx\ty\n") ≡ one (code_block None (codes "x\ty"))
tab_of_code = refl

-- after a marker it is as wide as it is there
pub tab_of_item : read (codes "-\tx\n\n\t\ty\n")
    ≡ one (list None false (one_item (two (text (codes "x")) (code_block None (codes "y")))))
tab_of_item = refl

-- what is left of a tab becomes spaces
pub part_of_tab : read (codes ">\t\tx\n") ≡ one (quote (one (code_block None (codes "  x"))))
part_of_tab = refl

pub escapes : read (codes "\\*a\\* \\b\\\\\n") ≡ one (text (codes "*a* \\b\\"))
escapes = refl

pub numbers : read (codes "&#35; &#x2A; &#0; &#12345678; &#;\n")
    ≡ one (text (codes "# * " ++ replacement ++ codes " &#12345678; &#;"))
unfolding encode
numbers = refl

pub names : read (codes "&auml;&nosuch; &auml\n") ≡ one (text (0xC3 ∷ 0xA4 ∷ codes "&nosuch; &auml"))
unfolding small_names
names = refl

-- a reference is no mark
pub no_mark : read (codes "&#42; a\n") ≡ one (text (codes "* a"))
unfolding encode
no_mark = refl

-- Worked rows of emphasis (CommonMark 0.31.2, 6.2) and strikethrough (GFM 0.29, 6.5). Each holds by computing.
use Rattle.std.proofs.Common.{◌≡◌, ℕ, List, refl, [], ◌∷◌, ◌++◌, codes}
use Rattle.std.specs.Str.{chars}
use Rattle.ucd_table.specs.Rows.{value_in}
use Rattle.ucd_category.specs.GeneralCategoryRows.{general_category_rows}
use Rattle.unicode.specs.GeneralCategory.{general_category}
use Rattle.htmd_document.specs.Formats.{Emphasis, Strong, Deleted}
use Rattle.htmd_commonmark_reading.specs.Markup.{Inlines, no_inlines, letters, formatted, code}
use Rattle.htmd_commonmark_reading.specs.Brackets.{inlines}
use Rattle.htmd_commonmark_reading.proofs.ExampleTexts.{plain}

abbrev emphasized : Inlines → Inlines → Inlines
emphasized content rest = formatted Emphasis content rest

-- asterisks within a word are marks, underscores aren't
pub in_words : inlines [] (codes "a*b*c d_e_f")
    ≡ letters (codes "a") (emphasized (plain (codes "b")) (plain (codes "c d_e_f")))
unfolding chars
in_words = refl

pub beside_spaces : inlines [] (codes "a * b* _c _") ≡ plain (codes "a * b* _c _")
unfolding chars
beside_spaces = refl

-- a run beside punctuation flanks what is on the other side only at white space or punctuation
pub beside_punctuation : inlines [] (codes "a*\"b\"* *(c)*d _(e)_.")
    ≡ letters (codes "a*\"b\"* *(c)*d ") (emphasized (plain (codes "(e)")) (plain (codes ".")))
unfolding chars
beside_punctuation = refl

-- U+20AC
abbrev euro : List ℕ
euro = 0xE2 ∷ 0x82 ∷ 0xAC ∷ []

-- a symbol is punctuation
pub symbols : inlines [] (codes "*$*a *" ++ euro ++ codes "*b") ≡ plain (codes "*$*a *" ++ euro ++ codes "*b")
unfolding chars general_category value_in general_category_rows
symbols = refl

pub strong_in_emphasis : inlines [] (codes "***a** b*")
    ≡ emphasized (formatted Strong (plain (codes "a")) (plain (codes " b"))) no_inlines
unfolding chars
strong_in_emphasis = refl

pub both : inlines [] (codes "___a___") ≡ emphasized (formatted Strong (plain (codes "a")) no_inlines) no_inlines
unfolding chars
both = refl

-- two runs of which one can open and close aren't a pair if their lengths sum up to a multiple of 3
pub by_three : inlines [] (codes "*a**b*") ≡ emphasized (plain (codes "a**b")) no_inlines
unfolding chars
by_three = refl

pub first_closes : inlines [] (codes "*a _b* c_") ≡ emphasized (plain (codes "a _b")) (plain (codes " c_"))
unfolding chars
first_closes = refl

pub strikethrough : inlines [] (codes "~a~ ~~b~~ ~~~c~~~ ~~d~")
    ≡ formatted Deleted (plain (codes "a")) (letters (codes " ") (formatted Deleted (plain (codes "b"))
    (plain (codes " ~~~c~~~ ~~d~"))))
unfolding chars
strikethrough = refl

-- code binds tighter than emphasis
pub code_first : inlines [] (codes "*a `*`") ≡ letters (codes "*a ") (code (codes "*") no_inlines)
unfolding chars
code_first = refl

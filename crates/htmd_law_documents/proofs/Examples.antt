-- Worked rows of the laws.
use Rattle.std.proofs.Common.{◌≡◌, true, false, [], ◌∷◌, refl}
use Rattle.std.specs.Prelude.{codes, encode_utf8_all}
use Rattle.std.specs.Str.{chars}
use Rattle.htmd_document.specs.Documents.{code, Inlines, no_inlines, inline}
use Rattle.htmd_shown.specs.SimpleTrees.{text, formula, none, more}
use Rattle.htmd_law_documents.specs.DocumentTexts.{visible}
use Rattle.htmd_law_documents.specs.SimpleTexts.{text_of_simple, text_of_simples}
use Rattle.htmd_law_documents.specs.TableLengths.{has_right_length}
use lib.Utf8.{encode}

-- ---- what can be seen

-- no white space, also past ASCII, no U+0000 and no U+FEFF
pub visible-letters : visible (encode_utf8_all (97 ∷ 32 ∷ 0xA0 ∷ 0 ∷ 0xFEFF ∷ 10 ∷ 98 ∷ []))
    ≡ 97 ∷ 98 ∷ []
unfolding chars encode
visible-letters = refl

-- ---- formulas

-- a formula in a line stands between dollar signs
pub formula-says : text_of_simple false false (formula (codes "x") false []) ≡ codes "$x$"
formula-says = refl

-- one that stands alone does so where all is one line
pub alone-says : text_of_simple false false (formula (codes "x") true []) ≡ codes "x"
alone-says = refl

pub flat-says : text_of_simple true false (formula (codes "x") true []) ≡ codes "$x$"
flat-says = refl

pub trees-say : text_of_simples false false (more (text (codes "a ")) (more (formula (codes "x") false []) none))
    ≡ codes "a $x$"
trees-say = refl

-- ---- headers

abbrev word : Inlines
word = inline (code (codes "a")) no_inlines

-- a row needs the last cell
pub needed-header : has_right_length (word ∷ no_inlines ∷ []) ((no_inlines ∷ word ∷ []) ∷ []) ≡ true
needed-header = refl

-- and none does
pub long-header : has_right_length (word ∷ no_inlines ∷ []) ((word ∷ []) ∷ []) ≡ false
long-header = refl

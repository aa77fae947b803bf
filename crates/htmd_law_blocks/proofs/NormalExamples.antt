-- Worked rows of the normal form and of texts, for and against. Each holds by computing.
use Rattle.std.specs.Str.{chars}
use Rattle.std.specs.Prelude.{◌==◌, length}
use Rattle.htmd_commonmark_reading.specs.LinkDefinitions.{Definitions}
use Rattle.std.proofs.Common.{arith, ◌≡◌, ℕ, true, false, refl, ap, codes, ◌∷◌, [], List, None, Some}
use Rattle.htmd_document.specs.Documents.{Block, Blocks, text, inline, no_inlines, paragraph, quote, thematic_break}
use Rattle.htmd_document.specs.Documents.{list, no_blocks, block, no_items, item}
use Rattle.htmd_law_blocks.specs.LineTexts.{IsFirstLine, IsFurtherLine, IsWhole, IsLineText, IsHeadingText}
use Rattle.htmd_law_blocks.specs.LineTexts.{IsUnderlinedText, IsCellText}
use Rattle.htmd_law_blocks.specs.NormalBlocks.{is_level, IsLanguage, are_short_numbers, may_be_tight, fits_list}
use Rattle.htmd_law_blocks.specs.NormalBlocks.{is_spread, FitColumns, IsNormalBlock}
use lib.Utf8.{encode}

abbrev words : List ℕ → Block
words s = paragraph (inline (text s) no_inlines)

abbrev one : Block → Blocks
one b = block b no_blocks

-- ---- lines

pub text_begins : IsFirstLine (codes "a *b*")
text_begins = record { black = refl; starts = λ k. refl; no_asterisks = refl; no_hyphens = refl }

pub heading_does_not : IsFirstLine (codes "# a") → ⊥
heading_does_not h = absurd (let e = h.starts 0 in cc)

pub blank_does_not : IsFirstLine (codes " a") → ⊥
blank_does_not h = absurd (let e = h.black in cc)

-- after `- ` it would make a break
pub hyphens_do_not : IsFirstLine (codes "--") → ⊥
hyphens_do_not h = absurd (let e = h.no_hyphens in cc)

pub text_goes_on : IsFurtherLine (codes "2. a")
text_goes_on = record { black = refl; starts = λ k. refl; no_underline = λ k. refl; no_delimiters = λ k. refl }

pub item_does_not : IsFurtherLine (codes "1. a") → ⊥
item_does_not h = absurd (let e = h.starts 0 in cc)

pub underline_does_not : IsFurtherLine (codes "==") → ⊥
underline_does_not h = absurd (let e = h.no_underline 0 in cc)

pub delimiters_do_not : IsFurtherLine (codes "|:-|") → ⊥
delimiters_do_not h = absurd (let e = h.no_delimiters 0 in cc)

pub paragraph_text : IsLineText (codes "a  \nb")
paragraph_text = record {
  plain = refl;
  lines = (
    record { black = refl; starts = λ k. refl; no_asterisks = refl; no_hyphens = refl },
    (record { black = refl; starts = λ k. refl; no_underline = λ k. refl; no_delimiters = λ k. refl }, tt),
  );
  whole = refl;
}

pub definition_is_none : IsWhole (codes "[a]: b") → ⊥
unfolding chars encode
definition_is_none h = absurd (let e : false ≡ true = ap (λ (d : Definitions). length d.found == 0) h in cc)

pub heading_text : IsHeadingText (codes "a # b")
heading_text = record { plain = refl; one_line = refl; whole = refl }

pub closed_heading : IsHeadingText (codes "a #") → ⊥
closed_heading h = absurd (let e = h.whole in cc)

pub underlined_text : IsUnderlinedText (codes "a #")
underlined_text = record {
  plain = refl;
  one_line = refl;
  line = record { black = refl; starts = λ k. refl; no_asterisks = refl; no_hyphens = refl };
  whole = refl;
}

pub two_lines : IsUnderlinedText (codes "a\nb") → ⊥
two_lines h = absurd (let e = h.one_line in cc)

-- ---- blocks

pub sixth_level : is_level 6 ≡ true
sixth_level = refl

pub seventh_level : is_level 7 ≡ false
seventh_level = refl

pub language : IsLanguage (codes "rust")
language = record { plain = refl; one_line = refl; bare = refl; word = refl; no_accent = refl; no_tilde = refl }

pub two_words : IsLanguage (codes "a b") → ⊥
two_words h = absurd (let e = h.word in cc)

pub nine_digits : are_short_numbers (Some 999999998) 2 ≡ true
nine_digits = refl

pub ten_digits : are_short_numbers (Some 999999999) 2 ≡ false
ten_digits = refl

pub list_after_text :
    may_be_tight (block (words (codes "a")) (one (list None true (item (one (words (codes "b"))) no_items)))) ≡ true
list_after_text = refl

-- a list that begins with 2 doesn't interrupt a paragraph
pub second_after_text :
    may_be_tight (block (words (codes "a")) (one (list (Some 2) true (item (one (words (codes "b"))) no_items))))
    ≡ false
second_after_text = refl

pub loose_may_hold_all : fits_list false (block (words (codes "a")) (one thematic_break)) ≡ true
loose_may_hold_all = refl

pub two_items : is_spread (item (one (words (codes "a"))) (item no_blocks no_items)) ≡ true
two_items = refl

pub one_block : is_spread (item (one (words (codes "a"))) no_items) ≡ false
one_block = refl

pub cell_text : IsCellText (codes "a | b")
cell_text = record { plain = refl; one_line = refl; trimmed = (refl, refl) }

pub empty_cell : IsCellText (codes "")
empty_cell = record { plain = refl; one_line = refl; trimmed = tt }

pub cell_with_space : IsCellText (codes "a ") → ⊥
cell_with_space h = absurd (let e = h.trimmed.1 in cc)

pub as_many_cells : FitColumns 1 ((no_inlines ∷ []) ∷ [])
as_many_cells = (omega arith, tt, tt)

pub more_cells : FitColumns 1 ((no_inlines ∷ no_inlines ∷ []) ∷ []) → ⊥
more_cells h = absurd (let e = h.0 in omega (arith, e))

pub normal_list : IsNormalBlock (list None true (item (one (words (codes "a"))) no_items))
normal_list = (tt, refl, (refl, (tt, tt), tt), refl)

-- a list that a reader can't see to be loose is tight
pub lone_loose_list : IsNormalBlock (list None false (item (one (words (codes "a"))) no_items)) → ⊥
lone_loose_list h = absurd (let e = h.3 in cc)

pub empty_quote : IsNormalBlock (quote no_blocks) → ⊥
empty_quote h = h.0

-- Worked rows of paragraphs. Each holds by computing.
use Rattle.std.proofs.Common.{◌≡◌, ℕ, refl, true, false, List, [], ◌∷◌, codes, None}
use Rattle.std.specs.Str.{chars}
use Rattle.htmd_document.specs.Formats.{Strong}
use Rattle.htmd_document.specs.Documents.{Inlines, no_inlines, inline, text, code, formatted, link}
use Rattle.htmd_document.specs.Documents.{line_break, task, anchor, Blocks, no_blocks, block, paragraph, thematic_break}
use Rattle.htmd_flow.specs.Parts as part
use Rattle.htmd_flow.specs.Parts.{Around, Part, run, break, place, box, edge, whole}
use Rattle.htmd_flow.specs.Paragraphs.{begun, fed_all, blocks_in, line_in}
use Rattle.htmd_shown.specs.ShownTexts.{shown_text}
use lib.Utf8.{encode}

-- what stands around a leaf in `<b>`, and in the first and the second link to `/`
abbrev bold : List Around
bold = part.formatted Strong ∷ []

abbrev first_link : List Around
first_link = part.linked 1 (codes "/") None ∷ []

abbrev second_link : List Around
second_link = part.linked 2 (codes "/") None ∷ []

-- parts as blocks, as an item and as a line
abbrev blocks : List Part → Blocks
blocks parts = blocks_in (fed_all (begun false false) parts)

abbrev item : List Part → Blocks
item parts = blocks_in (fed_all (begun true false) parts)

abbrev line : List Part → Inlines
line parts = line_in (fed_all (begun false true) parts)

abbrev one : Inlines → Blocks
one inlines = block (paragraph inlines) no_blocks

abbrev in_bold : List ℕ → Inlines → Inlines
in_bold s rest = inline (formatted Strong (inline (text s) no_inlines)) rest

abbrev plain : List ℕ → Inlines → Inlines
plain s rest = inline (text s) rest

-- `<b>a </b> b`: white space is squeezed, and stands outside
pub space_outside : blocks (run (codes "a ") bold false ∷ run (codes " b") [] false ∷ [])
    ≡ one (in_bold (codes "a") (plain (codes " b") no_inlines))
unfolding chars encode
space_outside = refl

-- `<b>a</b> <b>b</b>`: what is beside each other in the same format is one
pub space_inside : blocks (run (codes "a") bold false ∷ run (codes " ") [] false ∷ run
    (codes "b") bold false ∷ [])
    ≡ one (in_bold (codes "a b") no_inlines)
unfolding chars encode
space_inside = refl

-- two links to one address stay two
pub two_links : blocks (run (codes "a") first_link false ∷ run (codes "b") second_link false ∷ [])
    ≡ one (inline (link (codes "/") None (plain (codes "a") no_inlines))
    (inline (link (codes "/") None (plain (codes "b") no_inlines)) no_inlines))
unfolding chars encode
two_links = refl

-- `<code>a</code> <code>b</code>` are two, `<code>a </code><code>b</code>` one
pub two_codes : blocks (run (codes "a") [] true ∷ run (codes " ") [] false ∷ run (codes "b") [] true ∷ [])
    ≡ one (inline (code (codes "a")) (plain (codes " ") (inline (code (codes "b")) no_inlines)))
unfolding chars encode
two_codes = refl

pub one_code : blocks (run (codes "a ") [] true ∷ run (codes "b") [] true ∷ [])
    ≡ one (inline (code (codes "a b")) no_inlines)
unfolding chars encode
one_code = refl

-- a break takes the white space beside it, and none stands at the ends
pub one_break : blocks (break ∷ run (codes "a ") [] false ∷ break ∷ run (codes " b") [] false ∷ break ∷ [])
    ≡ one (plain (codes "a") (inline line_break (plain (codes "b") no_inlines)))
unfolding chars encode
one_break = refl

-- two breaks part paragraphs, and edges do; a block stands between them
pub two_breaks : blocks (run (codes "a") [] false ∷ break ∷ run (codes " ") [] false ∷ break ∷ run
    (codes "b") []
    false ∷ [])
    ≡ block (paragraph (plain (codes "a") no_inlines)) (one (plain (codes "b") no_inlines))
unfolding chars encode
two_breaks = refl

pub between : blocks (run (codes "a") [] false ∷ whole thematic_break ∷ edge ∷ run (codes "b") [] false ∷ [])
    ≡ block (paragraph (plain (codes "a") no_inlines)) (block thematic_break (one (plain (codes "b") no_inlines)))
unfolding chars encode
between = refl

-- in a line breaks and edges in a row are one break
pub in_line : line (edge ∷ run (codes "a") [] false ∷ break ∷ edge ∷ run (codes "b") [] false ∷ edge ∷ [])
    ≡ plain (codes "a") (inline line_break (plain (codes "b") no_inlines))
unfolding chars encode
in_line = refl

-- a task begins an item, with a space after it; elsewhere it goes
pub first_task : item (run (codes " ") [] false ∷ box true ∷ run (codes "a") [] false ∷ [])
    ≡ one (inline (task true) (plain (codes " a") no_inlines))
unfolding chars encode
first_task = refl

-- other white space there goes
pub wide_task : item (box true ∷ run (0xC2 ∷ 0xA0 ∷ codes "a") [] false ∷ [])
    ≡ one (inline (task true) (plain (codes " a") no_inlines))
unfolding chars encode
wide_task = refl

pub late_task : item (run (codes "a") [] false ∷ box true ∷ run (codes "b") [] false ∷ [])
    ≡ one (plain (codes "ab") no_inlines)
unfolding chars encode
late_task = refl

pub lone_task : item (box false ∷ []) ≡ no_blocks
lone_task = refl

-- an anchor stands right before what shows, after the white space
pub anchor_before : blocks (run (codes "a") [] false ∷ place (codes "x") ∷ run (codes " b") [] false ∷ [])
    ≡ one (plain (codes "a ") (inline (anchor (codes "x")) (plain (codes "b") no_inlines)))
unfolding chars encode
anchor_before = refl

-- in the formats that both its neighbours share
pub anchor_inside : blocks (run (codes "a") bold false ∷ place (codes "x") ∷ run (codes "b") bold false ∷ [])
    ≡ one (inline (formatted Strong (inline (text (codes "a")) (inline (anchor (codes "x"))
    (inline (text (codes "b")) no_inlines)))) no_inlines)
unfolding chars encode
anchor_inside = refl

-- or alone in its paragraph
pub lone_anchor : blocks (place (codes "x") ∷ edge ∷ run (codes "a") [] false ∷ [])
    ≡ block (paragraph (inline (anchor (codes "x")) no_inlines)) (one (plain (codes "a") no_inlines))
unfolding chars encode
lone_anchor = refl

-- U+0000 and U+FEFF go
pub hidden : shown_text (0x61 ∷ 0 ∷ 0xEF ∷ 0xBB ∷ 0xBF ∷ 0x62 ∷ []) ≡ codes "ab"
unfolding chars encode
hidden = refl

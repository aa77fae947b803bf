-- Worked rows of what shows.
use Rattle.std.proofs.Common.{◌≡◌, ℕ, true, false, List, [], ◌∷◌, Some, None, refl}
use Rattle.std.specs.Prelude.{codes}
use Rattle.std.specs.Str.{chars}
use Rattle.htmd_lexical.specs.AttributePairs.{AttributePair}
use Rattle.htmd_nodes.specs.NumberedTrees as page
use Rattle.htmd_document.specs.declared.document.InlineElement.TheVariants.{Keyboard}
use Rattle.htmd_shown.specs.declared.role.Role.TheVariants as role
use Rattle.htmd_shown.specs.AllTexts.{text_in, with_line_end}
use Rattle.htmd_shown.specs.ClassWords.{has_class, number_words}
use Rattle.htmd_shown.specs.Embeds.{place_of}
use Rattle.htmd_shown.specs.Facts.{facts_of, made}
use Rattle.htmd_shown.specs.Formulas.{squeezed, is_displayed_type}
use Rattle.htmd_shown.specs.Images.{first_candidate, is_data}
use Rattle.htmd_shown.specs.Marks.{is_usual_sign}
use Rattle.htmd_shown.specs.Pieces.{no_pieces, pieces_after_all}
use Rattle.htmd_shown.specs.Roles.{role_of, table_role, heading_or_block, block_role, inline_role, element_role}
use Rattle.htmd_shown.specs.Shown.{Sight, role_at, shown, shown_all, shown_in, is_for_layout}
use Rattle.htmd_shown.specs.SimpleTrees.{Simple, text, element, Simples, none, more}
use lib.Utf8.{encode}

abbrev pair : List ℕ → List ℕ → AttributePair
pair name value = record { name = name; value = value }

-- ---- names and attributes

pub role-term : role_of (codes "dt") ≡ role.Term
unfolding role_of table_role heading_or_block block_role
role-term = refl

-- an `a` without an address is no link
pub role-target : role_at false (codes "a") [] page.none ≡ role.Target
unfolding role_of table_role heading_or_block block_role inline_role
role-target = refl

-- what is typed is code, unless the document is rich
pub role-typed : role_at false (codes "kbd") [] page.none ≡ role.Typed
unfolding role_of table_role heading_or_block block_role inline_role element_role
role-typed = refl

pub role-keyboard : role_at true (codes "kbd") [] page.none ≡ role.Element Keyboard
unfolding role_of table_role heading_or_block block_role inline_role element_role
role-keyboard = refl

pub layout-said : is_for_layout (pair (codes "role") (codes " Presentation x") ∷ []) ≡ true
layout-said = refl

pub class-numbers : has_class number_words (pair (codes "class") (codes "x linenos") ∷ []) ≡ true
class-numbers = refl

-- ---- formulas, images and what is embedded

pub type-squeezed : squeezed (codes " Math/ TeX ") ≡ codes "math/tex"
type-squeezed = refl

pub type-displayed : is_displayed_type (codes "math/tex; mode=display") ≡ true
type-displayed = refl

pub set-first : first_candidate (codes ", a.png 1x, b.png 2x") ≡ Some (codes "a.png")
set-first = refl

pub address-data : is_data (codes "DATA:x") ≡ true
address-data = refl

pub place-part : place_of (codes "#a") ≡ None
unfolding chars encode
place-part = refl

pub place-other_scheme : place_of (codes "mailto:a") ≡ None
unfolding chars encode
place-other_scheme = refl

pub place-page : place_of (codes " https://a ") ≡ Some (codes "https://a")
unfolding chars encode
place-page = refl

-- ---- texts and signs

pub row-line : with_line_end (codes "a") ≡ codes "a\n"
row-line = refl

-- in code, each block that says something is a line
pub division-line : text_in role.Division (codes "a") ≡ codes "a\n"
division-line = refl

pub division-empty : text_in role.Division [] ≡ []
division-empty = refl

pub cell-line : text_in role.Cell (codes "a") ≡ codes "a"
cell-line = refl

pub table-line : text_in role.Table (codes " ") ≡ codes " "
table-line = refl

pub sign-pilcrow : is_usual_sign 0xB6 ≡ true
sign-pilcrow = refl

abbrev pieces : Simples → ℕ
pieces trees = (pieces_after_all no_pieces trees).count

abbrev a_break : Simple
a_break = element 0 role.LineBreak (facts_of none) [] none

-- two breaks part pieces, one doesn't
pub pieces-two : pieces (more (text (codes "a")) (more a_break (more a_break (more (text (codes "b")) none)))) ≡ 2
unfolding chars encode
pieces-two = refl

pub pieces-one : pieces (more (text (codes "a")) (more a_break (more (text (codes "b")) none))) ≡ 1
unfolding chars encode
pieces-one = refl

-- ---- pages

abbrev sight : Sight
sight = record { scripting = true; skip = []; is_rich = false }

-- the permalink of a heading goes
pub heading-permalink : shown_in sight (page.document 0 (page.more (page.element 1 (codes "h2") []
    (page.more (page.text 2 (codes "a")) (page.more (page.element 3 (codes "a")
    (pair (codes "href") (codes "#x") ∷ []) (page.more (page.text 4 (codes "#")) page.none)) page.none))) page.none))
    ≡ more (made 1 (role.Heading 2) [] (more (text (codes "a")) none)) none
unfolding chars encode role_of table_role heading_or_block block_role inline_role shown shown_all
heading-permalink = refl

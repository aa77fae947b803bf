-- Worked rows of what nodes give. Each holds by computing.
use Rattle.std.proofs.Common.{◌≡◌, ℕ, true, false, refl, List, [], ◌∷◌, ◌++◌, codes, Some, None}
use Rattle.std.specs.Prelude.{pos}
use Rattle.std.specs.Str.{chars}
use Rattle.htmd_lexical.specs.AttributePairs.{AttributePair}
use Rattle.htmd_document.specs.declared.document.Alignment.TheVariants as align
use Rattle.htmd_document.specs.Documents as value
use Rattle.htmd_document.specs.Documents.{Inlines, no_inlines, inline, Blocks, no_blocks, block}
use Rattle.htmd_shown.specs.declared.facts.Facts.{Facts}
use Rattle.htmd_shown.specs.declared.role.Role.{Role}
use Rattle.htmd_shown.specs.declared.role.Role.TheVariants as role
use Rattle.htmd_shown.specs.SimpleTrees.{Simple, text, formula, embedded, element, Simples, none, more}
use Rattle.htmd_flow.specs.Flows.{document_of, is_grid_of, node_of, nodes_of, nodes_below, terms_of, rows_among, rows_at}
use Rattle.htmd_flow.specs.Languages.{language_of_block}
use Rattle.htmd_flow.specs.Levels.{list_of}
use Rattle.htmd_flow.specs.Lists.{start_of}
use lib.Utf8.{encode}

-- an element of which nothing else is known
abbrev known : Facts
known = record {
  is_blank = false;
  pres = 0;
  holds_table = false;
  holds_header = false;
  shows_sign = false;
  leaves = 0;
}

abbrev tag : Role → Simples → Simple
tag r content = element 1 r known [] content

abbrev pair : List ℕ → List ℕ → AttributePair
pair name value = record { name = name; value = value }

abbrev letter : List ℕ → Simples
letter s = more (text s) none

abbrev plain : List ℕ → Inlines
plain s = inline (value.text s) no_inlines

abbrev one : value.Block → Blocks
one b = block b no_blocks

abbrev paragraph : List ℕ → Blocks
paragraph s = one (value.paragraph (plain s))

-- ---- paragraphs and headings

-- `<p>a</p>`
pub document-paragraph : document_of false (more (tag role.Paragraph (letter (codes "a"))) none)
    ≡ paragraph (codes "a")
unfolding chars encode node_of nodes_of
document-paragraph = refl

-- `<h2>a</h2>`, and an empty heading is none
pub document-heading : document_of false (more (tag (role.Heading 2) (letter (codes "a")))
    (more (tag (role.Heading 1) none) none))
    ≡ one (value.heading 2 (plain (codes "a")))
unfolding chars encode node_of nodes_of
document-heading = refl

-- `<blockquote>a</blockquote>`, and an empty quote is none
pub document-quote : document_of false (more (tag role.BlockQuote (letter (codes "a")))
    (more (tag role.BlockQuote none) none))
    ≡ one (value.quote (paragraph (codes "a")))
unfolding chars encode node_of nodes_of
document-quote = refl

-- ---- lists

-- items outside a list, with white space between, are a list
pub document-items : document_of false (more (tag role.Item (letter (codes "a"))) (more (text (codes " "))
    (more (tag role.Item (letter (codes "b"))) none)))
    ≡ one (value.list None true (value.item (paragraph (codes "a"))
    (value.item (paragraph (codes "b")) value.no_items)))
unfolding chars encode node_of nodes_of
document-items = refl

-- where an item says another number than the next, a list begins anew
pub document-numbers : document_of false (more (element 1 role.NumberedList known []
    (more (tag role.Item (letter (codes "a")))
    (more (element 2 role.Item known (pair (codes "value") (codes "5") ∷ []) (letter (codes "b"))) none))) none)
    ≡ block (value.list (Some 1) true (value.item (paragraph (codes "a")) value.no_items))
    (one (value.list (Some 5) true (value.item (paragraph (codes "b")) value.no_items)))
unfolding chars encode node_of nodes_of
document-numbers = refl

pub start-past_the_greatest : start_of 0 (pos 999999999) 2 ≡ Some 1
start-past_the_greatest = refl

-- in eight lists and quotes a number has two digits
pub start-deep : start_of 8 (pos 100) 1 ≡ Some 1
start-deep = refl

pub start-too_many : start_of 0 (pos 1) 1000000000 ≡ None
start-too_many = refl

-- `<dl><dt>a<dd>b</dl>` is a list whose item has both
pub document-terms : document_of false (more (tag role.Terms (more (tag role.Term (letter (codes "a")))
    (more (tag role.Meaning (letter (codes "b"))) none))) none)
    ≡ one (value.list None false (value.item (block (value.paragraph (plain (codes "a"))) (paragraph (codes "b")))
    value.no_items))
unfolding chars encode node_of nodes_of nodes_below terms_of
document-terms = refl

-- ---- tables

abbrev header_row : Simple
header_row = tag role.Row (more (tag role.HeaderCell (letter (codes "a"))) none)

abbrev row : Simple
row = tag role.Row (more (tag role.Cell (letter (codes "b"))) none)

-- a table with a header cell has rows and columns
pub document-table : document_of false (more (tag role.Table (more header_row (more row none))) none)
    ≡ one (value.table (align.None ∷ []) (plain (codes "a") ∷ []) ((plain (codes "b") ∷ []) ∷ []))
unfolding chars encode node_of nodes_of rows_among rows_at
document-table = refl

pub grid-header : is_grid_of (more header_row (more row none)) ≡ true
unfolding chars encode node_of nodes_of rows_among rows_at
grid-header = refl

-- one without, and of one column, is the page's layout
pub grid-column : is_grid_of (more row (more row none)) ≡ false
unfolding chars encode node_of nodes_of rows_among rows_at
grid-column = refl

-- ---- leaves

-- a formula alone is a block of code
pub document-formula : document_of false (more (formula (codes " x ") true []) none)
    ≡ one (value.code_block (Some (codes "math")) (codes "x"))
unfolding chars encode node_of nodes_of
document-formula = refl

-- what is embedded is a paragraph that is a link
pub document-embedded : document_of false
    (more (text (codes "a")) (more (embedded 3 (codes "/") (codes "b") [] []) none))
    ≡ block (value.paragraph (plain (codes "a")))
    (one (value.paragraph (inline (value.link (codes "/") None (plain (codes "b"))) no_inlines)))
unfolding chars encode node_of nodes_of
document-embedded = refl

-- the lines of a code block are as they are, and its class names the language
pub document-code : document_of false (more (element 1 role.Preformatted known
    (pair (codes "class") (codes "x language-rust") ∷ []) (letter (codes "a  b\n"))) none)
    ≡ one (value.code_block (Some (codes "rust")) (codes "a  b"))
unfolding chars encode node_of nodes_of
document-code = refl

-- ---- languages

pub language-own : language_of_block [] (list_of (more (element 1 role.Code known
    (pair (codes "class") (codes "brush: js; x") ∷ []) none) none)) [] ≡ Some (codes "js")
language-own = refl

-- a word with a control names none
pub language-control : language_of_block (pair (codes "class") (codes "lang-c" ++ 0x7F ∷ []) ∷ []) [] [] ≡ None
language-control = refl

-- one near counts where the code says none
pub language-near : language_of_block [] [] ((pair (codes "class") (codes "highlight-source-go") ∷ []) ∷ [])
    ≡ Some (codes "go")
language-near = refl

pub language-none : language_of_block (pair (codes "data-lang") (codes "Text") ∷ []) [] [] ≡ None
language-none = refl

-- What is known of a name answers each question that the rules of nesting ask of it.
use Rattle.std.proofs.Common.{◌≡◌, ℕ, Bool, true, false, not, ◌||◌, List, [], ◌∷◌, map, refl, sym, ◌∙◌, codes}
use Rattle.std.specs.List.{list_all}
use Rattle.htmd_lexical.proofs.Cases.{test}
use Rattle.htmd_lexical.specs.CharacterClasses.{is_among}
use Rattle.htmd_grammar.proofs.NestingLemmas.{among_passes}
use Rattle.htmd_nodes.specs.declared.tag.Tag.{Tag}
use Rattle.htmd_nodes.specs.declared.tag.Tag.TheVariants as tag
use Rattle.htmd_nodes.specs.Tags.{tag_text, HasNoTag}
use Rattle.htmd_tree.specs.KnownNames.{known_name, known_in_table, known_by_itself, outside_names, block_names, is}
use Rattle.htmd_tree.specs.KnownNames.{heading_names, raw_text_names, holds_raw_text, closes_paragraph, is_table_part}
use Rattle.htmd_tree.specs.KnownNames.{holds_parts, is_part_of_select}
use Rattle.htmd_tree.specs.declared.reader.names.KnownName.{KnownName}
use Rattle.htmd_tree.specs.declared.reader.names.KnownName.TheVariants.{Outside, NoScript, Text, Heading, P, A, Button}
use Rattle.htmd_tree.specs.declared.reader.names.KnownName.TheVariants.{Form, NoBr, Li, ItemList, Description, Dl}
use Rattle.htmd_tree.specs.declared.reader.names.KnownName.TheVariants.{Select, OptGroup, OptionTag, Table, ColGroup}
use Rattle.htmd_tree.specs.declared.reader.names.KnownName.TheVariants.{Rows, Row, Cell, Col, Other}

-- all tags that are known
abbrev known_tags : List Tag
known_tags =
    tag.A ∷ tag.Article ∷ tag.Aside ∷ tag.Address ∷ tag.Blockquote ∷ tag.Button ∷ tag.Body ∷ tag.Col ∷
    tag.Colgroup ∷ tag.Caption ∷ tag.Center ∷ tag.Div ∷ tag.Details ∷ tag.Dialog ∷ tag.Dd ∷ tag.Dt ∷
    tag.Dl ∷ tag.Dir ∷ tag.Form ∷ tag.Figure ∷ tag.Figcaption ∷ tag.Footer ∷ tag.Fieldset ∷
    tag.Frame ∷ tag.Frameset ∷ tag.H1 ∷ tag.H2 ∷ tag.H3 ∷ tag.H4 ∷ tag.H5 ∷ tag.H6 ∷ tag.Hr ∷
    tag.Header ∷ tag.Hgroup ∷ tag.Html ∷ tag.Head ∷ tag.Iframe ∷ tag.Image ∷ tag.Li ∷ tag.Listing ∷
    tag.Main ∷ tag.Menu ∷ tag.Nav ∷ tag.Nobr ∷ tag.Noscript ∷ tag.Noembed ∷ tag.Noframes ∷ tag.Ol ∷
    tag.Option ∷ tag.Optgroup ∷ tag.P ∷ tag.Pre ∷ tag.Plaintext ∷ tag.Select ∷ tag.Section ∷
    tag.Summary ∷ tag.Search ∷ tag.Script ∷ tag.Style ∷ tag.Tr ∷ tag.Td ∷ tag.Th ∷ tag.Table ∷
    tag.Thead ∷ tag.Tbody ∷ tag.Tfoot ∷ tag.Title ∷ tag.Textarea ∷ tag.Template ∷ tag.Ul ∷ tag.Xmp ∷
    []

-- all names that are known
unfoldable names : List (List ℕ)
names = map tag_text known_tags

none_of : (some : List (List ℕ)) (n : List ℕ) → is_among names n ≡ false
    → list_all (is_among names) some ≡ true → is_among some n ≡ false
none_of some n h l =
    test (is_among some n) (λ t. absurd (let w = among_passes (is_among names) some n t l in cc)) (λ f. f)

other : (n : List ℕ) → is_among names n ≡ false → known_by_itself n ≡ Other
unfolding names known_by_itself
other n h = rw (
  none_of heading_names n h refl,
  none_of (codes "p" ∷ []) n h refl,
  none_of (codes "a" ∷ []) n h refl,
  none_of (codes "button" ∷ []) n h refl,
  none_of (codes "form" ∷ []) n h refl,
  none_of (codes "nobr" ∷ []) n h refl,
  none_of (codes "li" ∷ []) n h refl,
  none_of (codes "ul" ∷ codes "ol" ∷ codes "menu" ∷ codes "dir" ∷ []) n h refl,
  none_of (codes "dd" ∷ codes "dt" ∷ []) n h refl,
  none_of (codes "dl" ∷ []) n h refl,
  none_of (codes "select" ∷ []) n h refl,
  none_of (codes "optgroup" ∷ []) n h refl,
  none_of (codes "option" ∷ []) n h refl,
  none_of block_names n h refl,
) refl

outside_tables : (n : List ℕ) → is_among names n ≡ false → known_in_table n ≡ Other
unfolding names known_in_table
outside_tables n h = rw (
  none_of (codes "table" ∷ []) n h refl,
  none_of (codes "caption" ∷ []) n h refl,
  none_of (codes "colgroup" ∷ []) n h refl,
  none_of (codes "thead" ∷ codes "tbody" ∷ codes "tfoot" ∷ []) n h refl,
  none_of (codes "tr" ∷ []) n h refl,
  none_of (codes "td" ∷ codes "th" ∷ []) n h refl,
  none_of (codes "col" ∷ []) n h refl,
) (other n h)

unknown : (n : List ℕ) → is_among names n ≡ false → known_name n ≡ Other
unfolding names known_name
unknown n h = rw (
  none_of outside_names n h refl,
  none_of raw_text_names n h refl,
  none_of (codes "xmp" ∷ []) n h refl,
  none_of (codes "noscript" ∷ []) n h refl,
  none_of (codes "title" ∷ codes "textarea" ∷ []) n h refl,
) (outside_tables n h)

none_among : (n : List ℕ) → HasNoTag n → (ts : List Tag) → is_among (map tag_text ts) n ≡ false
none_among n h [] = refl
none_among n h (t ∷ ts) = rw (h t) (none_among n h ts)

-- a name without a tag is no known one
pub unknown_name : (n : List ℕ) → HasNoTag n → known_name n ≡ Other
unfolding names
unknown_name n h = unknown n (none_among n h known_tags)

absent : (q : KnownName → Bool) (passes : List ℕ → Bool) → q Other ≡ false
    → list_all (λ m. not (q (known_name m)) || passes m) names ≡ true
    → (n : List ℕ) → passes n ≡ false → q (known_name n) ≡ false
absent q passes o l n e =
    test (is_among names n)
    (λ t. let w = among_passes (λ m. not (q (known_name m)) || passes m) names n t l in
    never (q (known_name n)) (rw e at w))
    (λ f. rw (unknown n f) o)
  where
    never : (b : Bool) → (not b || false) ≡ true → b ≡ false
    never true h = cc
    never false h = refl

-- a question that has the same answer at each of the names
answers : (some : List (List ℕ)) (q : KnownName → Bool) → q Other ≡ false
    → list_all (λ m. q (known_name m)) some ≡ true
    → list_all (λ m. not (q (known_name m)) || is_among some m) names ≡ true
    → (n : List ℕ) → q (known_name n) ≡ is_among some n
answers some q o l k n =
    test (is_among some n) (λ t. among_passes (λ m. q (known_name m)) some n t l ∙ sym t)
    (λ f. absent q (is_among some) o k n f ∙ sym f)

pub outside-is : (n : List ℕ) → is Outside (known_name n) ≡ is_among (codes "html" ∷
    codes "head" ∷ codes "body" ∷ codes "frameset" ∷ codes "frame" ∷ codes "template" ∷
    codes "plaintext" ∷ codes "listing" ∷ codes "image" ∷ []) n
unfolding names known_name known_in_table known_by_itself
outside-is n =
    answers (codes "html" ∷ codes "head" ∷ codes "body" ∷ codes "frameset" ∷ codes "frame" ∷
    codes "template" ∷ codes "plaintext" ∷ codes "listing" ∷ codes "image" ∷ [])
    (is Outside) refl refl refl n

pub raw_text-is : (n : List ℕ) → holds_raw_text (known_name n) ≡ is_among (codes "script" ∷
    codes "style" ∷ codes "iframe" ∷ codes "noembed" ∷ codes "noframes" ∷ codes "xmp" ∷ []) n
unfolding names known_name known_in_table known_by_itself
raw_text-is n =
    answers (codes "script" ∷ codes "style" ∷ codes "iframe" ∷ codes "noembed" ∷ codes "noframes" ∷
    codes "xmp" ∷ [])
    holds_raw_text refl refl refl n

pub no_script-is : (n : List ℕ) → is NoScript (known_name n) ≡ is_among (codes "noscript" ∷ []) n
unfolding names known_name known_in_table known_by_itself
no_script-is n =
    answers (codes "noscript" ∷ [])
    (is NoScript) refl refl refl n

pub text-is : (n : List ℕ) → is Text (known_name n) ≡ is_among (codes "title" ∷
    codes "textarea" ∷ []) n
unfolding names known_name known_in_table known_by_itself
text-is n =
    answers (codes "title" ∷ codes "textarea" ∷ [])
    (is Text) refl refl refl n

pub closer-is : (n : List ℕ) → closes_paragraph (known_name n) ≡ is_among (codes "address" ∷
    codes "article" ∷ codes "aside" ∷ codes "blockquote" ∷ codes "center" ∷ codes "dd" ∷
    codes "details" ∷ codes "dialog" ∷ codes "dir" ∷ codes "div" ∷ codes "dl" ∷
    codes "dt" ∷ codes "fieldset" ∷ codes "figcaption" ∷ codes "figure" ∷ codes "footer" ∷
    codes "form" ∷ codes "h1" ∷ codes "h2" ∷ codes "h3" ∷ codes "h4" ∷ codes "h5" ∷
    codes "h6" ∷ codes "header" ∷ codes "hgroup" ∷ codes "hr" ∷ codes "li" ∷ codes "main" ∷
    codes "menu" ∷ codes "nav" ∷ codes "ol" ∷ codes "p" ∷ codes "pre" ∷ codes "search" ∷
    codes "section" ∷ codes "summary" ∷ codes "table" ∷ codes "ul" ∷ codes "xmp" ∷ []) n
unfolding names known_name known_in_table known_by_itself
closer-is n =
    answers (codes "address" ∷ codes "article" ∷ codes "aside" ∷ codes "blockquote" ∷
    codes "center" ∷ codes "dd" ∷ codes "details" ∷ codes "dialog" ∷ codes "dir" ∷ codes "div" ∷
    codes "dl" ∷ codes "dt" ∷ codes "fieldset" ∷ codes "figcaption" ∷ codes "figure" ∷
    codes "footer" ∷ codes "form" ∷ codes "h1" ∷ codes "h2" ∷ codes "h3" ∷ codes "h4" ∷
    codes "h5" ∷ codes "h6" ∷ codes "header" ∷ codes "hgroup" ∷ codes "hr" ∷ codes "li" ∷
    codes "main" ∷ codes "menu" ∷ codes "nav" ∷ codes "ol" ∷ codes "p" ∷ codes "pre" ∷
    codes "search" ∷ codes "section" ∷ codes "summary" ∷ codes "table" ∷ codes "ul" ∷ codes "xmp" ∷ [])
    closes_paragraph refl refl refl n

pub heading-is : (n : List ℕ) → is Heading (known_name n) ≡ is_among (codes "h1" ∷
    codes "h2" ∷ codes "h3" ∷ codes "h4" ∷ codes "h5" ∷ codes "h6" ∷ []) n
unfolding names known_name known_in_table known_by_itself
heading-is n =
    answers (codes "h1" ∷ codes "h2" ∷ codes "h3" ∷ codes "h4" ∷ codes "h5" ∷ codes "h6" ∷ [])
    (is Heading) refl refl refl n

pub paragraph-is : (n : List ℕ) → is P (known_name n) ≡ is_among (codes "p" ∷ []) n
unfolding names known_name known_in_table known_by_itself
paragraph-is n =
    answers (codes "p" ∷ [])
    (is P) refl refl refl n

pub anchor-is : (n : List ℕ) → is A (known_name n) ≡ is_among (codes "a" ∷ []) n
unfolding names known_name known_in_table known_by_itself
anchor-is n =
    answers (codes "a" ∷ [])
    (is A) refl refl refl n

pub button-is : (n : List ℕ) → is Button (known_name n) ≡ is_among (codes "button" ∷ []) n
unfolding names known_name known_in_table known_by_itself
button-is n =
    answers (codes "button" ∷ [])
    (is Button) refl refl refl n

pub form-is : (n : List ℕ) → is Form (known_name n) ≡ is_among (codes "form" ∷ []) n
unfolding names known_name known_in_table known_by_itself
form-is n =
    answers (codes "form" ∷ [])
    (is Form) refl refl refl n

pub nobr-is : (n : List ℕ) → is NoBr (known_name n) ≡ is_among (codes "nobr" ∷ []) n
unfolding names known_name known_in_table known_by_itself
nobr-is n =
    answers (codes "nobr" ∷ [])
    (is NoBr) refl refl refl n

pub item-is : (n : List ℕ) → is Li (known_name n) ≡ is_among (codes "li" ∷ []) n
unfolding names known_name known_in_table known_by_itself
item-is n =
    answers (codes "li" ∷ [])
    (is Li) refl refl refl n

pub item_list-is : (n : List ℕ) → is ItemList (known_name n) ≡ is_among (codes "ul" ∷
    codes "ol" ∷ codes "menu" ∷ codes "dir" ∷ []) n
unfolding names known_name known_in_table known_by_itself
item_list-is n =
    answers (codes "ul" ∷ codes "ol" ∷ codes "menu" ∷ codes "dir" ∷ [])
    (is ItemList) refl refl refl n

pub description-is : (n : List ℕ) → is Description (known_name n) ≡ is_among (codes "dd" ∷
    codes "dt" ∷ []) n
unfolding names known_name known_in_table known_by_itself
description-is n =
    answers (codes "dd" ∷ codes "dt" ∷ [])
    (is Description) refl refl refl n

pub description_list-is : (n : List ℕ) → is Dl (known_name n) ≡ is_among (codes "dl" ∷ []) n
unfolding names known_name known_in_table known_by_itself
description_list-is n =
    answers (codes "dl" ∷ [])
    (is Dl) refl refl refl n

pub select-is : (n : List ℕ) → is Select (known_name n) ≡ is_among (codes "select" ∷ []) n
unfolding names known_name known_in_table known_by_itself
select-is n =
    answers (codes "select" ∷ [])
    (is Select) refl refl refl n

pub option_group-is : (n : List ℕ) → is OptGroup (known_name n) ≡ is_among (codes "optgroup" ∷ []) n
unfolding names known_name known_in_table known_by_itself
option_group-is n =
    answers (codes "optgroup" ∷ [])
    (is OptGroup) refl refl refl n

pub option-is : (n : List ℕ) → is OptionTag (known_name n) ≡ is_among (codes "option" ∷ []) n
unfolding names known_name known_in_table known_by_itself
option-is n =
    answers (codes "option" ∷ [])
    (is OptionTag) refl refl refl n

pub part_of_select-is : (n : List ℕ) → is_part_of_select (known_name n) ≡ is_among (
    codes "optgroup" ∷ codes "option" ∷ []) n
unfolding names known_name known_in_table known_by_itself
part_of_select-is n =
    answers (codes "optgroup" ∷ codes "option" ∷ [])
    is_part_of_select refl refl refl n

pub table-is : (n : List ℕ) → is Table (known_name n) ≡ is_among (codes "table" ∷ []) n
unfolding names known_name known_in_table known_by_itself
table-is n =
    answers (codes "table" ∷ [])
    (is Table) refl refl refl n

pub table_part-is : (n : List ℕ) → is_table_part (known_name n) ≡ is_among (codes "caption" ∷
    codes "colgroup" ∷ codes "thead" ∷ codes "tbody" ∷ codes "tfoot" ∷ []) n
unfolding names known_name known_in_table known_by_itself
table_part-is n =
    answers (codes "caption" ∷ codes "colgroup" ∷ codes "thead" ∷ codes "tbody" ∷ codes "tfoot" ∷ [])
    is_table_part refl refl refl n

pub column_group-is : (n : List ℕ) → is ColGroup (known_name n) ≡ is_among (codes "colgroup" ∷ []) n
unfolding names known_name known_in_table known_by_itself
column_group-is n =
    answers (codes "colgroup" ∷ [])
    (is ColGroup) refl refl refl n

pub rows-is : (n : List ℕ) → is Rows (known_name n) ≡ is_among (codes "thead" ∷
    codes "tbody" ∷ codes "tfoot" ∷ []) n
unfolding names known_name known_in_table known_by_itself
rows-is n =
    answers (codes "thead" ∷ codes "tbody" ∷ codes "tfoot" ∷ [])
    (is Rows) refl refl refl n

pub parts-is : (n : List ℕ) → holds_parts (known_name n) ≡ is_among (codes "table" ∷
    codes "thead" ∷ codes "tbody" ∷ codes "tfoot" ∷ codes "tr" ∷ codes "colgroup" ∷ []) n
unfolding names known_name known_in_table known_by_itself
parts-is n =
    answers (codes "table" ∷ codes "thead" ∷ codes "tbody" ∷ codes "tfoot" ∷ codes "tr" ∷
    codes "colgroup" ∷ [])
    holds_parts refl refl refl n

pub row-is : (n : List ℕ) → is Row (known_name n) ≡ is_among (codes "tr" ∷ []) n
unfolding names known_name known_in_table known_by_itself
row-is n =
    answers (codes "tr" ∷ [])
    (is Row) refl refl refl n

pub cell-is : (n : List ℕ) → is Cell (known_name n) ≡ is_among (codes "td" ∷ codes "th" ∷ []) n
unfolding names known_name known_in_table known_by_itself
cell-is n =
    answers (codes "td" ∷ codes "th" ∷ [])
    (is Cell) refl refl refl n

pub column-is : (n : List ℕ) → is Col (known_name n) ≡ is_among (codes "col" ∷ []) n
unfolding names known_name known_in_table known_by_itself
column-is n =
    answers (codes "col" ∷ [])
    (is Col) refl refl refl n

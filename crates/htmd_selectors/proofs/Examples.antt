-- Selectors that are read, elements that they name, and parts of a small page.
use Rattle.std.proofs.Common.{◌≡◌, ℕ, true, false, Bool, List, [], ◌∷◌, Some, None, Ok, Err, refl}
use Rattle.std.specs.Prelude.{codes}
use Rattle.htmd_values.specs.ValueTrees.{ValueForest, text, comment, element, none, more}
use Rattle.htmd_selectors.specs.declared.selectors.Operator.{Operator}
use Rattle.htmd_selectors.specs.declared.selectors.Operator.TheVariants.{Equals, Includes, Dash, Prefix, Suffix}
use Rattle.htmd_selectors.specs.declared.selectors.Operator.TheVariants.{Substring}
use Rattle.htmd_selectors.specs.declared.matching.Counts.{Counts}
use Rattle.htmd_selectors.specs.declared.selectors.Peers.TheVariants.{All, SameName}
use Rattle.htmd_selectors.specs.declared.selectors.Relation.{Relation}
use Rattle.htmd_selectors.specs.declared.selectors.Relation.TheVariants.{Start, Same, Child, Below, Next, After}
use Rattle.htmd_selectors.specs.declared.selectors.SelectorError.TheVariants.{NoSelector, NoName, Unclosed, Unsupported}
use Rattle.htmd_selectors.specs.declared.selectors.Side.TheVariants.{First, Last}
use Rattle.htmd_selectors.specs.declared.series.Series.{Series}
use Rattle.htmd_selectors.specs.SelectorSteps.{Condition, is_any, is_type, has_class, has_id, has_attribute}
use Rattle.htmd_selectors.specs.SelectorSteps.{has_value, is_first, is_last, is_only, is_empty, is_root, asks, among}
use Rattle.htmd_selectors.specs.SelectorSteps.{is_nth, Step}
use Rattle.htmd_selectors.specs.Series.{has}
use Rattle.htmd_selectors.specs.SeriesReading.{series_of}
use Rattle.htmd_selectors.specs.Reading.{read, escaped_character, row_by, steps_of_text}
use Rattle.htmd_selectors.specs.Matching.{Element, Place, Level, compares, meets, passes, is_named}
use Rattle.htmd_selectors.specs.SelectedParts.{without, outermost}

abbrev step : Relation → Condition → Step
step relation condition = record { relation = relation; test = asks condition }

abbrev series : ℕ → Bool → ℕ → Bool → Series
series count falls offset is_below =
    record { step = count; falls = falls; offset = offset; is_below = is_below }

-- ---- selectors that are read

reads-compounds : steps_of_text (codes "Main>p.note, #a b") ≡ Ok (step Start (is_type (codes "Main"))
    ∷ step Child (is_type (codes "p")) ∷ step Same (has_class (codes "note")) ∷ step Start (has_id (codes "a"))
    ∷ step Below (is_type (codes "b")) ∷ [])
unfolding read
reads-compounds = refl

-- an attribute with a value, ASCII letters in either case or not
abbrev value : List ℕ → Operator → Bool → List ℕ → Condition
value name operator caseless wanted = has_value name (record { operator = operator; caseless = caseless }) wanted

reads-attributes : steps_of_text (codes "[ a = 'b c' ][d]") ≡ Ok (step Start (value (codes "a") Equals false
    (codes "b c")) ∷ step Same (has_attribute (codes "d")) ∷ [])
unfolding read
reads-attributes = refl

reads-nothing : steps_of_text [] ≡ Err (NoSelector 0)
unfolding read
reads-nothing = refl

reads-comma : steps_of_text (codes "a, ") ≡ Err (NoSelector 3)
unfolding read
reads-comma = refl

reads-digit : steps_of_text (codes "a.1b") ≡ Err (NoName 2)
unfolding read
reads-digit = refl

reads-any : steps_of_text (codes "a>*.b") ≡ Ok (step Start (is_type (codes "a")) ∷ step Child is_any
    ∷ step Same (has_class (codes "b")) ∷ [])
unfolding read
reads-any = refl

-- the case of the value of `rel` counts only by `s`
reads-flags : steps_of_text (codes "[a~=b i][rel^='c'][rel|=c s]") ≡ Ok (step Start (value (codes "a") Includes true
    (codes "b")) ∷ step Same (value (codes "rel") Prefix true (codes "c"))
    ∷ step Same (value (codes "rel") Dash false (codes "c")) ∷ [])
unfolding read
reads-flags = refl

-- the space after `\31` belongs to it
reads-escapes : steps_of_text (codes "#\\31 a.\\:b") ≡ Ok (step Start (has_id (codes "1a"))
    ∷ step Same (has_class (codes ":b")) ∷ [])
unfolding read escaped_character lib.Utf8.encode
reads-escapes = refl

reads-sign : steps_of_text (codes "[a~b]") ≡ Err (Unsupported 3)
unfolding read
reads-sign = refl

reads-bracket : steps_of_text (codes "[a b]") ≡ Err (Unclosed 3)
unfolding read
reads-bracket = refl

reads-open : steps_of_text (codes "[a='b") ≡ Err (Unclosed 5)
unfolding read
reads-open = refl

reads-not : steps_of_text (codes "a:NOT( .b , c[d] )") ≡ Ok (step Start (is_type (codes "a"))
    ∷ (record {
      relation = Same;
      test = among true ((has_class (codes "b") ∷ [])
          ∷ (is_type (codes "c") ∷ has_attribute (codes "d") ∷ []) ∷ []);
    }) ∷ [])
unfolding read
reads-not = refl

reads-open_group : steps_of_text (codes ":is(a,b") ≡ Err (Unclosed 7)
unfolding read
reads-open_group = refl

reads-combinator_in_group : steps_of_text (codes ":is(a b)") ≡ Err (Unsupported 6)
unfolding read
reads-combinator_in_group = refl

reads-siblings : steps_of_text (codes "a+b ~ c") ≡ Ok (step Start (is_type (codes "a"))
    ∷ step Next (is_type (codes "b")) ∷ step After (is_type (codes "c")) ∷ [])
unfolding read
reads-siblings = refl

reads-double_sibling : steps_of_text (codes "a+~b") ≡ Err (NoSelector 2)
unfolding read
reads-double_sibling = refl

reads-places : steps_of_text (codes "a:First-Child:only-child, :root") ≡ Ok (step Start (is_type (codes "a"))
    ∷ step Same (is_first All) ∷ step Same (is_only All) ∷ step Start is_root ∷ [])
unfolding read
reads-places = refl

reads-places_in_group : steps_of_text (codes ":not(a:last-child, :empty)") ≡ Ok ((record {
  relation = Start;
  test = among true ((is_type (codes "a") ∷ is_last All ∷ []) ∷ (is_empty ∷ []) ∷ []);
}) ∷ [])
unfolding read
reads-places_in_group = refl

-- `:nth-child(2n + 1)`, which `odd` stands for, and `:nth-last-child(-n+3)`
reads-series : steps_of_text (codes ":nth-child( 2N + 1 ):Nth-last-child(-n+3)") ≡ Ok (step Start
    (is_nth (row_by All First) (series 2 false 1 false))
    ∷ step Same (is_nth (row_by All Last) (series 1 true 3 false))
    ∷ [])
unfolding read
reads-series = refl

reads-of_type : steps_of_text (codes "p:first-of-type:Nth-Last-Of-Type(2)") ≡ Ok (step Start (is_type (codes "p"))
    ∷ step Same (is_first SameName) ∷ step Same (is_nth (row_by SameName Last) (series 0 false 2 false)) ∷ [])
unfolding read
reads-of_type = refl

reads-no_series : steps_of_text (codes "a:nth-child(2 n)") ≡ Err (Unsupported 12)
unfolding read
reads-no_series = refl

reads-series_of : steps_of_text (codes ":nth-child(1 of a)") ≡ Err (Unsupported 11)
unfolding read
reads-series_of = refl

reads-open_series : steps_of_text (codes ":nth-child(1") ≡ Err (Unclosed 12)
unfolding read
reads-open_series = refl

reads-colon : steps_of_text (codes "a:hover") ≡ Err (Unsupported 1)
unfolding read
reads-colon = refl

-- ---- places in a row

names-odd : series_of (codes "\tODD ") ≡ series_of (codes "2n+1")
names-odd = refl

names-even : series_of (codes "even") ≡ series_of (codes "2n")
names-even = refl

names-letter : series_of (codes "-n- 2") ≡ Some (series 1 true 2 true)
names-letter = refl

names-number : series_of (codes "-3") ≡ Some (series 0 false 3 true)
names-number = refl

names-great : series_of (codes "99999999999") ≡ Some (series 0 false 2147483647 false)
names-great = refl

names-space : series_of (codes "+ 2n") ≡ None
names-space = refl

names-two_signs : series_of (codes "2n+-1") ≡ None
names-two_signs = refl

names-no_number : series_of (codes "n+") ≡ None
names-no_number = refl

-- `2n+1` names 1, 3, 5 and so on
has-odd : has (series 2 false 1 false) 5 ≡ true
has-odd = refl

has-not_even : has (series 2 false 1 false) 4 ≡ false
has-not_even = refl

-- `3n-1` names 2, 5, 8 and so on
has-below : has (series 3 false 1 true) 5 ≡ true
has-below = refl

-- `-n+3` names 3, 2 and 1
has-falling : has (series 1 true 3 false) 1 ≡ true
has-falling = refl

has-beyond : has (series 1 true 3 false) 4 ≡ false
has-beyond = refl

has-one : has (series 0 false 3 false) 3 ≡ true
has-one = refl

has-none : has (series 1 true 1 true) 1 ≡ false
has-none = refl

-- ---- elements that are named

-- an element with text, so many elements before it and after it, and so many of its name
abbrev place : Counts → Counts → Place
place all named = record { among_all = all; of_type = named; holds_nothing = false; has_no_parent = false }

abbrev counts : ℕ → ℕ → Counts
counts before after = record { before = before; after = after }

abbrev paragraph : Element
paragraph = record {
  name = codes "p";
  attributes = record { name = codes "class"; value = codes " a\tbc" } ∷ [];
  place = place (counts 0 2) (counts 0 1);
}

meets-type : meets paragraph (is_type (codes "P")) ≡ true
meets-type = refl

meets-class : meets paragraph (has_class (codes "bc")) ≡ true
meets-class = refl

meets-class_case : meets paragraph (has_class (codes "A")) ≡ false
meets-class_case = refl

meets-class_part : meets paragraph (has_class (codes "b")) ≡ false
meets-class_part = refl

meets-attribute : meets paragraph (has_attribute (codes "CLASS")) ≡ true
meets-attribute = refl

meets-first : meets paragraph (is_first All) ≡ true
meets-first = refl

meets-last : meets paragraph (is_last All) ≡ false
meets-last = refl

meets-only : meets paragraph (is_only All) ≡ false
meets-only = refl

meets-nth : meets paragraph (is_nth (row_by All First) (series 0 false 1 false)) ≡ true
meets-nth = refl

meets-nth_last : meets paragraph (is_nth (row_by All Last) (series 0 false 2 false)) ≡ false
meets-nth_last = refl

meets-nth_last_of_type : meets paragraph (is_nth (row_by SameName Last) (series 0 false 2 false)) ≡ true
meets-nth_last_of_type = refl

-- ---- values

compares-equals : compares Equals true (codes "AB") (codes "ab") ≡ true
compares-equals = refl

compares-word : compares Includes false (codes "b") (codes "a\tb") ≡ true
compares-word = refl

compares-no_word : compares Includes false [] (codes "a  b") ≡ false
compares-no_word = refl

compares-language : compares Dash false (codes "en") (codes "en-GB") ≡ true
compares-language = refl

compares-other_language : compares Dash false (codes "en") (codes "eng") ≡ false
compares-other_language = refl

compares-prefix : compares Prefix false (codes "ab") (codes "abc") ≡ true
compares-prefix = refl

compares-suffix : compares Suffix false (codes "bc") (codes "abc") ≡ true
compares-suffix = refl

compares-long_suffix : compares Suffix false (codes "aab") (codes "ab") ≡ false
compares-long_suffix = refl

compares-part : compares Substring true (codes "B") (codes "abc") ≡ true
compares-part = refl

-- `:not(p, div)` and `:is(p, div)`, of a paragraph
passes-not : passes paragraph (among true ((is_type (codes "p") ∷ []) ∷ (is_type (codes "div") ∷ []) ∷ []))
    ≡ false
passes-not = refl

passes-is : passes paragraph (among false ((is_type (codes "div") ∷ []) ∷ (is_type (codes "p") ∷ []) ∷ []))
    ≡ true
passes-is = refl

abbrev plain : List ℕ → Element
plain name = record { name = name; attributes = []; place = place (counts 0 0) (counts 0 0) }

abbrev level : List ℕ → Level
level name = record { here = plain name; earlier = [] }

abbrev relations : Relation → List Step
relations relation = step Start (is_type (codes "main")) ∷ step relation (is_type (codes "p")) ∷ []

-- `main > p` and `main p`, of a paragraph in a section of `main`
named-child : is_named (relations Child) paragraph [] (level (codes "section") ∷ level (codes "main") ∷ [])
    ≡ false
named-child = refl

named-below : is_named (relations Below) paragraph [] (level (codes "section") ∷ level (codes "main") ∷ [])
    ≡ true
named-below = refl

-- `main + p` and `main ~ p`, of a paragraph after a section that is after `main`
named-next : is_named (relations Next) paragraph (plain (codes "section") ∷ plain (codes "main") ∷ []) [] ≡ false
named-next = refl

named-after : is_named (relations After) paragraph (plain (codes "section") ∷ plain (codes "main") ∷ []) [] ≡ true
named-after = refl

-- ---- parts of `<main><p>a<p>b</p></p></main><p>c</p>`

abbrev inner : ValueForest
inner = more (element (codes "p") [] (more (text (codes "b")) none)) none

abbrev outer : ValueForest
outer = more (element (codes "p") [] (more (text (codes "a")) inner)) none

abbrev last : ValueForest
last = more (element (codes "p") [] (more (text (codes "c")) none)) none

abbrev page : ValueForest
page = more (element (codes "main") [] outer) last

abbrev paragraphs : List Step
paragraphs = step Start (is_type (codes "p")) ∷ []

without-paragraphs : without paragraphs [] [] page ≡ more (element (codes "main") [] none) none
without-paragraphs = refl

-- trees of which each has an empty paragraph after it
abbrev apart : ValueForest → ValueForest
apart none = none
apart (more tree trees) = more tree (more (element (codes "p") [] none) (apart trees))

outermost-paragraphs : outermost paragraphs [] [] page
    ≡ apart (more (element (codes "p") [] (more (text (codes "a")) inner)) last)
outermost-paragraphs = refl

outermost-inner : outermost (step Start (is_type (codes "p")) ∷ step Child (is_type (codes "p")) ∷ []) [] [] page
    ≡ apart inner
outermost-inner = refl

outermost-next : outermost (relations Next) [] [] page ≡ apart last
outermost-next = refl

-- `:root`: a page has one such element; of several each is one
outermost-root : outermost (step Start is_root ∷ []) [] [] page ≡ apart page
outermost-root = refl

outermost-first : outermost (step Start (is_type (codes "p")) ∷ step Same (is_first All) ∷ []) [] [] page
    ≡ apart outer
outermost-first = refl

outermost-last : outermost (step Start (is_last All) ∷ []) [] [] page
    ≡ apart (more (element (codes "p") [] (more (text (codes "a")) inner)) last)
outermost-last = refl

-- ---- places among elements with the same name, of `<p>a</p><b></b><p>c</p><b></b>`

abbrev mixed : ValueForest
mixed = more (element (codes "p") [] (more (text (codes "a")) none))
    (more (element (codes "b") [] none)
    (more (element (codes "p") [] (more (text (codes "c")) none))
    (more (element (codes "b") [] none) none)))

outermost-first_of_type : outermost (step Start (is_first SameName) ∷ []) [] [] mixed
    ≡ apart (more (element (codes "p") [] (more (text (codes "a")) none)) (more (element (codes "b") [] none) none))
outermost-first_of_type = refl

outermost-last_of_type : outermost (step Start (is_type (codes "p")) ∷ step Same (is_last SameName) ∷ [])
    [] [] mixed
    ≡ apart last
outermost-last_of_type = refl

outermost-only_of_type : outermost (step Start (is_only SameName) ∷ []) [] [] mixed ≡ none
outermost-only_of_type = refl

-- ---- `:empty` of `<p><!--a--></p><p> </p>`

abbrev no_text : ValueForest
no_text = more (element (codes "p") [] (more (comment (codes "a")) none)) none

abbrev space : ValueForest
space = more (element (codes "p") [] (more (text (codes " ")) none)) none

outermost-empty : outermost (step Start is_empty ∷ []) [] []
    (more (element (codes "p") [] (more (comment (codes "a")) none)) space) ≡ apart no_text
outermost-empty = refl

-- ---- a match in a `pre`, and items

outermost-in_pre : outermost (step Start (is_type (codes "b")) ∷ []) [] []
    (more (element (codes "pre") [] (more (element (codes "i") []
    (more (element (codes "b") [] (more (text (codes "a")) none)) none)) none)) none)
    ≡ apart (more (element (codes "pre") [] (more (element (codes "b") [] (more (text (codes "a")) none)) none)) none)
outermost-in_pre = refl

abbrev items : ValueForest
items = more (element (codes "li") [] none) (more (element (codes "li") [] none) none)

outermost-items : outermost (step Start (is_type (codes "li")) ∷ []) [] [] (more (element (codes "ul") [] items) none)
    ≡ items
outermost-items = refl

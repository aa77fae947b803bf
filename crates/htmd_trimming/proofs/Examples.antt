-- Worked rows of what is asked of a page.
use Rattle.std.proofs.Common.{◌≡◌, ℕ, true, false, List, [], ◌∷◌, Some, None, refl}
use Rattle.std.specs.Prelude.{codes}
use Rattle.std.specs.Str.{chars}
use Rattle.htmd_lexical.specs.AttributePairs.{AttributePair}
use Rattle.htmd_values.specs.ValueTrees.{text, element, none, more}
use Rattle.htmd_nodes.specs.NumberedTrees.{NumberedTree, NumberedForest}
use Rattle.htmd_nodes.specs.NumberedTrees as page
use Rattle.htmd_trimming.specs.declared.asked.Asked.{Asked}
use Rattle.htmd_trimming.specs.declared.asked.Images.TheVariants.{Keep, Linked, Alt, Drop}
use Rattle.htmd_trimming.specs.Hidden.{is_hidden}
use Rattle.htmd_trimming.specs.Fates.{gone, said, kept, image_fate, fate_for}
use Rattle.htmd_trimming.specs.Formulas.{is_formula}
use Rattle.htmd_trimming.specs.Trimming.{trimmed, nothing}
use Rattle.htmd_trimming.specs.Titles.{holds_h1}
use lib.Utf8.{encode}

abbrev pair : List ℕ → List ℕ → AttributePair
pair name value = record { name = name; value = value }

abbrev one : List ℕ → List ℕ → List AttributePair
one name value = pair name value ∷ []

-- ---- hidden or not

hidden-alone : is_hidden (one (codes "hidden") []) ≡ true
hidden-alone = refl

hidden-until_found : is_hidden (one (codes "hidden") (codes "Until-Found")) ≡ false
hidden-until_found = refl

hidden-aria : is_hidden (one (codes "aria-hidden") (codes "TRUE")) ≡ true
hidden-aria = refl

hidden-aria_empty : is_hidden (one (codes "aria-hidden") []) ≡ false
hidden-aria_empty = refl

hidden-display : is_hidden (one (codes "style") (codes "color: red; Display : NONE ! important")) ≡ true
hidden-display = refl

hidden-visibility : is_hidden (one (codes "style") (codes "visibility:\thidden;")) ≡ true
hidden-visibility = refl

hidden-inline : is_hidden (one (codes "style") (codes "display:inline")) ≡ false
hidden-inline = refl

hidden-none : is_hidden [] ≡ false
hidden-none = refl

-- ---- formulas

abbrev math : NumberedForest → NumberedForest
math others = page.more (page.element 2 (codes "math") [] page.none) others

formula-alone : is_formula (page.more (page.text 1 (codes " ")) (math (page.more (page.comment 3 []) page.none)))
    ≡ true
unfolding chars
formula-alone = refl

formula-twice : is_formula (math (math page.none)) ≡ false
formula-twice = refl

formula-with_text : is_formula (math (page.more (page.text 3 (codes "a")) page.none)) ≡ false
unfolding chars
formula-with_text = refl

formula-none : is_formula page.none ≡ false
formula-none = refl

-- a hidden element stays if it holds one
formula-stays : fate_for (record nothing { visible = true }) None (codes "span") (one (codes "hidden") [])
    (math page.none) ≡ kept (one (codes "hidden") [])
formula-stays = refl

-- MediaWiki's image of a formula stays
image-of_formula : fate_for (record nothing { images = Alt }) None (codes "img")
    (one (codes "class") (codes "mwe-math-fallback-image-inline")) page.none
    ≡ kept (one (codes "class") (codes "mwe-math-fallback-image-inline"))
image-of_formula = refl

-- ---- images

abbrev data_image : List AttributePair
data_image = pair (codes "src") (codes " DATA:,x") ∷ pair (codes "alt") (codes "A") ∷ []

image-kept : image_fate Keep None data_image ≡ kept data_image
image-kept = refl

image-data : image_fate Linked None data_image ≡ said (codes "A")
unfolding chars encode
image-data = refl

-- what a picture gives is the address of a file
image-picture : image_fate Linked (Some (codes "b.png")) data_image ≡ kept data_image
unfolding chars encode
image-picture = refl

image-file : image_fate Linked None (one (codes "src") (codes "a.png")) ≡ kept (one (codes "src") (codes "a.png"))
unfolding chars encode
image-file = refl

image-text : image_fate Alt None data_image ≡ said (codes "A")
image-text = refl

image-gone : image_fate Drop None data_image ≡ gone
image-gone = refl

-- ---- links

abbrev links_as_text : Asked
links_as_text = record nothing { links_as_text = true }

link-text : fate_for links_as_text None (codes "a")
    (pair (codes "href") (codes "x") ∷ pair (codes "id") (codes "y") ∷ []) page.none
    ≡ kept (one (codes "id") (codes "y"))
unfolding chars encode
link-text = refl

video-text : fate_for links_as_text None (codes "video")
    (pair (codes "src") (codes "x") ∷ pair (codes "title") (codes "A") ∷ []) page.none ≡ said (codes "A")
unfolding chars
video-text = refl

video-unseen : fate_for links_as_text None (codes "video")
    (pair (codes "hidden") [] ∷ pair (codes "title") (codes "A") ∷ []) page.none ≡ said []
video-unseen = refl

-- what links a heading to itself says so without its address
link-sign : fate_for links_as_text None (codes "a") (one (codes "href") (codes "#x"))
    (page.more (page.text 1 (codes "#")) page.none) ≡ kept (one (codes "class") (codes "headerlink"))
unfolding chars encode
link-sign = refl

-- an image stays an image
image-no_link : fate_for links_as_text None (codes "img") (one (codes "src") (codes "x")) page.none
    ≡ kept (one (codes "src") (codes "x"))
image-no_link = refl

-- ---- pages

abbrev texts : Asked
texts = record nothing { visible = true; images = Alt }

-- `<p hidden>a</p><img><p>b<img alt=c></p>`
abbrev a_page : NumberedForest
a_page = page.more (page.element 1 (codes "p") (one (codes "hidden") [])
    (page.more (page.text 2 (codes "a")) page.none))
    (page.more (page.element 3 (codes "img") [] page.none)
    (page.more (page.element 4 (codes "p") [] (page.more (page.text 5 (codes "b"))
    (page.more (page.element 6 (codes "img") (one (codes "alt") (codes "c")) page.none) page.none))) page.none))

page-texts : trimmed texts None a_page
    ≡ more (element (codes "p") [] (more (text (codes "b")) (more (text (codes "c")) none))) none
unfolding chars
page-texts = refl

page-untitled : holds_h1 (page.document 0 a_page) ≡ false
page-untitled = refl

-- a `div` with an `h1` of these trees
abbrev under_heading : NumberedForest → NumberedTree
under_heading trees = page.document 0 (page.more (page.element 1 (codes "div") []
    (page.more (page.element 2 (codes "h1") [] trees) page.none)) page.none)

page-titled : holds_h1 (under_heading (page.more (page.text 3 (codes "a")) page.none)) ≡ true
unfolding chars
page-titled = refl

page-with_logo : holds_h1 (under_heading (page.more (page.element 3 (codes "img") [] page.none) page.none)) ≡ true
page-with_logo = refl

-- an `h1` that shows nothing is no title
page-without_logo : holds_h1 (under_heading (page.more (page.element 3 (codes "a") [] page.none) page.none)) ≡ false
page-without_logo = refl

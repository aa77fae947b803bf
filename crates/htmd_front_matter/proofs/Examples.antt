-- What a small page says of itself.
use Rattle.std.proofs.Common.{◌≡◌, ℕ, List, [], ◌∷◌, Some, None, refl}
use Rattle.std.specs.Prelude.{codes}
use Rattle.htmd_lexical.specs.AttributePairs.{AttributePair}
use Rattle.htmd_values.specs.ValueTrees.{ValueForest, document, text, element, none, more}
use Rattle.htmd_front_matter.specs.declared.values.Key.TheVariants.{Title, Date}
use Rattle.htmd_front_matter.specs.Sources.{title_text, language, canonical_link, named}
use Rattle.htmd_front_matter.specs.Values.{first_found, value_in}
use Rattle.htmd_front_matter.specs.Lines.{tidied}
use Rattle.htmd_front_matter.specs.Objects.{member, front_object}
use Rattle.htmd_nodes.specs.Items.{document_item}
use Rattle.htmd_nodes.specs.NumberedTrees.{tree_of, forest_from}
use Rattle.json.specs.Print.{escape_byte}

abbrev pair : List ℕ → List ℕ → AttributePair
pair name value = record { name = name; value = value }

-- `<html lang=en><title> A  b </title><meta name=DESCRIPTION content=c></html>`
abbrev page : ValueForest
page = more (element (codes "html") (pair (codes "lang") (codes "en") ∷ [])
    (more (element (codes "title") [] (more (text (codes " A  b ")) none))
    (more (element (codes "meta") (pair (codes "name") (codes "DESCRIPTION") ∷ pair (codes "content") (codes "c")
    ∷ []) none) none))) none

value-title : first_found title_text page ≡ Some (codes " A  b ")
value-title = refl

-- `<svg><title>Menu</title></svg><title>T</title>`
value-not_of_icon : first_found title_text
    (more (element (codes "svg") [] (more (element (codes "title") [] (more (text (codes "Menu")) none)) none))
    (more (element (codes "title") [] (more (text (codes "T")) none)) none)) ≡ Some (codes "T")
value-not_of_icon = refl

value-lang : first_found language page ≡ Some (codes "en")
value-lang = refl

value-description : first_found (named (codes "description")) page ≡ Some (codes "c")
value-description = refl

value-canonical : first_found canonical_link page ≡ None
value-canonical = refl

-- `<meta itemprop=datePublished content=2><meta property=article:published_time content=1>`
abbrev published : ValueForest
published = more (element (codes "meta") (pair (codes "itemprop") (codes "datePublished")
    ∷ pair (codes "content") (codes "2") ∷ []) none)
    (more (element (codes "meta") (pair (codes "property") (codes "article:published_time")
    ∷ pair (codes "content") (codes "1") ∷ []) none) none)

-- the first source counts, wherever it stands
value-date : value_in Date (document published) ≡ Some (codes "1")
value-date = refl

-- `name=date` before all others
value-date_by_name : value_in Date (document (more (element (codes "div") [] published)
    (more (element (codes "meta") (pair (codes "name") (codes "date") ∷ pair (codes "content") (codes "3") ∷ [])
    none) none))) ≡ Some (codes "3")
value-date_by_name = refl

tidied-title : tidied (codes " A \n b ") ≡ codes "A b"
tidied-title = refl

member-title : member Title (codes " A  \"b\" ") ≡ codes "\"title\":\"A \\\"b\\\"\""
unfolding escape_byte
member-title = refl

-- a page that says nothing
object-empty : front_object (document_item ∷ []) ≡ codes "{}"
unfolding tree_of forest_from
object-empty = refl

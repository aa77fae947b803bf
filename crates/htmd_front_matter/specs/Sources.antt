-- Where a page says something of itself.
use Rattle.std.specs.Prelude.{ℕ, List, [], ◌∷◌, codes}
use Rattle.htmd_front_matter.specs.declared.values.Key.{Key}
use Rattle.htmd_front_matter.specs.declared.values.Key.TheVariants.{Title, Lang, Description, Author, Date, Canonical}
use Rattle.htmd_front_matter.specs.declared.values.Key.TheVariants.{Keywords}
use Rattle.htmd_front_matter.specs.declared.sources.Source as code
use Rattle.htmd_front_matter.specs.declared.sources.Source.TheVariants as form

-- the text of `title`, `lang` of `html`, `href` of `link rel=canonical`, `content` of `<meta ATTRIBUTE=WORD>`
pub data Source : Type 0 where
  title_text : Source
  language : Source
  canonical_link : Source
  meta : (attribute : List ℕ) (word : List ℕ) → Source

-- `<meta name=.. content=..>` (HTML, 4.2.5)
abbrev pub named : List ℕ → Source
named word = meta (codes "name") word

-- a date: as HTML, Open Graph and schema.org say it, and Dublin Core in HTML
abbrev pub dates : List Source
dates = named (codes "date") ∷ meta (codes "property") (codes "article:published_time")
    ∷ meta (codes "itemprop") (codes "datePublished") ∷ named (codes "dcterms.date")
    ∷ named (codes "dc.date") ∷ []

-- the sources of a key; the first one that says something counts
abbrev pub sources : Key → List Source
sources Title = title_text ∷ []
sources Lang = language ∷ []
sources Description = named (codes "description") ∷ []
sources Author = named (codes "author") ∷ []
sources Date = dates
sources Canonical = canonical_link ∷ []
sources Keywords = named (codes "keywords") ∷ []

-- a source of the code
abbrev pub source_of : code.Source → Source
source_of form.Title = title_text
source_of form.Language = language
source_of form.CanonicalLink = canonical_link
source_of (form.Meta attribute word) = meta attribute.now word.now

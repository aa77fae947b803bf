-- What a page says is its main content.
use Rattle.std.specs.Prelude.{ℕ, ◌+◌, ◌*◌, Bool, not, ◌==◌, nat_lt, if◌then◌else◌, List, []}
use Rattle.std.specs.Prelude.{◌∷◌, ◌++◌, length, Option, Some, None}
use Rattle.htmd_article.specs.declared.outermost.Landmark.{Landmark}
use Rattle.htmd_article.specs.declared.outermost.Landmark.TheVariants as landmark
use Rattle.htmd_article.specs.Parts.{Part, facts_in}
use Rattle.htmd_article.specs.Outermost.{outermost}

-- the main part, else the body of an article, if there is just one
abbrev pub said_by : Part → Option Landmark
said_by body =
    if not (length (outermost landmark.Main body) == 0) then Some landmark.Main
    else if length (outermost landmark.ArticleBody body) == 1 then Some landmark.ArticleBody else None

-- the parts of a body that it says so of; the body, if it says nothing
abbrev pub said_parts : Option Landmark → Part → List Part
said_parts None body = body ∷ []
said_parts (Some mark) body = outermost mark body

-- how many letters of prose are in parts
abbrev pub prose_in : List Part → ℕ
prose_in [] = 0
prose_in (p ∷ ps) = (facts_in p).prose + prose_in ps

abbrev pub articles_in : List Part → List Part
articles_in [] = []
articles_in (p ∷ ps) = outermost landmark.Article p ++ articles_in ps

-- more than half of a whole
abbrev pub is_large : ℕ → ℕ → Bool
is_large whole prose = nat_lt whole (2 * prose)

abbrev pub first_large : ℕ → List Part → Option Part
first_large whole [] = None
first_large whole (p ∷ ps) = if is_large whole (facts_in p).prose then Some p else first_large whole ps

-- the outermost article in parts that has more than half of so many letters; if they have no more, there is one at most
abbrev pub large_article : ℕ → List Part → Option Part
large_article whole ps = first_large whole (articles_in ps)

-- The names of the elements that raw tags begin.
use Rattle.std.proofs.Common.{ℕ, List, [], ◌∷◌, codes}

abbrev pub raw_names : List (List ℕ)
raw_names =
    codes "em" ∷ codes "strong" ∷ codes "del" ∷ codes "sup" ∷ codes "sub" ∷ codes "ins" ∷ codes "u"
    ∷ codes "mark" ∷ codes "small" ∷ codes "kbd" ∷ codes "code" ∷ codes "abbr" ∷ codes "a" ∷ []

-- the names of elements around blocks, and of the section in a table
abbrev pub flow_names : List (List ℕ)
flow_names =
    codes "details" ∷ codes "summary" ∷ codes "dl" ∷ codes "dt" ∷ codes "dd" ∷ codes "figure"
    ∷ codes "figcaption" ∷ codes "table" ∷ codes "caption" ∷ codes "tr" ∷ codes "td" ∷ codes "th"
    ∷ codes "tbody" ∷ []

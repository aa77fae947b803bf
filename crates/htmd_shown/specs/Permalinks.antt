-- Links of one sign to the place that they stand in.
use Rattle.std.specs.Prelude.{Bool, ◌||◌, ◌&&◌, if◌then◌else◌, List, codes}
use Rattle.htmd_lexical.specs.AttributePairs.{AttributePair}
use Rattle.htmd_shown.specs.Attributes.{value_of, leads_to_part}
use Rattle.htmd_shown.specs.ClassWords.{has_class, permalink_words}
use Rattle.htmd_shown.specs.Marks.{is_mark, is_sign, is_usual_sign}
use Rattle.htmd_shown.specs.SimpleTrees.{Simples}

-- in a heading or the like by its class or its address, elsewhere by both
abbrev pub is_permalink : Bool → List AttributePair → Simples → Bool
is_permalink in_head attributes content =
    let is_near = leads_to_part (value_of (codes "href") attributes) && is_mark is_usual_sign content in
    let is_known = has_class permalink_words attributes in
    if in_head then (is_known && is_mark is_sign content) || is_near else is_known && is_near

-- Elements that hold a formula and nothing else.
use Rattle.std.specs.Prelude.{Bool, true, false, not, ◌&&◌, if◌then◌else◌, codes}
use Rattle.std.specs.Str.{bytes_eq}
use Rattle.htmd_nodes.specs.NumberedTrees.{NumberedTree, text, comment, element, NumberedForest, none, more}
use Rattle.htmd_shown.specs.Spaces.{is_blank_text}

abbrev pub is_blank : NumberedTree → Bool
is_blank (text id s) = is_blank_text s
is_blank (comment id s) = true
is_blank _ = false

abbrev pub is_math : NumberedTree → Bool
is_math (element id name attributes children) = bytes_eq name (codes "math")
is_math _ = false

-- one `math` and no other is among blank texts and comments; found: it came before these
abbrev pub holds_math : Bool → NumberedForest → Bool
holds_math found none = found
holds_math found (more tree trees) =
    if is_blank tree then holds_math found trees else (not found && is_math tree && holds_math true trees)

abbrev pub is_formula : NumberedForest → Bool
is_formula children = holds_math false children

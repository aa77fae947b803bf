-- What a whole conversion gives: the Markdown of a node.
use Rattle.std.specs.Prelude.{ℕ, List, [], ◌∷◌, ◌++◌, Option, Some, None}
use Rattle.htmd_text.specs.Trims.{trimmed_text, trimmed_end, is_line_feed}
use Rattle.htmd_nodes.specs.Items.{Item}
use Rattle.htmd_nodes.specs.NumberedTrees.{tree_of, height}
use Rattle.htmd_walk.specs.Handling.{HandlerMeaning}
use Rattle.htmd_walk.specs.Choice.{Config}
use Rattle.htmd_walk.specs.Outputs.{conversion_of, Output}
use Rattle.htmd_walk.specs.Children.{content_alone}
use Rattle.htmd_walk.specs.Rendering.{written_within}

abbrev pub append_text : Option (List ℕ) → List ℕ
append_text None = []
append_text (Some s) = s

-- the texts that handlers put after a conversion, in order of registration
abbrev pub append_texts : List HandlerMeaning → List (List ℕ) → List ℕ
append_texts [] definitions = []
append_texts (handler ∷ handlers) definitions = append_text (handler.append definitions)
    ++ append_texts handlers definitions

-- the node that is handed over by itself, with no definitions yet
abbrev pub walked_node : Config → List Item → ℕ → Output
walked_node config items start =
    let conversion = conversion_of config items in
    let tree = tree_of items start in
    content_alone (written_within (height tree) conversion) conversion tree start []

-- the content without line feeds at its ends, before anything is put after it
abbrev pub walked_content : Config → List Item → ℕ → List ℕ
walked_content config items start = trimmed_text is_line_feed (walked_node config items start).text

-- that content, and then the texts of the handlers without the final line feeds
unfoldable pub markdown : Config → List Item → ℕ → List ℕ
markdown config items start =
    walked_content config items start
    ++ trimmed_end is_line_feed (append_texts config.handlers (walked_node config items start).definitions)

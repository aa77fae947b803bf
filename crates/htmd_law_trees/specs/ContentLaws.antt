-- The laws of the conversion.
use Rattle.std.specs.Prelude.{◌≡◌, ℕ, List, [], ◌∷◌, length}
use Rattle.std.specs.List.{prefix_len, suffix_len}
use Rattle.htmd_text.specs.Trims.{is_line_feed}
use Rattle.htmd_nodes.specs.Items.{Item}
use Rattle.htmd_walk.specs.Handling.{HandlerMeaning}
use Rattle.htmd_walk.specs.Choice.{Config, indexes, with_handler}
use Rattle.htmd_walk.specs.Markdown.{walked_content}

-- The content of a node, before anything is put after it, neither begins nor ends with a line feed.
abbrev pub ContentIsTrimmed : Type 0
ContentIsTrimmed =
    (config : Config) (items : List Item) (start : ℕ)
    → (prefix_len is_line_feed (walked_content config items start) ≡ 0)
    × (suffix_len is_line_feed (walked_content config items start) ≡ 0)

-- A handler that is registered for a tag twice is asked twice, before all that were registered earlier.
abbrev pub RepeatsAreKept : Type 0
RepeatsAreKept =
    (config : Config) (tag : List ℕ) (handler : HandlerMeaning)
    → indexes tag (with_handler config (tag ∷ tag ∷ []) handler).registered
    ≡ length config.handlers ∷ length config.handlers ∷ indexes tag config.registered

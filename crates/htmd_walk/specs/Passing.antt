-- Where the walk may go past an element's handlers: what they would give is known without asking them.
use Rattle.std.specs.Prelude.{◌≡◌, ℕ, Bool, true, false, if◌then◌else◌, List, [], ◌∷◌}
use Rattle.htmd_text.specs.Trims.{trimmed_text, is_line_feed}
use Rattle.htmd_nodes.specs.Items.{Data, document_node, doctype_node, text_node, comment_node, element_node}
use Rattle.htmd_walk.specs.Handling.{HandlerMeaning}
use Rattle.htmd_walk.specs.Choice.{Config, indexes, handlers_at}
use Rattle.htmd_walk.specs.Outputs.{is_markdown_alone}
use Rattle.htmd_walk.specs.Spans.{spans, is_span, has_math_class}

-- a tag without handlers; or a `span` with only the built-in one, whose attributes aren't those of a formula
abbrev pub IsPlain : List HandlerMeaning → Bool → Bool → Type 0
IsPlain handlers true has_math_class = (handlers ≡ spans ∷ []) × (has_math_class ≡ false)
IsPlain handlers false has_math_class = handlers ≡ []

abbrev pub IsPassed : Config → Data → Type 0
IsPassed config (element_node name attributes) =
    (is_markdown_alone config.options ≡ true)
    × IsPlain (handlers_at config.handlers (indexes name config.registered)) (is_span name) (has_math_class attributes)
IsPassed config document_node = ⊥
IsPassed config doctype_node = ⊥
IsPassed config (text_node s) = ⊥
IsPassed config (comment_node s) = ⊥

-- what is handed on of a content: all of it, or that of a `span` without line feeds at its ends if it isn't kept whole
abbrev pub passed_text : Bool → Bool → List ℕ → List ℕ
passed_text is_span whole s = if is_span then (if whole then s else trimmed_text is_line_feed s) else s

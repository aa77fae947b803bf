-- What holds for every handler: if it adds no definition, the definitions so far don't matter.
use Rattle.std.specs.Prelude.{◌≡◌, ℕ, List, []}
use Rattle.htmd_walk.specs.Handling.{ElementView, ResultView, HandlerMeaning}
use Rattle.htmd_walk.specs.Choice.{Config, handler_at}

-- if a handler adds no definition, it finishes alike whatever the definitions so far
abbrev pub HandlerStays : HandlerMeaning → Type 0
HandlerStays handler = (view : ElementView) (content : ResultView) (definitions others : List (List ℕ))
    → (handler.finish view content definitions).added ≡ []
    → handler.finish view content others ≡ handler.finish view content definitions

abbrev pub HandlersStay : Config → Type 0
HandlersStay config = (index : ℕ) → HandlerStays (handler_at config.handlers index)

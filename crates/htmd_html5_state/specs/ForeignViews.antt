-- What the program's answer on an end tag in foreign content is.
use Rattle.std.specs.Prelude.{◌-◌, List, drop, length}
use Rattle.htmd_html5_state.specs.Foreign.{ForeignEnd, by_mode, closed_to, nothing}
use Rattle.htmd_html5_state.specs.OpenElements.{OpenValue}
use Rattle.htmd_html5_state.specs.declared.foreign.ForeignEnd.{ForeignEnd as Answer}
use Rattle.htmd_html5_state.specs.declared.foreign.ForeignEnd.TheVariants.{ByMode, Closes, Nothing}

-- this many outermost elements of this stack stay open
abbrev pub end_of : List OpenValue → Answer → ForeignEnd
end_of stack ByMode = by_mode
end_of stack (Closes len) = closed_to (drop (length stack - len) stack)
end_of stack Nothing = nothing

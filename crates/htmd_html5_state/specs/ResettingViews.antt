-- How the program finds the element that decides the insertion mode.
use Rattle.std.specs.Prelude.{◌≡◌, List, [], ◌∷◌}
use Rattle.htmd_html5_state.specs.Names.{ElementNameValue, html, known}
use Rattle.htmd_html5_state.specs.OpenElements.{OpenValue}
use Rattle.htmd_html5_state.specs.Resetting.{select_mode}
use Rattle.htmd_html5_state.specs.declared.names.TagName.{TagName}
use Rattle.htmd_html5_state.specs.declared.names.TagName.TheVariants.{Body, Caption, ColGroup, FrameSet, Head, Html}
use Rattle.htmd_html5_state.specs.declared.names.TagName.TheVariants.{Select, Table, TBody, Td, Template, TFoot, Th}
use Rattle.htmd_html5_state.specs.declared.names.TagName.TheVariants.{THead, Tr}

-- the names of elements that may have a mode
abbrev pub deciding : List TagName
deciding =
    Select ∷ Td ∷ Th ∷ Tr ∷ TBody ∷ THead ∷ TFoot ∷ Caption ∷ ColGroup ∷ Table ∷ Template ∷ Head
    ∷ Body ∷ FrameSet
    ∷ Html ∷ []

-- a `select` has the same mode by what is around it as by all that is open
abbrev pub IsSelectMode : TagName → List OpenValue → List OpenValue → Type 0
IsSelectMode Select outer stack = select_mode stack ≡ select_mode outer
IsSelectMode _ outer stack = Unit {0}

abbrev pub IsSelectModeOf : ElementNameValue → List OpenValue → List OpenValue → Type 0
IsSelectModeOf (html (known tag)) outer stack = IsSelectMode tag outer stack
IsSelectModeOf _ outer stack = Unit {0}

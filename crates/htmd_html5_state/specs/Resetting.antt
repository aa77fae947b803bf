-- The insertion mode is reset appropriately (HTML Standard, 13.2.4.1).
use Rattle.std.specs.Prelude.{Bool, true, false, if◌then◌else◌, List, [], ◌∷◌, Option, Some, None, unwrap_or, is_some}
use Rattle.htmd_html5_state.specs.Names.{ElementNameValue, html, svg, math, known, other}
use Rattle.htmd_html5_state.specs.OpenElements.{OpenValue, is_in_scope}
use Rattle.htmd_html5_state.specs.State.{StateValue}
use Rattle.htmd_html5_state.specs.declared.names.TagName.{TagName}
use Rattle.htmd_html5_state.specs.declared.names.TagName.TheVariants.{Body, Caption, ColGroup, FrameSet, Head, Html}
use Rattle.htmd_html5_state.specs.declared.names.TagName.TheVariants.{Select, Table, TBody, Td, Template, TFoot, Th}
use Rattle.htmd_html5_state.specs.declared.names.TagName.TheVariants.{THead, Tr}
use Rattle.htmd_html5_state.specs.declared.sets.NameSet.TheVariants.{Only}
use Rattle.htmd_html5_state.specs.declared.sets.Scope.TheVariants.{Template as TemplateScope}
use Rattle.htmd_html5_state.specs.declared.modes.InsertionMode.{InsertionMode}
use Rattle.htmd_html5_state.specs.declared.modes.InsertionMode.TheVariants.{BeforeHead, InHead, AfterHead, InBody}
use Rattle.htmd_html5_state.specs.declared.modes.InsertionMode.TheVariants.{InTable, InCaption, InColumnGroup}
use Rattle.htmd_html5_state.specs.declared.modes.InsertionMode.TheVariants.{InTableBody, InRow, InCell, InSelect}
use Rattle.htmd_html5_state.specs.declared.modes.InsertionMode.TheVariants.{InSelectInTable, InFrameset}

-- the innermost template insertion mode
abbrev pub template_mode : List InsertionMode → InsertionMode
template_mode [] = InBody
template_mode (mode ∷ modes) = mode

abbrev pub has_modes : List InsertionMode → Bool
has_modes [] = false
has_modes (mode ∷ modes) = true

abbrev pub push_template_mode : InsertionMode → StateValue → StateValue
push_template_mode mode s = record s { template_modes = mode ∷ s.template_modes }

abbrev pub pop_modes : List InsertionMode → List InsertionMode
pop_modes [] = []
pop_modes (mode ∷ modes) = modes

abbrev pub pop_template_mode : StateValue → StateValue
pop_template_mode s = record s { template_modes = pop_modes s.template_modes }

-- a `select` in a table, with no `template` between
abbrev pub select_mode : List OpenValue → InsertionMode
select_mode outer = if is_in_scope (Only Table) TemplateScope outer then InSelectInTable else InSelect

abbrev pub unless_outermost : InsertionMode → List OpenValue → Option InsertionMode
unless_outermost mode [] = None
unless_outermost mode (e ∷ es) = Some mode

abbrev pub html_mode : StateValue → InsertionMode
html_mode s = if is_some s.head then AfterHead else BeforeHead

-- the mode for an element with this name, with what is open around it
abbrev pub mode_for : TagName → List OpenValue → StateValue → Option InsertionMode
mode_for Select outer s = Some (select_mode outer)
mode_for Td outer s = unless_outermost InCell outer
mode_for Th outer s = unless_outermost InCell outer
mode_for Tr outer s = Some InRow
mode_for TBody outer s = Some InTableBody
mode_for THead outer s = Some InTableBody
mode_for TFoot outer s = Some InTableBody
mode_for Caption outer s = Some InCaption
mode_for ColGroup outer s = Some InColumnGroup
mode_for Table outer s = Some InTable
mode_for Template outer s = Some (template_mode s.template_modes)
mode_for Head outer s = unless_outermost InHead outer
mode_for Body outer s = Some InBody
mode_for FrameSet outer s = Some InFrameset
mode_for Html outer s = Some (html_mode s)
mode_for _ outer s = None

abbrev pub mode_for_name : ElementNameValue → List OpenValue → StateValue → Option InsertionMode
mode_for_name (html (known tag)) outer s = mode_for tag outer s
mode_for_name (html (other name)) outer s = None
mode_for_name (svg name) outer s = None
mode_for_name (math name) outer s = None

-- that of the innermost element which has one
abbrev pub mode_of : List OpenValue → StateValue → InsertionMode
mode_of [] s = InBody
mode_of (e ∷ es) s = unwrap_or (mode_for_name e.name es s) (mode_of es s)

abbrev pub reset_insertion_mode : StateValue → StateValue
reset_insertion_mode s = record s { mode = mode_of s.stack s }

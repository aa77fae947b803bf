-- What each mode does with a run of a text: it is left out, put where the text goes, treated as in the body or before a
-- table, or the mode is left.
use Rattle.std.proofs.Common.{List, ℕ}
use Rattle.htmd_html5.specs.InBody.{run_in_body}
use Rattle.htmd_html5.specs.InTable.{fostered}
use Rattle.htmd_html5.specs.Modes.{in_mode}
use Rattle.htmd_html5.specs.Outcomes.{Outcome, done}
use Rattle.htmd_html5.specs.Runs.{first_kind, kind_of_byte}
use Rattle.htmd_html5.specs.Tokens.{end_of_file, run}
use Rattle.htmd_law_html5.proofs.RuleBook.{back_to_body, end_of_file_in, ignore, leave_columns}
use Rattle.htmd_law_html5.proofs.RuleWalk.{tag_of}
use Rattle.htmd_law_html5.proofs.Rules.{Reply, reply_of}
use Rattle.htmd_law_html5.proofs.TakingRuns.{by_first_kind}
use Rattle.htmd_html5_state.specs.Insertion.{insert_text}
use Rattle.htmd_html5_state.specs.State.{StateValue}
use Rattle.htmd_html5_state.specs.declared.modes.InsertionMode.{InsertionMode}
use Rattle.htmd_html5_state.specs.declared.modes.InsertionMode.TheVariants.{AfterAfterBody, AfterAfterFrameset}
use Rattle.htmd_html5_state.specs.declared.modes.InsertionMode.TheVariants.{AfterBody, AfterFrameset, AfterHead}
use Rattle.htmd_html5_state.specs.declared.modes.InsertionMode.TheVariants.{BeforeHead, BeforeHtml, InBody, InCaption}
use Rattle.htmd_html5_state.specs.declared.modes.InsertionMode.TheVariants.{InCell, InColumnGroup, InFrameset, InHead}
use Rattle.htmd_html5_state.specs.declared.modes.InsertionMode.TheVariants.{InHeadNoscript, InRow, InSelect}
use Rattle.htmd_html5_state.specs.declared.modes.InsertionMode.TheVariants.{InSelectInTable, InTable, InTableBody}
use Rattle.htmd_html5_state.specs.declared.modes.InsertionMode.TheVariants.{InTemplate, Initial}

-- how a mode is left, after which the run is processed again
abbrev pub leave_in : InsertionMode → Reply
leave_in Initial = end_of_file_in Initial
leave_in BeforeHtml = end_of_file_in BeforeHtml
leave_in BeforeHead = end_of_file_in BeforeHead
leave_in InHead = end_of_file_in InHead
leave_in InHeadNoscript = end_of_file_in InHeadNoscript
leave_in AfterHead = end_of_file_in AfterHead
leave_in InColumnGroup = leave_columns
leave_in AfterBody = back_to_body
leave_in AfterAfterBody = back_to_body
leave_in _ = ignore

-- what holds of each of these
pub record RunSteps (A : InsertionMode → (StateValue → Outcome) → Type 0) (t : List ℕ) : Type 0 where
  pub left_out : (mode : InsertionMode) → A mode (λ s. done s)
  pub put : (mode : InsertionMode) → A mode (λ s. done (insert_text t s))
  pub body : (mode : InsertionMode) (b : ℕ) → A mode (λ s. done (run_in_body (kind_of_byte b) t s))
  pub table : (mode : InsertionMode) (b : ℕ) → A mode (λ s. done (fostered (run_in_body (kind_of_byte b) t) s))
  pub leave : (mode : InsertionMode) → A mode (reply_of (leave_in mode) (tag_of end_of_file))

module _ (A : InsertionMode → (StateValue → Outcome) → Type 0) (t : List ℕ) (h : RunSteps A t) where
  -- a run of white space, of U+0000 and of other characters
  abbrev RunsHold : InsertionMode → Type 0
  RunsHold mode =
      A mode (in_mode mode (run (kind_of_byte 32) t)) × A mode (in_mode mode (run (kind_of_byte 0) t))
      × A mode (in_mode mode (run (kind_of_byte 97) t))

  runs_hold : (mode : InsertionMode) → RunsHold mode
  runs_hold Initial = (h.left_out Initial, h.leave Initial, h.leave Initial)
  runs_hold BeforeHtml = (h.left_out BeforeHtml, h.leave BeforeHtml, h.leave BeforeHtml)
  runs_hold BeforeHead = (h.left_out BeforeHead, h.leave BeforeHead, h.leave BeforeHead)
  runs_hold InHead = (h.put InHead, h.leave InHead, h.leave InHead)
  runs_hold InHeadNoscript = (h.put InHeadNoscript, h.leave InHeadNoscript, h.leave InHeadNoscript)
  runs_hold AfterHead = (h.put AfterHead, h.leave AfterHead, h.leave AfterHead)
  runs_hold InBody = (h.body InBody 32, h.body InBody 0, h.body InBody 97)
  runs_hold InTable = (h.table InTable 32, h.table InTable 0, h.table InTable 97)
  runs_hold InCaption = (h.body InCaption 32, h.body InCaption 0, h.body InCaption 97)
  runs_hold InColumnGroup = (h.put InColumnGroup, h.leave InColumnGroup, h.leave InColumnGroup)
  runs_hold InTableBody = (h.table InTableBody 32, h.table InTableBody 0, h.table InTableBody 97)
  runs_hold InRow = (h.table InRow 32, h.table InRow 0, h.table InRow 97)
  runs_hold InCell = (h.body InCell 32, h.body InCell 0, h.body InCell 97)
  runs_hold InSelect = (h.put InSelect, h.left_out InSelect, h.put InSelect)
  runs_hold InSelectInTable = (h.put InSelectInTable, h.left_out InSelectInTable, h.put InSelectInTable)
  runs_hold InTemplate = (h.body InTemplate 32, h.body InTemplate 0, h.body InTemplate 97)
  runs_hold AfterBody = (h.body AfterBody 32, h.leave AfterBody, h.leave AfterBody)
  runs_hold InFrameset = (h.put InFrameset, h.left_out InFrameset, h.left_out InFrameset)
  runs_hold AfterFrameset = (h.put AfterFrameset, h.left_out AfterFrameset, h.left_out AfterFrameset)
  runs_hold AfterAfterBody = (h.body AfterAfterBody 32, h.leave AfterAfterBody, h.leave AfterAfterBody)
  runs_hold AfterAfterFrameset =
      (h.body AfterAfterFrameset 32, h.left_out AfterAfterFrameset, h.left_out AfterAfterFrameset)

  pub run_holds : (mode : InsertionMode) (text : List ℕ) → A mode (in_mode mode (run (first_kind text) t))
  run_holds mode text =
      by_first_kind (λ kind. A mode (in_mode mode (run kind t))) (runs_hold mode).0 (runs_hold mode).1
      (runs_hold mode).2 text

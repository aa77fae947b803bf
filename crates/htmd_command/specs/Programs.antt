-- What a run of the program changes, writes and answers, case by case.
use Rattle.std.specs.Prelude.{◌≡◌, ◌≢◌, ◌≤◌, ◌↔◌, ◌⊎◌, ℕ, Bool, true, false, List, [], codes, Option, Some, IfSome, Ok}
use Rattle.std.specs.Prelude.{Err, if◌then◌else◌}
use Rattle.std.specs.List.{AllByRecursion}
use Rattle.std.specs.declared.alloc.Global.{Global}
use Rattle.std.specs.declared.string.String.{String}
use Rattle.htmd.specs.PageSettings.{Settings, is_markdown}
use Rattle.htmd_cli.specs.Options.{Request, are_known, extension, request_by}
use Rattle.htmd_cli.specs.Rows.{Succeeds}
use Rattle.htmd_files.specs.declared.planning.Page.{Page}
use Rattle.htmd_files.specs.FilePlans.{Fault, files, standard_output}
use Rattle.htmd_files.specs.Names.{Kind, Naming, html, markdown}
use Rattle.htmd_files.specs.PlanViews.{pages_of}
use Rattle.htmd_files.specs.Words.{Job, job}
use Rattle.htmd_files.specs.Words as words
use Rattle.htmd_files.specs.WordViews.{texts_of}
use Rattle.htmd_folders.specs.Changes.{Change, Makes, IsOpened}
use Rattle.htmd_folders.specs.FolderConversions.{Takes, IfKnown, IsConverted, IsConvertedOrKept}
use Rattle.htmd_folders.specs.Listings.{is_file}
use Rattle.htmd_folders.specs.Pages.{Conversion, or_copy}
use Rattle.htmd_command.specs.PageResults.{IsResultOf, pages_led_to, request_for, request_for_file}
use Rattle.htmd_folders.specs.Plans.{IsPlanOf}
use Rattle.htmd_command.specs.Streams.{Stream, IsUntouched, SaysMemory, Shows}

-- the words ask for a job with these options
pub record Asks (given : List (List ℕ)) (asked : Job) (options : List (String Global)) : Type 0 where
  pub is_job : job given ≡ Ok asked
  pub are : texts_of options ≡ asked.options

-- the job names files, its options are known, and they don't ask for the help or the like
pub record IsOfFiles (asked : Job) (options : List (String Global)) : Type 0 where
  pub named : asked.operands ≢ []
  pub known : are_known options ≡ true
  pub converts : (request_by options).shows ≡ false

-- pages are Markdown if their bytes are read so, else HTML
abbrev pub kind : Settings → Kind
kind settings = if is_markdown settings then markdown else html

-- which files of a folder are pages, and what the names of outputs in one end with
abbrev pub naming : Settings → Naming
naming settings = record { kind = kind settings; extension = extension settings }

abbrev pub naming_by : List (String Global) → Naming
naming_by options = naming (request_by options).settings

-- ---- nothing is done

-- no file is changed, and nothing is written to standard output
abbrev pub DoesNothing : {W : Type 0} → Option (List Change) → Option (List Change) → Stream W → Type 0
DoesNothing before after output = Makes before after [] × IsUntouched output

-- the job can't be done: an option isn't known, or there is no plan for its files
abbrev pub CannotDo : Job → List (String Global) → Option (List Change) → Type 0
CannotDo asked options before =
    ((asked.operands ≢ []) × (are_known options ≡ false))
    ⊎ (IsOfFiles asked options × (missed : List (List ℕ)) × (fault : Fault)
    × IsPlanOf before asked (naming_by options) missed (Err fault))

-- memory runs out before anything is done, and standard error says so: the status is 1
abbrev pub RunsOut : {W E : Type 0} → Option (List Change) → Option (List Change) → Stream W → Stream E → ℕ
    → Type 0
RunsOut before after output errors status =
    DoesNothing before after output × SaysMemory errors × (status ≡ 1)

-- ---- standard output is written

-- Standard input is converted to standard output, or the help or the like is shown: no file is named, the options ask
-- for that, or the only input is `-`. The status is 2 only if an option isn't known, and then it isn't 0.
pub record ConvertsInput {W : Type 0} (asked : Job) (options : List (String Global))
    (before after : Option (List Change)) (input : Option (List ℕ)) (output : Stream W) (status : ℕ)
    : Type 0 where
  pub cause : (asked.operands ≡ []) ⊎ (((request_by options).shows ≡ true) ⊎ (IsOfFiles asked options
      × (missed : List (List ℕ)) × IsPlanOf before asked (naming_by options) missed
      (Ok (standard_output (codes "-")))))
  pub same : Makes before after []
  pub shown : Shows (request_by options) input output status
  pub unknown : status ≡ 2 → are_known options ≡ false
  pub known : status ≡ 0 → are_known options ≡ true

-- a file is opened, and what it holds is converted to standard output; or it isn't there, and the status is 1
abbrev pub ShowsNamed : {W : Type 0} → Request → Option (List Change) → List ℕ → Stream W → ℕ → Type 0
ShowsNamed request before name output status =
    ((bytes : Option (List ℕ)) × IsOpened before name bytes
    × Shows (request_for_file name request) bytes output status × (status ≤ 1))
    ⊎ (IfSome before (λ past. is_file past name ≡ false) × IsUntouched output × (status ≡ 1))

-- the input of a plan without outputs is shown: standard input for `-`, or a file; or memory runs out
abbrev pub ShowsInput : {W E : Type 0} → List (String Global) → Option (List Change) → List ℕ
    → Option (List ℕ) → Stream W → Stream E → ℕ → Type 0
ShowsInput options before name input output errors status =
    ((name ≡ codes "-") × Shows (request_by options) input output status × (status ≤ 1))
    ⊎ (ShowsNamed (request_by options) before name output status
    ⊎ (SaysMemory errors × IsUntouched output × (status ≡ 1)))

-- that is done for the only file of the job, which names no output
pub record ShowsFile {W : Type 0} (asked : Job) (options : List (String Global))
    (before after : Option (List Change)) (output : Stream W) (status : ℕ) : Type 0 where
  pub of_files : IsOfFiles asked options
  pub name : List ℕ
  pub missed : List (List ℕ)
  pub planned : IsPlanOf before asked (naming_by options) missed (Ok (standard_output name))
  pub same : Makes before after []
  pub shown : ShowsNamed (request_by options) before name output status

-- ---- files are written

-- what each page of a plan becomes by what is asked for of it; what is no page is copied
abbrev pub becomes_in : Job → Request → List Page → Conversion
becomes_in asked request pages =
    or_copy (λ page. IsResultOf (request_for (pages_led_to asked pages) page request))

-- The pages are taken one after the other; so many are left alone, and so many fail. In the end each output holds what
-- its input became, or if some page was left alone or failed, that or what it held before. The status is 0 if no page
-- failed and no name is missed, and only then; else it is 1.
pub record WritesPages (becomes : Conversion) (keeps : Bool) (pages : List Page) (missed : List (List ℕ))
    (before after : Option (List Change)) (left failed status : ℕ) : Type 0 where
  pub taken : Takes becomes keeps pages before after left failed
  pub converted : left ≡ 0 → failed ≡ 0
      → IfKnown before after (λ past now. AllByRecursion (IsConverted becomes past now) pages)
  pub kept : IfKnown before after (λ past now. AllByRecursion (IsConvertedOrKept becomes past now) pages)
  pub success : (status ≡ 0) ↔ ((failed ≡ 0) × (missed ≡ []))
  pub failure : status ≤ 1

-- the pages of a job are written, each by its options; or memory runs out before
abbrev pub WritesJob : {E : Type 0} → Job → List (String Global) → List Page → List (List ℕ)
    → Option (List Change) → Option (List Change) → Stream E → ℕ → Type 0
WritesJob asked options pages missed before after errors status =
    ((left : ℕ) × (failed : ℕ)
    × WritesPages (becomes_in asked (request_by options) pages) asked.keeps_newer pages missed before after left failed
    status)
    ⊎ (SaysMemory errors × Makes before after [] × (status ≡ 1))

-- that is done for the pages of the plan, and nothing is written to standard output
pub record ConvertsFiles {W : Type 0} (asked : Job) (options : List (String Global))
    (before after : Option (List Change)) (output : Stream W) (status : ℕ) : Type 0 where
  pub of_files : IsOfFiles asked options
  pub pages : List Page
  pub missed : List (List ℕ)
  pub left : ℕ
  pub failed : ℕ
  pub planned : IsPlanOf before asked (naming_by options) missed (Ok (files (pages_of pages)))
  pub written : IfSome before (λ past.
      WritesPages (becomes_in asked (request_by options) pages) asked.keeps_newer pages missed (Some past) after left
      failed status)
  pub silent : IsUntouched output

-- ---- all together

-- a run of a job, from the files before it to those after it, with standard input, output and error
abbrev pub RunsJob : {W E : Type 0} → Job → List (String Global) → Option (List Change)
    → Option (List Change) → Option (List ℕ) → Stream W → Stream E → ℕ → Type 0
RunsJob asked options before after input output errors status =
    (CannotDo asked options before × DoesNothing before after output × (status ≡ 2))
    ⊎ (RunsOut before after output errors status
    ⊎ (ConvertsInput asked options before after input output status
    ⊎ (ShowsFile asked options before after output status
    ⊎ ConvertsFiles asked options before after output status)))

-- a run by words: they are no job, memory runs out, or their job is run
abbrev pub Runs : {W E : Type 0} → List (List ℕ) → Option (List Change) → Option (List Change)
    → Option (List ℕ) → Stream W → Stream E → ℕ → Type 0
Runs given before after input output errors status =
    (((fault : words.Fault) × (job given ≡ Err fault)) × DoesNothing before after output × (status ≡ 2))
    ⊎ (RunsOut before after output errors status
    ⊎ ((asked : Job) × (options : List (String Global)) × Asks given asked options
    × RunsJob asked options before after input output errors status))

-- if the words name no file, and the status is 0, then what their options ask for was done of the whole input, unless
-- they ask for the help or the version
abbrev pub RunsInput : List (List ℕ) → Option (List ℕ) → Option (List ℕ) → Option (List ℕ) → ℕ
    → Type 0
RunsInput words input before after status =
    (asked : Job) → job words ≡ Ok asked → asked.operands ≡ [] → status ≡ 0
    → (options : List (String Global)) × (texts_of options ≡ asked.options)
    × ((request_by options).shows ≡ false → Succeeds (request_by options) input before after)

-- The words of the command line: which concern files, which are files, and which are other options.
use Rattle.std.specs.Prelude.{ℕ, Bool, true, false, ◌||◌, ◌&&◌, nat_eq, if◌then◌else◌, List, [], ◌∷◌, ◌++◌, length}
use Rattle.std.specs.Prelude.{drop}
use Rattle.std.specs.Prelude.{codes}
use Rattle.std.specs.Prelude.{Option, Some, None, is_some, Result, Ok, Err}
use Rattle.std.specs.List.{list_any, starts_with}
use Rattle.std.specs.Str.{bytes_eq}

-- what is asked for: the files to read, what `-o` names, `--progress`, `--quiet`, `--links=md`, `--newer`, `--copy` and
-- the other options
pub record Job : Type 0 where
  pub operands : List (List ℕ)
  pub output : Option (List ℕ)
  pub shows_progress : Bool
  pub is_quiet : Bool
  pub links_to_markdown : Bool
  pub keeps_newer : Bool
  pub copies : Bool
  pub options : List (List ℕ)

-- why nothing is: the option has no value, there are two outputs, links are to lead to something else than Markdown,
-- the
-- option counts only for outputs, and none is named, or it says where links lead, and they stay as they are
pub data Fault : Type 0 where
  no_value : List ℕ → Fault
  twice : List ℕ → List ℕ → Fault
  links : List ℕ → Fault
  needs_output : List ℕ → Fault
  links_stay : List ℕ → Fault

-- what the next word is: an option or a file, the value of this option, or a file
pub data Expected : Type 0 where
  any : Expected
  value : List ℕ → Expected
  operand : Expected

-- what was read of the words
pub record Reading : Type 0 where
  pub job : Job
  pub expected : Expected

abbrev pub no_job : Job
no_job = record {
  operands = [];
  output = None;
  shows_progress = false;
  is_quiet = false;
  links_to_markdown = false;
  keeps_newer = false;
  copies = false;
  options = [];
}

-- ---- one word

abbrev pub with_operand : List ℕ → Job → Job
with_operand word job = record job { operands = job.operands ++ word ∷ [] }

abbrev pub with_option : List ℕ → Job → Job
with_option word job = record job { options = job.options ++ word ∷ [] }

abbrev pub set_output : Option (List ℕ) → List ℕ → Job → Result Job Fault
set_output None name job = Ok (record job { output = Some name })
set_output (Some first) name job = Err (twice first name)

-- an option names the output: once, and not by the empty text
abbrev pub with_output : List ℕ → List ℕ → Job → Result Job Fault
with_output option [] job = Err (no_value option)
with_output option (b ∷ name) job = set_output job.output (b ∷ name) job

-- an option says where addresses of pages lead: to their Markdown; that links are text is an option of pages
abbrev pub with_links : List ℕ → List ℕ → Job → Result Job Fault
with_links option format job =
    if bytes_eq format (codes "md") then Ok (record job { links_to_markdown = true })
    else if bytes_eq format (codes "text") then Ok (with_option option job) else Err (links option)

abbrev pub reading : Expected → Job → Reading
reading expected job = record { job = job; expected = expected }

-- after a value
abbrev pub then_any : Result Job Fault → Result Reading Fault
then_any (Ok job) = Ok (reading any job)
then_any (Err fault) = Err fault

-- `-o` or `--output`: the next word names the output
abbrev pub is_output_option : List ℕ → Bool
is_output_option word = bytes_eq word (codes "-o") || bytes_eq word (codes "--output")

-- a word that says where links lead, another option, or a file; `-` and what doesn't begin so are files
abbrev pub take_links : List ℕ → Job → Result Reading Fault
take_links word job =
    if starts_with nat_eq word (codes "--links=")
    then then_any (with_links word (drop (length (codes "--links=")) word) job)
    else if bytes_eq word (codes "--links") then Err (links word)
    else if starts_with nat_eq word (codes "-") then Ok (reading any (with_option word job))
    else Ok (reading any (with_operand word job))

-- a word with the output in it, or another one
abbrev pub take_long : List ℕ → Job → Result Reading Fault
take_long word job =
    if starts_with nat_eq word (codes "--output=")
    then then_any (with_output word (drop (length (codes "--output=")) word) job)
    else if starts_with nat_eq word (codes "-o") then then_any (with_output word (drop (length (codes "-o")) word) job)
    else take_links word job

-- the empty word is no file: it is passed on with the options
abbrev pub take_short : List ℕ → Job → Result Reading Fault
take_short word job =
    if bytes_eq word (codes "-") then Ok (reading any (with_operand word job))
    else if bytes_eq word [] then Ok (reading any (with_option word job))
    else take_long word job

-- a word that may be an option
abbrev pub take_any : List ℕ → Job → Result Reading Fault
take_any word job =
    if bytes_eq word (codes "--") then Ok (reading operand job)
    else if is_output_option word then Ok (reading (value word) job)
    else if bytes_eq word (codes "--progress") then Ok (reading any (record job { shows_progress = true }))
    else if bytes_eq word (codes "--quiet") then Ok (reading any (record job { is_quiet = true }))
    else if bytes_eq word (codes "--newer") then Ok (reading any (record job { keeps_newer = true }))
    else if bytes_eq word (codes "--copy") then Ok (reading any (record job { copies = true }))
    else take_short word job

abbrev pub take_word : Expected → List ℕ → Job → Result Reading Fault
take_word any word job = take_any word job
take_word (value option) word job = then_any (with_output option word job)
take_word operand word job = Ok (reading operand (with_operand word job))

-- ---- all words

abbrev pub take_next : List ℕ → Result Reading Fault → Result Reading Fault
take_next word (Ok r) = take_word r.expected word r.job
take_next word (Err fault) = Err fault

abbrev pub take_all : List (List ℕ) → Result Reading Fault → Result Reading Fault
take_all [] r = r
take_all (word ∷ words) r = take_all words (take_next word r)

-- `-` after `-o` is standard output
abbrev pub named_output : Option (List ℕ) → Option (List ℕ)
named_output None = None
named_output (Some name) = if bytes_eq name (codes "-") then None else Some name

-- if an output is named and nothing to read, standard input is read
abbrev pub with_input : Option (List ℕ) → List (List ℕ) → List (List ℕ)
with_input None operands = operands
with_input (Some name) [] = codes "-" ∷ []
with_input (Some name) (first ∷ others) = first ∷ others

abbrev pub completed : Job → Job
completed job = record job {
  operands = with_input (named_output job.output) job.operands;
  output = named_output job.output;
}

-- an option of outputs, where none is named
abbrev pub useless_option : Job → Option (List ℕ)
useless_option job =
    if is_some job.output then None
    else if job.links_to_markdown then Some (codes "--links=md")
    else if job.keeps_newer then Some (codes "--newer")
    else if job.copies then Some (codes "--copy") else None

-- an option is given as this word
abbrev pub is_given : List ℕ → Job → Bool
is_given word job = list_any (λ option. bytes_eq option word) job.options

-- the HTML of Markdown is written, in which links stay as they are
abbrev pub keeps_links : Job → Bool
keeps_links job = is_given (codes "--html") job && is_given (codes "--from-markdown") job

-- an option that says where addresses begin
abbrev pub is_base : List ℕ → Bool
is_base option = starts_with nat_eq option (codes "--base=")

-- an option that says where links lead
abbrev pub link_option : Job → Option (List ℕ)
link_option job =
    if job.links_to_markdown then Some (codes "--links=md")
    else if list_any is_base job.options then Some (codes "--base") else None

-- such an option, where they stay
abbrev pub idle_option : Job → Option (List ℕ)
idle_option job = if keeps_links job then link_option job else None

abbrev pub job_unless : Option (List ℕ) → Option (List ℕ) → Job → Result Job Fault
job_unless None None job = Ok job
job_unless None (Some option) job = Err (links_stay option)
job_unless (Some option) idle job = Err (needs_output option)

-- no option counts for nothing
abbrev pub useful : Job → Result Job Fault
useful job = job_unless (useless_option job) (idle_option job) job

-- after the last word
abbrev pub finished_as : Expected → Job → Result Job Fault
finished_as any job = useful (completed job)
finished_as (value option) job = Err (no_value option)
finished_as operand job = useful (completed job)

abbrev pub finished : Result Reading Fault → Result Job Fault
finished (Ok r) = finished_as r.expected r.job
finished (Err fault) = Err fault

-- what the words ask for
abbrev pub job : List (List ℕ) → Result Job Fault
job words = finished (take_all words (Ok (reading any no_job)))

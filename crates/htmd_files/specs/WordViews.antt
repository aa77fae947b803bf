-- What the reader of words stands for.
use Rattle.std.specs.Prelude.{◌≡◌, ℕ, List, map, option_map, Result, Err, string_bytes}
use Rattle.std.specs.Borrow.{Bor}
use Rattle.std.specs.declared.alloc.Global.{Global}
use Rattle.std.specs.declared.string.String.{String}
use Rattle.htmd_files.specs.declared.faults.WordFault as held_fault
use Rattle.htmd_files.specs.declared.faults.WordFault.TheVariants as fault
use Rattle.htmd_files.specs.declared.words.Job as held_job
use Rattle.htmd_files.specs.declared.words.Expected as held_expected
use Rattle.htmd_files.specs.declared.words.Expected.TheVariants as expected
use Rattle.htmd_files.specs.Words.{Job, Fault, no_value, twice, links, needs_output, links_stay}
use Rattle.htmd_files.specs.Words.{Expected, any, value, operand}

abbrev pub text_of : Bor (List ℕ) → List ℕ
text_of text = text.now

abbrev pub texts_of : List (String Global) → List (List ℕ)
texts_of words = map (λ word. string_bytes word) words

abbrev pub job_in : held_job.Job → Job
job_in job = record {
  operands = map text_of job.operands.items;
  output = option_map text_of job.output;
  shows_progress = job.shows_progress;
  is_quiet = job.is_quiet;
  links_to_markdown = job.links_to_markdown;
  keeps_newer = job.keeps_newer;
  copies = job.copies;
  options = texts_of job.options.items;
}

abbrev pub expected_in : held_expected.Expected → Expected
expected_in expected.Any = any
expected_in (expected.Value option) = value option.now
expected_in expected.Operand = operand

-- a fault is out of memory, or that of the definition
abbrev pub IsWordFault : {A : Type 0} → Result A Fault → held_fault.WordFault → Type 0
IsWordFault r fault.Memory = Unit {0}
IsWordFault r (fault.NoValue word) = r ≡ Err (no_value word.now)
IsWordFault r (fault.Twice first second) = r ≡ Err (twice first.now second.now)
IsWordFault r (fault.Links word) = r ≡ Err (links word.now)
IsWordFault r (fault.NeedsOutput option) = r ≡ Err (needs_output option.now)
IsWordFault r (fault.LinksStay option) = r ≡ Err (links_stay option.now)

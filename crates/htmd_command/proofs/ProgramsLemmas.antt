-- A run, case by case.
use Rattle.std.proofs.Common.{◌≡◌, ◌≢◌, ◌≤◌, ◌↔◌, ◌⊎◌, ◌∙◌, refl, ap, sym, subst, inl, inr, ℕ, Bool, true, false}
use Rattle.std.proofs.Common.{◌++◌, get_or, is_some, if◌then◌else◌}
use Rattle.std.specs.Prelude.{codes, reverse}
use Rattle.std.proofs.lemmas.List.{reverse-append}
use Rattle.std.proofs.Common.{List, [], ◌∷◌, length, map, arith, Bor, Option, Some, None, IfSome, Ok, Err}
use Rattle.std.proofs.Math.Nat.{suc-ne-zero}
use Rattle.std.proofs.lemmas.Bool.{false≢true}
use Rattle.std.specs.declared.alloc.Global.{Global}
use Rattle.std.specs.declared.string.String.{String}
use Rattle.htmd_cli.specs.declared.requests.OptionFault.{OptionFault}
use Rattle.htmd_cli.specs.declared.requests.OptionFault.TheVariants as option_fault
use Rattle.htmd_cli.specs.OptionRows.{IsOptionFault}
use Rattle.htmd_cli.specs.Options.{Request, are_known, request_by}
use Rattle.htmd_cli.specs.Rows.{AnswersSome, Succeeds}
use Rattle.htmd.specs.PageSettings.{writes_html}
use Rattle.htmd_files.specs.declared.faults.WordFault.{WordFault}
use Rattle.htmd_files.specs.declared.faults.WordFault.TheVariants as word_fault
use Rattle.htmd_files.specs.declared.planning.Page.{Page}
use Rattle.htmd_files.specs.declared.faults.PlanFault.{PlanFault}
use Rattle.htmd_files.specs.declared.faults.PlanFault.TheVariants as plan_fault
use Rattle.htmd_files.specs.FilePlans as plans
use Rattle.htmd_files.specs.Names.{Naming}
use Rattle.htmd_files.specs.PlanViews.{pages_of}
use Rattle.htmd_files.specs.Words.{Job, job}
use Rattle.htmd_files.specs.WordViews.{IsWordFault, text_of, texts_of}
use Rattle.htmd_folders.specs.Changes.{Change, Makes}
use Rattle.htmd_folders.specs.Listings.{is_file}
use Rattle.htmd_folders.specs.Pages.{Conversion}
use Rattle.htmd_folders.specs.declared.operands.Missed.{Missed}
use Rattle.htmd_folders.specs.PlanViews.{missed_in, IsNoPlan}
use Rattle.htmd_folders.specs.Plans.{AreFinished, IsPlanOf}
use Rattle.htmd_command.specs.Programs.{IsOfFiles, Runs, RunsJob, ShowsInput, ShowsNamed, WritesJob, WritesPages}
use Rattle.htmd_command.specs.Programs.{becomes_in, naming_by}
use Rattle.htmd_command.specs.Streams.{Stream, IsUntouched, SaysMemory, Shows}

-- ---- the words

-- options that are never taken if they aren't known
pub known_if : (known : Bool) (status : ℕ) → (known ≡ false → status ≢ 0) → status ≡ 0 → known ≡ true
known_if true status h z = refl
known_if false status h z = absurd (h refl z)

-- ---- standard output

pub shows_done : {W : Type 0} (request : Request) (input : Option (List ℕ)) (output : Stream W)
    → Succeeds request input (output.contents output.before) (output.contents output.after)
    → Shows request input output 0
shows_done request input output done = record {
  whole = λ z s. done;
  nothing = λ n. absurd (n refl);
  rows = λ n. absurd (n refl);
}

pub shows_failed : {W : Type 0} (request : Request) (input : Option (List ℕ)) (output : Stream W)
    → (request.rows ≡ false → output.has_failed output.after ≡ false → IsUntouched output)
    → (request.rows ≡ true → output.has_failed output.after ≡ false
    → AnswersSome request input (output.contents output.before) (output.contents output.after))
    → Shows request input output 1
shows_failed request input output nothing rows = record {
  whole = λ z. absurd (suc-ne-zero 0 z);
  nothing = λ n. nothing;
  rows = λ n. rows;
}

-- a file isn't there, or memory ran out
pub shows_missing : {W E : Type 0} (request : Request) (before : Option (List Change)) (name : List ℕ)
    (output : Stream W) (errors : Stream E) (status : ℕ) (P : Type 0)
    → IfSome before (λ past. (is_file past name ≡ false) ⊎ P) → IsUntouched output
    → (P → SaysMemory errors) → status ≡ 1
    → ShowsNamed request before name output status ⊎ (SaysMemory errors × IsUntouched output × (status ≡ 1))
shows_missing request None name output errors status P h silent said one = inl (inr (tt, silent, one))
shows_missing request (Some past) name output errors status P (inl f) silent said one = inl (inr (f, silent, one))
shows_missing request (Some past) name output errors status P (inr p) silent said one = inr (said p, silent, one)

-- a file that is shown after no file was changed
pub shows_since : {W : Type 0} (request : Request) (before between : Option (List Change)) (name : List ℕ)
    (output : Stream W) (status : ℕ) → Makes before between [] → ShowsNamed request between name output status
    → ShowsNamed request before name output status
shows_since request None between name output status m (inl (bytes, opened, shows, l)) =
    inl (bytes, tt, shows, l)
shows_since request None between name output status m (inr (missing, silent, answer)) = inr (tt, silent, answer)
shows_since request (Some past) between name output status m shown =
    subst (λ b. ShowsNamed request b name output status) m shown

-- ---- the pages

pub written_since : (becomes : Conversion) (keeps : Bool) (pages : List Page) (missed : List (List ℕ))
    (before between after : Option (List Change)) (left failed status : ℕ) → Makes before between []
    → WritesPages becomes keeps pages missed between after left failed status
    → IfSome before (λ past. WritesPages becomes keeps pages missed (Some past) after left failed status)
written_since becomes keeps pages missed None between after left failed status m w = m
written_since becomes keeps pages missed (Some past) between after left failed status m w =
    subst (λ b. WritesPages becomes keeps pages missed b after left failed status) m w

-- the status of pages
none_missed : (missed : List Missed) → length missed ≡ 0 → missed_in missed ≡ []
none_missed [] e = refl
none_missed (item ∷ missed) e = absurd (omega (arith, e))

some_missed : (missed : List Missed) → missed_in missed ≡ [] → length missed ≡ 0
some_missed [] e = refl
some_missed (item ∷ missed) e = absurd (cc)

pub success_law : (missed : List Missed) (failed count status : ℕ) → count ≡ length missed
    → (status ≡ 0) ↔ ((failed ≡ 0) × (count ≡ 0))
    → (status ≡ 0) ↔ ((failed ≡ 0) × (missed_in missed ≡ []))
success_law missed failed count status c w = (
  (λ z. ((w.0 z).0, none_missed missed (sym c ∙ (w.0 z).1))),
  (λ e. w.1 (e.0, c ∙ some_missed missed e.1)),
)

-- the bytes of names that end in two ways, the last ones first
ends : (stem ending other last : List ℕ) → stem ++ codes "." ++ ending ≡ other ++ last
    → reverse ending ++ reverse (stem ++ codes ".") ≡ reverse last ++ reverse other
ends stem ending other last e =
    sym (reverse-append (stem ++ codes ".") ending) ∙ ap reverse e ∙ reverse-append other last

-- no extension of outputs makes a name of unfinished ones
finished_as : (html lines json : Bool) → AreFinished (if html then codes "html"
    else if lines then codes "jsonl" else if json then codes "json" else codes "md")
finished_as true lines json stem (other, e) =
    let second : 109 ≡ 97 = ap (λ s. get_or s 1 0) (ends stem (codes "html") other (codes ".htmd-partial") e) in
    absurd (omega (arith, second))
finished_as false true json stem (other, e) =
    let second : 110 ≡ 97 = ap (λ s. get_or s 1 0) (ends stem (codes "jsonl") other (codes ".htmd-partial") e) in
    absurd (omega (arith, second))
finished_as false false true stem (other, e) =
    let first : 110 ≡ 108 = ap (λ s. get_or s 0 0) (ends stem (codes "json") other (codes ".htmd-partial") e) in
    absurd (omega (arith, first))
finished_as false false false stem (other, e) =
    let first : 100 ≡ 108 = ap (λ s. get_or s 0 0) (ends stem (codes "md") other (codes ".htmd-partial") e) in
    absurd (omega (arith, first))

pub are_finished : (named : Naming) (options : List (String Global)) → named ≡ naming_by options
    → AreFinished named.extension
are_finished named options e =
    let settings = (request_by options).settings in
    subst (λ n. AreFinished n.extension) (sym e)
    (finished_as (writes_html settings) (is_some settings.chunks) settings.mdast)

-- ---- runs of jobs

pub nothing_made : (files : Option (List Change)) → Makes files files []
nothing_made None = tt
nothing_made (Some past) = refl

pub made_then : (before between after : Option (List Change)) → Makes before between [] → Makes between after []
    → Makes before after []
made_then None between after m n = tt
made_then (Some past) between after m n = subst (λ o. Makes o after []) m n

pub names_any : (operands : List (Bor (List ℕ))) → operands ≢ [] → map text_of operands ≢ []
names_any [] n e = n refl
names_any (first ∷ others) n e = absurd (cc)

pub names_none : (operands : List (Bor (List ℕ))) → operands ≡ [] → map text_of operands ≡ []
names_none operands e = ap (map text_of) e

-- a status of known options
pub at_most_1 : (known : Bool) (status : ℕ) → known ≡ true → (status ≡ 2 → known ≡ false) → status ≤ 2
    → status ≤ 1
at_most_1 known status k u l =
    let n : status ≢ 2 = λ z. false≢true (sym (u z) ∙ k) in
    omega (arith, n, l)

pub not_2 : (known : Bool) (status : ℕ) → status ≤ 1 → status ≡ 2 → known ≡ false
not_2 known status l z = absurd (omega (arith, l, z))

-- what a call of the program for a source tells of standard output
pub shows_by : {W : Type 0} (request : Request) (input : Option (List ℕ)) (output : Stream W) (status : ℕ)
    → (status ≡ 0 → request.shows ≡ false
    → Succeeds request input (output.contents output.before) (output.contents output.after))
    → (status ≢ 0 → request.rows ≡ false → output.has_failed output.after ≡ false → IsUntouched output)
    → (status ≢ 0 → request.rows ≡ true → output.has_failed output.after ≡ false
    → AnswersSome request input (output.contents output.before) (output.contents output.after))
    → Shows request input output status
shows_by request input output status whole nothing rows =
    record { whole = whole; nothing = nothing; rows = rows }

-- there is no plan
module _ {W E : Type 0} (asked : Job) (options : List (String Global)) (before after : Option (List Change))
    (input : Option (List ℕ)) (output : Stream W) (errors : Stream E) (status : ℕ) where
  abbrev Job_run : Type 0
  Job_run = RunsJob asked options before after input output errors status

  pub ran_out : Makes before after [] → IsUntouched output → SaysMemory errors → status ≡ 1 → Job_run
  ran_out m u s e = inr (inl ((m, u), s, e))

  pub unplanned : (missed : List (List ℕ)) (reason : plans.Fault) → IsOfFiles asked options
      → IsPlanOf before asked (naming_by options) missed (Err reason) → Makes before after []
      → IsUntouched output → status ≡ 2 → Job_run
  unplanned missed reason f is m u e = inl (inr (f, missed, reason, is), (m, u), e)

  pub run_refused : (refused : PlanFault) → IsOfFiles asked options
      → IsNoPlan before asked (naming_by options) refused → Makes before after [] → IsUntouched output
      → (refused ≡ plan_fault.Memory → SaysMemory errors × (status ≡ 1))
      → (refused ≢ plan_fault.Memory → status ≡ 2) → Job_run
  run_refused plan_fault.Memory f h m u memory other = ran_out m u (memory refl).0 (memory refl).1
  run_refused (plan_fault.Several first second) f (missed, reason, is) m u memory other =
      unplanned missed reason f is m u (other (λ e. absurd (cc)))
  run_refused (plan_fault.Folder folder) f (missed, reason, is) m u memory other =
      unplanned missed reason f is m u (other (λ e. absurd (cc)))
  run_refused (plan_fault.NoName name) f (missed, reason, is) m u memory other =
      unplanned missed reason f is m u (other (λ e. absurd (cc)))
  run_refused (plan_fault.Outside from to folder) f (missed, reason, is) m u memory other =
      unplanned missed reason f is m u (other (λ e. absurd (cc)))
  run_refused (plan_fault.Shared first second to) f (missed, reason, is) m u memory other =
      unplanned missed reason f is m u (other (λ e. absurd (cc)))
  run_refused (plan_fault.Overwritten from to) f (missed, reason, is) m u memory other =
      unplanned missed reason f is m u (other (λ e. absurd (cc)))

  -- options aren't taken
  pub run_untaken : (fault : OptionFault) (known takes : Bool) → asked.operands ≢ []
      → IsOptionFault fault known takes → known ≡ are_known options → Makes before after []
      → IsUntouched output → (fault ≡ option_fault.Memory → SaysMemory errors × (status ≡ 1))
      → (fault ≢ option_fault.Memory → status ≡ 2) → Job_run
  run_untaken option_fault.Memory known takes n h k m u memory other =
      ran_out m u (memory refl).0 (memory refl).1
  run_untaken (option_fault.Unknown option) known takes n h k m u memory other =
      inl (inl (n, sym k ∙ h), (m, u), other (λ e. absurd (cc)))
  run_untaken (option_fault.Selector option error) known takes n h k m u memory other =
      inl (inl (n, sym k ∙ h), (m, u), other (λ e. absurd (cc)))

  -- the source is converted, or something else is shown
  pub run_notice : (request_by options).shows ≡ true → Makes before after []
      → Shows (request_by options) input output status → are_known options ≡ true
      → (status ≡ 2 → are_known options ≡ false) → Job_run
  run_notice s m shown k unknown = inr (inr (inl (record {
    cause = inr (inl s);
    same = m;
    shown = shown;
    unknown = unknown;
    known = λ _. k;
  })))

  pub run_shown : (between : Option (List Change)) (name : List ℕ) (missed : List (List ℕ))
      → IsOfFiles asked options
      → IsPlanOf before asked (naming_by options) missed (Ok (plans.standard_output name))
      → Makes before between [] → Makes between after []
      → ShowsInput options between name input output errors status → Job_run
  run_shown between name missed f is m n (inl (dash, shown, l)) = inr (inr (inl (record {
    cause = inr (inr (
      f,
      missed,
      subst (λ x. IsPlanOf before asked (naming_by options) missed (Ok (plans.standard_output x))) dash is,
    ));
    same = made_then before between after m n;
    shown = shown;
    unknown = not_2 (are_known options) status l;
    known = λ _. f.known;
  })))
  run_shown between name missed f is m n (inr (inl named)) = inr (inr (inr (inl (record {
    of_files = f;
    name = name;
    missed = missed;
    planned = is;
    same = made_then before between after m n;
    shown = shows_since (request_by options) before between name output status m named;
  }))))
  run_shown between name missed f is m n (inr (inr (said, silent, one))) =
      ran_out (made_then before between after m n) silent said one

  pub run_written : (between : Option (List Change)) (pages : List Page) (missed : List (List ℕ))
      → IsOfFiles asked options
      → IsPlanOf before asked (naming_by options) missed (Ok (plans.files (pages_of pages)))
      → Makes before between [] → IsUntouched output
      → WritesJob asked options pages missed between after errors status → Job_run
  run_written between pages missed f is m u (inl (left, failed, w)) = inr (inr (inr (inr (record {
    of_files = f;
    pages = pages;
    missed = missed;
    left = left;
    failed = failed;
    planned = is;
    written = written_since (becomes_in asked (request_by options) pages) asked.keeps_newer pages missed before between
        after left failed status m w;
    silent = u;
  }))))
  run_written between pages missed f is m u (inr (said, n, one)) =
      ran_out (made_then before between after m n) u said one

-- the words are no job
pub words_refused : {W E : Type 0} (given : List (List ℕ)) (before : Option (List Change))
    (input : Option (List ℕ)) (output : Stream W) (errors : Stream E) (status : ℕ) (fault : WordFault)
    → IsWordFault (job given) fault → IsUntouched output
    → (fault ≡ word_fault.Memory → SaysMemory errors × (status ≡ 1))
    → (fault ≢ word_fault.Memory → status ≡ 2) → Runs given before before input output errors status
words_refused given before input output errors status word_fault.Memory h u memory other =
    inr (inl ((nothing_made before, u), (memory refl).0, (memory refl).1))
words_refused given before input output errors status (word_fault.NoValue word) h u memory other =
    inl ((_, h), (nothing_made before, u), other (λ e. absurd (cc)))
words_refused given before input output errors status (word_fault.Twice first second) h u memory other =
    inl ((_, h), (nothing_made before, u), other (λ e. absurd (cc)))
words_refused given before input output errors status (word_fault.Links word) h u memory other =
    inl ((_, h), (nothing_made before, u), other (λ e. absurd (cc)))
words_refused given before input output errors status (word_fault.NeedsOutput option) h u memory other =
    inl ((_, h), (nothing_made before, u), other (λ e. absurd (cc)))
words_refused given before input output errors status (word_fault.LinksStay option) h u memory other =
    inl ((_, h), (nothing_made before, u), other (λ e. absurd (cc)))

-- a job without files
pub run_stream : {W E : Type 0} (given : List (List ℕ)) (asked : Job) (options : List (String Global))
    (before : Option (List Change)) (input : Option (List ℕ)) (output : Stream W) (errors : Stream E) (status : ℕ)
    → job given ≡ Ok asked → texts_of options ≡ asked.options → asked.operands ≡ []
    → Shows (request_by options) input output status → (status ≡ 2 → are_known options ≡ false)
    → (are_known options ≡ false → status ≢ 0) → Runs given before before input output errors status
run_stream given asked options before input output errors status j o n shown unknown never =
    inr (inr (
      asked,
      options,
      record { is_job = j; are = o },
      inr (inr (inl (record {
        cause = inl n;
        same = nothing_made before;
        shown = shown;
        unknown = unknown;
        known = known_if (are_known options) status never;
      }))),
    ))

pub run_asked : {W E : Type 0} (given : List (List ℕ)) (asked : Job) (options : List (String Global))
    (before after : Option (List Change)) (input : Option (List ℕ)) (output : Stream W) (errors : Stream E)
    (status : ℕ) → job given ≡ Ok asked → texts_of options ≡ asked.options
    → RunsJob asked options before after input output errors status
    → Runs given before after input output errors status
run_asked given asked options before after input output errors status j o run =
    inr (inr (asked, options, record { is_job = j; are = o }, run))

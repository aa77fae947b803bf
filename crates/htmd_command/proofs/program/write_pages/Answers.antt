-- The pages are converted by what is asked for of each.
use Rattle.std.proofs.Common.{◌≡◌, ◌∙◌, ap, subst, inl, inr, Bool, List, Option, option_map}
use Rattle.std.specs.declared.alloc.Global.{Global}
use Rattle.std.specs.declared.string.String.{String}
use Rattle.htmd_addresses.specs.Leads.{PageValue}
use Rattle.htmd_addresses.specs.RunViews.{pages_in}
use Rattle.htmd_cli.specs.Options.{request_by}
use Rattle.htmd_files.specs.WordViews.{job_in}
use Rattle.htmd_folders.specs.Pages.{Conversion, or_copy}
use Rattle.htmd_folders.specs.PlanViews.{missed_in}
use Rattle.htmd_command.specs.PageResults.{IsResultOf, pages_led_to, request_for}
use Rattle.htmd_command.specs.Programs.{WritesPages}
use Rattle.htmd_command.proofs.PageResultsLemmas.{led_copied}
use Rattle.htmd_command.proofs.ProgramsLemmas.{nothing_made}
use Rattle.htmd_command.proofs.program.write_pages.Goals as goal

pub returns-in_default-clause-written : goal.returns-in_default-clause-written
returns-in_default-clause-written g c =
    inr (c.fail_memory.ensures.said, nothing_made (g.S.Store.changes c.args.store.now), c.fail_memory.ensures.status)

pub returns-clause-written : goal.returns-clause-written
returns-clause-written g c =
    let before = g.S.Store.changes c.args.store.now in
    let after = g.S.Store.changes c.convert_files.new.store in
    let pages = c.args.pages.now in
    let missed = missed_in c.args.missed.now in
    let taken = c.convert_files.ensures.taken in
    let status = c.convert_files.result in
    let becomes : Option (List PageValue) → List (String Global) → Conversion =
    λ led options. or_copy (λ page. IsResultOf (request_for led page (request_by options))) in
    let led : Option (List PageValue) = option_map (λ kept. pages_in kept.now) c.as_ref.result in
    let led_is : led ≡ pages_led_to (job_in c.args.of.now.job.now) pages =
    led_copied c.as_ref.result ∙ ap (option_map pages_in) c.as_ref.ensures.value ∙ c.in-Ok.ensures in
    let keeps = c.options_of.result.keeps_newer in
    let Q : List (String Global) → Type 0 = λ options.
    WritesPages (becomes led options) keeps pages missed before after taken.0 taken.1 status in
    let R : Option (List PageValue) → Type 0 = λ led.
    WritesPages (becomes led c.args.of.now.job.now.options.items) keeps pages missed before after taken.0 taken.1
    status in
    let K : Bool → Type 0 = λ keeps. WritesPages
    (becomes (pages_led_to (job_in c.args.of.now.job.now) pages) c.args.of.now.job.now.options.items) keeps pages missed
    before after taken.0 taken.1 status in
    inl (
      taken.0,
      taken.1,
      subst K c.options_of.ensures (subst R led_is (subst Q c.as_slice-options.ensures.value taken.2)),
    )

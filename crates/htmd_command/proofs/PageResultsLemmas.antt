-- What is done of an input is what is answered.
use Rattle.std.proofs.Common.{◌≡◌, ◌∙◌, refl, ap, sym, subst, ℕ, Bool, true, false, List, ◌++◌}
use Rattle.std.specs.Prelude.{option_and_then}
use Rattle.std.proofs.Common.{Option, Some, None, option_map, Result, Ok, Err, IsErrOf, IsTrue, ◌↔◌, ◌≢◌, MatchBool}
use Rattle.std.proofs.Common.{Bor, string_bytes}
use Rattle.std.specs.Option.{option_copied}
use Rattle.std.proofs.lemmas.Bool.{cond-true, cond-false, false≢true}
use Rattle.htmd_addresses.specs.Leads.{OwnPage, PageValue, RunPage}
use Rattle.htmd_addresses.specs.RunViews.{pages_in}
use Rattle.htmd_addresses.specs.declared.pages.Pages.{Pages}
use Rattle.htmd.specs.declared.page_error.PageError.TheVariants.{NotUtf8, Refused, NothingSelected, Memory}
use Rattle.htmd_cli.specs.declared.faults.StreamError.{StreamError}
use Rattle.htmd_cli.specs.declared.faults.StreamError.TheVariants as stream
use Rattle.htmd_cli.specs.Options.{Request, url_in_folder}
use Rattle.htmd_cli.specs.Rows.{AnswersFirst, AnswersSome, ConvertsRows, Succeeds, rows_of}
use Rattle.htmd_cli.specs.StreamConversions.{Converts, Ends, ending}
use Rattle.htmd.specs.PageSettings.{PageInRun, Settings, settings_for}
use Rattle.htmd_files.specs.declared.planning.Page.{Page}
use Rattle.htmd_folders.specs.Pages.{Becomes}
use Rattle.htmd_command.specs.PageResults.{IsResultOf, IsPageResult, in_run, own_url, page_request, pages_led}
use Rattle.htmd_command.specs.PageResults.{named, own_page, path_in_folder, request_for, request_for_file, run_page_in}
use Rattle.url.specs.Parts.{Parts}
use Rattle.std.specs.declared.alloc.Global.{Global}
use Rattle.std.specs.declared.string.String.{String}

either_becomes : (rows : Bool) (settings : Settings) (input before after : Option (List ℕ))
    → MatchBool rows (ConvertsRows settings input before after) (Converts settings input before after)
    → Becomes (λ bytes written. MatchBool rows (rows_of settings bytes written)
    (IsPageResult settings bytes written))
    input before after
either_becomes true settings None before after s = s
either_becomes true settings (Some bytes) before after s = s
either_becomes false settings None before after s = s
either_becomes false settings (Some bytes) before after (output, is, appended) =
    (output ++ ending settings, (output, is, refl), appended)

-- what was done of a whole input is its answer
pub succeeds_becomes : (request : Request) (input before after : Option (List ℕ))
    → Succeeds request input before after → Becomes (IsResultOf request) input before after
succeeds_becomes request input before after s =
    either_becomes request.rows request.settings input before after s

-- a run that succeeds converts the whole input
pub ends_converts : {W T : Type 0} (settings : Settings) (input rest : Option (List ℕ)) (contents : W
    → Option (List ℕ))
    (before after : W) (r : Result T StreamError) (done : T)
    → Ends settings input rest contents before after r → r ≡ Ok done
    → Converts settings input (contents before) (contents after)
ends_converts {W} {T} settings input rest contents before after r done ends e =
    let P : Result T StreamError → Type 0 = λ x. Ends settings input rest contents before after x in
    (subst P e ends).1

-- a run that doesn't succeed leaves the sink as it was, unless a write failed
ends_by : {W : Type 0} (T : Type 0) (settings : Settings) (input rest : Option (List ℕ))
    (contents : W → Option (List ℕ)) (before after : W) (error : StreamError)
    → Ends {W = W} {T = T} settings input rest contents before after (Err error) → error ≢ stream.Write
    → after ≡ before
ends_by T settings input rest contents before after (stream.Page NotUtf8) e n = e.3
ends_by T settings input rest contents before after (stream.Page (Refused place kind)) e n = e.4
ends_by T settings input rest contents before after (stream.Page NothingSelected) e n = e.2
ends_by T settings input rest contents before after (stream.Page Memory) e n = e
ends_by T settings input rest contents before after stream.Read e n = e
ends_by T settings input rest contents before after stream.Write e n = absurd (n refl)

pub ends_untouched : {W T : Type 0} (settings : Settings) (input rest : Option (List ℕ))
    (contents : W → Option (List ℕ)) (before after : W) (r : Result T StreamError) (error : StreamError)
    (failed : Bool) → Ends settings input rest contents before after r → r ≡ Err error
    → (IsErrOf r stream.Write ↔ IsTrue failed) → failed ≡ false → after ≡ before
ends_untouched {W} {T} settings input rest contents before after r error failed ends e w f =
    let P : Result T StreamError → Type 0 = λ x. Ends settings input rest contents before after x in
    ends_by T settings input rest contents before after error (subst P e ends)
    (λ z. false≢true (sym f ∙ w.0 (subst (λ (x : StreamError). r ≡ Err x) z e)))

-- a whole input that was converted is what is asked for, unless that is rows
pub converts_succeeds : (request : Request) (input before after : Option (List ℕ)) → request.rows ≡ false
    → Converts request.settings input before after → Succeeds request input before after
converts_succeeds request input before after e converts =
    let P : Bool → Type 0 = λ rows. MatchBool rows (ConvertsRows request.settings input before after)
    (Converts request.settings input before after) in
    subst P (sym e) converts

-- a whole input that was converted is answered, unless rows are asked for
pub converts_becomes : (request : Request) (input before after : Option (List ℕ)) → request.rows ≡ false
    → Converts request.settings input before after → Becomes (IsResultOf request) input before after
converts_becomes request input before after e converts =
    let P : Bool → Type 0 = λ rows. MatchBool rows (ConvertsRows request.settings input before after)
    (Converts request.settings input before after) in
    either_becomes request.rows request.settings input before after (subst P (sym e) converts)

-- rows are answered
pub rows_become : (request asked : Request) (input before after : Option (List ℕ)) → request ≡ asked
    → Succeeds request input before after → Becomes (IsResultOf asked) input before after
rows_become request asked input before after e done =
    subst (λ (r : Request). Becomes (IsResultOf r) input before after) e
    (succeeds_becomes request input before after done)

-- rows are answered alike in a run
pub rows_alike : (pages : Option (List PageValue)) (page : Page) (request : Request) → request.rows ≡ true
    → request ≡ request_for pages page request
rows_alike pages page request e = sym (cond-true request.rows _ _ e)

-- a page that was converted with what the run adds for it is answered, unless rows are asked for
pub page_becomes : (pages : Option (List PageValue)) (page : Page) (request : Request) (added : PageInRun)
    (input before after : Option (List ℕ)) → request.rows ≡ false
    → added ≡ in_run pages page request.settings
    → Converts (settings_for added request.settings) input before after
    → Becomes (IsResultOf (request_for pages page request)) input before after
page_becomes pages page request added input before after e adds converts =
    let own : Request = page_request pages page request in
    let P : Request → Type 0 = λ asked. Becomes (IsResultOf asked) input before after in
    let Q : PageInRun → Type 0 = λ added. Converts (settings_for added request.settings) input before after in
    subst P (sym (cond-false request.rows request own e))
    (converts_becomes own input before after e (subst Q adds converts))

-- a file is converted by its name
pub file_succeeds : (name : List ℕ) (request : Request) (page : PageInRun) (input before after : Option (List ℕ))
    → request.rows ≡ false → page ≡ named name
    → Converts (settings_for page request.settings) input before after
    → Succeeds (request_for_file name request) input before after
file_succeeds name request page input before after rows e converts =
    let P : PageInRun → Type 0 = λ p. Converts (settings_for p request.settings) input before after in
    let Q : Settings → Type 0 = λ s. Converts s input before after in
    converts_succeeds (request_for_file name request) input before after rows
    (subst Q (sym (cond-false request.rows request.settings (settings_for (named name) request.settings) rows))
    (subst P e converts))

-- rows of a file have no name
named_rows : (name : List ℕ) (request : Request) → request.rows ≡ true
    → request.settings ≡ (request_for_file name request).settings
named_rows name request rows =
    sym (cond-true request.rows request.settings (settings_for (named name) request.settings) rows)

pub file_rows : (name : List ℕ) (request : Request) (input before after : Option (List ℕ)) → request.rows ≡ true
    → Succeeds request input before after → Succeeds (request_for_file name request) input before after
file_rows name request input before after rows done =
    let P : Settings → Type 0 = λ s. MatchBool request.rows (ConvertsRows s input before after)
    (Converts s input before after) in
    subst P (named_rows name request rows) done

pub file_answers : (name : List ℕ) (request : Request) (input before after : Option (List ℕ))
    → request.rows ≡ true
    → AnswersSome request input before after → AnswersSome (request_for_file name request) input before after
file_answers name request input before after rows some =
    let P : Settings → Type 0 = λ s. AnswersFirst s input before after in
    subst P (named_rows name request rows) some

-- ---- what a run adds for a page

-- a page has a path in a folder, or none
pub url_at : (page : Page) (path : String Global) (text : List ℕ) (base : Option Parts)
    → page.path_in_folder ≡ Some path → text ≡ string_bytes path
    → url_in_folder base text ≡ own_url base page
url_at page path text base p t =
    ap (url_in_folder base) t
    ∙ ap (λ (o : Option (String Global)). option_and_then (url_in_folder base) (option_map (λ s. string_bytes s) o))
    (sym p)

pub no_url : (page : Page) (base : Option Parts) → page.path_in_folder ≡ None → None ≡ own_url base page
no_url page base p =
    ap (λ (o : Option (String Global)). option_and_then (url_in_folder base) (option_map (λ s. string_bytes s) o))
    (sym p)

-- the run is told, or there is none
abbrev own_by : List ℕ → List ℕ → Option (List ℕ) → OwnPage
own_by input output path = record { input = input; output = output; path_in_folder = path }

by_paths : (page : Page) (input output : List ℕ) (path : Option (List ℕ)) → input ≡ string_bytes page.input
    → output ≡ string_bytes page.output → path ≡ path_in_folder page
    → own_by input output path ≡ own_page page
by_paths page input output path e f g =
    ap (λ i. own_by i output path) e
    ∙ (ap (λ o. own_by (string_bytes page.input) o path) f
    ∙ ap (own_by (string_bytes page.input) (string_bytes page.output)) g)

abbrev run_by : List PageValue → OwnPage → RunPage
run_by pages own = record { pages = pages; own = own }

pub run_told : (pages : Option (Bor Pages)) (led : Bor Pages) (page : Page) (input output : List ℕ)
    (path : Option (List ℕ)) → pages ≡ Some led → input ≡ string_bytes page.input
    → output ≡ string_bytes page.output → path ≡ path_in_folder page
    → Some (run_by (pages_in led.now) (own_by input output path)) ≡ run_page_in (pages_led pages) page
run_told pages led page input output path p e f g =
    ap (λ (own : OwnPage). Some (run_by (pages_in led.now) own)) (by_paths page input output path e f g)
    ∙ ap (λ (o : Option (Bor Pages)). run_page_in (pages_led o) page) (sym p)

pub run_untold : (pages : Option (Bor Pages)) (page : Page) → pages ≡ None
    → None ≡ run_page_in (pages_led pages) page
run_untold pages page p = ap (λ (o : Option (Bor Pages)). run_page_in (pages_led o) page) (sym p)

-- pages that are lent
pub led_copied : (led : Option (Bor Pages))
    → option_map (λ kept. pages_in kept.now) led ≡ option_map pages_in (option_copied led)
led_copied None = refl
led_copied (Some led) = refl

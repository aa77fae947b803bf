-- Worked rows: names, paths, words and plans.
use Rattle.std.proofs.Common.{◌≡◌, ℕ, true, false, List, [], ◌∷◌, Option, Some, None, Ok, Err, refl}
use Rattle.std.specs.Prelude.{codes}
use Rattle.htmd_files.specs.Names.{Naming, html, markdown, is_hidden, is_page, with_extension}
use Rattle.htmd_files.specs.Paths.{normal, is_same, place, is_below, file_name}
use Rattle.htmd_files.specs.Relative.{relative}
use Rattle.htmd_files.specs.Words as words
use Rattle.htmd_files.specs.FilePlans as spec

-- ---- names

page-html : is_page html (codes "a/b.HTML") ≡ true
page-html = refl

page-xhtml : is_page html (codes "b.xhtml") ≡ true
page-xhtml = refl

page-htmlx : is_page html (codes "b.htmlx") ≡ false
page-htmlx = refl

page-markdown : is_page markdown (codes "a.html/b.MarkDown") ≡ true
page-markdown = refl

page-markdown_html : is_page markdown (codes "b.html") ≡ false
page-markdown_html = refl

page-html_markdown : is_page html (codes "b.md") ≡ false
page-html_markdown = refl

page-folder : is_page html (codes "a.html/b") ≡ false
page-folder = refl

hidden-folder : is_hidden (codes "a/.git/config") ≡ true
hidden-folder = refl

hidden-not : is_hidden (codes "a.b/c.") ≡ false
hidden-not = refl

abbrev of_html : List ℕ → Naming
of_html extension = record { kind = html; extension = extension }

abbrev of_markdown : List ℕ → Naming
of_markdown extension = record { kind = markdown; extension = extension }

name-html : with_extension (of_html (codes "md")) (codes "a.b/c.d.htm") ≡ codes "a.b/c.d.md"
name-html = refl

name-markdown : with_extension (of_markdown (codes "html")) (codes "a.md/c.MD") ≡ codes "a.md/c.html"
name-markdown = refl

name-same : with_extension (of_markdown (codes "md")) (codes "a.markdown") ≡ codes "a.md"
name-same = refl

name-html_in_markdown : with_extension (of_markdown (codes "md")) (codes "a.html") ≡ codes "a.html.md"
name-html_in_markdown = refl

name-other : with_extension (of_html (codes "jsonl")) (codes "notes.txt") ≡ codes "notes.txt.jsonl"
name-other = refl

-- ---- paths

normal-relative : normal (codes "./a//b/../c/") ≡ codes "a/c"
normal-relative = refl

normal-up : normal (codes "../../a/..") ≡ codes "../.."
normal-up = refl

normal-root : normal (codes "/../a/.") ≡ codes "/a"
normal-root = refl

normal-here : normal (codes ".") ≡ []
normal-here = refl

same-not : is_same (codes "a") (codes "/a") ≡ false
same-not = refl

below-here : is_below (place (codes ".")) (place (codes "a.md")) ≡ true
below-here = refl

below-up : is_below (place (codes "out")) (place (codes "out/../a.md")) ≡ false
below-up = refl

below-above : is_below (place (codes "..")) (place (codes "../../a.md")) ≡ false
below-above = refl

name-last : file_name (place (codes "a/b.html/")) ≡ Some (codes "b.html")
name-last = refl

name-up : file_name (place (codes "a/../..")) ≡ None
name-up = refl

relative-beside : relative (codes "out/a/b.md") (codes "./out/c/d.md") ≡ Some (codes "../c/d.md")
relative-beside = refl

relative-same_folder : relative (codes "a/b.md") (codes "a/c.md") ≡ Some (codes "c.md")
relative-same_folder = refl

relative-above : relative (codes "../a.md") (codes "b.md") ≡ None
relative-above = refl

relative-root : relative (codes "/a.md") (codes "a.md") ≡ None
relative-root = refl

-- ---- words

abbrev asked : List (List ℕ) → Option (List ℕ) → List (List ℕ) → words.Job
asked operands output options = record words.no_job { operands = operands; output = output; options = options }

words-folder : words.job (codes "--web" ∷ codes "-o" ∷ codes "out" ∷ codes "site/" ∷ [])
    ≡ Ok (asked (codes "site/" ∷ []) (Some (codes "out")) (codes "--web" ∷ []))
words-folder = refl

words-none : words.job (codes "--html5" ∷ codes "--none" ∷ [])
    ≡ Ok (asked [] None (codes "--html5" ∷ codes "--none" ∷ []))
words-none = refl

words-input : words.job (codes "-oa.md" ∷ []) ≡ Ok (asked (codes "-" ∷ []) (Some (codes "a.md")) [])
words-input = refl

words-standard : words.job (codes "--output=-" ∷ codes "a.html" ∷ []) ≡ Ok (asked (codes "a.html" ∷ []) None [])
words-standard = refl

words-dashes : words.job (codes "--" ∷ codes "-o" ∷ codes "--" ∷ [])
    ≡ Ok (asked (codes "-o" ∷ codes "--" ∷ []) None [])
words-dashes = refl

words-no_value : words.job (codes "a.html" ∷ codes "-o" ∷ []) ≡ Err (words.no_value (codes "-o"))
words-no_value = refl

words-twice : words.job (codes "-o" ∷ codes "a" ∷ codes "--output=b" ∷ [])
    ≡ Err (words.twice (codes "a") (codes "b"))
words-twice = refl

words-links : words.job (codes "--links=md" ∷ codes "-oout" ∷ codes "a.html" ∷ [])
    ≡ Ok (record (asked (codes "a.html" ∷ []) (Some (codes "out")) []) { links_to_markdown = true })
words-links = refl

-- what counts only for outputs needs `-o`, with another name than `-`
words-useless : words.job (codes "--copy" ∷ codes "-o-" ∷ codes "a.html" ∷ [])
    ≡ Err (words.needs_output (codes "--copy"))
words-useless = refl

words-newer : words.job (codes "-oout" ∷ codes "--newer" ∷ codes "site" ∷ [])
    ≡ Ok (record (asked (codes "site" ∷ []) (Some (codes "out")) []) { keeps_newer = true })
words-newer = refl

words-copy : words.job (codes "--copy" ∷ codes "-o" ∷ codes "out" ∷ codes "site" ∷ [])
    ≡ Ok (record (asked (codes "site" ∷ []) (Some (codes "out")) []) { copies = true })
words-copy = refl

-- the HTML of Markdown keeps links as they are
words-links_stay : words.job
    (codes "--html" ∷ codes "--links=md" ∷ codes "--from-markdown" ∷ codes "-oout" ∷ codes "a" ∷ [])
    ≡ Err (words.links_stay (codes "--links=md"))
words-links_stay = refl

words-base_of_html : words.job (codes "--from-markdown" ∷ codes "--base=https://a/" ∷ codes "--html" ∷ [])
    ≡ Err (words.links_stay (codes "--base"))
words-base_of_html = refl

words-base : words.job (codes "--from-markdown" ∷ codes "--base=https://a/" ∷ [])
    ≡ Ok (asked [] None (codes "--from-markdown" ∷ codes "--base=https://a/" ∷ []))
words-base = refl

words-links_as_text : words.job (codes "--links=text" ∷ [])
    ≡ Ok (record words.no_job { options = codes "--links=text" ∷ [] })
words-links_as_text = refl

words-links_to_html : words.job (codes "--links=html" ∷ []) ≡ Err (words.links (codes "--links=html"))
words-links_to_html = refl

words-links_to_nothing : words.job (codes "--links" ∷ []) ≡ Err (words.links (codes "--links"))
words-links_to_nothing = refl

-- ---- plans

abbrev site : spec.Operand
site = spec.folder (codes "site") (codes "z.html" ∷ codes "b/a.HTM" ∷ codes "a.png" ∷ codes "a.xhtml" ∷ [])

abbrev named : List ℕ → Option spec.Destination
named path = Some (record { path = path; is_folder = false; naming = of_html (codes "md"); copies = false })

abbrev to_folder : List ℕ → Option spec.Destination
to_folder path = Some (record { path = path; is_folder = true; naming = of_html (codes "md"); copies = false })

-- the page of a file
abbrev page : List ℕ → List ℕ → spec.Page
page input output = record { input = input; output = output; path_in_folder = None; is_copy = false }

-- a page of a folder, which has this path there
abbrev page_at : List ℕ → List ℕ → List ℕ → spec.Page
page_at path input output =
    record { input = input; output = output; path_in_folder = Some path; is_copy = false }

-- a file of a folder that is copied
abbrev copy_at : List ℕ → List ℕ → List ℕ → spec.Page
copy_at path input output = record { input = input; output = output; path_in_folder = Some path; is_copy = true }

abbrev copied_to : List ℕ → Option spec.Destination
copied_to path = Some (record { path = path; is_folder = true; naming = of_html (codes "md"); copies = true })

plan-folder : spec.plan (site ∷ spec.file (codes "./c.html") ∷ []) (to_folder (codes "out"))
    ≡ Ok (spec.files (page_at (codes "a.xhtml") (codes "site/a.xhtml") (codes "out/a.md")
    ∷ page_at (codes "b/a.HTM") (codes "site/b/a.HTM") (codes "out/b/a.md")
    ∷ page_at (codes "z.html") (codes "site/z.html") (codes "out/z.md")
    ∷ page (codes "./c.html") (codes "out/c.md") ∷ []))
plan-folder = refl

plan-copies : spec.plan (site ∷ []) (copied_to (codes "out"))
    ≡ Ok (spec.files (page_at (codes "a.xhtml") (codes "site/a.xhtml") (codes "out/a.md")
    ∷ page_at (codes "b/a.HTM") (codes "site/b/a.HTM") (codes "out/b/a.md")
    ∷ page_at (codes "z.html") (codes "site/z.html") (codes "out/z.md")
    ∷ copy_at (codes "a.png") (codes "site/a.png") (codes "out/a.png") ∷ []))
plan-copies = refl

-- what is below an output in the folder isn't copied, nor what isn't finished or is hidden
plan-copies_within : spec.plan
    (spec.folder (codes "a")
    (codes "o/b.png" ∷ codes "b.md.0.htmd-partial" ∷ codes ".c" ∷ codes "p/b" ∷ []) ∷ [])
    (copied_to (codes "a/o"))
    ≡ Ok (spec.files (copy_at (codes "p/b") (codes "a/p/b") (codes "a/o/p/b") ∷ []))
plan-copies_within = refl

-- an output above the folder isn't in it
plan-copies_above : spec.plan (spec.folder (codes "a") (codes "b" ∷ []) ∷ []) (copied_to (codes "."))
    ≡ Ok (spec.files (copy_at (codes "b") (codes "a/b") (codes "./b") ∷ []))
plan-copies_above = refl

plan-copies_shared : spec.plan (spec.folder (codes "a") (codes "b.html" ∷ codes "b.md" ∷ []) ∷ [])
    (copied_to (codes "out"))
    ≡ Err (spec.shared (codes "a/b.html") (codes "a/b.md") (codes "out/b.md"))
plan-copies_shared = refl

-- of Markdown, pages are what ends so, and what ends as HTML is copied
plan-markdown : spec.plan
    (spec.folder (codes "a") (codes "c.markdown" ∷ codes "b.html" ∷ codes "b.MD" ∷ []) ∷ [])
    (Some (record { path = codes "out"; is_folder = true; naming = of_markdown (codes "html"); copies = true }))
    ≡ Err (spec.shared (codes "a/b.MD") (codes "a/b.html") (codes "out/b.html"))
plan-markdown = refl

plan-markdown_in_place : spec.plan (spec.file (codes "a.md") ∷ [])
    (Some (record { path = codes "."; is_folder = true; naming = of_markdown (codes "md"); copies = false }))
    ≡ Err (spec.overwritten (codes "a.md") (codes "./a.md"))
plan-markdown_in_place = refl

plan-json : spec.plan (spec.file (codes "a.html") ∷ [])
    (Some (record { path = codes "b"; is_folder = true; naming = of_html (codes "json"); copies = false }))
    ≡ Ok (spec.files (page (codes "a.html") (codes "b/a.json") ∷ []))
plan-json = refl

plan-one : spec.plan (spec.file (codes "a.html") ∷ []) (named (codes "b.md"))
    ≡ Ok (spec.files (page (codes "a.html") (codes "b.md") ∷ []))
plan-one = refl

plan-slash : spec.plan (spec.file (codes "a.html") ∷ []) (named (codes "b/"))
    ≡ Ok (spec.files (page (codes "a.html") (codes "b/a.md") ∷ []))
plan-slash = refl

plan-standard : spec.plan (spec.file (codes "a.html") ∷ []) None ≡ Ok (spec.standard_output (codes "a.html"))
plan-standard = refl

plan-several : spec.plan (site ∷ spec.standard_input ∷ []) None ≡ Err (spec.several (codes "site") (codes "-"))
plan-several = refl

plan-shared : spec.plan (spec.file (codes "a/b.html") ∷ spec.file (codes "c/b.htm") ∷ []) (to_folder (codes "out"))
    ≡ Err (spec.shared (codes "a/b.html") (codes "c/b.htm") (codes "out/b.md"))
plan-shared = refl

plan-overwritten : spec.plan (spec.file (codes "a.html") ∷ [])
    (named (codes "./x/../a.html"))
    ≡ Err (spec.overwritten (codes "a.html") (codes "./x/../a.html"))
plan-overwritten = refl

plan-outside : spec.plan (spec.folder (codes "a") (codes "../b.html" ∷ []) ∷ []) (to_folder (codes "out"))
    ≡ Err (spec.outside (codes "a/../b.html") (codes "out/../b.md") (codes "out"))
plan-outside = refl

plan-no_name : spec.plan (spec.standard_input ∷ []) (to_folder (codes "out")) ≡ Err (spec.no_name (codes "-"))
plan-no_name = refl

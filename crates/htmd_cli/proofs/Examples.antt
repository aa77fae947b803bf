-- Worked examples of what the program writes.
use Rattle.std.proofs.Common.{◌≡◌, ℕ, List, [], ◌∷◌, true, false, codes, refl, None, Some, is_some}
use Rattle.htmd.specs.Items.{Item}
use Rattle.htmd_selectors.specs.Reading.{read}
use Rattle.htmd.specs.Blocks.{is_block}
use Rattle.htmd.specs.NumberedTrees.{tree_of, forest_from}
use Rattle.htmd.specs.Ancestors.{ancestors_of, ancestors_up}
use Rattle.htmd.specs.Rendering.{written_within}
use Rattle.htmd.specs.Markdown.{markdown}
use Rattle.htmd.specs.Choice.{Config}
use Rattle.htmd.specs.BuiltIn.{built_in}
use Rattle.htmd.specs.PageSettings.{Settings, default_settings}
use Rattle.htmd_cli.specs.ModeRuns.{options_of}
use Rattle.htmd_cli.specs.Options.{Request, after, default_request, extension, meaning, known_options}
use Rattle.htmd.specs.PageChanges.{head_of, part_of}
use Rattle.htmd.specs.PageOutputs.{paragraph, paragraph_markdown, paragraph_output, after_head, config_of}
use Rattle.htmd.specs.PageOutputs.{tree_markdown, tree_output}

abbrev plain : Config
plain = built_in (options_of false)

abbrev faithful : Config
faithful = built_in (options_of true)

-- white space is squeezed, and emphasis escaped; nothing for nothing; `---` stays
paragraphs : (paragraph_output plain (codes "a\n\n  b *c*\n") ≡ codes "a b \\*c\\*\n")
    × (paragraph_output plain (codes "") ≡ codes "\n")
    × (paragraph_output plain (codes "--- a") ≡ codes "--- a\n")
unfolding paragraph_markdown markdown written_within tree_of forest_from ancestors_of ancestors_up is_block
paragraphs = (refl, refl, refl)

-- a text has nothing that Faithful would write otherwise
faithful_paragraphs : (text : List ℕ) → paragraph_output faithful text ≡ paragraph_output plain text
unfolding paragraph_markdown markdown written_within tree_of forest_from ancestors_of ancestors_up is_block
faithful_paragraphs [] = refl
faithful_paragraphs (b ∷ s) = refl

-- by the handlers a text becomes the Markdown of its paragraph
texts : (settings : Settings) (text : List ℕ) → settings.chunks ≡ None → settings.guarded ≡ false
    → settings.mdast ≡ false
    → tree_output settings [] (paragraph text) ≡ paragraph_markdown (config_of settings) text
unfolding tree_output tree_markdown paragraph_markdown
texts settings text c g m = rw (c, g, m) refl

-- what is asked for after this option
abbrev by : List ℕ → Request → Request
by given = after (meaning known_options given)

-- `--web` is `--html5` and `--guarded` in one word; of `--guarded` and `--faithful` the last one counts
options : (request : Request) → (by (codes "--web") request ≡ by (codes "--guarded") (by (codes "--html5") request))
    × ((by (codes "--faithful") (by (codes "--guarded") request)).settings.guarded ≡ false)
    × ((by (codes "--guarded") (by (codes "--faithful") request)).settings.guarded ≡ true)
options request = (refl, refl, refl)

-- `--chunks` is `--chunks=2000`; a size is 1 or more
sizes : (by (codes "--chunks") default_request ≡ by (codes "--chunks=2000") default_request)
    × ((by (codes "--chunks=500") default_request).settings.chunks ≡ Some 500)
    × (is_some (meaning known_options (codes "--chunks=0")) ≡ false)
    × (is_some (meaning known_options (codes "--chunks=18446744073709551615")) ≡ true)
    × (is_some (meaning known_options (codes "--chunks=18446744073709551616")) ≡ false)
sizes = (refl, refl, refl, refl, refl)

-- outputs are named by what is written, whatever else is asked for
names : (extension default_settings ≡ codes "md")
    × (extension (by (codes "--mdast") default_request).settings ≡ codes "json")
    × (extension (by (codes "--chunks") (by (codes "--mdast") default_request)).settings ≡ codes "jsonl")
names = (refl, refl, refl)

-- without further options a page stays as it is
unchanged : (page : List Item) → (head_of default_settings page ≡ [])
    × (part_of default_settings page ≡ Some page)
unchanged page = (refl, refl)

-- selectors that are given add up, as if a comma stood between them
selectors : (by (codes "--drop=.b") (by (codes "--drop=a") default_request)).settings.dropped
    ≡ (by (codes "--drop=a,.b") default_request).settings.dropped
unfolding read
selectors = refl

-- what the head says stands between two lines, if it says anything
heads : (after_head (codes "lang: \"en\"\n") (codes "a") ≡ codes "---\nlang: \"en\"\n---\n\na")
    × (after_head [] (codes "a") ≡ codes "a")
heads = (refl, refl)

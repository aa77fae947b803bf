-- The handler of h1 to h6.
use Rattle.std.specs.Prelude.{ℕ, if◌then◌else◌, List, Option, codes}
use Rattle.std.specs.Str.{bytes_eq}
use Rattle.htmd_markdown.specs.Headings.{heading}
use Rattle.htmd_walk.specs.Handling.{ElementView, ResultView, HandlerMeaning, of_plan}
use Rattle.htmd_walk.specs.ElementPlans.{tag_of, children_plan, markdown_result}

-- the level that a tag names
abbrev pub level_of : List ℕ → ℕ
level_of tag =
    if bytes_eq tag (codes "h1") then 1
    else (if bytes_eq tag (codes "h2") then 2
    else (if bytes_eq tag (codes "h3") then 3
    else (if bytes_eq tag (codes "h4") then 4
    else (if bytes_eq tag (codes "h5") then 5 else 6))))

abbrev pub heading_result : ElementView → ResultView → Option ResultView
heading_result view content =
    markdown_result (heading view.options.heading_style (level_of (tag_of view)) content.content)

abbrev pub headings : HandlerMeaning
headings = of_plan children_plan heading_result

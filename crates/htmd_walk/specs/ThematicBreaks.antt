-- The handler of hr.
use Rattle.htmd_markdown.specs.ThematicBreaks.{thematic_break}
use Rattle.htmd_walk.specs.Handling.{ElementView, HandlerMeaning}
use Rattle.htmd_walk.specs.ElementPlans.{text_alone}

abbrev pub thematic_breaks : HandlerMeaning
thematic_breaks = text_alone (λ (view : ElementView). thematic_break view.options.hr_style)

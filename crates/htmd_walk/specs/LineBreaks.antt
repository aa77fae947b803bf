-- The handler of br.
use Rattle.htmd_markdown.specs.LineBreaks.{line_break}
use Rattle.htmd_walk.specs.Handling.{ElementView, HandlerMeaning}
use Rattle.htmd_walk.specs.ElementPlans.{text_alone}

abbrev pub line_breaks : HandlerMeaning
line_breaks = text_alone (λ (view : ElementView). line_break view.options.br_style)

-- The handler of blockquote.
use Rattle.std.specs.Prelude.{Option}
use Rattle.htmd_markdown.specs.Quotes.{quote}
use Rattle.htmd_walk.specs.Handling.{ResultView, HandlerMeaning, of_plan}
use Rattle.htmd_walk.specs.ElementPlans.{children_plan, markdown_result}

abbrev pub quote_result : ResultView → Option ResultView
quote_result content = markdown_result (quote content.content)

abbrev pub quotes : HandlerMeaning
quotes = of_plan children_plan (λ view content. quote_result content)

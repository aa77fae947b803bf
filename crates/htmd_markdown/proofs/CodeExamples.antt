-- Worked examples of code. Each holds by computing.
use Rattle.std.proofs.Common.{◌≡◌, refl, true, false, [], Some, None, codes}
use Rattle.htmd_markdown.specs.declared.fence.CodeBlockFence.TheVariants.{Tildes, Backticks}
use Rattle.htmd_markdown.specs.CodeSpans.{code_span}
use Rattle.htmd_markdown.specs.CodeSpanReading.{read_span}
use Rattle.htmd_markdown.specs.Fences.{fenced_code_block}
use Rattle.htmd_markdown.specs.FenceReading.{read_fence}
use Rattle.htmd_markdown.specs.IndentedCode.{indented_code_block}

pub backquote_at_the_end : code_span false (codes "a`") ≡ codes "`` a` ``"
backquote_at_the_end = refl

pub smallest_unused_delimiter : code_span false (codes "a``b") ≡ codes "`a``b`"
smallest_unused_delimiter = refl

pub preformatted_spaces : code_span true (codes " foo ") ≡ codes "`  foo  `"
preformatted_spaces = refl

pub preformatted_line_feeds : code_span true (codes "\n a\n") ≡ codes "`   a  `"
preformatted_line_feeds = refl

pub span_read : read_span (codes "x `` a`\r\nb `` y") ≡ Some (codes "a` b")
span_read = refl

pub no_span : read_span (codes "``") ≡ None
no_span = refl

pub carriage_return_stays : fenced_code_block (codes "a\r") None Backticks ≡ codes "```\na\r\n```"
carriage_return_stays = refl

pub one_more_tilde : fenced_code_block (codes "~~~~~\nx") None Tildes ≡ codes "~~~~~~\n~~~~~\nx\n~~~~~~"
one_more_tilde = refl

pub carriage_return_read : read_fence (codes "```\na\r\n```") ≡ Some (codes "a\r")
carriage_return_read = refl

pub empty_line_read : read_fence (codes "```\n\n```") ≡ Some []
empty_line_read = refl

pub no_line_read : read_fence (codes "~~~ rs\n   ~~~~ \n") ≡ Some []
no_line_read = refl

pub never_closed : read_fence (codes "```\n``\n    ```\n~~~") ≡ None
never_closed = refl

pub backquote_in_the_info_string : read_fence (codes "``` `\na\n```") ≡ None
backquote_in_the_info_string = refl

pub each_line_indented : indented_code_block (codes "a\n\nb\n") ≡ codes "    a\n    \n    b"
each_line_indented = refl

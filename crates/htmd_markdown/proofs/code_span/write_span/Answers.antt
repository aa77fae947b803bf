-- The delimiters are found in the text as it is, and the span reads back.
use Rattle.std.proofs.Common.{◌≡◌, ℕ, false, List, IfOk, ap, subst, sym, ◌∙◌, string_bytes}
use Rattle.std.specs.Prelude.{◌||◌, Some}
use Rattle.htmd_text.specs.Trims.{trimmed_text}
use Rattle.htmd_lexical.specs.WhiteSpace.{is_document_white_space}
use Rattle.htmd_markdown.specs.CodeSpans.{code_span, delimited_text, delimiter_len, meets_delimiter}
use Rattle.htmd_markdown.specs.CodeSpanReading.{read_span, line_ends_as_spaces}
use Rattle.htmd_markdown.proofs.ResultLemmas.{of_answer}
use Rattle.htmd_markdown.proofs.CodeSpansLemmas.{code_span-reads_back}
use Rattle.htmd_markdown.proofs.OneLineLemmas.{code_span-in_one_line}
use Rattle.htmd_markdown.proofs.code_span.write_span.Goals as goal

pub returns-then-preformatted_code-clause-span : goal.returns-then-preformatted_code-clause-span
returns-then-preformatted_code-clause-span c =
    let s = c.args.content.now in
    let same = code_span-in_one_line s ∙ ap (λ t. code_span t s) (sym c.if-preformatted_code.true) in
    subst (λ (l : List ℕ). IfOk c.write_delimited.result (λ t. string_bytes t ≡ l)) same c.write_delimited.ensures

pub returns-else-preformatted_code-clause-reads_back : goal.returns-else-preformatted_code-clause-reads_back
returns-else-preformatted_code-clause-reads_back c =
    let s = c.args.content.now in
    let text = trimmed_text is_document_white_space s in
    let same =
    ap (λ (l : List ℕ). delimited_text (meets_delimiter l || false)
    (delimiter_len l) l) c.trim_document_whitespace.ensures in
    let span =
    subst (λ (l : List ℕ). IfOk c.write_delimited-else-preformatted_code.result
    (λ t. string_bytes t ≡ l)) same c.write_delimited-else-preformatted_code.ensures in
    λ off some. of_answer (λ t. string_bytes t) c.write_delimited-else-preformatted_code.result (code_span false s)
    (λ l. read_span l ≡ Some (line_ends_as_spaces text)) (code_span-reads_back s some) span

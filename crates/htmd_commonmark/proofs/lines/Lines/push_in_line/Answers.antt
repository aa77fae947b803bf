-- The line has its prefix, and then the text.
use Rattle.std.proofs.Common.{◌≡◌, ◌++◌, List, ℕ, length, drop, replicate, sym, ap, ◌∙◌, rules}
use Rattle.std.proofs.Common.{string_bytes, string_len}
use Rattle.htmd_lexical.specs.Characters.{space}
use Rattle.htmd_commonmark.specs.Pages.{Page, wrote}
use Rattle.htmd_commonmark.proofs.PagesLemmas.{pushed_page, text_pushed}
use Rattle.htmd_commonmark.proofs.lines.Lines.push_in_line.Goals as goal

pub returns : goal.returns
returns c =
    let s = c.args.text.now in
    let inside = c.self.inside in
    let page : Page = record {
      out = string_bytes inside.out;
      prefix = string_bytes inside.prefix;
      written = inside.written;
      gap = inside.gap;
    } in
    let text : string_bytes c.push_due.new.out ≡ string_bytes inside.out
    ++ (replicate inside.gap space ++ drop inside.written (string_bytes inside.prefix)) =
    c.in_ok-push_due.ensures
    ∙ ap (λ l. string_bytes inside.out ++ (replicate inside.gap space ++ drop inside.written l)) c.deref.ensures in
    let size : string_len inside.prefix ≡ length (string_bytes inside.prefix) = search rules in
    let as_page : List ℕ → Page = λ l. record {
      out = l;
      prefix = string_bytes inside.prefix;
      written = c.len-self-inside.result;
      gap = 0;
    } in
    pushed_page c.push_str.result as_page (string_bytes c.push_str.new.self)
    (string_bytes c.push_due.new.out ++ s) (string_bytes c.push_due.new.out) (wrote c.args.self.now s)
    c.push_str.ensures.bytes
    (ap (λ l. as_page (l ++ s)) text
    ∙ ap (λ n. record {
      out = (string_bytes inside.out
          ++ (replicate inside.gap space ++ drop inside.written (string_bytes inside.prefix))) ++ s;
      prefix = string_bytes inside.prefix;
      written = n;
      gap = 0;
    }) (c.len-self-inside.ensures ∙ size)
    ∙ text_pushed page s (sym c.is_empty.ensures ∙ c.if-is_empty.false) c.requires
    ∙ ap (λ p. wrote p s) c.self.view_is)

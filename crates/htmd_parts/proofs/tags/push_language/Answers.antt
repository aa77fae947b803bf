-- The attribute in three parts.
use Rattle.std.proofs.Common.{◌++◌, ◌∙◌, ap, sym, codes, string_bytes}
use Rattle.std.proofs.lemmas.Result.{on_ok_weaker}
use Rattle.htmd_document.specs.DocumentViews.{bytes_of_title}
use Rattle.htmd_commonmark_reading.specs.Rendering.{escaped, language_attribute}
use Rattle.htmd_parts.proofs.PartLemmas.{in-three}
use Rattle.htmd_parts.proofs.tags.push_language.Goals as goal

pub returns : goal.returns
returns c =
    let out = string_bytes c.args.out.now in
    on_ok_weaker c.push_str-2.result
    (λ e. e ∙ sym (ap (λ t. out ++ language_attribute (bytes_of_title t)) c.in-Some.is))
    (in-three c.push_str-2.result out (string_bytes c.push_str.new.self) (string_bytes c.push_text.new.out)
    (string_bytes c.push_str-2.new.self) (codes " class=\"language-") (escaped (string_bytes c.in-Some.language))
    (codes "\"") c.in_ok-push_str.ensures.bytes
    (c.in_ok-push_text.ensures ∙ ap (λ s. string_bytes c.push_str.new.self ++ escaped s) c.deref.ensures)
    c.push_str-2.ensures.bytes)

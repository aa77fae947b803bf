-- What is left to prove of `read_raw_text`.
use Rattle.std.proofs.Common.{◌≡◌, ◌∙◌, ◌∷◌, [], false, true, length, codes, ap, sym}
use Rattle.std.specs.Prelude.{◌&&◌, string_bytes}
use Rattle.std.specs.Str.{bytes_eq}
use Rattle.htmd_values.specs.ValueTrees.{text}
use Rattle.htmd_lexical.specs.CharacterClasses.{is_among, up_to}
use Rattle.htmd_grammar.specs.HtmlDocuments.{above_body}
use Rattle.htmd_lexical.specs.EndTags.{begins_own_end}
use Rattle.htmd_grammar.specs.RawContent.{has_script_escape}
use Rattle.htmd_grammar.specs.ReaderSteps.{add}
use Rattle.htmd_grammar.specs.declared.fault.FaultKind.TheVariants.{ScriptEscape}
use Rattle.htmd_tree.specs.Advances.{rules_of}
use Rattle.htmd_tree.specs.OpenNodes.{innermost_name}
use Rattle.htmd_tree.proofs.RawContentLemmas.{raw_cut}
use Rattle.htmd_tree.proofs.TagAnswersLemmas.{refused_follows, same_follows}
use Rattle.htmd_tree.proofs.TextsLemmas.{raw_text_is, raw_text_escapes, script_with, no_script}
use Rattle.htmd_tree.proofs.reader.Reader.read_raw_text.Goals as goal
use Rattle.htmd_tree.proofs.reader.Reader.read_raw_text.Goals.{else-eq-via-then-eq+else-has_script_escape}
use Rattle.htmd_tree.proofs.reader.Reader.read_raw_text.Goals.{else-eq-via-else-eq}

pub split_at-requires : goal.split_at-requires
split_at-requires c =
    raw_cut c.innermost_name-name.result.now c.args.self.now.rest.now c.raw_content_len-len.result
    (c.raw_content_len-len.ensures.value
    ∙ ap (λ m. length (up_to (begins_own_end m) c.as_bytes.result.now)) c.as_bytes-2.ensures.value
    ∙ ap (λ x. length (up_to (begins_own_end c.innermost_name-name.result.now) x)) c.as_bytes.ensures.value)

pub returns-then-has_script_escape-clause-follows : goal.returns-then-has_script_escape-clause-follows
returns-then-has_script_escape-clause-follows c = λ has_doctype fs holds raw.
    let old = c.args.self.now in
    let name = c.innermost_name-name.ensures has_doctype fs holds in
    let size = c.raw_content_len-len.ensures.value
    ∙ ap (λ m. length (up_to (begins_own_end m) c.as_bytes.result.now)) (c.as_bytes-2.ensures.value ∙ name)
    ∙ ap (λ x. length (up_to (begins_own_end (innermost_name fs)) x)) c.as_bytes.ensures.value in
    let escape = ap has_script_escape (sym c.as_bytes-then-eq.ensures.value) ∙ sym c.has_script_escape.ensures
    ∙ c.if-has_script_escape.true in
    let script = ap (λ n. bytes_eq n (codes "script")) (sym name) ∙ sym c.eq.ensures ∙ c.if-eq.true in
    refused_follows old old has_doctype c.refused.result ScriptEscape _ c.refused.ensures
    (sym (raw_text_escapes old.scripting fs old.rest.now c.split_at.result.0.now c.split_at.result.1.now
    c.raw_content_len-len.result raw size c.split_at.ensures.front c.split_at.ensures.back
    (script_with (innermost_name fs) c.split_at.result.0.now true script escape)))

pub returns-clause-follows : goal.returns-clause-follows
returns-clause-follows c = λ has_doctype fs holds raw.
    let old = c.args.self.now in
    let name = c.innermost_name-name.ensures has_doctype fs holds in
    let content = c.split_at.result.0.now in
    let size = c.raw_content_len-len.ensures.value
    ∙ ap (λ m. length (up_to (begins_own_end m) c.as_bytes.result.now)) (c.as_bytes-2.ensures.value ∙ name)
    ∙ ap (λ x. length (up_to (begins_own_end (innermost_name fs)) x)) c.as_bytes.ensures.value in
    let right : (is_among (codes "script" ∷ []) (innermost_name fs) && has_script_escape content) ≡ false =
    elim c.else-eq.branch [
      | else-eq-via-then-eq+else-has_script_escape w ↦
          script_with (innermost_name fs) content false
          (ap (λ n. bytes_eq n (codes "script")) (sym name) ∙ sym c.eq.ensures ∙ w.if-eq.true)
          (ap has_script_escape (sym w.as_bytes-then-eq.ensures.value) ∙ sym w.has_script_escape.ensures
          ∙ w.if-has_script_escape.false)
      | else-eq-via-else-eq w ↦
          no_script (innermost_name fs) content
          (ap (λ n. bytes_eq n (codes "script")) (sym name) ∙ sym c.eq.ensures ∙ w.if-eq.false)
    ] in
    same_follows old c.add_leaf.new.self has_doctype c.add_leaf.result _
    (add (rules_of old) above_body fs (text (string_bytes c.in_ok-text.text)) c.split_at.result.1.now)
    (sym (raw_text_is old.scripting fs old.rest.now content c.split_at.result.1.now c.raw_content_len-len.result raw
    size c.split_at.ensures.front c.split_at.ensures.back right)
    ∙ ap (λ u. add (rules_of old) above_body fs (text u) c.split_at.result.1.now)
    (sym c.in_ok-text.ensures))
    (c.add_leaf.ensures.follows has_doctype fs holds)

-- What is left to prove of `read_html`.
use Rattle.std.proofs.Common.{◌-◌, ◌∷◌, [], Err, length, is_some, sym, subst}
use Rattle.htmd_grammar.specs.Comments.{behind_doctype}
use Rattle.htmd_lexical.specs.ByteOrderMarks.{behind_mark}
use Rattle.htmd_grammar.specs.Faults.{IsFault}
use Rattle.htmd_grammar.specs.Rules.{project}
use Rattle.htmd_grammar.specs.ReaderSteps.{body}
use Rattle.htmd_tree.specs.Advances.{Ends}
use Rattle.htmd_tree.proofs.DocumentsLemmas.{read_rightly, left_within, fault_right, fault_refuses, null_found}
use Rattle.htmd_tree.proofs.DocumentsLemmas.{null_lacks, nul_refuses, nul_is_right, same_refusal}
use Rattle.htmd_tree.proofs.reader.read_html.Goals as goal

pub returns-in-Some-clause-refused : goal.returns-in-Some-clause-refused
returns-in-Some-clause-refused c = λ place kind e t h.
    nul_refuses c.args.scripting c.args.text.now c.in-Some.place
    (null_found c.args.text.now c.first_null.result c.in-Some.place c.first_null.ensures c.in-Some.is) t h

pub returns-in-Some-clause-right : goal.returns-in-Some-clause-right
returns-in-Some-clause-right c = λ place kind e.
    nul_is_right c.args.scripting c.args.text.now c.in-Some.place place kind
    (null_found c.args.text.now c.first_null.result c.in-Some.place c.first_null.ensures c.in-Some.is)
    (same_refusal c.in-Some.place place _ kind e)

pub returns-in-Ok-read_content-clause-ok : goal.returns-in-Ok-read_content-clause-ok
returns-in-Ok-read_content-clause-ok c =
    let s = c.args.text.now in
    let n = c.in-Ok.ensures.ok in
    read_rightly c.in-Ok.reader c.read_content.new.self c.args.scripting s
    (c.steps_read_the_grammar.ensures.sound (project c.args.scripting))
    (null_lacks s c.first_null.result c.first_null.ensures c.in_default.is) (n.1) (n.2)
    (c.in-Ok-read_content.ensures.ends (is_some (behind_doctype (behind_mark s))) (body ∷ []) (n.0))

pub overflow_sub-result : goal.overflow_sub-result
overflow_sub-result c =
    let s = c.args.text.now in
    let n = c.in-Ok.ensures.ok in
    let has_doctype = is_some (behind_doctype (behind_mark s)) in
    left_within c.in-Ok.reader c.read_content.new.self c.args.scripting s c.in-Err-Refused.left
    c.in-Err-Refused.kind (n.1) (n.2)
    (subst (λ x. Ends c.in-Ok.reader c.read_content.new.self has_doctype (body ∷ []) (Err x))
    c.in-Err-Refused.field-0-is (c.in-Err-Refused.ensures.ends has_doctype (body ∷ []) (n.0)))
    (c.faults_are_right.ensures.rest (project c.args.scripting))

pub returns-clause-refused : goal.returns-clause-refused
returns-clause-refused c = λ place kind e t r.
    let s = c.args.text.now in
    let n = c.in-Ok.ensures.ok in
    let has_doctype = is_some (behind_doctype (behind_mark s)) in
    fault_refuses c.in-Ok.reader c.read_content.new.self c.args.scripting s c.in-Err-Refused.left
    c.in-Err-Refused.kind (n.1) (n.2)
    (subst (λ x. Ends c.in-Ok.reader c.read_content.new.self has_doctype (body ∷ []) (Err x))
    c.in-Err-Refused.field-0-is (c.in-Err-Refused.ensures.ends has_doctype (body ∷ []) (n.0)))
    (c.faults_are_right.ensures.refused (project c.args.scripting)) t r

pub returns-clause-right : goal.returns-clause-right
returns-clause-right c = λ place kind e.
    let s = c.args.text.now in
    let n = c.in-Ok.ensures.ok in
    let has_doctype = is_some (behind_doctype (behind_mark s)) in
    let q = same_refusal (length s - c.in-Err-Refused.left) place c.in-Err-Refused.kind kind e in
    subst (λ k. IsFault (project c.args.scripting) s place k) (q.1)
    (fault_right c.in-Ok.reader c.read_content.new.self c.args.scripting s c.in-Err-Refused.left
    c.in-Err-Refused.kind (n.1) (n.2)
    (subst (λ x. Ends c.in-Ok.reader c.read_content.new.self has_doctype (body ∷ []) (Err x))
    c.in-Err-Refused.field-0-is (c.in-Err-Refused.ensures.ends has_doctype (body ∷ []) (n.0)))
    (c.faults_are_right.ensures.rest (project c.args.scripting))
    (c.faults_are_right.ensures.right (project c.args.scripting))
    (null_lacks s c.first_null.result c.first_null.ensures c.in_default.is) place (sym (q.0)))

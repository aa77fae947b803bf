-- What is written is the output; what is said of a page is why it becomes nothing.
use Rattle.std.proofs.Common.{◌≤◌, ◌≡◌, ◌++◌, subst, length, drop, string_bytes, rules, IsUtf8}
use Rattle.htmd_c.specs.CallResults.{IsPageFailureOf}
use Rattle.htmd_c.specs.declared.failures.Failure.{Failure}
use Rattle.htmd_c.proofs.htmd_convert_page.Goals as goal

pub returns-in-Ok-clause-done : goal.returns-in-Ok-clause-done
returns-in-Ok-clause-done c q =
    let before = c.args.out.now in
    let by = c.in-Ok.ensures.ok in (
      by.0,
      by.1,
      record {
        output = string_bytes c.in-Ok.output;
        is_output = by.2;
        is_length = search rules;
        has_room = subst (λ t. length t ≤ length before) c.as_bytes.ensures.value
            (c.write_front.ensures.status.0 q);
        is_written = subst (λ t. c.write_front.new.out ≡ t ++ drop (length t) before) c.as_bytes.ensures.value
            (c.write_front.ensures.done q);
      },
    )

pub returns-in-Ok-clause-too_small : goal.returns-in-Ok-clause-too_small
returns-in-Ok-clause-too_small c q =
    let by = c.in-Ok.ensures.ok in (
      by.0,
      by.1,
      record {
        output = string_bytes c.in-Ok.output;
        is_output = by.2;
        is_length = search rules;
        has_no_room = search rules;
      },
    )

pub returns-in-Err-clause-not_utf8 : goal.returns-in-Err-clause-not_utf8
returns-in-Err-clause-not_utf8 c q =
    let P : Failure → Type 0 = λ f. IsPageFailureOf c.args.options.now c.args.page.now f in
    let by = subst P (c.report.ensures.not_utf8 q) c.in-Err.ensures.fault in
    let n : IsUtf8 c.args.page.now → ⊥ = by.2.1 in
    (n, c.report.ensures.place n q)

pub returns-in-Err-clause-nothing_selected : goal.returns-in-Err-clause-nothing_selected
returns-in-Err-clause-nothing_selected c q =
    let P : Failure → Type 0 = λ f. IsPageFailureOf c.args.options.now c.args.page.now f in
    subst P (c.report.ensures.nothing_selected q) c.in-Err.ensures.fault

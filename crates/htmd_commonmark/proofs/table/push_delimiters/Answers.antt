-- One more column.
use Rattle.std.proofs.Common.{◌≡◌, ◌++◌, [], ◌+◌, codes, length, get_or, sym, ap, ◌∙◌, lit<, rules, string_bytes}
use Rattle.std.proofs.Common.{⊎_elim, arith}
use Rattle.std.proofs.lemmas.Bool.{cases_lt}
use Rattle.std.proofs.lemmas.List.{append-nil, length_push}
use Rattle.std.proofs.lemmas.Slice.Zip.{zip_turn, zip_end}
use Rattle.htmd_commonmark.specs.TableLines.{dashes}
use Rattle.htmd_commonmark.proofs.TableLinesLemmas.{dashes_left, dashes-more, dashes-end, dashed-end}
use Rattle.htmd_commonmark.proofs.table.push_delimiters.Goals as goal

pub loop-alignment-preserved : goal.loop-alignment-preserved
loop-alignment-preserved c =
    let alignments = c.args.alignments.now in
    let widths = c.args.widths.now in
    let n = length c.loop-alignment.yielded in
    let out = string_bytes c.loop-alignment.out in
    let a = c.in-Some.alignment.now in
    let turn = zip_turn alignments widths c.loop-alignment.yielded c.into_iter-alignment-iterator.result
    c.loop-alignment.alignment-iterator c.next.new.self c.next.result (search rules) (search rules)
    c.loop-alignment.yielded_by _ c.in-Some.is c.next.ensures.steps in
    let written : string_bytes c.push_str-in-loop-alignment.new.self
    ≡ ((out ++ codes " ") ++ dashes a (get_or widths n 0)) ++ codes " |" =
    c.in_ok-push_str-2.ensures.bytes
    ∙ ap (λ l. l ++ codes " |") (c.in_ok-push_delimiter.ensures
    ∙ ap (λ l. l ++ dashes a c.in-Some.width.now) (c.in_ok-push.ensures.bytes
    ∙ ap (λ l. out ++ l) (c.in_ok-push.ensures.ascii (lit< tt)))
    ∙ ap (λ w. (out ++ codes " ") ++ dashes a w) (turn.3 0)) in
    rw (length_push c.loop-alignment.yielded (c.in-Some.alignment, c.in-Some.width))
    (ap (λ l. l ++ dashes_left alignments widths (n + 1)) written
    ∙ dashes-more out alignments a widths n turn.0 (turn.2 a) turn.1
    ∙ c.loop-alignment.invariant)

pub returns : goal.returns
returns c =
    let alignments = c.args.alignments.now in
    let widths = c.args.widths.now in
    let n = length c.loop-alignment.yielded in
    let out = string_bytes c.loop-alignment.out in
    let all = zip_end alignments widths c.loop-alignment.yielded c.into_iter-alignment-iterator.result
    c.loop-alignment.alignment-iterator c.next.new.self c.next.result (search rules) (search rules)
    c.loop-alignment.yielded_by c.in-None.is c.next.ensures.steps in
    let none : dashes_left alignments widths n ≡ [] =
    ⊎_elim (λ lt. dashes-end alignments widths n (omega arith)) (λ le. dashed-end alignments widths n (omega arith))
    (cases_lt (length alignments) (length widths)) in
    sym (append-nil out) ∙ ap (λ l. out ++ l) (sym none) ∙ c.loop-alignment.invariant

-- What is left to prove of `has_script_escape`.
use Rattle.std.proofs.Common.{◌∙◌, ◌+◌, drop, ap, sym, arith}
use Rattle.htmd_tree.proofs.RawContentLemmas.{goes_on, script_later, escape_more}
use Rattle.htmd_tree.proofs.reader.raw_text.has_script_escape.Goals as goal
use Rattle.htmd_tree.proofs.reader.raw_text.has_script_escape.Goals.{then-not-escaped}
use Rattle.htmd_tree.proofs.reader.raw_text.has_script_escape.Goals.{else-not-escaped+else-begins_in_any_case}

pub loop-i-preserved : goal.loop-i-preserved
loop-i-preserved c =
    let s = c.args.bytes.now in
    let i = c.loop-i.i in
    elim c.if-not-escaped.branch [
      | then-not-escaped w ↦
          ap (λ e. goes_on e (drop (i + 1) s)) w.escaped-is
          ∙ escape_more s i w.begins_comment-escaped.result (omega arith) w.begins_comment-escaped.ensures
          ∙ ap (λ e. goes_on e (drop i s)) (sym w.if-not-escaped.true) ∙ c.loop-i.invariant
      | else-not-escaped+else-begins_in_any_case w ↦
          ap (λ e. goes_on e (drop (i + 1) s)) (w.escaped-is ∙ w.if-not-escaped.false)
          ∙ script_later s i w.begins_in_any_case.result (omega arith) w.begins_in_any_case.ensures
          w.if-begins_in_any_case.false
          ∙ ap (λ e. goes_on e (drop i s)) (sym w.if-not-escaped.false) ∙ c.loop-i.invariant
    ]

-- A refusal is the answer `false`, and what is refused denotes nothing.
use Rattle.std.proofs.Common.{◌∙◌, sym, ap, Err}
use Rattle.htmd_example.proofs.clauses.is_html.Goals.{in-Ok, in-Err-Refused, in-Err-Memory}
use Rattle.htmd_example.proofs.clauses.is_html.Goals as goal

pub returns-clause-no : goal.returns-clause-no
returns-clause-no c = elim c.match-convert.branch [
  | in-Ok w ↦ λ q. let e = sym w.result-is ∙ q in absurd cc
  | in-Err-Refused w ↦ λ q.
      let refusal = w.in-Err-Refused in
      let given = c.convert.ensures.refused refusal.field-0-0 refusal.field-0-1
      (refusal.is ∙ ap Err refusal.field-0-is) in
      given.denotes_nothing
  | in-Err-Memory w ↦ λ q. let e = sym w.result-is ∙ q in absurd cc
]

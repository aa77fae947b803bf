-- What is left to prove of `push_literals`.
use Rattle.std.proofs.Common.{Err, refl, subst, sym, arith}
use Rattle.std.proofs.lemmas.Str.{IsUtf8-drop}
use Rattle.std.specs.Str.{IsUtf8}
use Rattle.std.specs.String.{string_bytes}
use Rattle.htmd_tree.specs.TextRuns.{Pushes}
use Rattle.htmd_tree.specs.declared.reader.Stop.{Stop}
use Rattle.htmd_tree.proofs.TextRunsLemmas.{plain_deep, plain_cut, plain_pushed}
use Rattle.htmd_tree.proofs.reader.texts.push_literals.Goals as goal

pub returns-then-around-clause-steps : goal.returns-then-around-clause-steps
returns-then-around-clause-steps c = λ scripting n fs there.
    subst (λ (x : Stop). Pushes scripting fs (string_bytes c.args.run.now) c.args.text.now
    (string_bytes c.args.run.now) (Err x)) (sym c.refused.ensures) (
      plain_deep scripting c.args.around n fs there (string_bytes c.args.run.now) c.args.text.now c.if-around.true
          (omega arith),
      refl,
    )

pub split_at-requires : goal.split_at-requires
split_at-requires c = plain_cut c.args.around.parts c.args.text.now c.args.len c.utf8.text c.requires.plain

pub returns-clause-steps : goal.returns-clause-steps
returns-clause-steps c = λ scripting n fs there.
    plain_pushed scripting c.args.around n fs there (string_bytes c.args.run.now) c.args.text.now
    c.split_at.result.0.now c.split_at.result.1.now (string_bytes c.push_str.new.self) c.args.len c.if-around.false
    c.requires.plain c.split_at.ensures.front c.split_at.ensures.back c.in_ok-push_str.ensures.bytes

pub returns-clause-text : goal.returns-clause-text
returns-clause-text c =
    subst IsUtf8 (sym c.split_at.ensures.back) (IsUtf8-drop c.args.text.now c.args.len c.utf8.text
    (plain_cut c.args.around.parts c.args.text.now c.args.len c.utf8.text c.requires.plain))

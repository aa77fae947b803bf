-- What is left to prove of `push_special`.
use Rattle.std.proofs.Common.{ℕ, List, Err, refl, subst, sym}
use Rattle.std.specs.String.{string_bytes}
use Rattle.htmd_tree.specs.TextRuns.{Pushes, IsCharacterIn, IsFaultIn}
use Rattle.htmd_tree.specs.declared.reader.Stop.{Stop}
use Rattle.htmd_tree.proofs.TextRunsLemmas.{special_deep, special_cut, special_pushed, special_wrong, some_bytes}
use Rattle.htmd_tree.proofs.reader.texts.push_special.Goals as goal

pub returns-then-around-clause-steps : goal.returns-then-around-clause-steps
returns-then-around-clause-steps c = λ scripting n fs there goes_on.
    let character = subst (λ (s : List ℕ). IsCharacterIn c.args.around.parts s c.in-Ok.character)
    c.as_bytes.ensures.value c.in-Ok.ensures in
    subst (λ (x : Stop). Pushes scripting fs (string_bytes c.args.run.now) c.args.text.now
    (string_bytes c.args.run.now) (Err x)) (sym c.refused.ensures) (
      special_deep scripting c.args.around n fs there (string_bytes c.args.run.now) c.args.text.now c.in-Ok.character
          c.if-around.true goes_on character,
      refl,
    )

pub range_from-requires : goal.range_from-requires
range_from-requires c =
    let character = subst (λ (s : List ℕ). IsCharacterIn c.args.around.parts s c.in-Ok.character)
    c.as_bytes.ensures.value c.in-Ok.ensures in
    λ _. special_cut c.args.around.parts c.args.text.now c.in-Ok.character c.utf8.text c.requires.more character

pub returns-in_ok-push-in-Ok-clause-steps : goal.returns-in_ok-push-in-Ok-clause-steps
returns-in_ok-push-in-Ok-clause-steps c = λ scripting n fs there goes_on.
    let character = subst (λ (s : List ℕ). IsCharacterIn c.args.around.parts s c.in-Ok.character)
    c.as_bytes.ensures.value c.in-Ok.ensures in
    special_pushed scripting c.args.around n fs there (string_bytes c.args.run.now) c.args.text.now
    c.range_from.result.now (string_bytes c.push.new.self) c.in-Ok.character c.if-around.false goes_on character
    c.range_from.ensures.value c.in_ok-push-in-Ok.ensures.bytes

pub returns-in_ok-push-in-Ok-clause-longer : goal.returns-in_ok-push-in-Ok-clause-longer
returns-in_ok-push-in-Ok-clause-longer c =
    some_bytes (string_bytes c.args.run.now) (string_bytes c.push.new.self) c.in-Ok.character.value
    c.in_ok-push-in-Ok.ensures.bytes

pub returns-in-Err-clause-steps : goal.returns-in-Err-clause-steps
returns-in-Err-clause-steps c = λ scripting n fs there goes_on.
    let fault = subst (λ (s : List ℕ). IsFaultIn c.args.around.parts s c.in-Err.kind)
    c.as_bytes.ensures.value c.in-Err.ensures in
    subst (λ (x : Stop). Pushes scripting fs (string_bytes c.args.run.now) c.args.text.now
    (string_bytes c.args.run.now) (Err x)) (sym c.refused-in-Err.ensures) (
      special_wrong scripting c.args.around n fs there (string_bytes c.args.run.now) c.args.text.now c.in-Err.kind
          goes_on fault,
      refl,
    )

pub returns-in_ok-push-in-Ok-clause-text : goal.returns-in_ok-push-in-Ok-clause-text
returns-in_ok-push-in-Ok-clause-text c = c.range_from.utf8

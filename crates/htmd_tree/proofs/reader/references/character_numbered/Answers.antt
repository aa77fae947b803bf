-- What is left to prove of `character_numbered`.
use Rattle.std.proofs.Common.{◌∙◌, sym}
use Rattle.htmd_tree.proofs.DecodedCharactersLemmas.{no_zero, no_control, scalar_numbered}
use Rattle.htmd_tree.proofs.reader.references.character_numbered.Goals as goal

pub returns-then-number-eq0 : goal.returns-then-number-eq0
returns-then-number-eq0 c = no_zero c.args.number c.if-number-eq0.true

pub returns-then-is_control : goal.returns-then-is_control
returns-then-is_control c = no_control c.args.number (sym c.is_control.ensures ∙ c.if-is_control.true)

pub returns : goal.returns
returns c =
    scalar_numbered c.from_u32.result c.args.number c.if-number-eq0.false
    (sym c.is_control.ensures ∙ c.if-is_control.false) c.from_u32.ensures.cases c.from_u32.ensures.value

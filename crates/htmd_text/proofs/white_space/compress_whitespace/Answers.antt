-- What is left to prove of `compress_whitespace`.
use Rattle.std.proofs.Common.{◌∙◌, sym}
use Rattle.std.proofs.lemmas.Bool.{false≢true}
use Rattle.htmd_text.proofs.white_space.compress_whitespace.Goals as goal

pub returns-then-is_squeezed-clause-text : goal.returns-then-is_squeezed-clause-text
returns-then-is_squeezed-clause-text c = sym (c.is_squeezed.ensures.stays c.if-is_squeezed.true)

pub returns-in_err-squeezed-clause-borrowed : goal.returns-in_err-squeezed-clause-borrowed
returns-in_err-squeezed-clause-borrowed c = λ same.
    absurd (false≢true (sym c.if-is_squeezed.false ∙ c.is_squeezed.ensures.changes same))

pub returns-in_err-push_squeezed-clause-borrowed : goal.returns-in_err-push_squeezed-clause-borrowed
returns-in_err-push_squeezed-clause-borrowed c = λ same.
    absurd (false≢true (sym c.if-is_squeezed.false ∙ c.is_squeezed.ensures.changes same))

pub returns-clause-borrowed : goal.returns-clause-borrowed
returns-clause-borrowed c = λ same.
    absurd (false≢true (sym c.if-is_squeezed.false ∙ c.is_squeezed.ensures.changes same))

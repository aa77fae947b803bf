-- What is left to prove of `reference`.
use Rattle.std.proofs.Common.{◌∙◌, sym, refl}
use Rattle.std.specs.Char.{is_ascii_digit}
use Rattle.htmd_tree.proofs.DecodedCharactersLemmas.{decimal, decimal_run}
use Rattle.htmd_tree.proofs.reader.references.reference.Goals as goal

pub returns-else-begins_in_any_case-clause-piece :
    goal.returns-else-begins_in_any_case-clause-piece
returns-else-begins_in_any_case-clause-piece c =
    let s = c.args.behind.now in
    c.reference_by_number-else-begins_in_any_case.ensures.piece is_ascii_digit refl
    (decimal_run s c.digits_len-len.result c.digits_len-len.ensures.value)
    ∙ decimal s (sym c.first_is.ensures ∙ c.if-not-first_is.false)
    (sym c.begins_in_any_case.ensures ∙ c.if-begins_in_any_case.false)

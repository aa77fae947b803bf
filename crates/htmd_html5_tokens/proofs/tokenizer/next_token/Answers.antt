-- What denotes nothing is passed.
use Rattle.std.proofs.Common.{◌≡◌, ap, subst}
use Rattle.std.specs.Result.{IfOk}
use Rattle.htmd_html5_tokens.specs.NextToken.{read_piece}
use Rattle.htmd_html5_tokens.specs.Readings.{read_of}
use Rattle.htmd_html5_tokens.specs.Tokens.{Read}
use Rattle.htmd_html5_tokens.proofs.tokenizer.next_token.Goals as goal

pub returns-in-Normal : goal.returns-in-Normal
returns-in-Normal c =
    rw c.in-Normal.is (subst (λ (x : Read). IfOk c.read_piece.result (λ r. read_of r ≡ x))
    (ap (read_piece c.args.foreign) c.after_empty_pieces.ensures) c.read_piece.ensures)

-- The bytes are UTF-8, and nothing outweighs that.
use Rattle.std.proofs.Common.{◌∙◌, sym, rules}
use Rattle.htmd_encodings.proofs.DecodingLemmas.{believed_utf8}
use Rattle.htmd_encodings.proofs.decoding.as_utf8.Goals as goal

pub returns-in-Ok : goal.returns-in-Ok
returns-in-Ok c =
    believed_utf8 c.args.said c.in-Ok.text.now c.args.bytes.now
    (sym c.outweighs_utf8.ensures ∙ c.if-outweighs_utf8.false) (search rules) (search rules)

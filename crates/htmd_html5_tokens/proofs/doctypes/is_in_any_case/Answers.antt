-- Texts of one length.
use Rattle.std.proofs.Common.{◌∙◌}
use Rattle.htmd_html5_tokens.proofs.DoctypesLemmas.{same_length}
use Rattle.htmd_html5_tokens.proofs.doctypes.is_in_any_case.Goals as goal

pub returns-then-text-other : goal.returns-then-text-other
returns-then-text-other c =
    let begins = rw (c.as_bytes.ensures.value, c.as_bytes-then-text-other.ensures.value) at
    c.begins_in_any_case.ensures in
    begins ∙ same_length c.args.text.now c.args.other.now c.if-text-other.true

-- Too many digits, nothing or another sign after them, or a marker.
use Rattle.std.proofs.Common.{◌∙◌, sym}
use Rattle.htmd_commonmark_reader.proofs.MarkersLemmas.{are_digits, marker_long, marker_end, marker_other, marker_some}
use Rattle.htmd_commonmark_reader.proofs.markers.number_marker.Goals as goal

pub returns-then-len-gt-MOST_DIGITS-clause-value : goal.returns-then-len-gt-MOST_DIGITS-clause-value
returns-then-len-gt-MOST_DIGITS-clause-value c =
    marker_long c.args.bytes.now c.digits_len-len.result c.digits_len-len.ensures.value c.if-len-gt-MOST_DIGITS.true

pub returns-then-len-bytes-clause-value : goal.returns-then-len-bytes-clause-value
returns-then-len-bytes-clause-value c =
    marker_end c.args.bytes.now c.digits_len-len.result c.digits_len-len.ensures.value c.if-len-bytes.true

pub returns-then-not-is_sign-clause-value : goal.returns-then-not-is_sign-clause-value
returns-then-not-is_sign-clause-value c =
    marker_other c.args.bytes.now c.digits_len-len.result c.digits_len-len.ensures.value
    (sym c.is_sign.ensures ∙ c.if-not-is_sign.true)

pub number_of-requires-clause-digits : goal.number_of-requires-clause-digits
number_of-requires-clause-digits c =
    are_digits c.args.bytes.now c.digits_len-len.result c.digits_len-len.ensures.value

pub returns-clause-value : goal.returns-clause-value
returns-clause-value c =
    marker_some c.args.bytes.now c.digits_len-len.result c.digits_len-len.ensures.value c.number_of.result
    c.if-len-gt-MOST_DIGITS.false (sym c.is_sign.ensures ∙ c.if-not-is_sign.false) c.number_of.ensures

-- One more byte, with a backslash or without.
use Rattle.std.proofs.Common.{◌≡◌, ◌++◌, ◌∷◌, [], ◌-◌, true, false, length, lit<, ap, sym, ◌∙◌, arith, slice_index}
use Rattle.std.proofs.lemmas.Bool.Decides.{nat_tests}
use Rattle.std.proofs.lemmas.Slice.{between_to_end}
use Rattle.std.proofs.lemmas.Str.{IsCharBoundary-before_ascii}
use Rattle.std.specs.String.{string_bytes}
use Rattle.std.specs.List.{between}
use Rattle.htmd_lexical.proofs.Cases.{pushed}
use Rattle.htmd_lexical.specs.Characters.{backslash, underscore}
use Rattle.htmd_markdown.proofs.AddressesLemmas.{escaping_none, escaping_plain, escaping_marked, escaping_all}
use Rattle.htmd_commonmark.specs.TextEscapes.{is_in_word, is_marked}
use Rattle.htmd_commonmark.proofs.TextEscapesLemmas.{mark_is_ascii, mark_told, no_row, row_goes_on}
use Rattle.htmd_commonmark.proofs.text_escape.push_with_marks.Goals as goal
use Rattle.htmd_commonmark.proofs.text_escape.push_with_marks.Goals.{then-is_marked+in_ok-push_str+in_ok-push}
use Rattle.htmd_commonmark.proofs.text_escape.push_with_marks.Goals.{else-is_marked}
use Rattle.htmd_commonmark.proofs.text_escape.push_with_marks.Goals.{then-begins_row, else-begins_row}

pub loop-i-init : goal.loop-i-init
loop-i-init c = record {
  writing =
      escaping_none (is_marked c.args.place.now c.args.text.now) c.args.text.now (string_bytes c.args.out.now)
      c.utf8.text;
  row = λ k none _. absurd (omega arith);
}

pub loop-i-preserved : goal.loop-i-preserved
loop-i-preserved c =
    let s = c.args.text.now in
    let place = c.args.place.now in
    let i = c.loop-i.i in
    let marked = is_marked place s in
    let out = string_bytes c.args.out.now in
    let test : c.is_marked.result ≡ marked i =
    mark_told place s c.as_bytes-bytes.result.now i c.is_marked.result _ c.as_bytes-bytes.ensures.value
    (c.line_mark_of-line_mark.ensures i) c.is_marked.ensures in
    record {
      writing =
          elim c.if-is_marked.branch [
            | then-is_marked+in_ok-push_str+in_ok-push w ↦
                let here : marked i ≡ true = sym test ∙ w.if-is_marked.true in
                let step = escaping_marked marked s out (string_bytes c.loop-i.out) c.loop-i.from i (omega arith) here
                (mark_is_ascii place s i here) c.loop-i.invariant.writing in
                let piece : string_bytes w.push_str.new.self ≡ string_bytes c.loop-i.out
                ++ between c.loop-i.from i s = cc (w.in_ok-push_str.ensures.bytes, w.range.ensures.value) in
                let mark : string_bytes w.push.new.self ≡ string_bytes w.push_str.new.self ++ backslash ∷ [] =
                w.in_ok-push.ensures.bytes ∙ ap (λ l. string_bytes w.push_str.new.self ++ l)
                (w.in_ok-push.ensures.ascii (lit< tt)) in
                let written : string_bytes c.if-is_marked.out
                ≡ (string_bytes c.loop-i.out ++ between c.loop-i.from i s) ++ backslash ∷ [] =
                ap string_bytes w.out-is ∙ mark ∙ ap (λ l. l ++ backslash ∷ []) piece in
                rw (written, w.from-is) step
            | else-is_marked w ↦
                let plain : marked i ≡ false = sym test ∙ w.if-is_marked.false in
                let step = escaping_plain marked s out (string_bytes c.loop-i.out) c.loop-i.from i (omega arith) plain
                c.loop-i.invariant.writing in
                rw (w.out-is, w.from-is) step
          ];
      row = λ k next here.
          let at : slice_index s i ≡ underscore = ap (slice_index s) (omega arith) ∙ here in
          let at_byte : slice_index c.as_bytes-bytes.result.now i ≡ underscore =
          ap (λ l. slice_index l i) c.as_bytes-bytes.ensures.value ∙ at in
          let told : c.if-begins_row.in_word ≡ is_in_word place s i =
          elim c.if-begins_row.branch [
            | then-begins_row w ↦ w.in_word-is ∙ w.is_in_word-in_word.ensures
            | else-begins_row w ↦
                let goes_on = no_row (slice_index c.as_bytes-bytes.result.now i)
                (slice_index c.as_bytes-bytes.result.now (i - 1)) i at_byte
                (sym c.begins_row.ensures ∙ w.if-begins_row.false) in
                w.in_word-is ∙ c.loop-i.invariant.row (i - 1) (omega (arith, goes_on.0))
                (ap (λ l. slice_index l (i - 1)) (sym c.as_bytes-bytes.ensures.value) ∙ goes_on.1)
          ] in
          told ∙ sym (row_goes_on place s i (omega arith) at);
    }

pub returns : goal.returns
returns c =
    let s = c.args.text.now in
    let marked = is_marked c.args.place.now s in
    let out = string_bytes c.loop-i.out in
    let all = escaping_all marked s (string_bytes c.args.out.now) out c.loop-i.from c.loop-i.i
    (omega (arith, ap length c.as_bytes-bytes.ensures.value)) c.loop-i.invariant.writing in
    let rest = c.range_from.ensures.value ∙ sym (between_to_end s c.loop-i.from (length s) (omega arith)) in
    pushed c.push_str-2.result (string_bytes c.push_str-2.new.self) (out ++ c.range_from.result.now) out
    c.push_str-2.ensures.bytes (ap (λ l. out ++ l) rest ∙ all)

pub range-requires-clause-end_boundary : goal.range-requires-clause-end_boundary
range-requires-clause-end_boundary c =
    let s = c.args.text.now in
    let place = c.args.place.now in
    let i = c.loop-i.i in
    let test = mark_told place s c.as_bytes-bytes.result.now i c.is_marked.result _ c.as_bytes-bytes.ensures.value
    (c.line_mark_of-line_mark.ensures i) c.is_marked.ensures in
    let ascii = mark_is_ascii place s i (sym test ∙ c.if-is_marked.true) in
    IsCharBoundary-before_ascii s i (omega (arith, ap length c.as_bytes-bytes.ensures.value)) (grind (arith, nat_tests))

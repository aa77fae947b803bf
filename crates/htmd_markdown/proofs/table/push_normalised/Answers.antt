use Rattle.std.proofs.Common.{◌≡◌, ℕ, ◌++◌, [], ◌∷◌, get_or, length, arith, subst, ◌∙◌, ap, sym}
use Rattle.std.specs.String.{string_bytes}
use Rattle.std.specs.List.{between, flat_map}
use Rattle.std.proofs.lemmas.Slice.{between_to_end}
use Rattle.htmd_markdown.specs.Tables.{in_cell}
use Rattle.htmd_markdown.specs.CellBytes.{IsReplaced}
use Rattle.htmd_markdown.proofs.CellsLemmas.{normalising_none, normalising_stays, normalising_replaced, normalising_all}
use Rattle.htmd_markdown.proofs.CellsLemmas.{normalised_is}
use Rattle.htmd_markdown.proofs.table.push_normalised.Goals as goal
use Rattle.htmd_markdown.proofs.table.push_normalised.Goals.{in-Some+in_ok-push_str+in_ok-push_str-2, in_default}

pub loop-i-init : goal.loop-i-init
loop-i-init c = normalising_none c.trim_document_whitespace-cell.result.now (string_bytes c.args.text.now)
    c.trim_document_whitespace-cell.utf8

pub loop-i-preserved : goal.loop-i-preserved
loop-i-preserved c =
    let s = c.trim_document_whitespace-cell.result.now in
    let old = string_bytes c.args.text.now in
    let out = string_bytes c.loop-i.text in
    let i = c.loop-i.i in
    let same : get_or c.as_bytes-bytes.result.now i 0 ≡ get_or s i 0 =
    ap (λ l. get_or l i 0) c.as_bytes-bytes.ensures.value in
    let size : length c.as_bytes-bytes.result.now ≡ length s = ap length c.as_bytes-bytes.ensures.value in
    elim c.match-replacement.branch [
      | in-Some+in_ok-push_str+in_ok-push_str-2 w ↦
          let here = subst (λ (b : ℕ). IsReplaced b w.in-Some.instead.now) same w.in-Some.ensures in
          let step = normalising_replaced s old out w.in-Some.instead.now c.loop-i.from i
          c.trim_document_whitespace-cell.utf8 (omega arith) here c.loop-i.invariant in
          let piece : string_bytes w.push_str.new.self ≡ out ++ between c.loop-i.from i s =
          cc (w.in_ok-push_str.ensures.bytes, w.range.ensures.value) in
          let written : string_bytes c.match-replacement.text ≡ (out ++ between c.loop-i.from i s)
          ++ w.in-Some.instead.now =
          ap string_bytes w.text-is ∙ w.in_ok-push_str-2.ensures.bytes
          ∙ ap (λ l. l ++ w.in-Some.instead.now) piece in
          rw (written, w.from-is) step
      | in_default w ↦
          let stays = subst (λ (b : ℕ). in_cell b ≡ b ∷ []) same w.in_default.ensures in
          let step = normalising_stays s old out c.loop-i.from i (omega arith) stays c.loop-i.invariant in
          rw (w.text-is, w.from-is) step
    ]

pub returns : goal.returns
returns c =
    let s = c.trim_document_whitespace-cell.result.now in
    let old = string_bytes c.args.text.now in
    let size : length c.as_bytes-bytes.result.now ≡ length s = ap length c.as_bytes-bytes.ensures.value in
    let piece : c.range_from.result.now ≡ between c.loop-i.from (length s) s = c.range_from.ensures.value
    ∙ sym (between_to_end s c.loop-i.from (length s) (omega arith)) in
    c.in_ok-push_str-3.ensures.bytes
    ∙ ap (λ l. string_bytes c.loop-i.text ++ l) piece
    ∙ normalising_all s old (string_bytes c.loop-i.text) c.loop-i.from c.loop-i.i (omega arith) c.loop-i.invariant
    ∙ ap (λ l. old ++ flat_map in_cell l) c.trim_document_whitespace-cell.ensures
    ∙ ap (λ l. old ++ l) (sym (normalised_is c.args.cell.now))

-- What is left to prove of `with_backslashes`.
use Rattle.std.proofs.Common.{◌≡◌, [], ◌∷◌, ◌++◌, true, false, length, arith, lit<, ◌∙◌, ap, sym}
use Rattle.std.proofs.lemmas.Bool.Decides.{nat_tests}
use Rattle.std.proofs.lemmas.Slice.{between_to_end}
use Rattle.std.specs.String.{string_bytes}
use Rattle.std.specs.List.{between}
use Rattle.htmd_lexical.specs.Characters.{backslash}
use Rattle.htmd_text.specs.EscapeKinds.{is_escaped_by, needs_no_escape}
use Rattle.htmd_text.proofs.EscapedPlacesLemmas.{grows, writing_none, writing_plain, writing_marked, writing_nothing}
use Rattle.htmd_text.proofs.EscapedPlacesLemmas.{writing_all, plain_stays}
use Rattle.htmd_text.proofs.escape.with_backslashes.Goals as goal
use Rattle.htmd_text.proofs.escape.with_backslashes.Goals.{then-is_escaped+in_ok-push_str+in_ok-push}
use Rattle.htmd_text.proofs.escape.with_backslashes.Goals.{then-is_empty+in_ok-reserve, else-is_empty, else-is_escaped}

pub loop-i-init : goal.loop-i-init
loop-i-init c = writing_none (is_escaped_by c.args.kind c.args.text.now) c.args.text.now _ c.utf8.text
    c.new-escaped.ensures.bytes

pub loop-i-preserved : goal.loop-i-preserved
loop-i-preserved c =
    let s = c.args.text.now in
    let marked = is_escaped_by c.args.kind s in
    elim c.if-is_escaped.branch [
      | then-is_escaped+in_ok-push_str+in_ok-push w ↦
          let here : marked c.loop-i.i ≡ true = cc in
          let step = writing_marked marked s (string_bytes c.loop-i.escaped) c.loop-i.from c.loop-i.i (omega arith) here
          (c.requires c.loop-i.i (omega arith) here) c.loop-i.invariant in
          let kept : string_bytes w.if-is_empty.escaped ≡ string_bytes c.loop-i.escaped =
          elim w.if-is_empty.branch [
            | then-is_empty+in_ok-reserve v ↦ ap string_bytes v.escaped-is ∙ v.in_ok-reserve.ensures.bytes
            | else-is_empty v ↦ ap string_bytes v.escaped-is
          ] in
          let written : string_bytes c.if-is_escaped.escaped
          ≡ (string_bytes c.loop-i.escaped ++ between c.loop-i.from c.loop-i.i s) ++ backslash ∷ [] =
          let piece : string_bytes w.push_str.new.self ≡ string_bytes c.loop-i.escaped
          ++ between c.loop-i.from c.loop-i.i s =
          cc (kept, w.in_ok-push_str.ensures.bytes, w.range.ensures.value) in
          let mark : string_bytes w.push.new.self ≡ string_bytes w.push_str.new.self ++ backslash ∷ [] =
          w.in_ok-push.ensures.bytes ∙ ap (λ l. string_bytes w.push_str.new.self ++ l)
          (w.in_ok-push.ensures.ascii (lit< tt)) in
          ap string_bytes w.escaped-is ∙ mark ∙ ap (λ l. l ++ backslash ∷ []) piece in
          rw (written, w.from-is) step
      | else-is_escaped w ↦
          let plain : marked c.loop-i.i ≡ false = cc in
          let step = writing_plain marked s (string_bytes c.loop-i.escaped) c.loop-i.from c.loop-i.i
          (omega arith) plain c.loop-i.invariant in
          rw (w.escaped-is, w.from-is) step
    ]

pub returns-in_err-reserve-clause-borrowed : goal.returns-in_err-reserve-clause-borrowed
returns-in_err-reserve-clause-borrowed c =
    let marked = is_escaped_by c.args.kind c.args.text.now in
    let here : marked c.loop-i.i ≡ true = cc in
    λ same. absurd (omega (
      arith,
      grows marked 0 c.args.text.now c.loop-i.i (omega arith) (ap marked (omega arith)
          ∙ here),
      ap length same,
    ))

pub returns-then-needs_no_escape-clause-text : goal.returns-then-needs_no_escape-clause-text
returns-then-needs_no_escape-clause-text c =
    let plain = ap (needs_no_escape c.args.kind) (sym c.as_bytes-bytes.ensures.value) ∙ sym c.needs_no_escape.ensures
    ∙ c.if-needs_no_escape.true in
    sym (plain_stays c.args.kind c.args.text.now plain)

pub returns-then-is_empty-2-clause-text : goal.returns-then-is_empty-2-clause-text
returns-then-is_empty-2-clause-text c =
    let s = c.args.text.now in
    let none : length (string_bytes c.loop-i.escaped) ≡ 0 = grind (arith, nat_tests) in
    writing_nothing (is_escaped_by c.args.kind s) s (string_bytes c.loop-i.escaped) c.loop-i.from c.loop-i.i
    (omega (arith, ap length c.as_bytes-bytes.ensures.value)) none c.loop-i.invariant

pub returns-clause-text : goal.returns-clause-text
returns-clause-text c =
    let s = c.args.text.now in
    let rest = c.range_from.ensures.value ∙ sym (between_to_end s c.loop-i.from (length s) (omega arith)) in
    c.in_ok-push_str-2.ensures.bytes ∙ ap (λ l. string_bytes c.loop-i.escaped ++ l) rest
    ∙ writing_all (is_escaped_by c.args.kind s) s (string_bytes c.loop-i.escaped) c.loop-i.from c.loop-i.i
    (omega (arith, ap length c.as_bytes-bytes.ensures.value)) c.loop-i.invariant

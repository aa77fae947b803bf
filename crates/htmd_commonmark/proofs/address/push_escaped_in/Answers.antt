-- One more byte, escaped or not.
use Rattle.std.proofs.Common.{◌≡◌, ◌++◌, ◌∷◌, [], ◌+◌, length, drop, lit<, ap, sym, ◌∙◌, arith, get_or}
use Rattle.std.proofs.Common.{codes}
use Rattle.std.proofs.Common.{List, ℕ, refl}
use Rattle.std.proofs.lemmas.Bool.Decides.{nat_tests}
use Rattle.std.proofs.lemmas.Slice.{between_to_end}
use Rattle.std.proofs.lemmas.Str.{IsCharBoundary-before_ascii}
use Rattle.std.specs.String.{string_bytes}
use Rattle.std.specs.List.{between}
use Rattle.htmd_lexical.proofs.Cases.{pushed}
use Rattle.htmd_lexical.specs.Characters.{backslash}
use Rattle.htmd_markdown.proofs.RewritingLemmas.{rewriting_none, rewriting_stays, rewriting_replaced, rewriting_all}
use Rattle.htmd_commonmark.specs.Addresses.{is_escaped, escaped_in}
use Rattle.htmd_commonmark.specs.References.{begins_reference}
use Rattle.htmd_commonmark.proofs.AddressesLemmas.{rewriting_escaped, escaped_at, reference_at, stays_at}
use Rattle.htmd_commonmark.proofs.AddressesLemmas.{escaped_is_ascii}
use Rattle.htmd_commonmark.proofs.address.push_escaped_in.Goals as goal
use Rattle.htmd_commonmark.proofs.address.push_escaped_in.Goals.{then-is_escaped+in_ok-push_str+in_ok-push}
use Rattle.htmd_commonmark.proofs.address.push_escaped_in.Goals.{else-is_escaped+then-begins_reference+in_ok-push_str-2+in_ok-push_str-3}
use Rattle.htmd_commonmark.proofs.address.push_escaped_in.Goals.{else-is_escaped+else-begins_reference}

-- the test as the code makes it
escaped_told : (signs s bytes : List ℕ) (i : ℕ) → bytes ≡ s
    → is_escaped signs (get_or bytes i 0) (between (i + 1) (length bytes) bytes)
    ≡ is_escaped signs (get_or s i 0) (drop (i + 1) s)
escaped_told signs s bytes i same =
    ap (λ l. is_escaped signs (get_or l i 0) (between (i + 1) (length l) l)) same
    ∙ ap (is_escaped signs (get_or s i 0)) (between_to_end s (i + 1) (length s) (omega arith))

reference_told : (s bytes : List ℕ) (i : ℕ) → bytes ≡ s
    → begins_reference (between i (length bytes) bytes) ≡ begins_reference (drop i s)
reference_told s bytes i same =
    ap (λ l. begins_reference (between i (length l) l)) same
    ∙ ap begins_reference (between_to_end s i (length s) (omega arith))

pub loop-i-init : goal.loop-i-init
loop-i-init c = rewriting_none (escaped_in c.args.signs.now) c.args.text.now (string_bytes c.args.out.now) c.utf8.text

pub loop-i-preserved : goal.loop-i-preserved
loop-i-preserved c =
    let s = c.args.text.now in
    let signs = c.args.signs.now in
    let i = c.loop-i.i in
    let bytes = c.as_bytes-bytes.result.now in
    let before = string_bytes c.args.out.now in
    let out = string_bytes c.loop-i.out in
    let same = c.as_bytes-bytes.ensures.value in
    let test = c.is_escaped.ensures ∙ escaped_told signs s bytes i same in
    elim c.if-is_escaped.branch [
      | then-is_escaped+in_ok-push_str+in_ok-push w ↦
          let here = sym test ∙ w.if-is_escaped.true in
          let ascii = escaped_is_ascii signs s i (drop (i + 1) s) c.requires.ascii here in
          let step = rewriting_escaped (escaped_in signs) s before out c.loop-i.from i (omega arith)
          (escaped_at signs s i (omega arith) here) ascii c.loop-i.invariant in
          let piece : string_bytes w.push_str.new.self ≡ out ++ between c.loop-i.from i s =
          cc (w.in_ok-push_str.ensures.bytes, w.range.ensures.value) in
          let mark : string_bytes w.push.new.self ≡ string_bytes w.push_str.new.self ++ backslash ∷ [] =
          w.in_ok-push.ensures.bytes ∙ ap (λ l. string_bytes w.push_str.new.self ++ l)
          (w.in_ok-push.ensures.ascii (lit< tt)) in
          let written : string_bytes c.if-is_escaped.out ≡ (out ++ between c.loop-i.from i s) ++ backslash ∷ [] =
          ap string_bytes w.out-is ∙ mark ∙ ap (λ l. l ++ backslash ∷ []) piece in
          rw (written, w.from-is) step
      | else-is_escaped+then-begins_reference+in_ok-push_str-2+in_ok-push_str-3 w ↦
          let other = sym test ∙ w.if-is_escaped.false in
          let here = sym (w.begins_reference.ensures ∙ reference_told s bytes i same)
          ∙ w.if-begins_reference.true in
          let step = rewriting_replaced (escaped_in signs) s before out (codes "&amp;") c.loop-i.from i c.utf8.text
          (omega arith) (reference_at signs s i (omega arith) other here) c.loop-i.invariant in
          let piece : string_bytes w.push_str-then-begins_reference.new.self ≡ out ++ between c.loop-i.from i s =
          cc (w.in_ok-push_str-2.ensures.bytes, w.range-then-begins_reference.ensures.value) in
          let written : string_bytes c.if-is_escaped.out ≡ (out ++ between c.loop-i.from i s) ++ codes "&amp;" =
          ap string_bytes w.out-is ∙ w.in_ok-push_str-3.ensures.bytes ∙ ap (λ l. l ++ codes "&amp;") piece in
          rw (written, w.from-is) step
      | else-is_escaped+else-begins_reference w ↦
          let other = sym test ∙ w.if-is_escaped.false in
          let none = sym (w.begins_reference.ensures ∙ reference_told s bytes i same)
          ∙ w.if-begins_reference.false in
          let step = rewriting_stays (escaped_in signs) s before out c.loop-i.from i (omega arith)
          (stays_at signs s i (omega arith) other none) c.loop-i.invariant in
          rw (w.out-is, w.from-is) step
    ]

pub returns : goal.returns
returns c =
    let s = c.args.text.now in
    let out = string_bytes c.loop-i.out in
    let all = rewriting_all (escaped_in c.args.signs.now) s (string_bytes c.args.out.now) out c.loop-i.from c.loop-i.i
    (omega (arith, ap length c.as_bytes-bytes.ensures.value)) refl c.loop-i.invariant in
    let rest = c.range_from.ensures.value ∙ sym (between_to_end s c.loop-i.from (length s) (omega arith)) in
    pushed c.push_str-2.result (string_bytes c.push_str-2.new.self) (out ++ c.range_from.result.now) out
    c.push_str-2.ensures.bytes (ap (λ l. out ++ l) rest ∙ all)

pub range-requires-clause-end_boundary : goal.range-requires-clause-end_boundary
range-requires-clause-end_boundary c =
    let s = c.args.text.now in
    let i = c.loop-i.i in
    let same = c.as_bytes-bytes.ensures.value in
    let test = c.is_escaped.ensures ∙ escaped_told c.args.signs.now s c.as_bytes-bytes.result.now i same in
    let ascii = escaped_is_ascii c.args.signs.now s i (drop (i + 1) s) c.requires.ascii
    (sym test ∙ c.if-is_escaped.true) in
    IsCharBoundary-before_ascii s i (omega (arith, ap length same)) (grind (arith, nat_tests))

-- One more byte, with a backslash or without.
use Rattle.std.proofs.Common.{◌≡◌, ℕ, ◌++◌, ◌∷◌, [], true, false, length, lit<, ap, sym, ◌∙◌, arith}
use Rattle.std.proofs.lemmas.Bool.Decides.{nat_tests}
use Rattle.std.proofs.lemmas.Slice.{between_to_end}
use Rattle.std.proofs.lemmas.Str.{IsCharBoundary-before_ascii}
use Rattle.std.specs.Prelude.{slice_index}
use Rattle.std.specs.String.{string_bytes}
use Rattle.std.specs.List.{between}
use Rattle.htmd_lexical.proofs.Cases.{pushed}
use Rattle.htmd_lexical.specs.Characters.{is_one_of, backslash}
use Rattle.htmd_markdown.proofs.AddressesLemmas.{escaping_none, escaping_plain, escaping_marked, escaping_all}
use Rattle.htmd_markdown.proofs.AddressesLemmas.{among_is_ascii}
use Rattle.htmd_markdown.proofs.address.push_escaped.Goals as goal
use Rattle.htmd_markdown.proofs.address.push_escaped.Goals.{then-is_one_of+in_ok-push_str+in_ok-push, else-is_one_of}

pub loop-i-init : goal.loop-i-init
loop-i-init c = escaping_none (λ k. is_one_of c.args.characters.now (slice_index c.args.text.now k)) c.args.text.now
    (string_bytes c.args.out.now) c.utf8.text

pub loop-i-preserved : goal.loop-i-preserved
loop-i-preserved c =
    let s = c.args.text.now in
    let marked = λ (k : ℕ). is_one_of c.args.characters.now (slice_index s k) in
    let test : c.is_one_of.result ≡ marked c.loop-i.i = c.is_one_of.ensures
    ∙ ap (λ bytes. is_one_of c.args.characters.now (slice_index bytes c.loop-i.i)) c.as_bytes-bytes.ensures.value in
    elim c.if-is_one_of.branch [
      | then-is_one_of+in_ok-push_str+in_ok-push w ↦
          let here : marked c.loop-i.i ≡ true = sym test ∙ w.if-is_one_of.true in
          let ascii = among_is_ascii c.args.characters.now s c.loop-i.i c.requires.ascii here in
          let step = escaping_marked marked s (string_bytes c.args.out.now) (string_bytes c.loop-i.out) c.loop-i.from
          c.loop-i.i (omega arith) here ascii c.loop-i.invariant in
          let piece : string_bytes w.push_str.new.self ≡ string_bytes c.loop-i.out
          ++ between c.loop-i.from c.loop-i.i s = cc (w.in_ok-push_str.ensures.bytes, w.range.ensures.value) in
          let mark : string_bytes w.push.new.self ≡ string_bytes w.push_str.new.self ++ backslash ∷ [] =
          w.in_ok-push.ensures.bytes ∙ ap (λ l. string_bytes w.push_str.new.self ++ l)
          (w.in_ok-push.ensures.ascii (lit< tt)) in
          let written : string_bytes c.if-is_one_of.out
          ≡ (string_bytes c.loop-i.out ++ between c.loop-i.from c.loop-i.i s) ++ backslash ∷ [] =
          ap string_bytes w.out-is ∙ mark ∙ ap (λ l. l ++ backslash ∷ []) piece in
          rw (written, w.from-is) step
      | else-is_one_of w ↦
          let plain : marked c.loop-i.i ≡ false = sym test ∙ w.if-is_one_of.false in
          let step = escaping_plain marked s (string_bytes c.args.out.now) (string_bytes c.loop-i.out) c.loop-i.from
          c.loop-i.i (omega arith) plain c.loop-i.invariant in
          rw (w.out-is, w.from-is) step
    ]

pub returns : goal.returns
returns c =
    let s = c.args.text.now in
    let marked = λ (k : ℕ). is_one_of c.args.characters.now (slice_index s k) in
    let all = escaping_all marked s (string_bytes c.args.out.now) (string_bytes c.loop-i.out) c.loop-i.from c.loop-i.i
    (omega (arith, ap length c.as_bytes-bytes.ensures.value)) c.loop-i.invariant in
    let rest = c.range_from.ensures.value ∙ sym (between_to_end s c.loop-i.from (length s) (omega arith)) in
    pushed c.push_str-2.result (string_bytes c.push_str-2.new.self)
    (string_bytes c.loop-i.out ++ c.range_from.result.now) (string_bytes c.loop-i.out) c.push_str-2.ensures.bytes
    (ap (λ l. string_bytes c.loop-i.out ++ l) rest ∙ all)

pub range-requires-clause-end_boundary : goal.range-requires-clause-end_boundary
range-requires-clause-end_boundary c =
    let test = c.is_one_of.ensures ∙ ap (λ bytes. is_one_of c.args.characters.now (slice_index bytes c.loop-i.i))
    c.as_bytes-bytes.ensures.value in
    let ascii = among_is_ascii c.args.characters.now c.args.text.now c.loop-i.i c.requires.ascii (sym test
    ∙ c.if-is_one_of.true) in
    IsCharBoundary-before_ascii c.args.text.now c.loop-i.i (omega (arith, ap length c.as_bytes-bytes.ensures.value))
    (grind (arith, nat_tests))

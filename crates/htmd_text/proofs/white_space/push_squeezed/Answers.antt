-- What is left to prove of `push_squeezed`.
use Rattle.std.proofs.Common.{◌≡◌, ℕ, List, ◌++◌, take, drop, length, arith, subst, ◌∙◌, ap}
use Rattle.std.specs.String.{string_bytes}
use Rattle.std.specs.List.{between}
use Rattle.std.proofs.lemmas.Slice.{between_to_end}
use Rattle.htmd_text.specs.SqueezedTexts.{squeezed_text}
use Rattle.htmd_text.specs.Replacement.{IsReplaced}
use Rattle.htmd_lexical.proofs.Cases.{pushed}
use Rattle.htmd_text.proofs.WhiteSpaceLemmas.{squeezing_none, squeezing_stays, squeezing_replaced, squeezing_all}
use Rattle.htmd_text.proofs.white_space.push_squeezed.Goals as goal
use Rattle.htmd_text.proofs.white_space.push_squeezed.Goals.{in-Some+in_ok-push_str+in_ok-push_str-2, in_default}

pub loop-i-init : goal.loop-i-init
loop-i-init c = squeezing_none _ c.args.text.now c.utf8.text

pub loop-i-preserved : goal.loop-i-preserved
loop-i-preserved c =
    let s = c.args.text.now in
    let i = c.loop-i.i in
    let bytes = c.as_bytes-bytes.result.now in
    let rest : between i (length bytes) bytes ≡ drop i s = between_to_end bytes i (length bytes) (omega arith)
    ∙ ap (drop i) c.as_bytes-bytes.ensures.value in
    elim c.match-replacement.branch [
      | in-Some+in_ok-push_str+in_ok-push_str-2 w ↦
          let here = subst (λ (l : List ℕ). IsReplaced l w.in-Some.instead.now) rest w.in-Some.ensures in
          let step = squeezing_replaced _ s (string_bytes c.loop-i.out) w.in-Some.instead.now c.loop-i.from i
          c.utf8.text (omega arith) here c.loop-i.invariant in
          let piece : string_bytes w.push_str.new.self ≡ string_bytes c.loop-i.out ++ between c.loop-i.from i s =
          cc (w.in_ok-push_str.ensures.bytes, w.range.ensures.value) in
          let written : string_bytes c.match-replacement.out
          ≡ (string_bytes c.loop-i.out ++ between c.loop-i.from i s) ++ w.in-Some.instead.now =
          ap string_bytes w.out-is ∙ w.in_ok-push_str-2.ensures.bytes
          ∙ ap (λ l. l ++ w.in-Some.instead.now) piece in
          rw (written, w.from-is) step
      | in_default w ↦
          let stays = subst (λ (l : List ℕ). squeezed_text l ≡ take 1 l ++ squeezed_text (drop 1 l)) rest
          w.in_default.ensures in
          let step = squeezing_stays _ s (string_bytes c.loop-i.out) c.loop-i.from i
          (omega arith) stays c.loop-i.invariant in
          rw (w.out-is, w.from-is) step
    ]

pub returns : goal.returns
returns c =
    let s = c.args.text.now in
    let out = string_bytes c.loop-i.out in
    pushed c.push_str-2.result (string_bytes c.push_str-2.new.self) (out ++ c.range_from.result.now) out
    c.push_str-2.ensures.bytes
    (ap (λ l. out ++ l) c.range_from.ensures.value ∙ squeezing_all (string_bytes c.args.out.now) s out c.loop-i.from
    c.loop-i.i (omega (arith, ap length c.as_bytes-bytes.ensures.value)) c.loop-i.invariant)

use Rattle.std.proofs.Common.{◌≡◌, ◌++◌, ◌∙◌, ◌||◌, ap, sym, string_bytes, ltb}
use Rattle.std.specs.List.{suffix_len}
use Rattle.std.proofs.lemmas.Result.{on_ok_weaker}
use Rattle.htmd_lexical.proofs.Cases.{pushed}
use Rattle.htmd_text.specs.EscapedPlaces.{escaped_markdown}
use Rattle.htmd_text.specs.SqueezedTexts.{squeezed_text}
use Rattle.htmd_text.specs.Trims.{is_space}
use Rattle.htmd_walk.specs.Seams.{ends_with_space}
use Rattle.htmd_walk.specs.OrdinaryText.{without_first_space}
use Rattle.htmd_walk.proofs.text_node.append_ordinary.Goals as goal
use Rattle.htmd_walk.proofs.text_node.append_ordinary.Goals.{then-trim, else-trim}

pub returns-then-is_written_as_is : goal.returns-then-is_written_as_is
returns-then-is_written_as_is c =
    let out = string_bytes c.args.out.now in
    let goes : c.if-trim.goes ≡ (c.args.trim || ends_with_space out) = elim c.if-trim.branch [
      | then-trim w ↦ w.goes-is ∙ w.if-trim.true ∙ sym (ap (λ t. t || ends_with_space out) w.if-trim.true)
      | else-trim w ↦ w.goes-is
          ∙ ap (ltb 0) (w.trailing_len.ensures.value ∙ ap (suffix_len is_space) w.as_bytes.ensures.value)
          ∙ sym (ap (λ t. t || ends_with_space out) w.if-trim.false)
    ] in
    let rest = c.without_first_space.ensures
    ∙ sym (c.is_written_as_is.ensures c.if-is_written_as_is.true c.if-trim.goes)
    ∙ ap (λ t. escaped_markdown (without_first_space t (squeezed_text c.args.text.now))) goes in
    pushed c.push_with_room.result (string_bytes c.push_with_room.new.out) (out ++ c.without_first_space.result.now) out
    c.push_with_room.ensures.bytes (ap (λ s. out ++ s) rest)

pub returns-then-is_squeezed : goal.returns-then-is_squeezed
returns-then-is_squeezed c =
    let out = string_bytes c.args.out.now in
    let goes : c.if-trim.goes ≡ (c.args.trim || ends_with_space out) = elim c.if-trim.branch [
      | then-trim w ↦ w.goes-is ∙ w.if-trim.true ∙ sym (ap (λ t. t || ends_with_space out) w.if-trim.true)
      | else-trim w ↦ w.goes-is
          ∙ ap (ltb 0) (w.trailing_len.ensures.value ∙ ap (suffix_len is_space) w.as_bytes.ensures.value)
          ∙ sym (ap (λ t. t || ends_with_space out) w.if-trim.false)
    ] in
    let rest = c.without_first_space-then-is_squeezed.ensures
    ∙ ap (without_first_space c.if-trim.goes) (sym (c.is_squeezed.ensures.stays c.if-is_squeezed.true))
    ∙ ap (λ t. without_first_space t (squeezed_text c.args.text.now)) goes in
    on_ok_weaker c.push_escaped.result (λ h. h ∙ ap (λ s. out ++ escaped_markdown s) rest) c.push_escaped.ensures

pub returns : goal.returns
returns c =
    let out = string_bytes c.args.out.now in
    let goes : c.if-trim.goes ≡ (c.args.trim || ends_with_space out) = elim c.if-trim.branch [
      | then-trim w ↦ w.goes-is ∙ w.if-trim.true ∙ sym (ap (λ t. t || ends_with_space out) w.if-trim.true)
      | else-trim w ↦ w.goes-is
          ∙ ap (ltb 0) (w.trailing_len.ensures.value ∙ ap (suffix_len is_space) w.as_bytes.ensures.value)
          ∙ sym (ap (λ t. t || ends_with_space out) w.if-trim.false)
    ] in
    let rest = c.without_first_space-2.ensures
    ∙ ap (without_first_space c.if-trim.goes) (c.as_str.ensures.value ∙ c.in_ok-push_squeezed.ensures
    ∙ ap (λ s. s ++ squeezed_text c.args.text.now) c.take-squeezed.ensures)
    ∙ ap (λ t. without_first_space t (squeezed_text c.args.text.now)) goes in
    c.in_ok-push_escaped.ensures ∙ ap (λ s. out ++ escaped_markdown s) rest

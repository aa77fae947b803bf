-- One more byte, with a cut or without.
use Rattle.std.proofs.Common.{◌≡◌, ◌+◌, ◌<◌, ◌++◌, ◌∷◌, [], false, get_or, map, length, drop}
use Rattle.std.proofs.Common.{refl, subst, sym, ap, ◌∙◌, arith}
use Rattle.std.specs.Prelude.{◌&&◌, ◌==◌}
use Rattle.std.specs.List.{between}
use Rattle.std.proofs.lemmas.Bool.Decides.{nat_tests}
use Rattle.std.proofs.lemmas.Str.{IsCharBoundary-start, IsCharBoundary-after_ascii}
use Rattle.std.specs.Str.{IsCharBoundary}
use Rattle.htmd_lexical.specs.Characters.{space}
use Rattle.htmd_document.specs.DocumentViews.{inline_of}
use Rattle.htmd_chunks.specs.Words.{cut_text, ended, begun, shows_before, shows_behind, with_text}
use Rattle.htmd_chunks.specs.WordViews.{words_in}
use Rattle.htmd_chunks.proofs.CutTextsLemmas.{cutting-on, cutting-here, cut-all, cut-no-behind, cut-no-before}
use Rattle.htmd_chunks.proofs.CutTextsLemmas.{cut-no-space}
use Rattle.htmd_chunks.proofs.words.Words.push_text.Goals.{then-bytes-i-eq32+then-shows_before+then-shows_behind+in_ok-push_part+in_ok-end_word}
use Rattle.htmd_chunks.proofs.words.Words.push_text.Goals.{then-bytes-i-eq32+else-shows_before, else-bytes-i-eq32}
use Rattle.htmd_chunks.proofs.words.Words.push_text.Goals.{else-shows_before-via-then-shows_before+else-shows_behind}
use Rattle.htmd_chunks.proofs.words.Words.push_text.Goals.{else-shows_before-via-else-shows_before}
use Rattle.htmd_chunks.proofs.words.Words.push_text.Goals as goal

pub loop-i-init : goal.loop-i-init
loop-i-init c = record {
  cutting = record { within = omega arith; words = refl; word = refl };
  boundary = IsCharBoundary-start c.args.text.now c.utf8.text;
}

pub range_from-requires : goal.range_from-requires
range_from-requires c =
    let byte : get_or c.args.text.now c.loop-i.i 0 ≡ space =
    ap (λ l. get_or l c.loop-i.i 0) (sym c.as_bytes-bytes.ensures.value) ∙ c.if-bytes-i-eq32.true in
    λ _. IsCharBoundary-after_ascii c.args.text.now c.loop-i.i c.utf8.text
    (omega (arith, c.loop-i-test.true, ap (λ l. length l) c.as_bytes-bytes.ensures.value)) (omega (arith, byte))

pub loop-i-preserved : goal.loop-i-preserved
loop-i-preserved c =
    let text = c.args.text.now in
    let behind = c.args.behind in
    let before = c.loop-i.before in
    let from = c.loop-i.from in
    let i = c.loop-i.i in
    let now = map inline_of c.loop-i.self.now.items in
    let done = words_in c.loop-i.self.done.items in
    let parts = cut_text c.args.before behind [] text in
    let first = map inline_of c.args.self.now.now.items in
    let all_done = words_in c.args.self.now.done.items ++ ended first parts in
    let last = begun first parts in
    let was = c.loop-i.invariant.cutting in
    let within : i < length text =
    omega (arith, c.loop-i-test.true, ap (λ l. length l) c.as_bytes-bytes.ensures.value) in
    let at : get_or text i 0 ≡ get_or c.as_bytes-bytes.result.now i 0 =
    ap (λ l. get_or l i 0) (sym c.as_bytes-bytes.ensures.value) in
    elim c.if-bytes-i-eq32.branch [
      | then-bytes-i-eq32+then-shows_before+then-shows_behind+in_ok-push_part+in_ok-end_word w ↦
          let byte : get_or text i 0 ≡ space = at ∙ w.if-bytes-i-eq32.true in
          let left = ap (shows_before before) (sym w.range-part.ensures.value) ∙ sym w.shows_before.ensures
          ∙ w.if-shows_before.true in
          let right = ap (shows_behind behind) (sym w.range_from.ensures.value) ∙ sym w.shows_behind.ensures
          ∙ w.if-shows_behind.true in
          let here = cut-all (get_or text i 0) (shows_before before (between from i text))
          (shows_behind behind (drop (i + 1) text)) byte left right in
          let word : map inline_of w.push_part.new.self.now.items ≡ with_text now (between from i text) =
          w.in_ok-push_part.ensures.now ∙ ap (with_text now) w.range-part.ensures.value in
          let pushed : words_in w.end_word.new.self.done.items ≡ done ++ with_text now (between from i text) ∷ [] =
          w.in_ok-end_word.ensures.done
          ∙ ap (λ l. words_in l ++ map inline_of w.push_part.new.self.now.items ∷ []) w.push_part.ensures.done
          ∙ ap (λ x. done ++ x ∷ []) word in
          let step = cutting-here behind text all_done last done (words_in w.end_word.new.self.done.items) now
          (map inline_of w.end_word.new.self.now.items) before from i within here pushed
          (ap (map inline_of) w.end_word.ensures.now) was in
          record {
            cutting = rw (w.self-is, w.before-is, w.from-is) step;
            boundary =
                subst (IsCharBoundary text) (sym w.from-is)
                (IsCharBoundary-after_ascii text i c.utf8.text within (omega (arith, byte)));
          }
      | then-bytes-i-eq32+else-shows_before w ↦
          let on = elim w.else-shows_before.branch
          as (λ _. ((get_or text i 0 == space) && shows_before before (between from i text)
          && shows_behind behind (drop (i + 1) text)) ≡ false) [
            | else-shows_before-via-then-shows_before+else-shows_behind v ↦
                cut-no-behind (get_or text i 0 == space) (shows_before before (between from i text))
                (shows_behind behind (drop (i + 1) text))
                (ap (shows_behind behind) (sym v.range_from.ensures.value) ∙ sym v.shows_behind.ensures
                ∙ v.if-shows_behind.false)
            | else-shows_before-via-else-shows_before v ↦
                cut-no-before (get_or text i 0 == space) (shows_before before (between from i text))
                (shows_behind behind (drop (i + 1) text))
                (ap (shows_before before) (sym w.range-part.ensures.value) ∙ sym w.shows_before.ensures
                ∙ v.if-shows_before.false)
          ] in
          let step = cutting-on behind text all_done last done now before from i within on was in
          record {
            cutting = rw (w.self-is, w.before-is, w.from-is) step;
            boundary = subst (IsCharBoundary text) (sym w.from-is) c.loop-i.invariant.boundary;
          }
      | else-bytes-i-eq32 w ↦
          let other : (get_or text i 0 == space) ≡ false =
          let no : (get_or c.as_bytes-bytes.result.now i 0 == space) ≡ false = grind (arith, nat_tests) in
          ap (λ b. b == space) at ∙ no in
          let on = cut-no-space (get_or text i 0 == space) (shows_before before (between from i text))
          (shows_behind behind (drop (i + 1) text)) other in
          let step = cutting-on behind text all_done last done now before from i within on was in
          record {
            cutting = rw (w.self-is, w.before-is, w.from-is) step;
            boundary = subst (IsCharBoundary text) (sym w.from-is) c.loop-i.invariant.boundary;
          }
    ]

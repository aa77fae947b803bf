use Rattle.std.proofs.Common.{◌∙◌, sym, ap, ◌++◌, map-id, encode_utf8_all, fold}
use Rattle.std.proofs.lemmas.Iterator.{YieldsList-from_chars}
use Rattle.std.proofs.lemmas.Iterator.Consumers.{YieldsList-end}
use Rattle.std.proofs.Common.{List, ℕ, Bool, [], ◌∷◌}
use Rattle.std.proofs.lemmas.List.Sums.{fold-append}
use Rattle.std.proofs.lemmas.Str.{encodes-append}
use Rattle.htmd_shown.specs.AllTexts.{with_character, no_lines, written_for, Lines}
use Rattle.htmd_shown.proofs.texts.with_line_feeds.Goals as goal

pub returns : goal.returns
returns c =
    let all = YieldsList-end (YieldsList-from_chars c.args.text.now c.utf8.text cc) c.loop-c.yielded _
    c.loop-c.yielded_by _ _ c.in-None.is c.next.ensures.steps in
    c.loop-c.invariant.written ∙ ap (λ cs. encode_utf8_all (fold with_character no_lines cs).written)
    (sym (map-id c.loop-c.yielded) ∙ all.0)

pub loop-c-preserved : goal.loop-c-preserved
loop-c-preserved c =
    let so_far = fold with_character no_lines c.loop-c.yielded in
    let one = fold-append with_character no_lines c.loop-c.yielded (c.in-Some.c ∷ []) in
    record {
      written =
          c.in_ok-push_character.ensures
          ∙ ap (λ (x : List ℕ). x ++ encode_utf8_all (written_for c.loop-c.after_return c.in-Some.c))
          c.loop-c.invariant.written
          ∙ ap (λ (r : Bool). encode_utf8_all so_far.written ++ encode_utf8_all (written_for r c.in-Some.c))
          c.loop-c.invariant.after_return
          ∙ sym (encodes-append so_far.written (written_for so_far.after_return c.in-Some.c))
          ∙ ap (λ (l : Lines). encode_utf8_all l.written) (sym one);
      after_return = ap (λ (l : Lines). l.after_return) (sym one);
    }

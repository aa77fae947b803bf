-- One more byte, which ends a line or not, and the last line.
use Rattle.std.proofs.Common.{◌≡◌, ◌+◌, ◌<◌, ◌≤◌, drop, length, sym, ap, ◌∙◌, refl, arith, get_or, false}
use Rattle.std.specs.Prelude.{◌==◌}
use Rattle.std.specs.List.{between, list_any}
use Rattle.std.proofs.lemmas.Bool.Decides.{nat_tests}
use Rattle.std.proofs.lemmas.List.Edits.{between_none}
use Rattle.std.proofs.lemmas.Slice.{between_to_end}
use Rattle.std.proofs.lemmas.Str.{IsCharBoundary-start, IsCharBoundary-after_ascii}
use Rattle.htmd_lexical.specs.Characters.{line_feed}
use Rattle.htmd_text.specs.Trims.{is_line_feed}
use Rattle.htmd_commonmark.specs.Pages.{wrote, with_byte}
use Rattle.htmd_commonmark.proofs.BlocksLemmas.{on_ok}
use Rattle.htmd_commonmark.proofs.PagesLemmas.{line_wrote, line_grown}
use Rattle.htmd_commonmark.proofs.lines.Lines.push_lines.Goals as goal
use Rattle.htmd_commonmark.proofs.lines.Lines.push_lines.Goals.{then-byte-eq10+in_ok-push_in_line+in_ok-end_line}
use Rattle.htmd_commonmark.proofs.lines.Lines.push_lines.Goals.{else-byte-eq10}

pub loop-i-init : goal.loop-i-init
loop-i-init c = record {
  within = omega arith;
  cut = IsCharBoundary-start c.args.text.now c.utf8.text;
  line = refl;
  written = refl;
}

pub loop-i-preserved : goal.loop-i-preserved
loop-i-preserved c =
    let s = c.args.text.now in
    let i = c.loop-i.i in
    let from = c.loop-i.from in
    let same = c.as_bytes-byte-items.ensures.value in
    let lt : i < length s = omega (arith, ap length same) in
    let was = c.loop-i.invariant in
    elim c.if-byte-eq10.branch [
      | then-byte-eq10+in_ok-push_in_line+in_ok-end_line w ↦
          let here : get_or s i 0 ≡ line_feed =
          ap (λ l. get_or l i 0) (sym same) ∙ w.if-byte-eq10.true in
          let line : w.range.result.now ≡ between from i s = w.range.ensures.value in
          let at : c.if-byte-eq10.self ≡ with_byte (wrote c.loop-i.self (between from i s)) line_feed =
          w.self-is ∙ w.in_ok-end_line.ensures
          ∙ ap (λ p. with_byte p line_feed) (w.in_ok-push_in_line.ensures ∙ ap (wrote c.loop-i.self) line) in
          let ended = ap (λ p. wrote p (drop (i + 1) s)) at
          ∙ sym (line_wrote c.loop-i.self s from i was.within lt here) ∙ was.written in
          rw w.from-is (record {
            within = omega arith;
            cut = IsCharBoundary-after_ascii s i c.utf8.text lt (omega (arith, here));
            line = ap (list_any is_line_feed) (between_none s (i + 1));
            written = ended;
          })
      | else-byte-eq10 w ↦
          let other : (get_or s i 0 == line_feed) ≡ false =
          ap (λ l. get_or l i 0 == line_feed) (sym same) ∙ grind (arith, nat_tests) in
          rw (w.self-is, w.from-is) (record {
            within = omega (arith, was.within);
            cut = was.cut;
            line = line_grown s from i was.within lt other was.line;
            written = was.written;
          })
    ]

pub push_in_line-requires-2 : goal.push_in_line-requires-2
push_in_line-requires-2 c =
    let s = c.args.text.now in
    let past : length s ≤ c.loop-i.i = omega (arith, ap length c.as_bytes-byte-items.ensures.value) in
    ap (list_any is_line_feed) (c.range_from.ensures.value ∙ sym (between_to_end s c.loop-i.from c.loop-i.i past))
    ∙ c.loop-i.invariant.line

pub returns : goal.returns
returns c =
    on_ok c.push_in_line-2.result c.push_in_line-2.ensures
    (λ e. e ∙ ap (wrote c.loop-i.self) c.range_from.ensures.value ∙ c.loop-i.invariant.written)

-- One more line.
use Rattle.std.proofs.Common.{◌≡◌, ◌+◌, [], true, false, length, get_or, take, sym, ap, ◌∙◌, arith}
use Rattle.std.proofs.Common.{lit<}
use Rattle.std.specs.Prelude.{not}
use Rattle.std.specs.List.{count_by, slice_split}
use Rattle.std.proofs.lemmas.List.{length_push, take_all}
use Rattle.std.proofs.lemmas.List.Sums.{count_by_more_yes, count_by_more_no}
use Rattle.std.proofs.lemmas.Iterator.Consumers.{YieldsList-turn, YieldsList-end}
use Rattle.std.proofs.lemmas.Iterator.Splits.{YieldsList-from_str_split}
use Rattle.htmd_lexical.specs.Characters.{line_feed}
use Rattle.htmd_lexical.specs.CharacterClasses.{is_empty}
use Rattle.htmd_text.specs.Trims.{is_line_feed}
use Rattle.htmd_chunks.proofs.MeasuresLemmas.{empty-test}
use Rattle.htmd_chunks.proofs.size.Size.of_text.Goals as goal

pub loop-line-preserved-then-is_empty : goal.loop-line-preserved-then-is_empty
loop-line-preserved-then-is_empty c =
    let lines = slice_split is_line_feed c.args.text.now in
    let n = length c.loop-line.yielded in
    let turn = YieldsList-turn (YieldsList-from_str_split line_feed c.args.text.now (lit< tt) (cc) (cc) (cc))
    c.loop-line.yielded _ c.loop-line.yielded_by _ _ c.in-Some.line c.in-Some.is c.next.ensures.steps in
    let empty : is_empty (get_or lines n c.in-Some.line.now) ≡ true =
    ap is_empty (sym turn.1) ∙ sym (c.is_empty.ensures ∙ empty-test c.in-Some.line.now) ∙ c.if-is_empty.true in
    record {
      full =
          c.loop-line.invariant.full
          ∙ sym (ap (λ k. count_by (λ line. not (is_empty line)) (take k lines))
          (length_push c.loop-line.yielded c.in-Some.line)
          ∙ count_by_more_no (λ line. not (is_empty line)) lines n c.in-Some.line.now turn.0 (ap not empty));
      empty =
          c.in_ok-empty.ensures ∙ ap (λ k. k + 1) c.loop-line.invariant.empty
          ∙ sym (ap (λ k. count_by is_empty (take k lines)) (length_push c.loop-line.yielded c.in-Some.line)
          ∙ count_by_more_yes is_empty lines n c.in-Some.line.now turn.0 empty);
    }

pub loop-line-preserved : goal.loop-line-preserved
loop-line-preserved c =
    let lines = slice_split is_line_feed c.args.text.now in
    let n = length c.loop-line.yielded in
    let turn = YieldsList-turn (YieldsList-from_str_split line_feed c.args.text.now (lit< tt) (cc) (cc) (cc))
    c.loop-line.yielded _ c.loop-line.yielded_by _ _ c.in-Some.line c.in-Some.is c.next.ensures.steps in
    let full : is_empty (get_or lines n c.in-Some.line.now) ≡ false =
    ap is_empty (sym turn.1) ∙ sym (c.is_empty.ensures ∙ empty-test c.in-Some.line.now) ∙ c.if-is_empty.false in
    record {
      full =
          c.in_ok-full.ensures ∙ ap (λ k. k + 1) c.loop-line.invariant.full
          ∙ sym (ap (λ k. count_by (λ line. not (is_empty line)) (take k lines))
          (length_push c.loop-line.yielded c.in-Some.line)
          ∙ count_by_more_yes (λ line. not (is_empty line)) lines n c.in-Some.line.now turn.0 (ap not full));
      empty =
          c.loop-line.invariant.empty
          ∙ sym (ap (λ k. count_by is_empty (take k lines)) (length_push c.loop-line.yielded c.in-Some.line)
          ∙ count_by_more_no is_empty lines n c.in-Some.line.now turn.0 full);
    }

pub returns : goal.returns
returns c =
    let lines = slice_split is_line_feed c.args.text.now in
    let all = YieldsList-end (YieldsList-from_str_split line_feed c.args.text.now (lit< tt) (cc) (cc) (cc))
    c.loop-line.yielded _ c.loop-line.yielded_by _ _ c.in-None.is c.next.ensures.steps in
    let whole : take (length c.loop-line.yielded) lines ≡ lines =
    take_all (length c.loop-line.yielded) lines (omega (arith, all.1)) in
    let full = c.loop-line.invariant.full ∙ ap (count_by (λ line. not (is_empty line))) whole in
    let empty = c.loop-line.invariant.empty ∙ ap (count_by is_empty) whole in
    cc

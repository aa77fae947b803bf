-- One more part, and the parts of the whole text.
use Rattle.std.proofs.Common.{◌≡◌, ◌++◌, [], cond, codes, length, map, take, arith, sym, ap, ◌∙◌, lit<}
use Rattle.std.specs.Prelude.{not, ◌==◌}
use Rattle.std.specs.List.{slice_split}
use Rattle.std.specs.String.{string_bytes}
use Rattle.std.proofs.lemmas.List.{append-nil, length_push, map-id, take_all}
use Rattle.std.proofs.lemmas.Iterator.Splits.{YieldsList-from_str_split}
use Rattle.std.proofs.lemmas.Iterator.Consumers.{YieldsList-turn, YieldsList-end}
use Rattle.htmd_lexical.specs.Characters.{vertical_bar}
use Rattle.htmd_text.specs.Joins.{joined_texts}
use Rattle.htmd_text.proofs.IndentsLemmas.{pushed_some}
use Rattle.htmd_markdown.proofs.JoinedTextsLemmas.{joined_more, separator_unless}
use Rattle.htmd_commonmark.proofs.TableLinesLemmas.{bars-joined}
use Rattle.htmd_commonmark.proofs.table.with_escaped_bars.Goals as goal
use Rattle.htmd_commonmark.proofs.table.with_escaped_bars.Goals.{then-not-is_first+in_ok-push_str, else-not-is_first}

pub loop-part-preserved : goal.loop-part-preserved
loop-part-preserved c =
    let ls = slice_split (λ b. b == vertical_bar) c.args.text.now in
    let n = length c.loop-part.yielded in
    let bar = codes "\\|" in
    let out = string_bytes c.loop-part.escaped in
    let turn = YieldsList-turn (YieldsList-from_str_split vertical_bar c.args.text.now (lit< tt) (cc) (cc) (cc))
    c.loop-part.yielded _ c.loop-part.yielded_by _ _ c.in-Some.part c.in-Some.is c.next.ensures.steps in
    let more =
    joined_more bar (λ l. l) ls n c.in-Some.part.now [] c.loop-part.is_first turn c.loop-part.invariant.begun in
    let at : string_bytes c.if-not-is_first.escaped ≡ out ++ separator_unless c.loop-part.is_first bar =
    elim c.if-not-is_first.branch [
      | then-not-is_first+in_ok-push_str w ↦
          ap string_bytes w.escaped-is ∙ w.in_ok-push_str.ensures.bytes
          ∙ ap (λ t. out ++ cond (not t) bar []) (sym w.if-not-is_first.true)
      | else-not-is_first w ↦
          ap string_bytes w.escaped-is ∙ sym (append-nil out)
          ∙ ap (λ t. out ++ cond (not t) bar []) (sym w.if-not-is_first.false)
    ] in
    record {
      written = rw (length_push c.loop-part.yielded c.in-Some.part)
          (c.in_ok-push_str-2.ensures.bytes
          ∙ ap (λ l. l ++ c.in-Some.part.now)
          (at ∙ ap (λ l. l ++ separator_unless c.loop-part.is_first bar) c.loop-part.invariant.written)
          ∙ more);
      begun = pushed_some c.loop-part.yielded c.in-Some.part;
    }

pub returns : goal.returns
returns c =
    let ls = slice_split (λ b. b == vertical_bar) c.args.text.now in
    let bar = codes "\\|" in
    let all = YieldsList-end (YieldsList-from_str_split vertical_bar c.args.text.now (lit< tt) (cc) (cc) (cc))
    c.loop-part.yielded _ c.loop-part.yielded_by _ _ c.in-None.is c.next.ensures.steps in
    let whole : take (length c.loop-part.yielded) ls ≡ ls =
    take_all (length c.loop-part.yielded) ls (omega (arith, all.1)) in
    c.loop-part.invariant.written
    ∙ ap (λ l. joined_texts bar (map (λ part. part) l)) whole
    ∙ ap (λ l. joined_texts bar l) (map-id ls)
    ∙ bars-joined c.args.text.now

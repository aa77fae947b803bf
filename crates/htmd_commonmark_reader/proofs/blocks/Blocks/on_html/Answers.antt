-- The end of HTML, or one more line of it.
use Rattle.std.proofs.Common.{◌≡◌, ◌∙◌, ◌&&◌, ◌∷◌, ◌++◌, [], true, false, ap, sym, subst, refl, if◌then◌else◌}
use Rattle.std.proofs.Common.{string_bytes}
use Rattle.std.proofs.lemmas.Result.{on_ok_weaker}
use Rattle.htmd_commonmark_reading.specs.BlockStarts.{has_end}
use Rattle.htmd_commonmark_reading.specs.Boxes as boxes
use Rattle.htmd_commonmark_reading.specs.LeafBlocks.{ended, with_leaf}
use Rattle.htmd_commonmark_reading.specs.Lines.{is_blank}
use Rattle.htmd_commonmark_reader.specs.ClosedParts.{leaf_of}
use Rattle.htmd_commonmark_reader.specs.HtmlBlocks.{are_no_ends, ends_of}
use Rattle.htmd_commonmark_reader.specs.LineViews.{line_of}
use Rattle.htmd_commonmark_reader.specs.OpenBlocks.{HoldsBox}
use Rattle.htmd_commonmark_reader.specs.declared.blocks.Blocks.{Blocks}
use Rattle.htmd_commonmark_reader.specs.declared.closed.ClosedLeaf.TheVariants as closed
use Rattle.htmd_commonmark_reader.specs.declared.leaves.Leaf.TheVariants.{Html}
use Rattle.htmd_commonmark_reader.proofs.BlockStepsLemmas.{box_true, box_false, closed_one, set_leaf, html_box, gap_set}
use Rattle.htmd_commonmark_reader.proofs.LineStartsLemmas.{spaces_end}
use Rattle.htmd_commonmark_reader.proofs.blocks.Blocks.on_html.Goals as goal

pub returns-then-ends_html : goal.returns-then-ends_html
returns-then-ends_html c = λ p done g ends ls h i.
    let o = c.args.self.now in
    let l = line_of c.args.line in
    let html = c.args.html in
    let mid = c.push_leaf.new.self in
    let n : Blocks = record {
      closed = mid.closed;
      definitions = mid.definitions;
      boxes = mid.boxes;
      is_empty = mid.is_empty;
      gap = true;
      leaf = mid.leaf;
    } in
    let more = ls ++ (l.text ∷ []) in
    let test : (are_no_ends ends && is_blank l) ≡ true =
    sym (ap (λ e. are_no_ends e && is_blank l) i.ends_are) ∙ sym c.ends_html.ensures ∙ c.if-ends_html.true in
    subst (λ b. HoldsBox p b n) (html_box done g ends ls l)
    (box_true p (boxes.box (boxes.joined done (boxes.closed_leaf g (boxes.raw ends ls))) true boxes.nothing)
    (if has_end ends l.text then ended done g (boxes.raw ends more) else with_leaf done g (boxes.raw ends more))
    (are_no_ends ends && is_blank l) n test
    (gap_set p (boxes.joined done (boxes.closed_leaf g (boxes.raw ends ls))) false true mid
    (closed_one p done g false (leaf_of (closed.Html html.rows.text)) (boxes.html (boxes.joined_lines ls)) o mid h
    (ap boxes.html i.rows.text) c.in_ok-push_leaf.ensures)))

pub returns-then-is_in : goal.returns-then-is_in
returns-then-is_in c =
    let o = c.args.self.now in
    let l = line_of c.args.line in
    let html = c.args.html in
    let n = c.push_leaf-then-is_in.new.self in
    on_ok_weaker c.push_leaf-then-is_in.result (λ e p done g ends ls h i.
    let more = ls ++ (l.text ∷ []) in
    let test : (are_no_ends ends && is_blank l) ≡ false =
    sym (ap (λ e. are_no_ends e && is_blank l) i.ends_are) ∙ sym c.ends_html.ensures ∙ c.if-ends_html.false in
    let found : has_end ends l.text ≡ true =
    ap (λ e. has_end e l.text) (sym i.ends_are) ∙ spaces_end html.end c.args.line.spaces c.args.line.text.now
    ∙ ap (has_end (ends_of html.end)) (sym c.as_bytes.ensures.value) ∙ sym c.is_in.ensures ∙ c.if-is_in.true in
    subst (λ b. HoldsBox p b n) (html_box done g ends ls l)
    (box_false p (boxes.box (boxes.joined done (boxes.closed_leaf g (boxes.raw ends ls))) true boxes.nothing)
    (if has_end ends l.text then ended done g (boxes.raw ends more) else with_leaf done g (boxes.raw ends more))
    (are_no_ends ends && is_blank l) n test
    (box_true p (ended done g (boxes.raw ends more)) (with_leaf done g (boxes.raw ends more)) (has_end ends l.text) n
    found
    (closed_one p done g false (boxes.html (string_bytes c.push.new.self.text))
    (boxes.html (boxes.joined_lines more)) o n h
    (ap boxes.html (c.in_ok-push.ensures ls i.rows).text) e)))) c.push_leaf-then-is_in.ensures

pub returns : goal.returns
returns c = λ p done g ends ls h i.
    let o = c.args.self.now in
    let l = line_of c.args.line in
    let html = c.args.html in
    let more = ls ++ (l.text ∷ []) in
    let n : Blocks = record {
      closed = o.closed;
      definitions = o.definitions;
      boxes = o.boxes;
      is_empty = o.is_empty;
      gap = o.gap;
      leaf = Html (record { end = html.end; rows = c.push.new.self });
    } in
    let test : (are_no_ends ends && is_blank l) ≡ false =
    sym (ap (λ e. are_no_ends e && is_blank l) i.ends_are) ∙ sym c.ends_html.ensures ∙ c.if-ends_html.false in
    let found : has_end ends l.text ≡ false =
    ap (λ e. has_end e l.text) (sym i.ends_are) ∙ spaces_end html.end c.args.line.spaces c.args.line.text.now
    ∙ ap (has_end (ends_of html.end)) (sym c.as_bytes.ensures.value) ∙ sym c.is_in.ensures ∙ c.if-is_in.false in
    subst (λ b. HoldsBox p b n) (html_box done g ends ls l)
    (box_false p (boxes.box (boxes.joined done (boxes.closed_leaf g (boxes.raw ends ls))) true boxes.nothing)
    (if has_end ends l.text then ended done g (boxes.raw ends more) else with_leaf done g (boxes.raw ends more))
    (are_no_ends ends && is_blank l) n test
    (box_false p (ended done g (boxes.raw ends more)) (with_leaf done g (boxes.raw ends more)) (has_end ends l.text) n
    found
    (set_leaf p done g (boxes.raw ends more) o n h
    (record { closed_is = refl; definitions_are = refl; boxes_are = refl; none = refl; gap_is = refl })
    (ends, more, refl, record { ends_are = i.ends_are; rows = c.in_ok-push.ensures ls i.rows }))))

-- A line that is a whole block of HTML, or its first one.
use Rattle.std.proofs.Common.{◌∙◌, ◌∷◌, [], false, ap, sym, subst, refl, append-nil, string_bytes}
use Rattle.std.proofs.lemmas.Result.{on_ok_weaker}
use Rattle.htmd_commonmark_reading.specs.BlockStarts.{opened}
use Rattle.htmd_commonmark_reading.specs.Boxes as boxes
use Rattle.htmd_commonmark_reading.specs.Boxes.{html}
use Rattle.htmd_commonmark_reader.specs.HtmlBlocks.{ends_of}
use Rattle.htmd_commonmark_reader.specs.LineStarts.{start_of}
use Rattle.htmd_commonmark_reader.specs.LineViews.{line_of}
use Rattle.htmd_commonmark_reader.specs.OpenBlocks.{HoldsBox}
use Rattle.htmd_commonmark_reader.specs.declared.blocks.Blocks.{Blocks}
use Rattle.htmd_commonmark_reader.specs.declared.leaves.Leaf.TheVariants as variant
use Rattle.htmd_commonmark_reader.specs.declared.starts.LineStart.TheVariants.{Html}
use Rattle.htmd_commonmark_reader.proofs.BlockStepsLemmas.{closed_one, set_leaf}
use Rattle.htmd_commonmark_reader.proofs.blocks.Blocks.begin_html.Goals as goal

pub returns-then-is_whole : goal.returns-then-is_whole
returns-then-is_whole c =
    let o = c.args.self.now in
    let n = c.push_leaf.new.self in
    let l = line_of c.args.line in
    let rows = c.in_ok-push.ensures [] c.new-rows.ensures in
    on_ok_weaker c.push_leaf.result (λ e p done g h.
    subst (λ w. HoldsBox p (opened done g l (start_of l (Html c.args.end w))) n) (sym c.if-is_whole.true)
    (closed_one p done g false (html (string_bytes c.push.new.self.text)) (html l.text) o n h
    (ap html (rows.text ∙ append-nil l.text)) e)) c.push_leaf.ensures

pub returns : goal.returns
returns c = λ p done g h.
    let l = line_of c.args.line in
    let o = c.args.self.now in
    let n : Blocks = record {
      closed = o.closed;
      definitions = o.definitions;
      boxes = o.boxes;
      is_empty = o.is_empty;
      gap = o.gap;
      leaf = variant.Html (record { end = c.args.end; rows = c.push.new.self });
    } in
    subst (λ w. HoldsBox p (opened done g l (start_of l (Html c.args.end w))) n) (sym c.if-is_whole.false)
    (set_leaf p done g (boxes.raw (ends_of c.args.end) (l.text ∷ [])) o n h
    (record { closed_is = refl; definitions_are = refl; boxes_are = refl; none = refl; gap_is = refl }) (
      ends_of c.args.end,
      l.text ∷ [],
      refl,
      record {
        ends_are = refl;
        rows = c.in_ok-push.ensures [] c.new-rows.ensures;
      },
    ))

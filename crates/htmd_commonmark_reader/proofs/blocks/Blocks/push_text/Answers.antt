-- Definitions, and what the rest leaves.
use Rattle.std.proofs.Common.{◌≡◌, ◌-◌, true, false, length, refl, rules}
use Rattle.std.proofs.lemmas.Result.{on_ok_weaker}
use Rattle.htmd_lexical.specs.CharacterClasses.{is_empty}
use Rattle.htmd_commonmark_reading.specs.LinkDefinitions as links
use Rattle.htmd_commonmark_reader.specs.ClosedParts.{leaf_of}
use Rattle.htmd_commonmark_reader.specs.OpenBlocks.{whole_of}
use Rattle.htmd_commonmark_reader.specs.declared.blocks.Blocks.{Blocks}
use Rattle.htmd_commonmark_reader.proofs.ClosedTextsLemmas.{text_rest, text_none, count_found, closes_none}
use Rattle.htmd_commonmark_reader.proofs.blocks.Blocks.push_text.Goals as goal

pub returns-then-is_empty : goal.returns-then-is_empty
returns-then-is_empty c =
    let o = c.args.self.now in
    let d = links.definitions c.args.text.now in
    let mid : Blocks = record {
      closed = c.push_marks.new.closed;
      definitions = c.definitions.new.found;
      boxes = o.boxes;
      is_empty = c.before_first-self-2.result;
      gap = c.before_first-self.result;
      leaf = o.leaf;
    } in
    let n : Blocks = record {
      closed = c.push_marks.new.closed;
      definitions = c.definitions.new.found;
      boxes = o.boxes;
      is_empty = c.before_first-self-2.result;
      gap = false;
      leaf = o.leaf;
    } in
    let before : c.len-before.result ≡ length o.definitions.items = search rules in
    let after : c.len.result ≡ length c.definitions.new.found.items = search rules in
    let none : is_empty c.in_ok-rest.rest.now ≡ true = search rules in
    text_none (whole_of c.args.level) d (c.len.result - c.len-before.result) c.in_ok-rest.rest.now o mid n (record {
      parts = c.in_ok-push_marks.ensures;
      found = c.in_ok-rest.ensures.found;
      count = (count_found o.definitions.items c.definitions.new.found.items d.found c.len-before.result c.len.result
          before after c.in_ok-rest.ensures.found).1;
      boxes = refl;
      none = c.before_first-self-2.ensures;
      gap = c.before_first-self.ensures;
      inner = refl;
    }) c.in_ok-rest.ensures.rest none (closes_none false mid n refl refl refl refl refl refl)

pub returns : goal.returns
returns c =
    let o = c.args.self.now in
    let d = links.definitions c.args.text.now in
    let mid : Blocks = record {
      closed = c.push_marks.new.closed;
      definitions = c.definitions.new.found;
      boxes = o.boxes;
      is_empty = c.before_first-self-2.result;
      gap = c.before_first-self.result;
      leaf = o.leaf;
    } in
    let before : c.len-before.result ≡ length o.definitions.items = search rules in
    let after : c.len.result ≡ length c.definitions.new.found.items = search rules in
    let some : is_empty c.in_ok-rest.rest.now ≡ false = search rules in
    on_ok_weaker c.push_leaf.result (λ e. text_rest (whole_of c.args.level) d (c.len.result - c.len-before.result)
    c.in_ok-rest.rest.now (leaf_of c.in_ok-leaf.leaf) o mid c.push_leaf.new.self (record {
      parts = c.in_ok-push_marks.ensures;
      found = c.in_ok-rest.ensures.found;
      count = (count_found o.definitions.items c.definitions.new.found.items d.found c.len-before.result c.len.result
          before after c.in_ok-rest.ensures.found).1;
      boxes = refl;
      none = c.before_first-self-2.ensures;
      gap = c.before_first-self.ensures;
      inner = refl;
    }) c.in_ok-rest.ensures.rest some c.in_ok-leaf.ensures e) c.push_leaf.ensures

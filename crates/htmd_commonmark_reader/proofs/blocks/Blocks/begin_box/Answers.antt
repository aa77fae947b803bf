-- A container begins.
use Rattle.std.proofs.Common.{refl, true, false}
use Rattle.htmd_commonmark_reader.specs.declared.blocks.Blocks.{Blocks}
use Rattle.htmd_commonmark_reader.proofs.OpenBlocksLemmas.{begun_box}
use Rattle.htmd_commonmark_reader.proofs.blocks.Blocks.begin_box.Goals as goal

pub returns : goal.returns
returns c = λ p done g h.
    let o = c.args.self.now in
    let n : Blocks = record {
      closed = c.push.new.self;
      definitions = o.definitions;
      boxes = c.push-2.new.self;
      is_empty = true;
      gap = false;
      leaf = o.leaf;
    } in
    begun_box p done g c.args.kind o n h (record {
      closed = c.in_ok-push.ensures.items;
      definitions = refl;
      boxes = c.in_ok-push-2.ensures;
      none = refl;
      gap = refl;
      inner = refl;
    })

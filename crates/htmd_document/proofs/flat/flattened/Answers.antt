-- The blocks so far and the lines behind them are all of it.
use Rattle.std.proofs.Common.{◌∙◌, [], ap, map, string_bytes}
use Rattle.htmd_document.specs.DocumentViews.{blocks_of}
use Rattle.htmd_document.specs.FlatViews.{Flat, flat_of, flat_in}
use Rattle.htmd_document.proofs.FlatLemmas.{flattened-all}
use Rattle.htmd_document.proofs.flat.flattened.Goals as goal

pub returns : goal.returns
returns c =
    let f : Flat =
    record { done = map flat_of c.in_ok-with_capacity.field-0.items; lines = string_bytes c.new.result } in
    flattened-all f (flat_in c.push_all.new.self) (flat_in c.end_lines.new.self) (blocks_of c.args.blocks.now)
    (ap (λ xs. record { done = map flat_of xs; lines = string_bytes c.new.result })
    c.in_ok-with_capacity.ensures.items
    ∙ ap (λ s. record { done = []; lines = s }) c.new.ensures.bytes)
    c.in_ok-push_all.ensures c.in_ok-end_lines.ensures

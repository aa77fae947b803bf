-- What the loop of `inlines_values` keeps.
use Rattle.std.proofs.Common.{◌≡◌, map, take}
use Rattle.serde_json.specs.View.{items_view}
use Rattle.htmd_document.specs.Documents as value
use Rattle.htmd_document.specs.DocumentViews.{inline_of}
use Rattle.htmd_document.specs.Mdast.{inlines_data}
use Rattle.htmd_document.proofs.mdast.+inlines.Given as goal

abbrev pub invariant-inlines_values-loop-inline : goal.invariant-inlines_values-loop-inline
invariant-inlines_values-loop-inline l =
    items_view l.values.items ≡ inlines_data (value.inlines_of (take l.inline-index (map inline_of l.inlines)))

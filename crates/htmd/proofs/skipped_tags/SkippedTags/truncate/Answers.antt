-- The names of what is kept.
use Rattle.std.proofs.Common.{◌∙◌, ap, sym, map, string_bytes}
use Rattle.std.proofs.lemmas.List.{take-map}
use Rattle.htmd.proofs.skipped_tags.SkippedTags.truncate.Goals as goal

pub returns : goal.returns
returns c =
    ap (map string_bytes) c.truncate.ensures.items
    ∙ sym (take-map string_bytes c.args.count c.args.self.now.names.items)

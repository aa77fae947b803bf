-- Each character has at most four bytes.
use Rattle.std.proofs.Common.{◌<◌, length, rules, sym}
use Rattle.htmd_commonmark_reader.proofs.LabelsLemmas.{many_bytes}
use Rattle.htmd_commonmark_reader.proofs.labels.is_long.Goals as goal

pub returns-then-label : goal.returns-then-label
returns-then-label c =
    let long : 3996 < length c.args.label.now = search rules in
    sym (many_bytes c.args.label.now c.utf8.label long)

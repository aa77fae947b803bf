-- A slash comes after the folder.
use Rattle.std.proofs.Common.{codes, Some}
use Rattle.std.proofs.lemmas.Str.Pattern.{ends_text}
use Rattle.htmd_folders.proofs.ListingsLemmas.{below_slash, strip_text}
use Rattle.htmd_folders.proofs.memory.path_below.Goals as goal

pub returns-else-ends_with : goal.returns-else-ends_with
returns-else-ends_with c =
    below_slash c.args.name.now c.args.folder.now c.in_ok-rest.rest.now c.ends_with.result
    c.strip_prefix-else-ends_with.result
    (strip_text c.args.folder.now c.args.name.now (Some c.in_ok-rest.rest) c.in_ok-rest.ensures.cases)
    (ends_text c.ends_with.result (codes "/") c.args.folder.now c.ends_with.ensures.cases) c.if-ends_with.false
    c.strip_prefix-else-ends_with.ensures.cases

-- A text may be cut after a name with which it begins.
use Rattle.std.proofs.lemmas.Str.{IsCharBoundary-start}
use Rattle.htmd_html5_tokens.proofs.ReferencesLemmas.{old_front}
use Rattle.htmd_html5_tokens.proofs.references.old_reference.Goals as goal

pub returns-in_default-clause-end : goal.returns-in_default-clause-end
returns-in_default-clause-end c = IsCharBoundary-start c.args.after.now c.utf8.after

pub slice_bounds-goes_on-count : goal.slice_bounds-goes_on-count
slice_bounds-goes_on-count c =
    let found = rw c.as_bytes-bytes.ensures.value at c.in-Some.ensures in
    let front = old_front c.args.after.now _ found c.utf8.after in
    rw c.as_bytes-bytes.ensures.value front.0

pub slice_bounds-goes_on-start : goal.slice_bounds-goes_on-start
slice_bounds-goes_on-start c =
    let found = rw c.as_bytes-bytes.ensures.value at c.in-Some.ensures in
    let front = old_front c.args.after.now _ found c.utf8.after in
    rw c.as_bytes-bytes.ensures.value front.0

pub returns-then-goes_on-clause-end : goal.returns-then-goes_on-clause-end
returns-then-goes_on-clause-end c = IsCharBoundary-start c.args.after.now c.utf8.after

pub returns-clause-end : goal.returns-clause-end
returns-clause-end c =
    let found = rw c.as_bytes-bytes.ensures.value at c.in-Some.ensures in
    let front = old_front c.args.after.now _ found c.utf8.after in
    front.1

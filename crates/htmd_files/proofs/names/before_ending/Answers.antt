-- The ending is there, or it isn't.
use Rattle.std.proofs.Common.{◌≡◌, ◌∙◌, sym, map}
use Rattle.std.specs.Char.{to_ascii_lowercase}
use Rattle.std.proofs.lemmas.Bool.{false≢true}
use Rattle.htmd_files.proofs.NamesLemmas.{ending_found, ending_missed}
use Rattle.htmd_files.proofs.names.before_ending.Goals as goal

pub returns-then-eq_ignore_ascii_case : goal.returns-then-eq_ignore_ascii_case
returns-then-eq_ignore_ascii_case c =
    let p = c.eq_ignore_ascii_case.ensures.test.0 c.if-eq_ignore_ascii_case.true in
    let b = c.split_at.ensures.back in
    let v = c.as_bytes.ensures.value in
    let w = c.as_bytes-2.ensures.value in
    ending_found c.args.path.now c.args.ending.now c.range.result.now c.saturating_sub-start.result
    c.saturating_sub-start.ensures (cc) c.range.ensures.value

pub returns-else-eq_ignore_ascii_case : goal.returns-else-eq_ignore_ascii_case
returns-else-eq_ignore_ascii_case c =
    let b = c.split_at.ensures.back in
    let v = c.as_bytes.ensures.value in
    let w = c.as_bytes-2.ensures.value in
    ending_missed c.args.path.now c.args.ending.now c.saturating_sub-start.result c.saturating_sub-start.ensures
    (λ e.
    let p : map to_ascii_lowercase c.split_at.result.1.now ≡ map to_ascii_lowercase c.as_bytes-2.result.now = cc in
    false≢true (sym c.if-eq_ignore_ascii_case.false ∙ c.eq_ignore_ascii_case.ensures.test.1 p))

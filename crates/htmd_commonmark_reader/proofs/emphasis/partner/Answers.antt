-- What the search has passed is kept.
use Rattle.std.proofs.Common.{◌+◌, ◌<◌, ℕ, List, length, subst, sym, rules, arith}
use Rattle.std.specs.List.{AllWithin}
use Rattle.htmd_commonmark_reader.specs.Runs.{run_of}
use Rattle.htmd_commonmark_reader.specs.Openers.{IsUnfit, IsNearest, kind}
use Rattle.htmd_commonmark_reader.specs.declared.emphasis.Delimiter.{Delimiter}
use Rattle.htmd_commonmark_reader.proofs.KindsLemmas.{searched_more}
use Rattle.htmd_commonmark_reader.proofs.emphasis.partner.Goals as goal
use Rattle.htmd_commonmark_reader.proofs.emphasis.partner.Goals.{in-Some-2, in-None}

pub nearest-found-requires-clause-searched : goal.nearest-found-requires-clause-searched
nearest-found-requires-clause-searched c =
    let known = c.requires.searched (run_of c.args.closing.now.run) (record { index = 0; place = 0 }) c.requires.sign in
    rw (c.kind_of-kind.ensures, c.deref.ensures.value) known.0

pub returns-clause-searched : goal.returns-clause-searched
returns-clause-searched c =
    let q = run_of c.args.closing.now.run in
    let ds = c.args.openers.now.items.items in
    let low : kind q < length c.args.openers.now.searched = search rules in
    let unfit : AllWithin (IsUnfit q) ds c.match-found.index (length ds) =
    elim c.match-found.branch [
      | in-Some-2 w ↦
          let near : IsNearest q c.deref.result.now w.in-Some-2.index = w.in-Some-2.ensures in
          subst (λ (k : ℕ). AllWithin (IsUnfit q) ds k (length ds)) (sym w.index-is)
          (subst (λ (l : List Delimiter). AllWithin (IsUnfit q) l (w.in-Some-2.index + 1) (length l))
          c.deref.ensures.value near.later)
      | in-None w ↦
          let none : AllWithin (IsUnfit q) c.deref.result.now 0 (length c.deref.result.now) = w.in-None.ensures in
          subst (λ (k : ℕ). AllWithin (IsUnfit q) ds k (length ds)) (sym w.index-is)
          (subst (λ (l : List Delimiter). AllWithin (IsUnfit q) l 0 (length l)) c.deref.ensures.value none)
    ] in
    rw c.kind_of-kind.ensures (searched_more q ds c.args.openers.now.searched c.args.closing.now.from
    (record { index = c.match-found.index; place = c.args.closing.now.from }) low c.requires.sign
    c.requires.searched unfit (omega arith))

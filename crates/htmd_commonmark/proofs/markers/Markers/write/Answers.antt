-- A number and its delimiter are one line.
use Rattle.std.proofs.Common.{◌+◌, arith, subst, sym}
use Rattle.htmd_commonmark.specs.declared.markers.Markers.{Markers}
use Rattle.htmd_commonmark.specs.BlockMarkdown.{marker}
use Rattle.htmd_commonmark.specs.Pages.{IsMarker}
use Rattle.htmd_commonmark.proofs.BlocksLemmas.{number_is_marker}
use Rattle.htmd_commonmark.proofs.markers.Markers.write.Goals as goal

pub returns-in_err-write-in-Numbers-clause-line : goal.returns-in_err-write-in-Numbers-clause-line
returns-in_err-write-in-Numbers-clause-line c =
    subst (λ (m : Markers). IsMarker (marker m c.args.place)) (sym c.in-Numbers.is)
    (number_is_marker (c.in-Numbers.start + c.args.place) c.in-Numbers.delimiter (omega arith))

pub returns-in_ok-write-in-Numbers-clause-line : goal.returns-in_ok-write-in-Numbers-clause-line
returns-in_ok-write-in-Numbers-clause-line c =
    subst (λ (m : Markers). IsMarker (marker m c.args.place)) (sym c.in-Numbers.is)
    (number_is_marker (c.in-Numbers.start + c.args.place) c.in-Numbers.delimiter (omega arith))

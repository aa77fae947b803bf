-- What is left of the text is scanned as all of it is.
use Rattle.std.proofs.Common.{◌≡◌, [], length}
use Rattle.std.specs.Prelude.{reverse}
use Rattle.htmd_commonmark_reading.specs.Brackets.{Brackets, outermost, before_end}
use Rattle.htmd_commonmark_reading.specs.Brackets as spec
use Rattle.htmd_commonmark_reader.specs.Destinations.{AreKnown}
use Rattle.htmd_commonmark_reader.specs.Missing.{AreMissing}
use Rattle.htmd_commonmark_reader.specs.References.{references_of}
use Rattle.htmd_commonmark_reader.specs.Scans.{IsScan}
use Rattle.htmd_commonmark_reader.specs.Steps.{IsEnd, EndIn}
use Rattle.htmd_commonmark_reader.proofs.inlines.scanned.Given as goal
use denote.Shadow.{shadow}
use denote.Text.{Utf8}

abbrev pub invariant-loop-here : goal.invariant-loop-here
invariant-loop-here l =
    let refs = references_of l.references in
    record {
      text : shadow (Utf8 l.here);
      state : (b : Brackets) × IsScan b l.scan × EndIn l.here b × IsEnd l.text l.here
          × (spec.scanned refs l.here 0 (reverse (before_end l.text l.here)) b
          ≡ spec.scanned refs l.text 0 [] (outermost []));
      known : AreKnown l.known.items l.here;
      missing : AreMissing l.here l.missing;
    }

abbrev pub decreases-loop-here : goal.decreases-loop-here
decreases-loop-here l = length l.here

-- The names after the folder's.
use Rattle.htmd_files.proofs.PathsLemmas.{below_found, below_missed}
use Rattle.htmd_files.proofs.places.Place.is_below.Goals as goal

pub returns-in-Some : goal.returns-in-Some
returns-in-Some c =
    below_found c.args.folder.now.is_absolute c.args.self.now.is_absolute c.lead_down.result
    c.args.folder.now.names.items c.args.self.now.names.items c.as_slice-2.result.now c.as_slice.result.now
    c.in-Some.names.now c.if-self-folder.false c.as_slice.ensures.value c.as_slice-2.ensures.value
    c.in-Some.ensures.cases.0 c.in-Some.ensures.cases.1 c.lead_down.ensures

pub returns-in-None : goal.returns-in-None
returns-in-None c =
    below_missed c.args.folder.now.is_absolute c.args.self.now.is_absolute c.args.folder.now.names.items
    c.args.self.now.names.items c.as_slice-2.result.now c.as_slice.result.now c.if-self-folder.false
    c.as_slice.ensures.value c.as_slice-2.ensures.value c.in-None.ensures.cases

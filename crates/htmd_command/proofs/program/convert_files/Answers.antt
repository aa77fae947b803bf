-- The pages were taken, and the status tells if all went well.
use Rattle.std.proofs.Common.{refl, length}
use Rattle.htmd_command.proofs.ProgramsLemmas.{success_law}
use Rattle.htmd_command.proofs.program.convert_files.Goals as goal

pub returns-clause-taken : goal.returns-clause-taken
returns-clause-taken g c = (
  c.run_pages-tally.result.up_to_date,
  c.run_pages-tally.result.failed,
  record {
    taken = c.run_pages-tally.ensures.taken;
    converted = λ y z. c.run_pages-tally.ensures.converted y z c.requires;
    kept = c.run_pages-tally.ensures.kept c.requires;
    success = success_law c.args.missed.now c.run_pages-tally.result.failed (length c.args.missed.now)
        c.status_of.result refl c.status_of.ensures.success;
    failure = c.status_of.ensures.status;
  },
)

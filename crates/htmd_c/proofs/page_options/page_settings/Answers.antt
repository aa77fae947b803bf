-- No names are there at first.
use Rattle.std.proofs.Common.{ap}
use Rattle.htmd.specs.PageSettings.{Settings}
use Rattle.htmd_c.proofs.CallLemmas.{no_names}
use Rattle.htmd_c.proofs.page_options.page_settings.Goals as goal

pub read_names-requires : goal.read_names-requires
read_names-requires c =
    no_names c.settings_of-settings.result.skipped.items
    (ap (λ (s : Settings). s.skipped) c.settings_of-settings.ensures)

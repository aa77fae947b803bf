-- What a converter of pages holds.
use Rattle.htmd_walk.specs.Choice.{Config}
use Rattle.htmd.specs.declared.page_converter.PageConverter.{PageConverter}
use Rattle.htmd.specs.PageOutputs.{GoesBy}
use Rattle.htmd.specs.PageSettings.{Settings, settings_in}

-- the settings by which pages are converted
abbrev pub settings_of : {R : Type 0} → PageConverter R → Settings
settings_of converter = settings_in converter.settings.now

-- its handlers are ready, and go by its settings
abbrev pub IsReady : {R : Type 0} → (R → Type 0) → (R → Config) → PageConverter R → Type 0
IsReady ready config converter = GoesBy ready config converter.converter (settings_of converter)

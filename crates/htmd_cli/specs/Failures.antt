-- What a refused conversion is to a run, and what ends a run and a batch.
use Rattle.std.specs.Prelude.{◌≡◌, ◌⊎◌, ⊤}
use Rattle.htmd.specs.declared.convert_error.ConvertError.{ConvertError}
use Rattle.htmd.specs.declared.convert_error.ConvertError.TheVariants as conversion
use Rattle.htmd.specs.declared.page_error.PageError.TheVariants as page
use Rattle.htmd_cli.specs.declared.faults.RunError.{RunError}
use Rattle.htmd_cli.specs.declared.faults.RunError.TheVariants as run
use Rattle.htmd_cli.specs.declared.faults.StreamError.{StreamError}
use Rattle.htmd_cli.specs.declared.faults.StreamError.TheVariants as stream

-- a refusal keeps its place and kind
abbrev pub run_error : ConvertError → RunError
run_error (conversion.Refused place kind) = run.Refused place kind
run_error conversion.Memory = run.Memory

-- what ends a run by a mode is what ends the conversion of a stream
abbrev pub stream_error : RunError → StreamError
stream_error (run.Refused place kind) = stream.Page (page.Refused place kind)
stream_error run.NotUtf8 = stream.Page page.NotUtf8
stream_error run.Memory = stream.Page page.Memory
stream_error run.Read = stream.Read
stream_error run.Write = stream.Write

-- what a batch ends at: its source, its sink or the memory failed
abbrev pub IsRowFault : RunError → Type 0
IsRowFault error = (error ≡ run.Read) ⊎ ((error ≡ run.Write) ⊎ (error ≡ run.Memory))

-- what the reading of a source ends at: the source or the memory failed
abbrev pub IsReadFault : RunError → Type 0
IsReadFault run.Read = ⊤
IsReadFault run.Memory = ⊤
IsReadFault _ = ⊥

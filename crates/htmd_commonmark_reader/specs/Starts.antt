-- What lines start, as the reader holds it.
use Rattle.std.specs.Prelude.{[], Option, Some, None}
use Rattle.htmd_commonmark_reading.specs.Boxes.{headed, fenced, leaf}
use Rattle.htmd_commonmark_reading.specs.BlockStarts as spec
use Rattle.htmd_commonmark_reading.specs.BlockStarts.{Start, no_start, whole, first_line}
use Rattle.htmd_commonmark_reader.specs.declared.block_starts.After.{After}
use Rattle.htmd_commonmark_reader.specs.declared.block_starts.After.TheVariants.{Alone, Under, Lazy}
use Rattle.htmd_commonmark_reader.specs.declared.block_starts.Heading.{Heading}
use Rattle.htmd_commonmark_reader.specs.declared.block_starts.Fence.{Fence}

abbrev pub after_of : After → spec.After
after_of Alone = spec.alone
after_of Under = spec.under
after_of Lazy = spec.lazy

abbrev pub heading_of : Option Heading → Start
heading_of None = no_start
heading_of (Some h) = whole (headed h.level h.text.now)

abbrev pub fence_of : Option Fence → Start
fence_of None = no_start
fence_of (Some f) = first_line (leaf (fenced f.columns f.sign f.count f.info.now []))

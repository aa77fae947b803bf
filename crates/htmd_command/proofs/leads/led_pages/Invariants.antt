-- The pages so far.
use Rattle.std.proofs.Common.{◌≡◌, map, take}
use Rattle.htmd_addresses.specs.PageViews.{pages_of}
use Rattle.htmd_command.specs.PageResults.{value_of}
use Rattle.htmd_command.proofs.leads.led_pages.Given as goal

abbrev pub invariant-loop-page : goal.invariant-loop-page
invariant-loop-page l = pages_of l.led.items ≡ map value_of (take l.page-index l.pages)

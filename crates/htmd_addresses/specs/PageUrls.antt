-- The URL of a page of a folder.
use Rattle.std.specs.Prelude.{ℕ, List, [], Option, Some}
use Rattle.std.specs.Result.{result_ok}
use Rattle.htmd_addresses.specs.Leads.{relative}
use Rattle.url.specs.Parts.{Parts}
use Rattle.url.specs.Parser.{parse_url}

-- the URL of the page with this path in a folder with this URL: its path, escaped, is read against that (URL Standard,
-- 4.4); none if that can't be done
abbrev pub page_url : Parts → List ℕ → Option Parts
page_url url path = result_ok (parse_url (Some url) (relative [] path))

-- What a refused conversion is to a page.
use Rattle.htmd.specs.declared.convert_error.ConvertError.{ConvertError}
use Rattle.htmd.specs.declared.convert_error.ConvertError.TheVariants as conversion
use Rattle.htmd.specs.declared.page_error.PageError.{PageError}
use Rattle.htmd.specs.declared.page_error.PageError.TheVariants as page

-- a refusal keeps its place and kind
abbrev pub conversion_fault : ConvertError → PageError
conversion_fault (conversion.Refused place kind) = page.Refused place kind
conversion_fault conversion.Memory = page.Memory

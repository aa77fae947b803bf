-- How a refusal names its kind: by the name of the variant.
use Rattle.std.specs.Prelude.{ℕ, List, codes}
use Rattle.htmd_grammar.specs.declared.fault.FaultKind.{FaultKind}
use Rattle.htmd_grammar.specs.declared.fault.FaultKind.TheVariants as kind

abbrev pub fault_name : FaultKind → List ℕ
fault_name kind.Nul = codes "Nul"
fault_name kind.MalformedTag = codes "MalformedTag"
fault_name kind.MalformedComment = codes "MalformedComment"
fault_name kind.MalformedDeclaration = codes "MalformedDeclaration"
fault_name kind.UnknownReference = codes "UnknownReference"
fault_name kind.BadNumber = codes "BadNumber"
fault_name kind.DuplicateAttribute = codes "DuplicateAttribute"
fault_name kind.SelfClosing = codes "SelfClosing"
fault_name kind.TagOutside = codes "TagOutside"
fault_name kind.NotAllowedHere = codes "NotAllowedHere"
fault_name kind.StrayEndTag = codes "StrayEndTag"
fault_name kind.StrayText = codes "StrayText"
fault_name kind.Unclosed = codes "Unclosed"
fault_name kind.ScriptEscape = codes "ScriptEscape"
fault_name kind.TooDeep = codes "TooDeep"

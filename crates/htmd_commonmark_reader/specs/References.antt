-- The definitions that references lead to, and the targets by them.
use Rattle.std.specs.Prelude.{map}
use Rattle.htmd_commonmark_reading.specs.Brackets as spec
use Rattle.htmd_commonmark_reader.specs.Keys.{definition_of}
use Rattle.htmd_commonmark_reader.specs.Targets.{address_of, title_of}
use Rattle.htmd_commonmark_reader.specs.declared.references.References.{References}
use Rattle.htmd_commonmark_reader.specs.declared.targets.Found.{Found}

abbrev pub references_of : References → spec.References
references_of r = map definition_of r.definitions.items

abbrev pub found_of : Found → spec.Target
found_of f = record { address = address_of f.target; title = title_of f.target; rest = f.rest.now }

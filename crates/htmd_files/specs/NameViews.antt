-- What the kind of pages and the names of outputs stand for.
use Rattle.htmd_files.specs.declared.names.Naming as held_naming
use Rattle.htmd_files.specs.declared.names.PageKind as held_kind
use Rattle.htmd_files.specs.declared.names.PageKind.TheVariants as held
use Rattle.htmd_files.specs.Names.{Kind, Naming, html, markdown}

abbrev pub kind_of : held_kind.PageKind → Kind
kind_of held.Html = html
kind_of held.Markdown = markdown

abbrev pub naming_of : held_naming.Naming → Naming
naming_of naming = record { kind = kind_of naming.kind; extension = naming.extension.now }

-- The names of a set, as the program lists them. No public clause cites it.
use Rattle.std.specs.Prelude.{List, [], ◌∷◌}
use Rattle.htmd_html5_state.specs.declared.sets.NameSet.{NameSet}
use Rattle.htmd_html5_state.specs.declared.sets.NameSet.TheVariants.{Only, Headings, DescriptionParts, Cells}
use Rattle.htmd_html5_state.specs.declared.sets.NameSet.TheVariants.{TableSections, Options, ImpliedEnd}
use Rattle.htmd_html5_state.specs.declared.sets.NameSet.TheVariants.{ImpliedEndInRuby, Fostering, TableContext}
use Rattle.htmd_html5_state.specs.declared.sets.NameSet.TheVariants.{TableBodyContext, TableRowContext}
use Rattle.htmd_html5_state.specs.declared.names.TagName.{TagName}
use Rattle.htmd_html5_state.specs.declared.names.TagName.TheVariants.{Dd, Dt, H1, H2, H3, H4, H5, H6, Html, Li}
use Rattle.htmd_html5_state.specs.declared.names.TagName.TheVariants.{OptGroup, OptionTag, P, Rb, Rp, Rt, Rtc, Table}
use Rattle.htmd_html5_state.specs.declared.names.TagName.TheVariants.{TBody, Td, Template, TFoot, Th, THead, Tr}

-- of a set of several names
abbrev pub members : NameSet → List TagName
members (Only tag) = []
members Headings = H1 ∷ H2 ∷ H3 ∷ H4 ∷ H5 ∷ H6 ∷ []
members DescriptionParts = Dd ∷ Dt ∷ []
members Cells = Td ∷ Th ∷ []
members TableSections = TBody ∷ TFoot ∷ THead ∷ []
members Options = OptGroup ∷ OptionTag ∷ []
members ImpliedEnd = Dd ∷ Dt ∷ Li ∷ OptGroup ∷ OptionTag ∷ P ∷ Rb ∷ Rp ∷ Rt ∷ Rtc ∷ []
members ImpliedEndInRuby = Dd ∷ Dt ∷ Li ∷ OptGroup ∷ OptionTag ∷ P ∷ Rb ∷ Rp ∷ Rt ∷ []
members Fostering = Table ∷ TBody ∷ TFoot ∷ THead ∷ Tr ∷ []
members TableContext = Html ∷ Table ∷ Template ∷ []
members TableBodyContext = Html ∷ TBody ∷ Template ∷ TFoot ∷ THead ∷ []
members TableRowContext = Html ∷ Template ∷ Tr ∷ []

-- Elements that are blocks, and blocks of which nothing else is said.
use Rattle.std.proofs.Common.{◌≡◌, ℕ, refl}
use Rattle.htmd_document.specs.declared.document.Format as formats
use Rattle.htmd_document.specs.declared.document.InlineElement as elements
use Rattle.htmd_shown.specs.declared.role.Role.{Role}
use Rattle.htmd_shown.specs.declared.role.Role.TheVariants as role
use Rattle.htmd_flow.specs.Contexts.{Context, apart}
use Rattle.htmd_flow.specs.Flows.{Element, flow_all, parts_of, block_parts}

-- a role of a block
pub record IsBlock (r : Role) : Type 0 where
  pub format : (f : formats.Format) → r ≡ role.Format f → ⊥
  pub element : (f : elements.InlineElement) → r ≡ role.Element f → ⊥
  pub abbreviation : r ≡ role.Abbreviation → ⊥
  pub code : r ≡ role.Code → ⊥
  pub typed : r ≡ role.Typed → ⊥
  pub link : r ≡ role.Link → ⊥
  pub target : r ≡ role.Target → ⊥
  pub set_apart : r ≡ role.Apart → ⊥
  pub line_break : r ≡ role.LineBreak → ⊥
  pub input : r ≡ role.Input → ⊥
  pub plain : r ≡ role.Plain → ⊥
  pub anchors : r ≡ role.Anchors → ⊥
  pub unlinked : r ≡ role.Unlinked → ⊥

-- a role of which nothing is said but that it is a block
pub record IsOther (r : Role) : Type 0 where
  pub heading : (level : ℕ) → r ≡ role.Heading level → ⊥
  pub preformatted : r ≡ role.Preformatted → ⊥
  pub verbatim : r ≡ role.Verbatim → ⊥
  pub block_quote : r ≡ role.BlockQuote → ⊥
  pub thematic_break : r ≡ role.ThematicBreak → ⊥
  pub bullet_list : r ≡ role.BulletList → ⊥
  pub numbered_list : r ≡ role.NumberedList → ⊥
  pub terms : r ≡ role.Terms → ⊥
  pub table : r ≡ role.Table → ⊥
  pub division : r ≡ role.Division → ⊥
  pub details : r ≡ role.Details → ⊥
  pub figure : r ≡ role.Figure → ⊥
  pub term : r ≡ role.Term → ⊥
  pub caption : r ≡ role.Caption → ⊥
  pub figure_caption : r ≡ role.FigureCaption → ⊥
  pub summary : r ≡ role.Summary → ⊥
  pub cell : r ≡ role.Cell → ⊥

module _ (e : Element) (context : Context) where
  pub parts_of_block : (r : Role) → IsBlock r → block_parts r e context ≡ parts_of r e context
  parts_of_block (role.Format f) o = absurd (o.format f refl)
  parts_of_block (role.Element f) o = absurd (o.element f refl)
  parts_of_block role.Abbreviation o = absurd (o.abbreviation refl)
  parts_of_block role.Code o = absurd (o.code refl)
  parts_of_block role.Typed o = absurd (o.typed refl)
  parts_of_block role.Link o = absurd (o.link refl)
  parts_of_block role.Target o = absurd (o.target refl)
  parts_of_block role.Apart o = absurd (o.set_apart refl)
  parts_of_block role.LineBreak o = absurd (o.line_break refl)
  parts_of_block role.Input o = absurd (o.input refl)
  parts_of_block role.Plain o = absurd (o.plain refl)
  parts_of_block role.Anchors o = absurd (o.anchors refl)
  parts_of_block role.Unlinked o = absurd (o.unlinked refl)
  parts_of_block (role.Heading level) o = refl
  parts_of_block role.Preformatted o = refl
  parts_of_block role.Verbatim o = refl
  parts_of_block role.BlockQuote o = refl
  parts_of_block role.ThematicBreak o = refl
  parts_of_block role.BulletList o = refl
  parts_of_block role.NumberedList o = refl
  parts_of_block role.Terms o = refl
  parts_of_block role.Table o = refl
  parts_of_block role.Division o = refl
  parts_of_block role.Details o = refl
  parts_of_block role.Figure o = refl
  parts_of_block role.Cell o = refl
  parts_of_block role.Paragraph o = refl
  parts_of_block role.Item o = refl
  parts_of_block role.Term o = refl
  parts_of_block role.Meaning o = refl
  parts_of_block role.LayoutTable o = refl
  parts_of_block role.Caption o = refl
  parts_of_block role.TableHead o = refl
  parts_of_block role.TableBody o = refl
  parts_of_block role.Row o = refl
  parts_of_block role.HeaderCell o = refl
  parts_of_block role.FigureCaption o = refl
  parts_of_block role.Summary o = refl
  parts_of_block role.Legend o = refl
  parts_of_block role.Block o = refl

  -- such an element gives its content as a block
  pub other_parts : (r : Role) → IsOther r → apart (flow_all e.nodes context) ≡ block_parts r e context
  other_parts (role.Format f) o = refl
  other_parts (role.Element f) o = refl
  other_parts role.Abbreviation o = refl
  other_parts role.Code o = refl
  other_parts role.Typed o = refl
  other_parts role.Link o = refl
  other_parts role.Target o = refl
  other_parts role.Apart o = refl
  other_parts role.LineBreak o = refl
  other_parts role.Input o = refl
  other_parts role.Plain o = refl
  other_parts role.Anchors o = refl
  other_parts role.Unlinked o = refl
  other_parts (role.Heading level) o = absurd (o.heading level refl)
  other_parts role.Preformatted o = absurd (o.preformatted refl)
  other_parts role.Verbatim o = absurd (o.verbatim refl)
  other_parts role.BlockQuote o = absurd (o.block_quote refl)
  other_parts role.ThematicBreak o = absurd (o.thematic_break refl)
  other_parts role.BulletList o = absurd (o.bullet_list refl)
  other_parts role.NumberedList o = absurd (o.numbered_list refl)
  other_parts role.Terms o = absurd (o.terms refl)
  other_parts role.Table o = absurd (o.table refl)
  other_parts role.Division o = absurd (o.division refl)
  other_parts role.Details o = absurd (o.details refl)
  other_parts role.Figure o = absurd (o.figure refl)
  other_parts role.Cell o = absurd (o.cell refl)
  other_parts role.Paragraph o = refl
  other_parts role.Item o = refl
  other_parts role.Term o = absurd (o.term refl)
  other_parts role.Meaning o = refl
  other_parts role.LayoutTable o = refl
  other_parts role.Caption o = absurd (o.caption refl)
  other_parts role.TableHead o = refl
  other_parts role.TableBody o = refl
  other_parts role.Row o = refl
  other_parts role.HeaderCell o = refl
  other_parts role.FigureCaption o = absurd (o.figure_caption refl)
  other_parts role.Summary o = absurd (o.summary refl)
  other_parts role.Legend o = refl
  other_parts role.Block o = refl

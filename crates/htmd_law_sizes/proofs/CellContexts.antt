-- In a cell nothing else stands around than around it.
use Rattle.htmd_lexical.specs.AttributePairs.{AttributePair}
use Rattle.std.proofs.Common.{ℕ, List}
use Rattle.htmd_shown.specs.declared.role.Role.TheVariants as role
use Rattle.htmd_shown.specs.SimpleTrees.{Simple, text, image, formula, embedded, anchor, element}
use Rattle.htmd_flow.specs.Contexts.{Context, beside_code}
use Rattle.htmd_flow.specs.Flows.{in_cell}

-- what holds in a context and beside code holds in the context of a cell
pub cell_context : (P : Context → Type 0) (t : Simple) (c : Context) → P c
    → ((n : ℕ) (attributes : List AttributePair) → P (beside_code n attributes c)) → P (in_cell t c)
cell_context P (text s) c h i = h
cell_context P (image address attributes) c h i = h
cell_context P (formula tex is_alone attributes) c h i = h
cell_context P (embedded id address title attributes anchors) c h i = h
cell_context P (anchor id) c h i = h
cell_context P (element id (role.Format f) facts attributes content) c h i = h
cell_context P (element id (role.Element f) facts attributes content) c h i = h
cell_context P (element id role.Abbreviation facts attributes content) c h i = h
cell_context P (element id role.Code facts attributes content) c h i = h
cell_context P (element id role.Typed facts attributes content) c h i = h
cell_context P (element id role.Link facts attributes content) c h i = h
cell_context P (element id role.Target facts attributes content) c h i = h
cell_context P (element id role.Apart facts attributes content) c h i = h
cell_context P (element id role.LineBreak facts attributes content) c h i = h
cell_context P (element id role.Input facts attributes content) c h i = h
cell_context P (element id (role.Heading level) facts attributes content) c h i = h
cell_context P (element id role.Paragraph facts attributes content) c h i = h
cell_context P (element id role.Preformatted facts attributes content) c h i = h
cell_context P (element id role.Verbatim facts attributes content) c h i = h
cell_context P (element id role.BlockQuote facts attributes content) c h i = h
cell_context P (element id role.ThematicBreak facts attributes content) c h i = h
cell_context P (element id role.BulletList facts attributes content) c h i = h
cell_context P (element id role.NumberedList facts attributes content) c h i = h
cell_context P (element id role.Item facts attributes content) c h i = h
cell_context P (element id role.Terms facts attributes content) c h i = h
cell_context P (element id role.Term facts attributes content) c h i = h
cell_context P (element id role.Meaning facts attributes content) c h i = h
cell_context P (element id role.Table facts attributes content) c h i = h
cell_context P (element id role.LayoutTable facts attributes content) c h i = h
cell_context P (element id role.Caption facts attributes content) c h i = h
cell_context P (element id role.TableHead facts attributes content) c h i = h
cell_context P (element id role.TableBody facts attributes content) c h i = h
cell_context P (element id role.Row facts attributes content) c h i = h
cell_context P (element id role.Cell facts attributes content) c h i = i facts.pres attributes
cell_context P (element id role.HeaderCell facts attributes content) c h i = h
cell_context P (element id role.Division facts attributes content) c h i = h
cell_context P (element id role.Figure facts attributes content) c h i = h
cell_context P (element id role.FigureCaption facts attributes content) c h i = h
cell_context P (element id role.Details facts attributes content) c h i = h
cell_context P (element id role.Summary facts attributes content) c h i = h
cell_context P (element id role.Legend facts attributes content) c h i = h
cell_context P (element id role.Block facts attributes content) c h i = h
cell_context P (element id role.Plain facts attributes content) c h i = h
cell_context P (element id role.Anchors facts attributes content) c h i = h
cell_context P (element id role.Unlinked facts attributes content) c h i = h

-- How a node is written: the plain definition, over value trees and lists of ancestors.
use Rattle.std.specs.Prelude.{ℕ, zero, suc, Bool, true, false, ◌&&◌, if◌then◌else◌, List, [], ◌∷◌}
use Rattle.std.specs.Prelude.{Option, Some, None, codes}
use Rattle.htmd_lexical.specs.WhiteSpace.{is_document_white_space}
use Rattle.htmd_text.specs.Trims.{trimmed_end}
use Rattle.htmd_nodes.specs.Items.{Item, Data, document_node, doctype_node, text_node, comment_node, element_node}
use Rattle.htmd_nodes.specs.Items.{data_at}
use Rattle.htmd_nodes.specs.NumberedTrees.{document, doctype, text, comment, element}
use Rattle.htmd_nodes.specs.Ancestors.{Ancestor, ancestor_of, ancestors_of}
use Rattle.htmd_values.specs.Serialisation.{comment_of}
use Rattle.htmd_walk.specs.Handling.{ResultView}
use Rattle.htmd_walk.specs.Seams.{joined_at_seam}
use Rattle.htmd_walk.specs.OrdinaryText.{in_pre_or_code, parent_is_pre, written_text}
use Rattle.htmd_walk.specs.Outputs.{Conversion, Output, push_text, Context, Writes, is_markdown_alone}
use Rattle.htmd_walk.specs.Children.{write_groups}
use Rattle.htmd_walk.specs.Elements.{Answer, answer_after, occurrence_at}

-- an element's result is added at a seam
abbrev pub with_result : Output → Bool → Option ResultView → List (List ℕ) → Output
with_result out whole None definitions = record {
  text = out.text;
  markdown_translated = out.markdown_translated;
  definitions = definitions;
}
with_result out whole (Some result) definitions = record {
  text = joined_at_seam out.text result.content whole;
  markdown_translated = out.markdown_translated && result.markdown_translated;
  definitions = definitions;
}

abbrev pub with_answer : Output → Bool → Answer → Output
with_answer out whole answer = with_result out whole answer.result answer.definitions

-- the Document ends without white space, and it counts as Markdown
abbrev pub end_of_document : Bool → Output → Output
end_of_document markdown_translated out = record {
  text = trimmed_end is_document_white_space out.text;
  markdown_translated = markdown_translated;
  definitions = out.definitions;
}

abbrev pub write_text : List ℕ → Context → Output → Output
write_text s context out =
    push_text out (written_text context.preformatted (parent_is_pre context.ancestors) context.trim out.text s)

abbrev pub write_node : Writes → Conversion → Writes
write_node write conversion (document id children) context out =
    let inside = record { tag = codes "html"; attributes = [] } ∷ context.ancestors in
    end_of_document out.markdown_translated (write_groups write inside children out)
write_node write conversion (doctype id) context out = out
write_node write conversion (text id s) context out = write_text s context out
write_node write conversion (comment id s) context out =
    if is_markdown_alone conversion.config.options then out else push_text out (comment_of s)
write_node write conversion (element id name attributes children) context out =
    let inside = record { tag = name; attributes = attributes } ∷ context.ancestors in
    with_answer out (in_pre_or_code context.ancestors)
    (answer_after 0 name (occurrence_at write conversion id inside children) out.definitions)

-- down through this many levels
unfoldable pub written_within : ℕ → Conversion → Writes
written_within zero conversion tree context out = out
written_within (suc n) conversion tree context out =
    write_node (written_within n conversion) conversion tree context out

-- ---- as the walk cites it

abbrev pub is_text : Data → Bool
is_text document_node = false
is_text doctype_node = false
is_text (text_node s) = true
is_text (comment_node s) = false
is_text (element_node name attributes) = false

-- the ancestors of a node's children
abbrev pub inside_of : List Item → ℕ → List Ancestor
inside_of items id = ancestor_of (data_at items id) ∷ ancestors_of items id

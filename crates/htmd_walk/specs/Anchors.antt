-- The handler of a, and the definitions that its references name.
use Rattle.std.specs.Prelude.{ℕ, ◌+◌, if◌then◌else◌, List, [], ◌∷◌, length, Option, Some, None, codes}
use Rattle.std.specs.Option.{unwrap_or}
use Rattle.htmd_lexical.specs.Characters.{line_feed}
use Rattle.htmd_lexical.specs.BlankLines.{with_blank_lines}
use Rattle.htmd_text.specs.Joins.{joined_texts}
use Rattle.htmd_markdown.specs.Links.{inline_link, autolink, reference, definition}
use Rattle.htmd_markdown.specs.declared.link.LinkStyle.{LinkStyle}
use Rattle.htmd_markdown.specs.declared.link.LinkStyle.TheVariants.{Inlined, InlinedPreferAutolinks, Referenced}
use Rattle.htmd_walk.specs.Handling.{ElementView, ResultView, PlanView, raw_html, content_of_children, Finish}
use Rattle.htmd_walk.specs.Handling.{HandlerMeaning, final_result, without_definitions}
use Rattle.htmd_walk.specs.ElementPlans.{attributes_of}
use Rattle.htmd_walk.specs.LinkAttributes.{last_value, is_raw_unless_among, title_of}
use Rattle.htmd_walk.specs.ElementPlans.{markdown_result}

abbrev pub anchor_attributes : List (List ℕ)
anchor_attributes = codes "href" ∷ codes "title" ∷ []

abbrev pub anchor_address : ElementView → Option (List ℕ)
anchor_address view = last_value (codes "href" ∷ []) (attributes_of view)

abbrev pub anchor_plan : ElementView → PlanView
anchor_plan view = if is_raw_unless_among anchor_attributes view then raw_html else content_of_children

-- a reference, by the number of its definition after those of the conversion so far
abbrev pub reference_finish : ElementView → List ℕ → List ℕ → List (List ℕ) → Finish
reference_finish view content address definitions =
    let style = view.options.link_reference_style in
    let number = length definitions + 1 in
    record {
      result = markdown_result (reference style number content);
      added = definition style number content address (title_of view) ∷ [];
    }

abbrev pub link_finish : LinkStyle → ElementView → List ℕ → List ℕ → List (List ℕ) → Finish
link_finish Inlined view content address definitions =
    without_definitions (markdown_result (inline_link content address (title_of view)))
link_finish InlinedPreferAutolinks view content address definitions =
    without_definitions (markdown_result
    (unwrap_or (autolink content address) (inline_link content address (title_of view))))
link_finish Referenced view content address definitions = reference_finish view content address definitions

-- without an address there is no link
abbrev pub finish_at : Option (List ℕ) → ElementView → ResultView → List (List ℕ) → Finish
finish_at None view content definitions = without_definitions (Some content)
finish_at (Some address) view content definitions =
    link_finish view.options.link_style view content.content address definitions

abbrev pub anchor_finish : ElementView → ResultView → List (List ℕ) → Finish
anchor_finish view content definitions = finish_at (anchor_address view) view content definitions

-- the definitions, one on each line, with blank lines around
abbrev pub definitions_block : List (List ℕ) → Option (List ℕ)
definitions_block [] = None
definitions_block (line ∷ lines) = Some (with_blank_lines (joined_texts (line_feed ∷ []) (line ∷ lines)))

abbrev pub anchors : HandlerMeaning
anchors = record {
  plan = anchor_plan;
  finish = anchor_finish;
  finish_each = λ view contents. final_result None;
  append = definitions_block;
}

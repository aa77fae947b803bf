-- What a conversion goes by, and what it has written so far.
use Rattle.std.specs.Prelude.{ℕ, Bool, true, false, List, [], ◌++◌}
use Rattle.htmd_nodes.specs.Items.{Item}
use Rattle.htmd_nodes.specs.NumberedTrees.{NumberedTree}
use Rattle.htmd_nodes.specs.Ancestors.{Ancestor}
use Rattle.htmd_walk.specs.declared.options.Options.{Options}
use Rattle.htmd_walk.specs.declared.options.TranslationMode.{TranslationMode}
use Rattle.htmd_walk.specs.declared.options.TranslationMode.TheVariants.{Pure, Faithful}
use Rattle.htmd_walk.specs.Handling.{ResultView}
use Rattle.htmd_walk.specs.Choice.{Config}

-- in Faithful what Markdown has no form for is written as HTML
abbrev pub is_markdown_alone_in : TranslationMode → Bool
is_markdown_alone_in Pure = true
is_markdown_alone_in Faithful = false

abbrev pub is_markdown_alone : Options → Bool
is_markdown_alone options = is_markdown_alone_in options.translation_mode

-- what a conversion goes by: the tree as it was handed in, and what the registry means
pub record Conversion : Type 0 where
  pub items : List Item
  pub config : Config

abbrev pub conversion_of : Config → List Item → Conversion
conversion_of config items = record { items = items; config = config }

-- the text so far, whether all of it is Markdown, and the link definitions of the conversion so far
pub record Output : Type 0 where
  pub text : List ℕ
  pub markdown_translated : Bool
  pub definitions : List (List ℕ)

-- the output when nothing is written yet, with a text of its own
abbrev pub empty_output : List (List ℕ) → Output
empty_output definitions = record { text = []; markdown_translated = true; definitions = definitions }

-- the output with another text
abbrev pub replace_text : List ℕ → Output → Output
replace_text s out = record {
  text = s;
  markdown_translated = out.markdown_translated;
  definitions = out.definitions;
}

abbrev pub push_text : Output → List ℕ → Output
push_text out s = replace_text (out.text ++ s) out

abbrev pub result_of : Output → ResultView
result_of out = record { content = out.text; markdown_translated = out.markdown_translated }

-- where a node is written: under these ancestors, as preformatted text or not, with this trim flag
pub record Context : Type 0 where
  pub ancestors : List Ancestor
  pub preformatted : Bool
  pub trim : Bool

abbrev pub context_of : List Ancestor → Bool → Bool → Context
context_of ancestors preformatted trim = record { ancestors = ancestors; preformatted = preformatted; trim = trim }

-- how a node is written after what is written so far
abbrev pub Writes : Type 0
Writes = NumberedTree → Context → Output → Output

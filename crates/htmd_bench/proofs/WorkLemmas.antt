-- Lemmas of specs/Work.antt.
use Rattle.std.proofs.Common.{◌≡◌, ◌∙◌, ap, subst, refl, ℕ, Bool, List, [], false, true, length}
use Rattle.htmd_nodes.specs.Items.{Item}
use Rattle.htmd.specs.BuiltIn.{built_in}
use Rattle.htmd.specs.Choice.{Config}
use Rattle.htmd.specs.Conversions.{IsTreeOf}
use Rattle.htmd.specs.Defaults.{default_options}
use Rattle.htmd.specs.DocumentAnchors.{Anchors}
use Rattle.htmd.specs.DocumentAnchors.TheVariants.{Linked}
use Rattle.htmd.specs.Documents.{Blocks}
use Rattle.htmd.specs.DocumentMarkdown.{markdown_of}
use Rattle.htmd.specs.Markdown.{markdown}
use Rattle.htmd.specs.PageDocuments.{document_of_items, document_options}
use Rattle.htmd_bench.specs.Work.{HasMarkdownLength, HasDocumentLength}

-- what is made of the page's tree, from the Document, by the built-in handlers is the page's Markdown
pub markdown_of_tree : (config : Config) (scripting : Bool) (page text : List ℕ) (tree : List Item) (node : ℕ)
    → config ≡ built_in default_options → scripting ≡ true → IsTreeOf scripting page tree
    → node ≡ 0 → text ≡ markdown config tree node → HasMarkdownLength page (length text)
markdown_of_tree config scripting page text tree node built on is_tree root is_markdown = (
  text,
  (
    tree,
    subst (λ b. IsTreeOf b page tree) on is_tree,
    subst (λ m. text ≡ markdown m tree 0) built (subst (λ n. text ≡ markdown config tree n) root is_markdown),
  ),
  refl,
)

-- what is written of the page's document, by the options of the built-in handlers, has the length of its Markdown
pub document_of_page : (config : Config) (scripting : Bool) (skipped : List (List ℕ)) (anchors : Anchors)
    (rich : Bool)
    (page text : List ℕ) (tree : List Item) (document : Blocks)
    → config ≡ built_in default_options → scripting ≡ true → skipped ≡ [] → anchors ≡ Linked
    → rich ≡ false
    → IsTreeOf scripting page tree → document ≡ document_of_items scripting skipped anchors rich tree
    → text ≡ markdown_of (document_options config.options) document → HasDocumentLength page (length text)
document_of_page c s skipped anchors rich page text tree document built on none linked plain read seen told = (
  document,
  (
    tree,
    subst (λ b. IsTreeOf b page tree) on read,
    subst (λ b. document ≡ document_of_items true [] Linked b tree) plain
        (subst (λ which. document ≡ document_of_items true [] which rich tree) linked
        (subst (λ names. document ≡ document_of_items true names anchors rich tree) none
        (subst (λ b. document ≡ document_of_items b skipped anchors rich tree) on seen))),
  ),
  ap length (told ∙ ap (λ (c : Config). markdown_of (document_options c.options) document) built),
)

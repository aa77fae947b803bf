-- The laws of ordered lists.
use Rattle.std.specs.Prelude.{◌≡◌, ℕ, Bool, true, List, [], ◌∷◌, ◌++◌, length, codes, IfSome}
use Rattle.std.specs.List.{filter}
use Rattle.htmd_markdown.specs.Lists.{Block, item, item_count}
use Rattle.htmd_markdown.specs.ListColumns.{HasEqualColumns}
use Rattle.htmd_nodes.specs.Items.{Item, data_at, children_of, tag_of}
use Rattle.htmd_walk.specs.Handling.{ElementView, ResultView}
use Rattle.htmd_walk.specs.ElementPlans.{is_tag_among}
use Rattle.htmd_walk.specs.Elements.{Occurrence, contents_alone}
use Rattle.htmd_walk.specs.Lists.{ordered_result, blocks_of, first_number_of}

-- ---- columns

-- What the handler of ol makes of any results of its children, if it is Markdown, has the content of each item in the
-- column after the spacing, the digits of the highest number and one character more.
abbrev pub ItemsBeginInOneColumn : ElementView → Type 0
ItemsBeginInOneColumn view =
    (results : List ResultView) → IfSome (ordered_result view results)
    (λ list. list.markdown_translated ≡ true
    → HasEqualColumns (first_number_of view) view.options.ol_number_spacing (blocks_of view results) list.content)

-- ---- numbers

abbrev pub is_item : List Item → ℕ → Bool
is_item items child = is_tag_among (codes "li" ∷ []) (tag_of (data_at items child))

-- an item of a list comes after this many others
pub record HasItemBehind (count : ℕ) (blocks : List Block) : Type 0 where
  pub earlier : List Block
  pub later : List Block
  pub content : List ℕ
  pub whole : blocks ≡ earlier ++ item content ∷ later
  pub counted : item_count earlier ≡ count

-- Each li among the children of ol, whatever it gives, is an item of the list, after as many items as there are li
-- before it: so one that gives nothing takes a number.
abbrev pub EachItemTakesANumber : Type 0
EachItemTakesANumber =
    (at : Occurrence) (definitions : List (List ℕ)) (earlier later : List ℕ) (child : ℕ)
    → let items = at.view.items in let children = children_of items at.view.node in
    children ≡ earlier ++ child ∷ later → is_item items child ≡ true
    → HasItemBehind (length (filter (is_item items) earlier))
    (blocks_of at.view (contents_alone at children definitions).results)

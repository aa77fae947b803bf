-- Parts that are laid out without the links above the content, one after the other.
use Rattle.std.proofs.Common.{◌≡◌, ◌<◌, ◌+◌, ◌++◌, ℕ, Bool, List, length, drop, get_or, sym, ap}
use Rattle.std.proofs.Common.{◌∙◌}
use Rattle.htmd_values.specs.ValueTrees.{ValueForest}
use Rattle.htmd_nodes.specs.Items.{Item, item_at, depth_at}
use Rattle.htmd_nodes.specs.Layout.{forest_items}
use Rattle.htmd_nodes.specs.Views.{data_of}
use Rattle.htmd_article.specs.declared.parts.Part as source
use Rattle.htmd_article.specs.declared.parts.Part.{out-Part}
use Rattle.htmd_article.specs.declared.top_links.Place.TheVariants as place
use Rattle.htmd_article.specs.Parts.{Parts, more}
use Rattle.htmd_article.specs.PartViews.{part_of, parts_of}
use Rattle.htmd_article.specs.TopLinks.{place_of, without_links, linkless}
use Rattle.htmd_article.specs.Writing.{written, written_part}
use Rattle.htmd_article.proofs.LaidLemmas.{laid-next, item_at-kept}
use Rattle.htmd_article.proofs.TopLinksLemmas.{links_first, block_first, nothing_first}
use Rattle.htmd_article.proofs.TurnsLemmas.{rest-next}
use Rattle.htmd_article.proofs.WritingLemmas.{laid}

module _ (start out : List Item) (under : ℕ) (t : Bool) (ps : List source.Part) (i : ℕ) (x : source.Part)
    (l : i < length ps) (is : x ≡ get_or ps i x) (same : item_at out under ≡ item_at start under)
    (rest : out ++ forest_items (depth_at start under + 1) under (length out)
    (written t (without_links (parts_of (drop i ps)))) ≡ laid start under (written t (without_links (parts_of ps))))
  where
    abbrev later : Parts
    later = parts_of (drop (i + 1) ps)

    abbrev at_depth : List Item → ValueForest → List Item
    at_depth xs f = xs ++ forest_items (depth_at start under + 1) under (length xs) f

    next : (qs : Parts) → without_links (more (part_of x) later) ≡ qs
        → at_depth out (written t qs) ≡ laid start under (written t (without_links (parts_of ps)))
    next qs e =
        ap (λ f. at_depth out (written t f))
        (sym (ap (λ ys. without_links (parts_of ys)) (rest-next ps i x l is) ∙ e)) ∙ rest

    pushed : (mid : List Item) (f : ValueForest) → mid ≡ laid out under f → mid ≡ at_depth out f
    pushed mid f e = e ∙ ap (λ n. out ++ forest_items n under (length out) f) (ap (λ (y : Item). y.depth + 1) same)

    pub links_kept : place_of (data_of (out-Part x).node.now) (out-Part x).facts ≡ place.Links
        → out ++ forest_items (depth_at start under + 1) under (length out)
        (written t (without_links (parts_of (drop (i + 1) ps))))
        ≡ laid start under (written t (without_links (parts_of ps)))
    links_kept e = next (without_links later) (links_first x later e)

    pub nothing_kept : (mid : List Item)
        → place_of (data_of (out-Part x).node.now) (out-Part x).facts ≡ place.Nothing
        → mid ≡ laid out under (written_part t (part_of x))
        → mid ++ forest_items (depth_at start under + 1) under (length mid)
        (written t (without_links (parts_of (drop (i + 1) ps))))
        ≡ laid start under (written t (without_links (parts_of ps)))
    nothing_kept mid e f =
        laid-next out mid (depth_at start under + 1) under t (part_of x) (written t (without_links later))
        (pushed mid (written_part t (part_of x)) f)
        ∙ next (more (part_of x) (without_links later)) (nothing_first x later e)

    pub block_kept : (mid : List Item) → under < length out
        → place_of (data_of (out-Part x).node.now) (out-Part x).facts ≡ place.Block
        → mid ≡ laid out under (written_part t (linkless (part_of x)))
        → laid mid under (written t (parts_of (drop (i + 1) ps)))
        ≡ laid start under (written t (without_links (parts_of ps)))
    block_kept mid within e f =
        let kept : item_at mid under ≡ item_at start under =
        item_at-kept out mid (forest_items (depth_at out under + 1) under (length out)
        (written_part t (linkless (part_of x))))
        under f within ∙ same in
        ap (λ n. mid ++ forest_items n under (length mid) (written t later)) (ap (λ (y : Item). y.depth + 1) kept)
        ∙ (laid-next out mid (depth_at start under + 1) under t (linkless (part_of x)) (written t later)
        (pushed mid (written_part t (linkless (part_of x))) f)
        ∙ next (more (linkless (part_of x)) later) (block_first x later e))

-- Parts that walks make.
use Rattle.std.proofs.Common.{◌≡◌, ◌<◌, ℕ, Bool, List, length, map, sym, ap, ◌∙◌, Option}
use Rattle.htmd_nodes.specs.Items.{Item, data_at, children_of, IsTree}
use Rattle.htmd_nodes.specs.NumberedTrees.{value_at}
use Rattle.htmd_nodes.specs.Views.{data_of}
use Rattle.htmd_article.specs.declared.facts.Facts.{Facts}
use Rattle.htmd_article.specs.declared.parts.Part as source
use Rattle.htmd_article.specs.declared.parts.Part.{out-Part, roll-Part}
use Rattle.htmd_article.specs.declared.parts.Part.TheOpen.{Part-F}
use Rattle.htmd_article.specs.Frames.{total_below, facts_again, without_frame_in}
use Rattle.htmd_article.specs.Parts as spec
use Rattle.htmd_article.specs.Parts.{Part, part, facts_of, linked_below, known}
use Rattle.htmd_article.specs.PartViews.{part_of, parts_of}
use Rattle.htmd_article.proofs.FramesLemmas.{left, framed-out}
use Rattle.htmd_article.proofs.KnownLemmas.{known_at, known-node}
use Rattle.htmd_article.proofs.PartsLemmas.{part-roll}

-- a node over what is known of its children
pub known_made : (x : Part-F source.Part) (items : List Item) (id : ℕ) (linked link : Bool) (ids : List ℕ)
    → IsTree items → id < length items → data_of x.node.now ≡ data_at items id
    → link ≡ linked_below (data_of x.node.now) linked → ids ≡ children_of items id
    → map part_of x.parts.items ≡ map (known_at items link) ids
    → x.facts ≡ facts_of (data_of x.node.now) linked (parts_of x.parts.items)
    → part_of (roll-Part x) ≡ known linked (value_at items id)
known_made x items id linked link ids t l is below same children facts =
    part-roll x
    ∙ (ap (λ (f : Facts). part (data_of x.node.now) f (parts_of x.parts.items)) facts
    ∙ (ap (λ (ps : List Part). part (data_of x.node.now) (facts_of (data_of x.node.now) linked (spec.parts_of ps))
    (spec.parts_of ps))
    (children ∙ (ap (λ y. map (known_at items y) ids) below
    ∙ ap (map (known_at items (linked_below (data_of x.node.now) linked))) same))
    ∙ sym (known-node items id linked (data_of x.node.now) t l is)))

-- a part over those of it that are left
pub framed_made : (x : Part-F source.Part) (p : source.Part) (total below : Option ℕ)
    → x.node ≡ (out-Part p).node → below ≡ total_below total (data_of (out-Part p).node.now)
    → map part_of x.parts.items ≡ left below (map part_of (out-Part p).parts.items)
    → x.facts ≡ facts_again (data_of (out-Part p).node.now) (out-Part p).facts (parts_of x.parts.items)
    → part_of (roll-Part x) ≡ without_frame_in total (part_of p)
framed_made x p total below is within parts facts =
    part-roll x
    ∙ (ap (λ n. part (data_of n.now) x.facts (parts_of x.parts.items)) is
    ∙ (ap (λ (f : Facts). part (data_of (out-Part p).node.now) f (parts_of x.parts.items)) facts
    ∙ (ap (λ (ps : List Part). part (data_of (out-Part p).node.now)
    (facts_again (data_of (out-Part p).node.now) (out-Part p).facts (spec.parts_of ps)) (spec.parts_of ps))
    (parts ∙ ap (λ y. left y (map part_of (out-Part p).parts.items)) within)
    ∙ sym (framed-out total p))))

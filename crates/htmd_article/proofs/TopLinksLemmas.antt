-- Parts without the links above the content, by what the first of them is.
use Rattle.std.proofs.Common.{◌≡◌, refl, sym, ap, ◌∙◌}
use Rattle.htmd_nodes.specs.Views.{data_of}
use Rattle.htmd_article.specs.declared.parts.Part as source
use Rattle.htmd_article.specs.declared.parts.Part.{out-Part}
use Rattle.htmd_article.specs.declared.top_links.Place.TheVariants as place
use Rattle.htmd_article.specs.Parts.{Parts, more}
use Rattle.htmd_article.specs.PartViews.{part_of}
use Rattle.htmd_article.specs.TopLinks.{place_of, by_place, without_links, with_first, linkless}
use Rattle.htmd_article.proofs.PartsLemmas.{part-out}

module _ (p : source.Part) (ps : Parts) where
  first-out : without_links (more (part_of p) ps)
      ≡ by_place (place_of (data_of (out-Part p).node.now) (out-Part p).facts) (part_of p) (linkless (part_of p)) ps
      (without_links ps)
  first-out =
      ap (λ x. with_first x ps (without_links ps)) (part-out p)
      ∙ ap (λ x. by_place (place_of (data_of (out-Part p).node.now) (out-Part p).facts) x (linkless x) ps
      (without_links ps)) (sym (part-out p))

  pub links_first : place_of (data_of (out-Part p).node.now) (out-Part p).facts ≡ place.Links
      → without_links (more (part_of p) ps) ≡ without_links ps
  links_first e = first-out ∙ rw e refl

  pub block_first : place_of (data_of (out-Part p).node.now) (out-Part p).facts ≡ place.Block
      → without_links (more (part_of p) ps) ≡ more (linkless (part_of p)) ps
  block_first e = first-out ∙ rw e refl

  pub nothing_first : place_of (data_of (out-Part p).node.now) (out-Part p).facts ≡ place.Nothing
      → without_links (more (part_of p) ps) ≡ more (part_of p) (without_links ps)
  nothing_first e = first-out ∙ rw e refl

-- What shows of elements of HTML on a page.
use Rattle.std.proofs.Common.{◌≡◌, ℕ, Bool, true, List, [], codes, ap, Option, Some, None}
use Rattle.htmd_lexical.specs.AttributePairs.{AttributePair}
use Rattle.htmd_nodes.specs.NumberedTrees.{NumberedForest}
use Rattle.htmd_nodes.specs.NumberedTrees as page
use Rattle.htmd_shown.specs.declared.role.Role.TheVariants as role
use Rattle.htmd_shown.specs.Facts.{made}
use Rattle.htmd_shown.specs.Roles.{role_of, table_role, heading_or_block, block_role}
use Rattle.htmd_shown.specs.Shown.{shown}
use Rattle.htmd_shown.specs.SimpleTrees.{more}
use Rattle.htmd_law_returning.proofs.PageLemmas.{shown_of, plain-content, IsFresh}
use Rattle.htmd_law_returning.proofs.ShownInlines.{shown_at}

module _ (scripting is_rich : Bool) (before : Option (List AttributePair)) (id : ℕ) (inside f : NumberedForest) where
  pub terms-shown : IsFresh before
      → shown_of scripting is_rich before (page.more (page.element id (codes "dl") [] inside) f)
      ≡ more (made id role.Terms [] (shown_of scripting is_rich None inside)) (shown_of scripting is_rich (Some []) f)
  unfolding shown role_of table_role heading_or_block block_role
  terms-shown h =
      rw h (ap (λ ts. more (made id role.Terms [] ts) (shown_of scripting is_rich (Some []) f))
      (plain-content id (shown_of scripting is_rich None inside)))

  pub meaning-shown : IsFresh before
      → shown_of scripting is_rich before (page.more (page.element id (codes "dd") [] inside) f)
      ≡ more (made id role.Meaning [] (shown_of scripting is_rich None inside))
      (shown_of scripting is_rich (Some []) f)
  unfolding shown role_of table_role heading_or_block block_role
  meaning-shown h =
      rw h (ap (λ ts. more (made id role.Meaning [] ts) (shown_of scripting is_rich (Some []) f))
      (plain-content id (shown_of scripting is_rich None inside)))

  pub figure-shown : IsFresh before
      → shown_of scripting is_rich before (page.more (page.element id (codes "figure") [] inside) f)
      ≡ more (made id role.Figure [] (shown_of scripting is_rich None inside))
      (shown_of scripting is_rich (Some []) f)
  unfolding shown role_of table_role heading_or_block block_role
  figure-shown h =
      rw h (ap (λ ts. more (made id role.Figure [] ts) (shown_of scripting is_rich (Some []) f))
      (plain-content id (shown_of scripting is_rich None inside)))

  -- titles: what stands in one shows as in a heading
  pub term-shown : IsFresh before
      → shown_of scripting is_rich before (page.more (page.element id (codes "dt") [] inside) f)
      ≡ more (made id role.Term [] (shown_at scripting is_rich true None inside))
      (shown_of scripting is_rich (Some []) f)
  unfolding shown role_of table_role heading_or_block block_role
  term-shown h =
      rw h (ap (λ ts. more (made id role.Term [] ts) (shown_of scripting is_rich (Some []) f))
      (plain-content id (shown_at scripting is_rich true None inside)))

  pub summary-shown : IsFresh before
      → shown_of scripting is_rich before (page.more (page.element id (codes "summary") [] inside) f)
      ≡ more (made id role.Summary [] (shown_at scripting is_rich true None inside))
      (shown_of scripting is_rich (Some []) f)
  unfolding shown role_of table_role heading_or_block block_role
  summary-shown h =
      rw h (ap (λ ts. more (made id role.Summary [] ts) (shown_of scripting is_rich (Some []) f))
      (plain-content id (shown_at scripting is_rich true None inside)))

  pub caption-shown : IsFresh before
      → shown_of scripting is_rich before (page.more (page.element id (codes "figcaption") [] inside) f)
      ≡ more (made id role.FigureCaption [] (shown_at scripting is_rich true None inside))
      (shown_of scripting is_rich (Some []) f)
  unfolding shown role_of table_role heading_or_block block_role
  caption-shown h =
      rw h (ap (λ ts. more (made id role.FigureCaption [] ts) (shown_of scripting is_rich (Some []) f))
      (plain-content id (shown_at scripting is_rich true None inside)))

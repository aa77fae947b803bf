-- What shows of the trees of a line, one by one.
use Rattle.std.proofs.Common.{◌≡◌, ℕ, Bool, true, false, ◌&&◌, List, []}
use Rattle.std.proofs.Common.{refl, ap, ◌∙◌}
use Rattle.std.proofs.Common.{codes, Option, Some, None}
use Rattle.std.proofs.Common.{cond}
use Rattle.std.proofs.Common.{◌||◌}
use Rattle.std.proofs.lemmas.Bool.{and_parts}
use Rattle.htmd_lexical.specs.AttributePairs.{AttributePair}
use Rattle.htmd_nodes.specs.NumberedTrees.{NumberedForest}
use Rattle.htmd_nodes.specs.NumberedTrees as page
use Rattle.htmd_document.specs.Formats.{Format, Emphasis, Strong, Deleted, Superscript, Subscript, Inserted, Underlined}
use Rattle.htmd_document.specs.Formats.{Marked, Small, Keyboard, Abbreviation}
use Rattle.htmd_shown.specs.Marks as marks
use Rattle.htmd_shown.specs.declared.role.Role.{Role}
use Rattle.htmd_shown.specs.declared.role.Role.TheVariants as role
use Rattle.htmd_shown.specs.Attributes.{address}
use Rattle.htmd_shown.specs.Attributes.{is_to_part}
use Rattle.htmd_shown.specs.Facts.{made}
use Rattle.htmd_shown.specs.Roles.{role_of, table_role, heading_or_block, block_role, inline_role, element_role}
use Rattle.htmd_shown.specs.Repeats.{is_copied}
use Rattle.htmd_shown.specs.Shown.{nowhere, shown, shown_all}
use Rattle.htmd_shown.specs.Shown.{marked, raised, followed_by}
use Rattle.htmd_shown.specs.ShownTexts.{shown_text}
use Rattle.htmd_shown.specs.SimpleTrees.{Simples, none, more}
use Rattle.htmd_shown.specs.SimpleTrees as simple
use Rattle.htmd_law_rendering.specs.RenderedTrees.{format_name, pairs_of_image}
use Rattle.htmd_law_rendering.specs.RenderedTrees.{encoded_address, pairs_of_format}
use Rattle.htmd_law_rendering.specs.RenderedTrees.{pairs_of_link}
use Rattle.htmd_law_returning.specs.ReturningLaws.{whole_sight}
use Rattle.htmd_law_returning.specs.SettledDocuments.{is_one_line}
use Rattle.htmd_law_returning.specs.PageFormats.{format_shows}
use Rattle.htmd_law_returning.proofs.AddressLemmas.{own-address}
use Rattle.htmd_law_returning.proofs.AddressLemmas.{image-fresh}
use Rattle.htmd_law_returning.proofs.AddressLemmas.{link-fresh}
use Rattle.htmd_law_returning.proofs.PageLemmas.{plain-content, IsFresh}
use Rattle.htmd_law_returning.proofs.FormatLemmas.{format_role, format-fresh}
use Rattle.htmd_law_returning.proofs.TreesLemmas.{pairs_of_anchor}

anchor-fresh : (before : Option (List AttributePair)) (s : List ℕ) → is_copied before (pairs_of_anchor s) ≡ false
anchor-fresh None s = refl
anchor-fresh (Some b) s = refl

module _ (scripting is_rich : Bool) where
  -- nodes in a heading or not
  abbrev pub shown_at : Bool → Option (List AttributePair) → NumberedForest → Simples
  shown_at h before f =
      shown_all (whole_sight scripting is_rich) (record nowhere { in_head = h }) None before f

  pub none-at : (h : Bool) (before : Option (List AttributePair)) → shown_at h before page.none ≡ none
  unfolding shown
  none-at h before = refl

  pub text-at : (h : Bool) (before : Option (List AttributePair)) (id : ℕ) (s : List ℕ) (f : NumberedForest)
      → shown_at h before (page.more (page.text id s) f) ≡ more (simple.text (shown_text s)) (shown_at h before f)
  unfolding shown
  text-at h before id s f = refl

  pub code-at : (h : Bool) (before : Option (List AttributePair)) (id : ℕ) (inside f : NumberedForest)
      → IsFresh before
      → shown_at h before (page.more (page.element id (codes "code") [] inside) f)
      ≡ more (made id role.Code [] (shown_at h None inside)) (shown_at h (Some []) f)
  unfolding shown role_of table_role heading_or_block block_role inline_role
  code-at true before id inside f e =
      rw e (ap (λ ts. more (made id role.Code [] ts) (shown_at true (Some []) f))
      (plain-content id (shown_at true None inside)))
  code-at false before id inside f e =
      rw e (ap (λ ts. more (made id role.Code [] ts) (shown_at false (Some []) f))
      (plain-content id (shown_at false None inside)))

  pub break-at : (h : Bool) (before : Option (List AttributePair)) (id : ℕ) (inside f : NumberedForest)
      → IsFresh before
      → shown_at h before (page.more (page.element id (codes "br") [] inside) f)
      ≡ more (made id role.LineBreak [] none) (shown_at h (Some []) f)
  unfolding shown role_of table_role heading_or_block block_role inline_role
  break-at true before id inside f e = rw e refl
  break-at false before id inside f e = rw e refl

  pub image-at : (h : Bool) (before : Option (List AttributePair)) (id : ℕ) (inside f : NumberedForest) (a : List ℕ)
      (title : Option (List ℕ)) (d : List ℕ)
      → shown_at h before (page.more (page.element id (codes "img") (pairs_of_image a title d) inside) f)
      ≡ more (simple.image (Some (encoded_address a)) (pairs_of_image a title d))
      (shown_at h (Some (pairs_of_image a title d)) f)
  unfolding shown role_of table_role heading_or_block block_role inline_role element_role
  image-at true before id inside f a None d = rw (image-fresh before a None d, own-address a None d) refl
  image-at true before id inside f a (Some s) d = rw (image-fresh before a (Some s) d, own-address a (Some s) d) refl
  image-at false before id inside f a None d = rw (image-fresh before a None d, own-address a None d) refl
  image-at false before id inside f a (Some s) d = rw (image-fresh before a (Some s) d, own-address a (Some s) d) refl

  pub link-plain : (before : Option (List AttributePair)) (id : ℕ) (inside f : NumberedForest) (a : List ℕ)
      (title : Option (List ℕ))
      → shown_at false before (page.more (page.element id (codes "a") (pairs_of_link a title) inside) f)
      ≡ more (made id role.Link (pairs_of_link a title) (shown_at false None inside))
      (shown_at false (Some (pairs_of_link a title)) f)
  unfolding shown role_of table_role heading_or_block block_role inline_role
  link-plain before id inside f a None =
      rw (link-fresh before a None)
      (ap (λ ts. more (made id role.Link (pairs_of_link a None) ts) (shown_at false (Some (pairs_of_link a None)) f))
      (plain-content id (shown_at false None inside)))
  link-plain before id inside f a (Some s) =
      rw (link-fresh before a (Some s))
      (ap (λ ts. more (made id role.Link (pairs_of_link a (Some s)) ts)
      (shown_at false (Some (pairs_of_link a (Some s))) f))
      (plain-content id (shown_at false None inside)))

  pub link-at : (h : Bool) (before : Option (List AttributePair)) (id : ℕ) (inside f : NumberedForest) (a : List ℕ)
      (title : Option (List ℕ))
      → (h && (is_to_part (address (encoded_address a))
      && marks.is_mark marks.is_usual_sign (marked false (raised [] id (shown_at h None inside))))) ≡ false
      → shown_at h before (page.more (page.element id (codes "a") (pairs_of_link a title) inside) f)
      ≡ more (made id role.Link (pairs_of_link a title) (shown_at h None inside))
      (shown_at h (Some (pairs_of_link a title)) f)
  unfolding shown role_of table_role heading_or_block block_role inline_role
  link-at true before id inside f a None e =
      rw (link-fresh before a None, e)
      (ap (λ ts. more (made id role.Link (pairs_of_link a None) ts) (shown_at true (Some (pairs_of_link a None)) f))
      (plain-content id (shown_at true None inside)))
  link-at true before id inside f a (Some s) e =
      rw (link-fresh before a (Some s), e)
      (ap (λ ts. more (made id role.Link (pairs_of_link a (Some s)) ts)
      (shown_at true (Some (pairs_of_link a (Some s))) f))
      (plain-content id (shown_at true None inside)))
  link-at false before id inside f a title e = link-plain before id inside f a title

  pub place-at : (h : Bool) (before : Option (List AttributePair)) (id : ℕ) (s : List ℕ) (inside f : NumberedForest)
      → shown_at h before (page.more (page.element id (codes "a") (pairs_of_anchor s) inside) f)
      ≡ more (made id role.Target (pairs_of_anchor s) (shown_at h None inside))
      (shown_at h (Some (pairs_of_anchor s)) f)
  unfolding shown role_of table_role heading_or_block block_role inline_role
  place-at true before id s inside f =
      rw (anchor-fresh before s)
      (ap (λ ts. more (made id role.Target (pairs_of_anchor s) ts) (shown_at true (Some (pairs_of_anchor s)) f))
      (plain-content id (shown_at true None inside)))
  place-at false before id s inside f =
      rw (anchor-fresh before s)
      (ap (λ ts. more (made id role.Target (pairs_of_anchor s) ts) (shown_at false (Some (pairs_of_anchor s)) f))
      (plain-content id (shown_at false None inside)))

  -- an element of a line with what shows in it
  plain-at : (h : Bool) (id : ℕ) (inside : NumberedForest) (r : Role) (attributes : List AttributePair) (ts : Simples)
      → more (made id r attributes (followed_by (followed_by none (raised [] id (shown_at (h || false) None inside)))
      none)) ts
      ≡ more (made id r attributes (shown_at h None inside)) ts
  plain-at true id inside r attributes ts =
      ap (λ us. more (made id r attributes us) ts) (plain-content id (shown_at true None inside))
  plain-at false id inside r attributes ts =
      ap (λ us. more (made id r attributes us) ts) (plain-content id (shown_at false None inside))

  -- rich or not
  same-at : (h : Bool) (id : ℕ) (inside : NumberedForest) (r : Role) (attributes : List AttributePair) (ts : Simples)
      → more (made id (cond is_rich r r) attributes
      (followed_by (followed_by none (raised [] id (shown_at (h || false) None inside))) none)) ts
      ≡ more (made id r attributes (shown_at h None inside)) ts
  same-at h id inside r attributes ts =
      ap (λ x. more (made id x attributes
      (followed_by (followed_by none (raised [] id (shown_at (h || false) None inside))) none)) ts) (either is_rich)
      ∙ plain-at h id inside r attributes ts
    where
      either : (b : Bool) → cond b r r ≡ r
      either true = refl
      either false = refl

  -- on a rich page
  rich-at : (h : Bool) (id : ℕ) (inside : NumberedForest) (r other : Role) (attributes : List AttributePair)
      (ts : Simples) → is_rich ≡ true
      → more (made id (cond is_rich r other) attributes
      (followed_by (followed_by none (raised [] id (shown_at (h || false) None inside))) none)) ts
      ≡ more (made id r attributes (shown_at h None inside)) ts
  rich-at h id inside r other attributes ts e =
      ap (λ b. more (made id (cond b r other) attributes
      (followed_by (followed_by none (raised [] id (shown_at (h || false) None inside))) none)) ts) e
      ∙ plain-at h id inside r attributes ts

  pub format-at : (h : Bool) (before : Option (List AttributePair)) (id : ℕ) (inside f : NumberedForest) (m : Format)
      → format_shows is_rich m ≡ true → IsFresh before
      → shown_at h before (page.more (page.element id (format_name m) (pairs_of_format m) inside) f)
      ≡ more (made id (format_role m) (pairs_of_format m) (shown_at h None inside))
      (shown_at h (Some (pairs_of_format m)) f)
  unfolding shown role_of table_role heading_or_block block_role inline_role element_role
  format-at h before id inside f Emphasis m e =
      rw e (plain-at h id inside (format_role Emphasis) [] (shown_at h (Some []) f))
  format-at h before id inside f Strong m e =
      rw e (plain-at h id inside (format_role Strong) [] (shown_at h (Some []) f))
  format-at h before id inside f Deleted m e =
      rw e (plain-at h id inside (format_role Deleted) [] (shown_at h (Some []) f))
  format-at h before id inside f Superscript m e =
      rw e (same-at h id inside (format_role Superscript) [] (shown_at h (Some []) f))
  format-at h before id inside f Subscript m e =
      rw e (same-at h id inside (format_role Subscript) [] (shown_at h (Some []) f))
  format-at h before id inside f Inserted m e =
      rw e (rich-at h id inside (format_role Inserted) role.Plain [] (shown_at h (Some []) f) m)
  format-at h before id inside f Underlined m e =
      rw e (rich-at h id inside (format_role Underlined) role.Plain [] (shown_at h (Some []) f) m)
  format-at h before id inside f Marked m e =
      rw e (rich-at h id inside (format_role Marked) role.Plain [] (shown_at h (Some []) f) m)
  format-at h before id inside f Small m e =
      rw e (rich-at h id inside (format_role Small) role.Plain [] (shown_at h (Some []) f) m)
  format-at h before id inside f Keyboard m e =
      rw e (rich-at h id inside (format_role Keyboard) role.Typed [] (shown_at h (Some []) f) m)
  format-at h before id inside f (Abbreviation title) m e =
      let pairs : List AttributePair = pairs_of_format (Abbreviation title) in
      rw (format-fresh before (Abbreviation title) e)
      (rich-at h id inside role.Abbreviation role.Plain pairs (shown_at h (Some pairs) f)
      (and_parts is_rich (is_one_line title) m).0)

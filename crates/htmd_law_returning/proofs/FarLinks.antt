-- Where no link is a sign alone that leads to a part of the page, the same shows in a heading as elsewhere.
use Rattle.std.proofs.Common.{◌≡◌, ℕ, Bool, true, false, not, ◌&&◌, ◌||◌, cond, List, [], codes, Option, None, refl}
use Rattle.std.proofs.Common.{sym, ap, ◌∙◌, subst}
use Rattle.std.specs.Str.{bytes_eq}
use Rattle.std.proofs.lemmas.Bool.{and_parts}
use Rattle.htmd_lexical.proofs.BytesLemmas.{same_bytes}
use Rattle.htmd_lexical.proofs.Cases.{test}
use Rattle.htmd_lexical.specs.AttributePairs.{AttributePair}
use Rattle.htmd_nodes.specs.NumberedTrees.{NumberedTree, NumberedForest}
use Rattle.htmd_nodes.specs.NumberedTrees as page
use Rattle.htmd_shown.specs.Attributes.{value_of, leads_to_part}
use Rattle.htmd_shown.specs.ClassWords.{has_class, permalink_words}
use Rattle.htmd_shown.specs.Formulas.{tex_of}
use Rattle.htmd_shown.specs.Images.{picture_source}
use Rattle.htmd_shown.specs.LineNumbers.{is_numbered_row}
use Rattle.htmd_shown.specs.Marks.{is_mark, is_sign, is_usual_sign}
use Rattle.htmd_shown.specs.Permalinks.{is_permalink}
use Rattle.htmd_shown.specs.Repeats.{is_repeat, last_element, leads_to_script}
use Rattle.htmd_shown.specs.Roles.{is_headed, is_preformatted, role_of, table_role, heading_or_block, block_role}
use Rattle.htmd_shown.specs.Roles.{inline_role}
use Rattle.htmd_shown.specs.Shown.{Surroundings, Sight, shown, shown_all, by_content, formula_or, is_emptied}
use Rattle.htmd_shown.specs.Shown.{is_skipped, marked, raised, raised_by, source_after, source_for, with_one}
use Rattle.htmd_shown.specs.SimpleTrees.{Simple, Simples, none}
use Rattle.htmd_law_returning.specs.ReturningLaws.{whole_sight}
use Rattle.htmd_law_returning.proofs.PageLemmas.{shown_of, plain-content, and-false}
use Rattle.htmd_law_returning.proofs.ShownInlines.{shown_at}
use Rattle.htmd_law_returning.proofs.StartLemmas.{from-not, false-true, true-false}

abbrev at : (in_head in_pre in_row : Bool) → Surroundings
at h p r = record { in_head = h; in_pre = p; in_numbered_row = r }

either-none : (a b : Bool) → (a && b) ≡ false → b ≡ true → a ≡ false
either-none true b h e = true-false (sym e ∙ h)
either-none false b h e = refl

neither : (a b : Bool) → (a || b) ≡ false → b ≡ false
neither true b h = true-false h
neither false b h = h

both-false : (a b : Bool) → b ≡ false → (a && b) ≡ false
both-false true b h = h
both-false false b h = refl

either : (b : Bool) (f : Bool → Simples) → f true ≡ f false → f true ≡ f b
either true f e = refl
either false f e = e

-- what is none in a heading is none elsewhere
no-permalink : (attributes : List AttributePair) (content : Simples) → is_permalink true attributes content ≡ false
    → is_permalink false attributes content ≡ false
no-permalink attributes content h =
    let known : Bool = has_class permalink_words attributes in
    let near : Bool = leads_to_part (value_of (codes "href") attributes) && is_mark is_usual_sign content in
    both-false known near (neither (known && is_mark is_sign content) near h)

module _ (scripting is_rich : Bool) where
  abbrev mutual
    -- no such link, and none at all in a `pre`
    pub is_far : Bool → NumberedTree → Bool
    is_far in_pre (page.element id name attributes children) =
        (not (bytes_eq name (codes "a"))
        || (not in_pre && not (is_permalink true attributes (shown_of scripting is_rich None children))))
        && are_far (in_pre || is_preformatted (role_of name)) children
    is_far in_pre t = true

    pub are_far : Bool → NumberedForest → Bool
    are_far in_pre page.none = true
    are_far in_pre (page.more t ts) = is_far in_pre t && are_far in_pre ts

  abbrev sight : Sight
  sight = whole_sight scripting is_rich

  -- an element with content, by what its content is in these surroundings
  abbrev by_inner : (in_head in_pre in_row : Bool) → Option (List ℕ) → ℕ → List ℕ → List AttributePair
      → NumberedForest → Simples → Option Simple
  by_inner h p r source id name attributes children inner =
      cond (is_skipped sight name) None
      (formula_or name attributes
      (by_content is_rich (at h p r) source id name attributes children
      (cond (is_emptied (at h p r) name attributes) none
      (marked (bytes_eq name (codes "q")) (raised (raised_by name) id inner))))
      (tex_of name attributes children))

  -- a link, or an element of another name
  link-same : (r : Bool) (source : Option (List ℕ)) (id : ℕ) (attributes : List AttributePair)
      (children : NumberedForest)
      → is_permalink true attributes (shown_of scripting is_rich None children) ≡ false
      → by_inner true false r source id (codes "a") attributes children (shown_of scripting is_rich None children)
      ≡ by_inner false false r source id (codes "a") attributes children (shown_of scripting is_rich None children)
  unfolding role_of table_role heading_or_block block_role inline_role
  link-same r source id attributes children h =
      let inner : Simples = shown_of scripting is_rich None children in
      let content : Simples = marked false (raised [] id inner) in
      let same : content ≡ inner = plain-content id inner in
      let there = ap (is_permalink true attributes) same ∙ h in
      rw (and-false r, there, no-permalink attributes content there) refl

  other-same : (p r : Bool) (source : Option (List ℕ)) (id : ℕ) (name : List ℕ) (attributes : List AttributePair)
      (children : NumberedForest) (inner : Simples) → bytes_eq name (codes "a") ≡ false
      → by_inner true p r source id name attributes children inner
      ≡ by_inner false p r source id name attributes children inner
  other-same p r source id name attributes children inner h = rw h refl

  link : (p r : Bool) (source : Option (List ℕ)) (id : ℕ) (name : List ℕ) (attributes : List AttributePair)
      (children : NumberedForest) → bytes_eq name (codes "a") ≡ true
      → (not p && not (is_permalink true attributes (shown_of scripting is_rich None children))) ≡ true
      → by_inner true p r source id name attributes children
      (shown_all sight (at (is_headed (role_of name)) (p || is_preformatted (role_of name))
      (is_numbered_row name children)) (picture_source name children) None children)
      ≡ by_inner false p r source id name attributes children
      (shown_all sight (at (is_headed (role_of name)) (p || is_preformatted (role_of name))
      (is_numbered_row name children)) (picture_source name children) None children)
  unfolding role_of table_role heading_or_block block_role inline_role
  link true r source id name attributes children e h = false-true h
  link false r source id name attributes children e h =
      subst (λ (n : List ℕ). by_inner true false r source id n attributes children
      (shown_all sight (at (is_headed (role_of n)) (is_preformatted (role_of n))
      (is_numbered_row n children)) (picture_source n children) None children)
      ≡ by_inner false false r source id n attributes children
      (shown_all sight (at (is_headed (role_of n)) (is_preformatted (role_of n))
      (is_numbered_row n children)) (picture_source n children) None children)) (sym (same_bytes name (codes "a") e))
      (link-same r source id attributes children
      (from-not (is_permalink true attributes (shown_of scripting is_rich None children)) h))

  mutual
    unfolding shown

    tree-same : (p r : Bool) (source : Option (List ℕ)) (t : NumberedTree) → is_far p t ≡ true
        → shown sight (at true p r) source t ≡ shown sight (at false p r) source t
    tree-same p r source (page.document id children) h = refl
    tree-same p r source (page.doctype id) h = refl
    tree-same p r source (page.text id s) h = refl
    tree-same p r source (page.comment id s) h = refl
    tree-same p r source (page.element id name attributes children) h =
        let deep : Bool = p || is_preformatted (role_of name) in
        let row : Bool = is_numbered_row name children in
        let far : Bool = not p && not (is_permalink true attributes (shown_of scripting is_rich None children)) in
        let parts = and_parts (not (bytes_eq name (codes "a")) || far) (are_far deep children) h in
        let shown_if : Bool → Simples =
        λ b. shown_all sight (at b deep row) (picture_source name children) None children in
        let inside : shown_if true ≡ shown_if (is_headed (role_of name)) =
        either (is_headed (role_of name)) shown_if
        (trees-same deep row (picture_source name children) None children parts.1) in
        ap (by_inner true p r source id name attributes children) inside
        ∙ test (bytes_eq name (codes "a"))
        (λ e. link p r source id name attributes children e
        (sym (ap (λ b. not b || far) e) ∙ parts.0))
        (λ e. other-same p r source id name attributes children (shown_if (is_headed (role_of name))) e)

    trees-same : (p r : Bool) (source : Option (List ℕ)) (before : Option (List AttributePair)) (ts : NumberedForest)
        → are_far p ts ≡ true
        → shown_all sight (at true p r) source before ts ≡ shown_all sight (at false p r) source before ts
    trees-same p r source before page.none h = refl
    trees-same p r source before (page.more t ts) h =
        let parts = and_parts (is_far p t) (are_far p ts) h in
        let later : Simples = shown_all sight (at true p r) (source_after source t) (last_element before t) ts in
        let again : Bool = is_repeat before t (leads_to_script sight.skip ts) in
        ap (λ o. with_one (cond again None o) later) (tree-same p r (source_for source t) t parts.0)
        ∙ ap (with_one (cond again None (shown sight (at false p r) (source_for source t) t)))
        (trees-same p r (source_after source t) (last_element before t) ts parts.1)

  pub far-same : (h : Bool) (before : Option (List AttributePair)) (f : NumberedForest) → are_far false f ≡ true
      → shown_at scripting is_rich h before f ≡ shown_of scripting is_rich before f
  far-same true before f e = trees-same false false None before f e
  far-same false before f e = refl

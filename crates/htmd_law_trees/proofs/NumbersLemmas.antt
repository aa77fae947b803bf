-- The laws of the numbers of references.
use Rattle.std.proofs.Common.{◌≡◌, ℕ, zero, suc, ◌+◌, List, [], ◌∷◌, ◌++◌, length, Option, Some, None, slice_get}
use Rattle.std.proofs.Common.{set, refl, sym, ap, ◌∙◌, subst, ◌⊎◌, inl, inr, ⊎_elim, arith}
use Rattle.std.proofs.lemmas.List.{append-nil}
use Rattle.htmd_markdown.specs.Links.{definition}
use Rattle.htmd_markdown.specs.declared.link.LinkReferenceStyle.TheVariants.{Full}
use Rattle.htmd_nodes.specs.NumberedTrees.{tree_of, height}
use Rattle.htmd_markdown.specs.declared.link.LinkStyle.{LinkStyle}
use Rattle.htmd_markdown.specs.declared.link.LinkStyle.TheVariants.{Inlined, InlinedPreferAutolinks, Referenced}
use Rattle.htmd_walk.specs.Handling.{ElementView, ResultView, PlanView, HandlerMeaning, of_functions}
use Rattle.htmd_walk.specs.Choice.{Config, handler_at, with_handler, no_handler}
use Rattle.htmd_walk.specs.Layers.{with_functions}
use Rattle.htmd_walk.specs.LinkAttributes.{title_of}
use Rattle.htmd_walk.specs.Anchors.{anchors, anchor_address, finish_at, link_finish}
use Rattle.htmd_walk.specs.Outputs.{conversion_of}
use Rattle.htmd_walk.specs.BuiltIn.{Row, with_rows, built_in_rows, empty_config}
use Rattle.htmd_law_trees.specs.LinkLaws.{IsRegistry, of_built_in, with_added, with_skipped, with_closures, with_these}
use Rattle.htmd_law_trees.specs.LinkLaws.{AddsNone, DefinesNumber, AreNumbered, ReferencesAreNumbered}
use Rattle.htmd_law_trees.proofs.KeepingLemmas.{HandlerKeeps, HandlersKeep, keeps-within}

-- ---- lines

numbered_none : AreNumbered []
numbered_none i line e = absurd (no_line e)
  where
    no_line : {line : List ℕ} → None ≡ Some line → ⊥
    no_line e = cc

-- what is in a list with one more
found_before : {A : Type 0} (xs : List A) (y z : A) (i : ℕ) → slice_get (xs ++ y ∷ []) i ≡ Some z
    → (slice_get xs i ≡ Some z) ⊎ ((i ≡ length xs) × (y ≡ z))
found_before [] y z zero e = inr (refl, cc)
found_before [] y z (suc i) e = cc
found_before (x ∷ xs) y z zero e = inl e
found_before (x ∷ xs) y z (suc i) e =
    ⊎_elim (λ before. inl before) (λ last. inr (omega (arith, last.0), last.1)) (found_before xs y z i e)

numbered_more : (lines : List (List ℕ)) (line : List ℕ) → DefinesNumber (length lines + 1) line
    → AreNumbered lines
    → AreNumbered (lines ++ line ∷ [])
numbered_more lines line defines numbered i l e =
    ⊎_elim (numbered i l)
    (λ last. subst (DefinesNumber (i + 1)) last.1
    (subst (λ n. DefinesNumber (n + 1) line) (sym last.0) defines))
    (found_before lines line l i e)

-- ---- what each handler adds

abbrev IsKnown : HandlerMeaning → Type 0
IsKnown handler = (handler ≡ anchors) ⊎ AddsNone handler

abbrev AreKnown : List HandlerMeaning → Type 0
AreKnown [] = Unit {0}
AreKnown (handler ∷ handlers) = IsKnown handler × AreKnown handlers

known_append : (front behind : List HandlerMeaning) → AreKnown front → AreKnown behind
    → AreKnown (front ++ behind)
known_append [] behind p q = q
known_append (handler ∷ front) behind p q = (p.0, known_append front behind p.1 q)

of_functions_known : (plan : ElementView → PlanView) (finish : ElementView → ResultView → Option ResultView)
    (append : Option (List ℕ)) → IsKnown (of_functions plan finish append)
of_functions_known plan finish append = inr (λ view content definitions. refl)

none_known : IsKnown no_handler
none_known = inr (λ view content definitions. refl)

known_at : (handlers : List HandlerMeaning) (index : ℕ) → AreKnown handlers → IsKnown (handler_at handlers index)
known_at [] index known = none_known
known_at (handler ∷ handlers) zero known = known.0
known_at (handler ∷ handlers) (suc index) known = known_at handlers index known.1

known_put : (handlers : List HandlerMeaning) (index : ℕ) (handler : HandlerMeaning) → AreKnown handlers
    → IsKnown handler → AreKnown (set handlers index handler)
known_put [] index handler known new = tt
known_put (old ∷ handlers) zero handler known new = (new, known.1)
known_put (old ∷ handlers) (suc index) handler known new = (known.0, known_put handlers index handler known.1 new)

-- ---- the built-in handlers

abbrev AreRowsKnown : List Row → Type 0
AreRowsKnown [] = Unit {0}
AreRowsKnown (r ∷ rows) = IsKnown r.handler × AreRowsKnown rows

known_rows : (rows : List Row) (config : Config) → AreRowsKnown rows → AreKnown config.handlers
    → AreKnown (with_rows rows config).handlers
known_rows [] config p q = q
known_rows (r ∷ rows) config p q =
    known_rows rows (with_handler config r.tags r.handler) p.1
    (known_append config.handlers (r.handler ∷ []) q (p.0, tt))

adds_none : (handler : HandlerMeaning)
    → ((view : ElementView) (content : ResultView) (definitions : List (List ℕ))
    → (handler.finish view content definitions).added ≡ []) → IsKnown handler
adds_none handler p = inr p

anchors_known : IsKnown anchors
anchors_known = inl refl

built_in_known : AreRowsKnown built_in_rows
built_in_known = search (anchors_known, adds_none)

registry_known : {config : Config} → IsRegistry config → AreKnown config.handlers
registry_known (of_built_in options) = known_rows built_in_rows (empty_config options) built_in_known tt
registry_known (with_added {config} tags plan finish append before) =
    known_append config.handlers (of_functions plan finish append ∷ []) (registry_known before)
    (of_functions_known plan finish append, tt)
registry_known (with_skipped {config} tags before) =
    known_append config.handlers (no_handler ∷ []) (registry_known before) (none_known, tt)
registry_known (with_closures {config} index plan finish before) =
    known_put config.handlers index (with_functions (handler_at config.handlers index) plan finish)
    (registry_known before) (inr (λ view content definitions. refl))
registry_known (with_these options before) = registry_known before

-- ---- a conversion

none-keeps : (view : ElementView) (handler : HandlerMeaning) → AddsNone handler
    → HandlerKeeps AreNumbered view handler
none-keeps view handler adds = λ content definitions numbered. subst AreNumbered (sym (ap (λ l. definitions ++ l)
    (adds view content definitions) ∙ append-nil definitions)) numbered

nothing_more : (lines : List (List ℕ)) → AreNumbered lines → AreNumbered (lines ++ [])
nothing_more lines numbered = subst AreNumbered (sym (append-nil lines)) numbered

link-numbers : (style : LinkStyle) (view : ElementView) (content address : List ℕ) (definitions : List (List ℕ))
    → view.options.link_reference_style ≡ Full → AreNumbered definitions
    → AreNumbered (definitions ++ (link_finish style view content address definitions).added)
link-numbers Inlined view content address definitions full numbered = nothing_more definitions numbered
link-numbers InlinedPreferAutolinks view content address definitions full numbered = nothing_more definitions numbered
link-numbers Referenced view content address definitions full numbered =
    let number = length definitions + 1 in
    numbered_more definitions
    (definition view.options.link_reference_style number content address (title_of view))
    (record {
      address = address;
      title = title_of view;
      is = ap (λ style. definition style number content address (title_of view)) full;
    }) numbered

finish-numbers : (found : Option (List ℕ)) (view : ElementView) (content : ResultView) (definitions : List (List ℕ))
    → view.options.link_reference_style ≡ Full → AreNumbered definitions
    → AreNumbered (definitions ++ (finish_at found view content definitions).added)
finish-numbers None view content definitions full numbered = nothing_more definitions numbered
finish-numbers (Some address) view content definitions full numbered =
    link-numbers view.options.link_style view content.content address definitions full numbered

anchors-keep : (view : ElementView) → view.options.link_reference_style ≡ Full
    → HandlerKeeps AreNumbered view anchors
anchors-keep view full = λ content definitions numbered.
    finish-numbers (anchor_address view) view content definitions full numbered

known-keeps : (view : ElementView) (handler : HandlerMeaning) → view.options.link_reference_style ≡ Full
    → IsKnown handler → HandlerKeeps AreNumbered view handler
known-keeps view handler full known =
    ⊎_elim (λ is. subst (HandlerKeeps AreNumbered view) (sym is) (anchors-keep view full))
    (none-keeps view handler) known

pub references_are_numbered : ReferencesAreNumbered
references_are_numbered config registry =
    let known = registry_known registry in (
      (λ index within. known_at config.handlers index known),
      (λ items start full.
          let keeps : HandlersKeep AreNumbered (conversion_of config items) =
          λ index view same. known-keeps view (handler_at config.handlers index)
          (ap (λ o. o.link_reference_style) same ∙ full) (known_at config.handlers index known) in
          keeps-within AreNumbered (height (tree_of items start)) (conversion_of config items) keeps
          (tree_of items start) _ _
          numbered_none),
    )

-- Trees of blocks whose targets are the anchors of lines, and whose links lead where these lead.
use Rattle.htmd_lexical.proofs.Cases.{test}
use Rattle.std.proofs.Common.{◌≡◌, ℕ, suc, ◌+◌, ◌≤◌, Bool, true, false, not, ◌&&◌, ◌||◌, cond}
use Rattle.std.proofs.Common.{List, [], ◌∷◌, ◌++◌}
use Rattle.std.proofs.Common.{refl, sym, ap, ◌∙◌, subst, arith, append_assoc, Option, None}
use Rattle.std.specs.Prelude.{nat_le, nat_lt}
use Rattle.std.specs.List.{list_all}
use Rattle.std.proofs.lemmas.Bool.{and_parts, and_from}
use Rattle.std.proofs.lemmas.Bool.Decides.{nat_tests}
use Rattle.std.proofs.lemmas.List.{append-nil}
use Rattle.std.proofs.lemmas.List.Folds.{list_any-append}
use Rattle.htmd_document.specs.AnchorIds.{ids_of_line}
use Rattle.htmd_document.specs.Documents.{Inlines}
use Rattle.htmd_shown.specs.Roles.{is_heading, is_verbatim}
use Rattle.htmd_shown.specs.SimpleTrees.{Simple, text, image, formula, embedded, anchor, element, Simples, none, more}
use Rattle.htmd_shown.specs.Showings.{image_shows, code_shows}
use Rattle.htmd_shown.specs.Spaces.{is_blank_text}
use Rattle.htmd_document_of_tree.specs.Anchors.{values_of, Placing, targets_past, after_leaf, placing_after}
use Rattle.htmd_document_of_tree.specs.Anchors.{placing_after_all}
use Rattle.htmd_document_of_tree.specs.Leadings.{Leading, leadings_among, after, is_led_to, is_in}
use Rattle.htmd_document_of_tree.specs.declared.leadings.Around.{Around}
use Rattle.htmd_document_of_tree.specs.declared.leadings.Layout.{Layout}
use Rattle.htmd_document_of_tree.specs.declared.leadings.Span.{Span}
use Rattle.htmd_document_of_tree.specs.Seen.{seen, all_seen}
use Rattle.htmd_document_of_tree.specs.Targets.{Target, targets_among}
use Rattle.htmd_law_returning.specs.LastingAnchors.{Line, line, lead, lines_lead, are_led_to}
use Rattle.htmd_law_returning.proofs.BareLemmas.{are_bare}
use Rattle.htmd_law_returning.proofs.LineIds.{ids_in_lines, ids-both}
use Rattle.htmd_law_returning.proofs.LocalAnchors.{every, pending_all, from_on}
use Rattle.htmd_law_returning.proofs.LocalAnchors.{are_marked, trees-from, trees-local, at_place, none-among}
use Rattle.htmd_law_returning.proofs.LocalAnchors.{all-nameless-marked}
use Rattle.htmd_law_returning.proofs.LocalPieces.{have_right_links}
use Rattle.htmd_law_returning.proofs.PlacedTrees.{is_id, all-both, ArePlaces, ArePlaced, both-places, placed-none}
use Rattle.htmd_law_returning.proofs.PlacedTrees.{all-bare-nameless}
use Rattle.htmd_law_returning.proofs.SoundTrees.{IsSoundLine, led-both, either-of}
use Rattle.htmd_law_returning.proofs.SoundTrees.{or-left, or-right, led-left}
use Rattle.htmd_law_returning.proofs.StartLemmas.{false-true}

-- ---- lines before and behind

-- the lines before, the last one first
abbrev pub passed : List Line → List Line → List Line
passed before [] = before
passed before (l ∷ ls) = passed (l ∷ before) ls

pub led-front : (before ks ls : List Line) → are_led_to before (ks ++ ls) ≡ true
    → are_led_to (passed before ks) ls ≡ true
led-front before [] ls h = h
led-front before (k ∷ ks) ls h =
    led-front (k ∷ before) ks ls (and_parts _ (are_led_to (k ∷ before) (ks ++ ls)) h).1

lead-passed : (id : List ℕ) (before ls : List Line) → lines_lead id (passed before ls) ≡ true
    → (lines_lead id before || lines_lead id ls) ≡ true
lead-passed id before [] h = or-left (lines_lead id before) false h
lead-passed id before (l ∷ ls) h =
    either-of (lines_lead id (l ∷ before)) (lines_lead id ls) (lead-passed id (l ∷ before) ls h)
    (λ e. either-of (lead id l.content) (lines_lead id before) e
    (λ e. or-right (lines_lead id before) (lines_lead id (l ∷ ls))
    (or-left (lead id l.content) (lines_lead id ls) e))
    (λ e. or-left (lines_lead id before) (lines_lead id (l ∷ ls)) e))
    (λ e. or-right (lines_lead id before) (lines_lead id (l ∷ ls))
    (or-right (lead id l.content) (lines_lead id ls) e))

pub lead-both : (id : List ℕ) (ks ls : List Line)
    → lines_lead id (ks ++ ls) ≡ (lines_lead id ks || lines_lead id ls)
lead-both id ks ls = list_any-append (λ (l : Line). lead id l.content) ks ls

-- ---- what is known of nodes

-- before what is to see here, or behind
abbrev pub is_outside : ℕ → ℕ → ℕ → Bool
is_outside n k m = nat_lt m n || nat_le (n + k) m

-- a link of these lines leads there for what stands outside
abbrev pub LeadOut : Simples → List Line → Type 0
LeadOut ts ls =
    (around : Around) (beside : Layout) (id : List ℕ) (m : ℕ) → around.is_linked ≡ false
    → around.heading ≡ None
    → is_id id ≡ true → is_outside around.seen (all_seen ts) m ≡ true → lines_lead id ls ≡ true
    → is_led_to (leadings_among around beside ts) id m ≡ true

-- a code block that shows
abbrev pub is_coded : Simple → Bool
is_coded (element id r facts attributes content) = is_verbatim r && code_shows content
is_coded t = false

abbrev pub is_gap : Simple → Bool
is_gap (text s) = is_blank_text s
is_gap t = false

-- such a code block comes first
abbrev pub begins_coded : Simples → Bool
begins_coded none = false
begins_coded (more t ts) = is_coded t || (is_gap t && begins_coded ts)

-- before a code block also for what stands right there
abbrev pub LeadEarly : Simples → List Line → Type 0
LeadEarly ts ls =
    (around : Around) (beside : Layout) (id : List ℕ) (m : ℕ) → around.is_linked ≡ false
    → around.heading ≡ None
    → is_id id ≡ true → begins_coded ts ≡ true → nat_le m around.seen ≡ true → lines_lead id ls ≡ true
    → is_led_to (leadings_among around beside ts) id m ≡ true

-- a link leads to a target: before these nodes, in them, or behind them
abbrev pub is_led_somewhere : (p q : List ℕ → ℕ → Bool) → List Leading → Target → Bool
is_led_somewhere p q here t = p t.value t.seen || (is_led_to here t.value t.seen || q t.value t.seen)

-- Links lead to the targets, if they lead to the anchors of the lines. p and q: where those of the lines before and
-- after lead, to what stands behind and where it is good.
abbrev pub AreLedThere : Simples → List Line → Type 0
AreLedThere ts ls =
    (around : Around) (beside : Layout) (p q : List ℕ → ℕ → Bool) (before after : List Line)
    (good : ℕ → Bool)
    → around.is_linked ≡ false → around.heading ≡ None
    → ((id : List ℕ) (m : ℕ) → is_id id ≡ true → nat_le around.seen m ≡ true
    → lines_lead id before ≡ true
    → p id m ≡ true)
    → ((id : List ℕ) (m : ℕ) → is_id id ≡ true → good m ≡ true → lines_lead id after ≡ true
    → q id m ≡ true)
    → are_led_to before (ls ++ after) ≡ true
    → list_all (λ (t : Target). good t.seen) (targets_among every None around.seen ts) ≡ true
    → list_all (is_led_somewhere p q (leadings_among around beside ts)) (targets_among every None around.seen ts)
    ≡ true

pub record AreSound (ts : Simples) (ls : List Line) : Type 0 where
  pub placed : ArePlaced (ids_in_lines ls) ts
  pub leads : LeadOut ts ls
  pub early : LeadEarly ts ls
  pub led : AreLedThere ts ls

abbrev pub IsSound : Simple → List Line → Type 0
IsSound t ls = AreSound (more t none) ls

pub sound-none : AreSound none []
sound-none = record {
  placed = placed-none;
  leads = λ around beside id m l h i o e. false-true e;
  early = λ around beside id m l h i c o e. false-true e;
  led = λ around beside p q before after good l h before_leads after_leads e g. refl;
}

-- ---- of targets one by one

abbrev pub all-good : (ℕ → Bool) → List Target → Bool
all-good good found = list_all (λ (t : Target). good t.seen) found

-- what holds of each value holds of each target
pub each : (n : ℕ) (good : ℕ → Bool) (f : List ℕ → Bool) (g : Target → Bool)
    → ((t : Target) → is_id t.value ≡ true → f t.value ≡ true → nat_le n t.seen ≡ true
    → good t.seen ≡ true
    → g t ≡ true)
    → (found : List Target) → list_all is_id (values_of found) ≡ true → list_all f (values_of found) ≡ true
    → from_on n found ≡ true → all-good good found ≡ true → list_all g found ≡ true
each n good f g step [] i h o e = refl
each n good f g step (t ∷ found) i h o e =
    let a = and_parts (is_id t.value) (list_all is_id (values_of found)) i in
    let b = and_parts (f t.value) (list_all f (values_of found)) h in
    let c = and_parts (nat_le n t.seen) (from_on n found) o in
    let d = and_parts (good t.seen) (all-good good found) e in
    and_from (g t) (list_all g found) (step t a.0 b.0 c.0 d.0) (each n good f g step found a.1 b.1 c.1 d.1)

pub all-same : (f g : Target → Bool) (found : List Target) → ((t : Target) → f t ≡ true → g t ≡ true)
    → list_all f found ≡ true → list_all g found ≡ true
all-same f g [] same h = refl
all-same f g (t ∷ found) same h =
    let p = and_parts (f t) (list_all f found) h in
    and_from (g t) (list_all g found) (same t p.0) (all-same f g found same p.1)

-- ---- a line

-- where: a link in the line leads there
pub line-led : (is_heading : Bool) (xs : Inlines) (ts us : Simples) (k : ArePlaced (ids_of_line xs) ts)
    → ((n : ℕ) → targets_among every None n us ≡ targets_among every None n ts)
    → ((around : Around) (beside : Layout) (id : List ℕ) (m : ℕ) → around.is_linked ≡ false
    → around.heading ≡ None
    → is_id id ≡ true → (not is_heading && lead id xs) ≡ true
    → is_led_to (leadings_among around beside us) id m ≡ true)
    → AreLedThere us (line is_heading xs ∷ [])
line-led is_heading xs ts us k same own around beside p q before after good l h before_leads after_leads e g =
    let n : ℕ = around.seen in
    let here : List Leading = leadings_among around beside us in
    let found : List Target = targets_among every None n ts in
    let led_id : List ℕ → Bool =
    λ id. lines_lead id before || (not is_heading && lead id xs) || lines_lead id after in
    let places = k.places n in
    let first = and_parts (list_all led_id (ids_of_line xs)) (are_led_to (line is_heading xs ∷ before) after) e in
    subst (λ ts. list_all (is_led_somewhere p q here) ts ≡ true) (sym (same n))
    (each n good led_id (is_led_somewhere p q here)
    (λ t i f o d.
    let id : List ℕ = t.value in
    let m : ℕ = t.seen in
    let inside : Bool = is_led_to here id m in
    either-of (lines_lead id before || (not is_heading && lead id xs)) (lines_lead id after) f
    (λ f. either-of (lines_lead id before) (not is_heading && lead id xs) f
    (λ f. or-left (p id m) (inside || q id m) (before_leads id m i o f))
    (λ f. or-right (p id m) (inside || q id m) (or-left inside (q id m) (own around beside id m l h i f))))
    (λ f. or-right (p id m) (inside || q id m) (or-right inside (q id m) (after_leads id m i d f))))
    found
    (subst (λ ids. list_all is_id ids ≡ true) (sym places.values) places.lined)
    (subst (λ ids. list_all led_id ids ≡ true) (sym places.values) first.0)
    (trees-from n ts k.marked)
    (subst (λ ts. all-good good ts ≡ true) (same n) g))

pub none-in : (m : ℕ) (h : Option Span) → h ≡ None → is_in h m ≡ false
none-in m h e = ap (λ h. is_in h m) e

pub sound-line : (xs : Inlines) (ts : Simples) → IsSoundLine xs ts → AreSound ts (line false xs ∷ [])
sound-line xs ts k = record {
  placed = subst (λ ids. ArePlaced ids ts) (sym (append-nil (ids_of_line xs))) k.placed;
  leads = λ around beside id m l h i o e.
      k.leads around beside id m l (none-in m around.heading h) i
      (either-of (lead id xs) false e (λ e. e) (λ e. false-true e));
  early = λ around beside id m l h i c o e.
      k.leads around beside id m l (none-in m around.heading h) i
      (either-of (lead id xs) false e (λ e. e) (λ e. false-true e));
  led = line-led false xs ts ts k.placed (λ n. refl)
      (λ around beside id m l h i e. k.leads around beside id m l (none-in m around.heading h) i e);
}

-- ---- what waits for nothing stands before the end

record Drops (p q : Placing) : Type 0 where
  gone : List Target
  is : p.targets ≡ gone ++ q.targets
  below : list_all (λ (t : Target). nat_lt t.seen q.seen) gone ≡ true
  grows : p.seen ≤ q.seen

below-more : (m n : ℕ) → m ≤ n → (found : List Target)
    → list_all (λ (t : Target). nat_lt t.seen m) found ≡ true
    → list_all (λ (t : Target). nat_lt t.seen n) found ≡ true
below-more m n l found h =
    all-same (λ (t : Target). nat_lt t.seen m) (λ (t : Target). nat_lt t.seen n) found
    (λ t e. grind (arith, nat_tests, l, e)) h

drops-both : (p q r : Placing) → Drops p q → Drops q r → Drops p r
drops-both p q r d e = record {
  gone = d.gone ++ e.gone;
  is = d.is ∙ (ap (λ ts. d.gone ++ ts) e.is ∙ sym (append_assoc d.gone e.gone r.targets));
  below = all-both (λ (t : Target). nat_lt t.seen r.seen) d.gone e.gone
      (below-more q.seen r.seen e.grows d.gone d.below)
      e.below;
  grows = let a = d.grows in let b = e.grows in omega (arith, a, b);
}

drops-none : (p : Placing) → Drops p p
drops-none p = record { gone = []; is = refl; below = refl; grows = omega arith }

-- the first of those that stand up to there
past-split : (n : ℕ) (found : List Target)
    → (gone : List Target) × (found ≡ gone ++ targets_past n found)
    × (list_all (λ (t : Target). nat_lt t.seen (suc n)) gone ≡ true)
past-split n [] = ([], refl, refl)
past-split n (t ∷ found) =
    test (nat_le t.seen n)
    (λ e.
    let rest = past-split n found in
    let less : nat_lt t.seen (suc n) ≡ true = grind (arith, nat_tests, e) in (
      t ∷ rest.0,
      ap (λ ts. t ∷ ts) rest.1 ∙ ap (λ b. t ∷ (rest.0 ++ cond b (targets_past n found) (t ∷ found))) (sym e),
      ap (λ b. b && list_all (λ (t : Target). nat_lt t.seen (suc n)) rest.0) less ∙ rest.2,
    ))
    (λ e. ([], ap (λ b. cond b (targets_past n found) (t ∷ found)) (sym e), refl))

drops-leaf : (p : Placing) (b : Bool) → Drops p (after_leaf p b)
drops-leaf p true =
    let s = past-split p.seen p.targets in
    record { gone = s.0; is = s.1; below = s.2; grows = omega arith }
drops-leaf p false = drops-none p

mutual
  tree-drops : (p : Placing) (t : Simple) → Drops p (placing_after p t)
  tree-drops p (text s) = drops-leaf p (not (is_blank_text s))
  tree-drops p (image address attributes) = drops-leaf p (image_shows address attributes)
  tree-drops p (formula tex is_alone attributes) = drops-leaf p true
  tree-drops p (embedded id address title attributes found) = drops-leaf p true
  tree-drops p (anchor id) = drops-none p
  tree-drops p (element id r facts attributes content) =
      test (is_verbatim r)
      (λ v. subst (λ b. Drops p (cond b (after_leaf p (code_shows content)) (placing_after_all p content))) (sym v)
      (drops-leaf p (code_shows content)))
      (λ v. subst (λ b. Drops p (cond b (after_leaf p (code_shows content)) (placing_after_all p content))) (sym v)
      (trees-drop p content))

  trees-drop : (p : Placing) (ts : Simples) → Drops p (placing_after_all p ts)
  trees-drop p none = drops-none p
  trees-drop p (more t ts) =
      drops-both p (placing_after p t) (placing_after_all (placing_after p t) ts) (tree-drops p t)
      (trees-drop (placing_after p t) ts)

pub no-values : (found : List Target) → values_of found ≡ [] → found ≡ []
no-values [] h = refl
no-values (t ∷ found) h = absurd (cc)

pub all-below : (ts : Simples) → are_marked ts ≡ true → pending_all [] ts ≡ [] → (n : ℕ)
    → list_all (λ (t : Target). nat_lt t.seen (n + all_seen ts)) (targets_among every None n ts) ≡ true
all-below ts h w n =
    let found : List Target = targets_among every None n ts in
    let k = trees-local ts n [] [] h refl refl in
    let left : k.rest ≡ [] = no-values k.rest (k.wait ∙ w) in
    let d : Drops (at_place n (found ++ [])) (at_place (n + all_seen ts) []) =
    subst (Drops (at_place n (found ++ []))) (k.next ∙ ap (λ xs. at_place (n + all_seen ts) (xs ++ [])) left)
    (trees-drop (at_place n (found ++ [])) ts) in
    subst (λ xs. list_all (λ (t : Target). nat_lt t.seen (n + all_seen ts)) xs ≡ true)
    (sym (sym (append-nil found) ∙ (d.is ∙ append-nil d.gone))) d.below

-- none stands behind the end
pub all-up : (ts : Simples) → are_marked ts ≡ true → (n : ℕ)
    → list_all (λ (t : Target). nat_le t.seen (n + all_seen ts)) (targets_among every None n ts) ≡ true
all-up ts h n =
    let found : List Target = targets_among every None n ts in
    let k = trees-local ts n [] [] h refl refl in
    let d : Drops (at_place n (found ++ [])) (at_place (n + all_seen ts) (k.rest ++ [])) =
    subst (Drops (at_place n (found ++ []))) k.next (trees-drop (at_place n (found ++ [])) ts) in
    subst (λ xs. list_all (λ (t : Target). nat_le t.seen (n + all_seen ts)) xs ≡ true)
    (sym (sym (append-nil found) ∙ (d.is ∙ ap (λ xs. d.gone ++ xs) (append-nil k.rest))))
    (all-both (λ (t : Target). nat_le t.seen (n + all_seen ts)) d.gone k.rest
    (all-same (λ (t : Target). nat_lt t.seen (n + all_seen ts)) (λ (t : Target). nat_le t.seen (n + all_seen ts))
    d.gone (λ t e. grind (arith, nat_tests, e)) d.below) k.up)

-- ---- nodes beside others

-- behind nodes
abbrev pub past : Around → Simples → Around
past around ts = record around { seen = around.seen + all_seen ts }

-- what is known of the first is the first's and the others'
pub record IsBoth (us vs ts : Simples) : Type 0 where
  pub marked : are_marked vs ≡ true → are_marked ts ≡ true → are_marked us ≡ true
  pub right : have_right_links vs ≡ true → have_right_links ts ≡ true → have_right_links us ≡ true
  pub targets : (n : ℕ) → targets_among every None n us
      ≡ targets_among every None n vs ++ targets_among every None (n + all_seen vs) ts
  pub seen : all_seen us ≡ all_seen vs + all_seen ts
  pub coded : begins_coded us ≡ true
      → (begins_coded vs || (nat_le (all_seen vs) 0 && begins_coded ts)) ≡ true
  pub leads : (around : Around) (beside : Layout) → leadings_among around beside us
      ≡ leadings_among around beside vs ++ leadings_among (past around vs) beside ts

both-leads : (us vs ts : Simples) (ks ls : List Line) → IsBoth us vs ts → LeadOut vs ks → LeadOut ts ls
    → LeadOut us (ks ++ ls)
both-leads us vs ts ks ls b h k around beside id m l u i o e =
    let first : List Leading = leadings_among around beside vs in
    let others : List Leading = leadings_among (past around vs) beside ts in
    let n : ℕ = around.seen in
    let size : all_seen us ≡ all_seen vs + all_seen ts = b.seen in
    let out : is_outside n (all_seen vs + all_seen ts) m ≡ true = subst (λ j. is_outside n j m ≡ true) size o in
    ap (λ xs. is_led_to xs id m) (b.leads around beside)
    ∙ (led-both first others id m
    ∙ either-of (lines_lead id ks) (lines_lead id ls) (sym (lead-both id ks ls) ∙ e)
    (λ e. or-left (is_led_to first id m) (is_led_to others id m)
    (h around beside id m l u i (out-first n (all_seen vs) (all_seen ts) m out) e))
    (λ e. or-right (is_led_to first id m) (is_led_to others id m)
    (k (past around vs) beside id m l u i (out-others n (all_seen vs) (all_seen ts) m out) e)))
  where
    out-first : (n j k m : ℕ) → is_outside n (j + k) m ≡ true → is_outside n j m ≡ true
    out-first n j k m h =
        either-of (nat_lt m n) (nat_le (n + (j + k)) m) h (λ e. or-left (nat_lt m n) (nat_le (n + j) m) e)
        (λ e. or-right (nat_lt m n) (nat_le (n + j) m) (grind (arith, nat_tests, e)))

    out-others : (n j k m : ℕ) → is_outside n (j + k) m ≡ true → is_outside (n + j) k m ≡ true
    out-others n j k m h =
        either-of (nat_lt m n) (nat_le (n + (j + k)) m) h
        (λ e. or-left (nat_lt m (n + j)) (nat_le ((n + j) + k) m) (grind (arith, nat_tests, e)))
        (λ e. or-right (nat_lt m (n + j)) (nat_le ((n + j) + k) m) (grind (arith, nat_tests, e)))

coded-seen : (ts : Simples) → begins_coded ts ≡ true → nat_lt 0 (all_seen ts) ≡ true
coded-seen none h = false-true h
coded-seen (more t ts) h =
    either-of (is_coded t) (is_gap t && begins_coded ts) h
    (λ e. more-seen (seen t) (all_seen ts) (one t e))
    (λ e. others-seen (seen t) (all_seen ts) (coded-seen ts (and_parts (is_gap t) (begins_coded ts) e).1))
  where
    one : (t : Simple) → is_coded t ≡ true → nat_lt 0 (seen t) ≡ true
    one (element id r facts attributes content) h =
        let p = and_parts (is_verbatim r) (code_shows content) h in rw (p.0, p.1) refl
    one t h = false-true h

    more-seen : (m n : ℕ) → nat_lt 0 m ≡ true → nat_lt 0 (m + n) ≡ true
    more-seen m n h = grind (arith, nat_tests, h)

    others-seen : (m n : ℕ) → nat_lt 0 n ≡ true → nat_lt 0 (m + n) ≡ true
    others-seen m n h = grind (arith, nat_tests, h)

both-early : (us vs ts : Simples) (ks ls : List Line) → IsBoth us vs ts → AreSound vs ks → AreSound ts ls
    → LeadEarly us (ks ++ ls)
both-early us vs ts ks ls b h k around beside id m l u i c o e =
    let first : List Leading = leadings_among around beside vs in
    let others : List Leading = leadings_among (past around vs) beside ts in
    let n : ℕ = around.seen in
    let size : ℕ = all_seen vs in
    ap (λ xs. is_led_to xs id m) (b.leads around beside)
    ∙ (led-both first others id m
    ∙ either-of (lines_lead id ks) (lines_lead id ls) (sym (lead-both id ks ls) ∙ e)
    (λ e. or-left (is_led_to first id m) (is_led_to others id m)
    (either-of (begins_coded vs) (nat_le size 0 && begins_coded ts) (b.coded c)
    (λ c. h.early around beside id m l u i c o e)
    (λ c. h.leads around beside id m l u i (at-end n size m (and_parts (nat_le size 0) (begins_coded ts) c).0 o) e)))
    (λ e. or-right (is_led_to first id m) (is_led_to others id m)
    (either-of (begins_coded vs) (nat_le size 0 && begins_coded ts) (b.coded c)
    (λ c. k.leads (past around vs) beside id m l u i (at-start n size (all_seen ts) m (coded-seen vs c) o) e)
    (λ c. k.early (past around vs) beside id m l u i (and_parts (nat_le size 0) (begins_coded ts) c).1
    (no-less n size m o) e))))
  where
    at-end : (n j m : ℕ) → nat_le j 0 ≡ true → nat_le m n ≡ true → is_outside n j m ≡ true
    at-end n j m z h = grind (arith, nat_tests, z, h)

    at-start : (n j k m : ℕ) → nat_lt 0 j ≡ true → nat_le m n ≡ true → is_outside (n + j) k m ≡ true
    at-start n j k m z h = or-left (nat_lt m (n + j)) (nat_le ((n + j) + k) m) (grind (arith, nat_tests, z, h))

    no-less : (n j m : ℕ) → nat_le m n ≡ true → nat_le m (n + j) ≡ true
    no-less n j m h = grind (arith, nat_tests, h)

-- the first stand before the others
both-led : (us vs ts : Simples) (ks ls : List Line) → IsBoth us vs ts
    → (near : ℕ → ℕ → Bool)
    → ((n : ℕ) → list_all (λ (t : Target). near n t.seen) (targets_among every None n vs) ≡ true)
    → ((around : Around) (beside : Layout) (id : List ℕ) (m : ℕ) → around.is_linked ≡ false
    → around.heading ≡ None → is_id id ≡ true → near around.seen m ≡ true → lines_lead id ls ≡ true
    → is_led_to (leadings_among (past around vs) beside ts) id m ≡ true)
    → AreSound vs ks → AreSound ts ls → AreLedThere us (ks ++ ls)
both-led us vs ts ks ls b near below reach h k around beside p q before after good l u before_leads after_leads e g =
    let n : ℕ = around.seen in
    let first : List Leading = leadings_among around beside vs in
    let others : List Leading = leadings_among (past around vs) beside ts in
    let found : List Target = targets_among every None n vs in
    let later : List Target = targets_among every None (n + all_seen vs) ts in
    let all : are_led_to before (ks ++ (ls ++ after)) ≡ true =
    ap (are_led_to before) (sym (append_assoc ks ls after)) ∙ e in
    let goods = parts-both good found later (subst (λ xs. all-good good xs ≡ true) (b.targets n) g) in
    let in_first = h.led around beside p (λ id m. is_led_to others id m || q id m) before (ls ++ after)
    (λ m. near n m && good m) l u
    before_leads
    (λ id m i d e.
    let near_parts = and_parts (near n m) (good m) d in
    either-of (lines_lead id ls) (lines_lead id after) (sym (lead-both id ls after) ∙ e)
    (λ e. or-left (is_led_to others id m) (q id m) (reach around beside id m l u i near_parts.0 e))
    (λ e. or-right (is_led_to others id m) (q id m) (after_leads id m i near_parts.1 e)))
    all (both-good (near n) good found (below n) goods.0) in
    let in_others = k.led (past around vs) beside (λ id m. p id m || is_led_to first id m) q (passed before ks) after
    good
    l u
    (λ id m i o e.
    either-of (lines_lead id before) (lines_lead id ks) (lead-passed id before ks e)
    (λ e. or-left (p id m) (is_led_to first id m) (before_leads id m i (less-far n (all_seen vs) m o) e))
    (λ e. or-right (p id m) (is_led_to first id m)
    (h.leads around beside id m l u i (or-right (nat_lt m n) (nat_le (n + all_seen vs) m) o) e)))
    after_leads (led-front before ks (ls ++ after) all) goods.1 in
    subst (λ xs. list_all (is_led_somewhere p q (leadings_among around beside us)) xs ≡ true) (sym (b.targets n))
    (subst (λ here. list_all (is_led_somewhere p q here) (found ++ later) ≡ true) (sym (b.leads around beside))
    (all-both (is_led_somewhere p q (first ++ others)) found later
    (all-same (is_led_somewhere p (λ id m. is_led_to others id m || q id m) first)
    (is_led_somewhere p q (first ++ others)) found
    (λ t e. regroup (p t.value t.seen) (is_led_to first t.value t.seen) (is_led_to others t.value t.seen)
    (q t.value t.seen) (is_led_to (first ++ others) t.value t.seen) (led-both first others t.value t.seen) e) in_first)
    (all-same (is_led_somewhere (λ id m. p id m || is_led_to first id m) q others)
    (is_led_somewhere p q (first ++ others)) later
    (λ t e. reorder (p t.value t.seen) (is_led_to first t.value t.seen) (is_led_to others t.value t.seen)
    (q t.value t.seen) (is_led_to (first ++ others) t.value t.seen) (led-both first others t.value t.seen) e)
    in_others)))
  where
    parts-both : (good : ℕ → Bool) (xs ys : List Target) → all-good good (xs ++ ys) ≡ true
        → (all-good good xs ≡ true) × (all-good good ys ≡ true)
    parts-both good [] ys h = (refl, h)
    parts-both good (x ∷ xs) ys h =
        let p = and_parts (good x.seen) (all-good good (xs ++ ys)) h in
        let i = parts-both good xs ys p.1 in (and_from (good x.seen) (all-good good xs) p.0 i.0, i.1)

    both-good : (f g : ℕ → Bool) (xs : List Target) → all-good f xs ≡ true → all-good g xs ≡ true
        → all-good (λ m. f m && g m) xs ≡ true
    both-good f g [] h k = refl
    both-good f g (x ∷ xs) h k =
        let p = and_parts (f x.seen) (all-good f xs) h in
        let q = and_parts (g x.seen) (all-good g xs) k in
        and_from (f x.seen && g x.seen) (all-good (λ m. f m && g m) xs) (and_from (f x.seen) (g x.seen) p.0 q.0)
        (both-good f g xs p.1 q.1)

    less-far : (n j m : ℕ) → nat_le (n + j) m ≡ true → nat_le n m ≡ true
    less-far n j m h = grind (arith, nat_tests, h)

    regroup : (a b c d both : Bool) → both ≡ (b || c) → (a || (b || (c || d))) ≡ true
        → (a || (both || d)) ≡ true
    regroup true b c d both e h = refl
    regroup false true c d both e h = ap (λ x. x || d) e
    regroup false false c d both e h = ap (λ x. x || d) e ∙ h

    reorder : (a b c d both : Bool) → both ≡ (b || c) → ((a || b) || (c || d)) ≡ true
        → (a || (both || d)) ≡ true
    reorder true b c d both e h = refl
    reorder false true c d both e h = ap (λ x. x || d) e
    reorder false false c d both e h = ap (λ x. x || d) e ∙ h

both-sound : (us vs ts : Simples) (ks ls : List Line) → IsBoth us vs ts → (near : ℕ → ℕ → Bool)
    → ((n : ℕ) → list_all (λ (t : Target). near n t.seen) (targets_among every None n vs) ≡ true)
    → ((around : Around) (beside : Layout) (id : List ℕ) (m : ℕ) → around.is_linked ≡ false
    → around.heading ≡ None → is_id id ≡ true → near around.seen m ≡ true → lines_lead id ls ≡ true
    → is_led_to (leadings_among (past around vs) beside ts) id m ≡ true)
    → AreSound vs ks → AreSound ts ls → AreSound us (ks ++ ls)
both-sound us vs ts ks ls b near below reach h k = record {
  placed = record {
    marked = b.marked h.placed.marked k.placed.marked;
    right = b.right h.placed.right k.placed.right;
    places = λ n. subst (λ ids. ArePlaces (targets_among every None n us) ids) (sym (ids-both ks ls))
        (subst (λ xs. ArePlaces xs (ids_in_lines ks ++ ids_in_lines ls)) (sym (b.targets n))
        (both-places (targets_among every None n vs) (targets_among every None (n + all_seen vs) ts) (ids_in_lines ks)
        (ids_in_lines ls) (h.placed.places n) (k.placed.places (n + all_seen vs))));
  };
  leads = both-leads us vs ts ks ls b h.leads k.leads;
  early = both-early us vs ts ks ls b h k;
  led = both-led us vs ts ks ls b near below reach h k;
}

-- where nothing waits for the others
pub sound-both : (us vs ts : Simples) (ks ls : List Line) → IsBoth us vs ts → pending_all [] vs ≡ []
    → AreSound vs ks → AreSound ts ls → AreSound us (ks ++ ls)
sound-both us vs ts ks ls b w h k =
    both-sound us vs ts ks ls b (λ n m. nat_lt m (n + all_seen vs)) (all-below vs h.placed.marked w)
    (λ around beside id m l u i near e.
    k.leads (past around vs) beside id m l u i
    (or-left (nat_lt m (around.seen + all_seen vs)) (nat_le ((around.seen + all_seen vs) + all_seen ts) m) near) e) h k

-- or a code block is the first of these
pub sound-early : (us vs ts : Simples) (ks ls : List Line) → IsBoth us vs ts → begins_coded ts ≡ true
    → AreSound vs ks → AreSound ts ls → AreSound us (ks ++ ls)
sound-early us vs ts ks ls b c h k =
    both-sound us vs ts ks ls b (λ n m. nat_le m (n + all_seen vs)) (all-up vs h.placed.marked)
    (λ around beside id m l u i near e. k.early (past around vs) beside id m l u i c near e) h k

-- with bare ones behind
pub sound-behind : (us vs ts : Simples) (ks : List Line) → IsBoth us vs ts → are_bare ts ≡ true → AreSound vs ks
    → AreSound us ks
sound-behind us vs ts ks b bare h =
    let plain = all-bare-nameless ts bare in
    let no_more : (n : ℕ) → targets_among every None n ts ≡ [] = λ n. none-among None n ts plain.0 in
    let same : (n : ℕ) → targets_among every None n us ≡ targets_among every None n vs =
    λ n. b.targets n ∙ (ap (λ xs. targets_among every None n vs ++ xs) (no_more (n + all_seen vs))
    ∙ append-nil (targets_among every None n vs)) in
    record {
      placed = record {
        marked = b.marked h.placed.marked (all-nameless-marked ts plain.0);
        right = b.right h.placed.right plain.1;
        places = λ n. subst (λ xs. ArePlaces xs (ids_in_lines ks)) (sym (same n)) (h.placed.places n);
      };
      leads = λ around beside id m l u i o e.
          let first : List Leading = leadings_among around beside vs in
          let others : List Leading = leadings_among (past around vs) beside ts in
          ap (λ xs. is_led_to xs id m) (b.leads around beside)
          ∙ led-left first others id m
          (h.leads around beside id m l u i
          (nearer around.seen (all_seen vs) (all_seen ts) m
          (subst (λ j. is_outside around.seen j m ≡ true) b.seen o)) e);
      early = λ around beside id m l u i c o e.
          let first : List Leading = leadings_among around beside vs in
          let others : List Leading = leadings_among (past around vs) beside ts in
          let size : ℕ = all_seen vs in
          ap (λ xs. is_led_to xs id m) (b.leads around beside)
          ∙ led-left first others id m
          (either-of (begins_coded vs) (nat_le size 0 && begins_coded ts) (b.coded c)
          (λ c. h.early around beside id m l u i c o e)
          (λ c. h.leads around beside id m l u i
          (right-there around.seen size m (and_parts (nat_le size 0) (begins_coded ts) c).0 o) e));
      led = λ around beside p q before after good l u before_leads after_leads e g.
          let first : List Leading = leadings_among around beside vs in
          let others : List Leading = leadings_among (past around vs) beside ts in
          let n : ℕ = around.seen in
          subst (λ xs. list_all (is_led_somewhere p q (leadings_among around beside us)) xs ≡ true) (sym (same n))
          (subst (λ here. list_all (is_led_somewhere p q here) (targets_among every None n vs) ≡ true)
          (sym (b.leads around beside))
          (all-same (is_led_somewhere p q first) (is_led_somewhere p q (first ++ others))
          (targets_among every None n vs)
          (λ t w. widen (p t.value t.seen) (is_led_to first t.value t.seen) (q t.value t.seen)
          (is_led_to (first ++ others) t.value t.seen) (led-left first others t.value t.seen) w)
          (h.led around beside p q before after good l u before_leads after_leads e
          (subst (λ xs. all-good good xs ≡ true) (same n) g))));
    }
  where
    nearer : (n j k m : ℕ) → is_outside n (j + k) m ≡ true → is_outside n j m ≡ true
    nearer n j k m h =
        either-of (nat_lt m n) (nat_le (n + (j + k)) m) h (λ e. or-left (nat_lt m n) (nat_le (n + j) m) e)
        (λ e. or-right (nat_lt m n) (nat_le (n + j) m) (grind (arith, nat_tests, e)))

    right-there : (n j m : ℕ) → nat_le j 0 ≡ true → nat_le m n ≡ true → is_outside n j m ≡ true
    right-there n j m z h = grind (arith, nat_tests, z, h)

    widen : (a b c d : Bool) → (b ≡ true → d ≡ true) → (a || (b || c)) ≡ true → (a || (d || c)) ≡ true
    widen true b c d f h = refl
    widen false true c d f h = ap (λ x. x || c) (f refl)
    widen false false c d f h = or-right d c h

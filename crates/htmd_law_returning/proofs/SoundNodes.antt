-- Trees of blocks, one by one: their targets are the anchors of lines, and their links lead where these lead.
use Rattle.std.proofs.Common.{◌≡◌, ℕ, ◌+◌, Bool, true, false, not, ◌&&◌, ◌||◌, cond, List, []}
use Rattle.std.proofs.Common.{◌∷◌, ◌++◌}
use Rattle.std.proofs.Common.{refl, sym, ap, ◌∙◌, subst, arith, append_assoc, Some, None}
use Rattle.std.specs.Prelude.{nat_le, nat_lt}
use Rattle.std.specs.List.{list_all}
use Rattle.std.specs.Str.{chars}
use Rattle.std.proofs.lemmas.Bool.{and_parts, and_from}
use Rattle.std.proofs.lemmas.Bool.Decides.{nat_tests}
use Rattle.std.proofs.lemmas.List.{append-nil}
use Rattle.htmd_lexical.specs.AttributePairs.{AttributePair}
use Rattle.htmd_lexical.specs.Characters.{line_feed}
use Rattle.htmd_document.specs.AnchorIds.{ids_of_line}
use Rattle.htmd_document.specs.Documents.{Inlines}
use Rattle.htmd_shown.specs.declared.role.Role.{Role}
use Rattle.htmd_shown.specs.declared.role.Role.TheVariants as role
use Rattle.htmd_shown.specs.Facts.{made, facts_of}
use Rattle.htmd_shown.specs.Roles.{is_link, is_headed, is_heading, is_verbatim}
use Rattle.htmd_shown.specs.SimpleTrees.{Simple, text, Simples, none, more}
use Rattle.htmd_shown.specs.Showings.{code_shows}
use Rattle.htmd_shown.specs.Spaces.{is_blank_text}
use Rattle.htmd_document_of_tree.specs.Anchors.{values_of}
use Rattle.htmd_document_of_tree.specs.Leadings.{Leading, leadings, leadings_among, after, layout_in, is_flat}
use Rattle.htmd_document_of_tree.specs.Leadings.{is_led_to, is_in}
use Rattle.htmd_document_of_tree.specs.Leadings.{heading_in}
use Rattle.htmd_document_of_tree.specs.declared.leadings.Around.{Around}
use Rattle.htmd_document_of_tree.specs.declared.leadings.Layout.{Layout}
use Rattle.htmd_document_of_tree.specs.Seen.{seen, all_seen, one_if}
use Rattle.htmd_document_of_tree.specs.Targets.{Target, targets_among, targets_inside, is_whole}
use Rattle.htmd_law_returning.specs.LastingAnchors.{Line, line, lead}
use Rattle.htmd_law_returning.proofs.BareLemmas.{has_no_name, is_bare}
use Rattle.htmd_law_returning.proofs.LineIds.{ids_in_lines}
use Rattle.htmd_law_returning.proofs.LocalAnchors.{every, are_led, targets_of, pending, pending_all}
use Rattle.htmd_law_returning.proofs.LocalAnchors.{is_marked, are_marked, waits}
use Rattle.htmd_law_returning.proofs.LocalAnchors.{element-own, come_first, led-first, whole-first}
use Rattle.htmd_law_returning.proofs.LocalPieces.{has_right_links, have_right_links}
use Rattle.htmd_law_returning.proofs.PlacedTrees.{ArePlaced, IsPlaced, placed-none, placed-more, placed-headed}
use Rattle.htmd_law_returning.proofs.PlacedTrees.{placed-nameless, placed-inside, placed-heading, bare-nameless}
use Rattle.htmd_law_returning.proofs.FormatLemmas.{either-false}
use Rattle.htmd_law_returning.proofs.PageLemmas.{and-false}
use Rattle.htmd_law_returning.proofs.SoundTrees.{IsSoundLine, inner, inner-linked, same-heading, either-of}
use Rattle.htmd_law_returning.proofs.SoundTrees.{element-leadings, or-left, or-right}
use Rattle.htmd_law_returning.proofs.StartLemmas.{false-true, true-false}
use Rattle.htmd_law_returning.proofs.SoundBlocks.{AreSound, IsSound, IsBoth, begins_coded, is_coded}
use Rattle.htmd_law_returning.proofs.SoundBlocks.{is_gap}
use Rattle.htmd_law_returning.proofs.SoundBlocks.{is_outside, is_led_somewhere, all-good, line-led, no-values}
use Rattle.htmd_law_returning.proofs.SoundBlocks.{sound-line, sound-both, sound-early, sound-behind, past}

-- ---- nodes one by one

first-both : (t : Simple) (ts : Simples) → IsBoth (more t ts) (more t none) ts
first-both t ts = record {
  marked = λ h k. and_from (is_marked t) (are_marked ts) (and_parts (is_marked t) true h).0 k;
  right = λ h k. and_from (has_right_links t) (have_right_links ts) (and_parts (has_right_links t) true h).0 k;
  targets = λ n.
      let here : List Target = targets_of n t in
      ap (λ xs. xs ++ targets_among every None (n + seen t) ts) (sym (append-nil here))
      ∙ ap (λ m. (here ++ []) ++ targets_among every None m ts) (ap (λ k. n + k) (more-none (seen t)));
  seen = ap (λ k. k + all_seen ts) (more-none (seen t));
  coded = λ c.
      let rest : Bool = nat_le (seen t + 0) 0 && begins_coded ts in
      either-of (is_coded t) (is_gap t && begins_coded ts) c
      (λ e. or-left (begins_coded (more t none)) rest (or-left (is_coded t) (is_gap t && false) e))
      (λ e.
      let p = and_parts (is_gap t) (begins_coded ts) e in
      or-right (begins_coded (more t none)) rest
      (and_from (nat_le (seen t + 0) 0) (begins_coded ts) (gap-unseen t p.0) p.1));
  leads = λ around beside.
      let here : List Leading = leadings around (is_flat beside t) t in
      ap (λ xs. xs ++ leadings_among (after around t) beside ts) (sym (append-nil here))
      ∙ ap (λ k. (here ++ []) ++ leadings_among (record around { seen = around.seen + k }) beside ts)
      (more-none (seen t));
}
  where
    more-none : (n : ℕ) → n ≡ n + 0
    more-none n = omega arith

    gap-unseen : (t : Simple) → is_gap t ≡ true → nat_le (seen t + 0) 0 ≡ true
    gap-unseen (text s) h = rw h refl
    gap-unseen t h = false-true h

pub sound-more : (t : Simple) (ts : Simples) (ks ls : List Line) → pending [] t ≡ [] → IsSound t ks
    → AreSound ts ls
    → AreSound (more t ts) (ks ++ ls)
sound-more t ts ks ls w h k = sound-both (more t ts) (more t none) ts ks ls (first-both t ts) w h k

pub sound-bare : (t : Simple) → is_bare t ≡ true → IsSound t []
sound-bare t h =
    let b = bare-nameless t h in
    let p : ArePlaced [] (more t none) = placed-more [] [] t none (placed-nameless t b.0 b.1) placed-none in
    record {
      placed = p;
      leads = λ around beside id m l u i o e. false-true e;
      early = λ around beside id m l u i c o e. false-true e;
      led = λ around beside p q before after good l u before_leads after_leads e g.
          subst (λ xs. list_all (is_led_somewhere p q (leadings_among around beside (more t none))) xs ≡ true)
          (sym (no-values (targets_among every None around.seen (more t none)) (none_there around.seen))) refl;
    }
  where
    none_there : (n : ℕ) → values_of (targets_among every None n (more t none)) ≡ []
    none_there n =
        let b = bare-nameless t h in
        ((placed-more [] [] t none (placed-nameless t b.0 b.1) placed-none).places n).values

pub sound-text : (s : List ℕ) (ts : Simples) (ls : List Line) → AreSound ts ls → AreSound (more (text s) ts) ls
sound-text s ts ls h =
    sound-more (text s) ts [] ls (either (not (is_blank_text s))) (sound-bare (text s) refl) h
  where
    either : (b : Bool) → waits b [] ≡ []
    either true = refl
    either false = refl

-- ---- elements

not-headed : (r : Role) → is_headed r ≡ false → is_heading r ≡ false
not-headed (role.Heading level) h = true-false h
not-headed r h = refl

-- one that is no link, no heading and no code block
sound-in : (id : ℕ) (r : Role) (attributes : List AttributePair) (content : Simples) (ls : List Line)
    → is_link r ≡ false → is_verbatim r ≡ false → is_heading r ≡ false → has_no_name attributes ≡ true
    → IsPlaced (ids_in_lines ls) (made id r attributes content)
    → ((n : ℕ) → targets_among every (cond (is_whole r) (Some n) None) n content
    ≡ targets_among every None n content)
    → AreSound content ls → IsSound (made id r attributes content) ls
sound-in id r attributes content ls link code heading h p as_there k =
    let t : Simple = made id r attributes content in
    let same : (n : ℕ) → targets_among every None n (more t none) ≡ targets_among every None n content =
    λ n. append-nil (targets_of n t)
    ∙ (ap (λ xs. xs ++ targets_inside every None n t) (element-own n id r (facts_of content) attributes content h)
    ∙ as_there n) in
    let size : all_seen (more t none) ≡ all_seen content =
    ap (λ b. cond b (one_if (code_shows content)) (all_seen content) + 0) code ∙ none-more (all_seen content) in
    let links : (around : Around) (beside : Layout) → leadings_among around beside (more t none)
    ≡ leadings_among (inner around (is_flat beside t) r content)
    (layout_in around.is_rich (is_flat beside t) r content)
    content =
    λ around beside. append-nil (leadings around (is_flat beside t) t)
    ∙ element-leadings around (is_flat beside t) id r (facts_of content) attributes content code link in
    record {
      placed = subst (λ ids. ArePlaced ids (more t none)) (append-nil (ids_in_lines ls))
          (placed-more (ids_in_lines ls) [] t none p placed-none);
      leads = λ around beside s m l u i o e.
          ap (λ xs. is_led_to xs s m) (links around beside)
          ∙ k.leads (inner around (is_flat beside t) r content)
          (layout_in around.is_rich (is_flat beside t) r content) s m
          (inner-linked around (is_flat beside t) r content l)
          (same-heading around.heading around.seen r content heading ∙ u) i
          (subst (λ j. is_outside around.seen j m ≡ true) size o) e;
      early = λ around beside s m l u i c o e. true-false
          (sym c ∙ ap (λ b. (b && code_shows content) || false) code);
      led = λ around beside p q before after good l u before_leads after_leads e g.
          subst (λ xs. list_all (is_led_somewhere p q (leadings_among around beside (more t none))) xs ≡ true)
          (sym (same around.seen))
          (subst (λ here. list_all (is_led_somewhere p q here) (targets_among every None around.seen content) ≡ true)
          (sym (links around beside))
          (k.led (inner around (is_flat beside t) r content)
          (layout_in around.is_rich (is_flat beside t) r content) p q before after good
          (inner-linked around (is_flat beside t) r content l)
          (same-heading around.heading around.seen r content heading ∙ u) before_leads after_leads e
          (subst (λ xs. all-good good xs ≡ true) (same around.seen) g)));
    }
  where
    none-more : (n : ℕ) → n + 0 ≡ n
    none-more n = omega arith

-- nor a title
pub sound-element : (id : ℕ) (r : Role) (attributes : List AttributePair) (content : Simples) (ls : List Line)
    → is_whole r ≡ false → has_no_name attributes ≡ true → AreSound content ls
    → IsSound (made id r attributes content) ls
sound-element id r attributes content ls w h k =
    let parts = either-false (is_link r || is_headed r) (is_verbatim r) w in
    let own = either-false (is_link r) (is_headed r) parts.0 in
    sound-in id r attributes content ls own.0 parts.1 (not-headed r own.1) h
    (placed-inside (ids_in_lines ls) id r (facts_of content) attributes content w own.0 h k.placed)
    (λ n. ap (λ b. targets_among every (cond b (Some n) None) n content) w) k

-- a title
pub sound-title : (id : ℕ) (r : Role) (content : Simples) (ls : List Line) → is_headed r ≡ true
    → is_link r ≡ false → is_verbatim r ≡ false → is_heading r ≡ false
    → come_first content ≡ true → AreSound content ls → IsSound (made id r [] content) ls
sound-title id r content ls head link code heading first k =
    sound-in id r [] content ls link code heading refl
    (placed-headed (ids_in_lines ls) id r (facts_of content) content head link first k.placed)
    (λ n. ap (λ b. targets_among every (cond b (Some n) None) n content)
    (ap (λ x. (is_link r || x) || is_verbatim r) head ∙ either (is_link r) (is_verbatim r))
    ∙ whole-first n content first) k
  where
    either : (a b : Bool) → ((a || true) || b) ≡ true
    either true b = refl
    either false b = refl

-- a heading
pub sound-heading : (id level : ℕ) (xs : Inlines) (content : Simples) → are_led content ≡ true
    → IsSoundLine xs content → IsSound (made id (role.Heading level) [] content) (line true xs ∷ [])
sound-heading id level xs content led k =
    let r : Role = role.Heading level in
    let t : Simple = made id r [] content in
    let same : (n : ℕ) → targets_among every None n (more t none) ≡ targets_among every None n content =
    λ n. append-nil (targets_of n t)
    ∙ (ap (λ xs. xs ++ targets_inside every None n t) (element-own n id r (facts_of content) [] content refl)
    ∙ whole-first n content (led-first content led)) in
    record {
      placed = placed-more (ids_of_line xs) [] t none
          (placed-heading (ids_of_line xs) id level (facts_of content) content led
          k.placed) placed-none;
      leads = λ around beside s m l u i o e.
          let flat : Bool = is_flat beside t in
          ap (λ us. is_led_to us s m) (append-nil (leadings around flat t)
          ∙ element-leadings around flat id r (facts_of content) [] content refl refl)
          ∙ k.leads (inner around flat r content) (layout_in around.is_rich flat r content) s m
          (inner-linked around flat r content l)
          (ap (λ h. is_in (heading_in h around.seen r content) m) u ∙ not-in around.seen (all_seen content) m o) i
          (either-of (lead s xs) false e (λ e. e) (λ e. false-true e));
      early = λ around beside s m l u i c o e. false-true c;
      led = line-led true xs content (more t none) k.placed same (λ around beside s m l u i e. false-true e);
    }
  where
    not-in : (n k m : ℕ) → is_outside n (k + 0) m ≡ true → (nat_le n m && nat_lt m (n + k)) ≡ false
    not-in n k m h =
        either-of (nat_lt m n) (nat_le (n + (k + 0)) m) h
        (λ e. let w : nat_le n m ≡ false = grind (arith, nat_tests, e) in ap (λ b. b && nat_lt m (n + k)) w)
        (λ e. let w : nat_lt m (n + k) ≡ false = grind (arith, nat_tests, e) in
        ap (λ b. nat_le n m && b) w ∙ and-false (nat_le n m))

-- ---- anchors alone

-- in a paragraph before a code block
pub sound-alone : (id : ℕ) (s : List ℕ) (xs : Inlines) (content ts : Simples) (ls : List Line)
    → is_blank_text s ≡ true → begins_coded ts ≡ true → IsSoundLine xs content → AreSound ts ls
    → AreSound (more (made id role.Paragraph [] content) (more (text s) ts)) (line false xs ∷ ls)
sound-alone id s xs content ts ls blank c k h =
    let t : Simple = made id role.Paragraph [] content in
    sound-early (more t (more (text s) ts)) (more t none) (more (text s) ts) (line false xs ∷ []) ls
    (first-both t (more (text s) ts)) (ap (λ b. b && begins_coded ts) blank ∙ c)
    (sound-element id role.Paragraph [] content (line false xs ∷ []) refl refl (sound-line xs content k))
    (sound-text s ts ls h)

-- or at the end
pub sound-last : (id : ℕ) (s : List ℕ) (xs : Inlines) (content : Simples) → IsSoundLine xs content
    → AreSound (more (made id role.Paragraph [] content) (more (text s) none)) (line false xs ∷ [])
sound-last id s xs content k =
    let t : Simple = made id role.Paragraph [] content in
    sound-behind (more t (more (text s) none)) (more t none) (more (text s) none) (line false xs ∷ [])
    (first-both t (more (text s) none)) refl
    (sound-element id role.Paragraph [] content (line false xs ∷ []) refl refl (sound-line xs content k))

-- ---- a line with others behind it

-- nodes of a line, its end in its last text or as a text of its own, and others
pub data IsEnded : Simples → Simples → Simples → Type 0 where
  at_end : (ts : Simples) → IsEnded (more (text (line_feed ∷ [])) ts) none ts
  at_text : (s : List ℕ) (ts : Simples) → is_blank_text (s ++ line_feed ∷ []) ≡ is_blank_text s
      → IsEnded (more (text (s ++ line_feed ∷ [])) ts) (more (text s) none) ts
  behind_node : (t : Simple) (us vs ts : Simples) → IsEnded us vs ts → IsEnded (more t us) (more t vs) ts

end-blank : is_blank_text (line_feed ∷ []) ≡ true
unfolding chars
end-blank = refl

-- a text in place of another that shows as well
text-both : (s u : List ℕ) (ts : Simples) → is_blank_text s ≡ is_blank_text u
    → IsBoth (more (text s) ts) (more (text u) none) ts
text-both s u ts e =
    let b = first-both (text u) ts in
    record {
      marked = b.marked;
      right = b.right;
      targets = λ n. ap (λ b. targets_among every None (n + one_if (not b)) ts) e ∙ b.targets n;
      seen = ap (λ b. one_if (not b) + all_seen ts) e ∙ b.seen;
      coded = λ c. b.coded (ap (λ b. b && begins_coded ts) (sym e) ∙ c);
      leads = λ around beside.
          ap (λ b. leadings_among (record around { seen = around.seen + one_if (not b) }) beside ts) e
          ∙ b.leads around beside;
    }

end-both : (ts : Simples) → IsBoth (more (text (line_feed ∷ [])) ts) none ts
end-both ts = record {
  marked = λ h k. k;
  right = λ h k. k;
  targets = λ n. ap (λ b. targets_among every None (n + one_if (not b)) ts) end-blank;
  seen = ap (λ b. one_if (not b) + all_seen ts) end-blank;
  coded = λ c. (and_parts (is_blank_text (line_feed ∷ [])) (begins_coded ts) c).1;
  leads = λ around beside.
      ap (λ b. leadings_among (record around { seen = around.seen + one_if (not b) }) beside ts) end-blank;
}

node-both : (t : Simple) (us vs ts : Simples) → IsBoth us vs ts → IsBoth (more t us) (more t vs) ts
node-both t us vs ts b = record {
  marked = λ h k.
      let p = and_parts (is_marked t) (are_marked vs) h in
      and_from (is_marked t) (are_marked us) p.0 (b.marked p.1 k);
  right = λ h k.
      let p = and_parts (has_right_links t) (have_right_links vs) h in
      and_from (has_right_links t) (have_right_links us) p.0 (b.right p.1 k);
  targets = λ n.
      let here : List Target = targets_of n t in
      let first : List Target = targets_among every None (n + seen t) vs in
      ap (λ xs. here ++ xs) (b.targets (n + seen t))
      ∙ (sym (append_assoc here first (targets_among every None ((n + seen t) + all_seen vs) ts))
      ∙ ap (λ m. (here ++ first) ++ targets_among every None m ts) (sums n (seen t) (all_seen vs)));
  seen = ap (λ k. seen t + k) b.seen ∙ sym (sums (seen t) (all_seen vs) (all_seen ts));
  coded = λ c.
      let gone : Bool = nat_le (seen t + all_seen vs) 0 in
      either-of (is_coded t) (is_gap t && begins_coded us) c
      (λ e. or-left (begins_coded (more t vs)) (gone && begins_coded ts)
      (or-left (is_coded t) (is_gap t && begins_coded vs) e))
      (λ e.
      let p = and_parts (is_gap t) (begins_coded us) e in
      either-of (begins_coded vs) (nat_le (all_seen vs) 0 && begins_coded ts) (b.coded p.1)
      (λ e. or-left (begins_coded (more t vs)) (gone && begins_coded ts)
      (or-right (is_coded t) (is_gap t && begins_coded vs) (and_from (is_gap t) (begins_coded vs) p.0 e)))
      (λ e.
      let q = and_parts (nat_le (all_seen vs) 0) (begins_coded ts) e in
      or-right (begins_coded (more t vs)) (gone && begins_coded ts)
      (and_from gone (begins_coded ts) (both-none (seen t) (all_seen vs) (gap-none t p.0) q.0) q.1)));
  leads = λ around beside.
      let here : List Leading = leadings around (is_flat beside t) t in
      let first : List Leading = leadings_among (after around t) beside vs in
      ap (λ xs. here ++ xs) (b.leads (after around t) beside)
      ∙ (sym (append_assoc here first (leadings_among (past (after around t) vs) beside ts))
      ∙ ap (λ m. (here ++ first) ++ leadings_among (record around { seen = m }) beside ts)
      (sums around.seen (seen t) (all_seen vs)));
}
  where
    sums : (n j k : ℕ) → (n + j) + k ≡ n + (j + k)
    sums n j k = omega arith

    gap-none : (t : Simple) → is_gap t ≡ true → nat_le (seen t) 0 ≡ true
    gap-none (text s) h = rw h refl
    gap-none t h = false-true h

    both-none : (j k : ℕ) → nat_le j 0 ≡ true → nat_le k 0 ≡ true → nat_le (j + k) 0 ≡ true
    both-none j k g h = grind (arith, nat_tests, g, h)

ended-both : (us vs ts : Simples) → IsEnded us vs ts → IsBoth us vs ts
ended-both _ _ _ (at_end ts) = end-both ts
ended-both _ _ _ (at_text s ts e) = text-both (s ++ line_feed ∷ []) s ts e
ended-both _ _ _ (behind_node t us vs ts h) = node-both t us vs ts (ended-both us vs ts h)

pub sound-ended : (us vs ts : Simples) (ks ls : List Line) → IsEnded us vs ts → pending_all [] vs ≡ []
    → AreSound vs ks → AreSound ts ls → AreSound us (ks ++ ls)
sound-ended us vs ts ks ls e w h k = sound-both us vs ts ks ls (ended-both us vs ts e) w h k

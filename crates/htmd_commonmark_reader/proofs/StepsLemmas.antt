-- Steps of the scan of a text, one character or a run of them further.
use Rattle.std.proofs.Common.{◌≡◌, ◌∙◌, ℕ, zero, suc, ◌-◌, ◌<◌, Bool, true, false, List, [], ◌∷◌, ◌++◌}
use Rattle.std.proofs.Common.{length, drop, take, get_or, cond, refl, ap, sym, subst, append_assoc, arith}
use Rattle.std.proofs.Common.{Option, Some, None}
use Rattle.std.specs.Prelude.{reverse, ◌==◌, ◌&&◌, nat_le}
use Rattle.std.proofs.lemmas.List.{append-nil, length-append, reverse-append, take-append-drop}
use Rattle.std.proofs.lemmas.List.Prefix.{front_rest}
use Rattle.std.proofs.Math.Seq.{take-append_seam}
use Rattle.std.proofs.lemmas.Bool.Decides.{nat_tests}
use Rattle.htmd_lexical.proofs.Cases.{test}
use Rattle.htmd_lexical.proofs.LeadingRunsLemmas.{back_split}
use Rattle.htmd_lexical.specs.CharacterClasses.{first_is, leading_run, behind_run}
use Rattle.htmd_commonmark_reading.specs.Characters.{is_space_or_tab, past_blanks, escape, referenced}
use Rattle.htmd_commonmark_reading.specs.Markup.{no_inlines, letter}
use Rattle.htmd_commonmark_reading.specs.DelimiterRuns.{Token, finished}
use Rattle.htmd_commonmark_reading.specs.Brackets as spec
use Rattle.htmd_commonmark_reading.specs.Brackets.{References, Brackets, outermost, bracket, and_tokens, without_links}
use Rattle.htmd_commonmark_reading.specs.Brackets.{Kind, kind, step_of, scanned, before_end, Target}
use Rattle.htmd_commonmark_reading.specs.InlineTokens.{angle}
use Rattle.htmd_commonmark_reading.specs.BlockStarts.{is_same}
use Rattle.htmd_commonmark_reader.specs.Scans.{IsScan}
use Rattle.htmd_commonmark_reader.specs.Steps.{is_other_kind, is_other, IsEnd, EndIn, IsStep, GoesOn}
use Rattle.htmd_commonmark_reader.specs.declared.brackets.Scan.{Scan}
use Rattle.htmd_commonmark_reader.proofs.JoinedLemmas.{letter_tokens}
use Rattle.htmd_commonmark_reader.proofs.RestsLemmas.{then, rest_by_length}

-- ---- what is in front of a place

pub end_seam : (s e : List ℕ) → IsEnd s e → s ≡ before_end s e ++ e
end_seam s e h =
    let k = rest_by_length s e h in
    sym (take-append-drop (length s - length e) s) ∙ ap (λ l. before_end s e ++ l) (sym k.1)

before_of : (s p e : List ℕ) → s ≡ p ++ e → before_end s e ≡ p
before_of s p e h =
    let n : length s - length e ≡ length p = omega (arith, ap length h, length-append p e) in
    ap (λ k. take k s) n ∙ ap (take (length p)) h ∙ take-append_seam p e

before_more : (source here front next : List ℕ) → IsEnd source here → here ≡ front ++ next
    → before_end source next ≡ before_end source here ++ front
before_more source here front next h e =
    before_of source (before_end source here ++ front) next
    (end_seam source here h ∙ ap (λ l. before_end source here ++ l) e
    ∙ sym (append_assoc (before_end source here) front next))

-- ---- brackets whose texts end so

pub end_shorter : (s e : List ℕ) (b : Brackets) → IsEnd s e → EndIn s b → EndIn e b
end_shorter s e (outermost ts) h k = k
end_shorter s e (bracket i a t ts below) h k = (then t s e k.0 h, end_shorter s e below h k.1)

end_tokens : (e : List ℕ) (b : Brackets) (us : List Token) → EndIn e b → EndIn e (and_tokens b us)
end_tokens e (outermost ts) us h = h
end_tokens e (bracket i a t ts below) us h = h

end_links : (e : List ℕ) (b : Brackets) → EndIn e b → EndIn e (without_links b)
end_links e (outermost ts) h = h
end_links e (bracket true a t ts below) h = (h.0, end_links e below h.1)
end_links e (bracket false a t ts below) h = (h.0, end_links e below h.1)

tokens_end : (c n : ℕ) (s : List ℕ) (b : Brackets) (us : List Token) → EndIn (c ∷ s) b
    → EndIn (drop n s) (and_tokens b us)
tokens_end c n s b us h = end_tokens (drop n s) b us (end_shorter (c ∷ s) (drop n s) b (suc n, refl) h)

abbrev Ends : List ℕ → spec.Step → Type 0
Ends s st = EndIn (drop st.more s) st.brackets

-- a character that stays
stays : (c : ℕ) (s : List ℕ) (b : Brackets) (us : List Token) → EndIn (c ∷ s) b
    → EndIn s (and_tokens b us)
stays c s b us h = end_tokens s b us (end_shorter (c ∷ s) s b (1, refl) h)

choose : (s : List ℕ) (t : Bool) (x y : spec.Step) → Ends s x → Ends s y → Ends s (cond t x y)
choose s true x y h k = h
choose s false x y h k = k

opening_ends : (c n : ℕ) (s : List ℕ) (b : Brackets) (i : Bool) → EndIn (c ∷ s) b
    → Ends s (spec.opening_step b i s n)
opening_ends c n s b i h = ((0, refl), end_shorter (c ∷ s) (drop n s) b (suc n, refl) h)

code_ends : (c n : ℕ) (s : List ℕ) (b : Brackets) (o : Option (List ℕ)) → EndIn (c ∷ s) b
    → Ends s (spec.code_with b n o)
code_ends c n s b None h = tokens_end c n s b _ h
code_ends c n s b (Some t) h = tokens_end c _ s b _ h

run_ends : (c : ℕ) (s : List ℕ) (b : Brackets) (n : ℕ) (before after : List ℕ) → EndIn (c ∷ s) b
    → Ends s (spec.run_with b c n before after)
run_ends c s b n before after h =
    choose s ((c == 126) && nat_le 2 n) _ _ (tokens_end c n s b _ h) (tokens_end c n s b _ h)

linked_ends : (c : ℕ) (s : List ℕ) (i : Bool) (ts : List Token) (below : Brackets) (o : Option Target)
    → EndIn (c ∷ s) below → Ends s (spec.linked i ts below s o)
linked_ends c s i ts below None h = stays c s below _ h
linked_ends c s true ts below (Some t) h = tokens_end c _ s below _ h
linked_ends c s false ts below (Some t) h = tokens_end c _ s (without_links below) _ (end_links (c ∷ s) below h)

closing_ends : (refs : References) (c : ℕ) (s : List ℕ) (b : Brackets) → EndIn (c ∷ s) b
    → Ends s (spec.closing_step refs b s)
closing_ends refs c s (outermost ts) h = h
closing_ends refs c s (bracket i false t ts below) h = stays c s below _ h.1
closing_ends refs c s (bracket i true t ts below) h = linked_ends c s i ts below _ h.1

step_ends : (k : Kind) (refs : References) (b : Brackets) (before : List ℕ) (c : ℕ) (s : List ℕ)
    → EndIn (c ∷ s) b → Ends s (step_of k refs b before c s)
step_ends spec.blank refs b before c s h =
    choose s (first_is 10 (past_blanks s)) (spec.no_step b) (spec.letter_step b c)
    (end_shorter (c ∷ s) s b (1, refl) h) (stays c s b _ h)
step_ends spec.line_end refs b before c s h = tokens_end c (spec.blanks s) s b _ h
step_ends spec.slash refs b before c s h =
    choose s (first_is 10 s) _ _ (tokens_end c (suc (spec.blanks (drop 1 s))) s b _ h)
    (tokens_end c (escape s).following s b _ h)
step_ends spec.grave refs b before c s h = code_ends c _ s b _ h
step_ends spec.sign refs b before c s h =
    run_ends c s b (length (leading_run (is_same c) s)) before (behind_run (is_same c) s) h
step_ends spec.angle_bracket refs b before c s h = tokens_end c (angle s).following s b _ h
step_ends spec.and_sign refs b before c s h = tokens_end c (referenced c s).following s b _ h
step_ends spec.exclamation refs b before c s h =
    choose s (first_is 91 s) _ _ (opening_ends c 1 s b true h) (stays c s b _ h)
step_ends spec.opening refs b before c s h = opening_ends c 0 s b false h
step_ends spec.closing refs b before c s h = closing_ends refs c s b h
step_ends spec.other refs b before c s h = stays c s b _ h

-- ---- from one place to another

pub goes : (refs : References) (source here front next : List ℕ) (b c : Brackets) (scan : Scan)
    → here ≡ front ++ next → 0 < length front → IsEnd source here → IsScan c scan → EndIn next c
    → scanned refs here 0 (reverse (before_end source here)) b
    ≡ scanned refs next 0 (reverse front ++ reverse (before_end source here)) c
    → GoesOn refs source here b next scan
goes refs source here front next b c scan e l h k m n =
    let seam : reverse (before_end source next) ≡ reverse front ++ reverse (before_end source here) =
    ap reverse (before_more source here front next h e) ∙ reverse-append (before_end source here) front in
    record {
      brackets = c;
      stack = k;
      ends = m;
      rest = (length front, sym (front_rest here front next e));
      shorter = omega (arith, l, ap length e, length-append front next);
      same = n ∙ ap (λ t. scanned refs next 0 t c) (sym seam);
    }

scanned_skip : (refs : References) (n : ℕ) (s before : List ℕ) (b : Brackets)
    → scanned refs s n before b ≡ scanned refs (drop n s) 0 (reverse (take n s) ++ before) b
scanned_skip refs zero [] before b = refl
scanned_skip refs zero (c ∷ s) before b = refl
scanned_skip refs (suc n) [] before b = refl
scanned_skip refs (suc n) (c ∷ s) before b =
    scanned_skip refs n s (c ∷ before) b
    ∙ ap (λ t. scanned refs (drop n s) 0 t b)
    (sym (append_assoc (reverse (take n s)) (c ∷ []) before)
    ∙ ap (λ l. l ++ before) (sym (reverse-append (c ∷ []) (take n s))))

-- a step of the definition
pub one_goes : (refs : References) (source : List ℕ) (c : ℕ) (s next : List ℕ) (b : Brackets) (scan : Scan)
    → IsEnd source (c ∷ s) → EndIn (c ∷ s) b
    → IsStep (step_of (kind c) refs b (reverse (before_end source (c ∷ s))) c s) s next scan
    → GoesOn refs source (c ∷ s) b next scan
one_goes refs source c s next b scan h k st =
    let before = reverse (before_end source (c ∷ s)) in
    let step = step_of (kind c) refs b before c s in
    let front = c ∷ take step.more s in
    let whole : c ∷ s ≡ front ++ next =
    ap (λ l. c ∷ l) (sym (take-append-drop step.more s)) ∙ ap (λ l. front ++ l) (sym st.behind) in
    let skip : scanned refs (c ∷ s) 0 before b
    ≡ scanned refs (drop step.more s) 0 (reverse front ++ before) step.brackets =
    scanned_skip refs step.more s (c ∷ before) step.brackets
    ∙ ap (λ t. scanned refs (drop step.more s) 0 t step.brackets)
    (sym (append_assoc (reverse (take step.more s)) (c ∷ []) before)
    ∙ ap (λ l. l ++ before) (sym (reverse-append (c ∷ []) (take step.more s)))) in
    goes refs source (c ∷ s) front next b step.brackets scan whole (omega arith) h st.stack
    (subst (λ e. EndIn e step.brackets) (sym st.behind) (step_ends (kind c) refs b before c s k))
    (skip ∙ ap (λ t. scanned refs t 0 (reverse front ++ before) step.brackets) (sym st.behind))

-- ---- runs of characters

both_tokens : (b : Brackets) (ts us : List Token) → and_tokens (and_tokens b ts) us ≡ and_tokens b (ts ++ us)
both_tokens (outermost vs) ts us = ap outermost (append_assoc vs ts us)
both_tokens (bracket i a s vs below) ts us = ap (λ l. bracket i a s l below) (append_assoc vs ts us)

no_tokens : (b : Brackets) → and_tokens b [] ≡ b
no_tokens (outermost vs) = ap outermost (append-nil vs)
no_tokens (bracket i a s vs below) = ap (λ l. bracket i a s l below) (append-nil vs)

-- one letter in front of a run
letter_first : (refs : References) (c : ℕ) (run rest before : List ℕ) (b : Brackets)
    → scanned refs rest 0 (reverse run ++ (c ∷ before))
    (and_tokens (and_tokens b (finished (letter c no_inlines) ∷ [])) (letter_tokens run))
    ≡ scanned refs rest 0 (reverse (c ∷ run) ++ before) (and_tokens b (letter_tokens (c ∷ run)))
letter_first refs c run rest before b =
    ap (scanned refs rest 0 (reverse run ++ (c ∷ before)))
    (both_tokens b (finished (letter c no_inlines) ∷ []) (letter_tokens run))
    ∙ ap (λ t. scanned refs rest 0 t (and_tokens b (letter_tokens (c ∷ run))))
    (sym (append_assoc (reverse run) (c ∷ []) before)
    ∙ ap (λ l. l ++ before) (sym (reverse-append (c ∷ []) run)))

other_is : (k : Kind) → is_other_kind k ≡ true → k ≡ spec.other
other_is spec.blank e = absurd (cc)
other_is spec.line_end e = absurd (cc)
other_is spec.slash e = absurd (cc)
other_is spec.grave e = absurd (cc)
other_is spec.sign e = absurd (cc)
other_is spec.angle_bracket e = absurd (cc)
other_is spec.and_sign e = absurd (cc)
other_is spec.exclamation e = absurd (cc)
other_is spec.opening e = absurd (cc)
other_is spec.closing e = absurd (cc)
other_is spec.other e = refl

-- what a step gives
steps_to : (refs : References) (c : ℕ) (s before : List ℕ) (b : Brackets) (x : spec.Step)
    → step_of (kind c) refs b before c s ≡ x
    → scanned refs (c ∷ s) 0 before b ≡ scanned refs s x.more (c ∷ before) x.brackets
steps_to refs c s before b x e = ap (λ (y : spec.Step). scanned refs s y.more (c ∷ before) y.brackets) e

pub letters_scanned : (refs : References) (s before : List ℕ) (b : Brackets)
    → scanned refs s 0 before b
    ≡ scanned refs (behind_run is_other s) 0 (reverse (leading_run is_other s) ++ before)
    (and_tokens b (letter_tokens (leading_run is_other s)))
letters_scanned refs [] before b = sym (no_tokens b)
letters_scanned refs (c ∷ s) before b =
    test (is_other c)
    (λ e.
    let step = ap (λ k. step_of k refs b before c s) (other_is (kind c) e) in
    rw e
    (steps_to refs c s before b (spec.letter_step b c) step
    ∙ letters_scanned refs s (c ∷ before) (and_tokens b (finished (letter c no_inlines) ∷ []))
    ∙ letter_first refs c (leading_run is_other s) (behind_run is_other s) before b))
    (λ e. rw e (ap (scanned refs (c ∷ s) 0 before) (sym (no_tokens b))))

some_run : (p : ℕ → Bool) (s : List ℕ) → p (get_or s 0 0) ≡ true → 0 < length s
    → 0 < length (leading_run p s)
some_run p [] e l = absurd (omega arith)
some_run p (c ∷ s) e l = rw e (omega arith)

pub letters_go : (refs : References) (source here run next : List ℕ) (b : Brackets) (scan : Scan)
    → run ≡ leading_run is_other here → next ≡ behind_run is_other here → is_other (get_or here 0 0) ≡ true
    → 0 < length here → IsScan (and_tokens b (letter_tokens run)) scan → EndIn here b → IsEnd source here
    → GoesOn refs source here b next scan
letters_go refs source here run next b scan r n o l h k e =
    let whole : here ≡ run ++ next =
    back_split is_other here ∙ ap (λ x. x ++ behind_run is_other here) (sym r) ∙ ap (λ x. run ++ x) (sym n) in
    let before = reverse (before_end source here) in
    goes refs source here run next b (and_tokens b (letter_tokens run)) scan whole
    (subst (λ x. 0 < length x) (sym r) (some_run is_other here o l)) e h
    (end_tokens next b (letter_tokens run)
    (end_shorter here next b (length run, sym (front_rest here run next whole)) k))
    (letters_scanned refs here before b
    ∙ ap (λ x. scanned refs (behind_run is_other here) 0 (reverse x ++ before) (and_tokens b (letter_tokens x)))
    (sym r)
    ∙ ap (λ x. scanned refs x 0 (reverse run ++ before) (and_tokens b (letter_tokens run))) (sym n))

-- no run begins
none_run : (p : ℕ → Bool) (refs : References) (c : ℕ) (s before : List ℕ) (b : Brackets) → p c ≡ false
    → scanned refs (c ∷ s) 0 before b
    ≡ scanned refs (behind_run p (c ∷ s)) 0 (reverse (leading_run p (c ∷ s)) ++ before)
    (and_tokens b (letter_tokens (leading_run p (c ∷ s))))
none_run p refs c s before b e = rw e (ap (scanned refs (c ∷ s) 0 before) (sym (no_tokens b)))

none_gone : (p : ℕ → Bool) (refs : References) (c : ℕ) (s before : List ℕ) (b : Brackets) → p c ≡ false
    → scanned refs (c ∷ s) 0 before b
    ≡ scanned refs (behind_run p (c ∷ s)) 0 (reverse (leading_run p (c ∷ s)) ++ before) b
none_gone p refs c s before b e = rw e refl

pub blanks_scanned : (refs : References) (s before : List ℕ) (b : Brackets) → first_is 10 (past_blanks s) ≡ false
    → scanned refs s 0 before b
    ≡ scanned refs (past_blanks s) 0 (reverse (leading_run is_space_or_tab s) ++ before)
    (and_tokens b (letter_tokens (leading_run is_space_or_tab s)))
blanks_scanned refs [] before b f = sym (no_tokens b)
blanks_scanned refs (c ∷ s) before b f =
    test (is_space_or_tab c)
    (λ e.
    let g : first_is 10 (past_blanks s) ≡ false = rw e at f in
    let step : spec.blank_step b c s ≡ spec.letter_step b c = rw g refl in
    rw e
    (ap (λ (y : spec.Step). scanned refs s y.more (c ∷ before) y.brackets) step
    ∙ blanks_scanned refs s (c ∷ before) (and_tokens b (finished (letter c no_inlines) ∷ [])) g
    ∙ letter_first refs c (leading_run is_space_or_tab s) (past_blanks s) before b))
    (λ e. none_run is_space_or_tab refs c s before b e)

pub blanks_gone : (refs : References) (s before : List ℕ) (b : Brackets) → first_is 10 (past_blanks s) ≡ true
    → scanned refs s 0 before b
    ≡ scanned refs (past_blanks s) 0 (reverse (leading_run is_space_or_tab s) ++ before) b
blanks_gone refs [] before b f = refl
blanks_gone refs (c ∷ s) before b f =
    test (is_space_or_tab c)
    (λ e.
    let g : first_is 10 (past_blanks s) ≡ true = rw e at f in
    let step : spec.blank_step b c s ≡ spec.no_step b = rw g refl in
    rw e
    (ap (λ (y : spec.Step). scanned refs s y.more (c ∷ before) y.brackets) step
    ∙ blanks_gone refs s (c ∷ before) b g
    ∙ ap (λ t. scanned refs (past_blanks s) 0 t b)
    (sym (append_assoc (reverse (leading_run is_space_or_tab s)) (c ∷ []) before)
    ∙ ap (λ l. l ++ before) (sym (reverse-append (c ∷ []) (leading_run is_space_or_tab s))))))
    (λ e. none_gone is_space_or_tab refs c s before b e)

pub blanks_go : (refs : References) (source here run next : List ℕ) (b : Brackets) (scan : Scan)
    → run ≡ leading_run is_space_or_tab here → next ≡ past_blanks here
    → is_space_or_tab (get_or here 0 0) ≡ true
    → 0 < length here → first_is 10 next ≡ false → IsScan (and_tokens b (letter_tokens run)) scan
    → EndIn here b
    → IsEnd source here → GoesOn refs source here b next scan
blanks_go refs source here run next b scan r n o l f h k e =
    let whole : here ≡ run ++ next =
    back_split is_space_or_tab here ∙ ap (λ x. x ++ past_blanks here) (sym r) ∙ ap (λ x. run ++ x) (sym n) in
    let before = reverse (before_end source here) in
    goes refs source here run next b (and_tokens b (letter_tokens run)) scan whole
    (subst (λ x. 0 < length x) (sym r) (some_run is_space_or_tab here o l)) e h
    (end_tokens next b (letter_tokens run)
    (end_shorter here next b (length run, sym (front_rest here run next whole)) k))
    (blanks_scanned refs here before b (ap (first_is 10) (sym n) ∙ f)
    ∙ ap (λ x. scanned refs (past_blanks here) 0 (reverse x ++ before) (and_tokens b (letter_tokens x))) (sym r)
    ∙ ap (λ x. scanned refs x 0 (reverse run ++ before) (and_tokens b (letter_tokens run))) (sym n))

pub blanks_leave : (refs : References) (source here run next : List ℕ) (b : Brackets) (scan : Scan)
    → run ≡ leading_run is_space_or_tab here → next ≡ past_blanks here
    → is_space_or_tab (get_or here 0 0) ≡ true
    → 0 < length here → first_is 10 next ≡ true → IsScan b scan → EndIn here b
    → IsEnd source here → GoesOn refs source here b next scan
blanks_leave refs source here run next b scan r n o l f h k e =
    let whole : here ≡ run ++ next =
    back_split is_space_or_tab here ∙ ap (λ x. x ++ past_blanks here) (sym r) ∙ ap (λ x. run ++ x) (sym n) in
    let before = reverse (before_end source here) in
    goes refs source here run next b b scan whole
    (subst (λ x. 0 < length x) (sym r) (some_run is_space_or_tab here o l)) e h
    (end_shorter here next b (length run, sym (front_rest here run next whole)) k)
    (blanks_gone refs here before b (ap (first_is 10) (sym n) ∙ f)
    ∙ ap (λ x. scanned refs (past_blanks here) 0 (reverse x ++ before) b) (sym r)
    ∙ ap (λ x. scanned refs x 0 (reverse run ++ before) b) (sym n))

-- what begins something is ASCII
pub special_is_ascii : (c : ℕ) → is_other c ≡ false → c < 128
special_is_ascii c e = grind (arith, nat_tests)

pub at_first : (refs : References) (source here next : List ℕ) (b : Brackets) (scan : Scan) → 0 < length here
    → IsEnd source here → EndIn here b
    → IsStep
    (step_of (kind (get_or here 0 0)) refs b (reverse (before_end source here)) (get_or here 0 0) (drop 1 here))
    (drop 1 here) next scan
    → GoesOn refs source here b next scan
at_first refs source [] next b scan l h k st = absurd (omega arith)
at_first refs source (c ∷ s) next b scan l h k st = one_goes refs source c s next b scan h k st

-- by the sign that it is
pub at_sign : (refs : References) (source here next : List ℕ) (b : Brackets) (scan : Scan) (c : ℕ)
    → 0 < length here
    → get_or here 0 0 ≡ c → IsEnd source here → EndIn here b
    → IsStep (step_of (kind c) refs b (reverse (before_end source here)) c (drop 1 here)) (drop 1 here) next scan
    → GoesOn refs source here b next scan
at_sign refs source here next b scan c l z h k st =
    at_first refs source here next b scan l h k
    (subst (λ c. IsStep (step_of (kind c) refs b (reverse (before_end source here)) c (drop 1 here))
    (drop 1 here) next scan)
    (sym z) st)

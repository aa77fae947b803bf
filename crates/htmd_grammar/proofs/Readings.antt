-- Each step takes what it reads off the text, and what has been read stays a front, also in the midst of a text.
use Rattle.std.proofs.Common.{Bool, List, None, Ok, Option, Some, [], ap, append_assoc, arith, codes, cond, drop, false}
use Rattle.std.proofs.Common.{inl, inr, length, length-append, not, refl, subst, sym, true, ℕ, ◌&&◌, ◌++◌, ◌∙◌, ◌∷◌}
use Rattle.std.proofs.Common.{◌≡◌, ◌≢◌, ◌≤◌, ◌⊎◌}
use Rattle.std.proofs.iter.runs.Made.{run}
use Rattle.std.proofs.lemmas.List.{append-nil}
use Rattle.std.specs.List.{list_all}
use Rattle.std.specs.Prelude.{◌==◌}
use Rattle.std.proofs.lemmas.Bool.{not-true, and_parts}
use Rattle.htmd_lexical.specs.WhiteSpace.{is_ascii_white_space}
use Rattle.htmd_lexical.proofs.Cases.{test}
use Rattle.htmd_lexical.specs.CharacterClasses.{is_empty, lacks, onward, up_to}
use Rattle.htmd_grammar.specs.Fronts.{IsFront}
use Rattle.htmd_grammar.specs.Grammar.{ReadsForest, ReadsTree, reads}
use Rattle.htmd_grammar.specs.Nesting.{Context, holds_parts, parent_name}
use Rattle.htmd_grammar.specs.RawContent.{ends_text, holds_raw_text, text_of}
use Rattle.htmd_grammar.specs.References.{Names, Piece, behind, decode, piece_at, put, stands, wrong}
use Rattle.htmd_grammar.specs.Rules.{Rules}
use Rattle.htmd_grammar.specs.ReaderSteps.{OpenElement, Reaches, State, Step, between, body, character_step, ends_rows}
use Rattle.htmd_grammar.specs.ReaderSteps.{fault}
use Rattle.htmd_grammar.specs.ReaderSteps.{here, is_text_end, is_too_deep, markup_step, names_of, raw_text_step, step}
use Rattle.htmd_grammar.specs.ReaderSteps.{tbody_step, text_step, via, with_tree}
use Rattle.htmd_values.specs.ValueTrees.{text}
use Rattle.htmd_grammar.specs.declared.fault.FaultKind.TheVariants.{StrayText, TooDeep, Unclosed}
use Rattle.htmd_lexical.proofs.BooleanLemmas.{if_then}
use Rattle.htmd_grammar.proofs.Completeness.{IsNamed, at_piece, in_text, nothing_read, text_goes_on}
use Rattle.htmd_grammar.proofs.CutLemmas.{piece_cut}
use Rattle.htmd_grammar.proofs.FrontsLemmas.{grows, nodes_weaker}
use Rattle.htmd_grammar.proofs.FullPieces.{piece_full}
use Rattle.htmd_grammar.proofs.RawReadBack.{same_parts}
use Rattle.htmd_grammar.proofs.ReferencesLemmas.{drop_cut, piece_fits}
use Rattle.htmd_grammar.proofs.Soundness.{IsConf, Takes, added, cut_stops, flag, kept_text, no_flag, not_stops, shallow}
use Rattle.htmd_grammar.proofs.Soundness.{sound_any, sound_raw, sound_when_closed, strict_white}
use Rattle.htmd_grammar.proofs.TextLemmas.{Stops, stop_head}

-- bytes other than `<` end no text
pub clean_stops : (z : Bool) (n : List ℕ) (b : ℕ) (s : List ℕ) → (b == 60) ≡ false
    → ends_text z n (b ∷ s) ≡ false
clean_stops z n b s e = test (ends_text z n (b ∷ s))
    (λ t. absurd (let h = stop_head z n (b ∷ s) t in let k : b ≡ 60 = head h.1 in no k)) (λ t. t)
  where
    head : {t : List ℕ} → b ∷ s ≡ 60 ∷ t → b ≡ 60
    head q = cc

    no : b ≡ 60 → ⊥
    no k = let w = rw k at e in cc

clean_run : (z : Bool) (n w r : List ℕ) → lacks 60 w ≡ true → up_to (ends_text z n) (w ++ r) ≡ w
    ++ up_to (ends_text z n) r
clean_run z n [] r e = refl
clean_run z n (b ∷ w) r e = let p = and_parts (not (b == 60)) (lacks 60 w) e in
    rw (clean_stops z n b (w ++ r) (not-true (b == 60) p.0), clean_run z n w r p.1) refl

decode_skip : (names : Names) (w z : List ℕ) (n : ℕ) → length w ≡ n
    → decode names n (w ++ z) ≡ decode names 0 z
decode_skip names [] z n e = rw (sym e) refl
decode_skip names (b ∷ w) z n e = rw (sym e) (decode_skip names w z (length w) refl)

behind_twice : (u v : List ℕ) (o : Option (List ℕ)) → behind u (behind v o) ≡ behind (u ++ v) o
behind_twice u v None = refl
behind_twice u v (Some w) = ap (λ (y : List ℕ). Some y) (sym (append_assoc u v w))

pub behind_nothing : (o : Option (List ℕ)) → behind [] o ≡ o
behind_nothing None = refl
behind_nothing (Some w) = refl

white_both : (u v : List ℕ) → list_all is_ascii_white_space u ≡ true → list_all is_ascii_white_space v ≡ true
    → list_all is_ascii_white_space (u ++ v) ≡ true
white_both [] v e f = f
white_both (b ∷ u) v e f = let p = and_parts (is_ascii_white_space b) (list_all is_ascii_white_space u) e in
    rw (p.0, white_both u v p.1 f) refl

more_full : (u v : List ℕ) → v ≢ [] → u ++ v ≢ []
more_full [] v n e = n e
more_full (b ∷ u) v n e = cc

pub empty_is : (s : List ℕ) → is_empty s ≡ true → s ≡ []
empty_is [] e = refl
empty_is (b ∷ s) e = absurd (cc)

not_begun : (names : Names) (w run : List ℕ) → run ≢ [] → decode names 0 w ≡ Some run → w ≢ []
not_begun names [] run r d q = r (sym (nothing_read run d))
not_begun names (b ∷ w) run r d q = cc

module _ (rules : Rules) (outer : Context) where
  -- the text w is read but for its tree: what it denotes, and what it goes on with
  pub record Middle (fs : List OpenElement) (w run rest : List ℕ) : Type 0 where
    pub begun : run ≢ []
    pub within : length (names_of outer fs) ≤ rules.depth
    pub mode : holds_raw_text rules.scripting (parent_name (names_of outer fs)) ≡ false
    pub text_goes : up_to (ends_text rules.scripting (parent_name (names_of outer fs))) (w ++ rest) ≡ w
        ++ up_to (ends_text rules.scripting (parent_name (names_of outer fs))) rest
    -- wherever the rest is cut off
    pub denotes : (x z : List ℕ) → rest ≡ x ++ z
        → decode rules.names 0 (w ++ x) ≡ behind run (decode rules.names 0 x)
    pub white : holds_parts (parent_name (names_of outer fs)) ≡ true → list_all is_ascii_white_space run ≡ true

  -- what was read denotes the run
  pub so_far : (fs : List OpenElement) (w run rest : List ℕ) → Middle fs w run rest
      → decode rules.names 0 w ≡ Some run
  so_far fs w run rest h = ap (decode rules.names 0) (sym (append-nil w))
      ∙ (h.denotes [] rest refl ∙ ap (λ (y : List ℕ). Some y) (append-nil run))

  -- the state stands at a piece, or in the midst of a text
  abbrev pub IsAt : State → List ℕ → Type 0
  IsAt st s =
      (before w : List ℕ) × (s ≡ before ++ w) × IsConf rules outer st.stack before (w ++ st.rest)
      × (((w ≡ []) × (st.run ≡ [])) ⊎ Middle st.stack w st.run st.rest)

  abbrev pub Moves : List ℕ → List ℕ → State → Type 0
  Moves s rest st = (b : List ℕ) × (rest ≡ b ++ st.rest) × IsAt st (s ++ b)

  taken : (s rest : List ℕ) (st : State) → Takes rules outer s rest st → Moves s rest st
  taken s rest st t = (t.0, t.1, (s ++ t.0, [], sym (append-nil (s ++ t.0)), t.3, inl (refl, t.2)))

  abbrev Before : OpenElement → List OpenElement → List ℕ → List ℕ → List ℕ → Type 0
  Before f gs w run rest = ((w ≡ []) × (run ≡ [])) ⊎ Middle (f ∷ gs) w run rest

  -- what was read before this piece, and what it denotes
  abbrev Parts : List OpenElement → List ℕ → List ℕ → List ℕ → Type 0
  Parts fs w run rest =
      (length (names_of outer fs) ≤ rules.depth)
      × (up_to (ends_text rules.scripting (parent_name (names_of outer fs)))
      (w ++ rest) ≡ w ++ up_to (ends_text rules.scripting (parent_name (names_of outer fs))) rest)
      × ((x z : List ℕ) → rest ≡ x ++ z
      → decode rules.names 0 (w ++ x) ≡ behind run (decode rules.names 0 x))
      × (holds_parts (parent_name (names_of outer fs)) ≡ true → list_all is_ascii_white_space run ≡ true)

  parts : (f : OpenElement) (gs : List OpenElement) (w run rest : List ℕ)
      → is_too_deep rules outer (f ∷ gs) ≡ false
      → Before f gs w run rest → Parts (f ∷ gs) w run rest
  parts f gs w run rest d (inl h) =
      rw (h.0, h.1) (
        shallow rules outer (f ∷ gs) d,
        refl,
        (λ x z q. sym (behind_nothing (decode rules.names 0 x))),
        (λ _. refl),
      )
  parts f gs w run rest d (inr h) = (h.within, h.text_goes, h.denotes, h.white)

  -- one more piece
  grown : (f : OpenElement) (gs : List OpenElement) (w run : List ℕ) (b : ℕ) (s v : List ℕ) (m : ℕ)
      → Parts (f ∷ gs) w run (b ∷ s) → holds_raw_text rules.scripting f.name ≡ false
      → ends_text rules.scripting f.name (b ∷ s) ≡ false
      → piece_at rules.names b s ≡ stands m v
      → (holds_parts f.name && not (list_all is_ascii_white_space v)) ≡ false
      → (y : List ℕ) × (b ∷ s ≡ y ++ drop m s) × Middle (f ∷ gs) (w ++ y) (run ++ v) (drop m s)
  grown f gs w run b s v m h r t q k =
      let k0 = piece_fits rules.names b s v m q in
      let c = piece_cut rules.names b s v m q in
      let o = same_parts c.0 k0.0 c.1 k0.1 (sym c.2 ∙ k0.2) (c.3 ∙ sym k0.3) in
      let e : drop m s ≡ k0.1 = ap (drop m) k0.2 ∙ (drop_cut k0.0 k0.1 [] m k0.3).0 in
      let g : up_to (ends_text rules.scripting f.name) s ≡ k0.0 ++ up_to (ends_text rules.scripting f.name) k0.1 =
      ap (up_to (ends_text rules.scripting f.name)) k0.2 ∙ clean_run rules.scripting f.name k0.0 k0.1 k0.4 in (
        b ∷ k0.0,
        ap (λ (z : List ℕ). b ∷ z) (k0.2 ∙ ap (λ (z : List ℕ). k0.0 ++ z) (sym e)),
        subst (λ (z : List ℕ). Middle (f ∷ gs) (w ++ (b ∷ k0.0)) (run ++ v) z) (sym e)
            (further k0.0 k0.1 k0.2 k0.3 g (λ x z j. ap (λ (y : List ℕ). piece_at rules.names b (y ++ x)) (sym o.0)
            ∙ c.4 x z (o.1 ∙ j))),
      )
    where
      here_run : up_to (ends_text rules.scripting f.name) (b ∷ s) ≡ b ∷ up_to (ends_text rules.scripting f.name) s
      here_run = rw t refl

      further : (f0 f1 : List ℕ) → s ≡ f0 ++ f1 → length f0 ≡ m
          → up_to (ends_text rules.scripting f.name) s ≡ f0
          ++ up_to (ends_text rules.scripting f.name) f1
          → ((x z : List ℕ) → f1 ≡ x ++ z → piece_at rules.names b (f0 ++ x) ≡ stands m v)
          → Middle (f ∷ gs) (w ++ (b ∷ f0)) (run ++ v) f1
      further f0 f1 e l g cut_off = record {
        begun = more_full run v (piece_full rules.names b s v m q);
        within = h.0;
        mode = r;
        text_goes =
            ap (up_to (ends_text rules.scripting f.name)) (append_assoc w (b ∷ f0) f1
            ∙ ap (λ (y : List ℕ). w ++ (b ∷ y)) (sym e))
            ∙ (h.1 ∙ (ap (λ (y : List ℕ). w ++ y) (here_run ∙ ap (λ (y : List ℕ). b ∷ y) g)
            ∙ sym (append_assoc w (b ∷ f0) (up_to (ends_text rules.scripting f.name) f1))));
        denotes = λ x z j.
            let first : decode rules.names 0 (b ∷ (f0 ++ x)) ≡ behind v (decode rules.names 0 x) =
            ap (λ (y : Piece). put y (λ n. decode rules.names n (f0 ++ x))) (cut_off x z j)
            ∙ ap (behind v) (decode_skip rules.names f0 x m l) in
            ap (decode rules.names 0) (append_assoc w (b ∷ f0) x)
            ∙ (h.2 (b ∷ (f0 ++ x)) z (ap (λ (y : List ℕ). b ∷ y)
            (e ∙ (ap (λ (y : List ℕ). f0 ++ y) j ∙ sym (append_assoc f0 x z))))
            ∙ (ap (behind run) first ∙ behind_twice run v (decode rules.names 0 x)));
        white = λ i. white_both run v (h.3 i) (strict_white rules outer f.name v k i);
      }

  -- a text that was read alone
  run_alone : (p w rest : List ℕ) → up_to (ends_text rules.scripting p) (w ++ rest) ≡ w
      ++ up_to (ends_text rules.scripting p) rest → up_to (ends_text rules.scripting p) w ≡ w
  run_alone p [] rest e = refl
  run_alone p (b ∷ w) rest e =
      elim (if_then (ends_text rules.scripting p (b ∷ (w ++ rest))) []
      (b ∷ up_to (ends_text rules.scripting p) (w ++ rest))
      (b ∷ (w ++ up_to (ends_text rules.scripting p) rest)) e) [
        | inl q ↦ absurd (let z = q.1 in cc)
        | inr q ↦
            let z : up_to (ends_text rules.scripting p) (w ++ rest) ≡ w ++ up_to (ends_text rules.scripting p) rest =
            let y = q.1 in cc in
            rw (cut_stops rules outer p b w rest q.0, run_alone p w rest z) refl
      ]

  -- it goes on there
  goes_on : (p w rest : List ℕ) → w ≢ [] → up_to (ends_text rules.scripting p) (w ++ rest) ≡ w
      ++ up_to (ends_text rules.scripting p) rest → ends_text rules.scripting p (w ++ rest) ≡ false
  goes_on p [] rest n q = absurd (n refl)
  goes_on p (b ∷ w) rest n q = test (ends_text rules.scripting p (b ∷ (w ++ rest))) (λ t. let z = rw t at q in
      absurd (cc)) (λ t. t)

  full_front : (w rest : List ℕ) → w ≢ [] → is_empty (w ++ rest) ≡ false
  full_front [] rest n = absurd (n refl)
  full_front (b ∷ w) rest n = refl

  text_is : (p w run : List ℕ) → holds_raw_text rules.scripting p ≡ false → decode rules.names 0 w ≡ Some run
      → text_of rules p w ≡ Some run
  text_is p w run r d = rw r d

  -- the text so far is a tree
  pub middle_tree : (f : OpenElement) (gs : List OpenElement) (l : Bool) (w run rest : List ℕ)
      → Middle (f ∷ gs) w run rest → ReadsTree rules (names_of outer (f ∷ gs)) l (text run) w
  middle_tree f gs l w run rest h = (
    h.begun,
    run_alone f.name w rest h.text_goes,
    text_is f.name w run h.mode (so_far (f ∷ gs) w run rest h),
    h.white,
    h.within,
  )

  pub middle_goes : (f : OpenElement) (gs : List OpenElement) (w run rest : List ℕ) → Middle (f ∷ gs) w run rest
      → (ends_text rules.scripting f.name (w ++ rest) ≡ false) × (is_empty (w ++ rest) ≡ false)
  middle_goes f gs w run rest h =
      let n = not_begun rules.names w run h.begun (so_far (f ∷ gs) w run rest h) in
      (goes_on f.name w rest n h.text_goes, full_front w rest n)

  -- even in the middle of a text, what has been read is a front, with the text so far as a tree
  pub middle_front : (f : OpenElement) (gs : List OpenElement) (l : Bool) (s w run rest : List ℕ)
      → (c : IsConf rules outer (f ∷ gs) s (w ++ rest)) → Middle (f ∷ gs) w run rest
      → IsFront rules outer l (with_tree (f ∷ gs) (text run)) (s ++ w)
  middle_front f gs l s w run rest c h =
      let g = middle_goes f gs w run rest h in
      grows rules outer f gs (text run) (flag rules outer (f ∷ gs) (w ++ rest)) l s w c.is_front
      (middle_tree f gs l w run rest h)
      (λ q. absurd (let z = no_flag rules outer f gs (w ++ rest) g.0 in cc))
      (λ q. absurd (not_stops rules outer f.name (w ++ rest) g.0 g.1 (c.texts q)))
      (kept_text rules outer f gs s w rest c (not_stops rules outer f.name (w ++ rest) g.0 g.1))

  -- a text ends
  flushed : (f : OpenElement) (gs : List OpenElement) (s w run rest : List ℕ)
      → IsConf rules outer (f ∷ gs) s (w ++ rest) → Middle (f ∷ gs) w run rest
      → Stops rules.scripting f.name rest
      → Takes rules outer s (w ++ rest) (at_piece (with_tree (f ∷ gs) (text run)) rest)
  flushed f gs s w run rest c h st =
      let g = middle_goes f gs w run rest h in
      added rules outer f gs (text run) s w rest c (middle_tree f gs (flag rules outer (f ∷ gs) rest) w run rest h)
      (λ q. absurd (let z = no_flag rules outer f gs (w ++ rest) g.0 in cc))
      (λ q. absurd (not_stops rules outer f.name (w ++ rest) g.0 g.1 q)) (λ _. st)
      (kept_text rules outer f gs s w rest c (not_stops rules outer f.name (w ++ rest) g.0 g.1))

  text_end : (f : OpenElement) (gs : List OpenElement) (s : List ℕ) → is_text_end rules outer (f ∷ gs) s ≡ true
      → Stops rules.scripting f.name s
  text_end f gs s e = test (ends_text rules.scripting f.name s) (λ q. inr q)
      (λ q. inl (empty_is s (let w = rw q at e in w)))

  same_state : {a b : State} → ◌≡◌ {A = Step} (Ok a) (Ok b) → a ≡ b
  same_state e = cc

  to_state : (s rest : List ℕ) (a b : State) → ◌≡◌ {A = Step} (Ok a) (Ok b) → Moves s rest a
      → Moves s rest b
  to_state s rest a b e m = subst (λ (x : State). Moves s rest x) (same_state e) m

  pub named_front : (f : OpenElement) (gs : List OpenElement) (l : Bool) (s : List ℕ)
      → IsFront rules outer l (f ∷ gs) s
      → IsNamed f
  named_front f [] l s h i = absurd (let q = h.0 in cc)
  named_front f (g ∷ gs) l s h i = elim (h.5).2 [ inl w ↦ absurd (let q = w.0 in cc) | inr w ↦ w.2 ]

  -- what follows the piece
  character_ok : (fs : List OpenElement) (run s : List ℕ) (o : Piece) (b : State)
      → character_step rules outer fs run s o ≡ Ok b
      → (m : ℕ) × (v : List ℕ) × (o ≡ stands m v)
      × ((holds_parts (parent_name (names_of outer fs)) && not (list_all is_ascii_white_space v)) ≡ false)
      × (is_too_deep rules outer fs ≡ false) × (in_text fs (run ++ v) (drop m s) ≡ b)
  character_ok fs run s (wrong k) b e = absurd (cc)
  character_ok fs run s (stands m v) b e =
      elim (if_then (holds_parts (parent_name (names_of outer fs)) && not (list_all is_ascii_white_space v))
      (fault StrayText) _ (Ok b) e) [
        | inl w ↦ absurd (let z = w.1 in cc)
        | inr w ↦ elim (if_then (is_too_deep rules outer fs) (fault TooDeep) (Ok (in_text fs (run ++ v) (drop m s)))
            (Ok b) w.1) [
              | inl u ↦ absurd (let z = u.1 in cc)
              | inr u ↦ (m, v, refl, w.0, u.0, same_state u.1)
            ]
      ]

  text_moves : (f : OpenElement) (gs : List OpenElement) (s before w run rest : List ℕ) (st : State)
      → s ≡ before ++ w
      → IsConf rules outer (f ∷ gs) before (w ++ rest) → Before f gs w run rest
      → holds_raw_text rules.scripting f.name ≡ false → ends_text rules.scripting f.name rest ≡ false
      → text_step rules outer (f ∷ gs) run rest ≡ Ok st → Moves s rest st
  text_moves f gs s before w run [] st q c h r t e = absurd (cc)
  text_moves f gs s before w run (b ∷ x) st q c h r t e =
      let o = character_ok (f ∷ gs) run x (piece_at rules.names b x) st e in
      let i = grown f gs w run b x o.1 o.0 (parts f gs w run (b ∷ x) o.4 h) r t o.2 o.3 in
      subst (λ (y : State). Moves s (b ∷ x) y) o.5 (
        i.0,
        i.1,
        (
          before,
          w ++ i.0,
          ap (λ (y : List ℕ). y ++ i.0) q ∙ append_assoc before w i.0,
          subst (λ (y : List ℕ). IsConf rules outer (f ∷ gs) before y) (ap (λ (y : List ℕ). w ++ y) i.1
              ∙ sym (append_assoc w i.0 (drop o.0 x))) c,
          inr i.2,
        ),
      )

  -- between two pieces nothing of a text has been read
  pub at_conf : (f : OpenElement) (gs : List OpenElement) (s before w run rest : List ℕ) → s ≡ before ++ w
      → IsConf rules outer (f ∷ gs) before (w ++ rest) → w ≡ [] → IsConf rules outer (f ∷ gs) s rest
  at_conf f gs s before w run rest q c e =
      let k : s ≡ before = q ∙ (ap (λ (y : List ℕ). before ++ y) e ∙ append-nil before) in
      subst (λ (y : List ℕ). IsConf rules outer (f ∷ gs) y rest) (sym k)
      (subst (λ (y : List ℕ). IsConf rules outer (f ∷ gs) before (y ++ rest)) e c)

  -- what a step does where no text ends
  abbrev pub other_step : OpenElement → List OpenElement → List ℕ → List ℕ → Step
  other_step f gs run rest =
      cond (f.implied && ends_rows rest) (tbody_step rules outer (f ∷ gs) rest)
      (cond (ends_text rules.scripting f.name rest) (markup_step rules outer (f ∷ gs) (drop 1 rest))
      (cond (is_empty rest) (fault Unclosed)
      (cond (holds_raw_text rules.scripting f.name)
      (raw_text_step rules outer (f ∷ gs) (text_of rules f.name (up_to (ends_text rules.scripting f.name) rest))
      (onward (ends_text rules.scripting f.name) rest))
      (text_step rules outer (f ∷ gs) run rest))))

  -- each step takes what it reads
  step_moves : (f : OpenElement) (gs : List OpenElement) (s before w run rest : List ℕ) (st : State)
      → s ≡ before ++ w
      → IsConf rules outer (f ∷ gs) before (w ++ rest) → Before f gs w run rest
      → step rules outer (in_text (f ∷ gs) run rest) ≡ Ok st → Moves s rest st
  unfolding step
  step_moves f gs s before w run rest st q c h e =
      elim (if_then (not (is_empty run) && is_text_end rules outer (f ∷ gs) rest)
      (between (with_tree (f ∷ gs) (text run)) rest) _ (Ok st) e) [
        | inl y ↦
            let p = and_parts (not (is_empty run)) (is_text_end rules outer (f ∷ gs) rest) y.0 in
            to_state s rest (at_piece (with_tree (f ∷ gs) (text run)) rest) st y.1
            (ended h (not-true (is_empty run) p.0) (text_end f gs rest p.1))
        | inr y ↦ others y.0 y.1
      ]
    where
      nm : IsNamed f
      nm = named_front f gs (flag rules outer (f ∷ gs) (w ++ rest)) before c.is_front

      ended : Before f gs w run rest → is_empty run ≡ false → Stops rules.scripting f.name rest
          → Moves s rest (at_piece (with_tree (f ∷ gs) (text run)) rest)
      ended (inl i) n t = absurd (let z = rw i.1 at n in cc)
      ended (inr i) n t =
          let k = flushed f gs before w run rest c i t in
          let z : w ≡ k.0 = (same_parts w k.0 rest rest k.1 (let a = ap length k.1 in let b = length-append w rest in
          let d = length-append k.0 rest in omega arith)).0 in (
            [],
            refl,
            (
              s,
              [],
              refl_nil,
              subst (λ (y : List ℕ). IsConf rules outer (with_tree (f ∷ gs) (text run)) y rest)
                  (ap (λ (y : List ℕ). before ++ y) (sym z) ∙ sym q) k.3,
              inl (refl, refl),
            ),
          )
        where
          refl_nil : s ++ [] ≡ s ++ []
          refl_nil = refl

      -- nothing of a text has been read where it doesn't go on
      nothing_yet : (not (is_empty run) && is_text_end rules outer (f ∷ gs) rest) ≡ false
          → is_text_end rules outer (f ∷ gs) rest ≡ true → run ≡ []
      nothing_yet n t = empty_is run (test (is_empty run) (λ i. i) (λ i. absurd (let z = rw (i, t) at n in cc)))

      at_a_piece : Before f gs w run rest → run ≡ [] → IsConf rules outer (f ∷ gs) s rest
      at_a_piece (inl i) r = at_conf f gs s before w run rest q c i.0
      at_a_piece (inr i) r = absurd (i.begun r)

      raw_here : Before f gs w run rest → holds_raw_text rules.scripting f.name ≡ true
          → IsConf rules outer (f ∷ gs) s rest
      raw_here (inl i) r = at_conf f gs s before w run rest q c i.0
      raw_here (inr i) r = absurd (let m = i.mode in cc)

      others : (not (is_empty run) && is_text_end rules outer (f ∷ gs) rest) ≡ false
          → other_step f gs run rest ≡ Ok st
          → Moves s rest st
      others n e = elim (if_then (f.implied && ends_rows rest) (tbody_step rules outer (f ∷ gs) rest) _ (Ok st) e) [
        | inl y ↦
            let p = and_parts f.implied (ends_rows rest) y.0 in
            let t : ends_text rules.scripting f.name rest ≡ true =
            test (ends_text rules.scripting f.name rest) (λ i. i)
            (λ i. absurd (let z = text_goes_on rules.scripting f rest nm i in let v = y.0 in cc)) in
            let r : run ≡ [] = nothing_yet n (rw t refl) in
            taken s rest st (sound_when_closed rules outer (f ∷ gs) s rest st (at_a_piece h r) p.0 p.1 y.1)
        | inr y ↦ elim (if_then (ends_text rules.scripting f.name rest)
            (markup_step rules outer (f ∷ gs) (drop 1 rest))
            _ (Ok st) y.1) [
              | inl v ↦ taken s rest st
                  (sound_any rules outer f gs s rest st (at_a_piece h (nothing_yet n (rw v.0 refl)))
                  v.0 v.1)
              | inr v ↦ elim (if_then (is_empty rest) (fault Unclosed) _ (Ok st) v.1) [
                | inl u ↦ absurd (let z = u.1 in cc)
                | inr u ↦ elim (if_then (holds_raw_text rules.scripting f.name)
                    (raw_text_step rules outer (f ∷ gs)
                    (text_of rules f.name (up_to (ends_text rules.scripting f.name) rest))
                    (onward (ends_text rules.scripting f.name) rest)) (text_step rules outer (f ∷ gs) run rest)
                    (Ok st) u.1) [
                      | inl x ↦ taken s rest st (sound_raw rules outer f gs s rest st (raw_here h x.0) x.0 v.0 u.0
                          (text_of rules f.name (up_to (ends_text rules.scripting f.name) rest)) refl x.1)
                      | inr x ↦ text_moves f gs s before w run rest st q c h x.0 v.0 x.1
                    ]
              ]
            ]
      ]

  pub sound_step : (st next : State) (s : List ℕ) → IsAt st s → step rules outer st ≡ Ok next
      → Moves s st.rest next
  sound_step st next s h e = go st.stack st.run st.rest h e
    where
      go : (fs : List OpenElement) (run rest : List ℕ) → IsAt (in_text fs run rest) s
          → step rules outer (in_text fs run rest) ≡ Ok next → Moves s rest next
      go [] run rest h e = absurd ((h.3).is_front)
      go (f ∷ gs) run rest h e = step_moves f gs s h.0 h.1 run rest next h.2 h.3 h.4 e

  -- what has been read at each state that is reached
  pub kept : (a b : State) (s : List ℕ) → Reaches rules outer a b → IsAt a s
      → (t : List ℕ) × (a.rest ≡ t ++ b.rest)
      × IsAt b (s ++ t)
  kept a b s here c = ([], refl, subst (λ (y : List ℕ). IsAt a y) (sym (append-nil s)) c)
  kept a b s (via {b = m} p q) c =
      let u = sound_step a m s c p in
      let v = kept m b (s ++ u.0) q u.2 in (
        u.0 ++ v.0,
        u.1 ∙ (ap (λ (y : List ℕ). u.0 ++ y) v.1 ∙ sym (append_assoc u.0 v.0 (b.rest))),
        subst (λ (y : List ℕ). IsAt b y) (append_assoc s u.0 v.0) v.2,
      )

  pub conf_start : (s : List ℕ) → IsAt (at_piece (body ∷ []) s) []
  conf_start s = (
    [],
    [],
    refl,
    record {
      is_front = (refl, refl, refl, refl);
      rows = λ q. absurd (cc);
      texts = λ q. absurd (cc);
      first = λ _. refl;
    },
    inl (refl, refl),
  )

  -- what is read is related
  pub sound : (s : List ℕ) (f : OpenElement)
      → Reaches rules outer (at_piece (body ∷ []) s) (at_piece (f ∷ []) [])
      → reads rules (codes "body" ∷ outer) s f.children
  sound s f r =
      let k = kept (at_piece (body ∷ []) s) (at_piece (f ∷ []) []) [] r (conf_start s) in
      let e : s ≡ k.0 = k.1 ∙ append-nil k.0 in
      subst (λ (y : List ℕ). reads rules (codes "body" ∷ outer) y f.children) (sym e)
      (end (k.2).0 (k.2).1 (k.2).2 (k.2).3 (k.2).4)
    where
      end : {t : List ℕ} (before w : List ℕ) → t ≡ before ++ w
          → IsConf rules outer (f ∷ []) before (w ++ [])
          → ((w ≡ []) × (◌≡◌ {A = List ℕ} [] [])) ⊎ Middle (f ∷ []) w [] []
          → reads rules (codes "body" ∷ outer) t f.children
      end before w q c (inl i) =
          let h = c.is_front in
          let n = nodes_weaker rules outer (f.name ∷ outer) _ true f.children before (λ _. refl) h.1 in
          let z : before ++ w ≡ before = ap (λ (y : List ℕ). before ++ y) i.0 ∙ append-nil before in
          subst (λ (y : List ℕ). reads rules (codes "body" ∷ outer) y f.children) (sym (q ∙ z))
          (subst (λ (m : List ℕ). ReadsForest rules (m ∷ outer) true f.children before) h.2 n)
      end before w q c (inr i) = absurd (i.begun refl)

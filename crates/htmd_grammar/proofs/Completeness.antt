-- What the grammar relates, the steps read.
use Rattle.std.proofs.Common.{Bool, List, Ok, Option, Some, [], ap, append_assoc, arith, codes, drop, false, inl, inr}
use Rattle.std.proofs.Common.{length, map, not, refl, rules, subst, suc, sym, true, zero, ℕ, ◌&&◌, ◌++◌, ◌∙◌, ◌∷◌, ◌≡◌}
use Rattle.std.proofs.Common.{◌≢◌, ◌≤◌, ◌⊎◌}
use Rattle.std.proofs.iter.runs.Made.{run}
use Rattle.std.proofs.lemmas.Bool.Decides.{nat_tests}
use Rattle.std.proofs.lemmas.List.{append-nil}
use Rattle.std.specs.Char.{is_ascii_alphabetic, to_ascii_lowercase}
use Rattle.std.specs.List.{list_all, list_any}
use Rattle.std.specs.Prelude.{if◌then◌else◌}
use Rattle.std.specs.Str.{bytes_eq}
use Rattle.std.proofs.Math.Bool.{or-true, or-false}
use Rattle.std.proofs.lemmas.Bool.{and_parts}
use Rattle.htmd_lexical.specs.WhiteSpace.{is_ascii_white_space}
use Rattle.htmd_lexical.proofs.Cases.{test}
use Rattle.htmd_lexical.specs.CharacterClasses.{are_distinct, behind_run, is_among, is_empty, is_tag_name}
use Rattle.htmd_lexical.specs.CharacterClasses.{is_tag_name_byte, leading_run, up_to}
use Rattle.htmd_grammar.specs.Comments.{before_comment_end, is_comment_text}
use Rattle.htmd_lexical.specs.LineEnds.{normalized}
use Rattle.htmd_grammar.specs.HtmlDocuments.{above_body, below_body, body_text}
use Rattle.htmd_grammar.specs.Faults.{top_children}
use Rattle.htmd_grammar.specs.Grammar.{ReadsForest, ReadsTree, begins_with_row, may_end_rows, reads}
use Rattle.htmd_grammar.specs.Nesting.{Context, holds_parts, is_allowed, is_outside, is_table, is_table_part, is_tbody}
use Rattle.htmd_grammar.specs.Nesting.{parent_name}
use Rattle.htmd_grammar.specs.RawContent.{content_of, drops_line_feed, ends_text, holds_raw_text, holds_text_alone}
use Rattle.htmd_grammar.specs.RawContent.{raw_text_of, text_of}
use Rattle.htmd_grammar.specs.References.{Names, Piece, after_line_feed, decode, less_line_feed, piece_at, stands}
use Rattle.htmd_grammar.specs.References.{wrong}
use Rattle.htmd_grammar.specs.Rules.{Rules}
use Rattle.htmd_values.specs.Serialisation.{is_void}
use Rattle.htmd_grammar.specs.ReaderSteps.{OpenElement, Reaches, State, Step, between, body, close_step, closed}
use Rattle.htmd_grammar.specs.ReaderSteps.{ends_rows}
use Rattle.htmd_grammar.specs.ReaderSteps.{finished, form_step, fresh, has_unknown_reference, here, is_implied}
use Rattle.htmd_grammar.specs.ReaderSteps.{is_text_end}
use Rattle.htmd_grammar.specs.ReaderSteps.{is_too_deep, names_of, place_step, started, step, via, with_children}
use Rattle.htmd_grammar.specs.ReaderSteps.{with_forest}
use Rattle.htmd_grammar.specs.ReaderSteps.{with_tree, ◌+++◌}
use Rattle.htmd_lexical.specs.TagReading.{form_within}
use Rattle.htmd_grammar.specs.Tags.{IsEndTag, IsStartTag, IsTagRest, decode_values}
use Rattle.htmd_lexical.specs.Attributes.{attribute_names}
use Rattle.htmd_lexical.specs.AttributePairs.{AttributePair}
use Rattle.htmd_values.specs.ValueTrees.{ValueForest, ValueTree, comment, doctype, document, element}
use Rattle.htmd_values.specs.ValueTrees.{more, none, text}
use Rattle.htmd_lexical.proofs.BooleanLemmas.{and_false}
use Rattle.htmd_grammar.proofs.CommentsLemmas.{before_close-append}
use Rattle.htmd_grammar.proofs.NestingLemmas.{allowed_parts, no_text_alone, one_name, part_place, row_place}
use Rattle.htmd_lexical.proofs.BytesLemmas.{bytes_same}
use Rattle.htmd_grammar.proofs.NestingLemmas.{tbody_no_text_alone, tbody_not_table, tbody_place}
use Rattle.htmd_grammar.proofs.ReferencesLemmas.{Fits, IsBound, drop_over, known, less_bounds, piece_bound}
use Rattle.htmd_grammar.proofs.ReferencesLemmas.{piece_fits, piece_over, put_parts}
use Rattle.htmd_lexical.proofs.LeadingRunsLemmas.{filled}
use Rattle.htmd_grammar.proofs.TagReadingLemmas.{form_read, halts_name, rest_halts, white_back}
use Rattle.htmd_grammar.proofs.TagsLemmas.{values_parts}
use Rattle.htmd_grammar.proofs.TextLemmas.{Stops, end_stops, gap_no_name, letter_not, name_cut, rows_go_on, rows_stop}
use Rattle.htmd_grammar.proofs.TextLemmas.{run_head, run_not_stop, run_of-append, stop_head, stops-append, stops_not}
use Rattle.htmd_grammar.proofs.TreeTexts.{Inside, IsTextTree, row_start, rows_follow, stops_after}

pub append_none : (ts : ValueForest) → ts +++ none ≡ ts
append_none none = refl
append_none (more t ts) = ap (more t) (append_none ts)

pub append_nodes_assoc : (a b c : ValueForest) → (a +++ b) +++ c ≡ a +++ (b +++ c)
append_nodes_assoc none b c = refl
append_nodes_assoc (more t ts) b c = ap (more t) (append_nodes_assoc ts b c)

-- between two pieces
abbrev pub at_piece : List OpenElement → List ℕ → State
at_piece fs s = record { stack = fs; run = []; rest = s }

-- in the midst of a text
abbrev pub in_text : List OpenElement → List ℕ → List ℕ → State
in_text fs run s = record { stack = fs; run = run; rest = s }

-- only a `tbody` is implied
abbrev pub IsNamed : OpenElement → Type 0
IsNamed f = f.implied ≡ true → is_tbody f.name ≡ true

pub text_goes_on : (z : Bool) (f : OpenElement) (s : List ℕ) → IsNamed f → ends_text z f.name s ≡ false
    → (f.implied && ends_rows s) ≡ false
text_goes_on z f s h e = test (f.implied)
    (λ i. let w = rw (tbody_no_text_alone z f.name (h i)) at e in rows_go_on f.implied s w)
    (λ i. rw i refl)

slash_ok : (slash void : Bool) → (slash ≡ true → void ≡ true) → (slash && not void) ≡ false
slash_ok true void h = rw (h refl) refl
slash_ok false void h = refl

all_known : (names : Names) (spelled attributes : List AttributePair)
    → decode_values names spelled ≡ Some attributes
    → list_any (λ a. has_unknown_reference names a.value) spelled ≡ false
all_known names [] attributes e = refl
all_known names (a ∷ spelled) attributes e =
    let w = values_parts a.name (decode names 0 a.value) (decode_values names spelled) attributes e in
    rw (known names a.value w.0 w.2, all_known names spelled w.1 w.3) refl

pub white_parts : (v w : List ℕ) → list_all is_ascii_white_space (v ++ w) ≡ true
    → (list_all is_ascii_white_space v ≡ true) × (list_all is_ascii_white_space w ≡ true)
white_parts [] w e = (refl, e)
white_parts (b ∷ v) w e = let p = and_parts (is_ascii_white_space b) (list_all is_ascii_white_space (v ++ w)) e in
    let i = white_parts v w p.1 in (rw (p.0, i.0) refl, i.1)

pub piece_before : (names : Names) (z : Bool) (n : List ℕ) (b : ℕ) (s after : List ℕ) → Stops z n after
    → piece_at names b (s ++ after) ≡ piece_at names b s
piece_before names z n b s after (inl e) = ap (λ (y : List ℕ). piece_at names b y) (ap (λ (y : List ℕ). s ++ y) e
    ∙ append-nil s)
piece_before names z n b s after (inr e) = let h = stop_head z n after e in
    ap (λ (y : List ℕ). piece_at names b (s ++ y)) h.1 ∙ piece_over names b s h.0

drop_none : (n : ℕ) → ◌≡◌ {A = List ℕ} (drop n []) []
drop_none zero = refl
drop_none (suc n) = refl

pub nothing_read : (u : List ℕ) → ◌≡◌ {A = Option (List ℕ)} (Some []) (Some u)
    → ◌≡◌ {A = List ℕ} [] u
nothing_read u e = cc

-- the first piece of a text is the same before what is in no piece
pub content_bound : (c : ℕ) → IsBound c → (n : List ℕ) (b : ℕ) (s t : List ℕ)
    → content_of n (b ∷ (s ++ (c ∷ t))) ≡ content_of n (b ∷ s) ++ (c ∷ t)
content_bound c k n b s t = test (drops_line_feed n) (λ d. rw d after) (λ d. rw d refl)
  where
    less : (p : Piece) → ((m : ℕ) (v : List ℕ) → p ≡ stands m v → Fits m s)
        → less_line_feed p b (s ++ (c ∷ t)) ≡ less_line_feed p b s ++ (c ∷ t)
    less (wrong j) h = refl
    less (stands m v) h = test (bytes_eq v (10 ∷ [])) (λ q. rw q (drop_over m s (c ∷ t) (h m v refl)))
        (λ q. rw q refl)

    after : after_line_feed [] (b ∷ (s ++ (c ∷ t))) ≡ after_line_feed [] (b ∷ s) ++ (c ∷ t)
    after = ap (λ (p : Piece). less_line_feed p b (s ++ (c ∷ t))) (piece_bound c k [] b s t)
        ∙ less (piece_at [] b s) (λ m v e. piece_fits [] b s v m e)

-- and before `<`
pub content_over : (n s t : List ℕ) → content_of n (s ++ (60 ∷ t)) ≡ content_of n s ++ (60 ∷ t)
content_over n [] t = test (drops_line_feed n) (λ d. rw d refl) (λ d. rw d refl)
content_over n (b ∷ s) t = content_bound 60 less_bounds n b s t

module _ (rules : Rules) (outer : Context) where
  pub reaches_then : {a b c : State} → Reaches rules outer a b → Reaches rules outer b c → Reaches rules outer a c
  reaches_then here q = q
  reaches_then (via e p) q = via e (reaches_then p q)

  pub one_step : {a b : State} → step rules outer a ≡ Ok b → Reaches rules outer a b
  one_step e = via e here

  pub not_deep : (fs : List OpenElement) → length (names_of outer fs) ≤ rules.depth
      → is_too_deep rules outer fs ≡ false
  not_deep fs l = grind (arith, nat_tests)

  raw_full : (p u : List ℕ) → raw_text_of p [] ≡ Some u → u ≢ [] → ⊥
  raw_full p u d n = test (is_among (codes "script" ∷ []) p) (λ t. let w = rw t at d in n (sym (nothing_read u w)))
      (λ t. let w = rw t at d in n (sym (nothing_read u w)))

  pub decoded_full : (p s u : List ℕ) → text_of rules p s ≡ Some u → u ≢ [] → s ≢ []
  decoded_full p [] u d n e = test (holds_raw_text rules.scripting p) (λ t. raw_full p u (rw t at d) n)
      (λ t. let w = rw t at d in n (sym (nothing_read u w)))
  decoded_full p (b ∷ s) u d n e = cc

  white_test : (p u : List ℕ) → (holds_parts p ≡ true → list_all is_ascii_white_space u ≡ true)
      → (holds_parts p && not (list_all is_ascii_white_space u)) ≡ false
  white_test p u h = test (holds_parts p) (λ t. rw (t, h t) refl) (λ t. rw t refl)

  -- ---- texts

  moved_text : (fs : List OpenElement) (run u v r s after : List ℕ) → r ≡ s → u ≡ v
      → Reaches rules outer (in_text fs run s) (in_text fs u after)
      → Reaches rules outer (in_text fs run r) (in_text fs v after)
  moved_text fs run u v r s after p q l = rw (p, sym q) l

  -- one piece
  piece_is : (f : OpenElement) (gs : List OpenElement) (run s v : List ℕ) (b m : ℕ) → IsNamed f
      → holds_raw_text rules.scripting f.name ≡ false → ends_text rules.scripting f.name (b ∷ s) ≡ false
      → is_too_deep rules outer (f ∷ gs) ≡ false → piece_at rules.names b s ≡ stands m v
      → (holds_parts f.name && not (list_all is_ascii_white_space v)) ≡ false
      → step rules outer (in_text (f ∷ gs) run (b ∷ s)) ≡ Ok (in_text (f ∷ gs) (run ++ v) (drop m s))
  unfolding step
  piece_is f gs run s v b m nm r t d p w =
      rw (t, and_false (not (is_empty run)), text_goes_on rules.scripting f (b ∷ s) nm t, r, p, w, d) refl

  -- what follows leaves each piece of a text as it is
  abbrev pub Goes : List ℕ → List ℕ → Type 0
  Goes p after = (b : ℕ) (s v : List ℕ) (m : ℕ) → piece_at rules.names b s ≡ stands m v
      → (holds_parts p ≡ true → list_all is_ascii_white_space v ≡ true)
      → ends_text rules.scripting p (b ∷ s) ≡ false
      → (piece_at rules.names b (s ++ after) ≡ stands m v)
      × (ends_text rules.scripting p (b ∷ (s ++ after)) ≡ false)

  stops_go : (p after : List ℕ) → Stops rules.scripting p after → Goes p after
  stops_go p after st b s v m q w e = (
    piece_before rules.names rules.scripting p b s after st ∙ q,
    stops_not rules.scripting p b s after st e,
  )

  -- the pieces of a text, after this many bytes
  pub pieces_read : (f : OpenElement) (gs : List OpenElement) (x : List ℕ) (n : ℕ) (run after u : List ℕ)
      → IsNamed f
      → holds_raw_text rules.scripting f.name ≡ false → is_too_deep rules outer (f ∷ gs) ≡ false
      → Goes f.name after → up_to (ends_text rules.scripting f.name) x ≡ x
      → (holds_parts f.name ≡ true → list_all is_ascii_white_space u ≡ true)
      → decode rules.names n x ≡ Some u
      → Reaches rules outer (in_text (f ∷ gs) run (drop n x ++ after)) (in_text (f ∷ gs) (run ++ u) after)
  pieces_read f gs [] n run after u nm r d st k w e =
      moved_text (f ∷ gs) run run (run ++ u) (drop n [] ++ after) after after
      (ap (λ (y : List ℕ). y ++ after) (drop_none n)) (sym (append-nil run)
      ∙ ap (λ (y : List ℕ). run ++ y) (nothing_read u e)) here
  pieces_read f gs (b ∷ x) (suc n) run after u nm r d st k w e = pieces_read f gs x n run after u nm r d st
      (run_head (ends_text rules.scripting f.name) b x k).1 w e
  pieces_read f gs (b ∷ x) zero run after u nm r d st k w e =
      let h = run_head (ends_text rules.scripting f.name) b x k in
      let p = put_parts (piece_at rules.names b x) (λ n. decode rules.names n x) u e in
      let q = st b x p.1 p.0 p.3
      (λ t. (white_parts p.1 p.2 (ap (list_all is_ascii_white_space) (sym p.5) ∙ w t)).0) h.0 in
      let o = drop_over p.0 x after (piece_fits rules.names b x p.1 p.0 p.3) in
      via (piece_is f gs run (x ++ after) p.1 b p.0 nm r q.1 d q.0
      (first p.1 p.2 p.5))
      (moved_text (f ∷ gs) (run ++ p.1) ((run ++ p.1) ++ p.2) (run ++ u) (drop p.0 (x ++ after))
      (drop p.0 x ++ after) after o (append_assoc run p.1 p.2 ∙ ap (λ (y : List ℕ). run ++ y) (sym p.5))
      (pieces_read f gs x p.0 (run ++ p.1) after p.2 nm r d st h.1
      (λ t. (white_parts p.1 p.2 (ap (list_all is_ascii_white_space) (sym p.5) ∙ w t)).1) p.4))
    where
      first : (v y : List ℕ) → u ≡ v ++ y
          → (holds_parts f.name && not (list_all is_ascii_white_space v)) ≡ false
      first v y q = white_test f.name v (λ t. (white_parts v y (ap (list_all is_ascii_white_space) (sym q) ∙ w t)).0)

  -- a text ends
  flush_is : (f : OpenElement) (gs : List OpenElement) (u after : List ℕ) → Stops rules.scripting f.name after
      → u ≢ []
      → step rules outer (in_text (f ∷ gs) u after) ≡ Ok (at_piece (with_tree (f ∷ gs) (text u)) after)
  unfolding step
  flush_is f gs u after st n = rw (filled u n, ended st) refl
    where
      ended : Stops rules.scripting f.name after → is_text_end rules outer (f ∷ gs) after ≡ true
      ended (inl q) = rw q (or-true (ends_text rules.scripting f.name []))
      ended (inr q) = rw q refl

  -- text without references
  raw_is : (f : OpenElement) (gs : List OpenElement) (s after u : List ℕ) → IsNamed f → u ≢ []
      → holds_raw_text rules.scripting f.name ≡ true → up_to (ends_text rules.scripting f.name) s ≡ s
      → text_of rules f.name s ≡ Some u → is_too_deep rules outer (f ∷ gs) ≡ false
      → Stops rules.scripting f.name after
      → step rules outer (at_piece (f ∷ gs) (s ++ after)) ≡ Ok (at_piece (with_tree (f ∷ gs) (text u)) after)
  unfolding step
  raw_is f gs [] after u nm n r k d l h = absurd (decoded_full f.name [] u d n refl)
  raw_is f gs (b ∷ s) after u nm n r k d l h =
      let m = run_not_stop rules.scripting f.name (b ∷ s) after (decoded_full f.name (b ∷ s) u d n) k h in
      let g = text_goes_on rules.scripting f ((b ∷ s) ++ after) nm m in
      let q = run_of-append rules.scripting f.name (b ∷ s) after k h in
      rw (g, q.0, q.1, m, d, r, l) refl

  text_read : (f : OpenElement) (gs : List OpenElement) (s after u : List ℕ) → IsNamed f → u ≢ []
      → up_to (ends_text rules.scripting f.name) s ≡ s → text_of rules f.name s ≡ Some u
      → (holds_parts f.name ≡ true → list_all is_ascii_white_space u ≡ true)
      → length (names_of outer (f ∷ gs)) ≤ rules.depth → Stops rules.scripting f.name after
      → Reaches rules outer (at_piece (f ∷ gs) (s ++ after)) (at_piece (with_tree (f ∷ gs) (text u)) after)
  text_read f gs s after u nm n k d w l h = test (holds_raw_text rules.scripting f.name)
      (λ r. one_step (raw_is f gs s after u nm n r k d (not_deep (f ∷ gs) l) h))
      (λ r.
      let e : decode rules.names 0 s ≡ Some u = rw r at d in
      reaches_then (pieces_read f gs s 0 [] after u nm r (not_deep (f ∷ gs) l) (stops_go f.name after h) k w e)
      (one_step (flush_is f gs u after h n)))

  -- ---- comments

  pub comment_step_is : (f : OpenElement) (gs : List OpenElement) (tail body after : List ℕ)
      → before_comment_end tail ≡ Some (body, []) → is_comment_text body ≡ true
      → holds_text_alone rules.scripting f.name ≡ false → length (names_of outer (f ∷ gs)) ≤ rules.depth
      → step rules outer (at_piece (f ∷ gs) ((60 ∷ 33 ∷ 45 ∷ 45 ∷ tail) ++ after))
      ≡ Ok (at_piece (with_tree (f ∷ gs) (comment (normalized body))) after)
  unfolding step
  comment_step_is f gs tail body after e c t l =
      let q = before_close-append tail after body [] e in
      let k = not_deep (f ∷ gs) l in
      rw (and_false f.implied, t, q, c, k) refl

  -- ---- tags

  -- `<` and a name
  start_reads : (fs : List OpenElement) (b : ℕ) (s name r : List ℕ)
      → holds_text_alone rules.scripting (parent_name (names_of outer fs)) ≡ false
      → is_ascii_alphabetic b ≡ true
      → leading_run is_tag_name_byte (b ∷ s) ≡ name → behind_run is_tag_name_byte (b ∷ s) ≡ r
      → is_tag_name name ≡ true → (is_implied fs && is_table_part (map to_ascii_lowercase name)) ≡ false
      → step rules outer (at_piece fs (60 ∷ b ∷ s)) ≡ form_step rules outer fs (map to_ascii_lowercase name)
      (form_within (suc (length r)) r)
  unfolding step
  start_reads fs b s name r t l f k e i =
      let n = letter_not b l in
      rw (f, k, l, n.0, n.1, n.3, or-false (is_table_part (map to_ascii_lowercase name)), i, t, e) refl

  -- a start tag, if no implied `tbody` ends
  pub start_step_is : (fs : List OpenElement) (name r x : List ℕ) (spelled attributes : List AttributePair)
      (present : Bool) → holds_text_alone rules.scripting (parent_name (names_of outer fs)) ≡ false
      → is_tag_name name ≡ true → IsTagRest spelled present r
      → decode_values rules.names spelled ≡ Some attributes
      → are_distinct (attribute_names spelled) ≡ true
      → (present ≡ true → is_void (map to_ascii_lowercase name) ≡ true)
      → is_outside (map to_ascii_lowercase name)
      ≡ false → (is_implied fs && is_table_part (map to_ascii_lowercase name)) ≡ false
      → step rules outer (at_piece fs (60 ∷ (name ++ (r ++ x)))) ≡ place_step rules outer fs
      (map to_ascii_lowercase name) attributes x
  start_step_is fs [] r x spelled attributes present t e h d u v o i = absurd (cc)
  start_step_is fs (b ∷ name) r x spelled attributes present t e h d u v o i =
      let l = and_parts (is_ascii_alphabetic b) (list_all is_tag_name_byte name) e in
      let q = name_cut (b ∷ name) (r ++ x) e (halts_name (r ++ x) (rest_halts spelled present r x h).0) in
      start_reads fs b (name ++ (r ++ x)) (b ∷ name) (r ++ x) t l.0 q.0 q.1 e i
      ∙ (ap (form_step rules outer fs (map to_ascii_lowercase (b ∷ name))) (form_read spelled present r x h)
      ∙ rw (
        all_known rules.names spelled attributes d,
        d,
        u,
        slash_ok present (is_void (map to_ascii_lowercase (b ∷ name))) v,
        o,
      ) refl)

  pub end_step_is : (fs : List OpenElement) (name gap x : List ℕ) → is_tag_name name ≡ true
      → list_all is_ascii_white_space gap ≡ true → ends_text rules.scripting (parent_name (names_of outer fs))
      (60 ∷ 47 ∷ (name ++ (gap ++ (62 ∷ x)))) ≡ true
      → is_outside (map to_ascii_lowercase name) ≡ false
      → (is_implied fs && bytes_eq (map to_ascii_lowercase name) (codes "table")) ≡ false
      → step rules outer (at_piece fs (60 ∷ 47 ∷ (name ++ (gap ++ (62 ∷ x))))) ≡ close_step rules outer fs
      (map to_ascii_lowercase name) x
  unfolding step
  end_step_is fs name gap x e l t o i =
      let q = name_cut name (gap ++ (62 ∷ x)) e (gap_no_name gap x l) in
      let w = white_back gap (62 ∷ x) l refl in
      rw (q.0, i, t, q.1, e, w, o) refl

  pub settled_is : (f : OpenElement) (gs : List OpenElement) (s : List ℕ) → f.implied ≡ true
      → ends_rows s ≡ true
      → step rules outer (at_piece (f ∷ gs) s) ≡ Ok (at_piece (with_tree gs (closed f)) s)
  unfolding step
  settled_is f gs s i e = rw (i, e) refl

  -- where an implied `tbody` may end, the text does so
  abbrev pub RowsEnd : OpenElement → Bool → List ℕ → Type 0
  RowsEnd f last after = last ≡ true → is_table f.name ≡ true → ends_rows after ≡ true

  abbrev pub Leads : OpenElement → List OpenElement → List ℕ → List ℕ → ValueForest → Type 0
  Leads f gs s after ts = Reaches rules outer (at_piece (f ∷ gs) (s ++ after))
      (at_piece (with_forest (f ∷ gs) ts) (after))

  abbrev pub NodeRead : ValueTree → Type 0
  NodeRead t = (f : OpenElement) (gs : List OpenElement) (last : Bool) (s after : List ℕ)
      → ReadsTree rules (names_of outer (f ∷ gs)) last t s → IsNamed f
      → (IsTextTree t ≡ true → Stops rules.scripting f.name after) → RowsEnd f last after
      → Leads f gs s after (more t none)

  abbrev pub NodesRead : ValueForest → Type 0
  NodesRead ts = (f : OpenElement) (gs : List OpenElement) (last : Bool) (s after : List ℕ)
      → ReadsForest rules (names_of outer (f ∷ gs)) last ts s → IsNamed f
      → Stops rules.scripting f.name after → RowsEnd f last after → Leads f gs s after ts

  -- what a start tag does, by the name in the tree
  abbrev pub opened : OpenElement → List OpenElement → List ℕ → List AttributePair → List ℕ → Step
  opened f gs n attributes x = if is_void n then between (with_tree (f ∷ gs) (element n attributes none)) x
      else between (fresh n attributes false ∷ f ∷ gs) (content_of n x)

  start_opens : (f : OpenElement) (gs : List OpenElement) (name r x : List ℕ)
      (spelled attributes : List AttributePair)
      (present : Bool) → is_tag_name name ≡ true → IsTagRest spelled present r
      → decode_values rules.names spelled ≡ Some attributes → are_distinct (attribute_names spelled) ≡ true
      → (present ≡ true → is_void (map to_ascii_lowercase name) ≡ true) → IsNamed f
      → is_allowed rules.scripting (names_of outer (f ∷ gs)) (map to_ascii_lowercase name) ≡ true
      → length (names_of outer (f ∷ gs)) ≤ rules.depth
      → step rules outer (at_piece (f ∷ gs) (60 ∷ (name ++ (r ++ x))))
      ≡ opened f gs (map to_ascii_lowercase name)
      attributes x
  start_opens f gs name r x spelled attributes present e k d u v h a l =
      start_step_is (f ∷ gs) name r x spelled attributes present
      (no_text_alone rules.scripting f.name (names_of outer gs) (map to_ascii_lowercase name) a) e k d u v
      (allowed_parts rules.scripting (names_of outer (f ∷ gs)) (map to_ascii_lowercase name) a).0
      (part_place rules.scripting f.name (names_of outer gs) (map to_ascii_lowercase name) f.implied h a)
      ∙ rw (
        row_place rules.scripting f.name (names_of outer gs) (map to_ascii_lowercase name) a,
        a,
        not_deep (f ∷ gs) l,
      ) refl

  pub tag_opens : (f : OpenElement) (gs : List OpenElement) (n tag x : List ℕ) (attributes : List AttributePair)
      → IsStartTag rules.names tag n attributes → IsNamed f
      → is_allowed rules.scripting (names_of outer (f ∷ gs)) n ≡ true
      → length (names_of outer (f ∷ gs)) ≤ rules.depth
      → step rules outer (at_piece (f ∷ gs) (tag ++ x)) ≡ opened f gs n attributes x
  tag_opens f gs n tag x attributes t h a l =
      ap (λ (y : List ℕ). step rules outer (at_piece (f ∷ gs) y)) (ap (λ (y : List ℕ). y ++ x) (t.2).2
      ∙ ap (λ (y : List ℕ). 60 ∷ y) (append_assoc (t.2).0 (t.2).1 x))
      ∙ subst (λ (m : List ℕ). is_allowed rules.scripting (names_of outer (f ∷ gs)) m ≡ true
      → (t.1 ≡ true → is_void m ≡ true)
      → step rules outer (at_piece (f ∷ gs) (60 ∷ ((t.2).0 ++ ((t.2).1 ++ x))))
      ≡ opened f gs m attributes x)
      (t.2).4 (λ b k. start_opens f gs (t.2).0 (t.2).1 x t.0 attributes t.1 (t.2).3 (t.2).5 t.3 t.4 k h b l) a t.5

  -- an end tag closes the innermost element, of its name
  end_closes : (f g : OpenElement) (gs : List OpenElement) (tag n x : List ℕ) → IsEndTag tag n → f.name ≡ n
      → is_outside n ≡ false → (f.implied && bytes_eq n (codes "table")) ≡ false
      → step rules outer (at_piece (f ∷ g ∷ gs) (tag ++ x))
      ≡ Ok (at_piece (with_tree (g ∷ gs) (closed f)) (x))
  end_closes f g gs tag n x t q o i =
      let b : bytes_eq f.name (map to_ascii_lowercase t.0) ≡ true = ap (bytes_eq f.name) (t.5 ∙ sym q)
      ∙ bytes_same f.name in
      ap (λ (y : List ℕ). step rules outer (at_piece (f ∷ g ∷ gs) (y))) (spell_end t.0 t.1 tag x t.2)
      ∙ (end_step_is (f ∷ g ∷ gs) t.0 t.1 x t.3 t.4
      (end_stops rules.scripting f.name t.0 t.1 x (t.5 ∙ sym q) t.4)
      (ap is_outside t.5 ∙ o) (ap (λ (m : List ℕ). f.implied && bytes_eq m (codes "table")) t.5 ∙ i)
      ∙ rw b refl)
    where
      spell_end : (name gap tag x : List ℕ) → tag ≡ 60 ∷ 47 ∷ (name ++ (gap ++ 62 ∷ []))
          → tag ++ x ≡ 60 ∷ 47 ∷ (name ++ (gap ++ (62 ∷ x)))
      spell_end name gap tag x e = ap (λ (y : List ℕ). y ++ x) e
          ∙ ap (λ (y : List ℕ). 60 ∷ 47 ∷ y) (append_assoc name (gap ++ 62 ∷ []) x
          ∙ ap (λ (y : List ℕ). name ++ y) (append_assoc gap (62 ∷ []) x))

  -- an end tag ends texts, and the rows of a table
  pub end_tag_stops : (tag n x : List ℕ) → IsEndTag tag n → ends_text rules.scripting n (tag ++ x) ≡ true
  end_tag_stops tag n x t = stops-append rules.scripting n tag x (ap (ends_text rules.scripting n) t.2
      ∙ end_stops rules.scripting n t.0 t.1 [] t.5 t.4)

  rows_end : (tag n after : List ℕ) → IsEndTag tag n → is_table n ≡ true → ends_rows (tag ++ after) ≡ true
  rows_end tag n after t o =
      let e : tag ++ after ≡ 60 ∷ 47 ∷ (t.0 ++ (t.1 ++ (62 ∷ after))) = ap (λ (y : List ℕ). y ++ after) t.2
      ∙ ap (λ (y : List ℕ). 60 ∷ 47 ∷ y) (append_assoc t.0 (t.1 ++ 62 ∷ []) after
      ∙ ap (λ (y : List ℕ). t.0 ++ y) (append_assoc t.1 (62 ∷ []) after)) in
      let q = name_cut t.0 (t.1 ++ (62 ∷ after)) t.3 (gap_no_name t.1 after t.4) in
      ap ends_rows e ∙ ap (λ (y : List ℕ). bytes_eq y (codes "table")) (ap (map to_ascii_lowercase) q.0
      ∙ (t.5 ∙ one_name (codes "table") n o))

  pub along : (fs : List OpenElement) (s t : List ℕ) (b : State) → s ≡ t
      → Reaches rules outer (at_piece (fs) (t)) b
      → Reaches rules outer (at_piece (fs) (s)) b
  along fs s t b e r = rw e r

  abbrev pub opened_at : OpenElement → OpenElement → List OpenElement → List ℕ → Step
  opened_at g f gs y = between (g ∷ f ∷ gs) y

  -- what is dropped is the same before the end tag
  content_before : (n s tag after : List ℕ) → IsEndTag tag n
      → content_of n (s ++ (tag ++ after)) ≡ content_of n s
      ++ (tag ++ after)
  content_before n s tag after t = rw t.2 (content_over n s (47 ∷ ((t.0 ++ (t.1 ++ 62 ∷ [])) ++ after)))

  -- an element with its end tag
  explicit_read : (n : List ℕ) (attributes : List AttributePair) (ks : ValueForest) → NodesRead ks
      → (f : OpenElement) (gs : List OpenElement) (tag inner end after : List ℕ)
      → IsStartTag rules.names tag n attributes → IsEndTag end n → is_void n ≡ false
      → is_allowed rules.scripting (names_of outer (f ∷ gs)) n ≡ true
      → length (names_of outer (f ∷ gs)) ≤ rules.depth
      → IsNamed f
      → ReadsForest rules (n ∷ names_of outer (f ∷ gs)) true ks (content_of n inner)
      → Leads f gs (tag ++ (inner ++ end)) after (more (element n attributes ks) none)
  explicit_read n attributes ks ih f gs tag inner end after st en v a l h k =
      let g : OpenElement = fresh n attributes false in
      let behind : List ℕ = end ++ after in
      let over : content_of n (inner ++ behind) ≡ content_of n inner ++ behind =
      content_before n inner end after en in
      let entered : step rules outer (at_piece (f ∷ gs) (tag ++ (inner ++ behind)))
      ≡ Ok (at_piece (g ∷ f ∷ gs) (content_of n inner ++ behind)) =
      tag_opens f gs n tag (inner ++ behind) attributes st h a l
      ∙ rw v (ap (λ (y : List ℕ). opened_at g f gs y) over) in
      let inside : Leads g (f ∷ gs) (content_of n inner) behind ks =
      ih g (f ∷ gs) true (content_of n inner) behind k
      (λ q. absurd (cc)) (inr (end_tag_stops end n after en)) (λ _ t. rows_end end n after en t) in
      let left : step rules outer (at_piece (with_children g ks ∷ f ∷ gs) (behind))
      ≡ Ok (at_piece (with_tree (f ∷ gs) (element n attributes ks)) (after)) =
      end_closes (with_children g ks) f gs end n after en refl
      (allowed_parts rules.scripting (names_of outer (f ∷ gs)) n a).0 refl in
      along (f ∷ gs) _ _ _ (append_assoc tag (inner ++ end) after
      ∙ ap (λ (y : List ℕ). tag ++ y) (append_assoc inner end after))
      (via entered (reaches_then inside (one_step left)))

  void_read : (n : List ℕ) (attributes : List AttributePair) (f : OpenElement) (gs : List OpenElement)
      (tag after : List ℕ)
      → IsStartTag rules.names tag n attributes → is_void n ≡ true
      → is_allowed rules.scripting (names_of outer (f ∷ gs)) n ≡ true
      → length (names_of outer (f ∷ gs)) ≤ rules.depth
      → IsNamed f
      → Leads f gs (tag ++ []) after (more (element n attributes none) none)
  void_read n attributes f gs tag after st v a l h =
      along (f ∷ gs) _ (tag ++ after) _ (ap (λ (y : List ℕ). y ++ after) (append-nil tag))
      (one_step (tag_opens f gs n tag after attributes st h a l ∙ rw v refl))

  -- a row's tag in a table opens the `tbody` too
  row_opens : (f : OpenElement) (gs : List OpenElement) (tag x : List ℕ) (attributes : List AttributePair)
      → IsStartTag rules.names tag (codes "tr") attributes
      → f.name ≡ codes "table" → is_too_deep rules outer (f ∷ gs) ≡ false
      → step rules outer (at_piece (f ∷ gs) (tag ++ x)) ≡ step rules outer
      (at_piece (fresh (codes "tbody") [] true ∷ f ∷ gs) (tag ++ x))
  row_opens f gs tag x attributes t q k =
      let e : tag ++ x ≡ 60 ∷ ((t.2).0 ++ ((t.2).1 ++ x)) = ap (λ (y : List ℕ). y ++ x) (t.2).2
      ∙ ap (λ (y : List ℕ). 60 ∷ y) (append_assoc (t.2).0 (t.2).1 x) in
      let d : map to_ascii_lowercase (t.2).0 ≡ codes "tr" = (t.2).4 in
      let v : t.1 ≡ true → is_void (map to_ascii_lowercase (t.2).0) ≡ true = (λ i. ap is_void d ∙ t.5 i) in
      rw e (start_step_is (f ∷ gs) (t.2).0 (t.2).1 x t.0 attributes t.1 (rw (q, and_false rules.scripting) refl)
      (t.2).3
      (t.2).5 t.3 t.4 v (rw d refl) (rw d (and_false f.implied))
      ∙ (rw d (rw (q, k) refl) ∙ sym (start_step_is (fresh (codes "tbody") [] true ∷ f ∷ gs) (t.2).0
      (t.2).1 x t.0 attributes t.1 (and_false rules.scripting) (t.2).3 (t.2).5 t.3 t.4 v (rw d refl) (rw d refl))))

  pub row_opens_in : (f : OpenElement) (gs : List OpenElement) (n tag x : List ℕ) (attributes : List AttributePair)
      → n ≡ codes "tbody" → IsStartTag rules.names tag (codes "tr") attributes
      → f.name ≡ codes "table" → is_too_deep rules outer (f ∷ gs) ≡ false
      → step rules outer (at_piece (f ∷ gs) (tag ++ x)) ≡ step rules outer
      (at_piece (fresh n [] true ∷ f ∷ gs) (tag ++ x))
  row_opens_in f gs n tag x attributes q t e k = rw q (row_opens f gs tag x attributes t e k)

  -- what is reached by at least one step
  pub moved : (a a' b : State) → Reaches rules outer a b → (a ≡ b → ⊥)
      → step rules outer a' ≡ step rules outer a
      → Reaches rules outer a' b
  moved a a' b here n e = absurd (n refl)
  moved a a' b (via p q) n e = via (e ∙ p) q

  rows_stop_in : (n s : List ℕ) → holds_text_alone rules.scripting n ≡ false → ends_rows s ≡ true
      → Stops rules.scripting n s
  rows_stop_in n s t e = inr (rw t (rows_stop s e))

  implied_read : (n : List ℕ) (ks : ValueForest) → NodesRead ks
      → (f : OpenElement) (gs : List OpenElement) (last : Bool) (inner end after : List ℕ)
      → is_tbody n ≡ true → begins_with_row ks ≡ true
      → is_allowed rules.scripting (names_of outer (f ∷ gs)) n ≡ true
      → length (names_of outer (f ∷ gs)) ≤ rules.depth → IsNamed f
      → ReadsForest rules (n ∷ names_of outer (f ∷ gs)) true ks inner
      → IsEndTag end n ⊎ ((end ≡ []) × (last ≡ true))
      → RowsEnd f last after
      → Leads f gs (inner ++ end) after (more (element n [] ks) none)
  implied_read n ks ih f gs last inner end after t b a l h k ends re =
      along (f ∷ gs) _ (inner ++ (end ++ after)) _ (append_assoc inner end after)
      (reaches_then (begun (stops_there ends)) (closes ends))
    where
      g : OpenElement
      g = fresh n [] true

      behind : List ℕ
      behind = end ++ after

      table : is_table f.name ≡ true
      table = tbody_place rules.scripting f.name (names_of outer gs) n t a

      stops_there : IsEndTag end n ⊎ ((end ≡ []) × (last ≡ true)) → Stops rules.scripting n behind
      stops_there (inl w) = inr (end_tag_stops end n after w)
      stops_there (inr w) = rw w.0 (rows_stop_in n after (tbody_no_text_alone rules.scripting n t) (re w.1 table))

      -- the row's tag opens the `tbody` too
      tag : step rules outer (at_piece (f ∷ gs) (inner ++ behind)) ≡ step rules outer
          (at_piece (g ∷ f ∷ gs) (inner ++ behind))
      tag =
          let r = row_start rules ks (n ∷ names_of outer (f ∷ gs)) true inner k b in
          let e : inner ++ behind ≡ r.0 ++ (r.1 ++ behind) = ap (λ (y : List ℕ). y ++ behind) r.3
          ∙ append_assoc r.0 r.1 behind in
          rw e (row_opens_in f gs n r.0 (r.1 ++ behind) r.2 (one_name (codes "tbody") n t) r.4
          (one_name (codes "table") f.name table) (not_deep (f ∷ gs) l))

      begun : Stops rules.scripting n behind → Reaches rules outer (at_piece (f ∷ gs) (inner ++ behind))
          (at_piece (with_children g ks ∷ f ∷ gs) (behind))
      begun st = moved (at_piece (g ∷ f ∷ gs) (inner ++ behind)) (at_piece (f ∷ gs) (inner ++ behind)) _
          (ih g (f ∷ gs) true inner behind k (λ _. t) st (λ _ q. absurd (tbody_not_table n t q)))
          (λ q. let z : ks ≡ none = sym (ap (λ (st : State). top_children (st.stack)) q) in let y = rw z at b in
          absurd (cc)) tag

      closes : IsEndTag end n ⊎ ((end ≡ []) × (last ≡ true))
          → Reaches rules outer (at_piece (with_children g ks ∷ f ∷ gs) (behind))
          (at_piece (with_tree (f ∷ gs) (element n [] ks)) (after))
      closes (inl w) = one_step (end_closes (with_children g ks) f gs end n after w refl
          (rw (one_name (codes "tbody") n t) refl) (rw (one_name (codes "tbody") n t) refl))
      closes (inr w) = rw w.0 (one_step (settled_is (with_children g ks) (f ∷ gs) after refl (re w.1 table)))

  element_read : (n : List ℕ) (attributes : List AttributePair) (ks : ValueForest) → NodesRead ks
      → NodeRead (element n attributes ks)
  element_read n attributes ks ih f gs last s after h nm st re = go h.2
    where
      go : Inside rules (names_of outer (f ∷ gs)) last n attributes ks s
          → Leads f gs s after (more (element n attributes ks) none)
      go (inl w) = test (is_void n)
          (λ v. let m = rw v at w.5 in
          rw (w.3, m.0, m.1, m.2) (void_read n attributes f gs w.0 after w.4 v h.0 h.1 nm))
          (λ v. let m = rw v at w.5 in
          rw w.3 (explicit_read n attributes ks ih f gs w.0 w.1 w.2 after w.4 m.1 v h.0 h.1 nm m.0))
      go (inr w) = rw (w.2, w.4) (implied_read n ks ih f gs last w.0 w.1 after w.3 w.5 h.0 h.1 nm w.6 w.7 re)

  next_read : (t : ValueTree) (ts : ValueForest) → NodeRead t → NodesRead ts → NodesRead (more t ts)
  next_read t ts one_t all_ts f gs last s after h nm st re =
      along (f ∷ gs) _ (h.0 ++ (h.1 ++ after)) _
      (ap (λ (y : List ℕ). y ++ after) h.2 ∙ append_assoc h.0 h.1 after)
      (reaches_then
      (one_t f gs (may_end_rows last ts h.1) h.0 (h.1 ++ after) h.4 nm
      (stops_after rules f.name t ts (names_of outer gs) last h.1 after h.3 h.5 (λ _. st))
      (λ m q. rows_follow rules f.name ts (names_of outer gs) last h.1 after h.5 m st (λ l. re l q)))
      (rw (← append_nodes_assoc f.children (more t none) ts)
      (all_ts (with_children f (more t none)) gs last h.1 after h.5 nm st re)))

  mutual
    pub node_read : (t : ValueTree) → NodeRead t
    node_read (document ks) f gs last s after h nm st re = absurd h
    node_read doctype f gs last s after h nm st re = absurd h
    node_read (text u) f gs last s after h nm st re = text_read f gs s after u nm h.0 h.1 h.2 h.3 h.4 (st refl)
    node_read (comment u) f gs last s after h nm st re = let k = h.0 in
        rw (k.2, k.5) (one_step (comment_step_is f gs k.0 k.1 after k.3 k.4 h.1 h.2))
    node_read (element n attributes ks) f gs last s after h nm st re =
        element_read n attributes ks (nodes_read ks) f gs last s after h nm st re

    pub nodes_read : (ts : ValueForest) → NodesRead ts
    nodes_read none f gs last s after h nm st re = rw (h, append_none f.children) here
    nodes_read (more t ts) f gs last s after h nm st re =
        next_read t ts (node_read t) (nodes_read ts) f gs last s after h nm st re

-- what the grammar relates is read
pub complete : (rules : Rules) (s : List ℕ) (content : ValueForest) → reads rules below_body (body_text s) content
    → Reaches rules above_body (started s) (finished content)
complete rules s content h =
    subst (λ (y : List ℕ). Reaches rules above_body (at_piece (body ∷ []) y) (finished content))
    (append-nil (body_text s))
    (nodes_read rules above_body content body [] true (body_text s) [] h (λ q. absurd (cc)) (inl refl)
    (λ _ q. absurd (cc)))

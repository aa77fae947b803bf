-- The reader takes a tag apart as the grammar spells it.
use Rattle.std.proofs.Common.{Bool, List, [], ap, append_assoc, arith, false, inl, inr, length, length-append}
use Rattle.std.proofs.Common.{not, refl, suc, sym, true, zero, ℕ, ◌&&◌, ◌++◌, ◌<◌, ◌∙◌, ◌∷◌, ◌≡◌, ◌≢◌, ◌⊎◌}
use Rattle.std.proofs.lemmas.Bool.Decides.{nat_tests}
use Rattle.std.specs.List.{list_all}
use Rattle.std.specs.Prelude.{◌==◌}
use Rattle.std.proofs.lemmas.Bool.{not-true, and_parts}
use Rattle.htmd_lexical.specs.WhiteSpace.{is_ascii_white_space}
use Rattle.htmd_lexical.proofs.Cases.{test}
use Rattle.htmd_lexical.specs.CharacterClasses.{behind_run, first_is, is_attribute_name, is_attribute_name_byte}
use Rattle.htmd_lexical.specs.CharacterClasses.{is_empty, is_tag_name_byte, is_unquoted_byte, lacks}
use Rattle.htmd_grammar.specs.ReaderSteps.{body}
use Rattle.htmd_lexical.specs.TagReading.{attribute, behind_attribute_name, behind_gap, form, form_within, is_other}
use Rattle.htmd_lexical.specs.TagReading.{next_part, quoted_value, tag_end, value_part}
use Rattle.htmd_grammar.specs.Tags.{IsTagRest, IsValue, optional_slash}
use Rattle.htmd_lexical.specs.AttributePairs.{AttributePair}
use Rattle.htmd_lexical.proofs.LeadingRunsLemmas.{halts, front_cut, front_whole, halts_append, filled}

-- the reading is a function of the parts
lex_gap : (gap r : List ℕ) → list_all is_ascii_white_space gap ≡ true → halts is_ascii_white_space r ≡ true
    → next_part (gap ++ r) ≡ behind_gap (not (is_empty gap)) r
lex_gap gap r l h = let c = front_cut is_ascii_white_space gap r l h in rw (c.0, c.1) refl

key_bytes : (key : List ℕ) → is_attribute_name key ≡ true → list_all is_attribute_name_byte key ≡ true
key_bytes key e = let p = and_parts (not (is_empty key) && list_all is_attribute_name_byte key) _ e in
    (and_parts (not (is_empty key)) (list_all is_attribute_name_byte key) p.0).1

key_no_white : (b : ℕ) → is_attribute_name_byte b ≡ true → is_ascii_white_space b ≡ false
key_no_white b e = grind (arith, nat_tests)

key_not : (b : ℕ) → is_attribute_name_byte b ≡ true → ((b == 62) ≡ false) × ((b == 47) ≡ false)
    × ((b == 61) ≡ false)
key_not b e = (grind (arith, nat_tests), grind (arith, nat_tests), grind (arith, nat_tests))

white_no_key : (b : ℕ) → is_ascii_white_space b ≡ true → is_attribute_name_byte b ≡ false
white_no_key b e = grind (arith, nat_tests)

bare_no_white : (b : ℕ) → is_unquoted_byte b ≡ true
    → (is_ascii_white_space b ≡ false) × ((b == 34) ≡ false)
    × ((b == 39) ≡ false)
bare_no_white b e = (grind (arith, nat_tests), grind (arith, nat_tests), grind (arith, nat_tests))

-- what begins with white space halts a name
gap_halts : (gap r : List ℕ) → gap ≢ [] → list_all is_ascii_white_space gap ≡ true
    → (halts is_attribute_name_byte (gap ++ r) ≡ true)
gap_halts [] r n l = absurd (n refl)
gap_halts (b ∷ gap) r n l = let k = and_parts (is_ascii_white_space b) (list_all is_ascii_white_space gap) l in
    rw (white_no_key b k.0) refl

-- white space, then `=` at once
eq_halts : (one r : List ℕ) → list_all is_ascii_white_space one ≡ true
    → halts is_attribute_name_byte (one ++ (61 ∷ r))
    ≡ true
eq_halts [] r l = refl
eq_halts (b ∷ one) r l = let k = and_parts (is_ascii_white_space b) (list_all is_ascii_white_space one) l in
    rw (white_no_key b k.0) refl

pub white_back : (gap r : List ℕ) → list_all is_ascii_white_space gap ≡ true
    → halts is_ascii_white_space r ≡ true
    → behind_run is_ascii_white_space (gap ++ r) ≡ r
white_back gap r l h = (front_cut is_ascii_white_space gap r l h).1

key_halts : (key r : List ℕ) → is_attribute_name key ≡ true → (halts is_ascii_white_space (key ++ r) ≡ true)
    × (first_is 61 (key ++ r) ≡ false)
key_halts [] r e = absurd (cc)
key_halts (b ∷ key) r e =
    let k = and_parts (is_attribute_name_byte b) (list_all is_attribute_name_byte key) (key_bytes (b ∷ key) e) in
    (rw (key_no_white b k.0) refl, (key_not b k.0).2)

gap_and_rest : (gap r : List ℕ) → list_all is_ascii_white_space gap ≡ true
    → halts is_ascii_white_space r ≡ true
    → first_is 61 r ≡ false → (gap ≡ [] → halts is_attribute_name_byte r ≡ true)
    → (halts is_attribute_name_byte (gap ++ r) ≡ true) × (first_is 61 (behind_run is_ascii_white_space (gap ++ r))
    ≡ false)
gap_and_rest [] r l h q k = (k refl, ap (first_is 61) (white_back [] r l h) ∙ q)
gap_and_rest (b ∷ gap) r l h q k =
    (gap_halts (b ∷ gap) r (λ z. let w = z in cc) l, ap (first_is 61) (white_back (b ∷ gap) r l h) ∙ q)

spell_quoted : (q : ℕ) (one two body r x : List ℕ)
    → (((one ++ (61 ∷ two)) ++ (q ∷ (body ++ q ∷ []))) ++ r) ++ x ≡ one
    ++ (61 ∷ (two ++ (q ∷ (body ++ (q ∷ (r ++ x))))))
spell_quoted q one two body r x =
    append_assoc ((one ++ (61 ∷ two)) ++ (q ∷ (body ++ q ∷ []))) r x
    ∙ (append_assoc (one ++ (61 ∷ two)) (q ∷ (body ++ q ∷ [])) (r ++ x)
    ∙ (append_assoc one (61 ∷ two) ((q ∷ (body ++ q ∷ [])) ++ (r ++ x))
    ∙ ap (λ (y : List ℕ). one ++ (61 ∷ (two ++ (q ∷ y)))) (append_assoc body (q ∷ []) (r ++ x))))

spell_bare : (one two body r x : List ℕ) → (((one ++ (61 ∷ two)) ++ body) ++ r) ++ x ≡ one
    ++ (61 ∷ (two ++ (body ++ (r ++ x))))
spell_bare one two body r x =
    append_assoc ((one ++ (61 ∷ two)) ++ body) r x
    ∙ (append_assoc (one ++ (61 ∷ two)) body (r ++ x) ∙ append_assoc one (61 ∷ two) (body ++ (r ++ x)))

-- a value in quotes
quoted_lexes : (q : ℕ) (key body r : List ℕ) → lacks q body ≡ true
    → quoted_value q key (body ++ (q ∷ r)) ≡ attribute key body r
quoted_lexes q key body r l = let c = front_cut (is_other q) body (q ∷ r) l (self q) in rw (c.0, c.1) refl
  where
    self : (q : ℕ) → not (not (q == q)) ≡ true
    self q = grind (arith, nat_tests)

after_equals : (key one two r : List ℕ) → list_all is_ascii_white_space one ≡ true
    → list_all is_ascii_white_space two ≡ true → halts is_ascii_white_space r ≡ true
    → behind_attribute_name key (one ++ (61 ∷ (two ++ r))) ≡ value_part key r
after_equals key one two r l m h = let b = white_back one (61 ∷ (two ++ r)) l refl in let c = white_back two r m h in
    rw (b, c) refl

valued_quoted : (q : ℕ) (key body r : List ℕ) → (q ≡ 34) ⊎ (q ≡ 39) → lacks q body ≡ true
    → (halts is_ascii_white_space (q ∷ (body ++ (q ∷ r))) ≡ true)
    × (value_part key (q ∷ (body ++ (q ∷ r))) ≡ attribute key body r)
valued_quoted q key body r (inl e) l = let k = quoted_lexes q key body r l in
    let m : quoted_value 34 key (body ++ (34 ∷ r)) ≡ attribute key body r = rw e at k in rw e (refl, m)
valued_quoted q key body r (inr e) l = let k = quoted_lexes q key body r l in
    let m : quoted_value 39 key (body ++ (39 ∷ r)) ≡ attribute key body r = rw e at k in rw e (refl, m)

valued_bare : (key body r : List ℕ) → body ≢ [] → list_all is_unquoted_byte body ≡ true
    → halts is_unquoted_byte r ≡ true → (halts is_ascii_white_space (body ++ r) ≡ true)
    × (value_part key (body ++ r) ≡ attribute key body r)
valued_bare key [] r n l h = absurd (n refl)
valued_bare key (b ∷ body) r n l h =
    let k = and_parts (is_unquoted_byte b) (list_all is_unquoted_byte body) l in
    let w = bare_no_white b k.0 in
    let c = front_cut is_unquoted_byte (b ∷ body) r l h in
    (rw w.0 refl, rw (c.0, c.1, w.1, w.2) refl)

-- a tag goes on after its name
pub rest_full : (attributes : List AttributePair) (present : Bool) (s : List ℕ) → IsTagRest attributes present s
    → s ≢ []
rest_full [] present s h e = ended h.0 (optional_slash present) (sym h.1 ∙ e)
  where
    ended : (gap end : List ℕ) → gap ++ (end ++ 62 ∷ []) ≡ [] → ⊥
    ended [] [] e = cc
    ended [] (b ∷ end) e = cc
    ended (b ∷ gap) end e = cc
rest_full (a ∷ attributes) present s h e = begun h.0 (h.1 ++ (h.2 ++ h.3)) h.5 (sym h.4 ∙ e)
  where
    begun : (gap r : List ℕ) → gap ≢ [] → gap ++ r ≡ [] → ⊥
    begun [] r n e = n refl
    begun (b ∷ gap) r n e = cc

-- the tag goes on with no name and no `=`
pub rest_halts : (attributes : List AttributePair) (present : Bool) (s x : List ℕ) → IsTagRest attributes present s
    → (halts is_attribute_name_byte (s ++ x) ≡ true)
    × (first_is 61 (behind_run is_ascii_white_space (s ++ x)) ≡ false)
rest_halts [] false s x h =
    rw (h.1, append_assoc h.0 (62 ∷ []) x) (gap_and_rest h.0 (62 ∷ x) h.2 refl refl (λ q. refl))
rest_halts [] true s x h = rw (h.1, append_assoc h.0 (47 ∷ 62 ∷ []) x)
    (gap_and_rest h.0 (47 ∷ 62 ∷ x) h.2 refl refl (λ q. refl))
rest_halts (a ∷ attributes) present s x h =
    let k = key_halts h.1 ((h.2 ++ h.3) ++ x) h.7 in
    let e : s ++ x ≡ h.0 ++ (h.1 ++ ((h.2 ++ h.3) ++ x)) = ap (λ (y : List ℕ). y ++ x) h.4 ∙ simp append_assoc in
    rw e (gap_and_rest h.0 (h.1 ++ ((h.2 ++ h.3) ++ x)) h.6 k.0 k.1 (λ q. absurd (h.5 q)))

tag_ends : (present : Bool) (s x : List ℕ) → IsTagRest [] present s → next_part (s ++ x) ≡ tag_end present x
tag_ends false s x h = rw (h.1, append_assoc h.0 (62 ∷ []) x) (lex_gap h.0 (62 ∷ x) h.2 refl)
tag_ends true s x h = rw (h.1, append_assoc h.0 (47 ∷ 62 ∷ []) x) (lex_gap h.0 (47 ∷ 62 ∷ x) h.2 refl)

key_valued : (key value r x v : List ℕ) → IsValue value r v → r ≢ []
    → first_is 61 (behind_run is_ascii_white_space (r ++ x)) ≡ false
    → behind_attribute_name key ((value ++ r) ++ x) ≡ attribute key v (r ++ x)
key_valued key value r x v (inl h) n q = rw (h.0, q, h.1) refl
key_valued key value r x v (inr (inl h)) n q =
    let w = valued_quoted h.1 key v (r ++ x) h.4 h.5 in
    let e : (value ++ r) ++ x ≡ (h.3).0 ++ (61 ∷ ((h.3).1 ++ (h.1 ∷ (v ++ (h.1 ∷ (r ++ x)))))) =
    ap (λ (y : List ℕ). (y ++ r) ++ x) (h.2 ∙ ap (λ (y : List ℕ). y ++ (h.1 ∷ (v ++ h.1 ∷ []))) (h.3).2)
    ∙ spell_quoted h.1 (h.3).0 (h.3).1 v r x in
    ap (behind_attribute_name key) e
    ∙ (after_equals key (h.3).0 (h.3).1 (h.1 ∷ (v ++ (h.1 ∷ (r ++ x)))) (h.3).3 (h.3).4 w.0 ∙ w.1)
key_valued key value r x v (inr (inr h)) n q =
    let f = front_whole is_unquoted_byte v r h.4 in
    let w = valued_bare key v (r ++ x) h.3 f.0 (halts_append is_unquoted_byte r x n f.1) in
    let e : (value ++ r) ++ x ≡ (h.2).0 ++ (61 ∷ ((h.2).1 ++ (v ++ (r ++ x)))) =
    ap (λ (y : List ℕ). (y ++ r) ++ x) (h.1 ∙ ap (λ (y : List ℕ). y ++ v) (h.2).2)
    ∙ spell_bare (h.2).0 (h.2).1 v r x in
    ap (behind_attribute_name key) e ∙ (after_equals key (h.2).0 (h.2).1 (v ++ (r ++ x)) (h.2).3 (h.2).4 w.0 ∙ w.1)

value_halts : (value r x v : List ℕ) → IsValue value r v → halts is_attribute_name_byte (r ++ x) ≡ true
    → halts is_attribute_name_byte ((value ++ r) ++ x) ≡ true
value_halts value r x v (inl h) k = rw h.0 k
value_halts value r x v (inr (inl h)) k =
    let e = spell_quoted h.1 (h.3).0 (h.3).1 v r x in
    rw (h.2, (h.3).2, e) (eq_halts (h.3).0 ((h.3).1 ++ (h.1 ∷ (v ++ (h.1 ∷ (r ++ x))))) (h.3).3)
value_halts value r x v (inr (inr h)) k =
    let e = spell_bare (h.2).0 (h.2).1 v r x in
    rw (h.1, (h.2).2, e) (eq_halts (h.2).0 ((h.2).1 ++ (v ++ (r ++ x))) (h.2).3)

-- an attribute is read
key_lexes : (key y : List ℕ) → is_attribute_name key ≡ true → halts is_attribute_name_byte y ≡ true
    → behind_gap true (key ++ y) ≡ behind_attribute_name key y
key_lexes [] y e h = absurd (cc)
key_lexes (b ∷ key) y e h =
    let k = and_parts (is_attribute_name_byte b) (list_all is_attribute_name_byte key) (key_bytes (b ∷ key) e) in
    let n = key_not b k.0 in
    let c = front_cut is_attribute_name_byte (b ∷ key) y (key_bytes (b ∷ key) e) h in
    rw (c.0, c.1, e, n.0, n.1) refl

attr_lexes : (a : AttributePair) (attributes : List AttributePair) (present : Bool) (s x : List ℕ)
    (h : IsTagRest (a ∷ attributes) present s)
    → next_part (s ++ x) ≡ attribute h.1 a.value (h.3 ++ x)
attr_lexes a attributes present s x h =
    let y : List ℕ = (h.2 ++ h.3) ++ x in
    let r = rest_halts attributes present h.3 x h.10 in
    let k = key_halts h.1 y h.7 in
    let v = key_valued h.1 h.2 h.3 x a.value h.9 (rest_full attributes present h.3 h.10) r.1 in
    let g : not (is_empty h.0) ≡ true = ap not (filled h.0 h.5) in
    let e : s ++ x ≡ h.0 ++ (h.1 ++ y) = ap (λ (z : List ℕ). z ++ x) h.4
    ∙ (append_assoc h.0 (h.1 ++ (h.2 ++ h.3)) x
    ∙ ap (λ (z : List ℕ). h.0 ++ z) (append_assoc h.1 (h.2 ++ h.3) x))
    in
    ap next_part e ∙ (lex_gap h.0 (h.1 ++ y) h.6 k.0
    ∙ (ap (λ (z : Bool). behind_gap z (h.1 ++ y)) g ∙ (key_lexes h.1 y h.7 (value_halts h.2 h.3 x a.value h.9 r.0)
    ∙ v)))

-- the whole tag is read, with fuel enough
pub tag_lexes : (attributes : List AttributePair) (present : Bool) (k : ℕ) (s x : List ℕ)
    → IsTagRest attributes present s → length attributes < k
    → form_within k (s ++ x) ≡ form attributes present x
tag_lexes attributes present zero s x h l = absurd (omega arith)
tag_lexes [] present (suc k) s x h l = rw (tag_ends present s x h) refl
tag_lexes (a ∷ attributes) present (suc k) s x h l =
    let t = attr_lexes a attributes present s x h in
    let i = tag_lexes attributes present k h.3 x h.10 (omega arith) in
    rw (t, i, h.8) refl

-- each attribute takes bytes
pub rest_length : (attributes : List AttributePair) (present : Bool) (s : List ℕ) → IsTagRest attributes present s
    → length attributes < length s
rest_length [] present s h = positive s (rest_full [] present s h)
  where
    positive : (s : List ℕ) → s ≢ [] → 0 < length s
    positive [] n = absurd (n refl)
    positive (b ∷ s) n = omega arith
rest_length (a ∷ attributes) present s h =
    let i = rest_length attributes present h.3 h.10 in
    let g = gap_length h.0 h.5 in
    let e = simp length-append at (ap length h.4) in
    omega arith
  where
    gap_length : (s : List ℕ) → s ≢ [] → 0 < length s
    gap_length [] n = absurd (n refl)
    gap_length (b ∷ s) n = omega arith

-- a tag that is spelled is read, whatever follows it
pub form_read : (attributes : List AttributePair) (present : Bool) (s x : List ℕ) → IsTagRest attributes present s
    → form_within (suc (length (s ++ x))) (s ++ x) ≡ form attributes present x
form_read attributes present s x h =
    tag_lexes attributes present (suc (length (s ++ x))) s x h (let l = rest_length attributes present s h in
    let k = length-append s x in omega arith)

name_is_key : (b : ℕ) → is_attribute_name_byte b ≡ false → is_tag_name_byte b ≡ false
name_is_key b e = test (is_tag_name_byte b) (λ t. absurd (let k = yes b t in cc)) (λ t. t)
  where
    yes : (b : ℕ) → is_tag_name_byte b ≡ true → is_attribute_name_byte b ≡ true
    yes b t = grind (arith, nat_tests)

pub halts_name : (s : List ℕ) → halts is_attribute_name_byte s ≡ true → halts is_tag_name_byte s ≡ true
halts_name [] h = refl
halts_name (b ∷ s) h = ap not (name_is_key b (not-true (is_attribute_name_byte b) h))

-- ---- values in quotes

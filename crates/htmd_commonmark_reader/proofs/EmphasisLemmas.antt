-- What slots stand for: parts, and the stack of openers.
use Rattle.std.proofs.Common.{◌≡◌, ◌∙◌, ℕ, zero, suc, ◌-◌, ◌<◌, ◌≤◌, Bool, true, false, List, [], ◌∷◌, ◌++◌}
use Rattle.std.proofs.Common.{length, replicate, Some, None, refl, ap, sym, subst, append_assoc, arith}
use Rattle.std.specs.Prelude.{nat_lt, if◌then◌else◌, map}
use Rattle.std.proofs.lemmas.Bool.{ltb-true, ltb-false}
use Rattle.std.proofs.lemmas.List.{append-nil}
use Rattle.std.proofs.lemmas.Bool.Decides.{nat_tests}
use Rattle.std.proofs.lemmas.Str.{encode_ascii}
use Rattle.htmd_document.specs.Formats.{of_format}
use Rattle.htmd_document.specs.declared.document.Format as declared_format
use Rattle.htmd_commonmark_reading.specs.Markup as markup
use Rattle.htmd_commonmark_reading.specs.Markup.{Inlines, no_inlines, formatted, joined, signs}
use Rattle.htmd_commonmark_reading.specs.DelimiterRuns.{Run, Stack, base, opener, Match, with_items, unused_signs}
use Rattle.htmd_commonmark_reading.specs.DelimiterRuns.{is_closed_by, nearest, matched, less, format_of, unstacked}
use Rattle.htmd_parts.specs.Parts as parts
use Rattle.htmd_parts.specs.Parts.{Part, begun, ended, link_end, image_end, formatted_end, letter, code, raw}
use Rattle.htmd_parts.specs.Parts.{line_break, task, inlines_parts}
use Rattle.htmd_commonmark_reader.specs.Runs.{run_of}
use Rattle.htmd_commonmark_reader.specs.Openers.{AllUnfit, is_sign, kept}
use Rattle.htmd_commonmark_reader.specs.Slots.{slot_parts, slots_parts, format_slots, Denotes}
use Rattle.htmd_commonmark_reader.specs.declared.slots.Slot.{Slot}
use Rattle.htmd_commonmark_reader.specs.declared.slots.Slot.TheVariants.{Nothing, Sign, End}
use Rattle.htmd_commonmark_reader.specs.declared.emphasis.Delimiter.{Delimiter}

-- ---- parts

pub slots_append : (a b : List Slot) → slots_parts (a ++ b) ≡ slots_parts a ++ slots_parts b
slots_append [] b = refl
slots_append (s ∷ a) b =
    ap (λ l. slot_parts s ++ l) (slots_append a b)
    ∙ sym (append_assoc (slot_parts s) (slots_parts a) (slots_parts b))

parts_joined : (xs ys : Inlines) (rest : List Part)
    → inlines_parts (joined xs ys) rest ≡ inlines_parts xs (inlines_parts ys rest)
parts_joined markup.no_inlines ys rest = refl
parts_joined (markup.letter c xs) ys rest = ap (λ l. letter c ∷ l) (parts_joined xs ys rest)
parts_joined (markup.code s xs) ys rest = ap (λ l. code s ∷ l) (parts_joined xs ys rest)
parts_joined (markup.formatted f content xs) ys rest =
    ap (λ l. begun (parts.formatted f) ∷ inlines_parts content (ended (formatted_end f) ∷ l))
    (parts_joined xs ys rest)
parts_joined (markup.link a t content xs) ys rest =
    ap (λ l. begun (parts.link a t) ∷ inlines_parts content (ended link_end ∷ l)) (parts_joined xs ys rest)
parts_joined (markup.image a t content xs) ys rest =
    ap (λ l. begun (parts.image a) ∷ inlines_parts content (ended (image_end t) ∷ l)) (parts_joined xs ys rest)
parts_joined (markup.line_break xs) ys rest = ap (λ l. line_break ∷ l) (parts_joined xs ys rest)
parts_joined (markup.task d xs) ys rest = ap (λ l. task d ∷ l) (parts_joined xs ys rest)
parts_joined (markup.raw s xs) ys rest = ap (λ l. raw s ∷ l) (parts_joined xs ys rest)

nested : (b e : Part) (content xs : Inlines) (rest : List Part)
    → ((more : List Part) → inlines_parts content more ≡ inlines_parts content [] ++ more)
    → inlines_parts xs rest ≡ inlines_parts xs [] ++ rest
    → b ∷ inlines_parts content (e ∷ inlines_parts xs rest)
    ≡ (b ∷ inlines_parts content (e ∷ inlines_parts xs [])) ++ rest
nested b e content xs rest k h =
    ap (λ l. b ∷ l)
    (k (e ∷ inlines_parts xs rest) ∙ ap (λ l. inlines_parts content [] ++ (e ∷ l)) h
    ∙ sym (ap (λ l. l ++ rest) (k (e ∷ inlines_parts xs []))
    ∙ append_assoc (inlines_parts content []) (e ∷ inlines_parts xs []) rest))

pub parts_before : (xs : Inlines) (rest : List Part) → inlines_parts xs rest ≡ inlines_parts xs [] ++ rest
parts_before markup.no_inlines rest = refl
parts_before (markup.letter c xs) rest = ap (λ l. letter c ∷ l) (parts_before xs rest)
parts_before (markup.code s xs) rest = ap (λ l. code s ∷ l) (parts_before xs rest)
parts_before (markup.formatted f content xs) rest =
    nested (begun (parts.formatted f)) (ended (formatted_end f)) content xs rest (parts_before content)
    (parts_before xs rest)
parts_before (markup.link a t content xs) rest =
    nested (begun (parts.link a t)) (ended link_end) content xs rest (parts_before content) (parts_before xs rest)
parts_before (markup.image a t content xs) rest =
    nested (begun (parts.image a)) (ended (image_end t)) content xs rest (parts_before content) (parts_before xs rest)
parts_before (markup.line_break xs) rest = ap (λ l. line_break ∷ l) (parts_before xs rest)
parts_before (markup.task d xs) rest = ap (λ l. task d ∷ l) (parts_before xs rest)
parts_before (markup.raw s xs) rest = ap (λ l. raw s ∷ l) (parts_before xs rest)

pub items_append : (xs ys : Inlines) (a b : List Slot) → slots_parts a ≡ inlines_parts xs []
    → slots_parts b ≡ inlines_parts ys [] → slots_parts (a ++ b) ≡ inlines_parts (joined xs ys) []
items_append xs ys a b h e =
    slots_append a b ∙ ap (λ l. l ++ slots_parts b) h ∙ ap (λ l. inlines_parts xs [] ++ l) e
    ∙ sym (parts_before xs (inlines_parts ys [])) ∙ sym (parts_joined xs ys [])

sign_is_ascii : (c : ℕ) → is_sign c ≡ true → c < 128
sign_is_ascii c e = grind (arith, nat_tests)

pub signs_before : (c n : ℕ) (b : List Slot) (xs : Inlines) → is_sign c ≡ true
    → slots_parts b ≡ inlines_parts xs []
    → slots_parts (replicate n (Sign c) ++ b) ≡ inlines_parts (signs c n xs) []
signs_before c zero b xs h e = e
signs_before c (suc n) b xs h e =
    ap (λ l. map letter l ++ slots_parts (replicate n (Sign c) ++ b)) (encode_ascii c (sign_is_ascii c h))
    ∙ ap (λ l. letter c ∷ l) (signs_before c n b xs h e)

nothing_before : (n : ℕ) (b : List Slot) → slots_parts (replicate n Nothing ++ b) ≡ slots_parts b
nothing_before zero b = refl
nothing_before (suc n) b = nothing_before n b

-- ---- more behind the last opener

regroup : (front run back more : List Slot)
    → (front ++ (run ++ back)) ++ more ≡ front ++ (run ++ (back ++ more))
regroup front run back more =
    append_assoc front (run ++ back) more ∙ ap (λ l. front ++ l) (append_assoc run back more)

pub with_more : (s : Stack) (ds : List Delimiter) (a b : List Slot) (xs : Inlines) → Denotes s ds a
    → slots_parts b ≡ inlines_parts xs [] → Denotes (with_items s xs) ds (a ++ b)
with_more (base items) [] a b xs h e = items_append items xs a b h e
with_more (base items) (d ∷ ds) a b xs h e = h
with_more (opener by items below) [] a b xs h e = h
with_more (opener by items below) (d ∷ ds) a b xs h e = record {
  front = h.front;
  back = h.back ++ b;
  is = ap (λ l. l ++ b) h.is ∙ regroup h.front (replicate by.unused (Sign by.sign)) h.back b;
  from = h.from;
  run = h.run;
  some = h.some;
  sign = h.sign;
  inside = items_append items xs h.back b h.inside e;
  under = h.under;
}

-- ---- the nearest opener that fits

pub nearest_none : (r : Run) (inside : Inlines) (s : Stack) (ds : List Delimiter) (a : List Slot)
    → Denotes s ds a → AllUnfit r ds → nearest r inside s ≡ None
nearest_none r inside (base items) [] a h u = refl
nearest_none r inside (base items) (d ∷ ds) a h u = absurd h
nearest_none r inside (opener by items below) [] a h u = absurd h
nearest_none r inside (opener by items below) (d ∷ ds) a h u =
    let f : is_closed_by by r ≡ false = ap (λ o. is_closed_by o r) (sym h.run) ∙ u.0 in
    rw f (nearest_none r (unused_signs by (joined items inside)) below ds h.front h.under u.1)

pub record Found (r : Run) (inside : Inlines) (s : Stack) (d : Delimiter) (rest : List Delimiter)
    (slots : List Slot) : Type 0 where
  pub match : Match
  pub is : nearest r inside s ≡ Some match
  pub front : List Slot
  pub inner : List Slot
  pub slots_are : slots ≡ front ++ (replicate match.opened.unused (Sign match.opened.sign) ++ inner)
  pub from : length front ≡ d.from
  pub run : run_of d.run ≡ match.opened
  pub some : 0 < match.opened.unused
  pub sign : is_sign match.opened.sign ≡ true
  pub inner_is : slots_parts inner ≡ inlines_parts match.inside []
  pub under : Denotes match.below rest front

pub nearest_some : (r : Run) (inside : Inlines) (s : Stack) (skipped : List Delimiter) (d : Delimiter)
    (rest : List Delimiter) (a b : List Slot)
    → Denotes s (skipped ++ (d ∷ rest)) a → slots_parts b ≡ inlines_parts inside [] → AllUnfit r skipped
    → is_closed_by (run_of d.run) r ≡ true → Found r inside s d rest (a ++ b)
nearest_some r inside (base items) [] d rest a b h e u f = absurd h
nearest_some r inside (base items) (c ∷ skipped) d rest a b h e u f = absurd h
nearest_some r inside (opener by items below) [] d rest a b h e u f =
    let fits : is_closed_by by r ≡ true = ap (λ o. is_closed_by o r) (sym h.run) ∙ f in
    record {
      match = record { opened = by; inside = joined items inside; below = below };
      is = rw fits refl;
      front = h.front;
      inner = h.back ++ b;
      slots_are = ap (λ l. l ++ b) h.is ∙ regroup h.front (replicate by.unused (Sign by.sign)) h.back b;
      from = h.from;
      run = h.run;
      some = h.some;
      sign = h.sign;
      inner_is = items_append items inside h.back b h.inside e;
      under = h.under;
    }
nearest_some r inside (opener by items below) (c ∷ skipped) d rest a b h e u f =
    let unfit : is_closed_by by r ≡ false = ap (λ o. is_closed_by o r) (sym h.run) ∙ u.0 in
    let text = replicate by.unused (Sign by.sign) ++ (h.back ++ b) in
    let g = nearest_some r (unused_signs by (joined items inside)) below skipped d rest h.front text h.under
    (signs_before by.sign by.unused (h.back ++ b) (joined items inside) h.sign
    (items_append items inside h.back b h.inside e)) u.1 f in
    record {
      match = g.match;
      is = rw unfit g.is;
      front = g.front;
      inner = g.inner;
      slots_are =
          ap (λ l. l ++ b) h.is ∙ regroup h.front (replicate by.unused (Sign by.sign)) h.back b ∙ g.slots_are;
      from = g.from;
      run = g.run;
      some = g.some;
      sign = g.sign;
      inner_is = g.inner_is;
      under = g.under;
    }

-- ---- a match

format_parts : (f : declared_format.Format) (n : ℕ) (inner : List Slot) (xs : Inlines)
    → slots_parts inner ≡ inlines_parts xs []
    → slots_parts (format_slots f n inner) ≡ inlines_parts (formatted (of_format f) xs no_inlines) []
format_parts f n inner xs e =
    let g = of_format f in
    let closed : slots_parts (End f ∷ replicate (n - 1) Nothing) ≡ ended (formatted_end g) ∷ [] =
    ap (λ l. ended (formatted_end g) ∷ slots_parts l) (sym (append-nil (replicate (n - 1) Nothing)))
    ∙ ap (λ l. ended (formatted_end g) ∷ l) (nothing_before (n - 1) []) in
    ap (λ l. begun (parts.formatted g) ∷ l)
    (nothing_before (n - 1) (inner ++ (End f ∷ replicate (n - 1) Nothing))
    ∙ slots_append inner (End f ∷ replicate (n - 1) Nothing)
    ∙ ap (λ l. l ++ slots_parts (End f ∷ replicate (n - 1) Nothing)) e
    ∙ ap (λ l. inlines_parts xs [] ++ l) closed
    ∙ sym (parts_before xs (ended (formatted_end g) ∷ [])))

pub record Matched (m : Match) (d : Delimiter) (rest : List Delimiter) (front inner : List Slot) (n : ℕ)
    (f : declared_format.Format) : Type 0 where
  pub from : length front ≡ d.from
  pub run : run_of d.run ≡ less m.opened n
  pub inner_is : slots_parts inner ≡ inlines_parts m.inside []
  pub under : Denotes m.below rest front
  pub format : of_format f ≡ format_of m.opened.sign n
  pub within : n ≤ m.opened.unused
  pub sign : is_sign m.opened.sign ≡ true

under_match : (m : Match) (d : Delimiter) (rest : List Delimiter) (front inner : List Slot) (n : ℕ)
    (f : declared_format.Format) → Matched m d rest front inner n f → (b : Bool)
    → nat_lt n m.opened.unused ≡ b
    → Denotes (if b then opener (less m.opened n) no_inlines m.below else m.below) (kept b d rest)
    (front ++ replicate (m.opened.unused - n) (Sign m.opened.sign))
under_match m d rest front inner n f h true e =
    let l = ltb-true n m.opened.unused e in
    record {
      front = front;
      back = [];
      is = ap (λ x. front ++ x) (sym (append-nil (replicate (m.opened.unused - n) (Sign m.opened.sign))));
      from = h.from;
      run = h.run;
      some = omega arith;
      sign = h.sign;
      inside = refl;
      under = h.under;
    }
under_match m d rest front inner n f h false e =
    let l = ltb-false n m.opened.unused e in
    let w = h.within in
    let z : 0 ≡ m.opened.unused - n = omega arith in
    subst (λ k. Denotes m.below rest (front ++ replicate k (Sign m.opened.sign))) z
    (subst (Denotes m.below rest) (sym (append-nil front)) h.under)

pub with_match : (m : Match) (d : Delimiter) (rest : List Delimiter) (front inner : List Slot) (n : ℕ)
    (f : declared_format.Format) → Matched m d rest front inner n f
    → Denotes (matched m n) (kept (nat_lt n m.opened.unused) d rest)
    ((front ++ replicate (m.opened.unused - n) (Sign m.opened.sign)) ++ format_slots f n inner)
with_match m d rest front inner n f h =
    let parts : slots_parts (format_slots f n inner)
    ≡ inlines_parts (formatted (format_of m.opened.sign n) m.inside no_inlines) [] =
    format_parts f n inner m.inside h.inner_is
    ∙ ap (λ g. inlines_parts (formatted g m.inside no_inlines) []) h.format in
    with_more (if nat_lt n m.opened.unused then opener (less m.opened n) no_inlines m.below else m.below)
    (kept (nat_lt n m.opened.unused) d rest) (front ++ replicate (m.opened.unused - n) (Sign m.opened.sign))
    (format_slots f n inner) (formatted (format_of m.opened.sign n) m.inside no_inlines)
    (under_match m d rest front inner n f h (nat_lt n m.opened.unused) refl) parts

-- ---- openers that nothing closes

pub left_as_text : (s : Stack) (ds : List Delimiter) (a b : List Slot) (xs : Inlines) → Denotes s ds a
    → slots_parts b ≡ inlines_parts xs [] → slots_parts (a ++ b) ≡ inlines_parts (unstacked s xs) []
left_as_text (base items) [] a b xs h e = items_append items xs a b h e
left_as_text (base items) (d ∷ ds) a b xs h e = absurd h
left_as_text (opener by items below) [] a b xs h e = absurd h
left_as_text (opener by items below) (d ∷ ds) a b xs h e =
    ap (λ l. slots_parts (l ++ b)) h.is
    ∙ ap slots_parts (regroup h.front (replicate by.unused (Sign by.sign)) h.back b)
    ∙ left_as_text below ds h.front (replicate by.unused (Sign by.sign) ++ (h.back ++ b))
    (unused_signs by (joined items xs)) h.under
    (signs_before by.sign by.unused (h.back ++ b) (joined items xs) h.sign
    (items_append items xs h.back b h.inside e))

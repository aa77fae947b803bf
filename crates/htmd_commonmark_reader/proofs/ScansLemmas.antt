-- What was read of a line, one token or bracket further.
use Rattle.std.proofs.Common.{◌≡◌, ◌∙◌, ℕ, ◌+◌, ◌-◌, ◌<◌, ◌≤◌, Bool, true, false, List, [], ◌∷◌, ◌++◌, length}
use Rattle.std.proofs.Common.{drop, take, set, min, replicate, refl, ap, sym, subst, append_assoc, arith}
use Rattle.std.specs.Prelude.{nat_le, ◌||◌, if◌then◌else◌, map, reverse}
use Rattle.std.proofs.lemmas.Bool.{or_right, le-leb, lt-leb, leb-true, leb-false}
use Rattle.std.proofs.lemmas.List.{append-nil, length-append, length-replicate, reverse-append, length-reverse}
use Rattle.std.proofs.lemmas.List.{reverse-reverse}
use Rattle.std.proofs.lemmas.List.Prefix.{front_rest}
use Rattle.std.proofs.lemmas.Slice.{between_to_end}
use Rattle.std.proofs.lemmas.Str.{encode_ascii}
use Rattle.std.proofs.Math.Seq.{take-append_seam}
use Rattle.htmd_lexical.proofs.Cases.{test}
use Rattle.htmd_commonmark_reading.specs.Markup.{Inlines, no_inlines, letters}
use Rattle.htmd_commonmark_reading.specs.DelimiterRuns.{Token, Stack, finished, run, processed, with_token}
use Rattle.htmd_commonmark_reading.specs.DelimiterRuns.{base, unstacked, with_items, with_tokens}
use Rattle.htmd_commonmark_reading.specs.Brackets.{Brackets, outermost, bracket, and_tokens, sign_of, as_text}
use Rattle.htmd_commonmark_reading.specs.Brackets.{without_links, all_tokens}
use Rattle.htmd_parts.specs.Parts as parts
use Rattle.htmd_parts.specs.Parts.{inlines_parts, begun, ended, letter, link_end, image_end}
use Rattle.htmd_commonmark_reader.specs.Openers.{is_sign}
use Rattle.htmd_commonmark_reader.specs.ReadingRuns.{AreTokens}
use Rattle.htmd_commonmark_reader.specs.Runs.{run_of}
use Rattle.htmd_commonmark_reader.specs.Scans.{AreAlike, Hold, AreOpen, IsScan, link_inlines}
use Rattle.htmd_commonmark_reader.specs.Scans.{linked_of}
use Rattle.htmd_commonmark_reader.specs.Slots.{slots_parts}
use Rattle.htmd_commonmark_reader.specs.Targets.{address_of, title_of}
use Rattle.htmd_commonmark_reader.specs.declared.brackets.Bracket.{Bracket}
use Rattle.htmd_commonmark_reader.specs.declared.brackets.Scan.{Scan}
use Rattle.htmd_commonmark_reader.specs.declared.emphasis.Delimiter.{Delimiter}
use Rattle.htmd_commonmark_reader.specs.declared.slots.Slot.{Slot}
use Rattle.htmd_commonmark_reader.specs.declared.targets.Target.{Target}
use Rattle.htmd_commonmark_reader.proofs.EmphasisLemmas.{slots_append, parts_before}
use Rattle.htmd_commonmark_reader.proofs.SlotsLemmas.{set_seam}
use Rattle.htmd_commonmark_reader.specs.declared.slots.Slot.TheVariants.{Sign, Opening, BeginLink, EndLink}
use Rattle.htmd_commonmark_reader.specs.declared.slots.Slot.TheVariants.{BeginImage, EndImage}

-- ---- tokens after others

pub tokens_append : (ts us : List Token) (ds es : List Delimiter) (from : ℕ) (a b : List Slot)
    → AreTokens ts ds from a → AreTokens us es (from + length a) b → AreTokens (ts ++ us) (ds ++ es) from (a ++ b)
tokens_append [] us [] es from a b t u =
    let here : from + length a ≡ from = omega (arith, ap length t) in
    subst (λ l. AreTokens us es from (l ++ b)) (sym t) (subst (λ k. AreTokens us es k b) here u)
tokens_append [] us (d ∷ ds) es from a b t u = absurd t
tokens_append (finished x ∷ ts) us ds es from a b t u =
    let here : from + length a ≡ from + length t.front + length t.back =
    omega (arith, ap length t.is, length-append t.front t.back) in
    record {
      front = t.front;
      back = t.back ++ b;
      is = ap (λ l. l ++ b) t.is ∙ append_assoc t.front t.back b;
      parts = t.parts;
      rest = tokens_append ts us ds es (from + length t.front) t.back b t.rest
          (subst (λ k. AreTokens us es k b) here u);
    }
tokens_append (run r ∷ ts) us [] es from a b t u = absurd t
tokens_append (run r ∷ ts) us (d ∷ ds) es from a b t u =
    let signs = replicate d.run.unused (Sign d.run.sign) in
    let here : from + length a ≡ from + d.run.unused + length t.back =
    omega (arith, ap length t.is, length-append signs t.back, length-replicate d.run.unused (Sign d.run.sign)) in
    record {
      back = t.back ++ b;
      run = t.run;
      at = t.at;
      sign = t.sign;
      is = ap (λ l. l ++ b) t.is ∙ append_assoc signs t.back b;
      rest = tokens_append ts us ds es (from + d.run.unused) t.back b t.rest
          (subst (λ k. AreTokens us es k b) here u);
    }

with_all : (s : Stack) (ts us : List Token) → with_tokens s (ts ++ us) ≡ with_tokens (with_tokens s ts) us
with_all s [] us = refl
with_all s (t ∷ ts) us = with_all (with_token s t) ts us

alike_append : (ts us vs ws : List Token) → AreAlike ts us → AreAlike vs ws → AreAlike (ts ++ vs) (us ++ ws)
alike_append ts us vs ws h k = λ s.
    with_all s ts vs ∙ ap (λ t. with_tokens t vs) (h s) ∙ k (with_tokens s us) ∙ sym (with_all s us ws)

pub hold : (ts : List Token) (ds : List Delimiter) (from : ℕ) (slots : List Slot) → AreTokens ts ds from slots
    → Hold ts ds from slots
hold ts ds from slots t = record { tokens = ts; alike = λ s. refl; are = t }

-- they are processed alike
pub same_processed : (ts us : List Token) → AreAlike ts us → processed ts ≡ processed us
same_processed ts us a = ap (λ s. unstacked s no_inlines) (a (base no_inlines))

hold_append : (ts us : List Token) (ds es : List Delimiter) (from : ℕ) (a b : List Slot) → Hold ts ds from a
    → Hold us es (from + length a) b → Hold (ts ++ us) (ds ++ es) from (a ++ b)
hold_append ts us ds es from a b t u = record {
  tokens = t.tokens ++ u.tokens;
  alike = alike_append ts t.tokens us u.tokens t.alike u.alike;
  are = tokens_append t.tokens u.tokens ds es from a b t.are u.are;
}

-- tokens that are like one that was read
pub one_finished : (us : List Token) (x : Inlines) (slots : List Slot) (from : ℕ) → AreAlike us (finished x ∷ [])
    → slots_parts slots ≡ inlines_parts x [] → Hold us [] from slots
one_finished us x slots from a e = record {
  tokens = finished x ∷ [];
  alike = a;
  are = record { front = slots; back = []; is = sym (append-nil slots); parts = e; rest = refl };
}

alone : (x : Inlines) → AreAlike (finished x ∷ []) (finished x ∷ [])
alone x s = refl

-- ---- tokens after the last bracket

pub scan_push : (active : ℕ) (b : Brackets) (ks : List Bracket) (slots more : List Slot)
    (runs es : List Delimiter) (us : List Token) → AreOpen active b ks slots runs
    → Hold us es (length slots) more → AreOpen active (and_tokens b us) ks (slots ++ more) (runs ++ es)
scan_push active (outermost ts) [] slots more runs es us h t =
    let here : length slots ≡ 0 + length slots = omega arith in
    hold_append ts us runs es 0 slots more h (subst (λ k. Hold us es k more) here t)
scan_push active (outermost ts) (k ∷ ks) slots more runs es us h t = h
scan_push active (bracket i a text ts below) [] slots more runs es us h t = h
scan_push active (bracket i a text ts below) (k ∷ ks) slots more runs es us h t =
    let here : length slots ≡ length h.front + 1 + length h.back =
    omega (arith, ap length h.is, length-append h.front (Opening i ∷ h.back)) in
    record {
      front = h.front;
      back = h.back ++ more;
      is = ap (λ l. l ++ more) h.is ∙ append_assoc h.front (Opening i ∷ h.back) more;
      slot = h.slot;
      first = h.first;
      later = h.later ++ es;
      runs_are = ap (λ l. l ++ es) h.runs_are ∙ append_assoc h.first h.later es;
      run = h.run;
      image = h.image;
      activity = h.activity;
      text_is = h.text_is;
      tokens_are = hold_append ts us h.later es (length h.front + 1) h.back more h.tokens_are
          (subst (λ j. Hold us es j more) here t);
      under = h.under;
    }

-- the parts of a scan, before and after
pub record Pushed (o n : Scan) (slots : List Slot) (runs : List Delimiter) : Type 0 where
  pub slots_are : n.slots.items ≡ o.slots.items ++ slots
  pub runs_are : n.runs.items ≡ o.runs.items ++ runs
  pub brackets : n.brackets ≡ o.brackets
  pub active : n.active ≡ o.active

pub pushed : (b : Brackets) (o n : Scan) (slots : List Slot) (runs : List Delimiter)
    (us : List Token) → IsScan b o → Pushed o n slots runs
    → Hold us runs (length o.slots.items) slots → IsScan (and_tokens b us) n
pushed b o n slots runs us h p t =
    let more = scan_push o.active b (reverse o.brackets.items) o.slots.items slots o.runs.items runs us
    h.open_are t in
    let w = h.within in
    record {
      open_are =
          subst (λ a. AreOpen a (and_tokens b us) (reverse n.brackets.items) n.slots.items n.runs.items)
          (sym p.active)
          (subst (λ v. AreOpen o.active (and_tokens b us) (reverse v.items) n.slots.items n.runs.items)
          (sym p.brackets)
          (subst (λ l. AreOpen o.active (and_tokens b us) (reverse o.brackets.items) l n.runs.items)
          (sym p.slots_are)
          (subst (λ l. AreOpen o.active (and_tokens b us) (reverse o.brackets.items) (o.slots.items ++ slots) l)
          (sym p.runs_are) more)));
      within =
          subst (λ a. a ≤ length n.brackets.items) (sym p.active)
          (subst (λ v. o.active ≤ length v.items) (sym p.brackets) w);
    }

-- nothing was read
pub empty_scan : (scan : Scan) → scan.slots.items ≡ [] → scan.runs.items ≡ [] → scan.brackets.items ≡ []
    → scan.active ≡ 0 → IsScan (outermost []) scan
empty_scan scan s r k a = record {
  open_are =
      subst (λ (l : List Bracket). AreOpen scan.active (outermost []) (reverse l) scan.slots.items scan.runs.items)
      (sym k)
      (subst (λ l. Hold [] l 0 scan.slots.items) (sym r)
      (subst (λ l. Hold [] [] 0 l) (sym s) (hold [] [] 0 [] refl)));
  within = omega (arith, a);
}

-- ---- a bracket opens

pub opened : (b : Brackets) (o n : Scan) (k : Bracket)
    → IsScan b o → n.slots.items ≡ o.slots.items ++ (Opening k.is_image ∷ []) → n.runs ≡ o.runs
    → n.brackets.items ≡ o.brackets.items ++ (k ∷ []) → n.active ≡ o.active
    → k.slot ≡ length o.slots.items
    → k.runs ≡ length o.runs.items → IsScan (bracket k.is_image true k.text.now [] b) n
opened b o n k h s r q a e f =
    let i = k.is_image in
    let w = h.within in
    let size = length-append o.brackets.items (k ∷ []) in
    let last : reverse n.brackets.items ≡ k ∷ reverse o.brackets.items =
    ap reverse q ∙ reverse-append o.brackets.items (k ∷ []) in
    record {
      open_are =
          subst (λ l. AreOpen n.active (bracket i true k.text.now [] b) l n.slots.items n.runs.items)
          (sym last) (record {
            front = o.slots.items;
            back = [];
            is = s;
            slot = sym e;
            first = o.runs.items;
            later = [];
            runs_are = ap (λ v. v.items) r ∙ sym (append-nil o.runs.items);
            run = sym f;
            image = refl;
            activity = sym (or_right i (nat_le n.active (length (reverse o.brackets.items)))
                (le-leb n.active (length (reverse o.brackets.items))
                (omega (arith, a, length-reverse o.brackets.items))));
            text_is = refl;
            tokens_are = hold [] [] (length o.slots.items + 1) [] refl;
            under = subst (λ j. AreOpen j b (reverse o.brackets.items) o.slots.items o.runs.items) (sym a)
                h.open_are;
          });
      within = omega (arith, a, ap length q, size);
    }

-- ---- a run

pub one_run : (d : Delimiter) (from : ℕ) → d.from ≡ from → is_sign d.run.sign ≡ true
    → AreTokens (run (run_of d.run) ∷ []) (d ∷ []) from (replicate d.run.unused (Sign d.run.sign))
one_run d from e h = record {
  back = [];
  run = refl;
  at = e;
  sign = h;
  is = sym (append-nil (replicate d.run.unused (Sign d.run.sign)));
  rest = refl;
}

-- ---- a bracket that is text

cut : (a m j : ℕ) → j < m → nat_le a j ≡ nat_le (min a m) j
cut a m j l =
    test (nat_le a j)
    (λ e. let x = leb-true a j e in e ∙ sym (le-leb (min a m) j (omega arith)))
    (λ e. let x = leb-false a j e in e ∙ sym (lt-leb (min a m) j (omega arith)))

same_activity : (a c : ℕ) (b : Brackets) (ks : List Bracket) (slots : List Slot)
    (runs : List Delimiter) → ((n : ℕ) → n < length ks → nat_le a n ≡ nat_le c n)
    → AreOpen a b ks slots runs
    → AreOpen c b ks slots runs
same_activity a c (outermost ts) [] slots runs f h = h
same_activity a c (outermost ts) (k ∷ ks) slots runs f h = h
same_activity a c (bracket i v text ts below) [] slots runs f h = h
same_activity a c (bracket i v text ts below) (k ∷ ks) slots runs f h = record {
  front = h.front;
  back = h.back;
  is = h.is;
  slot = h.slot;
  first = h.first;
  later = h.later;
  runs_are = h.runs_are;
  run = h.run;
  image = h.image;
  activity = h.activity ∙ ap (λ w. i || w) (f (length ks) (omega arith));
  text_is = h.text_is;
  tokens_are = h.tokens_are;
  under = same_activity a c below ks h.front h.first (λ n l. f n (omega arith)) h.under;
}

sign_parts : (i : Bool) → slots_parts (Opening i ∷ []) ≡ inlines_parts (letters (sign_of i) no_inlines) []
sign_parts true = refl
sign_parts false = refl

text_opened : (a : ℕ) (i v : Bool) (text : List ℕ) (ts : List Token) (below : Brackets)
    (k : Bracket) (ks : List Bracket) (slots : List Slot) (runs : List Delimiter)
    → AreOpen a (bracket i v text ts below) (k ∷ ks) slots runs
    → AreOpen a (and_tokens below (finished (letters (sign_of i) no_inlines) ∷ ts)) ks slots runs
text_opened a i v text ts below k ks slots runs h =
    subst (λ l. AreOpen a (and_tokens below (finished (letters (sign_of i) no_inlines) ∷ ts)) ks l runs)
    (sym h.is)
    (subst (λ l. AreOpen a (and_tokens below (finished (letters (sign_of i) no_inlines) ∷ ts)) ks
    (h.front ++ (Opening i ∷ h.back)) l) (sym h.runs_are)
    (scan_push a below ks h.front (Opening i ∷ h.back) h.first h.later
    (finished (letters (sign_of i) no_inlines) ∷ ts) h.under
    (record {
      tokens = finished (letters (sign_of i) no_inlines) ∷ h.tokens_are.tokens;
      alike = λ s. h.tokens_are.alike (with_items s (letters (sign_of i) no_inlines));
      are = record {
        front = Opening i ∷ [];
        back = h.back;
        is = refl;
        parts = sign_parts i;
        rest = h.tokens_are.are;
      };
    })))

and_tokens_twice : (b : Brackets) (ts us : List Token) → and_tokens (and_tokens b ts) us ≡ and_tokens b (ts ++ us)
and_tokens_twice (outermost ws) ts us = ap outermost (append_assoc ws ts us)
and_tokens_twice (bracket i a s ws below) ts us = ap (λ l. bracket i a s l below) (append_assoc ws ts us)

pub record TextClosed (o n : Scan) : Type 0 where
  pub slots_are : n.slots.items ≡ o.slots.items ++ (Sign 93 ∷ [])
  pub runs_are : n.runs ≡ o.runs
  pub brackets : n.brackets.items ≡ take (length o.brackets.items - 1) o.brackets.items
  pub active : n.active ≡ min o.active (length n.brackets.items)

-- the brackets below the last one
below_last : (xs ks : List Bracket) (k : Bracket) → reverse xs ≡ k ∷ ks
    → reverse (take (length xs - 1) xs) ≡ ks
below_last xs ks k e =
    let is : xs ≡ reverse ks ++ (k ∷ []) =
    sym (reverse-reverse xs) ∙ ap reverse e ∙ reverse-append (k ∷ []) ks in
    let n : length xs - 1 ≡ length (reverse ks) =
    omega (arith, ap length is, length-append (reverse ks) (k ∷ [])) in
    ap reverse (ap (λ j. take j xs) n ∙ ap (take (length (reverse ks))) is
    ∙ take-append_seam (reverse ks) (k ∷ []))
    ∙ reverse-reverse ks

text_closed_at : (i v : Bool) (text : List ℕ) (ts : List Token) (below : Brackets) (o n : Scan)
    (es : List Bracket) → es ≡ reverse o.brackets.items
    → AreOpen o.active (bracket i v text ts below) es o.slots.items o.runs.items → TextClosed o n
    → IsScan
    (and_tokens below
    (finished (letters (sign_of i) no_inlines) ∷ ts ++ (finished (letters (93 ∷ []) no_inlines) ∷ [])))
    n
text_closed_at i v text ts below o n [] q h t = absurd h
text_closed_at i v text ts below o n (k ∷ ks) q h t =
    let us = finished (letters (sign_of i) no_inlines) ∷ ts in
    let more = finished (letters (93 ∷ []) no_inlines) ∷ [] in
    let left : reverse n.brackets.items ≡ ks = ap reverse t.brackets ∙ below_last o.brackets.items ks k (sym q) in
    let size : length n.brackets.items ≡ length ks =
    sym (length-reverse n.brackets.items) ∙ ap length left in
    let one = text_opened o.active i v text ts below k ks o.slots.items o.runs.items h in
    let two = scan_push o.active (and_tokens below us) ks o.slots.items (Sign 93 ∷ []) o.runs.items [] more one
    (one_finished more (letters (93 ∷ []) no_inlines) (Sign 93 ∷ []) (length o.slots.items)
    (alone (letters (93 ∷ []) no_inlines)) (ap (λ l. map letter l ++ []) (encode_ascii 93 (omega arith)))) in
    let three = same_activity o.active n.active (and_tokens (and_tokens below us) more) ks
    (o.slots.items ++ (Sign 93 ∷ [])) (o.runs.items ++ []) (λ j l. active_same j l) two in
    record {
      open_are =
          subst (λ b. AreOpen n.active b (reverse n.brackets.items) n.slots.items n.runs.items)
          (and_tokens_twice below us more)
          (subst (λ (e : List Bracket). AreOpen n.active (and_tokens (and_tokens below us) more) e n.slots.items
          n.runs.items) (sym left)
          (subst (λ l. AreOpen n.active (and_tokens (and_tokens below us) more) ks l n.runs.items)
          (sym t.slots_are)
          (subst (λ l. AreOpen n.active (and_tokens (and_tokens below us) more) ks
          (o.slots.items ++ (Sign 93 ∷ [])) l)
          (append-nil o.runs.items ∙ sym (ap (λ r. r.items) t.runs_are)) three)));
      within = omega (arith, t.active);
    }
  where
    active_same : (j : ℕ) → j < length ks → nat_le o.active j ≡ nat_le n.active j
    active_same j l =
        cut o.active (length n.brackets.items) j
        (omega (
          arith,
          length-reverse n.brackets.items,
          ap length (ap reverse t.brackets ∙ below_last o.brackets.items ks k (sym q)),
        ))
        ∙ ap (λ a. nat_le a j) (sym t.active)

pub text_closed : (i v : Bool) (text : List ℕ) (ts : List Token) (below : Brackets) (o n : Scan)
    → IsScan (bracket i v text ts below) o → TextClosed o n → IsScan (as_text i ts below).brackets n
text_closed i v text ts below o n h t =
    text_closed_at i v text ts below o n (reverse o.brackets.items) refl h.open_are t

-- ---- brackets that nothing closes

all_more : (b : Brackets) (us : List Token) → all_tokens (and_tokens b us) ≡ all_tokens b ++ us
all_more (outermost ts) us = refl
all_more (bracket i v text ts below) us =
    sym (append_assoc (all_tokens below) (finished (letters (sign_of i) no_inlines) ∷ ts) us)

pub all_held : (active : ℕ) (b : Brackets) (ks : List Bracket) (slots : List Slot) (runs : List Delimiter)
    → AreOpen active b ks slots runs → Hold (all_tokens b) runs 0 slots
all_held active (outermost ts) [] slots runs h = h
all_held active (outermost ts) (k ∷ ks) slots runs h = absurd h
all_held active (bracket i v text ts below) [] slots runs h = absurd h
all_held active (bracket i v text ts below) (k ∷ ks) slots runs h =
    let us = finished (letters (sign_of i) no_inlines) ∷ ts in
    subst (λ t. Hold t runs 0 slots) (all_more below us)
    (all_held active (and_tokens below us) ks slots runs
    (text_opened active i v text ts below k ks slots runs h))

-- ---- a bracket that begins an image or a link

-- no link holds a link
no_links : (a m : ℕ) (b : Brackets) (ks : List Bracket) (slots : List Slot)
    (runs : List Delimiter) → length ks ≤ m → AreOpen a b ks slots runs
    → AreOpen m (without_links b) ks slots runs
no_links a m (outermost ts) [] slots runs l h = h
no_links a m (outermost ts) (k ∷ ks) slots runs l h = h
no_links a m (bracket true v text ts below) [] slots runs l h = h
no_links a m (bracket false v text ts below) [] slots runs l h = h
no_links a m (bracket true v text ts below) (k ∷ ks) slots runs l h = record {
  front = h.front;
  back = h.back;
  is = h.is;
  slot = h.slot;
  first = h.first;
  later = h.later;
  runs_are = h.runs_are;
  run = h.run;
  image = h.image;
  activity = h.activity;
  text_is = h.text_is;
  tokens_are = h.tokens_are;
  under = no_links a m below ks h.front h.first (omega arith) h.under;
}
no_links a m (bracket false v text ts below) (k ∷ ks) slots runs l h = record {
  front = h.front;
  back = h.back;
  is = h.is;
  slot = h.slot;
  first = h.first;
  later = h.later;
  runs_are = h.runs_are;
  run = h.run;
  image = h.image;
  activity = sym (lt-leb m (length ks) (omega arith));
  text_is = h.text_is;
  tokens_are = h.tokens_are;
  under = no_links a m below ks h.front h.first (omega arith) h.under;
}

-- the brackets below, once the last one begins an image or a link
pub active_below : (i : Bool) (a m : ℕ) (b : Brackets) (ks : List Bracket) (slots : List Slot)
    (runs : List Delimiter) → m ≡ (if i then min a (length ks) else length ks) → AreOpen a b ks slots runs
    → AreOpen m (if i then b else without_links b) ks slots runs
active_below true a m b ks slots runs e h =
    subst (λ j. AreOpen j b ks slots runs) (sym e)
    (same_activity a (min a (length ks)) b ks slots runs (λ n l. cut a (length ks) n l) h)
active_below false a m b ks slots runs e h =
    subst (λ j. AreOpen j (without_links b) ks slots runs) (sym e)
    (no_links a (length ks) b ks slots runs (omega arith) h)

pub record LinkClosed (o n : Scan) (k : Bracket) (inner : List Slot) (begin end : Slot) : Type 0 where
  pub slots_are : n.slots.items ≡ set (take (k.slot + 1) o.slots.items ++ inner) k.slot begin ++ (end ∷ [])
  pub runs_are : n.runs.items ≡ take k.runs o.runs.items
  pub active : n.active
      ≡ (if k.is_image then min o.active (length n.brackets.items) else length n.brackets.items)

-- the slots and runs behind a bracket
pub behind_slot : (a : ℕ) (i v : Bool) (text : List ℕ) (ts : List Token) (below : Brackets)
    (k : Bracket) (ks : List Bracket) (slots : List Slot) (runs : List Delimiter)
    → AreOpen a (bracket i v text ts below) (k ∷ ks) slots runs
    → Hold ts (drop k.runs runs) (k.slot + 1) (drop (k.slot + 1) slots)
behind_slot a i v text ts below k ks slots runs h =
    let size : length (h.front ++ (Opening i ∷ [])) ≡ k.slot + 1 =
    omega (arith, h.slot, length-append h.front (Opening i ∷ [])) in
    let back : drop (k.slot + 1) slots ≡ h.back =
    ap (λ j. drop j slots) (sym size)
    ∙ front_rest slots (h.front ++ (Opening i ∷ [])) h.back
    (h.is ∙ sym (append_assoc h.front (Opening i ∷ []) h.back)) in
    let later : drop k.runs runs ≡ h.later =
    ap (λ j. drop j runs) (sym h.run) ∙ front_rest runs h.first h.later h.runs_are in
    subst (λ l. Hold ts l (k.slot + 1) (drop (k.slot + 1) slots)) (sym later)
    (subst (λ l. Hold ts h.later (k.slot + 1) l) (sym back)
    (subst (λ j. Hold ts h.later (j + 1) h.back) h.slot h.tokens_are))

set_open : (front back inner : List Slot) (at begin : Slot) (slots : List Slot) (n : ℕ)
    → slots ≡ front ++ (at ∷ back) → length front ≡ n
    → set (take (n + 1) slots ++ inner) n begin ≡ front ++ (begin ∷ inner)
set_open front back inner at begin slots n e l =
    let size : length (front ++ (at ∷ [])) ≡ n + 1 = omega (arith, l, length-append front (at ∷ [])) in
    let first : take (n + 1) slots ≡ front ++ (at ∷ []) =
    ap (λ j. take j slots) (sym size)
    ∙ ap (take (length (front ++ (at ∷ [])))) (e ∙ sym (append_assoc front (at ∷ []) back))
    ∙ take-append_seam (front ++ (at ∷ [])) back in
    ap (λ x. set (x ++ inner) n begin) first
    ∙ ap (λ x. set x n begin) (append_assoc front (at ∷ []) inner)
    ∙ ap (λ j. set (front ++ (at ∷ inner)) j begin) (sym l)
    ∙ set_seam front at inner begin

pub link_closed : (i v : Bool) (text : List ℕ) (ts : List Token) (below : Brackets) (o n : Scan)
    (k : Bracket) (ks : List Bracket) (inner : List Slot) (begin end : Slot) (t : Target)
    → reverse n.brackets.items ≡ ks
    → AreOpen o.active (bracket i v text ts below) (k ∷ ks) o.slots.items o.runs.items
    → LinkClosed o n k inner begin end → slots_parts inner ≡ inlines_parts (processed ts) []
    → ((xs : Inlines) (mid : List Slot) → slots_parts mid ≡ inlines_parts xs []
    → slots_parts (begin ∷ (mid ++ (end ∷ []))) ≡ inlines_parts (link_inlines k.is_image t xs) [])
    → IsScan (linked_of i t ts below) n
link_closed i v text ts below o n k ks inner begin end t left h c parts f =
    let size : length n.brackets.items ≡ length ks = sym (length-reverse n.brackets.items) ∙ ap length left in
    let more = begin ∷ (inner ++ (end ∷ [])) in
    let x = link_inlines i t (processed ts) in
    let active : n.active ≡ (if i then min o.active (length ks) else length ks) =
    c.active ∙ ap (λ j. if k.is_image then min o.active j else j) size
    ∙ ap (λ b. if b then min o.active (length ks) else length ks) h.image in
    let made : slots_parts more ≡ inlines_parts x [] =
    f (processed ts) inner parts ∙ ap (λ b. inlines_parts (link_inlines b t (processed ts)) []) h.image in
    let under = active_below i o.active n.active below ks h.front h.first active h.under in
    let new = scan_push n.active (if i then below else without_links below) ks h.front more h.first []
    (finished x ∷ []) under (one_finished (finished x ∷ []) x more (length h.front) (alone x) made) in
    let slots : n.slots.items ≡ h.front ++ more =
    c.slots_are
    ∙ ap (λ l. l ++ (end ∷ [])) (set_open h.front h.back inner (Opening i) begin o.slots.items k.slot h.is h.slot)
    ∙ append_assoc h.front (begin ∷ inner) (end ∷ []) in
    let runs : n.runs.items ≡ h.first ++ [] =
    c.runs_are ∙ ap (λ j. take j o.runs.items) (sym h.run) ∙ ap (take (length h.first)) h.runs_are
    ∙ take-append_seam h.first h.later ∙ sym (append-nil h.first) in
    record {
      open_are =
          subst (λ (e : List Bracket). AreOpen n.active (linked_of i t ts below) e n.slots.items n.runs.items)
          (sym left)
          (subst (λ l. AreOpen n.active (linked_of i t ts below) ks l n.runs.items) (sym slots)
          (subst (λ l. AreOpen n.active (linked_of i t ts below) ks (h.front ++ more) l) (sym runs) new));
      within = fits i active size;
    }
  where
    fits : (i : Bool) → n.active ≡ (if i then min o.active (length ks) else length ks)
        → length n.brackets.items ≡ length ks → n.active ≤ length n.brackets.items
    fits true e s = omega arith
    fits false e s = omega arith

-- what begins and ends an image or a link
pub image_parts : (t : Target) (xs : Inlines) (inner : List Slot) → slots_parts inner ≡ inlines_parts xs []
    → slots_parts (BeginImage t ∷ (inner ++ (EndImage t ∷ []))) ≡ inlines_parts (link_inlines true t xs) []
image_parts t xs inner e =
    ap (λ l. begun (parts.image (address_of t)) ∷ l)
    (slots_append inner (EndImage t ∷ []) ∙ ap (λ l. l ++ (ended (image_end (title_of t)) ∷ [])) e
    ∙ sym (parts_before xs (ended (image_end (title_of t)) ∷ [])))

pub link_parts : (t : Target) (xs : Inlines) (inner : List Slot) → slots_parts inner ≡ inlines_parts xs []
    → slots_parts (BeginLink t ∷ (inner ++ (EndLink ∷ []))) ≡ inlines_parts (link_inlines false t xs) []
link_parts t xs inner e =
    ap (λ l. begun (parts.link (address_of t) (title_of t)) ∷ l)
    (slots_append inner (EndLink ∷ []) ∙ ap (λ l. l ++ (ended link_end ∷ [])) e
    ∙ sym (parts_before xs (ended link_end ∷ [])))

-- the slots and runs as they are lent
pub lent : (ts : List Token) (r runs : List Delimiter) (s slots : List Slot) (a b : ℕ) → r ≡ runs → s ≡ slots
    → AreTokens ts (drop a runs) b (drop b slots)
    → AreTokens ts (take (length r - a) (drop a r)) b (drop b s)
lent ts r runs s slots a b p q t =
    subst (λ l. AreTokens ts l b (drop b s)) (sym (between_to_end r a (length r) (omega arith)))
    (subst (λ l. AreTokens ts (drop a l) b (drop b s)) (sym p)
    (subst (λ l. AreTokens ts (drop a runs) b (drop b l)) (sym q) t))

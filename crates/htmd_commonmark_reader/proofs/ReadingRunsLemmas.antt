-- The slots of a line, one step of a run further.
use Rattle.std.proofs.Common.{◌≡◌, ◌∙◌, ℕ, ◌+◌, ◌-◌, ◌<◌, ◌≤◌, Bool, true, false, List, [], ◌∷◌, ◌++◌}
use Rattle.std.proofs.Common.{length, take, drop, get_or, replicate, Some, refl, ap, sym, subst, append_assoc, arith}
use Rattle.std.specs.Prelude.{reverse, nat_lt, ◌==◌}
use Rattle.std.proofs.lemmas.Bool.{and_parts, eqb-true, ltb-true, ltb-false}
use Rattle.std.proofs.lemmas.List.{append-nil, reverse-append, length-append, length-replicate, length-take-le}
use Rattle.std.proofs.lemmas.List.{get_or_append_left, get_or-take}
use Rattle.std.proofs.Math.Seq.{get_or-append_seam}
use Rattle.htmd_document.specs.Formats.{of_format}
use Rattle.htmd_document.specs.declared.document.Format.{Format}
use Rattle.htmd_lexical.proofs.Cases.{test}
use Rattle.htmd_lexical.specs.Characters.{tilde}
use Rattle.htmd_commonmark_reading.specs.Markup.{no_inlines}
use Rattle.htmd_commonmark_reading.specs.DelimiterRuns as spec
use Rattle.htmd_commonmark_reading.specs.DelimiterRuns.{Run, Stack, base, opener, Match, fits_by_three}
use Rattle.htmd_commonmark_reading.specs.DelimiterRuns.{matched, less, left_open, with_items, unused_signs, format_of}
use Rattle.htmd_commonmark_reader.specs.Openers.{AreOrdered, AreSearched, IsNearest, IsClosable, IsUnfit, put_at}
use Rattle.htmd_commonmark_reader.specs.Openers.{format_for, kept, opener_less, kind, is_sign}
use Rattle.htmd_commonmark_reader.specs.ReadingRuns.{IsReading}
use Rattle.htmd_commonmark_reader.specs.Runs.{run_of}
use Rattle.htmd_commonmark_reader.specs.Slots.{slots_parts, Denotes, format_slots}
use Rattle.htmd_parts.specs.Parts.{inlines_parts}
use Rattle.htmd_commonmark_reader.specs.declared.emphasis.Delimiter.{Delimiter}
use Rattle.htmd_commonmark_reader.specs.declared.emphasis.Openers.{Openers}
use Rattle.htmd_commonmark_reader.specs.declared.emphasis.Searched.{Searched}
use Rattle.htmd_commonmark_reader.specs.declared.slots.Slot.{Slot}
use Rattle.htmd_commonmark_reader.specs.declared.slots.Slot.TheVariants.{Nothing, Sign, Begin, End}
use Rattle.htmd_commonmark_reader.proofs.OpenersLemmas.{from_last, unfit_from_last, reverse_first, same_item}
use Rattle.htmd_commonmark_reader.proofs.EmphasisLemmas.{Found, nearest_some, with_match, with_more}
use Rattle.htmd_commonmark_reader.proofs.EmphasisLemmas.{signs_before}
use Rattle.htmd_commonmark_reader.proofs.SlotsLemmas.{Closes, closed_slots}

-- ---- the order of openers

pub record Ordered (ds : List Delimiter) (end : ℕ) : Type 0 where
  pub pairs : AreOrdered ds
  pub below : (i : ℕ) (e : Delimiter) → i < length ds → (get_or ds i e).from ≤ end

at_left : (ds : List Delimiter) (d e : Delimiter) (i : ℕ) → i < length ds
    → get_or (ds ++ (d ∷ [])) i e ≡ get_or ds i e
at_left ds d e i l = get_or_append_left ds (d ∷ []) e i l

at_last : (ds : List Delimiter) (d e : Delimiter) (i : ℕ) → i < length (ds ++ (d ∷ [])) → length ds ≤ i
    → get_or (ds ++ (d ∷ [])) i e ≡ d
at_last ds d e i l h =
    let k : i ≡ length ds = omega (arith, length-append ds (d ∷ [])) in
    ap (λ j. get_or (ds ++ (d ∷ [])) j e) k ∙ get_or-append_seam ds d [] e

below_push : (ds : List Delimiter) (d : Delimiter) → Ordered ds d.from → (i : ℕ) (e : Delimiter)
    → i < length (ds ++ (d ∷ [])) → (get_or (ds ++ (d ∷ [])) i e).from ≤ d.from
below_push ds d h i e l =
    test (nat_lt i (length ds))
    (λ b.
    let k = ltb-true i (length ds) b in
    subst (λ (x : Delimiter). x.from ≤ d.from) (sym (at_left ds d e i k)) (h.below i e k))
    (λ b.
    subst (λ (x : Delimiter). x.from ≤ d.from) (sym (at_last ds d e i l (ltb-false i (length ds) b)))
    (omega arith))

ordered_push : (ds : List Delimiter) (d : Delimiter) → Ordered ds d.from → Ordered (ds ++ (d ∷ [])) d.from
ordered_push ds d h = record {
  pairs = λ i j e m l.
      test (nat_lt j (length ds))
      (λ b.
      let k = ltb-true j (length ds) b in
      let p = h.pairs i j e m k in
      subst (λ (x : Delimiter). x.from ≤ (get_or (ds ++ (d ∷ [])) j e).from) (sym (at_left ds d e i (omega arith)))
      (subst (λ (x : Delimiter). (get_or ds i e).from ≤ x.from) (sym (at_left ds d e j k)) p))
      (λ b.
      subst (λ (x : Delimiter). (get_or (ds ++ (d ∷ [])) i e).from ≤ x.from)
      (sym (at_last ds d e j l (ltb-false j (length ds) b)))
      (below_push ds d h i e (omega arith)));
  below = below_push ds d h;
}

pub ordered : (s : Stack) (es : List Delimiter) (read : List Slot) → Denotes s es read
    → Ordered (reverse es) (length read)
ordered (base items) [] read h = record {
  pairs = λ i j e m l. absurd (omega arith);
  below = λ i e l. absurd (omega arith);
}
ordered (base items) (d ∷ es) read h = absurd h
ordered (opener by items below) [] read h = absurd h
ordered (opener by items below) (d ∷ es) read h =
    let under = ordered below es h.front h.under in
    let here = ordered_push (reverse es) d (subst (Ordered (reverse es)) h.from under) in
    let size : d.from ≤ length read =
    omega (
      arith,
      h.from,
      ap length h.is,
      length-append h.front (replicate by.unused (Sign by.sign) ++ h.back),
    ) in
    let all : Ordered (reverse es ++ (d ∷ [])) (length read) = record {
      pairs = here.pairs;
      below = λ i e l. let k = here.below i e l in omega arith;
    } in
    subst (λ (x : List Delimiter). Ordered x (length read)) (sym (reverse_first d es)) all

-- ---- the nearest opener

pub found_at : (r : Run) (s : Stack) (ds : List Delimiter) (i : ℕ) (e : Delimiter) (read : List Slot)
    → Denotes s (reverse ds) read → IsNearest r ds i
    → Found r no_inlines s (get_or ds i e) (reverse (take i ds)) (read ++ [])
found_at r s ds i e read h n =
    nearest_some r no_inlines s (reverse (drop (i + 1) ds)) (get_or ds i e) (reverse (take i ds)) read []
    (subst (λ (x : List Delimiter). Denotes s x read) (from_last ds i e n.within) h) refl
    (unfit_from_last r ds (i + 1) n.later) (n.fits e)

-- ---- what was searched for

searched_kept : (ds : List Delimiter) (known : List Searched) (end more i n : ℕ) (x : Delimiter) (b : Bool)
    → i < length ds → x ≡ get_or ds i x → end ≤ more → AreSearched ds known end
    → AreSearched (take i ds ++ kept b (opener_less x n) []) known more
searched_kept ds known end more i n x false l q m h r e t =
    let k = h r e t in (
      λ j d low high before.
          let short : j < i =
          omega (arith, ap length (append-nil (take i ds)), length-take-le i ds (omega arith)) in
          let same : get_or (take i ds ++ []) j d ≡ get_or ds j d =
          ap (λ y. get_or y j d) (append-nil (take i ds)) ∙ get_or-take i ds j d short in
          subst (IsUnfit r) (sym same)
          (k.0 j d low (omega arith) (subst (λ (y : Delimiter). y.from < (get_or known (kind r) e).place) same
          before)),
      let w = k.1 in omega arith,
    )
searched_kept ds known end more i n x true l q m h r e t =
    let k = h r e t in
    let size = length-take-le i ds (omega arith) in (
      λ j d low high before.
          test (nat_lt j i)
          (λ b.
          let short = ltb-true j i b in
          let same : get_or (take i ds ++ (opener_less x n ∷ [])) j d ≡ get_or ds j d =
          at_left (take i ds) (opener_less x n) d j (omega arith) ∙ get_or-take i ds j d short in
          subst (IsUnfit r) (sym same)
          (k.0 j d low (omega arith)
          (subst (λ (y : Delimiter). y.from < (get_or known (kind r) e).place) same before)))
          (λ b.
          let long = ltb-false j i b in
          let here = at_last (take i ds) (opener_less x n) d j high (omega arith) in
          let at : j ≡ i = omega (arith, length-append (take i ds) (opener_less x n ∷ [])) in
          let early = subst (λ (y : Delimiter). y.from < (get_or known (kind r) e).place) here before in
          let unfit : IsUnfit r x =
          subst (IsUnfit r) (sym q)
          (k.0 i x (omega arith) l (subst (λ (y : Delimiter). y.from < (get_or known (kind r) e).place) q early)) in
          subst (IsUnfit r) (sym here) unfit),
      let w = k.1 in omega arith,
    )

searched_push : (ds : List Delimiter) (known : List Searched) (end more : ℕ) (d : Delimiter) → d.from ≡ end
    → end ≤ more → AreSearched ds known end → AreSearched (ds ++ (d ∷ [])) known more
searched_push ds known end more d q m h r e t =
    let k = h r e t in
    let w = k.1 in (
      λ j f low high before.
          test (nat_lt j (length ds))
          (λ b.
          let short = ltb-true j (length ds) b in
          let same = at_left ds d f j short in
          subst (IsUnfit r) (sym same)
          (k.0 j f low short (subst (λ (y : Delimiter). y.from < (get_or known (kind r) e).place) same before)))
          (λ b.
          let here = at_last ds d f j high (ltb-false j (length ds) b) in
          let early = subst (λ (y : Delimiter). y.from < (get_or known (kind r) e).place) here before in
          absurd (omega arith)),
      omega arith,
    )

kept_reversed : (ds : List Delimiter) (b : Bool) (d : Delimiter)
    → reverse (ds ++ kept b d []) ≡ kept b d (reverse ds)
kept_reversed ds true d = reverse-append ds (d ∷ [])
kept_reversed ds false d = ap reverse (append-nil ds)

-- ---- a match

-- an opener at an index that a run closes, and how many signs of both that uses
pub record Closing (s : Stack) (o : Openers) (d : Delimiter) (i n : ℕ) (slots tail : List Slot) : Type 0 where
  pub reading : IsReading s o d.from d.run.unused d.run.sign slots tail
  pub nearest : IsNearest (run_of d.run) o.items.items i
  pub some : 0 < n
  pub of_opener : n ≤ (get_or o.items.items i d).run.unused
  pub of_closing : n ≤ d.run.unused

pub closable : (s : Stack) (o : Openers) (d : Delimiter) (i n : ℕ) (slots tail : List Slot)
    → Closing s o d i n slots tail → IsClosable o.items.items i d slots n
closable s o d i n slots tail c =
    let h = c.reading in
    let f = found_at (run_of d.run) s o.items.items i d h.read h.denotes c.nearest in
    let u = ap (λ (r : Run). r.unused) f.run in
    let size = length-append f.front (replicate f.match.opened.unused (Sign f.match.opened.sign) ++ f.inner) in
    let size2 = length-append (replicate f.match.opened.unused (Sign f.match.opened.sign)) f.inner in
    let size3 = length-replicate f.match.opened.unused (Sign f.match.opened.sign) in
    let size4 = length-append h.read (replicate d.run.unused (Sign d.run.sign) ++ tail) in
    let size5 = length-append (replicate d.run.unused (Sign d.run.sign)) tail in
    let size6 = length-replicate d.run.unused (Sign d.run.sign) in
    record {
      in_range = c.nearest.within;
      some = c.some;
      of_opener = c.of_opener;
      of_closing = c.of_closing;
      before = omega (
        arith,
        u,
        f.from,
        h.end,
        ap length f.slots_are,
        ap length (append-nil h.read),
        size,
        size2,
        size3,
      );
      after = omega (arith, h.end, ap length h.is, size4, size5, size6);
    }

format_named : (c n : ℕ) → of_format (format_for c n) ≡ format_of c n
format_named c n =
    test (c == tilde) (λ e. rw e refl) (λ e. test (n == 1) (λ f. rw (e, f) refl) (λ f. rw (e, f) refl))

pub record Closed (s : Stack) (o p : Openers) (d : Delimiter) (i n : ℕ) (new : List Slot) (slots tail : List Slot)
    : Type 0 where
  pub closing : Closing s o d i n slots tail
  pub items : p.items.items
      ≡ take i o.items.items
      ++ kept (nat_lt n (get_or o.items.items i d).run.unused) (opener_less (get_or o.items.items i d) n) []
  pub known : p.searched ≡ o.searched
  pub slots_are : new
      ≡ put_at d.from n (End (format_for d.run.sign n))
      (put_at ((get_or o.items.items i d).from + ((get_or o.items.items i d).run.unused - n)) n
      (Begin (format_for d.run.sign n)) slots)

pub record Stepped (s : Stack) (p : Openers) (d : Delimiter) (n : ℕ) (opened : Delimiter) (new tail : List Slot)
    : Type 0 where
  pub match : Match
  pub is : spec.nearest (run_of d.run) no_inlines s ≡ Some match
  pub run : run_of opened.run ≡ match.opened
  pub some : 0 < match.opened.unused
  pub reading : IsReading (matched match n) p (d.from + n) (d.run.unused - n) d.run.sign new tail

pub after_closing : (s : Stack) (o p : Openers) (d : Delimiter) (i n : ℕ) (new slots tail : List Slot)
    → Closed s o p d i n new slots tail → Stepped s p d n (get_or o.items.items i d) new tail
after_closing s o p d i n new slots tail c =
    let h = c.closing.reading in
    let ds = o.items.items in
    let x = get_or ds i d in
    let r = run_of d.run in
    let f = found_at r s ds i d h.read h.denotes c.closing.nearest in
    let m = f.match in
    let g = format_for d.run.sign n in
    let u : x.run.unused ≡ m.opened.unused = ap (λ (q : Run). q.unused) f.run in
    let fits = and_parts (x.run.sign == d.run.sign) (fits_by_three (run_of x.run) r) (c.closing.nearest.fits d) in
    let signs : m.opened.sign ≡ d.run.sign =
    sym (ap (λ (q : Run). q.sign) f.run) ∙ eqb-true x.run.sign d.run.sign fits.0 in
    let named : of_format g ≡ format_of m.opened.sign n =
    format_named d.run.sign n ∙ ap (λ b. format_of b n) (sym signs) in
    let whole : h.read ≡ f.front ++ (replicate m.opened.unused (Sign m.opened.sign) ++ f.inner) =
    sym (append-nil h.read) ∙ f.slots_are in
    let some = c.closing.some in
    let of_opener : n ≤ m.opened.unused = subst (λ k. n ≤ k) u c.closing.of_opener in
    let of_closing = c.closing.of_closing in
    let closes : Closes slots f.front f.inner tail m.opened.unused d.run.unused n m.opened.sign d.run.sign x.from
    d.from = record {
      is = h.is ∙ ap (λ l. l ++ (replicate d.run.unused (Sign d.run.sign) ++ tail)) whole;
      of_opener = of_opener;
      of_closing = of_closing;
      some = some;
      from = f.from;
      end = ap length (sym whole) ∙ h.end;
    } in
    let read = (f.front ++ replicate (m.opened.unused - n) (Sign m.opened.sign)) ++ format_slots g n f.inner in
    let new_is : new ≡ read ++ (replicate (d.run.unused - n) (Sign d.run.sign) ++ tail) =
    c.slots_are
    ∙ ap (λ k. put_at d.from n (End g) (put_at (x.from + (k - n)) n (Begin g) slots)) u
    ∙ closed_slots slots f.front f.inner tail m.opened.unused d.run.unused n m.opened.sign d.run.sign x.from d.from g
    closes in
    let denotes : Denotes (matched m n)
    (kept (nat_lt n m.opened.unused) (opener_less x n) (reverse (take i ds))) read =
    with_match m (opener_less x n) (reverse (take i ds)) f.front f.inner n g (record {
      from = f.from;
      run = ap (λ (q : Run). less q n) f.run;
      inner_is = f.inner_is;
      under = f.under;
      format = named;
      within = of_opener;
      sign = f.sign;
    }) in
    let reversed : reverse p.items.items
    ≡ kept (nat_lt n m.opened.unused) (opener_less x n) (reverse (take i ds)) =
    ap reverse c.items ∙ kept_reversed (take i ds) (nat_lt n x.run.unused) (opener_less x n)
    ∙ ap (λ k. kept (nat_lt n k) (opener_less x n) (reverse (take i ds))) u in
    let searched : AreSearched (take i ds ++ kept (nat_lt n x.run.unused) (opener_less x n) []) o.searched
    (d.from + n) =
    searched_kept ds o.searched d.from (d.from + n) i n x (nat_lt n x.run.unused) c.closing.nearest.within
    (same_item ds i d x c.closing.nearest.within) (omega arith) h.searched in
    record {
      match = m;
      is = f.is;
      run = f.run;
      some = f.some;
      reading = record {
        read = read;
        is = new_is;
        end = format_length f.front f.inner m.opened.unused n m.opened.sign g x.from d.from f.from
            (ap length (sym whole) ∙ h.end) some of_opener;
        denotes = subst (λ (e : List Delimiter). Denotes (matched m n) e read) (sym reversed) denotes;
        searched = subst (λ (k : List Searched). AreSearched p.items.items k (d.from + n)) (sym c.known)
            (subst (λ (e : List Delimiter). AreSearched e o.searched (d.from + n)) (sym c.items) searched);
      };
    }
  where
    format_length : (front inner : List Slot) (u n c : ℕ) (g : Format) (from end : ℕ) → length front ≡ from
        → length (front ++ (replicate u (Sign c) ++ inner)) ≡ end → 0 < n → n ≤ u
        → length ((front ++ replicate (u - n) (Sign c)) ++ format_slots g n inner) ≡ end + n
    format_length front inner u n c g from end a b some l =
        let used = replicate (n - 1) Nothing in
        omega (
          arith,
          a,
          b,
          length-append (front ++ replicate (u - n) (Sign c)) (format_slots g n inner),
          length-append front (replicate (u - n) (Sign c)),
          length-replicate (u - n) (Sign c),
          length-append used (inner ++ (End g ∷ used)),
          length-append inner (End g ∷ used),
          length-replicate (n - 1) Nothing,
          length-append front (replicate u (Sign c) ++ inner),
          length-append (replicate u (Sign c)) inner,
          length-replicate u (Sign c),
        )

-- ---- a run that closes nothing more

-- at its end
left_is : (read tail : List Slot) (n c : ℕ) (slots : List Slot) → slots ≡ read ++ (replicate n (Sign c) ++ tail)
    → slots ≡ (read ++ replicate n (Sign c)) ++ (replicate 0 (Sign c) ++ tail)
left_is read tail n c slots e = e ∙ sym (append_assoc read (replicate n (Sign c)) tail)

left_end : (read : List Slot) (n c from : ℕ) → length read ≡ from
    → length (read ++ replicate n (Sign c)) ≡ from + n
left_end read n c from e = omega (arith, length-append read (replicate n (Sign c)), length-replicate n (Sign c))

opens_is : (r : Run) (s : Stack) → r.opens ≡ true → left_open r s ≡ opener r no_inlines s
opens_is r s h = rw h refl

text_is : (r : Run) (s : Stack) → r.opens ≡ false → left_open r s ≡ with_items s (unused_signs r no_inlines)
text_is r s h = rw h refl

pub after_opening : (s : Stack) (o p : Openers) (d : Delimiter) (slots tail : List Slot)
    → IsReading s o d.from d.run.unused d.run.sign slots tail → is_sign d.run.sign ≡ true → 0 < d.run.unused
    → d.run.opens ≡ true
    → p.items.items ≡ o.items.items ++ (d ∷ []) → p.searched ≡ o.searched
    → IsReading (left_open (run_of d.run) s) p (d.from + d.run.unused) 0 d.run.sign slots tail
after_opening s o p d slots tail h sign some opens items known =
    let c = d.run.sign in
    let n = d.run.unused in
    let read = h.read ++ replicate n (Sign c) in
    let reversed : reverse p.items.items ≡ d ∷ reverse o.items.items =
    ap reverse items ∙ reverse-append o.items.items (d ∷ []) in
    let denotes : Denotes (opener (run_of d.run) no_inlines s) (d ∷ reverse o.items.items) read = record {
      front = h.read;
      back = [];
      is = ap (λ l. h.read ++ l) (sym (append-nil (replicate n (Sign c))));
      from = h.end;
      run = refl;
      some = some;
      sign = sign;
      inside = refl;
      under = h.denotes;
    } in
    record {
      read = read;
      is = left_is h.read tail n c slots h.is;
      end = left_end h.read n c d.from h.end;
      denotes = subst (λ (t : Stack). Denotes t (reverse p.items.items) read) (sym (opens_is (run_of d.run) s opens))
          (subst (λ (e : List Delimiter). Denotes (opener (run_of d.run) no_inlines s) e read) (sym reversed) denotes);
      searched = subst (λ (k : List Searched). AreSearched p.items.items k (d.from + n)) (sym known)
          (subst (λ (e : List Delimiter). AreSearched e o.searched (d.from + n)) (sym items)
          (searched_push o.items.items o.searched d.from (d.from + n) d refl (omega arith) h.searched));
    }

pub after_text : (s : Stack) (o : Openers) (d : Delimiter) (slots tail : List Slot)
    → IsReading s o d.from d.run.unused d.run.sign slots tail → is_sign d.run.sign ≡ true
    → d.run.opens ≡ false
    → IsReading (left_open (run_of d.run) s) o (d.from + d.run.unused) 0 d.run.sign slots tail
after_text s o d slots tail h sign opens =
    let c = d.run.sign in
    let n = d.run.unused in
    let parts : slots_parts (replicate n (Sign c)) ≡ inlines_parts (unused_signs (run_of d.run) no_inlines) [] =
    ap slots_parts (sym (append-nil (replicate n (Sign c)))) ∙ signs_before c n [] no_inlines sign refl in
    record {
      read = h.read ++ replicate n (Sign c);
      is = left_is h.read tail n c slots h.is;
      end = left_end h.read n c d.from h.end;
      denotes = subst (λ (t : Stack). Denotes t (reverse o.items.items) (h.read ++ replicate n (Sign c)))
          (sym (text_is (run_of d.run) s opens))
          (with_more s (reverse o.items.items) h.read (replicate n (Sign c)) (unused_signs (run_of d.run) no_inlines)
          h.denotes parts);
      searched = λ r e t. let k = h.searched r e t in let w = k.1 in (k.0, omega arith);
    }

-- ---- the loop

-- what is left of a run makes this stack
pub record IsOnward (all : Stack) (o : Openers) (d : Delimiter) (slots tail : List Slot) : Type 0 where
  pub stack : Stack
  pub reading : IsReading stack o d.from d.run.unused d.run.sign slots tail
  pub makes : spec.with_run d.run.unused (run_of d.run) stack ≡ all

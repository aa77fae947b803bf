-- What is left of a run, from one match to the next.
use Rattle.std.proofs.Common.{◌≡◌, ◌∙◌, ℕ, zero, suc, ◌+◌, ◌-◌, ◌<◌, ◌≤◌, true, false, List, [], ◌∷◌, ◌++◌, length}
use Rattle.std.proofs.Common.{take}
use Rattle.std.proofs.Common.{get_or, Some, None, inl, inr, ◌⊎◌, refl, ap, sym, subst, arith}
use Rattle.std.specs.Prelude.{reverse, nat_lt}
use Rattle.std.specs.List.{AllWithin, HoldsAt}
use Rattle.htmd_lexical.proofs.Cases.{test}
use Rattle.htmd_commonmark_reading.specs.Markup.{no_inlines}
use Rattle.htmd_commonmark_reading.specs.DelimiterRuns as spec
use Rattle.htmd_commonmark_reading.specs.DelimiterRuns.{Run, Stack, base, used, less, matched, with_run}
use Rattle.htmd_commonmark_reader.specs.Openers.{AreSearched, IsNearest, IsPartner, IsUnfit, closes, is_sign, kept}
use Rattle.htmd_commonmark_reader.specs.Openers.{put_at, opener_less, closing_less, format_for}
use Rattle.htmd_commonmark_reader.specs.ReadingRuns.{IsReading}
use Rattle.htmd_commonmark_reader.specs.Runs.{run_of, used_of}
use Rattle.htmd_commonmark_reader.specs.Slots.{Denotes}
use Rattle.htmd_commonmark_reader.specs.declared.emphasis.Delimiter.{Delimiter}
use Rattle.htmd_commonmark_reader.specs.declared.emphasis.Openers.{Openers}
use Rattle.htmd_commonmark_reader.specs.declared.slots.Slot.{Slot}
use Rattle.htmd_commonmark_reader.specs.declared.slots.Slot.TheVariants.{Begin, End}
use Rattle.htmd_commonmark_reader.proofs.EmphasisLemmas.{nearest_none}
use Rattle.htmd_commonmark_reader.proofs.OpenersLemmas.{unfit_from_last}
use Rattle.htmd_commonmark_reader.proofs.ReadingRunsLemmas.{IsOnward, Closing, found_at, after_closing}
use Rattle.htmd_commonmark_reader.proofs.ReadingRunsLemmas.{after_opening, after_text}
use Rattle.htmd_commonmark_reader.proofs.RunStepsLemmas.{partner_found, no_partner_fits, no_partner_equal}
use Rattle.htmd_commonmark_reader.proofs.RunStepsLemmas.{no_partner_closes, uses, run_left, run_step}

-- the same openers, after a search
pub record Same (o p : Openers) (from : ℕ) : Type 0 where
  pub items : p.items ≡ o.items
  pub searched : AreSearched p.items.items p.searched from

moved : (s : Stack) (o p : Openers) (from n c : ℕ) (slots tail : List Slot) → IsReading s o from n c slots tail
    → Same o p from → IsReading s p from n c slots tail
moved s o p from n c slots tail h m = record {
  read = h.read;
  is = h.is;
  end = h.end;
  denotes = subst (λ v. Denotes s (reverse v.items) h.read) (sym m.items) h.denotes;
  searched = m.searched;
}

pub re_placed : (s : Stack) (o : Openers) (a b n c e : ℕ) (slots tail : List Slot)
    → IsReading s o a n c slots tail → a ≡ b → c ≡ e → IsReading s o b n e slots tail
re_placed s o a b n c e slots tail h p q =
    subst (λ k. IsReading s o k n e slots tail) p (subst (λ k. IsReading s o a n k slots tail) q h)

-- ---- a match

pub record Search (o p : Openers) (d : Delimiter) (i n : ℕ) : Type 0 where
  pub same : Same o p d.from
  pub partner : IsPartner (run_of d.run) o.items.items (Some i)
  pub some : 0 < d.run.unused
  pub count : n ≡ used_of (run_of d.run) (run_of (get_or p.items.items i d).run)

pub closing_of : (s : Stack) (o p : Openers) (d : Delimiter) (i n : ℕ) (slots tail : List Slot)
    → IsReading s o d.from d.run.unused d.run.sign slots tail → Search o p d i n
    → Closing s p d i n slots tail
closing_of s o p d i n slots tail h q =
    let r = run_of d.run in
    let reading = moved s o p d.from d.run.unused d.run.sign slots tail h q.same in
    let near : IsNearest r p.items.items i =
    subst (λ v. IsNearest r v.items i) (sym q.same.items) q.partner.1 in
    let x = get_or p.items.items i d in
    let fits : closes r (run_of x.run) ≡ true =
    subst (λ v. closes r (run_of (get_or v.items i d).run) ≡ true) (sym q.same.items) (q.partner.2 d) in
    let f = found_at r s p.items.items i d reading.read reading.denotes near in
    let some : 0 < x.run.unused = subst (λ (k : Run). 0 < k.unused) (sym f.run) f.some in
    let u = uses r (record { opened = run_of x.run; inside = no_inlines; below = base no_inlines }) q.some some fits in
    record {
      reading = reading;
      nearest = near;
      some = subst (λ k. 0 < k) (sym q.count) u.some;
      of_opener = subst (λ k. k ≤ x.run.unused) (sym q.count) u.of_opener;
      of_closing = subst (λ k. k ≤ d.run.unused) (sym q.count) u.of_closing;
    }

pub record Left (p t : Openers) (d e : Delimiter) (i n : ℕ) (slots new : List Slot) : Type 0 where
  pub items : t.items.items
      ≡ take i p.items.items
      ++ kept (nat_lt n (get_or p.items.items i d).run.unused) (opener_less (get_or p.items.items i d) n) []
  pub known : t.searched ≡ p.searched
  pub slots_are : new
      ≡ put_at d.from n (End (format_for d.run.sign n))
      (put_at ((get_or p.items.items i d).from + ((get_or p.items.items i d).run.unused - n)) n
      (Begin (format_for d.run.sign n)) slots)
  pub rest : e ≡ closing_less d n

pub onward_match : (all : Stack) (o p t : Openers) (d e : Delimiter) (i n : ℕ) (slots new tail : List Slot)
    → IsOnward all o d slots tail → Search o p d i n → Left p t d e i n slots new → IsOnward all t e new tail
onward_match all o p t d e i n slots new tail g q l =
    let r = run_of d.run in
    let c = closing_of g.stack o p d i n slots tail g.reading q in
    let x = get_or p.items.items i d in
    let st = after_closing g.stack p t d i n new slots tail
    (record { closing = c; items = l.items; known = l.known; slots_are = l.slots_are }) in
    let m = st.match in
    let fits : closes r (run_of x.run) ≡ true =
    subst (λ v. closes r (run_of (get_or v.items i d).run) ≡ true) (sym q.same.items) (q.partner.2 d) in
    let fits_m : closes r m.opened ≡ true = subst (λ (k : Run). closes r k ≡ true) st.run fits in
    let u = uses r m q.some st.some fits_m in
    let count : n ≡ used r m = q.count ∙ ap (used_of r) st.run in
    let step = run_step r g.stack m q.some st.some u
    (partner_found r g.stack m q.partner.0 st.is fits_m) in
    let made : with_run (d.run.unused - n) (less r n) (matched m n) ≡ all =
    ap (λ k. with_run (d.run.unused - k) (less r k) (matched m k)) count ∙ sym step ∙ g.makes in
    subst (λ (y : Delimiter). IsOnward all t y new tail) (sym l.rest)
    (record { stack = matched m n; reading = st.reading; makes = made })

-- ---- no match

no_partner : (s : Stack) (o : Openers) (d : Delimiter) (slots tail : List Slot)
    → IsReading s o d.from d.run.unused d.run.sign slots tail → IsPartner (run_of d.run) o.items.items None
    → spec.partner (run_of d.run) s ≡ None
no_partner s o d slots tail h q =
    test d.run.closes (λ b. by_case (q b)) (λ b. no_partner_closes (run_of d.run) s b)
  where
    by_case : (AllWithin (IsUnfit (run_of d.run)) o.items.items 0 (length o.items.items))
        ⊎ ((i : ℕ) × IsNearest (run_of d.run) o.items.items i
        × HoldsAt (λ y. closes (run_of d.run) (run_of y.run) ≡ false) o.items.items i)
        → spec.partner (run_of d.run) s ≡ None
    by_case (inl u) =
        no_partner_fits (run_of d.run) s
        (nearest_none (run_of d.run) no_inlines s (reverse o.items.items) h.read h.denotes
        (unfit_from_last (run_of d.run) o.items.items 0 u))
    by_case (inr w) =
        let f = found_at (run_of d.run) s o.items.items w.0 d h.read h.denotes w.1 in
        no_partner_equal (run_of d.run) s f.match f.is
        (subst (λ (k : Run). closes (run_of d.run) k ≡ false) f.run (w.2 d))

pub onward_open : (all : Stack) (o p t : Openers) (d : Delimiter) (slots tail : List Slot)
    → IsOnward all o d slots tail → Same o p d.from → IsPartner (run_of d.run) o.items.items None
    → is_sign d.run.sign ≡ true → 0 < d.run.unused → d.run.opens ≡ true
    → t.items.items ≡ p.items.items ++ (d ∷ []) → t.searched ≡ p.searched
    → IsReading all t (d.from + d.run.unused) 0 d.run.sign slots tail
onward_open all o p t d slots tail g m q sign some opens items known =
    let none = no_partner g.stack o d slots tail g.reading q in
    subst (λ s. IsReading s t (d.from + d.run.unused) 0 d.run.sign slots tail)
    (sym (run_left (run_of d.run) g.stack some none) ∙ g.makes)
    (after_opening g.stack p t d slots tail (moved g.stack o p d.from d.run.unused d.run.sign slots tail g.reading m)
    sign some opens items known)

pub onward_text : (all : Stack) (o p : Openers) (d : Delimiter) (slots tail : List Slot)
    → IsOnward all o d slots tail → Same o p d.from → IsPartner (run_of d.run) o.items.items None
    → is_sign d.run.sign ≡ true → 0 < d.run.unused → d.run.opens ≡ false
    → IsReading all p (d.from + d.run.unused) 0 d.run.sign slots tail
onward_text all o p d slots tail g m q sign some opens =
    let none = no_partner g.stack o d slots tail g.reading q in
    subst (λ s. IsReading s p (d.from + d.run.unused) 0 d.run.sign slots tail)
    (sym (run_left (run_of d.run) g.stack some none) ∙ g.makes)
    (after_text g.stack p d slots tail (moved g.stack o p d.from d.run.unused d.run.sign slots tail g.reading m) sign
    opens)

-- all signs are used
no_run : (k : ℕ) (r : Run) (s : Stack) → k ≡ 0 → with_run k r s ≡ s
no_run zero r s e = refl
no_run (suc k) r s e = absurd (omega arith)

pub onward_end : (all : Stack) (o : Openers) (d : Delimiter) (slots tail : List Slot)
    → IsOnward all o d slots tail → d.run.unused ≡ 0
    → IsReading all o (d.from + d.run.unused) 0 d.run.sign slots tail
onward_end all o d slots tail g z =
    let at : d.from ≡ d.from + d.run.unused = omega arith in
    subst (λ s. IsReading s o (d.from + d.run.unused) 0 d.run.sign slots tail)
    (sym (no_run d.run.unused (run_of d.run) g.stack z) ∙ g.makes)
    (re_placed g.stack o d.from (d.from + d.run.unused) 0 d.run.sign d.run.sign slots tail
    (subst (λ k. IsReading g.stack o d.from k d.run.sign slots tail) z g.reading) at refl)

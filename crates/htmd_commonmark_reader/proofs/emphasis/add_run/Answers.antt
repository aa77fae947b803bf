-- What is left of the run, step by step.
use Rattle.std.proofs.Common.{◌≡◌, ◌∙◌, ◌+◌, ◌<◌, true, length, refl, ap, sym, subst, arith}
use Rattle.std.specs.Prelude.{reverse}
use Rattle.std.proofs.lemmas.List.{reverse-reverse}
use Rattle.htmd_commonmark_reading.specs.DelimiterRuns.{with_run}
use Rattle.htmd_commonmark_reader.specs.Openers.{AreOrdered, is_sign}
use Rattle.htmd_commonmark_reader.specs.Runs.{run_of, used_of}
use Rattle.htmd_commonmark_reader.specs.declared.emphasis.Delimiter.{Delimiter}
use Rattle.htmd_commonmark_reader.specs.declared.emphasis.Openers.{Openers}
use Rattle.htmd_commonmark_reader.proofs.OpenersLemmas.{same_item}
use Rattle.htmd_commonmark_reader.proofs.ReadingRunsLemmas.{ordered, closable}
use Rattle.htmd_commonmark_reader.proofs.OnwardLemmas.{Search, Left, closing_of, re_placed, onward_match, onward_open}
use Rattle.htmd_commonmark_reader.proofs.OnwardLemmas.{onward_text, onward_end}
use Rattle.htmd_commonmark_reader.proofs.emphasis.add_run.Goals as goal

pub loop-rest-init : goal.loop-rest-init
loop-rest-init c = record {
  sign = refl;
  end = refl;
  onward = λ s tail h. record { stack = s; reading = h; makes = refl };
}

pub partner-requires-clause-sign : goal.partner-requires-clause-sign
partner-requires-clause-sign c = subst (λ k. is_sign k ≡ true) (sym c.loop-rest.invariant.sign) c.requires.sign

pub partner-requires-clause-ordered : goal.partner-requires-clause-ordered
partner-requires-clause-ordered c =
    let on = c.loop-rest.invariant.onward c.requires.state.0 c.requires.state.1 c.requires.state.2 in
    subst AreOrdered (reverse-reverse c.loop-rest.openers.items.items)
    (ordered on.stack (reverse c.loop-rest.openers.items.items) on.reading.read on.reading.denotes).pairs

pub partner-requires-clause-searched : goal.partner-requires-clause-searched
partner-requires-clause-searched c =
    let on = c.loop-rest.invariant.onward c.requires.state.0 c.requires.state.1 c.requires.state.2 in
    on.reading.searched

pub close-requires : goal.close-requires
close-requires c =
    let on = c.loop-rest.invariant.onward c.requires.state.0 c.requires.state.1 c.requires.state.2 in
    let d = c.loop-rest.rest in
    let p = c.partner.new.openers in
    let search : Search c.loop-rest.openers p d c.in-Some.index c.used-count.result = record {
      same = record { items = c.in-Some.ensures.items; searched = c.in-Some.ensures.searched };
      partner = c.in-Some.ensures.partner;
      some = c.loop-rest-test.true;
      count = c.used-count.ensures
          ∙ ap (λ (x : Delimiter). used_of (run_of d.run) (run_of x.run))
          (c.index.ensures ∙ same_item p.items.items c.in-Some.index c.index.result.now d
          (subst (λ v. c.in-Some.index < length v.items) (sym c.in-Some.ensures.items)
          c.in-Some.ensures.partner.1.within));
    } in
    closable on.stack p d c.in-Some.index c.used-count.result c.loop-rest.slots c.requires.state.1
    (closing_of on.stack c.loop-rest.openers p d c.in-Some.index c.used-count.result c.loop-rest.slots
    c.requires.state.1 on.reading search)

pub loop-rest-preserved : goal.loop-rest-preserved
loop-rest-preserved c =
    let d = c.loop-rest.rest in
    let p = c.partner.new.openers in
    let n = c.used-count.result in
    let i = c.in-Some.index in
    let t : Openers = record { items = c.close.new.openers; searched = p.searched } in
    let search : Search c.loop-rest.openers p d i n = record {
      same = record { items = c.in-Some.ensures.items; searched = c.in-Some.ensures.searched };
      partner = c.in-Some.ensures.partner;
      some = c.loop-rest-test.true;
      count = c.used-count.ensures
          ∙ ap (λ (x : Delimiter). used_of (run_of d.run) (run_of x.run))
          (c.index.ensures ∙ same_item p.items.items i c.index.result.now d
          (subst (λ v. i < length v.items) (sym c.in-Some.ensures.items) c.in-Some.ensures.partner.1.within));
    } in
    let left : Left p t d c.close.new.closing i n c.loop-rest.slots c.close.new.slots = record {
      items = c.close.ensures.openers;
      known = refl;
      slots_are = c.close.ensures.slots;
      rest = c.close.ensures.closing;
    } in
    let on = c.loop-rest.invariant.onward c.requires.state.0 c.requires.state.1 c.requires.state.2 in
    let cl = closing_of on.stack c.loop-rest.openers p d i n c.loop-rest.slots c.requires.state.1 on.reading search in
    let within = cl.of_closing in
    let froms = ap (λ (x : Delimiter). x.from) c.close.ensures.closing in
    let counts = ap (λ (x : Delimiter). x.run.unused) c.close.ensures.closing in
    record {
      sign = ap (λ (x : Delimiter). x.run.sign) c.close.ensures.closing ∙ c.loop-rest.invariant.sign;
      end = omega (arith, froms, counts, c.loop-rest.invariant.end, within);
      onward = λ s tail h.
          onward_match (with_run c.args.run.run.unused (run_of c.args.run.run) s) c.loop-rest.openers p t d
          c.close.new.closing i n c.loop-rest.slots c.close.new.slots tail (c.loop-rest.invariant.onward s tail h)
          search left;
    }

pub returns-in_ok-push-in-None : goal.returns-in_ok-push-in-None
returns-in_ok-push-in-None c = λ s tail h.
    let d = c.loop-rest.rest in
    let p = c.partner.new.openers in
    let t : Openers = record { items = c.push.new.self; searched = p.searched } in
    re_placed (with_run c.args.run.run.unused (run_of c.args.run.run) s) t (d.from + d.run.unused)
    (c.args.run.from + c.args.run.run.unused) 0 d.run.sign c.args.run.run.sign c.loop-rest.slots tail
    (onward_open (with_run c.args.run.run.unused (run_of c.args.run.run) s) c.loop-rest.openers p t d
    c.loop-rest.slots tail (c.loop-rest.invariant.onward s tail h)
    (record { items = c.in-None.ensures.items; searched = c.in-None.ensures.searched }) c.in-None.ensures.partner
    (subst (λ k. is_sign k ≡ true) (sym c.loop-rest.invariant.sign) c.requires.sign) c.loop-rest-test.true
    c.if-rest.true c.in_ok-push-in-None.ensures.items refl)
    c.loop-rest.invariant.end c.loop-rest.invariant.sign

pub returns-else-rest : goal.returns-else-rest
returns-else-rest c = λ s tail h.
    let d = c.loop-rest.rest in
    let p = c.partner.new.openers in
    re_placed (with_run c.args.run.run.unused (run_of c.args.run.run) s) p (d.from + d.run.unused)
    (c.args.run.from + c.args.run.run.unused) 0 d.run.sign c.args.run.run.sign c.loop-rest.slots tail
    (onward_text (with_run c.args.run.run.unused (run_of c.args.run.run) s) c.loop-rest.openers p d
    c.loop-rest.slots tail (c.loop-rest.invariant.onward s tail h)
    (record { items = c.in-None.ensures.items; searched = c.in-None.ensures.searched }) c.in-None.ensures.partner
    (subst (λ k. is_sign k ≡ true) (sym c.loop-rest.invariant.sign) c.requires.sign) c.loop-rest-test.true
    c.if-rest.false)
    c.loop-rest.invariant.end c.loop-rest.invariant.sign

pub returns : goal.returns
returns c = λ s tail h.
    let d = c.loop-rest.rest in
    re_placed (with_run c.args.run.run.unused (run_of c.args.run.run) s) c.loop-rest.openers
    (d.from + d.run.unused) (c.args.run.from + c.args.run.run.unused) 0 d.run.sign c.args.run.run.sign
    c.loop-rest.slots tail
    (onward_end (with_run c.args.run.run.unused (run_of c.args.run.run) s) c.loop-rest.openers d c.loop-rest.slots
    tail (c.loop-rest.invariant.onward s tail h) (omega arith))
    c.loop-rest.invariant.end c.loop-rest.invariant.sign

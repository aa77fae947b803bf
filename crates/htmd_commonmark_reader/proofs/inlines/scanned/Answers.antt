-- One step further.
use Rattle.std.proofs.Common.{◌≡◌, ◌∙◌, ◌-◌, ℕ, List, [], ◌∷◌, length, take, refl, ap, sym, subst, arith, rules, inl}
use Rattle.std.specs.Prelude.{codes, reverse}
use Rattle.htmd_commonmark_reading.specs.Brackets.{outermost, before_end}
use Rattle.htmd_commonmark_reading.specs.Brackets as spec
use Rattle.htmd_commonmark_reader.specs.References.{references_of}
use Rattle.htmd_commonmark_reader.specs.Scans.{IsScan}
use Rattle.htmd_commonmark_reader.proofs.DestinationsLemmas.{known_next}
use Rattle.htmd_commonmark_reader.proofs.MissingLemmas.{missing_next, nothing_missing}
use Rattle.htmd_commonmark_reader.proofs.RestsLemmas.{then}
use Rattle.htmd_commonmark_reader.proofs.ScansLemmas.{empty_scan}
use Rattle.htmd_commonmark_reader.proofs.inlines.scanned.Goals as goal

nothing : (s : List ℕ) → length s ≡ 0 → s ≡ []
nothing [] e = refl
nothing (c ∷ s) e = absurd (omega (arith, e))

-- nothing is in front of the whole
none_before : (s : List ℕ) → before_end s s ≡ []
none_before s = ap (λ n. take n s) (size s)
  where
    size : (s : List ℕ) → length s - length s ≡ 0
    size s = omega arith

pub loop-here-init : goal.loop-here-init
loop-here-init c =
    let text = c.args.text.now in
    let refs = references_of c.args.references.now in
    record {
      text = search rules;
      state = (
        outermost [],
        empty_scan _ c.new.ensures.items c.new-2.ensures.items c.new-3.ensures.items refl,
        tt,
        (0, refl),
        ap (λ t. spec.scanned refs text 0 (reverse t) (outermost [])) (none_before text),
      );
      known = inl c.new-known.ensures.items;
      missing = record {
        comment = nothing_missing (codes "-->") text;
        instruction = nothing_missing (codes "?>") text;
        declaration = nothing_missing (codes ">") text;
        section = nothing_missing (codes "]]>") text;
      };
    }

pub step-requires-clause-end : goal.step-requires-clause-end
step-requires-clause-end c = c.loop-here.invariant.state.3

pub step-requires-clause-state : goal.step-requires-clause-state
step-requires-clause-state c =
    let i = c.loop-here.invariant.state in
    (i.0, i.1, i.2)

pub loop-here-preserved : goal.loop-here-preserved
loop-here-preserved c =
    let i = c.loop-here.invariant.state in
    let g = c.in_ok-here.ensures.goes i.0 i.1 i.2 in
    record {
      text = search rules;
      state = (g.brackets, g.stack, g.ends, then c.args.text.now c.loop-here.here.now _ i.3 g.rest, sym g.same ∙ i.4);
      known = known_next c.step.new.known.items c.loop-here.here.now _ c.step.ensures.known g.rest g.shorter;
      missing = missing_next c.step.new.missing c.loop-here.here.now _ c.step.ensures.missing g.rest g.shorter;
    }

pub loop-here-smaller : goal.loop-here-smaller
loop-here-smaller c =
    let i = c.loop-here.invariant.state in
    let g = c.in_ok-here.ensures.goes i.0 i.1 i.2 in
    g.shorter

pub returns : goal.returns
returns c =
    let i = c.loop-here.invariant.state in
    let text = c.args.text.now in
    let refs = references_of c.args.references.now in
    let empty : length c.loop-here.here.now ≡ 0 = search rules in
    let none = nothing c.loop-here.here.now empty in
    subst (λ x. IsScan x c.loop-here.scan)
    (ap (λ h. spec.scanned refs h 0 (reverse (before_end text c.loop-here.here.now)) i.0) (sym none) ∙ i.4) i.1

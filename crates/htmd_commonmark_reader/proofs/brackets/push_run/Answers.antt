-- One more run.
use Rattle.std.proofs.Common.{◌≡◌, ◌∙◌, [], ◌∷◌, ◌++◌, length, replicate, ap, rules, arith}
use Rattle.htmd_commonmark_reading.specs.DelimiterRuns.{run}
use Rattle.htmd_commonmark_reader.specs.Runs.{run_of}
use Rattle.htmd_commonmark_reader.specs.declared.brackets.Scan.{Scan}
use Rattle.htmd_commonmark_reader.specs.declared.emphasis.Delimiter.{Delimiter}
use Rattle.htmd_commonmark_reader.specs.declared.slots.Slot.TheVariants.{Sign}
use Rattle.htmd_commonmark_reader.proofs.ScansLemmas.{hold, pushed, one_run}
use Rattle.htmd_commonmark_reader.proofs.brackets.push_run.Goals as goal

pub returns : goal.returns
returns c = λ b h.
    let o = c.args.scan.now in
    let n : Scan = record {
      slots = c.loop.scan.slots;
      runs = c.push-2.new.self;
      brackets = c.loop.scan.brackets;
      active = c.loop.scan.active;
    } in
    let d : Delimiter = record { run = c.args.run; from = c.len-from.result } in
    let all : c.loop.counter ≡ c.args.run.unused = omega arith in
    let at : c.len-from.result ≡ length o.slots.items = search rules in
    pushed b o n (replicate c.args.run.unused (Sign c.args.run.sign)) (d ∷ [])
    (run (run_of c.args.run) ∷ []) h
    (record {
      slots_are = c.loop.invariant.slots
          ∙ ap (λ k. o.slots.items ++ replicate k (Sign c.args.run.sign)) all;
      runs_are = c.in_ok-push-2.ensures.items ∙ ap (λ v. v.items ++ (d ∷ [])) c.loop.invariant.runs;
      brackets = c.loop.invariant.brackets;
      active = c.loop.invariant.active;
    })
    (hold (run (run_of c.args.run) ∷ []) (d ∷ []) (length o.slots.items)
    (replicate c.args.run.unused (Sign c.args.run.sign)) (one_run d (length o.slots.items) at c.requires))

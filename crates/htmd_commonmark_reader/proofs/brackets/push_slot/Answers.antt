-- One more token.
use Rattle.std.proofs.Common.{refl, sym, [], ◌∷◌, length}
use Rattle.std.proofs.lemmas.List.{append-nil}
use Rattle.htmd_commonmark_reader.specs.declared.brackets.Scan.{Scan}
use Rattle.htmd_commonmark_reader.proofs.ScansLemmas.{pushed, one_finished}
use Rattle.htmd_commonmark_reader.proofs.brackets.push_slot.Goals as goal

pub returns : goal.returns
returns c = λ b us x h a e.
    let o = c.args.scan.now in
    let n : Scan = record { slots = c.push.new.self; runs = o.runs; brackets = o.brackets; active = o.active } in
    pushed b o n (c.args.slot ∷ []) [] us h
    (record {
      slots_are = c.in_ok-push.ensures.items;
      runs_are = sym (append-nil o.runs.items);
      brackets = refl;
      active = refl;
    })
    (one_finished us x (c.args.slot ∷ []) (length o.slots.items) a e)

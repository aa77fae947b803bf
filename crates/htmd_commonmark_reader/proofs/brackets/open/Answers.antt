-- One more bracket.
use Rattle.std.proofs.Common.{◌≡◌, length, refl, rules}
use Rattle.htmd_commonmark_reader.specs.declared.brackets.Bracket.{Bracket}
use Rattle.htmd_commonmark_reader.specs.declared.brackets.Scan.{Scan}
use Rattle.htmd_commonmark_reader.proofs.ScansLemmas.{opened}
use Rattle.htmd_commonmark_reader.proofs.brackets.open.Goals as goal

pub returns : goal.returns
returns c = λ b h.
    let o = c.args.scan.now in
    let n : Scan = record { slots = c.push.new.self; runs = o.runs; brackets = c.push-2.new.self; active = o.active } in
    let k : Bracket = record {
      is_image = c.args.is_image;
      text = c.args.text;
      slot = c.len.result;
      runs = c.len-2.result;
    } in
    let slots : c.len.result ≡ length o.slots.items = search rules in
    let runs : c.len-2.result ≡ length o.runs.items = search rules in
    opened b o n k h c.in_ok-push.ensures.items refl c.in_ok-push-2.ensures.items refl slots runs

-- The bracket and the one that closes it are text.
use Rattle.std.proofs.Common.{◌≡◌, ◌∙◌, ◌-◌, length, take, min, vec_len, refl, ap, rules}
use Rattle.htmd_commonmark_reader.specs.declared.brackets.Scan.{Scan}
use Rattle.htmd_commonmark_reader.proofs.ScansLemmas.{text_closed}
use Rattle.htmd_commonmark_reader.proofs.brackets.close_as_text.Goals as goal

pub returns : goal.returns
returns c = λ i v text ts below h.
    let o = c.args.scan.now in
    let n : Scan = record {
      slots = c.push.new.self;
      runs = o.runs;
      brackets = c.pop-bracket.new.self;
      active = c.min-scan.result;
    } in
    let size : vec_len o.brackets ≡ length o.brackets.items = search rules in
    let left : c.len.result ≡ length c.pop-bracket.new.self.items = search rules in
    text_closed i v text ts below o n h (record {
      slots_are = c.in_ok-push.ensures.items;
      runs_are = refl;
      brackets = c.pop-bracket.ensures.rest ∙ ap (λ k. take (k - 1) o.brackets.items) size;
      active = c.min-scan.ensures ∙ ap (min o.active) left;
    })

-- The prefix is a part of what it was.
use Rattle.std.proofs.Common.{length, arith, ap, ◌∙◌, string_bytes}
use Rattle.std.specs.Char.{is_ascii}
use Rattle.std.specs.List.{list_all}
use Rattle.std.proofs.lemmas.List.{length-take-le}
use Rattle.htmd_commonmark.proofs.PagesLemmas.{ascii-take}
use Rattle.htmd_commonmark.proofs.lines.Lines.leave.Goals as goal

pub invariant_of-self : goal.invariant_of-self
invariant_of-self c =
    let prefix = string_bytes c.self.inside.prefix in
    let n = c.min-len.result in
    record {
      within = omega (
        arith,
        c.min-self-inside.ensures,
        c.min-len.ensures,
        c.len.ensures,
        ap length c.truncate.ensures.bytes,
        length-take-le n prefix (omega (arith, c.min-len.ensures, c.len.ensures)),
      );
      ascii = ap (list_all is_ascii) c.truncate.ensures.bytes ∙ ascii-take n prefix c.self.invariant.ascii;
    }

-- What is left to prove of `read_content`.
use Rattle.std.proofs.Common.{◌≡◌, ◌<◌, ◌≤◌, Err, length, rules, sym, subst}
use Rattle.htmd_tree.specs.Advances.{Ends}
use Rattle.htmd_tree.proofs.PiecesLemmas.{read_nothing, read_more, read_stops, ends_open, ends_well}
use Rattle.htmd_tree.proofs.reader.Reader.read_content.Goals as goal

pub loop-self-init : goal.loop-self-init
loop-self-init c = (c.requires.reading, λ has_doctype fs h. read_nothing c.args.self.now has_doctype fs h)

pub loop-self-preserved : goal.loop-self-preserved
loop-self-preserved c = (
  c.in_ok-read_piece.ensures.reading,
  λ has_doctype fs h.
      read_more c.args.self.now c.loop-self.self c.read_piece.new.self has_doctype fs
      (c.loop-self.invariant.1 has_doctype fs h) c.in_ok-read_piece.ensures.advances,
)

pub returns-in_err-read_piece : goal.returns-in_err-read_piece
returns-in_err-read_piece c = record {
  ends = λ has_doctype fs h.
      let stop = c.in_err-read_piece.field-0.0 in
      let e : c.from_residual.result ≡ Err stop = first_of (search rules, search (rules, c.from_residual.ensures)) in
      subst (λ r. Ends c.args.self.now c.read_piece.new.self has_doctype fs r) (sym e)
      (read_stops c.args.self.now c.loop-self.self c.read_piece.new.self has_doctype fs stop
      (c.loop-self.invariant.1 has_doctype fs h) c.in_err-read_piece.ensures.advances);
}

pub returns-then-len-gt1 : goal.returns-then-len-gt1
returns-then-len-gt1 c = record {
  ends = λ has_doctype fs h.
      let z : length c.loop-self.self.rest.now ≡ 0 = search rules in
      let l : 1 < length c.loop-self.self.stack.items = search rules in
      ends_open c.args.self.now c.loop-self.self has_doctype fs c.refused.result
      (c.loop-self.invariant.1 has_doctype fs h) z l c.refused.ensures;
}

pub returns : goal.returns
returns c = record {
  ends = λ has_doctype fs h.
      let z : length c.loop-self.self.rest.now ≡ 0 = search rules in
      let l : length c.loop-self.self.stack.items ≤ 1 = search rules in
      ends_well c.args.self.now c.loop-self.self has_doctype fs (c.loop-self.invariant.1 has_doctype fs h) z l;
}

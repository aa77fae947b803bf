-- What is left to prove of `character_named`.
use Rattle.std.proofs.Common.{◌∙◌, ℕ, List, [], ap, sym, arith}
use Rattle.std.specs.Borrow.{Bor}
use Rattle.std.specs.Str.{bytes_eq}
use Rattle.htmd_tree.proofs.DecodedCharactersLemmas.{name_more, name_found}
use Rattle.htmd_tree.proofs.reader.references.character_named.Goals as goal

abbrev none : Bor (List ℕ) × ℕ
none = (record { ref_ptr = (0, 0); now = [] }, 0)

pub returns-then-eq : goal.returns-then-eq
returns-then-eq c =
    let same = ap (bytes_eq c.args.name.now) (sym c.as_bytes.ensures.value) ∙ sym c.eq.ensures ∙ c.if-eq.true in
    sym (name_found c.args.names.now c.args.name.now c.loop-known.known-index none (omega arith) same)
    ∙ c.loop-known.invariant

pub loop-known-preserved : goal.loop-known-preserved
loop-known-preserved c =
    let other = ap (bytes_eq c.args.name.now) (sym c.as_bytes.ensures.value) ∙ sym c.eq.ensures ∙ c.if-eq.false in
    sym (name_more c.args.names.now c.args.name.now c.loop-known.known-index none (omega arith) other)
    ∙ c.loop-known.invariant

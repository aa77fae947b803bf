-- The innermost paragraph takes a line.
use Rattle.std.proofs.Common.{◌≡◌, sym, subst, rules}
use Rattle.std.proofs.lemmas.Result.{on_ok_weaker}
use Rattle.htmd_commonmark_reading.specs.Containers.{lazily}
use Rattle.htmd_commonmark_reader.specs.LineViews.{line_of}
use Rattle.htmd_commonmark_reader.specs.OpenBlocks.{Holds, inner_leaf}
use Rattle.htmd_commonmark_reader.specs.OpenLeaves.{IsLeaf}
use Rattle.htmd_commonmark_reader.specs.declared.leaves.Leaf.TheVariants as variant
use Rattle.htmd_commonmark_reader.specs.declared.leaves.Paragraph.{Paragraph}
use Rattle.htmd_commonmark_reader.proofs.OpenBlocksLemmas.{refilled, innermost, inner_kinds, emptied_here, lazily_other}
use Rattle.htmd_commonmark_reader.proofs.blocks.Blocks.push_lazily.Goals as goal

pub returns-in-Paragraph : goal.returns-in-Paragraph
returns-in-Paragraph c =
    let old = c.args.self.now in
    let n = c.lengthen.new.self in
    let l = line_of c.args.line in
    let leaf : old.leaf ≡ variant.Paragraph c.in-Paragraph.paragraph = search rules in
    let left : c.replace.new.dest ≡ variant.Nothing = search rules in
    on_ok_weaker c.lengthen.result (λ e p done g o h.
    let i = subst (λ x. IsLeaf x (inner_leaf o)) leaf h.inner in
    let m = innermost p done g o in
    m.lazily_back l n
    (subst (λ q. Holds m.before m.content m.gap (lazily q l) n) (sym i.2)
    (e m.before m.content m.gap i.0 i.1
    (emptied_here m.before m.content m.gap (inner_leaf o) old c.replace.new.dest left (inner_kinds o) (m.to old h))
    i.3))) c.lengthen.ensures

pub returns-in_default : goal.returns-in_default
returns-in_default c = λ p done g o h.
    let old = c.args.self.now in
    let l = line_of c.args.line in
    let n = refilled old c.replace.result in
    let taken : c.replace.result ≡ old.leaf = search rules in
    let no : (x : Paragraph) → c.replace.result ≡ variant.Paragraph x → ⊥ = c.in_default.not-Paragraph in
    let m = innermost p done g o in
    let is = subst (λ f. IsLeaf f (inner_leaf o)) (sym taken) h.inner in
    m.lazily_back l n
    (subst (λ q. Holds m.before m.content m.gap q n) (sym (lazily_other c.replace.result (inner_leaf o) l no is))
    (subst (λ f. Holds m.before m.content m.gap (inner_leaf o) (refilled old f)) (sym taken) (m.to old h)))

-- The space, the first inline and the others.
use Rattle.std.proofs.Common.{◌≡◌, ◌++◌, ◌∷◌, [], map, sym, ap, ◌∙◌}
use Rattle.std.specs.Vec.Iter.{into_iter_items, into_iter_len}
use Rattle.std.proofs.lemmas.List.{append-nil, map-id, nil_from_length}
use Rattle.std.proofs.lemmas.Iterator.Adapters.{YieldsList-from_vec}
use Rattle.std.proofs.lemmas.Iterator.Consumers.{YieldsList-end}
use Rattle.htmd_lexical.specs.Characters.{space}
use Rattle.htmd_document.specs.DocumentViews.{inline_of}
use Rattle.htmd_chunks.specs.Words.{with_inline, with_text_behind, with_word}
use Rattle.htmd_chunks.proofs.WordStepsLemmas.{word-put, no-word-put}
use Rattle.htmd_chunks.proofs.words.push_word.Goals.{in-Some+in_ok-push_inline, in_default}
use Rattle.htmd_chunks.proofs.words.push_word.Goals as goal

pub returns : goal.returns
returns c =
    let later = into_iter_items c.next.new.self in
    let all = YieldsList-from_vec {s = c.into_iter-x-iterator.result} later
    (ap into_iter_items c.into_iter-x-iterator.ensures.into_iter_gives)
    (ap into_iter_len c.into_iter-x-iterator.ensures.into_iter_gives ∙ c.next.new.self.rest.ok.0) in
    let e = YieldsList-end all c.loop-x.yielded c.loop-x.x-iterator c.loop-x.yielded_by c.next-in-loop-x.result
    c.next-in-loop-x.new.self c.in-None.is c.next-in-loop-x.ensures.steps in
    let rest = c.loop-x.invariant
    ∙ ap (λ l. map inline_of c.match-next.line.items ++ map inline_of l) (sym (map-id c.loop-x.yielded) ∙ e.0) in
    let xs = map inline_of c.args.line.now.items in
    let word = c.into_iter-rest.ensures.rest in
    elim c.match-next.branch [
      | in-Some+in_ok-push_inline w ↦
          let x = w.in-Some.x in
          let items : c.args.word.items ≡ x ∷ later = sym word ∙ w.in-Some.ensures.items in
          rest
          ∙ ap (λ v. map inline_of v.items ++ map inline_of later) w.line-is
          ∙ ap (λ l. l ++ map inline_of later)
          (w.in_ok-push_inline.ensures ∙ ap (λ l. with_inline l (inline_of x)) c.in_ok-push_behind.ensures)
          ∙ word-put xs (inline_of x) (map inline_of later)
          ∙ ap (λ l. with_word xs (map inline_of l)) (sym items)
      | in_default w ↦
          let none : c.args.word.items ≡ [] =
          sym word
          ∙ nil_from_length (into_iter_items c.into_iter-rest.result)
          (sym c.into_iter-rest.result.rest.ok.0 ∙ w.in_default.ensures.cases.0) in
          let no_more : later ≡ [] = sym w.in_default.ensures.items ∙ word ∙ none in
          rest
          ∙ ap (λ v. map inline_of v.items ++ map inline_of later) w.line-is
          ∙ ap (λ l. l ++ map inline_of later) c.in_ok-push_behind.ensures
          ∙ ap (λ l. with_text_behind xs (space ∷ []) ++ map inline_of l) no_more
          ∙ append-nil (with_text_behind xs (space ∷ []))
          ∙ no-word-put xs
          ∙ ap (λ l. with_word xs (map inline_of l)) (sym none)
    ]

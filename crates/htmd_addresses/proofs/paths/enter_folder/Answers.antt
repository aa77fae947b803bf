-- One name of a path more.
use Rattle.std.proofs.Common.{◌≡◌, ◌+◌, ◌-◌, ◌==◌, ◌∙◌, List, ℕ, length, drop, take, arith, rules, sym, ap}
use Rattle.std.specs.Slice.Iter.{split_rest}
use Rattle.std.proofs.lemmas.List.{length_push, drop_all}
use Rattle.std.proofs.lemmas.Iterator.Splits.{YieldsList-from_slice_split}
use Rattle.std.proofs.lemmas.Iterator.Consumers.{YieldsList-turn, YieldsList-end}
use Rattle.htmd_lexical.specs.Characters.{slash}
use Rattle.htmd_addresses.specs.PageViews.{names_of}
use Rattle.htmd_addresses.specs.Paths.{enter_all, name_len, names_before}
use Rattle.htmd_addresses.proofs.PathsLemmas.{enter_all-turn}
use Rattle.htmd_addresses.proofs.paths.enter_folder.Goals as goal

pub loop-name-preserved : goal.loop-name-preserved
loop-name-preserved c =
    let path = c.args.path.now in
    let names = names_before path in
    let yielded = c.loop-name.yielded in
    let name : List ℕ = c.in-Some.name.now in
    let rest : split_rest c.into_iter-name-iterator.result ≡ take (length path - name_len path) path = search rules in
    let turn = YieldsList-turn
    (YieldsList-from_slice_split _ (λ b. b == slash) (take (length path - name_len path) path) rest (cc) (cc)
    (λ x b q k. search rules))
    yielded _ c.loop-name.yielded_by _ _ c.in-Some.name c.in-Some.is c.next.ensures.steps in
    ap (λ n. enter_all (names_of c.enter.new.folder.items) (drop n names)) (length_push yielded c.in-Some.name)
    ∙ (ap (λ f. enter_all f (drop (length yielded + 1) names)) c.in_ok-enter.ensures
    ∙ (sym (enter_all-turn (names_of c.loop-name.folder.items) names (length yielded) name turn.0 turn.1)
    ∙ c.loop-name.invariant))

pub returns : goal.returns
returns c =
    let path = c.args.path.now in
    let names = names_before path in
    let rest : split_rest c.into_iter-name-iterator.result ≡ take (length path - name_len path) path = search rules in
    let all = YieldsList-end
    (YieldsList-from_slice_split _ (λ b. b == slash) (take (length path - name_len path) path) rest (cc) (cc)
    (λ x b q k. search rules))
    c.loop-name.yielded _ c.loop-name.yielded_by _ _ c.in-None.is c.next.ensures.steps in
    sym (ap (enter_all (names_of c.loop-name.folder.items))
    (drop_all (length c.loop-name.yielded) names (omega (arith, all.1))))
    ∙ c.loop-name.invariant

-- One name further, and after the last one.
use Rattle.std.proofs.Common.{◌≡◌, ◌∙◌, ap, arith, length, [], ◌∷◌, ◌++◌, ◌+◌}
use Rattle.std.proofs.lemmas.Iterator.Splits.{YieldsList-from_str_split}
use Rattle.std.proofs.lemmas.Iterator.Consumers.{YieldsList-turn, YieldsList-end}
use Rattle.std.proofs.lemmas.List.{length_push}
use Rattle.htmd_files.specs.Paths.{parts, is_absolute, further}
use Rattle.htmd_files.specs.PlaceViews.{names_back}
use Rattle.htmd_files.proofs.PathsLemmas.{led_turn, led_end}
use Rattle.htmd_files.proofs.places.place_of.Goals as goal

pub loop-name-preserved : goal.loop-name-preserved
loop-name-preserved c =
    let i = c.into_iter-name-iterator.ensures in
    let a = c.split-name-items.ensures.text in
    let b = c.split-name-items.ensures.has_more in
    let p = c.split-name-items.ensures.pattern in
    let t =
    YieldsList-turn
    (YieldsList-from_str_split {s = c.into_iter-name-iterator.result} 47 c.args.path.now (omega arith) (cc) (cc) (cc))
    c.loop-name.yielded _ c.loop-name.yielded_by _ _ c.in-Some.name
    c.in-Some.is c.next.ensures.steps in
    let n : length (c.loop-name.yielded ++ c.in-Some.name ∷ []) ≡ length c.loop-name.yielded + 1 =
    length_push c.loop-name.yielded c.in-Some.name in
    let f = c.in_ok-enter.ensures.ok
    ∙ ap (λ b. further b (names_back c.loop-name.place) c.in-Some.name.now) c.loop-name.invariant.start in
    record {
      start = c.in_ok-enter.ensures.start ∙ c.loop-name.invariant.start;
      so_far = rw n (led_turn (is_absolute c.args.path.now) (parts c.args.path.now) (length c.loop-name.yielded)
          c.in-Some.name.now (names_back c.loop-name.place) _ _ t c.loop-name.invariant.so_far f);
    }

pub returns : goal.returns
returns c =
    let i = c.into_iter-name-iterator.ensures in
    let a = c.split-name-items.ensures.text in
    let b = c.split-name-items.ensures.has_more in
    let p = c.split-name-items.ensures.pattern in
    let t =
    YieldsList-end
    (YieldsList-from_str_split {s = c.into_iter-name-iterator.result} 47 c.args.path.now (omega arith) (cc) (cc) (cc))
    c.loop-name.yielded _ c.loop-name.yielded_by _ _ c.in-None.is
    c.next.ensures.steps in
    led_end c.loop-name.place.is_absolute c.args.path.now c.loop-name.place.names.items (length c.loop-name.yielded) t.1
    c.loop-name.invariant.start c.loop-name.invariant.so_far

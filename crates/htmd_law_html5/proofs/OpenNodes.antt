-- What is open after elements were popped was open before, in the same order.
use Rattle.std.proofs.Common.{◌≡◌, ℕ, ◌<◌, ◌≤◌, Bool, true, false, List, [], ◌∷◌, ◌++◌, length, refl, sym, arith}
use Rattle.std.proofs.lemmas.Bool.{true≢false}
use Rattle.std.specs.Prelude.{◌==◌, ◌&&◌, if◌then◌else◌}
use Rattle.htmd_lexical.proofs.Cases.{test}
use Rattle.htmd_html5_state.specs.Names.{NameValue, html}
use Rattle.htmd_html5_state.specs.Nodes.{NodeValue}
use Rattle.htmd_html5_state.specs.OpenElements.{OpenValue, is_in, has_name, is_open_node, current_is, is_in_scope}
use Rattle.htmd_html5_state.specs.OpenElements.{is_closable, pop, pop_through, pop_until, clear_to, pop_while, close}
use Rattle.htmd_html5_state.specs.OpenElements.{close_name, outermost, without, inside, around}
use Rattle.htmd_html5_state.specs.Foreign.{pop_if, leave_foreign, ends_foreign}
use Rattle.htmd_html5_state.specs.declared.sets.NameSet.{NameSet}
use Rattle.htmd_html5_state.specs.declared.sets.NameSet.TheVariants.{Only, Headings}
use Rattle.htmd_html5_state.specs.declared.sets.Scope.{Scope}
use Rattle.htmd_html5.specs.BodyStarts.{close_heading, close_option}
use Rattle.htmd_html5.specs.InSelect.{close_group, close_option_in_group}
use Rattle.htmd_html5_state.specs.declared.names.TagName.TheVariants as tags

-- an open node of one list is open in another
abbrev pub OpenIn : List OpenValue → List OpenValue → Type 0
OpenIn es stack = (n : ℕ) → is_open_node n es ≡ true → is_open_node n stack ≡ true

pub open_more : (e : OpenValue) (es : List OpenValue) → OpenIn es (e ∷ es)
open_more e es n l = test (e.node == n) (λ t. rw t refl) (λ t. rw t l)

pub open_under : (e : OpenValue) (es stack : List OpenValue) → OpenIn es stack → OpenIn (e ∷ es) (e ∷ stack)
open_under e es stack f n l = test (e.node == n) (λ t. rw t refl) (λ t. rw t (f n (rw t at l)))

-- ---- lists of what is open

-- each of these is like this
abbrev pub EachOpen : (OpenValue → Type 0) → List OpenValue → Type 0
EachOpen P [] = Unit {0}
EachOpen P (e ∷ es) = P e × EachOpen P es

-- each element's rank is below that of the element right inside it, and the innermost's below a limit
abbrev pub Below : (ℕ → ℕ) → ℕ → List OpenValue → Type 0
Below rank limit [] = Unit {0}
Below rank limit (e ∷ es) = (rank e.node < limit) × Below rank (rank e.node) es

pub below_more : (rank : ℕ → ℕ) (low high : ℕ) (es : List OpenValue) → low ≤ high → Below rank low es
    → Below rank high es
below_more rank low high [] l h = tt
below_more rank low high (e ∷ es) l h = let a = h.0 in (omega arith, h.1)

pub below_tail : (rank : ℕ → ℕ) (limit : ℕ) (e : OpenValue) (es : List OpenValue)
    → Below rank limit (e ∷ es) → Below rank limit es
below_tail rank limit e es h = let a = h.0 in below_more rank (rank e.node) limit es (omega arith) h.1

pub each_more : {P Q : OpenValue → Type 0} (es : List OpenValue) → ((e : OpenValue) → P e → Q e)
    → EachOpen P es → EachOpen Q es
each_more [] f h = tt
each_more (e ∷ es) f h = (f e h.0, each_more es f h.1)

pub each_append : (P : OpenValue → Type 0) (es stack : List OpenValue) → EachOpen P es → EachOpen P stack
    → EachOpen P (es ++ stack)
each_append P [] stack h g = g
each_append P (e ∷ es) stack h g = (h.0, each_append P es stack h.1 g)

-- ---- some of the elements, in the same order

pub record Fewer (es stack : List OpenValue) : Type 0 where
  pub opened : OpenIn es stack
  pub each : (p : OpenValue → Bool) → EachOpen (λ e. p e ≡ true) stack → EachOpen (λ e. p e ≡ true) es
  pub below : (rank : ℕ → ℕ) (limit : ℕ) → Below rank limit stack → Below rank limit es
  pub shorter : length es ≤ length stack

pub all_of : (es : List OpenValue) → Fewer es es
all_of es = record { opened = λ n l. l; each = λ p h. h; below = λ rank limit h. h; shorter = omega arith }

none_of : (es : List OpenValue) → Fewer [] es
none_of es = record {
  opened = λ n l. absurd (true≢false (sym l));
  each = λ p h. tt;
  below = λ rank limit h. tt;
  shorter = omega arith;
}

pub fewer_then : {es some stack : List OpenValue} → Fewer es some → Fewer some stack → Fewer es stack
fewer_then {es} {some} {stack} a b = record {
  opened = λ n l. b.opened n (a.opened n l);
  each = λ p h. a.each p (b.each p h);
  below = λ rank limit h. a.below rank limit (b.below rank limit h);
  shorter = let x = a.shorter in let y = b.shorter in omega arith;
}

pub skip : (e : OpenValue) {es stack : List OpenValue} → Fewer es stack → Fewer es (e ∷ stack)
skip e {es} {stack} f = record {
  opened = λ n l. open_more e stack n (f.opened n l);
  each = λ p h. f.each p h.1;
  below = λ rank limit h. f.below rank limit (below_tail rank limit e stack h);
  shorter = let x = f.shorter in omega arith;
}

pub keep : (e : OpenValue) {es stack : List OpenValue} → Fewer es stack → Fewer (e ∷ es) (e ∷ stack)
keep e {es} {stack} f = record {
  opened = open_under e es stack f.opened;
  each = λ p h. (h.0, f.each p h.1);
  below = λ rank limit h. (h.0, f.below rank (rank e.node) h.1);
  shorter = let x = f.shorter in omega arith;
}

pub pop_fewer : (stack : List OpenValue) → Fewer (pop stack) stack
pop_fewer [] = all_of []
pop_fewer (e ∷ es) = skip e (all_of es)

pub pop_through_fewer : (wanted : OpenValue → Bool) (stack : List OpenValue)
    → Fewer (pop_through wanted stack) stack
pop_through_fewer wanted [] = all_of []
pop_through_fewer wanted (e ∷ es) =
    test (wanted e) (λ t. rw t (skip e (all_of es))) (λ t. rw t (skip e (pop_through_fewer wanted es)))

pub pop_until_fewer : (set : NameSet) (stack : List OpenValue) → Fewer (pop_until set stack) stack
pop_until_fewer set stack = pop_through_fewer (is_in set) stack

pub clear_to_fewer : (set : NameSet) (stack : List OpenValue) → Fewer (clear_to set stack) stack
clear_to_fewer set [] = all_of []
clear_to_fewer set (e ∷ es) =
    test (is_in set e) (λ t. rw t (all_of (e ∷ es))) (λ t. rw t (skip e (clear_to_fewer set es)))

pub pop_while_fewer : (set : NameSet) (stack : List OpenValue) → Fewer (pop_while set stack) stack
pop_while_fewer set [] = all_of []
pop_while_fewer set (e ∷ es) =
    test (is_in set e) (λ t. rw t (skip e (pop_while_fewer set es))) (λ t. rw t (all_of (e ∷ es)))

pub close_fewer : (set : NameSet) (scope : Scope) (stack : List OpenValue) → Fewer (close set scope stack) stack
close_fewer set scope stack =
    test (is_in_scope set scope stack) (λ t. rw t (pop_until_fewer set stack)) (λ t. rw t (all_of stack))

pub close_name_fewer : (name : NameValue) (stack : List OpenValue) → Fewer (close_name name stack) stack
close_name_fewer name stack =
    test (is_closable name stack) (λ t. rw t (pop_through_fewer (has_name (html name)) stack))
    (λ t. rw t (all_of stack))

pub outermost_fewer : (stack : List OpenValue) → Fewer (outermost stack) stack
outermost_fewer [] = all_of []
outermost_fewer (e ∷ []) = all_of (e ∷ [])
outermost_fewer (e ∷ f ∷ es) = skip e (outermost_fewer (f ∷ es))

pub without_fewer : (m : ℕ) (stack : List OpenValue) → Fewer (without m stack) stack
without_fewer m [] = all_of []
without_fewer m (e ∷ es) =
    test (e.node == m) (λ t. rw t (skip e (all_of es))) (λ t. rw t (keep e (without_fewer m es)))

pub inside_fewer : (m : ℕ) (stack : List OpenValue) → Fewer (inside m stack) stack
inside_fewer m [] = all_of []
inside_fewer m (e ∷ es) =
    test (e.node == m) (λ t. rw t (none_of (e ∷ es))) (λ t. rw t (keep e (inside_fewer m es)))

pub around_fewer : (m : ℕ) (stack : List OpenValue) → Fewer (around m stack) stack
around_fewer m [] = all_of []
around_fewer m (e ∷ es) =
    test (e.node == m) (λ t. rw t (skip e (all_of es))) (λ t. rw t (skip e (around_fewer m es)))

-- ---- where the current node is one of these

pop_where : (b : Bool) (stack : List OpenValue) → Fewer (if b then pop stack else stack) stack
pop_where true stack = pop_fewer stack
pop_where false stack = all_of stack

pub close_heading_fewer : (stack : List OpenValue) → Fewer (close_heading stack) stack
close_heading_fewer stack = pop_where (current_is Headings stack) stack

pub close_option_fewer : (stack : List OpenValue) → Fewer (close_option stack) stack
close_option_fewer stack = pop_where (current_is (Only tags.OptionTag) stack) stack

close_group_fewer : (stack : List OpenValue) → Fewer (close_group stack) stack
close_group_fewer stack = pop_where (current_is (Only tags.OptGroup) stack) stack

pub option_and_group_fewer : (stack : List OpenValue) → Fewer (close_group (close_option stack)) stack
option_and_group_fewer stack = fewer_then (close_group_fewer (close_option stack)) (close_option_fewer stack)

pub group_fewer : (stack : List OpenValue) → Fewer (close_group (close_option_in_group stack)) stack
group_fewer stack =
    fewer_then (close_group_fewer (close_option_in_group stack))
    (pop_where (current_is (Only tags.OptionTag) stack && current_is (Only tags.OptGroup) (pop stack)) stack)

pub pop_if_fewer : (b : Bool) (stack : List OpenValue) → Fewer (pop_if b stack) stack
pop_if_fewer true stack = pop_fewer stack
pop_if_fewer false stack = all_of stack

pub leave_foreign_fewer : (nodes : List NodeValue) (stack : List OpenValue) → Fewer (leave_foreign nodes stack) stack
leave_foreign_fewer nodes [] = all_of []
leave_foreign_fewer nodes (e ∷ es) =
    test (ends_foreign nodes e) (λ t. rw t (all_of (e ∷ es))) (λ t. rw t (skip e (leave_foreign_fewer nodes es)))

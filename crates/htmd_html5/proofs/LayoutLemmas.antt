-- Documents as the program lays them out.
use Rattle.std.proofs.Common.{◌≡◌, ◌∙◌, ℕ, zero, suc, ◌+◌, ◌-◌, ◌≤◌, List, [], ◌∷◌, ◌++◌, length, map, refl, ap, sym}
use Rattle.std.proofs.Common.{Some, Result, OnOk, arith, subst}
use Rattle.std.proofs.lemmas.List.{reverse-append, map_push, append_assoc, append-nil}
use Rattle.std.proofs.lemmas.List.Elements.{All-nil, All-cons, All-append}
use Rattle.std.proofs.lemmas.Result.{on_ok_weaker}
use Rattle.std.specs.Option.{option_to_list}
use Rattle.std.specs.Prelude.{reverse}
use Rattle.htmd_nodes.specs.Items.{Item}
use Rattle.htmd_html5_state.specs.Nodes.{NodeValue, children_at}
use Rattle.htmd_html5.specs.Layout.{Coming, Layout, coming, put_node, put_next, layout_within, with_children_under}
use Rattle.htmd_html5.specs.Layout.{first_layout, document_of}
use Rattle.htmd_html5.specs.LayoutViews.{coming_of, coming_under, work_of, MayHold, AllMayHold}
use Rattle.htmd_html5.specs.declared.layout.Coming as program

-- ---- what comes next

-- what was put last comes next
pub work_of-push : (cs : List program.Coming) (c : program.Coming)
    → work_of (cs ++ c ∷ []) ≡ coming_of c ∷ work_of cs
work_of-push cs c = rw (map_push coming_of cs c, reverse-append (map coming_of cs) (coming_of c ∷ [])) refl

pub work_of-pop : (cs rest : List program.Coming) (c : program.Coming) → cs ≡ rest ++ option_to_list (Some c)
    → work_of cs ≡ coming_of c ∷ work_of rest
work_of-pop cs rest c e = ap work_of e ∙ work_of-push rest c

pub work_of-none : (cs : List program.Coming) → length cs ≡ 0 → work_of cs ≡ []
work_of-none [] e = refl
work_of-none (c ∷ cs) e = absurd (omega arith)

-- nodes that are put last first come in their order
pub work_of-all : (cs : List program.Coming) (ns : List ℕ) (under : ℕ)
    → work_of (cs ++ map (coming_under under) (reverse ns)) ≡ map (coming under) ns ++ work_of cs
work_of-all cs [] under = ap work_of (append-nil cs)
work_of-all cs (n ∷ ns) under =
    ap work_of first_is_last
    ∙ (work_of-push (cs ++ map (coming_under under) (reverse ns)) (coming_under under n)
    ∙ ap (λ (w : List Coming). coming under n ∷ w) (work_of-all cs ns under))
  where
    first_is_last : cs ++ map (coming_under under) (reverse (n ∷ ns))
        ≡ (cs ++ map (coming_under under) (reverse ns)) ++ coming_under under n ∷ []
    first_is_last =
        ap (λ (x : List ℕ). cs ++ map (coming_under under) x) (reverse-append (n ∷ []) ns)
        ∙ (ap (λ (x : List program.Coming). cs ++ x) (map_push (coming_under under) (reverse ns) n)
        ∙ sym (append_assoc cs (map (coming_under under) (reverse ns)) (coming_under under n ∷ [])))

-- the children of a node, if nothing fails
pub children-pushed : {T E : Type 0} (r : Result T E) (l : Layout) (cs new : List program.Coming) (ns : List ℕ)
    (n under : ℕ) → l.work ≡ work_of cs → ns ≡ children_at l.nodes n
    → OnOk r (new ≡ cs ++ map (coming_under under) (reverse ns))
    → OnOk r (record l { work = work_of new } ≡ with_children_under under n l)
children-pushed r l cs new ns n under w e h = on_ok_weaker r grown h
  where
    grown : new ≡ cs ++ map (coming_under under) (reverse ns)
        → record l { work = work_of new } ≡ with_children_under under n l
    grown g =
        ap (λ (x : List Coming). record l { work = x })
        (ap work_of g ∙ (work_of-all cs ns under
        ∙ (ap (λ (x : List ℕ). map (coming under) x ++ work_of cs) e
        ∙ ap (λ (x : List Coming). map (coming under) (children_at l.nodes n) ++ x) (sym w))))

-- ---- parents of what comes

all_under : (items : List Item) (ns : List ℕ) (under : ℕ) → MayHold items under
    → AllMayHold items (map (coming_under under) ns)
all_under items [] under m = All-nil (λ (c : program.Coming). MayHold items c.under)
all_under items (n ∷ ns) under m =
    All-cons (λ (c : program.Coming). MayHold items c.under) (coming_under under n) (map (coming_under under) ns) m
    (all_under items ns under m)

pub all_may_hold-all : (items : List Item) (cs : List program.Coming) (ns : List ℕ) (under : ℕ)
    → MayHold items under
    → AllMayHold items cs → AllMayHold items (cs ++ map (coming_under under) ns)
all_may_hold-all items cs ns under m h =
    All-append (λ (c : program.Coming). MayHold items c.under) cs (map (coming_under under) ns) h
    (all_under items ns under m)

-- what is pushed where nothing fails
pub all_may_hold-pushed : {T E : Type 0} (r : Result T E) (items : List Item) (cs new : List program.Coming)
    (ns : List ℕ) (under : ℕ) → MayHold items under → AllMayHold items cs
    → OnOk r (new ≡ cs ++ map (coming_under under) ns) → OnOk r (AllMayHold items new)
all_may_hold-pushed r items cs new ns under m h e = on_ok_weaker r grown e
  where
    grown : new ≡ cs ++ map (coming_under under) ns → AllMayHold items new
    grown e = subst (λ (x : List program.Coming). AllMayHold items x) (sym e) (all_may_hold-all items cs ns under m h)

-- ---- the turns

-- what is left to lay out in a turn is what was at first
abbrev pub Lays : ℕ → Layout → Layout → ℕ → ℕ → Type 0
Lays limit first now turn all = (k : ℕ) → k + turn ≡ all
    → layout_within limit k now ≡ layout_within limit all first

pub lays-first : (limit : ℕ) (first now : Layout) (all : ℕ) → now ≡ first → Lays limit first now 0 all
lays-first limit first now all e k f =
    let same : k ≡ all = omega arith in ap (λ n. layout_within limit n now) same ∙ ap (layout_within limit all) e

pub lays-next : (limit : ℕ) (first now new : Layout) (turn all : ℕ) (c : Coming) (work : List Coming)
    → Lays limit first now turn all → now.work ≡ c ∷ work
    → new ≡ put_node limit c (record now { work = work })
    → Lays limit first new (turn + 1) all
lays-next limit first now new turn all c work r e f k g =
    let more : suc k + turn ≡ all = omega arith in
    ap (layout_within limit k) (f ∙ ap (λ (w : List Coming). put_next limit w now) (sym e)) ∙ r (suc k) more

nothing_comes : (limit k : ℕ) (now : Layout) → now.work ≡ [] → layout_within limit k now ≡ now
nothing_comes limit zero now e = refl
nothing_comes limit (suc k) now e =
    ap (λ (w : List Coming). layout_within limit k (put_next limit w now)) e ∙ nothing_comes limit k now e

pub lays-none : (limit : ℕ) (first now : Layout) (turn all : ℕ) → Lays limit first now turn all → turn ≤ all
    → now.work ≡ [] → now ≡ layout_within limit all first
lays-none limit first now turn all r l e =
    let whole : all - turn + turn ≡ all = omega arith in
    sym (nothing_comes limit (all - turn) now e) ∙ r (all - turn) whole

pub lays-over : (limit : ℕ) (first now : Layout) (turn all : ℕ) → Lays limit first now turn all → turn ≡ all
    → now ≡ layout_within limit all first
lays-over limit first now turn all r e = let none : 0 + turn ≡ all = omega arith in r 0 none

-- all turns, as many as there are nodes
pub whole-document : (limit : ℕ) (nodes : List NodeValue) (now : Layout) (all : ℕ)
    → now ≡ layout_within limit all (first_layout nodes) → all ≡ length nodes
    → now.items ≡ document_of limit nodes
whole-document limit nodes now all e count =
    ap (λ (l : Layout). l.items) (e ∙ ap (λ n. layout_within limit n (first_layout nodes)) count)

-- Nodes are moved as the adoption agency moves them: the letters stand in order still.
use Rattle.std.proofs.Common.{⊎_elim, ◌≡◌, ◌∙◌, ℕ, suc, ◌<◌, ◌≤◌, Bool, true, List, [], ◌∷◌, ◌++◌, length, refl, sym}
use Rattle.std.proofs.Common.{ap, subst}
use Rattle.std.proofs.Common.{arith, cond, Option, Some, None, ◌⊎◌}
use Rattle.std.specs.Prelude.{◌==◌, not, insert}
use Rattle.std.proofs.lemmas.Bool.{true≢false, and_parts, eqb-true, eqb-false, eq-eqb, ne_eqb, and_from}
use Rattle.std.proofs.lemmas.List.{length-set}
use Rattle.htmd_lexical.proofs.Cases.{test}
use Rattle.htmd_html5_state.specs.Nodes.{NodeValue, KindValue, new_node, kind_at, parent_at, children_at, with_children}
use Rattle.htmd_html5_state.specs.Nodes.{with_parents, index_of, without_child, remove_child, detach_from, detach}
use Rattle.htmd_html5_state.specs.Nodes.{move_children}
use Rattle.htmd_html5_state.specs.Adoption.{wrap_children}
use Rattle.htmd_law_html5.proofs.NodeTexts.{is_element, kinds_move_children}
use Rattle.htmd_law_html5.proofs.NodeParts.{times, times_append, children_same, children_other, children_of_parent}
use Rattle.htmd_law_html5.proofs.NodeParts.{children_with_new, parent_same}
use Rattle.htmd_law_html5.proofs.Forests.{IsForest, length_new, once_under, once_at_most, elsewhere}
use Rattle.htmd_law_html5.proofs.Forests.{children_with_parents, length_with_parents, length_moved}
use Rattle.htmd_law_html5.proofs.HungNodes.{put_kind, children_in, kind_with_new, kind_new_at, kind_by_kinds}
use Rattle.htmd_law_html5.proofs.HungChains.{detach_size, detach_kind}
use Rattle.htmd_law_html5.proofs.ChildRows.{Marks, Row, row_low, row_without, row_marks, row_as, by_two, row_end}
use Rattle.htmd_law_html5.proofs.OrderedNodes.{bears, Labels, until, marks, FitsBy, none_out, lo_until, RowAt}
use Rattle.htmd_law_html5.proofs.OrderedInserts.{put_last, children_put, children_put_other, row_unmarked, mark}
use Rattle.htmd_law_html5.proofs.OrderedInserts.{children_beyond, no_child, fits_marked}
use Rattle.htmd_law_html5.proofs.Counted.{Choice}

module _ (choice : Choice) where
  -- ---- children after a node was taken out, or put

  pub row_detached : (m : Marks) (n q at to : ℕ) (nodes : List NodeValue) → Row m at (children_at nodes q) to
      → Row m at (children_at (detach n nodes) q) to
  row_detached m n q at to nodes r = by_parent (parent_at nodes n)
    where
      by_same : (p : ℕ) → p ≡ q
          → (children_at (remove_child p n nodes) p ≡ without_child n (children_at nodes p))
          ⊎ (children_at (remove_child p n nodes) p ≡ []) → Row m at (children_at (remove_child p n nodes) q) to
      by_same p e same =
          subst (λ (x : ℕ). Row m at (children_at (remove_child p n nodes) x) to) e
          (⊎_elim (λ f. subst (λ (cs : List ℕ). Row m at cs to) (sym f)
          (row_without m at (children_at nodes p) to (index_of n (children_at nodes p))
          (subst (λ (x : ℕ). Row m at (children_at nodes x) to) (sym e) r)))
          (λ f. subst (λ (cs : List ℕ). Row m at cs to) (sym f) (row_low m at (children_at nodes q) to r)) same)

      by_parent : (o : Option ℕ) → Row m at (children_at (detach_from o n nodes) q) to
      by_parent None = r
      by_parent (Some p) =
          subst (λ (cs : List ℕ). Row m at cs to) (sym (children_of_parent n q None (remove_child p n nodes)))
          (test (p == q)
          (λ t. by_same p (eqb-true p q t) (children_same p (without_child n (children_at nodes p)) nodes))
          (λ t. subst (λ (cs : List ℕ). Row m at cs to)
          (sym (children_other p q (without_child n (children_at nodes p)) nodes (eqb-false p q t))) r))

  put_parent : (n p : ℕ) (nodes : List NodeValue) → n < length nodes → parent_at (put_last n p nodes) n ≡ Some p
  put_parent n p nodes l =
      parent_same n (Some p) (with_children p (insert (children_at nodes p) (length (children_at nodes p)) n) nodes)
      (let e : length (with_children p (insert (children_at nodes p) (length (children_at nodes p)) n) nodes)
      ≡ length nodes = length-set nodes p _ in omega arith)

  -- it stands nowhere else
  put_nowhere_else : (n p q : ℕ) (nodes : List NodeValue) → n < length nodes → IsForest (put_last n p nodes)
      → (p ≡ q → ⊥) → times n (children_at nodes q) ≡ 0
  put_nowhere_else n p q nodes l forest f =
      let a = forest.once n q in
      let b = ap (λ (o : Option ℕ). once_under o q) (put_parent n p nodes l) ∙ elsewhere p q f in
      let d = ap (times n) (children_put_other n p q nodes f) in
      omega arith

  put_once : (n p : ℕ) (nodes : List NodeValue) → p < length nodes → IsForest (put_last n p nodes)
      → times n (children_at nodes p) ≡ 0
  put_once n p nodes l forest =
      let a = forest.once n p in
      let b = once_at_most (parent_at (put_last n p nodes) n) p in
      let d = ap (times n) (children_put n p nodes l) in
      let e = times_append n (children_at nodes p) (n ∷ []) in
      let o : ◌≡◌ {A = ℕ} (cond (n == n) 1 0) 1 = rw (eq-eqb n n refl) refl in
      omega arith

not_other : (a b : ℕ) → (a ≡ b → ⊥) → not (a == b) ≡ true
not_other a b f = rw (ne_eqb a b f) refl

module _ (choice : Choice) where
  member_other : (c n : ℕ) (cs : List ℕ) → times n cs ≡ 0 → 1 ≤ times c cs → c ≡ n → ⊥
  member_other c n cs z k e = let f : times c cs ≡ times n cs = ap (λ (x : ℕ). times x cs) e in omega arith

  abbrev pub only : ℕ → ℕ → Bool
  only last n = n == last

  -- ---- a node apart from the others, which is to stand last in another

  pub record Apart (letters : List ℕ) (nodes : List NodeValue) (p last : ℕ) (l : Labels) : Type 0 where
    pub fits : FitsBy choice (only last) letters nodes l
    pub front : (limit : ℕ) → length letters < limit
        → Row (marks choice (only last) nodes limit l) (l.lo p) (children_at nodes p) (l.lo last)
    pub live_last : l.live last ≡ true
    pub live_at : l.live p ≡ true

  module _ (letters : List ℕ) (nodes : List NodeValue) (l : Labels) (p last : ℕ) (h : Apart letters nodes p last l)
      (p_in : p < length nodes) (last_in_nodes : last < length nodes) (p_other : p ≡ last → ⊥) where
    -- ---- it is put into a copy of an element, which is apart then

    module _ (k : KindValue) (is : is_element k ≡ true)
        (forest : IsForest (put_last last (length nodes) (detach last (nodes ++ new_node k ∷ [])))) where
      abbrev n : ℕ
      n = length nodes

      abbrev more : List NodeValue
      more = nodes ++ new_node k ∷ []

      abbrev out : List NodeValue
      out = detach last more

      abbrev pub copied : List NodeValue
      copied = put_last last n out

      abbrev pub copied_labels : Labels
      copied_labels = mark choice n (l.lo last) (l.hi last) true l

      out_size : length out ≡ suc n
      out_size = detach_size last more ∙ length_new k nodes

      kind_same : (m : ℕ) → (m ≡ n → ⊥) → kind_at copied m ≡ kind_at nodes m
      kind_same m f =
          put_kind last n (length (children_at out n)) out m ∙ (detach_kind last more m ∙ kind_with_new m k nodes f)

      kind_own : kind_at copied n ≡ k
      kind_own =
          put_kind last n (length (children_at out n)) out n ∙ (detach_kind last more n ∙ kind_new_at k nodes)

      copy_others : (limit m : ℕ) → (m ≡ n → ⊥)
          → (copied_labels.lo m ≡ l.lo m) × (until limit copied_labels m ≡ until limit l m)
      copy_others limit m f = (rw (ne_eqb m n f) refl, rw (ne_eqb m n f) refl)

      copy_own : (limit : ℕ) → (copied_labels.lo n ≡ l.lo last) × (until limit copied_labels n ≡ limit)
      copy_own limit = (rw (eq-eqb n n refl) refl, rw (eq-eqb n n refl) refl)

      until_last : (limit : ℕ) → until limit copied_labels last ≡ limit
      until_last limit =
          (copy_others limit last (λ e. omega arith)).1 ∙ ap (λ (b : Bool). cond b limit (l.hi last)) h.live_last

      kept_row : (limit q to : ℕ) → length letters < limit → (n ≡ q → ⊥)
          → Row (marks choice (only last) nodes limit l) (l.lo q) (children_at nodes q) to
          → Row (marks choice (only n) copied limit copied_labels) (l.lo q) (children_at copied q) to
      kept_row limit q to big f r =
          row_as (marks choice (only n) copied limit copied_labels) refl (children_put_other last n q out f) refl
          (row_marks (marks choice (only last) nodes limit l) (marks choice (only n) copied limit copied_labels)
          (l.lo q) (children_at out q) to (λ c m e.
          let two = and_parts (not (c == n)) (bears choice (kind_at copied c)) e in
          let other : c ≡ n → ⊥ = λ g. true≢false (sym two.0 ∙ ap not (eq-eqb c n g)) in
          let same = kind_same c other in
          let a = (copy_others limit c other).1 in
          let b = (copy_others limit c other).0 in
          let w = lo_until h.fits limit big c in
          let apart = member_other c last (children_at out q)
          (put_nowhere_else choice last n q out (let z = out_size in omega arith) forest f) m in (
            and_from _ _ (not_other c last apart) (sym (ap (bears choice) same) ∙ two.1),
            omega arith,
            omega arith,
            omega arith,
          )) (row_detached choice (marks choice (only last) nodes limit l) last q (l.lo q) to more
          (row_as (marks choice (only last) nodes limit l) refl (children_with_new q k nodes) refl r)))

      own_row : (limit : ℕ) → length letters < limit → RowAt choice (only n) copied limit copied_labels n
      own_row limit big =
          let a = (copy_others limit last (λ g. omega arith)).0 in let b = until_last limit in let d =
          (copy_own limit).1 in
          let x = h.fits.span last in let y = h.fits.high last in
          row_as (marks choice (only n) copied limit copied_labels) refl
          (children_put last n out (let z = out_size in omega arith)) refl
          (row_end (marks choice (only n) copied limit copied_labels) (copied_labels.lo n) (children_at out n)
          (l.lo last) last (until limit copied_labels n) (omega arith) (omega arith) (omega arith) (omega arith)
          (row_detached choice (marks choice (only n) copied limit copied_labels) last n (copied_labels.lo n)
          (l.lo last) more (row_as (marks choice (only n) copied limit copied_labels) (copy_own limit).0
          (children_with_new n k nodes ∙ children_beyond n nodes (omega arith)) refl (omega arith))))

      pub apart_copied : Apart letters copied p n copied_labels
      apart_copied = record {
        fits = fits_marked choice n (l.lo last) (l.hi last) true copied h.fits (h.fits.span last) (h.fits.high last)
            kind_same (λ t e. absurd (true≢false (sym is ∙ ap is_element (sym kind_own ∙ e)))) (λ limit big q.
            test (n == q) (λ t. subst (λ (x : ℕ). RowAt choice (only n) copied limit copied_labels x)
            (eqb-true n q t) (own_row limit big))
            (λ t. let f = eqb-false n q t in
            row_as (marks choice (only n) copied limit copied_labels) (copy_others limit q (λ e. f (sym e))).0 refl
            (copy_others limit q (λ e. f (sym e))).1
            (kept_row limit q (until limit l q) big f (h.fits.rows limit big q))));
        front = λ limit big.
            row_as (marks choice (only n) copied limit copied_labels) (copy_others limit p (λ e. omega arith)).0 refl
            (copy_own limit).0 (kept_row limit p (l.lo last) big (λ e. omega arith) (h.front limit big));
        live_last = rw (eq-eqb n n refl) refl;
        live_at = rw (ne_eqb p n (λ e. omega arith)) h.live_at;
      }

    -- ---- it is put last in the other

    module _ (forest : IsForest (put_last last p (detach last nodes))) where
      abbrev taken : List NodeValue
      taken = detach last nodes

      abbrev pub placed : List NodeValue
      placed = put_last last p taken

      taken_size : length taken ≡ length nodes
      taken_size = detach_size last nodes

      placed_kind : (m : ℕ) → kind_at placed m ≡ kind_at nodes m
      placed_kind m = put_kind last p (length (children_at taken p)) taken m ∙ detach_kind last nodes m

      -- where it doesn't stand
      row_apart : (limit q at to : ℕ) → length letters < limit → times last (children_at taken q) ≡ 0
          → Row (marks choice (only last) nodes limit l) at (children_at nodes q) to
          → Row (marks choice none_out placed limit l) at (children_at taken q) to
      row_apart limit q at to big none r =
          row_marks (marks choice (only last) nodes limit l) (marks choice none_out placed limit l) at
          (children_at taken q) to (λ c m e.
          let w = lo_until h.fits limit big c in (
            and_from _ _ (not_other c last (member_other c last (children_at taken q) none m))
                (sym (ap (bears choice) (placed_kind c)) ∙ e),
            omega arith,
            omega arith,
            omega arith,
          )) (row_detached choice (marks choice (only last) nodes limit l) last q at to nodes r)

      placed_row : (limit : ℕ) → length letters < limit → RowAt choice none_out placed limit l p
      placed_row limit big =
          let b : until limit l last ≡ limit = rw h.live_last refl in
          let d : until limit l p ≡ limit = rw h.live_at refl in
          let x = h.fits.span last in let y = h.fits.high last in
          row_as (marks choice none_out placed limit l) refl
          (children_put last p taken (let z = taken_size in omega arith)) refl
          (row_end (marks choice none_out placed limit l) (l.lo p) (children_at taken p) (l.lo last) last
          (until limit l p) (omega arith) (omega arith) (omega arith) (omega arith)
          (row_apart limit p (l.lo p) (l.lo last) big
          (put_once choice last p taken (let z = taken_size in omega arith) forest) (h.front limit big)))

      pub fits_placed : FitsBy choice none_out letters placed l
      fits_placed = record {
        span = h.fits.span;
        high = h.fits.high;
        rows = λ limit big q.
            test (p == q)
            (λ t. subst (λ (x : ℕ). RowAt choice none_out placed limit l x) (eqb-true p q t) (placed_row limit big))
            (λ t. let f = eqb-false p q t in
            row_as (marks choice none_out placed limit l) refl (children_put_other last p q taken f) refl
            (row_apart limit q (l.lo q) (until limit l q) big
            (put_nowhere_else choice last p q taken (let z = taken_size in omega arith) forest f)
            (h.fits.rows limit big q)));
        texts = λ m t e. h.fits.texts m t (sym (placed_kind m) ∙ e);
      }

  -- ---- all children of a node go into a new one, which is its only child then

  module _ (letters : List ℕ) (nodes : List NodeValue) (l : Labels) (h : FitsBy choice none_out letters nodes l)
      (forest : IsForest nodes) (formatting block : ℕ) (is : is_element (kind_at nodes formatting) ≡ true)
      (block_in : block < length nodes) (live : l.live block ≡ true) where
    abbrev wn : ℕ
    wn = length nodes

    abbrev wk : KindValue
    wk = kind_at nodes formatting

    abbrev wmore : List NodeValue
    wmore = nodes ++ new_node wk ∷ []

    abbrev cs : List ℕ
    cs = children_at wmore block

    abbrev emptied : List NodeValue
    emptied = with_children block [] wmore

    abbrev named : List NodeValue
    named = with_parents wn cs emptied

    abbrev gone : List NodeValue
    gone = move_children block wn wmore

    abbrev wrapped : List NodeValue
    wrapped = put_last wn block gone

    abbrev pub wrapped_labels : Labels
    wrapped_labels = mark choice wn (l.lo block) (l.hi block) true l

    apart_new : block ≡ wn → ⊥
    apart_new e = absurd (omega arith)

    more_size : length wmore ≡ suc wn
    more_size = length_new wk nodes

    gone_size : length gone ≡ suc wn
    gone_size = length_moved block wn wmore ∙ more_size

    named_size : length named ≡ suc wn
    named_size =
        length_with_parents wn cs emptied
        ∙ (let e : length emptied ≡ length wmore = length-set wmore block _ in e ∙ more_size)

    gone_other : (q : ℕ) → (wn ≡ q → ⊥) → (block ≡ q → ⊥) → children_at gone q
        ≡ children_at nodes q
    gone_other q f g =
        children_other wn q (children_at named wn ++ cs) named f ∙ (children_with_parents wn q cs emptied
        ∙ (children_other block q [] wmore g ∙ children_with_new q wk nodes))

    gone_block : children_at gone block ≡ []
    gone_block =
        children_other wn block (children_at named wn ++ cs) named (λ e. apart_new (sym e))
        ∙ (children_with_parents wn block cs emptied
        ∙ children_in block [] wmore (let e = more_size in omega arith))

    gone_new : children_at gone wn ≡ children_at nodes block
    gone_new =
        children_in wn (children_at named wn ++ cs) named (let e = named_size in omega arith)
        ∙ (ap (λ (x : List ℕ). x ++ cs)
        (children_with_parents wn wn cs emptied ∙ (children_other block wn [] wmore apart_new
        ∙ (children_with_new wn wk nodes ∙ children_beyond wn nodes (omega arith))))
        ∙ children_with_new block wk nodes)

    wrapped_kind : (m : ℕ) → kind_at wrapped m ≡ kind_at wmore m
    wrapped_kind m =
        put_kind wn block (length (children_at gone block)) gone m
        ∙ kind_by_kinds wmore gone m (kinds_move_children block wn wmore)

    wrapped_other : (m : ℕ) → (m ≡ wn → ⊥) → kind_at wrapped m ≡ kind_at nodes m
    wrapped_other m f = wrapped_kind m ∙ kind_with_new m wk nodes f

    wrap_others : (limit m : ℕ) → (m ≡ wn → ⊥)
        → (wrapped_labels.lo m ≡ l.lo m) × (until limit wrapped_labels m ≡ until limit l m)
    wrap_others limit m f = (rw (ne_eqb m wn f) refl, rw (ne_eqb m wn f) refl)

    wrap_own : (limit : ℕ) → (wrapped_labels.lo wn ≡ l.lo block) × (until limit wrapped_labels wn ≡ limit)
    wrap_own limit = (rw (eq-eqb wn wn refl) refl, rw (eq-eqb wn wn refl) refl)

    until_block : (limit : ℕ) → until limit l block ≡ limit
    until_block limit = ap (λ (b : Bool). cond b limit (l.hi block)) live

    w_row : (limit q to : ℕ) → length letters < limit
        → Row (marks choice none_out nodes limit l) (l.lo q) (children_at nodes q) to
        → Row (marks choice none_out wrapped limit wrapped_labels) (l.lo q) (children_at nodes q) to
    w_row limit q to big r =
        row_unmarked choice wn (l.lo block) (l.hi block) true wrapped h wrapped_other limit (l.lo q)
        (children_at nodes q) to big
        (no_child nodes q wn forest (omega arith)) r

    new_row : (limit : ℕ) → length letters < limit → RowAt choice none_out wrapped limit wrapped_labels wn
    new_row limit big =
        row_as (marks choice none_out wrapped limit wrapped_labels) (wrap_own limit).0
        (children_put_other wn block wn gone apart_new ∙ gone_new)
        ((wrap_own limit).1 ∙ sym (until_block limit))
        (w_row limit block (until limit l block) big (h.rows limit big block))

    block_row : (limit : ℕ) → length letters < limit → RowAt choice none_out wrapped limit wrapped_labels block
    block_row limit big =
        let a = (wrap_others limit block apart_new).0 in let b = (wrap_own limit).0 in let c = (wrap_own limit).1 in
        let d = (wrap_others limit block apart_new).1 in let f = until_block limit in
        let x = h.span block in let y = h.high block in
        row_as (marks choice none_out wrapped limit wrapped_labels) refl
        (children_put wn block gone (let z = gone_size in omega arith)) refl
        (row_end (marks choice none_out wrapped limit wrapped_labels) (wrapped_labels.lo block) (children_at gone block)
        (wrapped_labels.lo block) wn (until limit wrapped_labels block) (omega arith) (omega arith) (omega arith)
        (omega arith) (row_as (marks choice none_out wrapped limit wrapped_labels) refl gone_block refl (omega arith)))

    other_row : (limit : ℕ) → length letters < limit → (q : ℕ) → (wn ≡ q → ⊥) → (block ≡ q → ⊥)
        → RowAt choice none_out wrapped limit wrapped_labels q
    other_row limit big q f g =
        row_as (marks choice none_out wrapped limit wrapped_labels) (wrap_others limit q (λ e. f (sym e))).0
        (children_put_other wn block q gone g ∙ gone_other q f g) (wrap_others limit q (λ e. f (sym e))).1
        (w_row limit q (until limit l q) big (h.rows limit big q))

    pub fits_wrapped : FitsBy choice none_out letters (wrap_children formatting block nodes) wrapped_labels
    unfolding wrap_children
    fits_wrapped =
        fits_marked choice wn (l.lo block) (l.hi block) true wrapped h (h.span block) (h.high block) wrapped_other
        (λ t e. absurd (true≢false (sym is
        ∙ ap is_element (sym (wrapped_kind wn ∙ kind_new_at wk nodes) ∙ e)))) (λ limit big q.
        by_two (λ (x : ℕ). RowAt choice none_out wrapped limit wrapped_labels x) wn block q (new_row limit big)
        (block_row limit big) (other_row limit big q))

-- The letters of a tree's texts stand in the order of the page's, where they do so among the nodes that it is laid out
-- of.
use Rattle.std.proofs.Common.{◌≡◌, ◌∙◌, ℕ, zero, suc, ◌≤◌, Bool, true, false, List, [], ◌∷◌, ◌++◌, length, refl, sym}
use Rattle.std.proofs.Common.{ap, subst, arith, cond, map, Option, Some, None, append_assoc}
use Rattle.std.specs.Prelude.{if◌then◌else◌, IsUtf8, ◌==◌, is_some}
use Rattle.std.proofs.lemmas.Bool.{true≢false}
use Rattle.std.proofs.lemmas.Str.{IsUtf8-nil, IsUtf8-append}
use Rattle.htmd_html5_state.specs.Names.{text_of_element_name}
use Rattle.htmd_html5_state.specs.Nodes.{KindValue, NodeValue, document, doctype, text, comment, element, kind_at}
use Rattle.htmd_html5_state.specs.Nodes.{children_at, with_kind, text_of}
use Rattle.htmd_html5.specs.Layout.{Coming, coming, Layout, text_under, or_text, next_texts, after_next_texts}
use Rattle.htmd_html5.specs.Layout.{with_text, with_kind_of, without_node, put_next, layout_within, first_layout}
use Rattle.htmd_html5.specs.Layout.{document_of, is_deepest}
use Rattle.htmd_nodes.specs.Items.{Item, Data, doctype_node, text_node, comment_node, element_node, new_item}
use Rattle.htmd_law_html5.specs.PageLetters.{texts_of, with_text_in}
use Rattle.htmd_law_html5.proofs.NodeParts.{children_of_kind}
use Rattle.htmd_law_html5.proofs.PendingNodes.{numbers, numbers_coming}
use Rattle.htmd_law_html5.proofs.Sublists.{Sub, window, sub_joined, sub_wider, window_all}
use Rattle.htmd_law_html5.proofs.ChildRows.{Row, row_from, row_to, row_append, cond_low}
use Rattle.htmd_law_html5.proofs.OrderedNodes.{bears, Labels, until, marks, TextIn, FitsBy, none_out, no_letters}
use Rattle.htmd_law_html5.proofs.OrderedTexts.{letters_append, row_like, fits_like}
use Rattle.htmd_law_html5.proofs.Counted.{Choice, counted_in, counted_of}
use Rattle.std.proofs.lemmas.List.{append-nil}

module _ (choice : Choice) where
  -- ---- letters of items

  data_letters : Data → List ℕ
  data_letters (text_node s) = counted_of choice s
  data_letters _ = []

  data_put : (d : Data) (texts : List (List ℕ))
      → counted_in choice (with_text_in d texts) ≡ data_letters d ++ counted_in choice texts
  unfolding data_letters
  data_put (text_node s) texts = refl
  data_put _ texts = refl

  letters_put : (items : List Item) (item : Item) → counted_in choice (texts_of (items ++ item ∷ []))
      ≡ counted_in choice (texts_of items) ++ data_letters item.node_data
  letters_put [] item = data_put item.node_data [] ∙ append-nil (data_letters item.node_data)
  letters_put (first ∷ items) item =
      data_put first.node_data (texts_of (items ++ item ∷ []))
      ∙ (ap (λ (x : List ℕ). data_letters first.node_data ++ x) (letters_put items item)
      ∙ (sym (append_assoc (data_letters first.node_data) (counted_in choice (texts_of items))
      (data_letters item.node_data))
      ∙ ap (λ (x : List ℕ). x ++ data_letters item.node_data) (sym (data_put first.node_data (texts_of items)))))

  module _ (letters : List ℕ) (l : Labels) where
    abbrev limit : ℕ
    limit = suc (length letters)

    -- ---- a node that was laid out

    -- what is to come stands in a row from a place on
    abbrev Rest : List NodeValue → ℕ → List ℕ → Type 0
    Rest nodes at ns = Row (marks choice none_out nodes limit l) at ns limit

    row_marked : (n at : ℕ) (ns : List ℕ) (nodes : List NodeValue) → FitsBy choice none_out letters nodes l
        → Rest nodes at ns → Rest (with_kind n document nodes) at ns
    row_marked n at ns nodes h r =
        row_like choice n document letters nodes l (λ b. absurd (true≢false (sym b))) h limit (omega arith) at ns
        limit r

    -- ---- texts that come next

    -- their letters, and the place where they end
    record NextTexts (nodes : List NodeValue) (at : ℕ) (s : List ℕ) (rest : List ℕ) : Type 0 where
      to : ℕ
      from : at ≤ to
      high : to ≤ length letters
      within : Sub (counted_of choice s) (window at to letters)
      utf8 : IsUtf8 s
      row : Rest nodes to rest

    none_next : (nodes : List NodeValue) (at : ℕ) (s rest : List ℕ) → counted_of choice s ≡ [] → IsUtf8 s
        → at ≤ length letters → Rest nodes at rest → NextTexts nodes at s rest
    none_next nodes at s rest none u low r = record {
      to = at;
      from = omega arith;
      high = low;
      within = subst (λ (x : List ℕ). Sub x (window at at letters)) (sym none) tt;
      utf8 = u;
      row = r;
    }

    next_text : (nodes : List NodeValue) (at n : ℕ) (s : List ℕ) (rest : List ℕ)
        → FitsBy choice none_out letters nodes l → at ≤ length letters → kind_at nodes n ≡ text s
        → Rest nodes at (n ∷ rest) → NextTexts nodes at s rest
    next_text nodes at n s rest h low is r = either (bears choice (kind_at nodes n)) refl r.1
      where
        old : TextIn choice letters l n s
        old = h.texts n s is

        ended : until limit l n ≡ l.hi n
        ended = ap (λ (b : Bool). cond b limit (l.hi n)) old.closed

        either : (b : Bool) → bears choice (kind_at nodes n) ≡ b → Rest nodes (cond b (until limit l n) at) rest
            → NextTexts nodes at s rest
        either true e g =
            let stands = r.0 e in
            let x = stands.0 in
            record {
              to = l.hi n;
              from = let a = h.span n in omega arith;
              high = h.high n;
              within = sub_wider (counted_of choice s) letters (l.lo n) (l.hi n) at (l.hi n) x (h.span n)
                  (omega arith) old.within;
              utf8 = old.utf8;
              row = subst (λ (y : ℕ). Rest nodes y rest) ended g;
            }
        either false e g = none_next nodes at s rest (no_letters choice s (kind_at nodes n) is e) old.utf8 low g

    next_then : {old nodes : List NodeValue} {at : ℕ} {s t rest ns : List ℕ} (first : NextTexts old at s rest)
        → NextTexts nodes first.to t ns → NextTexts nodes at (s ++ t) ns
    next_then {old} {nodes} {at} {s} {t} first later = record {
      to = later.to;
      from = let a = first.from in let b = later.from in omega arith;
      high = later.high;
      within = subst (λ (x : List ℕ). Sub x (window at later.to letters))
          (sym (letters_append choice s t first.utf8))
          (sub_joined (counted_of choice s) (counted_of choice t) letters at first.to first.to later.to first.from
          (omega arith) later.from first.within later.within);
      utf8 = IsUtf8-append s t first.utf8 later.utf8;
      row = later.row;
    }

    -- all texts that come next under an item
    texts_next : (nodes : List NodeValue) (under at : ℕ) (work : List Coming) → counted_of choice [] ≡ []
        → FitsBy choice none_out letters nodes l → at ≤ length letters → Rest nodes at (numbers work)
        → NextTexts nodes at (next_texts nodes under work) (numbers (after_next_texts nodes under work))
    texts_next nodes under at [] nil h low r = none_next nodes at [] [] nil IsUtf8-nil low r
    texts_next nodes under at (c ∷ work) nil h low r =
        by_text (text_under nodes under c) refl
        (λ (to : ℕ) (high : to ≤ length letters) (row : Rest nodes to (numbers work)).
        texts_next nodes under to work nil h high row)
      where
        under_text : (s : List ℕ) → (b : Bool) → (if b then text_of (kind_at nodes c.node) else None) ≡ Some s
            → (k : KindValue) → kind_at nodes c.node ≡ k → text_of k ≡ text_of (kind_at nodes c.node)
            → kind_at nodes c.node ≡ text s
        under_text s true e (text t) f g = let same : t ≡ s = cc in f ∙ ap text same
        under_text s true e _ f g = absurd (let z : None ≡ Some s = g ∙ e in cc)
        under_text s false e k f g = absurd (let z : None ≡ Some s = e in cc)

        by_text : (o : Option (List ℕ)) → text_under nodes under c ≡ o
            → ((to : ℕ) → to ≤ length letters → Rest nodes to (numbers work)
            → NextTexts nodes to (next_texts nodes under work) (numbers (after_next_texts nodes under work)))
            → NextTexts nodes at (or_text o (next_texts nodes under work))
            (numbers (if is_some o then after_next_texts nodes under work else c ∷ work))
        by_text None e more = none_next nodes at [] (c.node ∷ numbers work) nil IsUtf8-nil low r
        by_text (Some s) e more =
            let is = under_text s (c.under == under) e (kind_at nodes c.node) refl refl in
            let first = next_text nodes at c.node s (numbers work) h low is r in
            next_then first (more first.to first.high first.row)

    -- ---- what was laid out so far

    -- the items' letters stand up to a place, and what is to come from there on
    record LaidTo (x : Layout) : Type 0 where
      at : ℕ
      low : at ≤ length letters
      items : Sub (counted_in choice (texts_of x.items)) (window 0 at letters)
      fits : FitsBy choice none_out letters x.nodes l
      row : Rest x.nodes at (numbers x.work)

    -- ---- a step

    module _ (x : Layout) (c : Coming) (work : List Coming) (h : LaidTo (record x { work = c ∷ work })) where
      -- without the node that is taken
      abbrev taken : List NodeValue
      taken = with_kind c.node document x.nodes

      taken_fits : FitsBy choice none_out letters taken l
      taken_fits =
          fits_like choice c.node document letters x.nodes l (λ b. absurd (true≢false (sym b))) h.fits
          (λ t e. absurd (cc))

      uncounted : bears choice (kind_at x.nodes c.node) ≡ false → Rest taken h.at (numbers work)
      uncounted e =
          row_marked c.node h.at (numbers work) x.nodes h.fits
          (subst (λ (b : Bool). Rest x.nodes (cond b (until limit l c.node) h.at) (numbers work)) e h.row.1)

      -- an item with these letters
      item_laid : (to : ℕ) (d : Data) (later : List Coming) → h.at ≤ to → to ≤ length letters
          → Sub (data_letters d) (window h.at to letters) → Rest taken to (numbers later)
          → LaidTo (record x { nodes = taken; items = x.items ++ new_item x.items c.under d ∷ []; work = later })
      item_laid to d later from high more row = record {
        at = to;
        low = high;
        items = subst (λ (y : List ℕ). Sub y (window 0 to letters))
            (sym (letters_put x.items (new_item x.items c.under d)))
            (sub_joined (counted_in choice (texts_of x.items)) (data_letters d) letters 0 h.at h.at to (omega arith)
            (omega arith) from h.items more);
        fits = taken_fits;
        row = row;
      }

      -- or with none
      loose_laid : (d : Data) (later : List Coming) → data_letters d ≡ [] → Rest taken h.at (numbers later)
          → LaidTo (record x { nodes = taken; items = x.items ++ new_item x.items c.under d ∷ []; work = later })
      loose_laid d later none row =
          item_laid h.at d later (omega arith) h.low
          (subst (λ (y : List ℕ). Sub y (window h.at h.at letters)) (sym none) tt) row

      text_laid : (s : List ℕ) (deepest : Bool) → counted_of choice [] ≡ [] → kind_at x.nodes c.node ≡ text s
          → LaidTo (with_text deepest s c.under (without_node c.node (record x { work = work })))
      unfolding data_letters
      text_laid s false nil is =
          let t = next_text x.nodes h.at c.node s (numbers work) h.fits h.low is h.row in
          item_laid t.to (text_node s) work t.from t.high t.within
          (row_marked c.node t.to (numbers work) x.nodes h.fits t.row)
      text_laid s true nil is =
          let t = next_text x.nodes h.at c.node s (numbers work) h.fits h.low is h.row in
          let more = texts_next taken c.under t.to work nil taken_fits t.high
          (row_marked c.node t.to (numbers work) x.nodes h.fits t.row) in
          let both = next_then t more in
          item_laid both.to (text_node (s ++ next_texts taken c.under work)) (after_next_texts taken c.under work)
          both.from both.high both.within both.row

      children_come : (under : ℕ) → bears choice (kind_at x.nodes c.node) ≡ true
          → Rest taken h.at (numbers (map (coming under) (children_at taken c.node) ++ work))
      children_come under e =
          subst (λ (ns : List ℕ). Rest taken h.at ns) (sym (numbers_coming under (children_at taken c.node) work
          ∙ ap (λ (ns : List ℕ). ns ++ numbers work) (children_of_kind c.node c.node document x.nodes)))
          (row_marked c.node h.at (children_at x.nodes c.node ++ numbers work) x.nodes h.fits
          (row_append (marks choice none_out x.nodes limit l) h.at (children_at x.nodes c.node) (until limit l c.node)
          (numbers work) limit
          (row_from (marks choice none_out x.nodes limit l) (l.lo c.node) h.at (children_at x.nodes c.node)
          (until limit l c.node) (h.row.0 e).0 (h.fits.rows limit (omega arith) c.node))
          (subst (λ (b : Bool). Rest x.nodes (cond b (until limit l c.node) h.at) (numbers work)) e h.row.1)))

      kind_laid : (k : KindValue) (deepest : Bool) → counted_of choice [] ≡ [] → kind_at x.nodes c.node ≡ k
          → LaidTo (with_kind_of deepest k c (without_node c.node (record x { work = work })))
      unfolding data_letters
      kind_laid document deepest nil e =
          record { at = h.at; low = h.low; items = h.items; fits = taken_fits; row = uncounted (ap (bears choice) e) }
      kind_laid doctype deepest nil e = loose_laid doctype_node work refl (uncounted (ap (bears choice) e))
      kind_laid (text s) deepest nil e = text_laid s deepest nil e
      kind_laid (comment s) deepest nil e = loose_laid (comment_node s) work refl (uncounted (ap (bears choice) e))
      kind_laid (element name attributes) deepest nil e =
          let under = if deepest then c.under else length x.items in
          loose_laid (element_node (text_of_element_name name) attributes)
          (map (coming under) (children_at taken c.node) ++ work) refl (children_come under (ap (bears choice) e))

    next_laid : (depth : ℕ) (work : List Coming) (x : Layout) → counted_of choice [] ≡ [] → x.work ≡ work
        → LaidTo x → LaidTo (put_next depth work x)
    next_laid depth [] x nil e h = h
    next_laid depth (c ∷ work) x nil e h =
        kind_laid x c work (subst (λ (w : List Coming). LaidTo (record x { work = w })) e h)
        (kind_at x.nodes c.node) (is_deepest depth x.items c.under) nil refl

    all_laid : (depth k : ℕ) (x : Layout) → counted_of choice [] ≡ [] → LaidTo x
        → LaidTo (layout_within depth k x)
    all_laid depth zero x nil h = h
    all_laid depth (suc k) x nil h =
        all_laid depth k (put_next depth x.work x) nil (next_laid depth x.work x nil refl h)

    -- ---- the whole tree

    pub laid_in_order : (depth : ℕ) (nodes : List NodeValue) → counted_of choice [] ≡ []
        → FitsBy choice none_out letters nodes l
        → Sub (counted_in choice (texts_of (document_of depth nodes))) letters
    laid_in_order depth nodes nil h =
        let r = all_laid depth (length nodes) (first_layout nodes) nil (record {
          at = 0;
          low = omega arith;
          items = tt;
          fits = h;
          row = subst (λ (ns : List ℕ). Rest nodes 0 ns)
              (sym (numbers_coming 0 (children_at nodes 0) [] ∙ append-nil (children_at nodes 0)))
              (row_to (marks choice none_out nodes limit l) 0 (children_at nodes 0) (until limit l 0) limit
              (cond_low (l.live 0) limit (l.hi 0) limit (omega arith) (let a = h.high 0 in omega arith))
              (row_from (marks choice none_out nodes limit l) (l.lo 0) 0 (children_at nodes 0) (until limit l 0)
              (omega arith) (h.rows limit (omega arith) 0)));
        }) in
        subst (λ (y : List ℕ). Sub (counted_in choice (texts_of (document_of depth nodes))) y)
        (window_all (length letters) letters refl)
        (sub_wider (counted_in choice (texts_of (document_of depth nodes))) letters 0 r.at 0 (length letters)
        (omega arith) (omega arith) r.low r.items)

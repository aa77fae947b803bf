-- Open blocks, as the reader holds them.
use Rattle.std.proofs.Common.{◌≡◌, ◌∙◌, ℕ, zero, suc, ◌+◌, Bool, true, false, ◌&&◌, List, [], ◌∷◌, ◌++◌, map}
use Rattle.std.proofs.Common.{◌-◌, ◌<◌, length, take, drop, replicate, if◌then◌else◌, Option, Some, None, refl}
use Rattle.std.proofs.Common.{ap, ap₂, sym, subst}
use Rattle.std.proofs.Common.{append_assoc, append-nil, arith}
use Rattle.std.proofs.lemmas.List.{map-append, length-append, length-map, take_at, drop_at}
use Rattle.htmd_commonmark_reading.specs.LinkDefinitions as links
use Rattle.htmd_commonmark_reading.specs.Lines.{Line, is_blank}
use Rattle.htmd_commonmark_reading.specs.Boxes as spec
use Rattle.htmd_commonmark_reading.specs.Boxes.{Container, quoting, listing, ClosedBlocks, no_closed_blocks}
use Rattle.htmd_commonmark_reading.specs.Boxes.{closed_block, Open, nothing, leaf, within, box, joined}
use Rattle.htmd_commonmark_reading.specs.Boxes.{closed, closed_leaf, was_blank, boxed, one_closed_block}
use Rattle.htmd_commonmark_reading.specs.BlockStarts.{Start, no_start, whole, first_line, started, opened, fresh}
use Rattle.htmd_commonmark_reading.specs.Containers.{is_nothing, holds_nothing, taken, lazily, left, may_be_lazy}
use Rattle.htmd_commonmark_reading.specs.Containers.{inside, fed, after_container}
use Rattle.htmd_commonmark_reading.specs.Lists.{collected}
use Rattle.htmd_commonmark_reader.specs.ClosedParts.{begin, end, closed_parts, parts_of, part_of, kind_of}
use Rattle.htmd_commonmark_reader.specs.Definitions.{held_of, encoded}
use Rattle.htmd_commonmark_reader.specs.OpenLeaves.{IsLeaf}
use Rattle.htmd_commonmark_reader.specs.OpenBlocks.{open_parts, open_found, open_kinds, is_none, inner_none}
use Rattle.htmd_commonmark_reader.specs.OpenBlocks.{inner_gap, inner_leaf, Before, deeper, Holds, HoldsBox, Closes}
use Rattle.htmd_commonmark_reader.specs.OpenBlocks.{Ends, no_quote, Passed, passed_no_more, passed_one_more}
use Rattle.htmd_commonmark_reader.specs.OpenBlocks.{is_last, passed}
use Rattle.htmd_commonmark_reader.specs.declared.blocks.Blocks.{Blocks}
use Rattle.htmd_commonmark_reader.specs.declared.closed.Container as declared_kind
use Rattle.htmd_commonmark_reader.specs.declared.closed.Closed.TheVariants as part
use Rattle.htmd_commonmark_reader.specs.declared.leaves.Leaf as declared_leaf
use Rattle.htmd_commonmark_reader.specs.declared.leaves.Leaf.TheVariants as variant
use Rattle.htmd_commonmark_reader.specs.declared.leaves.Paragraph.{Paragraph}
use Rattle.htmd_commonmark_reader.proofs.ClosedPartsLemmas.{parts_append, parts_behind, joined_behind, joined_found}
use Rattle.htmd_commonmark_reader.proofs.ClosedPartsLemmas.{joined_parts, joined_none}

-- ---- what is closed in a box in which nothing is open

-- definitions that are encoded, behind others
encoded_behind : (a b c : List links.Definition)
    → map encoded (a ++ b) ++ map encoded c ≡ map encoded (a ++ (b ++ c))
encoded_behind a b c = sym (map-append encoded (a ++ b) c) ∙ ap (map encoded) (append_assoc a b c)

pub added : (p : Before) (done qs : ClosedBlocks) (g h : Bool) (old new : Blocks) → Holds p done g nothing old
    → Closes qs h old new → Holds p (joined done qs) h nothing new
added p done qs g h old new x c = record {
  parts = c.parts ∙ ap (λ l. l ++ closed_parts qs []) x.parts
      ∙ append_assoc p.parts (closed_parts done []) (closed_parts qs [])
      ∙ ap (λ l. p.parts ++ l) (sym (joined_behind done qs));
  found = c.found ∙ ap (λ l. l ++ map encoded (collected qs)) x.found
      ∙ encoded_behind p.found (collected done) (collected qs)
      ∙ ap (λ l. map encoded (p.found ++ l)) (sym (joined_found done qs));
  kinds = ap (λ v. map kind_of v.kinds.items) c.boxes ∙ x.kinds;
  none = c.none ∙ ap (λ b. b && is_none qs) x.none ∙ sym (joined_none done qs);
  gap = c.gap;
  inner = subst (λ l. IsLeaf l nothing) (sym c.inner) x.inner;
}

-- ---- a container that begins

pub record Begins (g : Bool) (k : declared_kind.Container) (old new : Blocks) : Type 0 where
  pub closed : new.closed.items ≡ old.closed.items ++ (part.Begin g k ∷ [])
  pub definitions : new.definitions ≡ old.definitions
  pub boxes : new.boxes.kinds.items ≡ old.boxes.kinds.items ++ (k ∷ [])
  pub none : new.is_empty ≡ true
  pub gap : new.gap ≡ false
  pub inner : new.leaf ≡ old.leaf

pub begun_box : (p : Before) (done : ClosedBlocks) (g : Bool) (k : declared_kind.Container) (old new : Blocks)
    → Holds p done g nothing old → Begins old.gap k old new
    → Holds (deeper p done g (kind_of k)) no_closed_blocks false nothing new
begun_box p done g k old new x b = record {
  parts = ap parts_of b.closed ∙ map-append part_of old.closed.items (part.Begin old.gap k ∷ [])
      ∙ ap₂ (λ l h. l ++ (begin h (kind_of k) ∷ [])) x.parts x.gap
      ∙ append_assoc p.parts (closed_parts done []) (begin g (kind_of k) ∷ [])
      ∙ ap (λ l. p.parts ++ l) (sym (parts_behind done (begin g (kind_of k) ∷ [])))
      ∙ sym (append-nil (p.parts ++ closed_parts done (begin g (kind_of k) ∷ [])));
  found = ap (λ v. map held_of v.items) b.definitions ∙ x.found
      ∙ ap (map encoded) (sym (append-nil (p.found ++ collected done)));
  kinds = ap (map kind_of) b.boxes ∙ map-append kind_of old.boxes.kinds.items (k ∷ [])
      ∙ ap (λ l. l ++ (kind_of k ∷ [])) (x.kinds ∙ append-nil p.kinds)
      ∙ sym (append-nil (p.kinds ++ (kind_of k ∷ [])));
  none = b.none;
  gap = b.gap;
  inner = subst (λ l. IsLeaf l nothing) (sym b.inner) x.inner;
}

-- ---- the box that is open in a container

module _ (p : Before) (done : ClosedBlocks) (g : Bool) (k : Container) (d : ClosedBlocks) (h : Bool) (o : Open) where
  same_parts : p.parts ++ closed_parts done (begin g k ∷ open_parts d h o)
      ≡ (p.parts ++ closed_parts done (begin g k ∷ [])) ++ open_parts d h o
  same_parts =
      ap (λ l. p.parts ++ l) (parts_append done (begin g k ∷ []) (open_parts d h o))
      ∙ sym (append_assoc p.parts (closed_parts done (begin g k ∷ [])) (open_parts d h o))

  same_found : map encoded (p.found ++ (collected done ++ open_found d o))
      ≡ map encoded ((p.found ++ collected done) ++ open_found d o)
  same_found = ap (map encoded) (sym (append_assoc p.found (collected done) (open_found d o)))

  same_kinds : p.kinds ++ (k ∷ open_kinds o) ≡ (p.kinds ++ (k ∷ [])) ++ open_kinds o
  same_kinds = sym (append_assoc p.kinds (k ∷ []) (open_kinds o))

  pub go_in : (x : Blocks) → Holds p done g (within k d h o) x → Holds (deeper p done g k) d h o x
  go_in x e = record {
    parts = e.parts ∙ same_parts;
    found = e.found ∙ same_found;
    kinds = e.kinds ∙ same_kinds;
    none = e.none;
    gap = e.gap;
    inner = e.inner;
  }

  pub go_out : (x : Blocks) → Holds (deeper p done g k) d h o x → Holds p done g (within k d h o) x
  go_out x e = record {
    parts = e.parts ∙ sym same_parts;
    found = e.found ∙ sym same_found;
    kinds = e.kinds ∙ sym same_kinds;
    none = e.none;
    gap = e.gap;
    inner = e.inner;
  }

-- ---- containers that end

ends_more : (n : ℕ) → end ∷ replicate n end ≡ replicate n end ++ (end ∷ [])
ends_more zero = refl
ends_more (suc n) = ap (λ l. end ∷ l) (ends_more n)

shut_parts : (done : ClosedBlocks) (g : Bool) (o : Open)
    → (open_parts done g o ++ closed_parts (closed (inner_gap g o) (inner_leaf o)) [])
    ++ replicate (length (open_kinds o)) end
    ≡ closed_parts (joined done (closed g o)) []
shut_parts done g nothing = append-nil (closed_parts done [] ++ []) ∙ sym (joined_behind done no_closed_blocks)
shut_parts done g (leaf f) =
    append-nil (closed_parts done [] ++ closed_parts (closed_leaf g f) [])
    ∙ sym (joined_behind done (closed_leaf g f))
shut_parts done g (within k d h o) =
    let c = closed_parts (closed (inner_gap h o) (inner_leaf o)) [] in
    let op = open_parts d h o in
    let n = length (open_kinds o) in
    let inner : (op ++ c) ++ (end ∷ replicate n end) ≡ closed_parts (joined d (closed h o)) (end ∷ []) =
    ap (λ l. (op ++ c) ++ l) (ends_more n) ∙ sym (append_assoc (op ++ c) (replicate n end) (end ∷ []))
    ∙ ap (λ l. l ++ (end ∷ [])) (shut_parts d h o)
    ∙ sym (parts_behind (joined d (closed h o)) (end ∷ [])) in
    ap (λ l. l ++ (end ∷ replicate n end)) (sym (parts_append done (begin g k ∷ op) c))
    ∙ sym (parts_append done (begin g k ∷ (op ++ c)) (end ∷ replicate n end))
    ∙ ap (λ l. closed_parts done (begin g k ∷ l)) inner
    ∙ sym (joined_parts done (one_closed_block g (boxed k (joined d (closed h o)))) [])

shut_found : (done : ClosedBlocks) (g : Bool) (o : Open)
    → open_found done o ++ collected (closed (inner_gap g o) (inner_leaf o)) ≡ collected (joined done (closed g o))
shut_found done g nothing = sym (joined_found done no_closed_blocks)
shut_found done g (leaf f) = sym (joined_found done (closed_leaf g f))
shut_found done g (within k d h o) =
    append_assoc (collected done) (open_found d o) (collected (closed (inner_gap h o) (inner_leaf o)))
    ∙ ap (λ l. collected done ++ l) (shut_found d h o ∙ sym (append-nil (collected (joined d (closed h o)))))
    ∙ sym (joined_found done (one_closed_block g (boxed k (joined d (closed h o)))))

pub and-true : (b : Bool) → (b && true) ≡ b
and-true true = refl
and-true false = refl

pub and-false : (b : Bool) → (b && false) ≡ false
and-false true = refl
and-false false = refl

shut_blank : (g : Bool) (o : Open)
    → (was_blank (inner_gap g o) (inner_leaf o) && no_quote (open_kinds o)) ≡ was_blank g o
shut_blank g nothing = and-true g
shut_blank g (leaf f) = and-true (was_blank g (leaf f))
shut_blank g (within quoting d h o) = and-false (was_blank (inner_gap h o) (inner_leaf o))
shut_blank g (within (listing sign number columns) d h o) = shut_blank h o

joined_one : (done : ClosedBlocks) (g : Bool) (p : spec.ClosedBlock)
    → false ≡ is_none (joined done (one_closed_block g p))
joined_one no_closed_blocks g p = refl
joined_one (closed_block h q qs) g p = refl

shut_none : (done : ClosedBlocks) (g : Bool) (o : Open) → 0 < length (open_kinds o)
    → false ≡ is_none (joined done (closed g o))
shut_none done g nothing l = absurd (omega (arith, l))
shut_none done g (leaf f) l = absurd (omega (arith, l))
shut_none done g (within k d h o) l = joined_one done g (boxed k (joined d (closed h o)))

map_take : {X Y : Type 0} (f : X → Y) (n : ℕ) (xs : List X) → map f (take n xs) ≡ take n (map f xs)
map_take f zero xs = refl
map_take f (suc n) [] = refl
map_take f (suc n) (x ∷ xs) = ap (λ l. f x ∷ l) (map_take f n xs)

map_drop : {X Y : Type 0} (f : X → Y) (n : ℕ) (xs : List X) → map f (drop n xs) ≡ drop n (map f xs)
map_drop f zero xs = refl
map_drop f (suc n) [] = refl
map_drop f (suc n) (x ∷ xs) = map_drop f n xs

-- with this leaf in the innermost container, or none for now
abbrev pub refilled : Blocks → declared_leaf.Leaf → Blocks
refilled b l = record {
  closed = b.closed;
  definitions = b.definitions;
  boxes = b.boxes;
  is_empty = b.is_empty;
  gap = b.gap;
  leaf = l;
}

abbrev pub emptied : Blocks → Blocks
emptied b = refilled b variant.Nothing

-- how many containers are open
pub held_count : (p : Before) (done : ClosedBlocks) (g : Bool) (o : Open) (b : Blocks) → Holds p done g o b
    → length b.boxes.kinds.items ≡ length p.kinds + length (open_kinds o)
held_count p done g o b h =
    sym (length-map b.boxes.kinds.items kind_of) ∙ ap length h.kinds ∙ length-append p.kinds (open_kinds o)

pub shut : (p : Before) (done : ClosedBlocks) (g : Bool) (o : Open) (depth : ℕ) (old mid new : Blocks)
    → length p.kinds ≡ depth → 0 < length (open_kinds o) → Holds p done g o old
    → Closes (closed old.gap (inner_leaf o)) (was_blank old.gap (inner_leaf o)) (emptied old) mid
    → Ends depth mid new
    → Holds p (joined done (closed g o)) (was_blank g o) nothing new
shut p done g o depth old mid new size some x c e =
    let i = inner_leaf o in
    let gap = inner_gap g o in
    let inner = closed_parts (closed gap i) [] in
    let boxes : map kind_of mid.boxes.kinds.items ≡ p.kinds ++ open_kinds o =
    ap (λ v. map kind_of v.kinds.items) c.boxes ∙ x.kinds in
    let all : length mid.boxes.kinds.items ≡ length p.kinds + length (open_kinds o) =
    ap (λ v. length v.kinds.items) c.boxes ∙ held_count p done g o old x in
    let count : length mid.boxes.kinds.items - depth ≡ length (open_kinds o) = omega (arith, all, size) in
    let parts : parts_of mid.closed.items ≡ (p.parts ++ open_parts done g o) ++ inner =
    c.parts ∙ ap₂ (λ l b. l ++ closed_parts (closed b i) []) x.parts x.gap in
    let found : map held_of mid.definitions.items
    ≡ map encoded (p.found ++ open_found done o) ++ map encoded (collected (closed gap i)) =
    c.found ∙ ap₂ (λ l b. l ++ map encoded (collected (closed b i))) x.found x.gap in
    record {
      parts = e.parts ∙ ap₂ (λ l n. l ++ replicate n end) parts count
          ∙ ap (λ l. l ++ replicate (length (open_kinds o)) end) (append_assoc p.parts (open_parts done g o) inner)
          ∙ append_assoc p.parts (open_parts done g o ++ inner) (replicate (length (open_kinds o)) end)
          ∙ ap (λ l. p.parts ++ l) (shut_parts done g o);
      found = ap (λ v. map held_of v.items) e.definitions ∙ found
          ∙ encoded_behind p.found (open_found done o) (collected (closed gap i))
          ∙ ap (λ l. map encoded (p.found ++ l)) (shut_found done g o);
      kinds = ap (map kind_of) e.boxes ∙ map_take kind_of depth mid.boxes.kinds.items ∙ ap (take depth) boxes
          ∙ take_at p.kinds (open_kinds o) depth size ∙ sym (append-nil p.kinds);
      none = e.none ∙ shut_none done g o some;
      gap = e.gap ∙ ap₂ (λ b l. b && no_quote l) (c.gap ∙ ap (λ b. was_blank b i) x.gap)
          (map_drop kind_of depth mid.boxes.kinds.items ∙ ap (drop depth) boxes
          ∙ drop_at p.kinds (open_kinds o) depth size)
          ∙ shut_blank g o;
      inner = subst (λ l. IsLeaf l nothing) (sym (e.inner ∙ c.inner)) refl;
    }

-- a box in which no container is open
pub empty_here : (p : Before) (done : ClosedBlocks) (g : Bool) (o : Open) (b : Blocks) → open_kinds o ≡ []
    → Holds p done g o b → Holds p done g nothing (emptied b)
empty_here p done g nothing b e h = record {
  parts = h.parts;
  found = h.found;
  kinds = h.kinds;
  none = h.none;
  gap = h.gap;
  inner = refl;
}
empty_here p done g (leaf f) b e h = record {
  parts = h.parts;
  found = h.found;
  kinds = h.kinds;
  none = h.none;
  gap = h.gap;
  inner = refl;
}
empty_here p done g (within k d i o) b e h = absurd (cc)

pub emptied_here : (p : Before) (done : ClosedBlocks) (g : Bool) (o : Open) (b : Blocks) (l : declared_leaf.Leaf)
    → l ≡ variant.Nothing → open_kinds o ≡ [] → Holds p done g o b → Holds p done g nothing (refilled b l)
emptied_here p done g o b l e k h =
    subst (λ f. Holds p done g nothing (refilled b f)) (sym e) (empty_here p done g o b k h)

pub shut_here : (p : Before) (done : ClosedBlocks) (g : Bool) (o : Open) (old mid : Blocks)
    → open_kinds o ≡ [] → Holds p done g o old
    → Closes (closed old.gap (inner_leaf o)) (was_blank old.gap (inner_leaf o)) (emptied old) mid
    → Holds p (joined done (closed g o)) (was_blank g o) nothing mid
shut_here p done g nothing old mid e h c =
    added p done (closed g nothing) g (was_blank g nothing) (emptied old) mid (empty_here p done g nothing old e h)
    (subst (λ b. Closes (closed b nothing) (was_blank b nothing) (emptied old) mid) h.gap c)
shut_here p done g (leaf f) old mid e h c =
    added p done (closed g (leaf f)) g (was_blank g (leaf f)) (emptied old) mid
    (empty_here p done g (leaf f) old e h)
    (subst (λ b. Closes (closed b (leaf f)) (was_blank b (leaf f)) (emptied old) mid) h.gap c)
shut_here p done g (within k d i o) old mid e h c = absurd (cc)

-- ---- the innermost box

-- a box in which no container is open, and the box that it is the innermost of
pub record Innermost (p : Before) (done : ClosedBlocks) (g : Bool) (o : Open) : Type 0 where
  pub before : Before
  pub content : ClosedBlocks
  pub gap : Bool
  pub to : (x : Blocks) → Holds p done g o x → Holds before content gap (inner_leaf o) x
  pub lazily_back : (l : Line) (x : Blocks) → Holds before content gap (lazily (inner_leaf o) l) x
      → Holds p done g (lazily o l) x

pub innermost : (p : Before) (done : ClosedBlocks) (g : Bool) (o : Open) → Innermost p done g o
innermost p done g nothing = record {
  before = p;
  content = done;
  gap = g;
  to = λ x h. h;
  lazily_back = λ l x h. h;
}
innermost p done g (leaf f) = record {
  before = p;
  content = done;
  gap = g;
  to = λ x h. h;
  lazily_back = λ l x h. h;
}
innermost p done g (within k d i o) =
    let inner = innermost (deeper p done g k) d i o in
    record {
      before = inner.before;
      content = inner.content;
      gap = inner.gap;
      to = λ x h. inner.to x (go_in p done g k d i o x h);
      lazily_back = λ l x h. go_out p done g k d i (lazily o l) x (inner.lazily_back l x h);
    }

-- ---- the containers that take a line

-- the box that so many containers lead to, in which no more of them take what they leave of a line
pub record Walk (p : Before) (done : ClosedBlocks) (g : Bool) (o : Open) (l : Line) (w : Passed) : Type 0 where
  pub before : Before
  pub content : ClosedBlocks
  pub gap : Bool
  pub inner : Open
  pub to : (x : Blocks) → Holds p done g o x → Holds before content gap inner x
  pub back : (x : Blocks) → HoldsBox before (fed content gap inner w.rest) x → HoldsBox p (fed done g o l) x
  pub depth : length before.kinds ≡ length p.kinds + w.count
  pub size : length (open_kinds o) ≡ w.count + length (open_kinds inner)
  pub stops : 0 < length (open_kinds inner) → fed content gap inner w.rest
      ≡ left (may_be_lazy inner w.rest) content gap inner w.rest
      (started (after_container (may_be_lazy inner w.rest)) w.rest)

last_none : (d : ClosedBlocks) (o : Open)
    → (is_last (open_kinds o) && (inner_none d o && is_nothing (inner_leaf o))) ≡ holds_nothing d o
last_none no_closed_blocks nothing = refl
last_none no_closed_blocks (leaf f) = refl
last_none no_closed_blocks (within k d g o) = refl
last_none (closed_block h q qs) nothing = refl
last_none (closed_block h q qs) (leaf f) = refl
last_none (closed_block h q qs) (within k d g o) = refl

stays : (p : Before) (done : ClosedBlocks) (g : Bool) (o : Open) (l : Line)
    → (0 < length (open_kinds o) → fed done g o l
    ≡ left (may_be_lazy o l) done g o l (started (after_container (may_be_lazy o l)) l))
    → Walk p done g o l (passed_no_more l)
stays p done g o l s = record {
  before = p;
  content = done;
  gap = g;
  inner = o;
  to = λ x h. h;
  back = λ x h. h;
  depth = omega arith;
  size = omega arith;
  stops = s;
}

goes_in : (p : Before) (done : ClosedBlocks) (g : Bool) (k : Container) (d : ClosedBlocks) (h : Bool) (o : Open)
    (l r : Line) (w : Passed) → taken k (holds_nothing d o) l ≡ Some r → Walk (deeper p done g k) d h o r w
    → Walk p done g (within k d h o) l (passed_one_more w)
goes_in p done g k d h o l r w e i =
    let same : inside done g k (fed d h o r) ≡ fed done g (within k d h o) l = rw (e, fed) refl in
    let b = fed d h o r in
    record {
      before = i.before;
      content = i.content;
      gap = i.gap;
      inner = i.inner;
      to = λ x y. i.to x (go_in p done g k d h o x y);
      back = λ x y. subst (λ c. HoldsBox p c x) same
          (go_out p done g k b.done b.gap b.inner x (i.back x y));
      depth = let size = length-append p.kinds (k ∷ []) in omega (arith, i.depth, size);
      size = omega (arith, i.size);
      stops = i.stops;
    }

walk_by : (p : Before) (done : ClosedBlocks) (g : Bool) (k : Container) (d : ClosedBlocks) (h : Bool) (o : Open)
    (l : Line) (t : Option Line) → taken k (holds_nothing d o) l ≡ t
    → ((r : Line) → Walk (deeper p done g k) d h o r
    (passed (open_kinds o) (inner_none d o && is_nothing (inner_leaf o)) r))
    → Walk p done g (within k d h o) l (elim t [
      | Some r ↦ passed_one_more (passed (open_kinds o) (inner_none d o && is_nothing (inner_leaf o)) r)
      | None ↦ passed_no_more l
    ])
walk_by p done g k d h o l None e inner = stays p done g (within k d h o) l (λ s. rw (e, fed) refl)
walk_by p done g k d h o l (Some r) e inner =
    goes_in p done g k d h o l r (passed (open_kinds o) (inner_none d o && is_nothing (inner_leaf o)) r) e (inner r)

pub walk : (p : Before) (done : ClosedBlocks) (g : Bool) (o : Open) (l : Line)
    → Walk p done g o l (passed (open_kinds o) (inner_none done o && is_nothing (inner_leaf o)) l)
walk p done g nothing l = stays p done g nothing l (λ s. absurd (omega (arith, s)))
walk p done g (leaf f) l = stays p done g (leaf f) l (λ s. absurd (omega (arith, s)))
walk p done g (within k d h o) l =
    let e = inner_none d o && is_nothing (inner_leaf o) in
    subst (λ b. Walk p done g (within k d h o) l (elim (taken k b l) [
      | Some r ↦ passed_one_more (passed (open_kinds o) e r)
      | None ↦ passed_no_more l
    ])) (sym (last_none d o))
    (walk_by p done g k d h o l (taken k (holds_nothing d o) l) refl (λ r. walk (deeper p done g k) d h o r))

-- ---- a container that a line begins

pub begun_within : (p : Before) (done : ClosedBlocks) (g : Bool) (k : Container) (r : Line) (s : Start) (l : Line)
    (x : Blocks) → HoldsBox (deeper p done g k)
    (if is_blank r then box no_closed_blocks false nothing else opened no_closed_blocks false r s) x
    → HoldsBox p (opened done g l (first_line (fresh k r s))) x
begun_within p done g k r s l x h =
    let b = if is_blank r then box no_closed_blocks false nothing else opened no_closed_blocks false r s in
    go_out p done g k b.done b.gap b.inner x h

pub inner_blank : (p : Before) (done : ClosedBlocks) (g : Bool) (k : Container) (r : Line) (s : Start) (l : Line)
    (x : Blocks) → is_blank r ≡ true → Holds (deeper p done g k) no_closed_blocks false nothing x
    → HoldsBox p (opened done g l (first_line (fresh k r s))) x
inner_blank p done g k r s l x e h =
    let same : box no_closed_blocks false nothing
    ≡ (if is_blank r then box no_closed_blocks false nothing else opened no_closed_blocks false r s) = rw e refl in
    begun_within p done g k r s l x (subst (λ b. HoldsBox (deeper p done g k) b x) same h)

pub inner_filled : (p : Before) (done : ClosedBlocks) (g : Bool) (k : Container) (r : Line) (s : Start) (l : Line)
    (x : Blocks) → is_blank r ≡ false → HoldsBox (deeper p done g k) (opened no_closed_blocks false r s) x
    → HoldsBox p (opened done g l (first_line (fresh k r s))) x
inner_filled p done g k r s l x e h =
    let same : opened no_closed_blocks false r s
    ≡ (if is_blank r then box no_closed_blocks false nothing else opened no_closed_blocks false r s) = rw e refl in
    begun_within p done g k r s l x (subst (λ b. HoldsBox (deeper p done g k) b x) same h)

-- what is left to begin, behind containers that a line began
pub record Reach (p : Before) (done : ClosedBlocks) (g : Bool) (l : Line) (s : Start) (r : Line) (t : Start)
    (x : Blocks) : Type 0 where
  pub before : Before
  pub content : ClosedBlocks
  pub gap : Bool
  pub holds : Holds before content gap nothing x
  pub back : (y : Blocks) → HoldsBox before (opened content gap r t) y → HoldsBox p (opened done g l s) y

pub reach_start : (p : Before) (done : ClosedBlocks) (g : Bool) (l : Line) (s : Start) (x : Blocks)
    → Holds p done g nothing x → Reach p done g l s l s x
reach_start p done g l s x h = record { before = p; content = done; gap = g; holds = h; back = λ y i. i }

pub reach_more : (p : Before) (done : ClosedBlocks) (g : Bool) (l : Line) (s : Start) (q : Line) (k : Container)
    (r : Line) (t u : Start) (x y : Blocks) → Reach p done g l s q t x → t ≡ first_line (fresh k r u)
    → is_blank r ≡ false
    → ((b : Before) (d : ClosedBlocks) (h : Bool) → Holds b d h nothing x
    → Holds (deeper b d h k) no_closed_blocks false nothing y)
    → Reach p done g l s r u y
reach_more p done g l s q k r t u x y i e f opens = record {
  before = deeper i.before i.content i.gap k;
  content = no_closed_blocks;
  gap = false;
  holds = opens i.before i.content i.gap i.holds;
  back = λ z j. i.back z (subst (λ v. HoldsBox i.before (opened i.content i.gap q v) z) (sym e)
      (inner_filled i.before i.content i.gap k r u q z f j));
}

pub reach_blank : (p : Before) (done : ClosedBlocks) (g : Bool) (l : Line) (s : Start) (q : Line) (k : Container)
    (r : Line) (t u : Start) (x y : Blocks) → Reach p done g l s q t x → t ≡ first_line (fresh k r u)
    → is_blank r ≡ true
    → ((b : Before) (d : ClosedBlocks) (h : Bool) → Holds b d h nothing x
    → Holds (deeper b d h k) no_closed_blocks false nothing y)
    → HoldsBox p (opened done g l s) y
reach_blank p done g l s q k r t u x y i e f opens =
    i.back y (subst (λ v. HoldsBox i.before (opened i.content i.gap q v) y) (sym e)
    (inner_blank i.before i.content i.gap k r u q y f (opens i.before i.content i.gap i.holds)))

-- the block that a line begins
abbrev pub start_open : Start → Open
start_open no_start = nothing
start_open (whole b) = nothing
start_open (first_line o) = o

opened_kinds : (r : Line) (s : Start)
    → open_kinds ((opened no_closed_blocks false r s).inner) ≡ open_kinds (start_open s)
opened_kinds r no_start = refl
opened_kinds r (whole b) = refl
opened_kinds r (first_line o) = refl

-- in a container fewer containers begin
pub fewer : (k : Container) (r : Line) (s : Start) → is_blank r ≡ false
    → length (open_kinds (start_open s)) < length (open_kinds (start_open (first_line (fresh k r s))))
fewer k r s e =
    let inner : open_kinds (start_open (first_line (fresh k r s))) ≡ k ∷ open_kinds (start_open s) =
    (rw e refl) ∙ ap (λ l. k ∷ l) (opened_kinds r s) in
    let size = ap length inner in
    omega (arith, size)

-- ---- in code

pub no_kinds : (ks : List Container) → length ks ≡ 0 → ks ≡ []
no_kinds [] e = refl
no_kinds (k ∷ ks) e = absurd (omega (arith, e))

-- where no container is open, the innermost leaf is all
pub here : (o q : Open) → open_kinds o ≡ [] → inner_leaf o ≡ q → o ≡ q
here nothing q e f = f
here (leaf l) q e f = f
here (within k d h o) q e f = absurd (cc)

pub inner_kinds : (o : Open) → open_kinds (inner_leaf o) ≡ []
inner_kinds nothing = refl
inner_kinds (leaf l) = refl
inner_kinds (within k d h o) = inner_kinds o

pub inner_lazy : (o : Open) (l : Line) → may_be_lazy (inner_leaf o) l ≡ may_be_lazy o l
inner_lazy nothing l = refl
inner_lazy (leaf f) l = refl
inner_lazy (within k d h o) l = inner_lazy o l

-- other leaves take no lazy lines
pub lazily_other : (f : declared_leaf.Leaf) (o : Open) (l : Line)
    → ((x : Paragraph) → f ≡ variant.Paragraph x → ⊥) → IsLeaf f o → lazily o l ≡ o
lazily_other variant.Nothing o l n i = ap (λ q. lazily q l) i ∙ sym i
lazily_other (variant.Paragraph x) o l n i = absurd (n x refl)
lazily_other (variant.Indented x) o l n i = ap (λ q. lazily q l) i.1 ∙ sym i.1
lazily_other (variant.Fenced x) o l n i = ap (λ q. lazily q l) i.5 ∙ sym i.5
lazily_other (variant.Html x) o l n i = ap (λ q. lazily q l) i.2 ∙ sym i.2
lazily_other (variant.Table x) o l n i = ap (λ q. lazily q l) i.3 ∙ sym i.3

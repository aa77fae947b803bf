-- What is filled with normal blocks: parts that are normal, none empty.
use Rattle.std.proofs.Common.{◌≡◌, ℕ, ◌≤◌, true, false, not, cond, List, [], ◌∷◌, ◌++◌, refl, sym, ap, ◌∙◌, subst}
use Rattle.std.proofs.Common.{Bool, append_assoc, arith}
use Rattle.std.specs.Prelude.{◌&&◌, ◌||◌, nat_le}
use Rattle.htmd_document.specs.Documents.{Inlines, no_inlines, inline, text, code, formatted, link, image, anchor}
use Rattle.htmd_document.specs.Documents.{line_break, task, Block, paragraph, heading, code_block, quote}
use Rattle.htmd_document.specs.Documents.{thematic_break, list, table, element, tags}
use Rattle.htmd_document.specs.FlatDocuments.{flat_block, is_plain}
use Rattle.htmd_document.specs.NormalDocuments.{is_normal_block, is_normal_paragraph, depth_of}
use Rattle.htmd_document.specs.NormalInlines.{has_none, is_normal_line, is_normal_item, are_anchors}
use Rattle.htmd_document.specs.NormalInlines.{anchors_stand_well, are_whole, are_normal}
use Rattle.htmd_document.specs.TightItems.{is_paragraph, goes_on_a_paragraph}
use Rattle.htmd_chunks.specs.Fillings.{Part, BlockPart, Filling, part_in, flushed, has_room, with_room, with_blocks}
use Rattle.htmd_chunks.specs.Fillings.{with_whole, with_heads, with_further, with_parts}
use Rattle.htmd_chunks.specs.Runs.{is_none}
use Rattle.htmd_chunks.proofs.FillingsLemmas.{merged, AreParts, parts_of}
use Rattle.htmd_chunks.proofs.NormalFlatLemmas.{Tight, tight-head, tight-back, tight-put, tight-begun}
use Rattle.htmd_chunks.proofs.RunsLemmas.{and_left, and_right}

-- ---- blocks in a row

abbrev pub Fine : ℕ → Bool → Block → Type 0
Fine n in_item b = (is_normal_block in_item b ≡ true) × (depth_of b ≤ n)

abbrev pub AllFine : ℕ → Bool → List Block → Type 0
AllFine n in_item [] = Unit {0}
AllFine n in_item (b ∷ bs) = Fine n in_item b × AllFine n false bs

line-item : (content : Inlines) → is_normal_line content ≡ true → is_normal_item content ≡ true
line-item no_inlines h = h
line-item (inline (text s) xs) h = h
line-item (inline (code s) xs) h = h
line-item (inline (formatted f ys) xs) h = h
line-item (inline (link a t ys) xs) h = h
line-item (inline (image a t d) xs) h = h
line-item (inline (anchor i) xs) h = h
line-item (inline line_break xs) h = h
line-item (inline (task b) xs) h =
    let bad : false ≡ true =
    and_right (are_whole (inline (task b) xs)) (are_normal false [] (inline (task b) xs)) h in
    absurd (cc)

paragraph-any : (in_item : Bool) (content : Inlines) → is_normal_paragraph false content ≡ true
    → is_normal_paragraph in_item content ≡ true
paragraph-any false content h = h
paragraph-any true content h =
    let x = not (has_none content) in
    let y = is_normal_line content in
    let z = are_anchors content || anchors_stand_well content in
    let line = line-item content (and_right x y (and_left (x && y) z h)) in
    ap (λ b. (x && b) && z) (line ∙ sym (and_right x y (and_left (x && y) z h))) ∙ h

pub normal-any : (in_item : Bool) (b : Block) → is_normal_block false b ≡ true
    → is_normal_block in_item b ≡ true
normal-any in_item (paragraph content) h = paragraph-any in_item content h
normal-any in_item (heading level content) h = h
normal-any in_item (code_block language s) h = h
normal-any in_item (quote content) h = h
normal-any in_item thematic_break h = h
normal-any in_item (list start t items) h = h
normal-any in_item (table alignments header rows) h = h
normal-any in_item (element name attributes content) h = h
normal-any in_item (tags s) h = h

pub fine-any : (n : ℕ) (in_item : Bool) (bs : List Block) → AllFine n false bs → AllFine n in_item bs
fine-any n in_item [] h = tt
fine-any n in_item (b ∷ bs) h = ((normal-any in_item b h.0.0, h.0.1), h.1)

fine-head : (n : ℕ) (in_item : Bool) (xs ys : List Block) → AllFine n in_item (xs ++ ys) → AllFine n in_item xs
fine-head n in_item [] ys h = tt
fine-head n in_item (x ∷ xs) ys h = (h.0, fine-head n false xs ys h.1)

fine-back : (n : ℕ) (in_item : Bool) (xs ys : List Block) → AllFine n in_item (xs ++ ys) → AllFine n in_item ys
fine-back n in_item [] ys h = h
fine-back n in_item (x ∷ xs) ys h = fine-any n in_item ys (fine-back n false xs ys h.1)

-- a block behind others isn't the first of an item
abbrev pub first_in : Bool → List Block → Bool
first_in in_item [] = in_item
first_in in_item (x ∷ xs) = false

pub fine-next : (n : ℕ) (in_item : Bool) (xs : List Block) (b : Block) (ys : List Block)
    → AllFine n in_item (xs ++ b ∷ ys) → Fine n (first_in in_item xs) b
fine-next n in_item [] b ys h = h.0
fine-next n in_item (x ∷ xs) b ys h =
    let next = fine-next n false xs b ys h.1 in (at xs next.0, next.1)
  where
    at : (xs : List Block) → is_normal_block (first_in false xs) b ≡ true → is_normal_block false b ≡ true
    at [] h = h
    at (y ∷ ys) h = h

fine-put : (n : ℕ) (in_item : Bool) (xs : List Block) (b p : Block) (ys : List Block)
    → AllFine n in_item (xs ++ b ∷ ys) → Fine n (first_in in_item xs) p → AllFine n in_item (xs ++ p ∷ [])
fine-put n in_item [] b p ys h g = (g, tt)
fine-put n in_item (x ∷ xs) b p ys h g = (h.0, fine-put n false xs b p ys h.1 (at xs g.0, g.1))
  where
    at : (xs : List Block) → is_normal_block false p ≡ true → is_normal_block (first_in false xs) p ≡ true
    at [] h = h
    at (y ∷ ys) h = h

-- ---- parts

-- normal, not deeper than that, and tight where they have to be
pub record Fits (n : ℕ) (in_item is_tight : Bool) (bs : List Block) : Type 0 where
  pub fine : AllFine n in_item bs
  pub tight : Tight is_tight bs

pub fits-head : (n : ℕ) (in_item is_tight : Bool) (xs ys : List Block) → Fits n in_item is_tight (xs ++ ys)
    → Fits n in_item is_tight xs
fits-head n in_item is_tight xs ys h =
    record { fine = fine-head n in_item xs ys h.fine; tight = tight-head is_tight xs ys h.tight }

pub fits-back : (n : ℕ) (in_item is_tight : Bool) (xs ys : List Block) → Fits n in_item is_tight (xs ++ ys)
    → Fits n in_item is_tight ys
fits-back n in_item is_tight xs ys h =
    record { fine = fine-back n in_item xs ys h.fine; tight = tight-back is_tight xs ys h.tight }

pub record IsGood (n : ℕ) (in_item is_tight : Bool) (bs : List Block) : Type 0 where
  pub some : is_none bs ≡ false
  pub fits : Fits n in_item is_tight bs

abbrev pub AreGood : ℕ → Bool → Bool → List Part → Type 0
AreGood n in_item is_tight [] = Unit {0}
AreGood n in_item is_tight (p ∷ parts) = IsGood n in_item is_tight p.blocks × AreGood n in_item is_tight parts

pub good-append : (n : ℕ) (in_item is_tight : Bool) (ps qs : List Part) → AreGood n in_item is_tight ps
    → AreGood n in_item is_tight qs → AreGood n in_item is_tight (ps ++ qs)
good-append n in_item is_tight [] qs g h = h
good-append n in_item is_tight (p ∷ ps) qs g h = (g.0, good-append n in_item is_tight ps qs g.1 h)

-- ---- what a block is cut into

pub record IsPart (in_item : Bool) (b p : Block) : Type 0 where
  pub normal : is_normal_block in_item p ≡ true
  pub depth : depth_of p ≤ depth_of b
  pub plain : is_plain p ≡ true
  pub same : is_paragraph b ≡ true → is_paragraph p ≡ true

abbrev pub ArePieces : Block → List BlockPart → Type 0
ArePieces b [] = Unit {0}
ArePieces b (p ∷ parts) = IsPart false b p.block × ArePieces b parts

-- one part, or several normal ones
pub data Pieces (in_item : Bool) (b : Block) : List BlockPart → Type 0 where
  alone : (p : BlockPart) → Pieces in_item b (p ∷ [])
  several : (p q : BlockPart) (rest : List BlockPart) → is_plain b ≡ true → IsPart in_item b p.block
      → (goes_on_a_paragraph (flat_block b) ≡ true → goes_on_a_paragraph (flat_block p.block) ≡ true)
      → ArePieces b (q ∷ rest) → Pieces in_item b (p ∷ q ∷ rest)

pub pieces-of : (in_item : Bool) (b : Block) (p : BlockPart) (rest : List BlockPart) → is_plain b ≡ true
    → IsPart in_item b p.block
    → (goes_on_a_paragraph (flat_block b) ≡ true → goes_on_a_paragraph (flat_block p.block) ≡ true)
    → ArePieces b rest → Pieces in_item b (p ∷ rest)
pieces-of in_item b p [] plain part on others = alone p
pieces-of in_item b p (q ∷ rest) plain part on others = several p q rest plain part on others

pub parts-some : (b : Block) (parts : List BlockPart) → AreParts b parts → is_none parts ≡ false
parts-some b parts (parts_of q rest go_on) = refl

pub whole-is : (b : Block) (p : BlockPart) (parts : List BlockPart) → AreParts b (p ∷ parts)
    → merged p.block parts ≡ b
whole-is b p parts (parts_of q rest go_on) = refl

-- ---- what is filled so far, and the blocks to come

module _ (n : ℕ) (in_item is_tight : Bool) where
  pub record State (f : Filling) (ys : List Block) : Type 0 where
    pub done : AreGood n in_item is_tight f.done
    pub fits : Fits n in_item is_tight (f.now ++ ys)
    pub some : is_none (f.now ++ ys) ≡ false

  closed : (f : Filling) → AreGood n in_item is_tight f.done → IsGood n in_item is_tight f.now
      → AreGood n in_item is_tight (f.done ++ part_in f ∷ [])
  closed f done now = good-append n in_item is_tight f.done (part_in f ∷ []) done (now, tt)

  flushed-state : (most : ℕ) (f : Filling) (ys : List Block) → is_none f.now ≡ false → is_none ys ≡ false
      → State f ys → State (flushed most f) ys
  flushed-state most f ys here later s =
      record {
        done = closed f s.done (record { some = here; fits = fits-head n in_item is_tight f.now ys s.fits });
        fits = fits-back n in_item is_tight f.now ys s.fits;
        some = later;
      }

  pub room-state : (most gap : ℕ) (f : Filling) (bytes : ℕ) (ys : List Block) → is_none ys ≡ false
      → State f ys
      → State (with_room most gap f bytes) ys
  room-state most gap f bytes ys later s = at (is_none f.now) refl (has_room gap f bytes)
    where
      at : (e : Bool) → is_none f.now ≡ e → (r : Bool) → State (cond (e || r) f (flushed most f)) ys
      at true is r = s
      at false is true = s
      at false is false = flushed-state most f ys is later s

  pub blocks-state : (gap : ℕ) (f : Filling) (bs : List Block) (bytes : ℕ) (ys : List Block) → State f (bs ++ ys)
      → State (with_blocks gap f bs bytes) ys
  blocks-state gap f bs bytes ys s =
      let same : f.now ++ (bs ++ ys) ≡ (f.now ++ bs) ++ ys = sym (append_assoc f.now bs ys) in
      record {
        done = s.done;
        fits = subst (Fits n in_item is_tight) same s.fits;
        some = subst (λ (l : List Block). is_none l ≡ false) same s.some;
      }

  pub whole-state : (most gap : ℕ) (f : Filling) (bs : List Block) (bytes : ℕ) (ys : List Block)
      → is_none bs ≡ false → State f (bs ++ ys) → State (with_whole most gap f bs bytes) ys
  whole-state most gap f bs bytes ys some s =
      blocks-state gap (with_room most gap f bytes) bs bytes ys
      (room-state most gap f bytes (bs ++ ys) (more bs some) s)
    where
      more : (bs : List Block) → is_none bs ≡ false → is_none (bs ++ ys) ≡ false
      more [] some = absurd (cc)
      more (b ∷ bs) some = refl

  pub heads-state : (most gap : ℕ) (f : Filling) (hs : List Block) (heads least : ℕ) (b : Block) (ys : List Block)
      → State f (hs ++ b ∷ ys) → State (with_heads most gap f hs heads least) (b ∷ ys)
  heads-state most gap f hs heads least b ys s =
      let g = with_room most gap f least in
      let put = blocks-state gap g hs heads (b ∷ ys)
      (room-state most gap f least (hs ++ b ∷ ys) (behind hs) s) in
      at hs (is_none g.now) (nat_le least g.free) put
    where
      behind : (hs : List Block) → is_none (hs ++ b ∷ ys) ≡ false
      behind [] = refl
      behind (h ∷ hs) = refl

      some : (xs : List Block) (x : Block) (rest : List Block) → is_none (xs ++ x ∷ rest) ≡ false
      some [] x rest = refl
      some (y ∷ xs) x rest = refl

      at : (hs : List Block) (e r : Bool) → State (with_blocks gap (with_room most gap f least) hs heads) (b ∷ ys)
          → State (cond ((e && not (is_none hs)) && not r)
          (flushed most (with_blocks gap (with_room most gap f least) hs heads))
          (with_blocks gap (with_room most gap f least) hs heads)) (b ∷ ys)
      at hs false r put = put
      at [] true r put = put
      at (h ∷ hs) true true put = put
      at (h ∷ hs) true false put =
          let g = with_room most gap f least in
          flushed-state most (with_blocks gap g (h ∷ hs) heads) (b ∷ ys) (some g.now h hs) refl put

  -- ---- parts of one block

  one-good : (b p : Block) (ys : List Block) → Fits n in_item is_tight (b ∷ ys) → is_plain b ≡ true
      → IsPart false b p → Fits n in_item is_tight (p ∷ ys)
  one-good b p ys h plain part =
      let deep : depth_of p ≤ n = least (depth_of p) (depth_of b) part.depth h.fine.0.1 in
      record {
        fine = ((normal-any in_item p part.normal, deep), h.fine.1);
        tight = tight-begun is_tight b p ys plain part.plain part.same h.tight;
      }
    where
      least : (a c : ℕ) → a ≤ c → c ≤ n → a ≤ n
      least a c g h = omega arith

  further-state : (most : ℕ) (f : Filling) (b : Block) (p : BlockPart) (rest : List BlockPart) (ys : List Block)
      → AreGood n in_item is_tight f.done → IsGood n in_item is_tight f.now → is_plain b ≡ true
      → ArePieces b (p ∷ rest) → Fits n in_item is_tight (b ∷ ys)
      → State (with_further most f (p ∷ rest)) ys
  further-state most f b p [] ys done now plain parts fits =
      record { done = closed f done now; fits = one-good b p.block ys fits plain parts.0; some = refl }
  further-state most f b p (q ∷ rest) ys done now plain parts fits =
      let g : Filling = record (flushed most f) { now = p.block ∷ []; continues = p.continues } in
      let here : IsGood n in_item is_tight (p.block ∷ []) =
      record {
        some = refl;
        fits = fits-head n in_item is_tight (p.block ∷ []) ys (one-good b p.block ys fits plain parts.0);
      } in
      further-state most g b q rest ys (closed f done now) here plain parts.1 fits

  pub parts-state : (most : ℕ) (f : Filling) (b : Block) (parts : List BlockPart) (last : ℕ) (ys : List Block)
      → State f (b ∷ ys) → AreParts b parts → Pieces (first_in in_item f.now) b parts
      → State (with_parts most f parts last) ys
  parts-state most f b parts last ys s are (alone p) =
      let put = blocks-state 0 f (p.block ∷ []) 0 ys
      (subst (λ (x : Block). State f (x ∷ ys)) (sym (whole-is b p [] are)) s) in
      record { done = put.done; fits = put.fits; some = put.some }
  parts-state most f b parts last ys s are (several p q rest plain part on others) =
      let g : Filling = record f { now = f.now ++ p.block ∷ [] } in
      let next = fine-next n in_item f.now b ys s.fits.fine in
      let here : IsGood n in_item is_tight (f.now ++ p.block ∷ []) =
      record {
        some = some f.now p.block;
        fits = record {
          fine = fine-put n in_item f.now b p.block ys s.fits.fine
              (part.normal, least (depth_of p.block) (depth_of b) part.depth next.1);
          tight = tight-put is_tight f.now b p.block ys plain part.plain on s.fits.tight;
        };
      } in
      let more = further-state most g b q rest ys s.done here plain others
      (fits-back n in_item is_tight f.now (b ∷ ys) s.fits) in
      record { done = more.done; fits = more.fits; some = more.some }
    where
      least : (a c : ℕ) → a ≤ c → c ≤ n → a ≤ n
      least a c g h = omega arith

      some : (xs : List Block) (x : Block) → is_none (xs ++ x ∷ []) ≡ false
      some [] x = refl
      some (y ∷ xs) x = refl

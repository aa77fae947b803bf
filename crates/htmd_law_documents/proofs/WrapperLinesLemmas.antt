-- What stands around the characters of a line: of an inline after others all wrappers are kept.
use Rattle.std.proofs.Common.{◌≡◌, ℕ, zero, suc, ◌≤◌, true, false, List, [], ◌∷◌, ◌++◌, length, map, take}
use Rattle.std.proofs.Common.{refl, sym, ◌∙◌, ap, arith, append_assoc, subst}
use Rattle.std.specs.Str.{IsUtf8}
use Rattle.std.proofs.lemmas.List.{append-nil}
use Rattle.std.proofs.lemmas.Str.{IsUtf8-append}
use Rattle.htmd_document.specs.Documents.{Inline, text, code, image, line_break, task, link, Inlines, no_inlines}
use Rattle.htmd_document.specs.Documents.{anchor}
use Rattle.htmd_document.specs.Documents.{inline}
use Rattle.htmd_document.specs.Documents as value
use Rattle.htmd_flow.specs.Nesting.{wrapped_by, wrapped, one_inline, met, joined, in_last, behind}
use Rattle.htmd_flow.specs.NestViews.{followed}
use Rattle.htmd_flow.specs.Parts.{Around, formatted, linked}
use Rattle.htmd_flow.proofs.NestingLemmas.{joined-apart, apart-wrapped, in_last-followed}
use Rattle.htmd_flow.proofs.NestingLemmas.{with_content-wrapped}
use Rattle.htmd_law_documents.proofs.Readers.{Reader, read_inline, read_line, read_around}

-- ---- texts

abbrev mutual
  -- all of its texts are UTF-8
  pub IsTextInline : Inline → Type 0
  IsTextInline (text s) = IsUtf8 s
  IsTextInline (code s) = IsUtf8 s
  IsTextInline (value.formatted format content) = AreTextInlines content
  IsTextInline (link address title content) = AreTextInlines content
  IsTextInline (image address title description) = IsUtf8 description
  IsTextInline (anchor id) = Unit {0}
  IsTextInline line_break = Unit {0}
  IsTextInline (task is_checked) = Unit {0}

  pub AreTextInlines : Inlines → Type 0
  AreTextInlines no_inlines = Unit {0}
  AreTextInlines (inline x xs) = IsTextInline x × AreTextInlines xs

module _ (R : Reader) where
  -- ---- inlines after others

  pub one-wrappers : (wrappers : List R.Wrap) (x : Inline) → read_line R wrappers (one_inline x)
      ≡ read_inline R wrappers x
  one-wrappers wrappers x = append-nil (read_inline R wrappers x)

  two-wrappers : (wrappers : List R.Wrap) (x y : Inline)
      → read_line R wrappers (inline x (one_inline y)) ≡ read_inline R wrappers x
      ++ read_inline R wrappers y
  two-wrappers wrappers x y = ap (λ t. read_inline R wrappers x ++ t) (one-wrappers wrappers y)

  met-wrappers : (wrappers : List R.Wrap) (x y : Inline) → IsTextInline x → IsTextInline y
      → read_line R wrappers (met x y) ≡ read_inline R wrappers x ++ read_inline R wrappers y
  met-wrappers wrappers (text s) (text t) u v = append-nil (R.read wrappers false (s ++ t))
      ∙ R.joins wrappers false s t u v
  met-wrappers wrappers (text s) (code t) u v = two-wrappers wrappers (text s) (code t)
  met-wrappers wrappers (text s) (value.formatted f xs) u v = two-wrappers wrappers (text s) (value.formatted f xs)
  met-wrappers wrappers (text s) (link a t xs) u v = two-wrappers wrappers (text s) (link a t xs)
  met-wrappers wrappers (text s) (image a t d) u v = two-wrappers wrappers (text s) (image a t d)
  met-wrappers wrappers (text s) (anchor i) u v = two-wrappers wrappers (text s) (anchor i)
  met-wrappers wrappers (text s) line_break u v = two-wrappers wrappers (text s) line_break
  met-wrappers wrappers (text s) (task b) u v = two-wrappers wrappers (text s) (task b)
  met-wrappers wrappers (code s) (text t) u v = two-wrappers wrappers (code s) (text t)
  met-wrappers wrappers (code s) (code t) u v = append-nil (R.read wrappers true (s ++ t))
      ∙ R.joins wrappers true s t u v
  met-wrappers wrappers (code s) (value.formatted f xs) u v = two-wrappers wrappers (code s) (value.formatted f xs)
  met-wrappers wrappers (code s) (link a t xs) u v = two-wrappers wrappers (code s) (link a t xs)
  met-wrappers wrappers (code s) (image a t d) u v = two-wrappers wrappers (code s) (image a t d)
  met-wrappers wrappers (code s) (anchor i) u v = two-wrappers wrappers (code s) (anchor i)
  met-wrappers wrappers (code s) line_break u v = two-wrappers wrappers (code s) line_break
  met-wrappers wrappers (code s) (task b) u v = two-wrappers wrappers (code s) (task b)
  met-wrappers wrappers (value.formatted f xs) y u v = two-wrappers wrappers (value.formatted f xs) y
  met-wrappers wrappers (link a t xs) y u v = two-wrappers wrappers (link a t xs) y
  met-wrappers wrappers (image a t d) y u v = two-wrappers wrappers (image a t d) y
  met-wrappers wrappers (anchor i) y u v = two-wrappers wrappers (anchor i) y
  met-wrappers wrappers line_break y u v = two-wrappers wrappers line_break y
  met-wrappers wrappers (task b) y u v = two-wrappers wrappers (task b) y

  met-texts : (x y : Inline) → IsTextInline x → IsTextInline y → AreTextInlines (met x y)
  met-texts (text s) (text t) u v = (IsUtf8-append s t u v, tt)
  met-texts (text s) (code t) u v = (u, (v, tt))
  met-texts (text s) (value.formatted f xs) u v = (u, (v, tt))
  met-texts (text s) (link a t xs) u v = (u, (v, tt))
  met-texts (text s) (image a t d) u v = (u, (v, tt))
  met-texts (text s) (anchor i) u v = (u, (v, tt))
  met-texts (text s) line_break u v = (u, (v, tt))
  met-texts (text s) (task b) u v = (u, (v, tt))
  met-texts (code s) (text t) u v = (u, (v, tt))
  met-texts (code s) (code t) u v = (IsUtf8-append s t u v, tt)
  met-texts (code s) (value.formatted f xs) u v = (u, (v, tt))
  met-texts (code s) (link a t xs) u v = (u, (v, tt))
  met-texts (code s) (image a t d) u v = (u, (v, tt))
  met-texts (code s) (anchor i) u v = (u, (v, tt))
  met-texts (code s) line_break u v = (u, (v, tt))
  met-texts (code s) (task b) u v = (u, (v, tt))
  met-texts (value.formatted f xs) y u v = (u, (v, tt))
  met-texts (link a t xs) y u v = (u, (v, tt))
  met-texts (image a t d) y u v = (u, (v, tt))
  met-texts (anchor i) y u v = (u, (v, tt))
  met-texts line_break y u v = (u, (v, tt))
  met-texts (task b) y u v = (u, (v, tt))

  joined-wrappers : (wrappers : List R.Wrap) (xs : Inlines) (y : Inline) → AreTextInlines xs → IsTextInline y
      → read_line R wrappers (joined xs y) ≡ read_line R wrappers xs ++ read_inline R wrappers y
  joined-wrappers wrappers no_inlines y u v = one-wrappers wrappers y
  joined-wrappers wrappers (inline x no_inlines) y u v =
      met-wrappers wrappers x y u.0 v ∙ ap (λ t. t ++ read_inline R wrappers y) (sym (one-wrappers wrappers x))
  joined-wrappers wrappers (inline x (inline x' xs)) y u v =
      ap (λ t. read_inline R wrappers x ++ t) (joined-wrappers wrappers (inline x' xs) y u.1 v)
      ∙ sym (append_assoc (read_inline R wrappers x) (read_line R wrappers (inline x' xs))
      (read_inline R wrappers y))

  joined-texts : (xs : Inlines) (y : Inline) → AreTextInlines xs → IsTextInline y → AreTextInlines (joined xs y)
  joined-texts no_inlines y u v = (v, tt)
  joined-texts (inline x no_inlines) y u v = met-texts x y u.0 v
  joined-texts (inline x (inline x' xs)) y u v = (u.0, joined-texts (inline x' xs) y u.1 v)

  followed-wrappers : (wrappers : List R.Wrap) (xs ys : Inlines)
      → read_line R wrappers (followed xs ys) ≡ read_line R wrappers xs ++ read_line R wrappers ys
  followed-wrappers wrappers no_inlines ys = refl
  followed-wrappers wrappers (inline x xs) ys =
      ap (λ t. read_inline R wrappers x ++ t) (followed-wrappers wrappers xs ys)
      ∙ sym (append_assoc (read_inline R wrappers x) (read_line R wrappers xs) (read_line R wrappers ys))

  followed-texts : (xs ys : Inlines) → AreTextInlines xs → AreTextInlines ys → AreTextInlines (followed xs ys)
  followed-texts no_inlines ys u v = v
  followed-texts (inline x xs) ys u v = (u.0, followed-texts xs ys u.1 v)

  first-texts : (xs ys : Inlines) → AreTextInlines (followed xs ys) → AreTextInlines xs
  first-texts no_inlines ys u = tt
  first-texts (inline x xs) ys u = (u.0, first-texts xs ys u.1)

  last-texts : (xs ys : Inlines) → AreTextInlines (followed xs ys) → AreTextInlines ys
  last-texts no_inlines ys u = u
  last-texts (inline x xs) ys u = last-texts xs ys u.1

  -- ---- formats and links

  around-wrappers : (wrappers : List R.Wrap) (a : Around) (xs : Inlines)
      → read_inline R wrappers (wrapped_by a xs) ≡ read_line R (wrappers ++ read_around R a ∷ []) xs
  around-wrappers wrappers (formatted f) xs = refl
  around-wrappers wrappers (linked n address title) xs = refl

  around-texts : (a : Around) (xs : Inlines) → AreTextInlines xs → IsTextInline (wrapped_by a xs)
  around-texts (formatted f) xs u = u
  around-texts (linked n address title) xs u = u

  inside-texts : (a : Around) (xs : Inlines) → IsTextInline (wrapped_by a xs) → AreTextInlines xs
  inside-texts (formatted f) xs u = u
  inside-texts (linked n address title) xs u = u

  wrapped-wrappers : (wrappers : List R.Wrap) (around : List Around) (y : Inline)
      → read_inline R wrappers (wrapped around y) ≡ read_inline R (wrappers ++ map (read_around R) around) y
  wrapped-wrappers wrappers [] y = ap (λ t. read_inline R t y) (sym (append-nil wrappers))
  wrapped-wrappers wrappers (a ∷ around) y =
      around-wrappers wrappers a (one_inline (wrapped around y))
      ∙ (one-wrappers (wrappers ++ read_around R a ∷ []) (wrapped around y)
      ∙ (wrapped-wrappers (wrappers ++ read_around R a ∷ []) around y
      ∙ ap (λ t. read_inline R t y) (append_assoc wrappers (read_around R a ∷ []) (map (read_around R) around))))

  wrapped-texts : (around : List Around) (y : Inline) → IsTextInline y → IsTextInline (wrapped around y)
  wrapped-texts [] y u = u
  wrapped-texts (a ∷ around) y u = around-texts a (one_inline (wrapped around y)) (wrapped-texts around y u, tt)

  -- ---- what is open

  -- the last inline bears the first of these wrappers, the last one in it the next, and so on
  abbrev pub Opens : List R.Wrap → Inlines → Type 0
  Opens [] xs = Unit {0}
  Opens (m ∷ wrappers) xs =
      (before : Inlines) × (a : Around) × (content : Inlines) ×
      (xs ≡ followed before (one_inline (wrapped_by a content)))
      × (read_around R a ≡ m) × Opens wrappers content

  pub opens-front : (n : ℕ) (wrappers : List R.Wrap) (xs : Inlines) → Opens wrappers xs
      → Opens (take n wrappers) xs
  opens-front zero wrappers xs o = tt
  opens-front (suc n) [] xs o = tt
  opens-front (suc n) (m ∷ wrappers) xs o = (o.0, o.1, o.2, o.3, o.4, opens-front n wrappers o.2 o.5)

  last-wrappers : (wrappers : List R.Wrap) (before : Inlines) (a : Around) (content : Inlines)
      → read_line R wrappers (followed before (one_inline (wrapped_by a content)))
      ≡ read_line R wrappers before ++ read_line R (wrappers ++ read_around R a ∷ []) content
  last-wrappers wrappers before a content =
      followed-wrappers wrappers before (one_inline (wrapped_by a content))
      ∙ ap (λ t. read_line R wrappers before ++ t) (one-wrappers wrappers (wrapped_by a content)
      ∙ around-wrappers wrappers a content)

  changed : (change : Inlines → Inlines) (before : Inlines) (a : Around) (content : Inlines)
      → in_last change (followed before (one_inline (wrapped_by a content)))
      ≡ followed before (one_inline (wrapped_by a (change content)))
  changed change before a content =
      in_last-followed change before (wrapped_by a content)
      ∙ ap (λ x. followed before (one_inline x)) (with_content-wrapped change a content)

  -- what an inline after others leaves
  pub record IsBehind (wrappers : List R.Wrap) (xs zs : Inlines) (around : List Around) (y : Inline) : Type 0 where
    pub says : read_line R wrappers zs ≡ read_line R wrappers xs
        ++ read_inline R (wrappers ++ map (read_around R) around) y
    pub texts : AreTextInlines zs
    pub opens : Opens (map (read_around R) around) zs

  wrapped-opens : (around : List Around) (y : Inline) → Opens (map (read_around R) around)
      (one_inline (wrapped around y))
  wrapped-opens [] y = tt
  wrapped-opens (a ∷ around) y = (no_inlines, a, one_inline (wrapped around y), refl, refl, wrapped-opens around y)

  joined-opens : (xs : Inlines) (around : List Around) (y : Inline)
      → Opens (map (read_around R) around) (joined xs (wrapped around y))
  joined-opens xs [] y = tt
  joined-opens xs (a ∷ around) y =
      let content : Inlines = one_inline (wrapped around y) in
      (xs, a, content, joined-apart xs (wrapped_by a content) (apart-wrapped a content), refl, wrapped-opens around y)

  pub behind-wrappers : (n : ℕ) (wrappers : List R.Wrap) (xs : Inlines) (around : List Around) (y : Inline)
      → n ≤ length around
      → Opens (take n (map (read_around R) around)) xs → AreTextInlines xs → IsTextInline y
      → IsBehind wrappers xs (behind n xs around y) around y
  behind-wrappers zero wrappers xs around y l o u v = record {
    says = joined-wrappers wrappers xs (wrapped around y) u (wrapped-texts around y v)
        ∙ ap (λ t. read_line R wrappers xs ++ t) (wrapped-wrappers wrappers around y);
    texts = joined-texts xs (wrapped around y) u (wrapped-texts around y v);
    opens = joined-opens xs around y;
  }
  behind-wrappers (suc n) wrappers xs [] y l o u v = absurd (omega arith)
  behind-wrappers (suc n) wrappers xs (a ∷ around) y l o u v =
      let change : Inlines → Inlines = λ ys. behind n ys around y in
      let whole : AreTextInlines (followed o.0 (one_inline (wrapped_by o.1 o.2))) = subst AreTextInlines o.3 u in
      let last = last-texts o.0 (one_inline (wrapped_by o.1 o.2)) whole in
      let inner : IsBehind (wrappers ++ read_around R o.1 ∷ []) o.2 (change o.2) around y =
      behind-wrappers n (wrappers ++ read_around R o.1
      ∷ []) o.2 around y (omega arith) o.5 (inside-texts o.1 o.2 last.0) v in
      let same : in_last change xs ≡ followed o.0 (one_inline (wrapped_by o.1 (change o.2))) =
      ap (in_last change) o.3 ∙ changed change o.0 o.1 o.2 in
      record {
        says = ap (read_line R wrappers) same
            ∙ (last-wrappers wrappers o.0 o.1 (change o.2)
            ∙ (ap (λ t. read_line R wrappers o.0 ++ t) inner.says
            ∙ (sym (append_assoc (read_line R wrappers o.0)
            (read_line R (wrappers ++ read_around R o.1 ∷ []) o.2)
            (read_inline R ((wrappers ++ read_around R o.1 ∷ []) ++ map (read_around R) around) y))
            ∙ (ap (λ t. t ++ read_inline R ((wrappers ++ read_around R o.1 ∷ []) ++ map (read_around R) around) y)
            (sym (ap (read_line R wrappers) o.3 ∙ last-wrappers wrappers o.0 o.1 o.2))
            ∙ ap (λ t. read_line R wrappers xs ++ read_inline R t y)
            (append_assoc wrappers (read_around R o.1 ∷ []) (map (read_around R) around)
            ∙ ap (λ m. wrappers ++ m ∷ map (read_around R) around) o.4)))));
        texts = subst AreTextInlines (sym same)
            (followed-texts o.0 (one_inline (wrapped_by o.1 (change o.2)))
            (first-texts o.0 (one_inline (wrapped_by o.1 o.2)) whole)
            (around-texts o.1 (change o.2) inner.texts, tt));
        opens = (o.0, o.1, change o.2, same, o.4, inner.opens);
      }

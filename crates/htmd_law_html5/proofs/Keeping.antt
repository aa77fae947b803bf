-- Steps on a state that leave its texts as they are.
use Rattle.std.proofs.Common.{◌≡◌, ◌∙◌, ℕ, zero, suc, ◌<◌, Bool, true, false, List, [], ◌∷◌, ◌++◌, length, get_or}
use Rattle.std.proofs.Common.{Option, refl, sym, ap, subst, arith, All, inl, inr, ◌⊎◌}
use Rattle.std.specs.Prelude.{if◌then◌else◌, IsUtf8, ◌==◌}
use Rattle.std.proofs.lemmas.Bool.{true≢false, eqb-true, cond_both}
use Rattle.std.proofs.lemmas.List.{length-map}
use Rattle.htmd_lexical.proofs.Cases.{test}
use Rattle.htmd_html5_state.specs.Names.{ElementNameValue}
use Rattle.htmd_html5_state.specs.Nodes.{KindValue, NodeValue, document}
use Rattle.htmd_html5_state.specs.OpenElements.{OpenValue, is_open_node}
use Rattle.htmd_html5_state.specs.Insertion.{opened}
use Rattle.htmd_html5_state.specs.State.{StateValue, on_stack}
use Rattle.htmd_html5_state.specs.Formatting.{is_listed, is_entry}
use Rattle.htmd_law_html5.proofs.NodeTexts.{kinds, texts, is_element, is_text, texts_new, element_before, kind_new}
use Rattle.htmd_law_html5.proofs.Forests.{IsForest}
use Rattle.htmd_law_html5.proofs.OpenNodes.{OpenIn, Fewer}

-- a node of these is an element
abbrev pub ElementAt : List KindValue → ℕ → Type 0
ElementAt ks n = is_element (get_or ks n document) ≡ true

-- the first node is there, and no element
abbrev pub IsRooted : List KindValue → Type 0
IsRooted [] = true ≡ false
IsRooted (k ∷ ks) = is_element k ≡ false

-- the numbers that a state holds: its `head`, those of the list of active formatting elements, and those that are open
pub data Held (n : ℕ) (head : Option ℕ) (entries : List (Option ℕ)) (stack : List OpenValue) : Type 0 where
  as_head : is_entry n head ≡ true → Held n head entries stack
  as_entry : is_listed n entries ≡ true → Held n head entries stack
  as_open : is_open_node n stack ≡ true → Held n head entries stack

-- the numbers that are held are those of elements, each text is UTF-8, and each node stands at one place at most
pub record SoundIn (nodes : List NodeValue) (head : Option ℕ) (entries : List (Option ℕ)) (stack : List OpenValue)
    : Type 0 where
  pub held : (n : ℕ) → Held n head entries stack → ElementAt (kinds nodes) n
  pub utf8 : All IsUtf8 (texts (kinds nodes))
  pub forest : IsForest nodes
  pub root : IsRooted (kinds nodes)

-- the texts are those that were there, and elements are elements still
pub record KeptIn (nodes new : List NodeValue) (head : Option ℕ) (entries : List (Option ℕ))
    (stack : List OpenValue)
    : Type 0 where
  pub same : texts (kinds new) ≡ texts (kinds nodes)
  pub stays : (n : ℕ) → ElementAt (kinds nodes) n → ElementAt (kinds new) n
  pub sound : SoundIn new head entries stack

abbrev pub Sound : StateValue → Type 0
Sound s = SoundIn s.nodes s.head s.formatting s.stack

abbrev pub Kept : StateValue → StateValue → Type 0
Kept s new = KeptIn s.nodes new.nodes new.head new.formatting new.stack

-- a step that leaves the texts as they are
pub record Keeps (f : StateValue → StateValue) : Type 0 where
  pub keeps : (s : StateValue) → Sound s → Kept s (f s)

-- ---- what is held

pub none_held : {n : ℕ} {head : Option ℕ} → Held n head [] [] → is_entry n head ≡ true
none_held (as_head e) = e
none_held (as_entry e) = absurd (true≢false (sym e))
none_held (as_open e) = absurd (true≢false (sym e))

-- what is listed and what is open is so there too
pub held_in : {n : ℕ} {head : Option ℕ} {entries : List (Option ℕ)} {stack : List OpenValue}
    (others : List (Option ℕ)) (more : List OpenValue)
    → (is_listed n entries ≡ true → is_listed n others ≡ true)
    → (is_open_node n stack ≡ true → is_open_node n more ≡ true) → Held n head entries stack
    → Held n head others more
held_in others more f g (as_head e) = as_head e
held_in others more f g (as_entry e) = as_entry (f e)
held_in others more f g (as_open e) = as_open (g e)

-- one more element is open
pub held_opened : {n : ℕ} {head : Option ℕ} {entries : List (Option ℕ)} (m : ℕ) (name : ElementNameValue)
    (stack : List OpenValue) → Held n head entries (opened m name ∷ stack) → (n ≡ m)
    ⊎ Held n head entries stack
held_opened {n} m name stack (as_head e) = inr (as_head e)
held_opened {n} m name stack (as_entry e) = inr (as_entry e)
held_opened {n} m name stack (as_open e) = test (m == n) (λ t. inl (sym (eqb-true m n t)))
    (λ t. inr (as_open (rw t at e)))

-- ---- steps put together

pub kept_same : {nodes : List NodeValue} {head : Option ℕ} {entries : List (Option ℕ)} {stack : List OpenValue}
    → SoundIn nodes head entries stack → KeptIn nodes nodes head entries stack
kept_same h = record { same = refl; stays = λ n e. e; sound = h }

pub kept_then : {nodes more new : List NodeValue} {head first : Option ℕ} {entries later : List (Option ℕ)}
    {stack inner : List OpenValue} → KeptIn nodes more head entries stack → KeptIn more new first later inner
    → KeptIn nodes new first later inner
kept_then a b = record { same = b.same ∙ a.same; stays = λ n e. b.stays n (a.stays n e); sound = b.sound }

pub after : {f g : StateValue → StateValue} → Keeps f → Keeps g → Keeps (λ s. f (g s))
after {f} {g} first second = record {
  keeps = λ s h. let a = second.keeps s h in kept_then a (first.keeps (g s) a.sound);
}

pub nothing : Keeps (λ s. s)
nothing = record { keeps = λ s h. kept_same h }

pub by_test : {f g : StateValue → StateValue} (b : StateValue → Bool) → Keeps f → Keeps g
    → Keeps (λ s. if b s then f s else g s)
by_test b first second =
    record { keeps = λ s h. cond_both (b s) _ _ (λ x. Kept s x) (λ t. first.keeps s h) (λ t. second.keeps s h) }

pub by_state : {A : Type 0} {f : A → StateValue → StateValue} (a : StateValue → A) → ((x : A) → Keeps (f x))
    → Keeps (λ s. f (a s) s)
by_state a h = record { keeps = λ s sound. (h (a s)).keeps s sound }

-- ---- what the nodes are stays

pub kept_kinds : {nodes new : List NodeValue} {head : Option ℕ} {entries : List (Option ℕ)} {stack : List OpenValue}
    → kinds new ≡ kinds nodes → IsForest new → SoundIn nodes head entries stack
    → KeptIn nodes new head entries stack
kept_kinds {nodes} {new} e f h = record {
  same = ap texts e;
  stays = λ n t. subst (λ (ks : List KindValue). ElementAt ks n) (sym e) t;
  sound = record {
    held = λ n l. subst (λ (ks : List KindValue). ElementAt ks n) (sym e) (h.held n l);
    utf8 = subst (λ (ks : List KindValue). All IsUtf8 (texts ks)) (sym e) h.utf8;
    forest = f;
    root = subst IsRooted (sym e) h.root;
  };
}

-- other numbers are held, of elements too
pub sound_held : {nodes : List NodeValue} {head first : Option ℕ} {entries later : List (Option ℕ)}
    {stack inner : List OpenValue} → ((n : ℕ) → Held n first later inner → ElementAt (kinds nodes) n)
    → SoundIn nodes head entries stack → SoundIn nodes first later inner
sound_held f h = record { held = f; utf8 = h.utf8; forest = h.forest; root = h.root }

-- what isn't nodes nor holds numbers counts for nothing
pub untouched : {f : StateValue → StateValue} → ((s : StateValue) → (f s).nodes ≡ s.nodes)
    → ((s : StateValue) (n : ℕ) → Held n (f s).head (f s).formatting (f s).stack
    → Held n s.head s.formatting s.stack) → Keeps f
untouched {f} e fewer = record {
  keeps = λ s h. subst (λ (x : List NodeValue). KeptIn s.nodes x (f s).head (f s).formatting (f s).stack) (sym (e s))
      (kept_same (sound_held (λ n l. h.held n (fewer s n l)) h));
}

pub sound_open : {nodes : List NodeValue} {head : Option ℕ} {entries : List (Option ℕ)} {stack : List OpenValue}
    (es : List OpenValue) → OpenIn es stack → SoundIn nodes head entries stack → SoundIn nodes head entries es
sound_open {nodes} {head} {entries} {stack} es fewer h =
    sound_held (λ n l. h.held n (held_in entries stack (λ e. e) (fewer n) l)) h

pub on_stack_keeps : (f : List OpenValue → List OpenValue) → ((stack : List OpenValue) → Fewer (f stack) stack)
    → Keeps (on_stack f)
on_stack_keeps f fewer = record { keeps = λ s h. kept_same (sound_open (f s.stack) (fewer s.stack).opened h) }

-- ---- a node more, which is no text

-- a number is that of a new node, which is an element, or it is an element's
abbrev pub IsElement : List NodeValue → KindValue → ℕ → Type 0
IsElement nodes k n = ((n ≡ length nodes) × (is_element k ≡ true)) ⊎ ElementAt (kinds nodes) n

pub rooted_new : (ks : List KindValue) (k : KindValue) → IsRooted ks → IsRooted (ks ++ k ∷ [])
rooted_new [] k r = absurd (true≢false r)
rooted_new (x ∷ ks) k r = r

pub new_element : (nodes : List NodeValue) (k : KindValue) (n : ℕ) → n ≡ length nodes → is_element k ≡ true
    → ElementAt (kinds nodes ++ k ∷ []) n
new_element nodes k n e t =
    subst (λ (m : ℕ). ElementAt (kinds nodes ++ k ∷ []) m) (length-map nodes _ ∙ sym e)
    (ap is_element (kind_new (kinds nodes) k) ∙ t)

pub kept_new : {nodes new : List NodeValue} {head first : Option ℕ} {entries later : List (Option ℕ)}
    {stack inner : List OpenValue} (k : KindValue) → kinds new ≡ kinds nodes ++ k ∷ [] → is_text k ≡ false
    → IsForest new → SoundIn nodes head entries stack
    → ((n : ℕ) → Held n first later inner → IsElement nodes k n) → KeptIn nodes new first later inner
kept_new {nodes} {new} k e t f h elements = record {
  same = ap texts e ∙ texts_new (kinds nodes) k t;
  stays = λ n a. subst (λ (ks : List KindValue). ElementAt ks n) (sym e) (element_before (kinds nodes) k n a);
  sound = record {
    held = λ n l. subst (λ (ks : List KindValue). ElementAt ks n) (sym e) (here n (elements n l));
    utf8 = subst (λ (ks : List KindValue). All IsUtf8 (texts ks)) (sym e)
        (subst (All IsUtf8) (sym (texts_new (kinds nodes) k t)) h.utf8);
    forest = f;
    root = subst IsRooted (sym e) (rooted_new (kinds nodes) k h.root);
  };
}
  where
    here : (n : ℕ) → IsElement nodes k n → ElementAt (kinds nodes ++ k ∷ []) n
    here n (inl p) = new_element nodes k n p.0 p.1
    here n (inr a) = element_before (kinds nodes) k n a

-- an element's number is that of a node
pub element_within : (nodes : List NodeValue) (n : ℕ) → ElementAt (kinds nodes) n → n < length nodes
element_within [] n e = absurd (true≢false (sym e))
element_within (x ∷ nodes) zero e = omega arith
element_within (x ∷ nodes) (suc n) e = let h = element_within nodes n e in omega arith

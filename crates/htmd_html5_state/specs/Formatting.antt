-- The list of active formatting elements (HTML Standard, 13.2.4.3), newest first.
use Rattle.std.specs.Prelude.{ℕ, Bool, true, false, ◌==◌, nat_le, if◌then◌else◌, List, [], ◌∷◌, length, filter}
use Rattle.std.specs.Prelude.{Option, Some, None}
use Rattle.htmd_lexical.specs.AttributePairs.{AttributePair}
use Rattle.htmd_html5_state.specs.Names.{NameValue}
use Rattle.htmd_html5_state.specs.Nodes.{NodeValue, KindValue, element, kind_at, same_element}
use Rattle.htmd_html5_state.specs.OpenElements.{OpenValue, is_open_node}
use Rattle.htmd_html5_state.specs.State.{StateValue, on_formatting}
use Rattle.htmd_html5_state.specs.Insertion.{insert_element, insert_named}

-- ---- the list

-- the elements after the last marker
abbrev pub since_marker : List (Option ℕ) → List ℕ
since_marker [] = []
since_marker (None ∷ entries) = []
since_marker (Some n ∷ entries) = n ∷ since_marker entries

abbrev pub push_marker : StateValue → StateValue
push_marker s = on_formatting (λ entries. None ∷ entries) s

-- up to the last marker, with it
abbrev pub after_marker : List (Option ℕ) → List (Option ℕ)
after_marker [] = []
after_marker (None ∷ entries) = entries
after_marker (Some n ∷ entries) = after_marker entries

abbrev pub clear_to_marker : StateValue → StateValue
clear_to_marker s = on_formatting after_marker s

abbrev pub is_entry : ℕ → Option ℕ → Bool
is_entry n None = false
is_entry n (Some m) = m == n

abbrev pub is_listed : ℕ → List (Option ℕ) → Bool
is_listed n [] = false
is_listed n (e ∷ entries) = if is_entry n e then true else is_listed n entries

abbrev pub without_entry : ℕ → List (Option ℕ) → List (Option ℕ)
without_entry n [] = []
without_entry n (e ∷ entries) = if is_entry n e then entries else e ∷ without_entry n entries

-- an element for another
abbrev pub replace_entry : ℕ → ℕ → List (Option ℕ) → List (Option ℕ)
replace_entry n by [] = []
replace_entry n by (e ∷ entries) = if is_entry n e then Some by ∷ entries else e ∷ replace_entry n by entries

-- an element right after another, that is: the next newer
abbrev pub insert_after : ℕ → ℕ → List (Option ℕ) → List (Option ℕ)
insert_after n new [] = []
insert_after n new (e ∷ entries) =
    if is_entry n e then Some new ∷ e ∷ entries else e ∷ insert_after n new entries

-- ---- an element is put on the list

abbrev pub last_of : List ℕ → Option ℕ
last_of [] = None
last_of (n ∷ []) = Some n
last_of (n ∷ m ∷ ns) = last_of (m ∷ ns)

-- the oldest of these, if there are this many
abbrev pub one_too_many : ℕ → List ℕ → Option ℕ
one_too_many limit nodes = if nat_le limit (length nodes) then last_of nodes else None

abbrev pub without_some : Option ℕ → List (Option ℕ) → List (Option ℕ)
without_some None entries = entries
without_some (Some n) entries = without_entry n entries

-- three of the same name and attributes at most: the Noah's Ark clause
abbrev pub alike_limit : ℕ
alike_limit = 3

-- at most this many elements after the last marker: not in the standard, it bounds what a page costs
abbrev pub formatting_limit : ℕ
formatting_limit = 16

abbrev pub is_alike : List NodeValue → KindValue → ℕ → Bool
is_alike nodes kind n = same_element (kind_at nodes n) kind

abbrev pub with_room_for : List NodeValue → KindValue → List (Option ℕ) → List (Option ℕ)
with_room_for nodes kind entries =
    without_some (one_too_many alike_limit (filter (is_alike nodes kind) (since_marker entries))) entries

abbrev pub with_room : List (Option ℕ) → List (Option ℕ)
with_room entries = without_some (one_too_many formatting_limit (since_marker entries)) entries

abbrev pub push_entry : List NodeValue → ℕ → List (Option ℕ) → List (Option ℕ)
push_entry nodes n entries = Some n ∷ with_room (with_room_for nodes (kind_at nodes n) entries)

abbrev pub push_formatting : ℕ → StateValue → StateValue
push_formatting n s = on_formatting (push_entry s.nodes n) s

abbrev pub insert_formatting : NameValue → List AttributePair → StateValue → StateValue
insert_formatting name attributes s = push_formatting (length s.nodes) (insert_element name attributes s)

-- ---- elements are reconstructed

-- the newest elements, up to a marker or an element that is open
abbrev pub closed_elements : List OpenValue → List (Option ℕ) → List ℕ
closed_elements stack [] = []
closed_elements stack (None ∷ entries) = []
closed_elements stack (Some n ∷ entries) = if is_open_node n stack then [] else n ∷ closed_elements stack entries

abbrev pub after_closed : List OpenValue → List (Option ℕ) → List (Option ℕ)
after_closed stack [] = []
after_closed stack (None ∷ entries) = None ∷ entries
after_closed stack (Some n ∷ entries) =
    if is_open_node n stack then Some n ∷ entries else after_closed stack entries

-- an element like this one
abbrev pub insert_like : KindValue → StateValue → StateValue
insert_like (element name attributes) s = insert_named name attributes s
insert_like _ s = s

abbrev pub insert_copy : ℕ → StateValue → StateValue
insert_copy n s = insert_like (kind_at s.nodes n) s

abbrev pub reopen : ℕ → StateValue → StateValue
reopen n s = on_formatting (λ entries. Some (length s.nodes) ∷ entries) (insert_copy n s)

-- the last of these first
abbrev pub reopen_all : List ℕ → StateValue → StateValue
reopen_all [] s = s
reopen_all (n ∷ ns) s = reopen n (reopen_all ns s)

abbrev pub reconstruct : StateValue → StateValue
reconstruct s = reopen_all (closed_elements s.stack s.formatting) (on_formatting (after_closed s.stack) s)

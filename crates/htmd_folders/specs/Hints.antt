-- Names under which there is nothing, by which something else was meant.
use Rattle.std.specs.Prelude.{ℕ, Bool, not, ◌&&◌, ◌||◌, ◌==◌, nat_eq, List, length, codes}
use Rattle.std.specs.Char.{is_ascii_digit}
use Rattle.std.specs.List.{list_all, starts_with}

-- a name that begins as the address of a page of the web
abbrev pub is_address : List ℕ → Bool
is_address name = starts_with nat_eq name (codes "http://") || starts_with nat_eq name (codes "https://")

-- a name of digits alone
abbrev pub is_number : List ℕ → Bool
is_number name = not (length name == 0) && list_all is_ascii_digit name

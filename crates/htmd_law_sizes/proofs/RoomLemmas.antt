-- How many bytes there are for what is written of a part of a document.
use Rattle.std.proofs.Common.{◌≡◌, ℕ, suc, ◌+◌, ◌*◌, ◌≤◌, mul-suc, mul-add, add-mul, mul-le-mul_right, mul-le-mul_left}
use Rattle.std.proofs.Common.{mul_left_comm, arith}

-- 181 for each unit of its size, and 4 more for each byte before a line
abbrev pub room : ℕ → ℕ → ℕ
room g n = 181 * n + 4 * (g * n)

pub room_suc : (g n : ℕ) → room g (suc n) ≡ 181 + 4 * g + room g n
room_suc g n = omega (arith, mul-suc g n)

pub room_add : (g m n : ℕ) → room g (m + n) ≡ room g m + room g n
room_add g m n = omega (arith, mul-add g m n)

-- room for w bytes more before each of four lines for each unit
pub room_wider : (w g n : ℕ) → room g n + w * (4 * n) ≡ room (w + g) n
room_wider w g n = omega (arith, add-mul w g n, mul_left_comm w 4 n)

pub room_grows : (g h n : ℕ) → g ≤ h → room g n ≤ room h n
room_grows g h n i = omega (arith, mul-le-mul_right n i)

-- ---- the room of a list's item, of a quote, of one thing and then another

-- a text and w bytes before each of its lines
pub room_indented : (w g h n a f : ℕ) → w + g ≤ h → a ≤ room g n → f ≤ 4 * n
    → a + w + w * f + 2 ≤ room h (suc n)
room_indented w g h n a f i j k =
    let x : w * f ≤ w * (4 * n) = mul-le-mul_left w k in
    omega (arith, x, room_wider w g n, room_grows (w + g) h n i, room_suc h n, i, j)

-- The seeded source: a 64-bit number, mixed by three shifts.
use Rattle.std.specs.Prelude.{◌≡◌, ℕ, ◌*◌, ◌/◌, ◌%◌, ◌^◌, bit_xor}
use Rattle.draw.specs.Source.{Source, Fair, modulo, modulo_fair}

-- s xor s shifted left by k, kept to 64 bits
abbrev pub shift_left : ℕ → ℕ → ℕ
shift_left k s = bit_xor s ((s * 2 ^ k) % 2 ^ 64)

-- s xor s shifted right by k
abbrev pub shift_right : ℕ → ℕ → ℕ
shift_right k s = bit_xor s (s / 2 ^ k)

-- the next state
abbrev pub xorshift : ℕ → ℕ
xorshift s = shift_left 17 (shift_right 7 (shift_left 13 s))

-- each draw answers the next state modulo n
abbrev pub seeded : Source
seeded = modulo xorshift xorshift

pub seeded_fair : Fair seeded
seeded_fair = modulo_fair xorshift xorshift

-- seeded with 1 and asked for 10, the state is 1082269761 and the answer 1
abbrev pub SeedOne : Type 0
SeedOne = (seeded.after 1 10 ≡ 1082269761) × (seeded.drawn 1 10 ≡ 1)

-- A xorshift generator of 64 bits: its state, and the numbers that are taken from it.
use Rattle.std.specs.Prelude.{ℕ, ◌*◌, ◌/◌, ◌%◌, ◌^◌, bit_xor}

-- the state after the next step
abbrev pub next_state : ℕ → ℕ
next_state x =
    let a = bit_xor x ((x * 2 ^ 13) % 2 ^ 64) in
    let b = bit_xor a (a / 2 ^ 7) in
    bit_xor b ((b * 2 ^ 17) % 2 ^ 64)

-- the number that a state gives: its high 32 bits
abbrev pub number_of : ℕ → ℕ
number_of x = x / 2 ^ 32

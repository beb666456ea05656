-- The numbers that a generated run draws, and the body that each of them stands for.
use Rattle.std.specs.Prelude.{ℕ, ◌+◌, ◌*◌, ◌/◌, ◌%◌, ◌^◌, List, replicate}

-- the number before the first draw
abbrev pub first_number : (seed : ℕ) → ℕ
first_number seed = seed % 2 ^ 31

-- the next draw
abbrev pub next_number : ℕ → ℕ
next_number x = (x * 1103515245 + 12345) % 2 ^ 31

-- how long its body is, below 2,048 bytes
abbrev pub body_length : ℕ → ℕ
body_length x = x / 65536 % 2048

-- the byte that its body repeats
abbrev pub body_byte : ℕ → ℕ
body_byte x = x % 256

abbrev pub drawn_body : ℕ → List ℕ
drawn_body x = replicate (body_length x) (body_byte x)

-- What a header or a prepare that is shown says of the head that is found: nothing, where it is of a group that was cut off there.
use Rattle.std.specs.Prelude.{◌==◌, ◌+◌, nat_lt, ℕ, Bool, ◌&&◌, if◌then◌else◌}
use Rattle.df_theory.specs.Units.{Header}
use Rattle.df_units.specs.Greatest.{in_boot}

-- a prepare of a group of several that begins right above this op: it was cut off there, and says nothing of the head
abbrev pub is_cut_off : ℕ → Header → Bool
is_cut_off top h = nat_lt 0 h.boot && ((h.group == top + 1) && (nat_lt h.group h.group_last && nat_lt top h.op))

-- the op of a prepare that binds the head, where it may be this one: 0 of one that was cut off, and of one of another boot
abbrev pub binding_op : ℕ → ℕ → Header → ℕ
binding_op boot top h = if is_cut_off top h then 0 else in_boot boot (λ x. x.op) h

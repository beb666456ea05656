-- The line that says which words have a meaning.
use Rattle.std.specs.Prelude.{ℕ, List, codes}

unfoldable pub usage : List ℕ
usage = codes "usage: format LAYOUT CLUSTER | run | recover | inspect | scrub | workload SEED COUNT | upgrade | paced SCRUB EVERY STEPS\n"

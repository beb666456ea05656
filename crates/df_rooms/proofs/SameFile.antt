-- A file is its layout, its cluster and its version.
use Rattle.std.proofs.{Common.{◌≡◌, ℕ, ◌<◌, ap, subst}, Math.Bridge.{le_prop}, Math.Nat.{ℕ_set}}
use Rattle.{df_layout.specs.declared.layout.Layout.{Layout}, df_rooms.specs.declared.file.DataFile.{DataFile}}

of_three : (n : Layout × ℕ × ℕ) → 0 < n.1 → DataFile
of_three n named = record { layout = n.0; cluster = n.1; version = n.2; named = named }

named_prop : (n : Layout × ℕ × ℕ) → IsProp (0 < n.1)
named_prop n = hlevel (le_prop, ℕ_set)

same_of_three : (n m : Layout × ℕ × ℕ) → n ≡ m → (x : 0 < n.1) (y : 0 < m.1) → of_three n x ≡ of_three m y
same_of_three n m e x = subst (λ (k : Layout × ℕ × ℕ). (y : 0 < k.1) → of_three n x ≡ of_three k y) e (λ y. ap (of_three n) (named_prop n x y))

same_three : (a b : Layout) (c d v w : ℕ) → a ≡ b → c ≡ d → v ≡ w → let x : Layout × ℕ × ℕ = (a, c, v) in x ≡ (b, d, w)
same_three a b c d v w one two three = cc (one, two, three)

pub same_file : (a b : DataFile) → a.layout ≡ b.layout → a.cluster ≡ b.cluster → a.version ≡ b.version → a ≡ b
unfolding of_three
same_file a b one two three = same_of_three (a.layout, a.cluster, a.version)
    (b.layout, b.cluster, b.version) (same_three a.layout b.layout a.cluster b.cluster a.version b.version one two three) a.named b.named

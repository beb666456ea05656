-- Referenced blocks stand through a command that reaches none of them.
use Rattle.std.proofs.Common.{◌≡◌, ◌<◌, inl, inr, ℕ, List, [], ◌∷◌, false, Option, Some, None, refl}
use Rattle.df_theory.{specs.{Units.{AnyUnit, Block, BlockPlace, BlockUnit, HeaderPlace, Place, Units}, Shape.{Shape}, View.{Checkpoint, View}, Holds.{Stands}, UnitLog.{PutsOne, UnitLog, loose, now}, Chance.{EachLeft}, Rests.{IsGoodLog}, Runs.{AtEach, Command, Leads, Puts, Step, Syncs, after_step, after_steps}, WholeLaws.{AllSpare, IsStanding, Spares}, TidyLaws.{IsGoodWhole, KeepsStanding}}, proofs.Keeps.{stands_law}}

pub miss : (put : Units) (place other : Place) (x : AnyUnit) → PutsOne put place x → (other ≡ place → ⊥) → put other ≡ None
miss put place other x one away = go (put other) refl
  where
    go : (o : Option AnyUnit) → put other ≡ o → put other ≡ None
    go None none = none
    go (Some y) some = absurd (away (one.only other y some).0)

-- a write of one unit that is no block
pub spares_one : (v : View) (put : Units) (place : Place) (x : AnyUnit)
    → PutsOne put place x → ((a : ℕ) → BlockPlace a ≡ place → ⊥) → Spares v put
spares_one v put place x one away a c is = miss put place (BlockPlace a) x one (away a)

-- a write of headers
pub spares_headers : (v : View) (put : Units)
    → ((place : Place) (y : AnyUnit) → put place ≡ Some y → (s : ℕ) × (place ≡ HeaderPlace s)) → Spares v put
spares_headers v put each a c is = go (put (BlockPlace a)) refl
  where
    go : (o : Option AnyUnit) → put (BlockPlace a) ≡ o → put (BlockPlace a) ≡ None
    go None none = none
    go (Some y) some = absurd (let at = (each (BlockPlace a) y some).1 in cc)

-- both of two facts at each moment
each_both : (P Q R : UnitLog → Type 0)
    → ((l : UnitLog) → P l → Q l → R l) → (ss : List Step) (log : UnitLog) → AtEach P log ss → AtEach Q log ss → AtEach R log ss
each_both P Q R both [] log one two = both log one two
each_both P Q R both (s ∷ ss) log one two = (both log one.0 two.0, each_both P Q R both ss (after_step s log) one.1 two.1)

-- where the blocks of both views stand, each image left shows those of the one that it holds
good_whole : (sh : Shape) (v u : View) (l : UnitLog)
    → IsGoodLog sh v u l → EachLeft l (λ image. Stands image v) → EachLeft l (λ image. Stands image u) → IsGoodWhole sh v u l
good_whole sh v u l good before after = record {
  safe = good.safe;
  left = λ image left chance. elim (good.left
      image left chance) [ inl holds ↦ inl (holds, before image left chance) | inr holds ↦ inr (holds, after image left chance) ];
}

-- steps that reach no block that either view references
pub standing_all : (sh : Shape) (log : UnitLog) (v u : View) (ss : List Step) → AtEach (IsGoodLog sh v u) log ss
    → IsStanding log v → AllSpare v ss → IsStanding log u → AllSpare u ss → AtEach (IsGoodWhole sh v u) log ss
standing_all sh log v u ss moments old spare_old new spare_new = each_both (IsGoodLog sh v u) (λ l.
    (IsStanding l v × EachLeft l (λ image. Stands image v)) × (IsStanding l u × EachLeft l (λ image. Stands image u))) (IsGoodWhole sh v u)
    (λ l good both. good_whole sh v u l good both.0.1 both.1.1) ss log moments
    (each_both (λ l. IsStanding l v × EachLeft l (λ image. Stands image v)) (λ l. IsStanding l u × EachLeft l (λ image. Stands image u))
    (λ l. (IsStanding l v × EachLeft l (λ image. Stands image v)) × (IsStanding l u × EachLeft l (λ image. Stands image u)))
    (λ l one two. (one, two)) ss log (stands_law log v ss old spare_old) (stands_law log u ss new spare_new))

-- what stands at the end
pub standing_after : (log : UnitLog) (v : View) (ss : List Step) → IsStanding log v → AllSpare v ss → IsStanding (after_steps ss log) v
standing_after log v ss standing spare = last ss log (stands_law log v ss standing spare)
  where
    last : (ts : List Step) (l : UnitLog)
        → AtEach (λ k. IsStanding k v × EachLeft k (λ image. Stands image v)) l ts → IsStanding (after_steps ts l) v
    last [] l each = each.0
    last (t ∷ ts) l each = last ts (after_step t l) each.1

-- a view with the same checkpoint references the same
same_standing : (log : UnitLog) (v u : View) → v.checkpoint ≡ u.checkpoint → IsStanding log v → IsStanding log u
same_standing log v u same standing = record {
  shown = rw same at standing.shown;
  firm = rw same at standing.firm;
}

same_spare : (v u : View) (ss : List Step) → v.checkpoint ≡ u.checkpoint → AllSpare v ss → AllSpare u ss
same_spare v u [] same spare = tt
same_spare v u ((Puts put) ∷ ss) same spare = (rw same at spare.0, same_spare v u ss same spare.1)
same_spare v u (Syncs ∷ ss) same spare = same_spare v u ss same spare

-- a command that keeps the checkpoint, and spares what it references
pub keeps_standing : (sh : Shape) (log : UnitLog) (v : View) (c : Command)
    → v.checkpoint ≡ c.view.checkpoint → Leads sh log v c → AllSpare v c.steps → IsStanding log v → KeepsStanding sh log v c
keeps_standing sh log v c same leads spare standing = let new = same_standing log v c.view same standing in
    let spare_new = same_spare v c.view c.steps same spare in
    record { moments = standing_all sh log v c.view c.steps leads.moments standing spare new spare_new; standing = standing_after log c.view c.steps new spare_new }
